use Rattle.std.proofs.Common.{◌≡◌, ◌+◌, ◌≤◌, drop, length}
use Rattle.pks_terms.specs.Signatures.{fits_type, objects_from}
use Rattle.pks_terms.specs.Reasons.{others_ruled_out}
use Rattle.pks_terms.specs.Views.{term_of, types_of, signature_of}
use Rattle.pks_proof_cited.specs.CitedViews.{judge_of}
use Rattle.pks_proof_cited.proofs.evident.are_ruled_out.Given as goal

abbrev pub invariant-loop-own : goal.invariant-loop-own
invariant-loop-own l =
    (l.at + length (drop l.own-index l.owns) ≤ 65536)
    × (others_ruled_out (judge_of l.c) l.c.moment (term_of l.t) l.d.0 (objects_from (λ own. fits_type (signature_of l.s) own l.of.0) l.at (types_of (drop l.own-index l.owns)))
    ≡ others_ruled_out (judge_of l.c) l.c.moment (term_of l.t) l.d.0 (objects_from (λ own. fits_type (signature_of l.s) own l.of.0) 0 (types_of l.owns)))
