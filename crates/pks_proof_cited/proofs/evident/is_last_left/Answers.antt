use Rattle.std.proofs.Common.{◌≡◌, ◌&&◌, ◌==◌, [], ap, subst}
use Rattle.std.specs.List.{list_any}
use Rattle.std.specs.Option.{option_map_or}
use Rattle.pks_terms.specs.Signatures.{fits_type, objects_from, objects_of}
use Rattle.pks_terms.specs.Reasons.{others_ruled_out}
use Rattle.pks_terms.specs.Views.{term_of, types_of, signature_of}
use Rattle.pks_proof_cited.specs.CitedViews.{judge_of}
use Rattle.pks_proof_cited.proofs.Ranging.{left_then, left_else}
use Rattle.pks_proof_cited.proofs.evident.is_last_left.Goals as goal

pub returns-then-object_is_of : goal.returns-then-object_is_of
returns-then-object_is_of c =
    let s = signature_of c.args.s.now in
    let rest = others_ruled_out (judge_of c.args.c.now) c.args.c.now.moment (term_of c.args.t.now) c.args.d.0 in
    let r : c.are_ruled_out.result ≡ rest (objects_of s c.in-Some.of.0) =
    unfold objects_of in subst (λ owns. c.are_ruled_out.result ≡ rest (objects_from (λ own. fits_type s own c.in-Some.of.0) 0 (types_of owns))) c.as_slice.ensures c.are_ruled_out.ensures in
    subst (λ os. c.are_ruled_out.result ≡ (list_any (λ e. e == c.args.d.0) os && rest os)) (ap (λ o. option_map_or (objects_of s) o []) c.in-Some.ensures)
    (left_then s c.in-Some.of.0 c.args.d.0 rest c.object_is_of.result c.are_ruled_out.result c.object_is_of.ensures c.if-object_is_of.true r)

pub returns-else-object_is_of : goal.returns-else-object_is_of
returns-else-object_is_of c =
    let s = signature_of c.args.s.now in
    let rest = others_ruled_out (judge_of c.args.c.now) c.args.c.now.moment (term_of c.args.t.now) c.args.d.0 in
    subst (λ os. c.object_is_of.result ≡ (list_any (λ e. e == c.args.d.0) os && rest os)) (ap (λ o. option_map_or (objects_of s) o []) c.in-Some.ensures)
    (left_else s c.in-Some.of.0 c.args.d.0 rest c.object_is_of.result c.object_is_of.ensures c.if-object_is_of.false)
