use Rattle.std.proofs.Common.{◌≡◌, Bool, true, false, sym, ◌∙◌}
use Rattle.pks_terms.specs.Databases.{Five}
use Rattle.pks_terms.specs.Aims.{moments}
use Rattle.pks_terms.specs.Views.{query_of, signature_of}
use Rattle.pks_laws_forget.specs.Fewer.{is_held}
use Rattle.pks_query_lookup.specs.Fives.{five_of}
use Rattle.pks_past.proofs.Moments.{any_after, some_is}
use Rattle.pks_search.proofs.fewer.is_held_once.Goals as goal

pub returns-then-is_held : goal.returns-then-is_held
returns-then-is_held c =
    let f : Five → Bool = λ d. is_held (signature_of c.args.s.now) d (query_of c.args.q.now) in
    let so : f (five_of c.at.result.now) ≡ true = cc (c.is_held.ensures) in
    sym (some_is f (moments c.args.h.now) c.loop-moment.moment (five_of c.at.result.now) c.at.ensures so) ∙ c.loop-moment.invariant

pub loop-moment-preserved : goal.loop-moment-preserved
loop-moment-preserved c =
    let f : Five → Bool = λ d. is_held (signature_of c.args.s.now) d (query_of c.args.q.now) in
    let no : f (five_of c.at.result.now) ≡ false = cc (c.is_held.ensures) in
    any_after f (moments c.args.h.now) c.loop-moment.moment (five_of c.at.result.now) c.at.ensures no ∙ c.loop-moment.invariant
