use Rattle.std.proofs.Common.{◌≡◌, Bool, true, false, sym, ◌∙◌}
use Rattle.pks_terms.specs.Databases.{Five}
use Rattle.pks_terms.specs.Aims.{moments}
use Rattle.pks_terms.specs.Queries.{answers}
use Rattle.pks_terms.specs.Views.{query_of, signature_of}
use Rattle.pks_query_lookup.specs.Fives.{five_of}
use Rattle.pks_past.proofs.Moments.{all_after, not_all}
use Rattle.pks_past.proofs.meeting.is_always.Goals as goal

pub returns-then-not-answers : goal.returns-then-not-answers
returns-then-not-answers c =
    let f : Five → Bool = λ d. answers (signature_of c.args.s.now) d (query_of c.args.q.now) in
    let no : f (five_of c.at.result.now) ≡ false = cc (c.answers.ensures.tells) in
    sym (not_all f (moments c.args.h.now) c.loop-moment.moment (five_of c.at.result.now) c.at.ensures no) ∙ c.loop-moment.invariant

pub loop-moment-preserved : goal.loop-moment-preserved
loop-moment-preserved c =
    let f : Five → Bool = λ d. answers (signature_of c.args.s.now) d (query_of c.args.q.now) in
    let so : f (five_of c.at.result.now) ≡ true = cc (c.answers.ensures.tells) in
    all_after f (moments c.args.h.now) c.loop-moment.moment (five_of c.at.result.now) c.at.ensures so ∙ c.loop-moment.invariant
