use Rattle.std.proofs.Common.{refl}
use Rattle.pks_terms.specs.Views.{term_of}
use Rattle.pks_terms.proofs.ListLaws.{in_map}
use Rattle.pks_query_closing.proofs.Growing.{found_in}
use Rattle.pks_query_closing.proofs.carrying.Carrying.first_last.Goals as goal

pub returns-then-branch : goal.returns-then-branch
returns-then-branch c =
    let terms = c.args.terms.now in
    in_map term_of terms c.in-Some.t.now (found_in terms terms c.loop-k.k c.in-Some.t.now refl c.in-Some.ensures.lookup.0 c.in-Some.ensures.lookup.1)
