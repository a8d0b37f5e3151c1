use Rattle.pks_terms.specs.Views.{literal_of}
use Rattle.pks_terms.proofs.ListLaws.{in_map}
use Rattle.pks_query_closing.proofs.Growing.{found_in}
use Rattle.pks_query_closing.proofs.carrying.Carrying.literal.Goals as goal

pub returns-in-Some : goal.returns-in-Some
returns-in-Some c =
    let listed = c.args.self.now.listed.items in
    in_map literal_of listed c.in-Some.l.now (found_in c.as_slice.result.now listed c.args.k c.in-Some.l.now c.as_slice.ensures.value c.in-Some.ensures.lookup.0 c.in-Some.ensures.lookup.1)
