use Rattle.std.proofs.Common.{sym}
use Rattle.pks_terms.specs.Sets.{with_later}
use Rattle.pks_terms.specs.Justified.{given_of, makes_so}
use Rattle.pks_terms.specs.Views.{literal_of, add_of}
use Rattle.pks_progress_adds.specs.Deeds.{schema_in}
use Rattle.pks_progress_adds.proofs.Placed.{placed}
use Rattle.pks_progress_adds.proofs.deed.Deed.equation.Goals as goal

pub place-place-requires : goal.place-place-requires
place-place-requires c =
    let sc = schema_in c.args.self.now in
    placed c.args.left.now (makes_so (given_of sc (add_of c.args.a.now)) (literal_of c.args.l.now)) (with_later sc.effects) (sym c.if-not-has_place.ensures)
