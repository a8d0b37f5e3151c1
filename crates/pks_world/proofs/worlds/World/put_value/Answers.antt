use Rattle.std.proofs.Common.{refl, ap, ◌∙◌, sym, subst, map, true≢false}
use Rattle.std.specs.Option.{is_some, IsSome}
use Rattle.pks_terms.specs.Meaning.{IsWorld}
use Rattle.pks_terms.specs.Views.{term_of}
use Rattle.pks_world.specs.Contents.{world_of, places_of}
use Rattle.pks_world.proofs.Typing.{value_typed, of_signature}
use Rattle.pks_world.proofs.Keeping.{found, valued}
use Rattle.pks_world.proofs.worlds.World.put_value.Goals as goal

pub unreachable-requires : goal.unreachable-requires
unfolding places_of
unreachable-requires c = true≢false (sym c.requires ∙ found (term_of c.args.place.now) c.args.self.now.values.entries ∙ ap is_some (sym c.in-None.ensures.value))

pub returns-clause-world : goal.returns-clause-world
returns-clause-world c = valued c.args.self.now (c.get_mut.follows.lender c.args.d) c.args.place.now c.args.d ((c.get_mut.follows.holds c.args.d).3 (subst (λ o. IsSome o) c.in-Some.ensures.value refl)).0

pub returns-clause-places : goal.returns-clause-places
unfolding places_of
returns-clause-places c = ap (map term_of) (c.get_mut.follows.holds c.args.d).1

pub returns-clause-of_signature : goal.returns-clause-of_signature
returns-clause-of_signature c = λ s m i.
    of_signature s c.args.self.now _ (subst (IsWorld s) (sym (returns-clause-world c)) (value_typed s (world_of c.args.self.now) i.typed (term_of c.args.place.now) c.args.d.0 m.0 m.1 m.2)) (returns-clause-places c) i
