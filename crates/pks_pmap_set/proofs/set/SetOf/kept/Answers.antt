use Rattle.std.proofs.Common.{sym, subst}
use Rattle.std.specs.Fn.{FnReturnsAt}
use Rattle.pks_pmap.specs.Keeping.{Keeps}
use Rattle.pks_pmap_set.specs.Members.{TakesEach, keys}
use Rattle.pks_pmap_set.proofs.Keys.{keeps_keys, takes_keys}
use Rattle.pks_pmap_set.proofs.set.SetOf.kept.Goals as goal

pub kept-requires : goal.kept-requires
kept-requires g c = takes_keys g.F.Fn c.args.test _ (subst (TakesEach g.F.Fn c.args.test) (sym c.self.view_is) c.requires)

pub returns : goal.returns
returns g c = subst (λ z. Keeps (FnReturnsAt g.F.Fn c.args.test) z (keys c.in_ok-entries.entries)) c.self.view_is (keeps_keys (FnReturnsAt g.F.Fn c.args.test) _ _ c.in_ok-entries.ensures.entries)
