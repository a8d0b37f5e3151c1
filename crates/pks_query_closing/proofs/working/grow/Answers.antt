use Rattle.std.proofs.Common.{sym, subst}
use Rattle.pks_terms.specs.Views.{signature_of}
use Rattle.pks_query_lookup.specs.Fives.{five_of}
use Rattle.pks_query_closing.specs.Working.{GrowsTo}
use Rattle.pks_query_lookup.specs.declared.five.Five.{Five as DFive}
use Rattle.pks_query_closing.proofs.working.grow.Goals as goal

pub returns : goal.returns
returns c = subst (λ (x : DFive). GrowsTo (signature_of c.args.s.now) (five_of c.args.five) (five_of x)) (sym c.in_ok-next.ensures) c.in_ok-more.ensures
