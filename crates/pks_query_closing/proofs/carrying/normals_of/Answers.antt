use Rattle.std.proofs.Common.{subst}
use Rattle.pks_terms.specs.Sets.{IsIn}
use Rattle.pks_kf.specs.Known.{literals_of}
use Rattle.pks_query_lookup.specs.declared.five.Five.{Five as DFive}
use Rattle.pks_query_closing.proofs.ByValue.{from_nothing}
use Rattle.pks_query_closing.proofs.carrying.normals_of.Goals as goal

pub returns : goal.returns
returns c = λ m i.
    from_nothing c.args.values.items c.in_ok-kf.kf c.in_ok-kf.ensures m (subst (λ (d : DFive). IsIn m (literals_of d.kf)) c.in_ok-by.ensures i)
