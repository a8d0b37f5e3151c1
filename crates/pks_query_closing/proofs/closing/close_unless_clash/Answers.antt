use Rattle.std.proofs.Common.{subst}
use Rattle.std.specs.Prelude.{Some}
use Rattle.std.proofs.lemmas.Result.{IfOk-weaker}
use Rattle.pks_terms.specs.Databases.{Five as SFive}
use Rattle.pks_terms.specs.Sets.{IsOrdered}
use Rattle.pks_terms.specs.Orders.{literal_cmp}
use Rattle.pks_terms.specs.Closure.{Closes}
use Rattle.pks_terms.specs.Views.{literal_of, signature_of}
use Rattle.pks_pmap_set.proofs.Mapped.{ordered-map}
use Rattle.pks_query_lookup.specs.Fives.{five_of}
use Rattle.pks_query_closing.specs.Working.{IsWorked, EndsWith}
use Rattle.pks_query_closing.proofs.closing.close_unless_clash.Goals as goal

pub returns-in-Some : goal.returns-in-Some
returns-in-Some c =
    let s = signature_of c.args.s.now in
    let d = five_of c.args.five in
    IfOk-weaker c.tidied_unless_clash.result (λ o. (e : SFive) → IsOrdered literal_cmp e.kf → IsWorked s e (Some c.in-Some.last) → EndsWith (Closes s e) o) (EndsWith (Closes s d))
    (λ o ends. ends d (ordered-map literal_of literal_cmp c.args.five.kf c.len-start.ensures.ordered) (subst (IsWorked s d) c.in-Some.is c.in_ok-work_out.ensures)) c.tidied_unless_clash.ensures
