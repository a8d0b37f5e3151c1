use Rattle.std.proofs.lemmas.Result.{IfOk-weaker}
use Rattle.pks_terms.specs.Databases.{Five as SFive}
use Rattle.pks_terms.specs.Signatures.{HasValues}
use Rattle.pks_terms.specs.Views.{signature_of}
use Rattle.pks_query_lookup.specs.Fives.{five_of}
use Rattle.pks_query_closing.specs.Carrying.{IsReached}
use Rattle.pks_query_closing.specs.Working.{GrowsTo}
use Rattle.pks_query_closing.proofs.carrying.carry.Goals as goal

pub returns : goal.returns
returns c =
    let s = signature_of c.args.s.now in
    IfOk-weaker c.after_work-next.result (λ e. (d : SFive) → HasValues s → IsReached s d c.in_ok-carrying.carrying → GrowsTo s d (five_of e)) (λ e. GrowsTo s (five_of c.args.five) (five_of e))
    (λ e grows. grows (five_of c.args.five) c.requires.values (c.in_ok-carrying.ensures s)) c.after_work-next.ensures
