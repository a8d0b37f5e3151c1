use Rattle.std.proofs.Common.{◌≡◌, sym, ap, ◌∙◌, subst}
use Rattle.pks_terms.specs.Views.{literal_of}
use Rattle.pks_kf.specs.Known.{literals_of}
use Rattle.pks_query_lookup.specs.Tables.{IsTableBut}
use Rattle.pks_query_lookup.proofs.TableLaws.{nothing_yet, one_more, all_in}
use Rattle.pks_query_lookup.proofs.table.table_of.Goals as goal

pub loop-l-init : goal.loop-l-init
loop-l-init c =
    let kf = literals_of c.args.kf.now in
    let whole : literals_of c.into_iter-l-iterator.result ≡ kf = ap literals_of (c.into_iter-l-iterator.ensures.into_iter_gives ∙ c.items-l-items.ensures.members) in
    subst (λ ls. IsTableBut ls kf c.new-table.result) (sym whole) (nothing_yet kf c.new-table.result c.new-table.ensures.empty)

pub loop-l-preserved : goal.loop-l-preserved
loop-l-preserved c =
    let kf = literals_of c.args.kf.now in
    let before = subst (λ ls. IsTableBut ls kf c.loop-l.table) (ap literals_of c.in-Some.ensures.steps) c.loop-l.invariant in
    one_more (literal_of c.in-Some.l.now) (literals_of c.next.new.self) kf c.loop-l.table c.add.new.table before c.in_ok-add.ensures.adds c.in_ok-add.ensures.short

pub returns : goal.returns
returns c =
    let kf = literals_of c.args.kf.now in
    all_in kf c.loop-l.table (subst (λ ls. IsTableBut ls kf c.loop-l.table) (ap literals_of c.in-None.ensures.steps.0) c.loop-l.invariant)
