use Rattle.std.proofs.Common.{ap, ◌∙◌, map}
use Rattle.pks_terms.specs.Orders.{literal_cmp}
use Rattle.pks_terms.specs.Views.{literal_of, terms_of}
use Rattle.pks_terms.proofs.SetLaws.{map-added}
use Rattle.pks_kx.specs.Groups.{groups_of}
use Rattle.pks_lcw.specs.Entries.{entries_of}
use Rattle.pks_branch.proofs.assuming.with_formula.Goals as goal

pub returns : goal.returns
returns c =
    let five = c.args.five.now in
    let known = ap (map literal_of) c.in_ok-kf.ensures ∙ map-added literal_of literal_cmp five.kf c.args.news.items in
    λ i. record { kf = known i; kw = c.in_ok-kw.ensures i; kv = terms_of (c.in_ok-kv.ensures i); kx = groups_of (c.in_ok-kx.ensures i); lcw = entries_of (c.in_ok-lcw.ensures i) }
