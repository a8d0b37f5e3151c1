use Rattle.std.proofs.Common.{◌≡◌, ◌++◌, ◌∙◌, ap}
use Rattle.pks_terms.specs.Orders.{term_cmp}
use Rattle.pks_terms.specs.Views.{term_of, terms_of}
use Rattle.pks_terms.proofs.SetLaws.{map-set_of}
use Rattle.pks_query_uses.proofs.index.terms_of.Goals as goal

pub returns : goal.returns
returns g c =
    let all : terms_of c.put.new.to.items ≡ g.T.Indexed.terms c.args.x.now = c.in_ok-put.ensures ∙ ap (λ xs. terms_of xs ++ g.T.Indexed.terms c.args.x.now) c.new-all.ensures.items in
    map-set_of term_of term_cmp _ _ _ c.in_ok-ts.ensures all
