use Rattle.std.proofs.Common.{◌≡◌, ◌||◌, is_some, ap, ◌∙◌, sym}
use Rattle.pks_terms.specs.Syntax.{as_object}
use Rattle.pks_terms.specs.Orders.{term_cmp}
use Rattle.pks_terms.specs.Queries.{known_value}
use Rattle.pks_terms.specs.Views.{term_of, terms_of}
use Rattle.pks_laws.specs.Lookup.{is_among}
use Rattle.pks_query_lookup.specs.Fives.{five_of}
use Rattle.pks_query.proofs.Found.{value_found, value_so}
use Rattle.pks_query.proofs.databases.Db.known_value.Goals as goal

pub returns-clause-tells : goal.returns-clause-tells
returns-clause-tells c =
    c.is_value.ensures ∙ ap (λ u. is_some (as_object u) || is_among term_cmp u (terms_of c.args.self.now.kv)) c.normal.ensures
    ∙ sym (value_found (five_of c.args.self.now) (term_of c.args.t.now) c.parts-five.ensures.closed)

pub returns-clause-so : goal.returns-clause-so
returns-clause-so c =
    let tells : c.is_value.result ≡ known_value (five_of c.args.self.now) (term_of c.args.t.now) =
    c.is_value.ensures ∙ ap (λ u. is_some (as_object u) || is_among term_cmp u (terms_of c.args.self.now.kv)) c.normal.ensures
    ∙ sym (value_found (five_of c.args.self.now) (term_of c.args.t.now) c.parts-five.ensures.closed)
    in
    value_so (five_of c.args.self.now) (term_of c.args.t.now) c.is_value.result tells
