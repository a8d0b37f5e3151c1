use Rattle.std.proofs.Common.{ap, ◌∙◌, sym}
use Rattle.pks_terms.specs.Orders.{conj_cmp}
use Rattle.pks_terms.specs.Closure.{normal_conj}
use Rattle.pks_terms.specs.Views.{conj_of}
use Rattle.pks_kf.specs.Known.{literals_of}
use Rattle.pks_kw.specs.Formulas.{formulas_of}
use Rattle.pks_laws.specs.Lookup.{is_among}
use Rattle.pks_query_lookup.specs.Fives.{five_of}
use Rattle.pks_query.proofs.Found.{formula_found}
use Rattle.pks_query.proofs.databases.Db.is_member.Goals as goal

pub returns : goal.returns
returns c =
    c.has_formula.ensures
    ∙ ap (λ d. is_among conj_cmp (conj_of c.normal_conj-form.result) (formulas_of d.kw)) c.parts-five.ensures.lent
    ∙ ap (λ f. is_among conj_cmp f (formulas_of c.args.self.now.kw)) (c.normal_conj-form.ensures.says ∙ ap (λ d. normal_conj (literals_of d.kf) (conj_of c.args.c.now)) (c.normals.ensures ∙ c.lookup.ensures))
    ∙ sym (formula_found (five_of c.args.self.now) (conj_of c.args.c.now) c.parts-five.ensures.closed)
