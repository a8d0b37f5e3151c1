use Rattle.std.proofs.Common.{◌≡◌, ◌∙◌, ap, subst, unwrap_or}
use Rattle.std.specs.Result.{IfOk}
use Rattle.pks_terms.specs.Views.{terms_of, given_of, signature_of}
use Rattle.pks_kf.specs.Known.{literals_of}
use Rattle.pks_kw.specs.Formulas.{formulas_of}
use Rattle.pks_lcw.specs.Entries.{entries_of}
use Rattle.pks_query_lookup.specs.Fives.{five_of}
use Rattle.pks_progress_adds.specs.Gains.{undeclared, literals_by, formulas_by, values_by, regions_by}
use Rattle.pks_progress_adds.proofs.gains.gains.Goals as goal

pub returns-in-Some-clause-literals : goal.returns-in-Some-clause-literals
returns-in-Some-clause-literals c =
    subst (λ sc. IfOk c.gains_by.result (λ g. literals_of g.kf.items ≡ literals_by (signature_of c.args.p.now.signature) (five_of c.args.d.now) sc (given_of c.args.i.now)))
    (ap (λ o. unwrap_or o undeclared) c.in-Some.ensures.says) c.gains_by.ensures.literals

pub returns-in-Some-clause-formulas : goal.returns-in-Some-clause-formulas
returns-in-Some-clause-formulas c =
    subst (λ sc. IfOk c.gains_by.result (λ g. formulas_of g.kw.items ≡ formulas_by (signature_of c.args.p.now.signature) (five_of c.args.d.now) sc (given_of c.args.i.now)))
    (ap (λ o. unwrap_or o undeclared) c.in-Some.ensures.says) c.gains_by.ensures.formulas

pub returns-in-Some-clause-values : goal.returns-in-Some-clause-values
returns-in-Some-clause-values c =
    subst (λ sc. IfOk c.gains_by.result (λ g. terms_of g.kv.items ≡ values_by (signature_of c.args.p.now.signature) (five_of c.args.d.now) sc (given_of c.args.i.now)))
    (ap (λ o. unwrap_or o undeclared) c.in-Some.ensures.says) c.gains_by.ensures.values

pub returns-in-Some-clause-regions : goal.returns-in-Some-clause-regions
returns-in-Some-clause-regions c =
    subst (λ sc. IfOk c.gains_by.result (λ g. entries_of g.lcw.items ≡ regions_by (signature_of c.args.p.now.signature) (five_of c.args.d.now) sc (given_of c.args.i.now)))
    (ap (λ o. unwrap_or o undeclared) c.in-Some.ensures.says) c.gains_by.ensures.regions

pub returns-in-None-clause-literals : goal.returns-in-None-clause-literals
returns-in-None-clause-literals c =
    ap literals_of c.none.ensures.literals ∙ ap (λ o. literals_by (signature_of c.args.p.now.signature) (five_of c.args.d.now) (unwrap_or o undeclared) (given_of c.args.i.now)) c.in-None.ensures.says

pub returns-in-None-clause-formulas : goal.returns-in-None-clause-formulas
returns-in-None-clause-formulas c =
    ap formulas_of c.none.ensures.formulas ∙ ap (λ o. formulas_by (signature_of c.args.p.now.signature) (five_of c.args.d.now) (unwrap_or o undeclared) (given_of c.args.i.now)) c.in-None.ensures.says

pub returns-in-None-clause-values : goal.returns-in-None-clause-values
returns-in-None-clause-values c =
    ap terms_of c.none.ensures.values ∙ ap (λ o. values_by (signature_of c.args.p.now.signature) (five_of c.args.d.now) (unwrap_or o undeclared) (given_of c.args.i.now)) c.in-None.ensures.says

pub returns-in-None-clause-regions : goal.returns-in-None-clause-regions
returns-in-None-clause-regions c =
    ap entries_of c.none.ensures.regions ∙ ap (λ o. regions_by (signature_of c.args.p.now.signature) (five_of c.args.d.now) (unwrap_or o undeclared) (given_of c.args.i.now)) c.in-None.ensures.says
