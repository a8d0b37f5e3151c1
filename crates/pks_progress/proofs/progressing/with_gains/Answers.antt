use Rattle.std.proofs.Common.{ap, ◌∙◌}
use Rattle.pks_terms.specs.Views.{terms_of}
use Rattle.pks_kf.specs.Known.{literals_of}
use Rattle.pks_kw.specs.Formulas.{formulas_of}
use Rattle.pks_lcw.specs.Entries.{entries_of}
use Rattle.pks_progress.proofs.Lasting.{literals_put_in, formulas_put_in, terms_put_in, entries_put_in}
use Rattle.pks_progress.proofs.progressing.with_gains.Goals as goal

pub returns-clause-literals : goal.returns-clause-literals
returns-clause-literals c = ap literals_of c.in_ok-kf.ensures ∙ literals_put_in c.args.kept.now.kf c.args.gains.kf.items

pub returns-clause-formulas : goal.returns-clause-formulas
returns-clause-formulas c = ap formulas_of c.in_ok-kw.ensures ∙ formulas_put_in c.args.kept.now.kw c.args.gains.kw.items

pub returns-clause-values : goal.returns-clause-values
returns-clause-values c = ap terms_of c.in_ok-kv.ensures ∙ terms_put_in c.args.kept.now.kv c.args.gains.kv.items

pub returns-clause-regions : goal.returns-clause-regions
returns-clause-regions c = ap entries_of c.in_ok-lcw.ensures ∙ entries_put_in c.args.kept.now.lcw c.args.gains.lcw.items
