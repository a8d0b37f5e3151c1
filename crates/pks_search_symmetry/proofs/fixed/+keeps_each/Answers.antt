use Rattle.pks_terms.specs.Views.{schema_of}
use Rattle.pks_laws_symmetry.specs.Fixed.{IsFixedSchema}
use Rattle.pks_search_symmetry.specs.Renaming.{image_by}
use Rattle.pks_search_symmetry.proofs.Texts.{each_from}
use Rattle.pks_search_symmetry.proofs.fixed.+keeps_each.Goals as goal

pub returns-then-keeps_text : goal.returns-then-keeps_text
returns-then-keeps_text t c = λ e. each_from (IsFixedSchema (image_by c.args.to.now)) schema_of c.args.schemas.now c.sc-item.result c.in-len1-up.len_at_least c.sc-item.is (c.keeps_text.ensures c.if-keeps_text.true) (c.keeps_each.ensures e)
