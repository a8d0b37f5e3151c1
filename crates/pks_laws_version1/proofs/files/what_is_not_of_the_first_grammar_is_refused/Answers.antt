use Rattle.pks_reader.specs.Files.{by_shape}
use Rattle.pks_laws_version1.proofs.Grammars.{refused_shape}
use Rattle.pks_laws_version1.proofs.files.what_is_not_of_the_first_grammar_is_refused.Goals as goal

pub returns : goal.returns
returns c = λ end fs v not_old. let r = refused_shape end fs v not_old in (r.0, by_shape r.1)
