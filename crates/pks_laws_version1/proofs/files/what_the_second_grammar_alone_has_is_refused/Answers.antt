use Rattle.pks_reader.specs.Files.{by_shape}
use Rattle.pks_laws_version1.proofs.Grammars.{second_alone}
use Rattle.pks_laws_version1.proofs.files.what_the_second_grammar_alone_has_is_refused.Goals as goal

pub returns : goal.returns
returns c = λ end f d p rest one is_d is_p may not_old. let r = second_alone end f d p rest one is_d is_p may not_old in (r.0, by_shape r.1)
