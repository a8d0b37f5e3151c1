use Rattle.pks_laws_version1.proofs.ReadAlike.{reads_then, reads_now}
use Rattle.pks_laws_version1.proofs.files.first_texts_read_as_in_the_first_version.Goals as goal

pub returns : goal.returns
returns c = λ text reading first. (reads_then text first reading, reads_now text first reading)
