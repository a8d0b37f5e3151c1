use Rattle.pks_laws_version1.proofs.Answered.{refuses_to, refuses_back, done_to, done_back, talk_to, talk_back, unplanned_to, unplanned_back}
use Rattle.pks_laws_version1.proofs.laws.answers_are_of_the_first_version.Goals as goal

pub returns-clause-refused : goal.returns-clause-refused
returns-clause-refused c = λ file j r v f. (refuses_to file v f j r, refuses_back file v f j r)

pub returns-clause-done : goal.returns-clause-done
returns-clause-done c = λ file j input text v f. (done_to file v f j input text, done_back file v f j input text)

pub returns-clause-broken_off : goal.returns-clause-broken_off
returns-clause-broken_off c = λ file j input text v f. (talk_to file v f j input text, talk_back file v f j input text)

pub returns-clause-unplanned : goal.returns-clause-unplanned
returns-clause-unplanned c = λ file j text v f. (unplanned_to file v f j text, unplanned_back file v f j text)
