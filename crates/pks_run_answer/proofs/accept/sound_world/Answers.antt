use Rattle.pks_run_answer.proofs.Accepting.{sound_fits, sound_refused}
use Rattle.pks_run_answer.proofs.accept.sound_world.Goals as goal

pub returns : goal.returns
returns c = record { fits = sound_fits c.args.f.now c.stated_world.result c.stated_world.ensures.says; refused = sound_refused c.args.f.now c.stated_world.result c.stated_world.ensures.refused }
