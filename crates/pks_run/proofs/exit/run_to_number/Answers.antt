use Rattle.pks_run.proofs.exit.run_to_number.Goals as goal

pub returns : goal.returns
returns g c = (
  c.run.result,
  c.exit_of.ensures,
  record {
    answer = c.run.ensures.answer;
    only = c.run.ensures.only;
    explained = c.run.ensures.explained;
    sound = c.run.ensures.sound;
    complete = c.run.ensures.complete;
    no_plan = c.run.ensures.no_plan;
    refused = c.run.ensures.refused;
    end = c.run.ensures.end;
    taken = c.run.ensures.taken;
    led = c.run.ensures.led;
    told = c.run.ensures.told;
    read_fault = c.run.ensures.read_fault;
    read_front = c.run.ensures.read_front;
    write_fault = c.run.ensures.write_fault;
    memory = c.run.ensures.memory;
    later = c.run.ensures.later;
    quiet = c.run.ensures.quiet;
    takes = c.run.ensures.takes;
    words = c.run.ensures.words;
    unasked = c.run.ensures.unasked;
    unread = c.run.ensures.unread;
  },
)
