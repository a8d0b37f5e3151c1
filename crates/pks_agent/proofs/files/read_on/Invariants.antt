use Rattle.std.proofs.Common.{◌≡◌, ◌≤◌, vec_len}
use Rattle.pks_agent.specs.Streams.{coming, HasRead}
use Rattle.pks_agent.proofs.files.read_on.Given as goal

-- each turn read a byte, what was read so far is a front of the file, and the count stands still
abbrev pub invariant-loop : goal.invariant-loop
invariant-loop g l = record {
  read : HasRead (coming l.fn.ahead (g.S.Source.left l.fn.source)) (coming l.ahead (g.S.Source.left l.source)) l.text.items l.begins;
  turns : l.counter ≤ vec_len l.text;
  bound : vec_len l.text ≤ 262144;
  still : g.S.Source.faults l.source ≡ g.S.Source.faults l.fn.source;
}
