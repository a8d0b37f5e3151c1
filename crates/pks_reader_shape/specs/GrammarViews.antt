-- The grammar as it lies in memory.
use Rattle.std.specs.Prelude.{ℕ, List, map, option_map}
use Rattle.pks_reader_shape.specs.Grammar.{Lists}
use Rattle.pks_reader_shape.specs.declared.grammar.Part.{Part}
use Rattle.pks_reader_shape.specs.declared.table.Headed.{Headed}
use Rattle.pks_reader_shape.specs.declared.table.Lists as code

-- a head with its parts
abbrev pub headed_view : Headed → List ℕ × List Part
headed_view h = (h.head.now, h.parts.now)

-- the lists of a sort
abbrev pub lists_view : code.Lists → Lists
lists_view ls = record {
  fixed = map headed_view ls.fixed.now;
  other = option_map (λ ps. ps.now) ls.other;
  barred = map (λ h. h.now) ls.barred.now;
}
