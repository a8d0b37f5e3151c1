-- That each count of used places is within its array, in a world of the program and in what is observed in one.
use Rattle.std.specs.Prelude.{List}
use Rattle.std.specs.Map.{keys_of}
use Rattle.pks_terms.specs.Sets.{Each}
use Rattle.pks_terms.specs.Counts.{TermCounts, AtomCounts, ConjCounts, PatternCounts}
use Rattle.pks_terms.specs.declared.ids.ObjId.{ObjId}
use Rattle.pks_terms.specs.declared.term.Term as term
use Rattle.pks_world.specs.declared.observe.Seen as seen
use Rattle.pks_world.specs.declared.observe.Seen.TheVariants as seen_is
use Rattle.pks_world.specs.declared.worlds.World.{World}

-- of the places for which a value is kept
abbrev pub KeptCounts : List (term.Term × ObjId) → Type 0
KeptCounts kept = Each TermCounts (keys_of kept)

-- of a world: of its true atoms, and of its places
pub record WorldCounts (w : World) : Type 0 where
  pub atoms : Each AtomCounts w.atoms.keys
  pub places : KeptCounts w.values.entries

-- of what one sense found
abbrev pub SeenCounts : seen.Seen → Type 0
SeenCounts (seen_is.Whether c b) = ConjCounts c
SeenCounts (seen_is.Value t d) = TermCounts t
SeenCounts (seen_is.All x atoms) = PatternCounts x × Each AtomCounts atoms
