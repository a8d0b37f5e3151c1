-- What the moments of a history say while it is settled.
use Rattle.std.specs.Prelude.{List, map}
use Rattle.pks_terms.specs.Databases.{Five}
use Rattle.pks_terms.specs.Actions.{Instance}
use Rattle.pks_terms.specs.Settling.{History}
use Rattle.pks_terms.specs.Views.{instance_of}
use Rattle.pks_query_lookup.specs.Fives.{five_of}
use Rattle.pks_postdict.specs.declared.family.Held.{Held}
use Rattle.pks_postdict.specs.declared.family.Held.TheVariants as held_is
use Rattle.pks_postdict.specs.declared.family.Link.{Link}
use Rattle.pks_postdict.specs.declared.family.Family.{Family}

-- the databases of a moment
abbrev pub held_of : Held → Five
held_of (held_is.Closed d) = five_of d
held_of (held_is.Grown rc) = five_of rc.value

-- a later moment
abbrev pub link_of : Link → Instance × Five
link_of x = (instance_of x.step, held_of x.place.held)

-- the later moments of a list
abbrev pub links_of : List Link → List (Instance × Five)
links_of xs = map link_of xs

-- all moments
abbrev pub family_of : Family → History
family_of f = record { start = held_of f.start.held; steps = links_of f.later.items }
