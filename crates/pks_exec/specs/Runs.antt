-- What the program's runs say, and how a run may end.
use Rattle.std.specs.Prelude.{◌≡◌, List, [], ◌∷◌, ◌++◌, map}
use Rattle.pks_terms.specs.Syntax.{Object, Inner}
use Rattle.pks_terms.specs.Knowledge.{Ending, AtGoal, AtImpossible, NoCase, Event, Did, Saw, Tested, Told, Ended}
use Rattle.pks_terms.specs.declared.ids.ObjId.{ObjId}
use Rattle.pks_terms.specs.Views.{term_of, conj_of}
use Rattle.pks_world.specs.Observed.{seen_of}
use Rattle.pks_exec.specs.declared.runs.End as ending
use Rattle.pks_exec.specs.declared.runs.End.TheVariants as ending_is
use Rattle.pks_exec.specs.declared.runs.Event as event
use Rattle.pks_exec.specs.declared.runs.Event.TheVariants as event_is

-- an object as an argument
abbrev pub argument_of : ObjId → Inner
argument_of d = Object d.0

-- how a run ends
abbrev pub ending_of : ending.End → Ending
ending_of ending_is.Goal = AtGoal
ending_of ending_is.Impossible = AtImpossible
ending_of ending_is.NoCase = NoCase

-- one thing that happens
abbrev pub event_of : event.Event → Event
event_of (event_is.Do a ds) = Did (record { action = a.0; arguments = map argument_of ds })
event_of (event_is.Saw x) = Saw (seen_of x)
event_of (event_is.Test c b) = Tested (conj_of c) b
event_of (event_is.Case t d) = Told (term_of t) d.0
event_of (event_is.End x) = Ended (ending_of x)

-- the last of the events is this ending
abbrev pub EndsWith : Ending → List Event → Type 0
EndsWith x events = (before : List Event) × (events ≡ before ++ Ended x ∷ [])
