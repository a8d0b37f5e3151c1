-- What one effect writes, and what the effects that are left write.
use Rattle.std.specs.Prelude.{ℕ, Bool, true, ◌≡◌, ◌<◌, ◌==◌, ◌&&◌, map, List, Some, slice_get, unwrap_or}
use Rattle.pks_terms.specs.Sets.{IsIn}
use Rattle.pks_terms.specs.Signatures.{Signature, objects_of}
use Rattle.pks_terms.specs.Syntax.{Inner, Term, Atom, Pattern, place}
use Rattle.pks_terms.specs.Worlds.{World, inner_value, value_of}
use Rattle.pks_terms.specs.Meaning.{is_instance}
use Rattle.pks_world.specs.Contents.{has_place}
use Rattle.pks_terms.specs.Actions.{Target, Set, Unset, Clear, Assign, Effect, argument, written_truth, written_value, last_written}

-- the world v with what the target writes, all that it names being read in w
abbrev pub written_to : World → Target → World → World
written_to w t v = record {
  truth = λ p ds. unwrap_or (written_truth w p ds t) (v.truth p ds);
  value = λ f ds. unwrap_or (written_value w f ds t) (v.value f ds);
}

-- the world v with what the effects write that fire in w
abbrev pub written_by : World → List Effect → World → World
written_by w es v = record {
  truth = λ p ds. last_written (written_truth w p ds) w es (v.truth p ds);
  value = λ f ds. last_written (written_value w f ds) w es (v.value f ds);
}

-- the value of the atom is an instance of the pattern
abbrev pub is_of_pattern : World → Pattern → Atom → Bool
is_of_pattern w x a = (x.predicate == a.predicate) && is_instance w x.slots (map (value_of w) a.arguments)

-- an assigned function has a number of eight bits
abbrev pub IsNumbered : Target → Type 0
IsNumbered (Set a) = Unit {0}
IsNumbered (Unset a) = Unit {0}
IsNumbered (Clear x) = Unit {0}
IsNumbered (Assign f ts value) = f < 256

-- a place that is listed stays listed
abbrev pub StayListed : List Term → List Term → Type 0
StayListed old new = (f : ℕ) (ds : List ℕ) → has_place old (place f ds) ≡ true → has_place new (place f ds) ≡ true

-- the value of each argument is an object of its parameter's type
abbrev pub AreArguments : Signature → World → List ℕ → List Inner → Type 0
AreArguments s w params given = (k b : ℕ) → slice_get params k ≡ Some b → IsIn (inner_value w (argument given k)) (objects_of s b)
