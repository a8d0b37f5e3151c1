-- One effect after another.
use Rattle.std.proofs.Common.{◌≡◌, ◌<◌, ◌≤◌, ◌+◌, ℕ, zero, suc, List, [], ◌∷◌, map, drop, get_or, length, sym, ap, ◌∙◌, subst, arith}
use Rattle.std.proofs.Math.Seq.{drop-cons}
use Rattle.std.proofs.lemmas.List.{drop_all}
use Rattle.std.proofs.lemmas.Option.{slice_get_within}
use Rattle.pks_terms.specs.Sets.{Each}
use Rattle.pks_terms.specs.Syntax.{Inner, Term}
use Rattle.pks_terms.specs.Signatures.{Signature}
use Rattle.pks_terms.specs.Worlds.{World}
use Rattle.pks_terms.specs.Actions.{Target, Set, Unset, Clear, Assign, Effect, Instance, target_at, effect_at, applied_to}
use Rattle.pks_terms.specs.Problems.{Problem, schema_of}
use Rattle.pks_terms.specs.Valid.{IsValid}
use Rattle.pks_terms.specs.Typed.{IsTypedTarget}
use Rattle.pks_terms.specs.Knowledge.{after_action}
use Rattle.pks_terms.specs.Meaning.{IsWorld}
use Rattle.pks_laws.proofs.Validity.{valid_typed}
use Rattle.pks_laws.proofs.Staying.{still_world}
use Rattle.pks_world.specs.First.{AreAllPlaces}
use Rattle.pks_terms.specs.declared.schema.Effect.{Effect as DEffect}
use Rattle.pks_terms.specs.Views.{target_of, effect_of}
use Rattle.pks_world.specs.Applied.{written_by, IsNumbered, StayListed, AreArguments}

module _ (w : World) (given : List Inner) (es : List DEffect) where
  -- what the effects that are left write
  abbrev pub written_from : ℕ → World → World
  written_from j v = written_by w (map (effect_at given) (map effect_of (drop j es))) v

  pub written_more : (j : ℕ) (d : DEffect) (u v : World) → j < length es → u ≡ written_by w (effect_at given (effect_of (get_or es j d)) ∷ []) v → written_from (j + 1) u ≡ written_from j v
  written_more j d u v h e =
      let next : j + 1 ≡ suc j = omega arith in
      ap (λ n. written_from n u) next ∙ ap (written_from (suc j)) e ∙ ap (λ (xs : List DEffect). written_by w (map (effect_at given) (map effect_of xs)) v) (sym (drop-cons es j d h))

  pub written_all : (j : ℕ) (v u : World) → length es ≤ j → written_from j v ≡ u → v ≡ u
  written_all j v u h e = ap (λ (xs : List DEffect). written_by w (map (effect_at given) (map effect_of xs)) v) (sym (drop_all j es h)) ∙ e

-- the function of an assignment stays where arguments are put in
still_numbered : (given : List Inner) (t : Target) → IsNumbered t → IsNumbered (target_at given t)
still_numbered given (Set a) n = n
still_numbered given (Unset a) n = n
still_numbered given (Clear x) n = n
still_numbered given (Assign f ts v) n = n

pub numbered_at : (given : List Inner) (es : List DEffect) (j : ℕ) (d e : DEffect) → Each (λ x. IsNumbered (target_of x.target)) es → j < length es → effect_of e ≡ effect_at given (effect_of (get_or es j d)) → IsNumbered (target_of e.target)
numbered_at given [] j d e all h q = absurd (omega arith)
numbered_at given (x ∷ es) zero d e all h q = subst (λ (y : Effect). IsNumbered y.target) (sym q) (still_numbered given (target_of x.target) all.0)
numbered_at given (x ∷ es) (suc j) d e all h q = numbered_at given es j d e all.1 (omega arith) q

-- ---- effects of a valid problem

target_numbered : (s : Signature) (params : List ℕ) (t : Target) → length s.functions ≤ 256 → IsTypedTarget s params t → IsNumbered t
target_numbered s params (Set a) few t = tt
target_numbered s params (Unset a) few t = tt
target_numbered s params (Clear x) few t = tt
target_numbered s params (Assign f ts x) few t = let within : f < length s.functions = slice_get_within s.functions f t.0 t.1 in omega arith

each_numbered : (s : Signature) (params : List ℕ) (es : List DEffect) → length s.functions ≤ 256 → Each (λ (e : Effect). IsTypedTarget s params e.target) (map effect_of es) → Each (λ e. IsNumbered (target_of e.target)) es
each_numbered s params [] few all = tt
each_numbered s params (e ∷ es) few all = (target_numbered s params (target_of e.target) few all.0, each_numbered s params es few all.1)

pub valid_numbered : (p : Problem) (n : ℕ) (es : List DEffect) → IsValid p → map effect_of es ≡ (schema_of p n).effects → Each (λ e. IsNumbered (target_of e.target)) es
valid_numbered p n es v e =
    let params = (schema_of p n).parameters in
    each_numbered p.signature params es v.signature.functions.1 (subst (λ (xs : List Effect). Each (λ (x : Effect). IsTypedTarget p.signature params x.target) xs) (sym e) (valid_typed p v n))

pub applied_is : (p : Problem) (w : World) (i : Instance) (es : List DEffect) → map effect_of es ≡ (schema_of p i.action).effects → written_by w (map (effect_at i.arguments) (map effect_of es)) w ≡ after_action p w i
unfolding after_action applied_to
applied_is p w i es e = ap (λ (xs : List Effect). written_by w (map (effect_at i.arguments) xs) w) e

-- an action of a valid problem leads from a world of the signature to one
pub applied_typed : (p : Problem) (w : World) (i : Instance) → IsValid p → AreArguments p.signature w (schema_of p i.action).parameters i.arguments → IsWorld p.signature w → IsWorld p.signature (after_action p w i)
unfolding after_action
applied_typed p w i v a typed = still_world p.signature w typed (schema_of p i.action).parameters i.arguments a (schema_of p i.action).effects (valid_typed p v i.action)

-- more places are listed
pub all_listed : (s : Signature) (old new : List Term) → StayListed old new → AreAllPlaces s old → AreAllPlaces s new
all_listed s old new stay all = λ f ds x h t. stay f ds (all f ds x h t)
