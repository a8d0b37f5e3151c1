-- The instances of a pattern made false.
use Rattle.std.proofs.Common.{◌≡◌, ◌&&◌, ◌||◌, ◌==◌, ℕ, suc, Bool, true, false, cond, not, List, [], ◌∷◌, map, drop, get_or, filter, length, ◌<◌, ◌+◌, Option, Some, None, refl, sym, ap, ◌∙◌, arith, true≢false}
use Rattle.std.specs.BTreeSet.{BTreeSet}
use Rattle.std.specs.Option.{option_map, unwrap_or}
use Rattle.std.proofs.lemmas.Bool.{and_parts}
use Rattle.std.proofs.Math.Seq.{drop-cons}
use Rattle.pks_terms.specs.Syntax.{Object, Term, Atom, Pattern}
use Rattle.pks_terms.specs.Worlds.{World, value_of}
use Rattle.pks_terms.specs.Meaning.{is_instance}
use Rattle.pks_terms.specs.Actions.{Clear}
use Rattle.pks_terms.specs.declared.literal.PredAtom.{PredAtom}
use Rattle.pks_terms.specs.Views.{atom_of, term_of}
use Rattle.pks_terms.specs.declared.term.Term as term
use Rattle.pks_world.specs.declared.worlds.World.{World as DWorld}
use Rattle.pks_world.specs.Contents.{ground, atom_eq, is_listed, world_of}
use Rattle.pks_world.specs.Applied.{is_of_pattern, written_to}
use Rattle.pks_world.proofs.Typing.{same_atom}

-- an instance has as many objects as there are slots
instance_long : (w : World) (ss : List (Option Term)) (ds : List ℕ) → is_instance w ss ds ≡ true → length ss ≡ length ds
instance_long w [] [] h = refl
instance_long w [] (d ∷ ds) h = absurd (true≢false (sym h))
instance_long w (None ∷ ss) [] h = absurd (true≢false (sym h))
instance_long w (Some t ∷ ss) [] h = absurd (true≢false (sym h))
instance_long w (None ∷ ss) (d ∷ ds) h = ap suc (instance_long w ss ds h)
instance_long w (Some t ∷ ss) (d ∷ ds) h = ap suc (instance_long w ss ds (and_parts (value_of w t == d) _ h).1)

pub other_length : (w : World) (ss : List (Option Term)) (ds : List ℕ) → (length ss ≡ length ds → ⊥) → is_instance w ss ds ≡ false
other_length w ss ds h =
    elim (is_instance w ss ds) as (λ b. is_instance w ss ds ≡ b → b ≡ false) [
      | true ↦ λ e. absurd (h (instance_long w ss ds e))
      | false ↦ λ e. refl
    ] refl

-- slot by slot
slot_more : (w : World) (s : Option Term) (d : ℕ) (ss : List (Option Term)) (ds : List ℕ) → is_instance w (s ∷ ss) (d ∷ ds) ≡ (is_instance w (s ∷ []) (d ∷ []) && is_instance w ss ds)
slot_more w None d ss ds = refl
slot_more w (Some t) d ss ds = more (value_of w t == d) (is_instance w ss ds)
  where
    more : (a b : Bool) → (a && b) ≡ ((a && true) && b)
    more true b = refl
    more false b = refl

module _ (w : World) (slots : List (Option term.Term)) (terms : List term.Term) where
  -- whether what is left fits
  abbrev pub fits_from : ℕ → Bool
  fits_from k = is_instance w (map (option_map term_of) (drop k slots)) (map (value_of w) (map term_of (drop k terms)))

  pub fits_more : (k : ℕ) (s : Option term.Term) (t : term.Term) → k < length slots → k < length terms → fits_from k ≡ (is_instance w (option_map term_of (get_or slots k s) ∷ []) (value_of w (term_of (get_or terms k t)) ∷ []) && fits_from (k + 1))
  fits_more k s t h l =
      let next : k + 1 ≡ suc k = omega arith in
      (λ i. is_instance w (map (option_map term_of) (drop-cons slots k s h i)) (map (value_of w) (map term_of (drop-cons terms k t l i))))
      ∙ slot_more w (option_map term_of (get_or slots k s)) (value_of w (term_of (get_or terms k t))) _ _
      ∙ ap (λ n. is_instance w (option_map term_of (get_or slots k s) ∷ []) (value_of w (term_of (get_or terms k t)) ∷ []) && fits_from n) (sym next)

-- ---- atoms that are taken away by a test

module _ (T : Atom → Bool) (g : Atom) where
  none_kept : T g ≡ true → (xs : List PredAtom) → is_listed (filter (λ a. not (T (atom_of a))) xs) g ≡ false
  none_kept h [] = refl
  none_kept h (a ∷ xs) = elim (T (atom_of a)) as (λ b. T (atom_of a) ≡ b → is_listed (cond (not b) (a ∷ filter (λ a. not (T (atom_of a))) xs) (filter (λ a. not (T (atom_of a))) xs)) g ≡ false) [
    | true ↦ λ e. none_kept h xs
    | false ↦ λ e. apart (atom_eq g (atom_of a)) (λ q. true≢false (sym h ∙ ap T (same_atom g (atom_of a) q) ∙ e)) (none_kept h xs)
  ] refl
    where
      apart : (b : Bool) {r : Bool} → (b ≡ true → ⊥) → r ≡ false → (b || r) ≡ false
      apart true k e = absurd (k refl)
      apart false k e = e

  all_kept : T g ≡ false → (xs : List PredAtom) → is_listed (filter (λ a. not (T (atom_of a))) xs) g ≡ is_listed xs g
  all_kept h [] = refl
  all_kept h (a ∷ xs) = elim (T (atom_of a)) as (λ b. T (atom_of a) ≡ b → is_listed (cond (not b) (a ∷ filter (λ a. not (T (atom_of a))) xs) (filter (λ a. not (T (atom_of a))) xs)) g ≡ is_listed (a ∷ xs) g) [
    | true ↦ λ e. apart (atom_eq g (atom_of a)) (λ q. true≢false (sym (sym h ∙ ap T (same_atom g (atom_of a) q) ∙ e))) (all_kept h xs)
    | false ↦ λ e. ap (λ r. atom_eq g (atom_of a) || r) (all_kept h xs)
  ] refl
    where
      apart : (b : Bool) {r s : Bool} → (b ≡ true → ⊥) → r ≡ s → r ≡ (b || s)
      apart true k e = absurd (k refl)
      apart false k e = e

objects_valued : (w : World) (ds : List ℕ) → map (value_of w) (map Object ds) ≡ ds
unfolding value_of
objects_valued w [] = refl
objects_valued w (d ∷ ds) = λ i. d ∷ objects_valued w ds i

-- without the atoms that are of the pattern, its instances are false, and each other atom is as it was
pub cleared : (w : World) (v : DWorld) (n : BTreeSet PredAtom) (x : Pattern) → n.keys ≡ filter (λ a. not (is_of_pattern w x (atom_of a))) v.atoms.keys → world_of (record v { atoms = n }) ≡ written_to w (Clear x) (world_of v)
unfolding world_of
cleared w v n x e =
    let each : (p : ℕ) (ds : List ℕ) → is_listed n.keys (ground p ds) ≡ unwrap_or (cond ((x.predicate == p) && is_instance w x.slots ds) (Some false) None) (is_listed v.atoms.keys (ground p ds)) =
    λ p ds.
    let same : is_of_pattern w x (ground p ds) ≡ ((x.predicate == p) && is_instance w x.slots ds) = ap (λ es. (x.predicate == p) && is_instance w x.slots es) (objects_valued w ds) in
    ap (λ ks. is_listed ks (ground p ds)) e
    ∙ elim ((x.predicate == p) && is_instance w x.slots ds) as (λ b. ((x.predicate == p) && is_instance w x.slots ds) ≡ b → is_listed (filter (λ a. not (is_of_pattern w x (atom_of a))) v.atoms.keys) (ground p ds) ≡ unwrap_or (cond b (Some false) None) (is_listed v.atoms.keys (ground p ds))) [
      | true ↦ λ q. none_kept (is_of_pattern w x) (ground p ds) (same ∙ q) v.atoms.keys
      | false ↦ λ q. all_kept (is_of_pattern w x) (ground p ds) (same ∙ q) v.atoms.keys
    ] refl in
    λ i. record { truth = λ p ds. each p ds i; value = (world_of v).value }
