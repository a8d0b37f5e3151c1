-- Words that the proofs share: databases in which each place has one value, databases as closing leaves them, and images of effects.
use Rattle.std.proofs.Common.{◌≡◌, ℕ, List, map}
use Rattle.pks_terms.specs.Sets.{Each, IsIn, IsOrdered}
use Rattle.pks_terms.specs.Syntax.{Literal}
use Rattle.pks_terms.specs.Orders.{literal_cmp, atom_cmp}
use Rattle.pks_terms.specs.Signatures.{Signature}
use Rattle.pks_terms.specs.Databases.{Five, values_at}
use Rattle.pks_terms.specs.Closure.{Outcome, Next, Clash, in_sequence}
use Rattle.pks_terms.specs.Actions.{Target, Set, Unset, Clear, Assign, Effect}
use Rattle.pks_terms.specs.Moments.{IsInOrder}
use Rattle.pks_laws_symmetry.specs.Renamed.{IsRenaming, renamed_inner, renamed_term, renamed_conj, renamed_atom, renamed_pattern, AreImages}

-- each place has one value
abbrev pub HasOneValue : List Literal → Type 0
HasOneValue kf = (h : ℕ) (ds : List ℕ) (v w : ℕ) → IsIn v (values_at kf h ds) → IsIn w (values_at kf h ds) → v ≡ w

-- databases that are each other's images, in each of which each place has one value
pub record Mirror (s : Signature) (f g : ℕ → ℕ) (d e : Five) : Type 0 where
  pub renaming : IsRenaming s f g
  pub images : AreImages f g d e
  pub one : HasOneValue d.kf
  pub other : HasOneValue e.kf

-- known literals are a set; equations, conjunctions, groups and lists of regions stand in order
pub record IsNeat (d : Five) : Type 0 where
  pub sorted : IsOrdered literal_cmp d.kf
  pub known : Each IsInOrder d.kf
  pub whether : Each (λ c. Each IsInOrder c × IsOrdered literal_cmp c) d.kw
  pub groups : Each (λ x. Each IsInOrder x × (in_sequence x ≡ x)) d.kx
  pub regions : Each (λ r. IsOrdered atom_cmp r.listed) d.lcw

-- a target with the objects' images in their place
abbrev pub renamed_target : (ℕ → ℕ) → Target → Target
renamed_target f (Set a) = Set (renamed_atom f a)
renamed_target f (Unset a) = Unset (renamed_atom f a)
renamed_target f (Clear x) = Clear (renamed_pattern f x)
renamed_target f (Assign h ts value) = Assign h (map (renamed_inner f) ts) (renamed_term f value)

-- an effect with the objects' images in their place
abbrev pub renamed_effect : (ℕ → ℕ) → Effect → Effect
renamed_effect f e = record { condition = renamed_conj f e.condition; target = renamed_target f e.target }

-- both clash, or both go on, in order, with databases that are each other's images
abbrev pub EndImage : (ℕ → ℕ) → (ℕ → ℕ) → Outcome → Outcome → Type 0
EndImage f g (Next x) (Next y) = AreImages f g x y × IsOrdered literal_cmp x.kf × IsOrdered literal_cmp y.kf
EndImage f g (Clash l) (Clash m) = Unit {0}
EndImage f g (Next x) (Clash m) = ⊥
EndImage f g (Clash l) (Next y) = ⊥
