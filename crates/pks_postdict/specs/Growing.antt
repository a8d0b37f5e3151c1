-- How moments grow, and what needn't be computed again.
use Rattle.std.specs.Prelude.{ℕ, Bool, true, false, ◌≡◌, ◌<◌, ◌+◌, ◌^◌, nat_le, List, [], ◌∷◌, length, None}
use Rattle.std.specs.List.{list_any}
use Rattle.pks_terms.specs.Signatures.{Signature}
use Rattle.pks_terms.specs.Closure.{first_clash}
use Rattle.pks_terms.specs.Problems.{Problem}
use Rattle.pks_terms.specs.Settling.{forward, backward}
use Rattle.pks_terms.specs.Saturated.{Within, IsSaturated}
use Rattle.pks_terms.specs.Views.{instance_of}
use Rattle.pks_query_lookup.specs.Fives.{five_of}
use Rattle.pks_postdict.specs.declared.family.Held.{Held}
use Rattle.pks_postdict.specs.declared.family.Held.TheVariants as held_is
use Rattle.pks_postdict.specs.declared.family.Place.{Place}
use Rattle.pks_postdict.specs.declared.family.Link.{Link}
use Rattle.pks_postdict.specs.Families.{held_of}

-- whether the rules are to be read again at a moment: not for closed databases, nor where nothing grew
abbrev pub is_unread : Held → Bool → Bool
is_unread (held_is.Closed d) grew = false
is_unread (held_is.Grown rc) grew = grew

-- databases that are as they were handed in don't clash
abbrev pub IsFine : Signature → Held → Type 0
IsFine s (held_is.Closed d) = first_clash s (five_of d) ≡ None
IsFine s (held_is.Grown rc) = Unit {0}

-- where they are not, the rules add nothing to it
abbrev pub IsSparedAlone : Signature → Place → Type 0
IsSparedAlone s d = (is_unread d.held d.grew ≡ false → IsSaturated s (held_of d.held)) × IsFine s d.held

-- where the moment before did not grow, the next one has all that it gives
abbrev pub IsSparedForward : Problem → Place → Link → Type 0
IsSparedForward p d x = d.grew ≡ false → Within (forward p (instance_of x.step) (held_of d.held)) (held_of x.place.held).kf

-- where neither grew, the moment before has all that it gets
abbrev pub IsSparedBackward : Problem → Place → Link → Type 0
IsSparedBackward p d x = d.grew ≡ false → x.place.grew ≡ false → Within (backward p (instance_of x.step) (held_of d.held) (held_of x.place.held)) (held_of d.held).kf

-- so at each moment, from d on
abbrev pub AreSpared : Problem → Place → List Link → Type 0
AreSpared p d [] = IsSparedAlone p.signature d
AreSpared p d (x ∷ xs) = IsSparedAlone p.signature d × IsSparedForward p d x × IsSparedBackward p d x × AreSpared p x.place xs

-- the moment e is d, longer where it is marked as grown, and else the same
pub record IsGrowth (d e : Place) : Type 0 where
  pub longer : e.grew ≡ true → (length (held_of d.held).kf < length (held_of e.held).kf) × (length (held_of e.held).kf < 2 ^ 64)
  pub same : e.grew ≡ false → held_of e.held ≡ held_of d.held
  pub read : is_unread e.held e.grew ≡ e.grew
  pub fine : (s : Signature) → IsFine s d.held → IsFine s e.held

-- so behind the same instance
pub record IsLinkGrowth (x y : Link) : Type 0 where
  pub step : instance_of y.step ≡ instance_of x.step
  pub growth : IsGrowth x.place y.place

-- so at each moment
abbrev pub AreGrowths : List Link → List Link → Type 0
AreGrowths [] [] = Unit {0}
AreGrowths (x ∷ xs) (y ∷ ys) = IsLinkGrowth x y × AreGrowths xs ys
AreGrowths [] (y ∷ ys) = ⊥
AreGrowths (x ∷ xs) [] = ⊥

-- some moment is marked as grown
abbrev pub some_grew : List Link → Bool
some_grew xs = list_any (λ x. x.place.grew) xs

-- of these moments, behind which m more follow, those with at most n moments behind them are marked as grown
abbrev pub AreMarked : ℕ → ℕ → List Link → Type 0
AreMarked n m [] = Unit {0}
AreMarked n m (x ∷ xs) = (x.place.grew ≡ nat_le (length xs + m) n) × AreMarked n m xs
