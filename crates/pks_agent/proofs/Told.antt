-- The arguments of an action, told one after another.
use Rattle.std.proofs.Common.{◌≡◌, ◌==◌, ◌≤◌, ◌+◌, ◌∙◌, ℕ, true, List, [], ◌∷◌, map, length, Vec, vec_len, vec_capacity, refl, sym, subst, arith}
use Rattle.std.proofs.lemmas.Bool.{eqb-true}
use Rattle.std.specs.declared.alloc.Global.{Global}
use Rattle.pks_terms.specs.Sets.{Each}
use Rattle.pks_terms.specs.Views.{inner_of}
use Rattle.pks_terms.specs.declared.term.Inner.{Inner as DInner}
use Rattle.pks_agent.specs.Asking.{HasTold}
use Rattle.pks_agent.specs.Rooms.{argument_count, IsSpoken}
use Rattle.pks_agent.proofs.Joining.{count_more}

-- none is left
pub none_told : (ts : List DInner) (k : ℕ) (v : Vec DInner Global) → (length ts == 0) ≡ true → Each IsSpoken (map inner_of v.items) → HasTold ts k k v v
none_told [] k v none spoken = record { next_is = omega arith; few = omega arith; spoken = spoken; count = omega arith; room = refl }
none_told (t ∷ ts) k v none spoken = let same : length (t ∷ ts) ≡ 0 = eqb-true (length (t ∷ ts)) 0 none in absurd (omega (arith, same))

-- one, and then the others
pub more_told : (t : DInner) (ts all : List DInner) (k n m : ℕ) (v w x : Vec DInner Global) → all ≡ t ∷ ts → n ≡ k + argument_count (inner_of t ∷ []) → n ≤ k + 1 → vec_len w ≡ vec_len v + 1 → vec_capacity w ≡ vec_capacity v
    → HasTold ts n m w x → HasTold all k m v x
more_told t ts all k n m v w x is next few count room rest =
    let more : argument_count (map inner_of (t ∷ ts)) ≡ argument_count (inner_of t ∷ []) + argument_count (map inner_of ts) = count_more (inner_of t) (map inner_of ts) in
    subst (λ all. HasTold all k m v x) (sym is)
    (record {
      next_is = omega (arith, next, more, rest.next_is);
      few = omega (arith, few, rest.few);
      spoken = rest.spoken;
      count = omega (arith, count, rest.count);
      room = rest.room ∙ room;
    })
