-- What literals that are known answer stays so where at least the same holds, and what aims over time then ask of a moment.
use Rattle.std.proofs.Common.{◌≡◌, ◌||◌, Bool, true, false, cond, not, List, [], ◌∷◌, refl, sym, subst, ⊎_elim, true≢false}
use Rattle.std.specs.List.{list_all, list_any}
use Rattle.std.proofs.lemmas.Bool.{and_parts, and_from, or_left, or_right, or_cases}
use Rattle.pks_terms.specs.Syntax.{Literal, negated}
use Rattle.pks_terms.specs.Signatures.{Signature}
use Rattle.pks_terms.specs.Databases.{Five, holds}
use Rattle.pks_terms.specs.Problems.{Aim, Now, AtStart, Always, Once}
use Rattle.pks_terms.specs.Queries.{Plain, Know, KnowWhether, KnowValue, Query, is_member, known_whether, is_decided, answers_plain, answers}
use Rattle.pks_laws_forget.specs.Fewer.{is_decided_by_literals, is_known_for_good, is_held}
use Rattle.pks_laws_forget.specs.Looks.{are_alike, is_told_alike, aim_is_told_alike}
use Rattle.pks_laws_forget.proofs.Ends.{all_more}

-- what holds in the one holds in the other
abbrev pub Upholds : Signature → Five → Five → Type 0
Upholds s a b = (l : Literal) → holds s a l ≡ true → holds s b l ≡ true

any_more : {X : Type 0} (f g : X → Bool) → ((x : X) → f x ≡ true → g x ≡ true) → (xs : List X) → list_any f xs ≡ true → list_any g xs ≡ true
any_more f g on [] k = k
any_more f g on (x ∷ xs) k = ⊎_elim (λ e. or_left _ _ (on x e)) (λ e. or_right _ _ (any_more f g on xs e)) (or_cases (f x) _ k)

module _ (s : Signature) (m d : Five) (up : Upholds s m d) where
  -- ---- what holds there is held here, and answers

  told_held : (l : Literal) → (holds s m l || holds s m (negated l)) ≡ true → (holds s d l || holds s d (negated l)) ≡ true
  told_held l e =
      ⊎_elim (λ k. or_left (holds s d l) (holds s d (negated l)) (up l k)) (λ k. or_right (holds s d l) (holds s d (negated l)) (up (negated l) k)) (or_cases (holds s m l) (holds s m (negated l)) e)

  decided_held : (c : List Literal) → is_decided_by_literals s m c ≡ true → is_decided_by_literals s d c ≡ true
  decided_held c k =
      ⊎_elim
      (λ a. or_left (list_any (λ l. holds s d (negated l)) c) _ (any_more (λ l. holds s m (negated l)) (λ l. holds s d (negated l)) (λ l. up (negated l)) c a))
      (λ a. or_right _ (list_all (λ l. holds s d l || holds s d (negated l)) c) (all_more (λ l. holds s m l || holds s m (negated l)) (λ l. holds s d l || holds s d (negated l)) told_held c a))
      (or_cases (list_any (λ l. holds s m (negated l)) c) (list_all (λ l. holds s m l || holds s m (negated l)) c) k)

  known_held : (q : Plain) → is_known_for_good s m q ≡ true → is_known_for_good s d q ≡ true
  known_held (Know l) k = up l k
  known_held (KnowWhether c) k = decided_held c k
  known_held (KnowValue t) k = k

  pub still_held : (q : Query) → is_held s m q ≡ true → is_held s d q ≡ true
  still_held q k = let b = and_parts (not q.denied) (is_known_for_good s m q.asks) k in and_from (not q.denied) _ b.0 (known_held q.asks b.1)

module _ (s : Signature) (d : Five) where
  -- ---- what is held is answered

  literal_decided : (l : Literal) → (holds s d l || holds s d (negated l)) ≡ true → is_decided s d l ≡ true
  unfolding is_decided
  literal_decided l e = or_left (holds s d l || holds s d (negated l)) _ e

  whether_answered : (c : List Literal) → is_decided_by_literals s d c ≡ true → known_whether s d c ≡ true
  unfolding known_whether
  whether_answered c k =
      or_right (is_member d c) (list_any (λ l. holds s d (negated l)) c || list_all (is_decided s d) c)
      (⊎_elim
      (λ a. or_left (list_any (λ l. holds s d (negated l)) c) (list_all (is_decided s d) c) a)
      (λ a. or_right (list_any (λ l. holds s d (negated l)) c) (list_all (is_decided s d) c) (all_more (λ l. holds s d l || holds s d (negated l)) (is_decided s d) literal_decided c a))
      (or_cases (list_any (λ l. holds s d (negated l)) c) (list_all (λ l. holds s d l || holds s d (negated l)) c) k))

  plain_answered : (q : Plain) → is_known_for_good s d q ≡ true → answers_plain s d q ≡ true
  plain_answered (Know l) k = k
  plain_answered (KnowWhether c) k = whether_answered c k
  plain_answered (KnowValue t) k = absurd (true≢false (sym k))

  pub answered : (q : Query) → is_held s d q ≡ true → answers s d q ≡ true
  answered q k =
      let b = and_parts (not q.denied) (is_known_for_good s d q.asks) k in
      elim q.denied as (λ b. not b ≡ true → cond b (not (answers_plain s d q.asks)) (answers_plain s d q.asks) ≡ true) [ true ↦ λ n. absurd (true≢false (sym n)) | false ↦ λ n. plain_answered q.asks b.1 ] b.0

-- what is held at one moment is answered where the same holds
pub held_answers : (s : Signature) (m d : Five) → Upholds s m d → (q : Query) → is_held s m q ≡ true → answers s d q ≡ true
held_answers s m d up q k = answered s d q (still_held s m d up q k)

-- ---- aims that are told alike wherever the same holds, or are met for good

-- it is asked whether a literal is known
abbrev is_know : Plain → Bool
is_know (Know l) = true
is_know (KnowWhether c) = false
is_know (KnowValue t) = false

-- so it is by the aim, or it is one of the last moment, or one of each moment that this one meets for good
abbrev pub is_minded : Signature → Five → Aim → Bool
is_minded s d (Now q) = true
is_minded s d (AtStart q) = is_know q.asks
is_minded s d (Always q) = is_know q.asks || is_held s d q
is_minded s d (Once q) = is_know q.asks

alike_itself : (b : Bool) → are_alike b b ≡ true
alike_itself true = refl
alike_itself false = refl

module _ (s : Signature) (d x : Five) where
  plain_asks : (q : Plain) → is_told_alike s d x q ≡ true → is_know q ≡ true
  plain_asks (Know l) k = refl
  plain_asks (KnowWhether c) k = k
  plain_asks (KnowValue t) k = k

  aim_minded : (a : Aim) → aim_is_told_alike s d x a ≡ true → is_minded s d a ≡ true
  aim_minded (Now q) k = refl
  aim_minded (AtStart q) k = plain_asks q.asks k
  aim_minded (Always q) k = ⊎_elim (λ t. or_left _ _ (plain_asks q.asks t)) (λ h. or_right _ _ h) (or_cases (is_told_alike s d x q.asks) _ k)
  aim_minded (Once q) k = plain_asks q.asks k

  pub aims_minded : (aims : List Aim) → list_all (aim_is_told_alike s d x) aims ≡ true → list_all (is_minded s d) aims ≡ true
  aims_minded aims k = all_more (aim_is_told_alike s d x) (is_minded s d) aim_minded aims k

  module _ (same : (l : Literal) → holds s d l ≡ holds s x l) where
    plain_alike : (q : Plain) → is_know q ≡ true → is_told_alike s d x q ≡ true
    plain_alike (Know l) k = subst (λ b. are_alike (holds s d l) b ≡ true) (same l) (alike_itself (holds s d l))
    plain_alike (KnowWhether c) k = k
    plain_alike (KnowValue t) k = k

    aim_alike : (a : Aim) → is_minded s d a ≡ true → aim_is_told_alike s d x a ≡ true
    aim_alike (Now q) k = refl
    aim_alike (AtStart q) k = plain_alike q.asks k
    aim_alike (Always q) k = ⊎_elim (λ t. or_left _ _ (plain_alike q.asks t)) (λ h. or_right _ _ h) (or_cases (is_know q.asks) _ k)
    aim_alike (Once q) k = plain_alike q.asks k

    pub aims_alike : (aims : List Aim) → list_all (is_minded s d) aims ≡ true → list_all (aim_is_told_alike s d x) aims ≡ true
    aims_alike aims k = all_more (is_minded s d) (aim_is_told_alike s d x) aim_alike aims k

module _ (s : Signature) (d f : Five) (up : Upholds s d f) where
  aim_still : (a : Aim) → is_minded s d a ≡ true → is_minded s f a ≡ true
  aim_still (Now q) k = refl
  aim_still (AtStart q) k = k
  aim_still (Always q) k = ⊎_elim (λ t. or_left _ _ t) (λ h. or_right _ _ (still_held s d f up q h)) (or_cases (is_know q.asks) _ k)
  aim_still (Once q) k = k

  pub aims_still : (aims : List Aim) → list_all (is_minded s d) aims ≡ true → list_all (is_minded s f) aims ≡ true
  aims_still aims k = all_more (is_minded s d) (is_minded s f) aim_still aims k
