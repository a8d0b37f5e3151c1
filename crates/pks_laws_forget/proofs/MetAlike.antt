-- Where aims are told alike before and after each step of those whose first moment is left out, or met there for good, the two histories meet the same aims.
use Rattle.std.proofs.Common.{◌≡◌, ◌⊎◌, ◌&&◌, ◌||◌, Bool, true, false, not, cond, List, [], ◌∷◌, map, refl, sym, ap, ◌∙◌, inl, inr, ⊎_elim, true≢false}
use Rattle.std.specs.List.{list_all, list_any}
use Rattle.std.proofs.lemmas.Bool.{and_parts, or_cases}
use Rattle.pks_terms.specs.Actions.{Instance}
use Rattle.pks_terms.specs.Aims.{is_met, met}
use Rattle.pks_terms.specs.Databases.{Five}
use Rattle.pks_terms.specs.Problems.{Aim, Now, AtStart, Always, Once, Problem}
use Rattle.pks_terms.specs.Queries.{Plain, Know, KnowWhether, KnowValue, Query, answers_plain, answers}
use Rattle.pks_terms.specs.Settling.{History}
use Rattle.pks_terms.specs.Signatures.{Signature}
use Rattle.pks_laws_forget.specs.Fewer.{is_held}
use Rattle.pks_laws_forget.specs.Looks.{is_told_alike, aim_is_told_alike, aims_are_told_alike, AreWithout}
use Rattle.pks_laws_forget.proofs.Held.{answered}
use Rattle.pks_laws_forget.proofs.Lists.{alike_same}
use Rattle.pks_laws_forget.proofs.Thinned.{Steps, without_last, without_weaker}

and_same : (a b c : Bool) → a ≡ b → a && (b && c) ≡ b && c
and_same true b c e = refl
and_same false b c e = ap (λ b. b && c) e

-- where the first is as the second, or is so, it may go
and_drops : (a b c : Bool) → (a ≡ b) ⊎ (a ≡ true) → a && (b && c) ≡ b && c
and_drops a b c (inl e) = and_same a b c e
and_drops a b c (inr e) = ap (λ x. x && (b && c)) e

or_same : (a b c : Bool) → a ≡ b → a || (b || c) ≡ b || c
or_same true b c e = ap (λ b. b || c) e
or_same false b c e = refl

module _ (s : Signature) where
  plain_told : (d x : Five) (q : Plain) → is_told_alike s d x q ≡ true → answers_plain s d q ≡ answers_plain s x q
  plain_told d x (Know l) k = alike_same _ _ k
  plain_told d x (KnowWhether c) k = absurd (true≢false (sym k))
  plain_told d x (KnowValue t) k = absurd (true≢false (sym k))

  told : (d x : Five) (q : Query) → is_told_alike s d x q.asks ≡ true → answers s d q ≡ answers s x q
  told d x q k = λ i. cond q.denied (not (plain_told d x q.asks k i)) (plain_told d x q.asks k i)

  module _ (q : Query) where
    abbrev Tells : Five → Instance → Five → Type 0
    Tells d i x = is_told_alike s d x q.asks ≡ true

    abbrev at : Five → Bool
    at d = answers s d q

    abbrev behind_first : Steps → List Five
    behind_first xs = map (λ (x : Instance × Five). x.1) xs

    first_told : (d : Five) (xs : Steps) (e : Five) (ys : Steps) → AreWithout Tells d xs e ys → at d ≡ at e
    first_told d [] e [] k = ap at k
    first_told d [] e (y ∷ ys) k = absurd k
    first_told d (x ∷ xs) e [] k = told d x.1 q k.0 ∙ first_told x.1 xs e [] k.1
    first_told d (x ∷ xs) e (y ∷ ys) (inl k) = told d x.1 q k.0 ∙ first_told x.1 xs e (y ∷ ys) k.1
    first_told d (x ∷ xs) e (y ∷ ys) (inr k) = ap at k.0

    -- told alike, or met for good
    abbrev Meets : Five → Instance → Five → Type 0
    Meets d i x = (is_told_alike s d x q.asks || is_held s d q) ≡ true

    meets : (d x : Five) → (is_told_alike s d x q.asks || is_held s d q) ≡ true → (at d ≡ at x) ⊎ (at d ≡ true)
    meets d x k = ⊎_elim (λ t. inl (told d x q t)) (λ h. inr (answered s d q h)) (or_cases (is_told_alike s d x q.asks) _ k)

    all_told : (d : Five) (xs : Steps) (e : Five) (ys : Steps) → AreWithout Meets d xs e ys → list_all at (d ∷ behind_first xs) ≡ list_all at (e ∷ behind_first ys)
    all_told d [] e [] k = ap (λ d. list_all at (d ∷ [])) k
    all_told d [] e (y ∷ ys) k = absurd k
    all_told d (x ∷ xs) e [] k = and_drops (at d) (at x.1) (list_all at (behind_first xs)) (meets d x.1 k.0) ∙ all_told x.1 xs e [] k.1
    all_told d (x ∷ xs) e (y ∷ ys) (inl k) = and_drops (at d) (at x.1) (list_all at (behind_first xs)) (meets d x.1 k.0) ∙ all_told x.1 xs e (y ∷ ys) k.1
    all_told d (x ∷ xs) e (y ∷ ys) (inr k) = λ i. at (k.0 i) && all_told x.1 xs y.1 ys k.2 i

    some_told : (d : Five) (xs : Steps) (e : Five) (ys : Steps) → AreWithout Tells d xs e ys → list_any at (d ∷ behind_first xs) ≡ list_any at (e ∷ behind_first ys)
    some_told d [] e [] k = ap (λ d. list_any at (d ∷ [])) k
    some_told d [] e (y ∷ ys) k = absurd k
    some_told d (x ∷ xs) e [] k = or_same (at d) (at x.1) (list_any at (behind_first xs)) (told d x.1 q k.0) ∙ some_told x.1 xs e [] k.1
    some_told d (x ∷ xs) e (y ∷ ys) (inl k) = or_same (at d) (at x.1) (list_any at (behind_first xs)) (told d x.1 q k.0) ∙ some_told x.1 xs e (y ∷ ys) k.1
    some_told d (x ∷ xs) e (y ∷ ys) (inr k) = λ i. at (k.0 i) || some_told x.1 xs y.1 ys k.2 i

  -- ---- aims

  abbrev TellsAim : Aim → Five → Instance → Five → Type 0
  TellsAim a d i x = aim_is_told_alike s d x a ≡ true

  abbrev TellsEach : List Aim → Five → Instance → Five → Type 0
  TellsEach aims d i x = list_all (aim_is_told_alike s d x) aims ≡ true

  aim_told : (h g : History) (a : Aim) → AreWithout (TellsAim a) h.start h.steps g.start g.steps → is_met s h a ≡ is_met s g a
  aim_told h g (Now q) k = ap (λ d. answers s d q) (without_last (TellsAim (Now q)) h.start h.steps g.start g.steps k)
  aim_told h g (AtStart q) k = first_told q h.start h.steps g.start g.steps k
  aim_told h g (Always q) k = all_told q h.start h.steps g.start g.steps k
  aim_told h g (Once q) k = some_told q h.start h.steps g.start g.steps k

  each_told : (h g : History) (aims : List Aim) → AreWithout (TellsEach aims) h.start h.steps g.start g.steps → list_all (is_met s h) aims ≡ list_all (is_met s g) aims
  each_told h g [] k = refl
  each_told h g (a ∷ aims) k =
      let one = aim_told h g a (without_weaker (TellsEach (a ∷ aims)) (TellsAim a) (λ d i x t. (and_parts (aim_is_told_alike s d x a) _ t).0) h.start h.steps g.start g.steps k) in
      let rest = each_told h g aims (without_weaker (TellsEach (a ∷ aims)) (TellsEach aims) (λ d i x t. (and_parts (aim_is_told_alike s d x a) _ t).1) h.start h.steps g.start g.steps k) in
      λ i. one i && rest i

pub met_told : (p : Problem) (h g : History) → AreWithout (λ d i x. aims_are_told_alike p d x ≡ true) h.start h.steps g.start g.steps → met p h ≡ met p g
unfolding met
met_told p h g k = each_told p.signature h g p.goal k
