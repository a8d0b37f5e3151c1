-- Landmarks gathered one after another.
use Rattle.std.proofs.Common.{◌≡◌, ◌≤◌, ◌<◌, ◌-◌, ◌++◌, ◌∙◌, ℕ, Bool, true, false, true≢false, ⊎_elim, List, [], ◌∷◌, map, take, drop, get_or, length, Option, Some, IfSome, option_map, ap, subst, sym, refl}
use Rattle.std.specs.Prelude.{nat_lt, slice_get}
use Rattle.std.specs.List.{list_any}
use Rattle.std.specs.Ordering.{is_eq}
use Rattle.std.proofs.lemmas.Cmp.{tied_itself}
use Rattle.std.proofs.lemmas.List.{map_push}
use Rattle.std.proofs.lemmas.List.Folds.{list_any_at}
use Rattle.std.proofs.lemmas.Bool.{or_cases, or_left, or_right, ltb-true}
use Rattle.std.proofs.lemmas.Option.{slice_get-map, slice_get_read, slice_get_within, get_or_from_slice_get}
use Rattle.pks_terms.specs.Sets.{Each}
use Rattle.pks_terms.specs.Syntax.{Literal}
use Rattle.pks_terms.specs.Orders.{literal_eq}
use Rattle.pks_terms.specs.Totality.{literal_cmp_total}
use Rattle.pks_terms.specs.Worlds.{World, true_in}
use Rattle.pks_terms.specs.Views.{literal_of, literals_in}
use Rattle.pks_terms.specs.declared.literal.Literal as literal
use Rattle.pks_search_distance.specs.Relaxed.{GroundAction}
use Rattle.pks_search_distance.specs.Gained.{ground_action_of}
use Rattle.pks_search_distance.specs.declared.ground_actions.GroundAction.{GroundAction as DGroundAction}
use Rattle.pks_search_distance.specs.Landmarks.{is_met, is_of_mark, may_reach, asks, AddsMarks, AddsBehind, AreAsking, IsWider}
use Rattle.pks_search_distance.specs.Marked.{landmark_of, landmarks_of}
use Rattle.pks_search_distance.specs.declared.landmarks.Landmark.{Landmark}
use Rattle.pks_search_distance.proofs.Wanting.{each_push}
use Rattle.pks_search_distance.proofs.Lists.{first_and_others}
use Rattle.pks_search_distance.proofs.Marks.{one_met}

-- ---- wider landmarks

pub wider_itself : (c : List Literal) → IsWider c c
wider_itself c l h = h

pub wider_on : (a b c : List Literal) → IsWider a b → IsWider b c → IsWider a c
wider_on a b c f g l h = g l (f l h)

module _ {X : Type 0} (p : X → Bool) where
  any_push : (xs : List X) (x : X) → list_any p xs ≡ true → list_any p (xs ++ x ∷ []) ≡ true
  any_push [] x h = absurd (true≢false (sym h))
  any_push (y ∷ xs) x h = ⊎_elim (λ e. or_left (p y) (list_any p (xs ++ x ∷ [])) e) (λ e. or_right (p y) (list_any p (xs ++ x ∷ [])) (any_push xs x e)) (or_cases (p y) (list_any p xs) h)

  any_last : (xs : List X) (x : X) → p x ≡ true → list_any p (xs ++ x ∷ []) ≡ true
  any_last [] x h = or_left (p x) false h
  any_last (y ∷ xs) x h = or_right (p y) (list_any p (xs ++ x ∷ [])) (any_last xs x h)

  any_through : (q : X → Bool) (xs : List X) → ((x : X) → p x ≡ true → q x ≡ true) → list_any p xs ≡ true → list_any q xs ≡ true
  any_through q [] f h = absurd (true≢false (sym h))
  any_through q (x ∷ xs) f h = ⊎_elim (λ e. or_left (q x) (list_any q xs) (f x e)) (λ e. or_right (q x) (list_any q xs) (any_through q xs f e)) (or_cases (p x) (list_any p xs) h)

itself : (l : Literal) → literal_eq l l ≡ true
unfolding literal_eq
itself l = ap is_eq (tied_itself literal_cmp_total l)

module _ (ls : List literal.Literal) (l : literal.Literal) where
  pub wider_push : IsWider (literals_in ls) (literals_in (ls ++ l ∷ []))
  wider_push k h = subst (λ c. is_of_mark k c ≡ true) (sym (map_push literal_of ls l)) (any_push (λ m. literal_eq m k) (literals_in ls) (literal_of l) h)

  pub added_push : is_of_mark (literal_of l) (literals_in (ls ++ l ∷ [])) ≡ true
  added_push = subst (λ c. is_of_mark (literal_of l) c ≡ true) (sym (map_push literal_of ls l)) (any_last (λ m. literal_eq m (literal_of l)) (literals_in ls) (literal_of l) (itself (literal_of l)))

-- it is met where the first one is
pub wider_met : (c d : List Literal) → IsWider c d → (w : World) → is_met w c ≡ true → is_met w d ≡ true
wider_met [] d f w h = absurd (true≢false (sym h))
wider_met (l ∷ c) d f w h =
    ⊎_elim (λ e. one_met w d l e (f l (or_left (literal_eq l l) (is_of_mark l c) (itself l)))) (λ e. wider_met c d (λ k i. f k (or_right (literal_eq l k) (is_of_mark k c) i)) w e)
    (or_cases (true_in w l) (is_met w c) h)

-- ---- preconditions that ground actions ask for

pub asks_wider : (x : GroundAction) (c d : List Literal) → IsWider c d → asks x c ≡ true → asks x d ≡ true
asks_wider x c d f h = any_through (λ l. is_of_mark l c) (λ l. is_of_mark l d) x.pre f h

-- one that is among its preconditions
pub asks_it : (x : DGroundAction) (k : ℕ) (ls : List literal.Literal) (l : literal.Literal) (c : List Literal) → ls ≡ x.pre.items → true ≡ nat_lt k (length ls) → l ≡ get_or ls k l → is_of_mark (literal_of l) c ≡ true → asks (ground_action_of x) c ≡ true
asks_it x k ls l c same within is h =
    let inside : k < length ls = ltb-true k (length ls) (sym within) in
    let is_there : slice_get (literals_in ls) k ≡ Some (literal_of l) = slice_get-map literal_of ls k ∙ ap (option_map literal_of) (slice_get_read ls (length ls) k l refl inside is) in
    subst (λ ms. list_any (λ m. is_of_mark m c) (literals_in ms) ≡ true) same
    (list_any_at (λ m. is_of_mark m c) (literals_in ls) k (literal_of l) (slice_get_within (literals_in ls) k (literal_of l) is_there)
    (subst (λ m. is_of_mark m c ≡ true) (sym (get_or_from_slice_get (literals_in ls) k (literal_of l) (literal_of l) is_there)) h))

-- what holds of the first ground action, and of the others
pub asking_split : (xs : List DGroundAction) (x : DGroundAction) (c new : List Literal) → 1 ≤ length xs → x ≡ get_or xs 0 x → (may_reach (ground_action_of x) c ≡ true → asks (ground_action_of x) new ≡ true) → AreAsking (map ground_action_of (take (length xs - 1) (drop 1 xs))) c new → AreAsking (map ground_action_of xs) c new
asking_split xs x c new is_some is f g =
    let others = map ground_action_of (take (length xs - 1) (drop 1 xs)) in
    subst (λ ys. AreAsking ys c new) (sym (first_and_others ground_action_of xs x is_some ∙ ap (λ (y : DGroundAction). ground_action_of y ∷ others) (sym is))) (f, g)

-- ---- landmarks

-- nothing more
pub marks_none : (ls : List Literal) (cs : List (List Literal)) → AddsMarks ls cs cs
marks_none ls cs w so k = k

-- one that is met where the literals are true
pub mark_pushed : (ls : List Literal) (cs : List Landmark) (c : Landmark) → ((w : World) → Each (λ l. true_in w l ≡ true) ls → is_met w (landmark_of c) ≡ true) → AddsMarks ls (landmarks_of cs) (landmarks_of (cs ++ c ∷ []))
mark_pushed ls cs c met w so k = subst (Each (λ c. is_met w c ≡ true)) (sym (map_push landmark_of cs c)) (each_push (λ c. is_met w c ≡ true) (landmarks_of cs) (landmark_of c) k (met w so))

-- the literal alone
pub alone_met : (l : Literal) (c : List Literal) → c ≡ l ∷ [] → (w : World) → Each (λ l. true_in w l ≡ true) (l ∷ []) → is_met w c ≡ true
alone_met l c e w so = subst (λ d. is_met w d ≡ true) (sym e) (or_left (true_in w l) false so.0)

-- what the first literal adds, and then the others
pub marks_all : (l : Literal) (rest : List Literal) (old mid new : List (List Literal)) → AddsMarks (l ∷ []) old mid → AddsMarks rest mid new → AddsMarks (l ∷ rest) old new
marks_all l rest old mid new f g w so k = g w so.1 (f w (so.0, tt) k)

-- the same of a list that isn't empty
pub marks_split : (ls : List literal.Literal) (d : literal.Literal) (old mid new : List (List Literal)) → 1 ≤ length ls → AddsMarks (literal_of (get_or ls 0 d) ∷ []) old mid → AddsMarks (literals_in (take (length ls - 1) (drop 1 ls))) mid new → AddsMarks (literals_in ls) old new
marks_split ls d old mid new h f g =
    subst (λ xs. AddsMarks xs old new) (sym (first_and_others literal_of ls d h)) (marks_all (literal_of (get_or ls 0 d)) (literals_in (take (length ls - 1) (drop 1 ls))) old mid new f g)

-- ---- going back

pub behind_none : (c : List Literal) (cs : List (List Literal)) → AddsBehind c cs cs
behind_none c cs w h k = k

-- a wider one, and those behind it
pub behind_more : (c : List Literal) (old mid : List Landmark) (o : Option Landmark) (d e : Landmark) (new : List (List Literal)) → o ≡ Some d → IfSome o (λ d. IsWider c (landmark_of d)) → landmark_of e ≡ landmark_of d → mid ≡ old ++ e ∷ [] → AddsBehind (landmark_of d) (landmarks_of mid) new → AddsBehind c (landmarks_of old) new
behind_more c old mid o d e new is f s i g w h k =
    let met : is_met w (landmark_of d) ≡ true = wider_met c (landmark_of d) (subst (λ o. IfSome o (λ d. IsWider c (landmark_of d))) is f) w h in
    let all = each_push (λ c. is_met w c ≡ true) (landmarks_of old) (landmark_of e) k (subst (λ c. is_met w c ≡ true) (sym s) met) in
    g w met (subst (Each (λ c. is_met w c ≡ true)) (sym (ap landmarks_of i ∙ map_push landmark_of old e)) all)

-- those behind a literal alone
pub behind_alone : (l : Literal) (c : List Literal) (old new : List (List Literal)) → c ≡ l ∷ [] → AddsBehind c old new → AddsMarks (l ∷ []) old new
behind_alone l c old new e g w so k = g w (alone_met l c e w so) k

-- the literal alone, pushed
pub one_pushed : (l : Literal) (cs : List Landmark) (c : Landmark) (new : List Landmark) → landmark_of c ≡ l ∷ [] → new ≡ cs ++ c ∷ [] → AddsMarks (l ∷ []) (landmarks_of cs) (landmarks_of new)
one_pushed l cs c new e k =
    subst (λ (xs : List Landmark). AddsMarks (l ∷ []) (landmarks_of cs) (landmarks_of xs)) (sym k) (mark_pushed (l ∷ []) cs c (alone_met l (landmark_of c) e))
