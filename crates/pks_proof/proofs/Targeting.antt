-- Walks over the effects of an action, and over what is cited after it.
use Rattle.std.proofs.Common.{◌≡◌, ◌&&◌, ◌||◌, ℕ, suc, Bool, true, false, not, List, [], ◌∷◌, Option, refl, sym, ap, ◌∙◌}
use Rattle.std.specs.List.{list_any, list_all, cons_option}
use Rattle.std.specs.Option.{option_map_or}
use Rattle.pks_terms.specs.Sets.{with_others, with_later}
use Rattle.pks_terms.specs.Syntax.{Literal, negated}
use Rattle.pks_terms.specs.Orders.{literal_eq}
use Rattle.pks_terms.specs.Databases.{Entry}
use Rattle.pks_terms.specs.Progress.{fixed_terms, entry_terms}
use Rattle.pks_terms.specs.Actions.{Target, Effect}
use Rattle.pks_terms.specs.Proofs.{Fact, FactLit, FactKx, FactLcw}
use Rattle.pks_terms.specs.Judging.{Judge, is_cited, are_cited, is_literal_that}
use Rattle.pks_terms.specs.Reasons.{cannot_fire, would_undo, would_make_same, is_barred, are_barred, are_steady, is_steady, is_steady_form, targets_of, is_only_made_by, is_needed, is_missed_by, is_failed}
use Rattle.pks_proof.specs.Acts.{needs, needed_from, is_turned, fails, is_missed}
use Rattle.pks_proof_cited.proofs.Others.{any_alike, and_again, others_all}
use Rattle.pks_proof_cited.proofs.Walking.{all_append, all_alike, all_flat, any_two, any_commuted}

-- effects are barred alike from what is the same
pub barred_alike : (j : Judge) (m : ℕ) (f g : Target → Bool) → ((x : Target) → f x ≡ g x) → (es : List Effect) → are_barred j m f es ≡ are_barred j m g es
barred_alike j m f g h es = all_alike (is_barred j m f) (is_barred j m g) (λ e. ap (λ b. cannot_fire j m e || not b) (h e.target)) es

-- the terms of a region: those of its pattern and those of its listed atoms
pub steady_region : (j : Judge) (m : ℕ) (es : List Effect) (r : Entry) → are_steady j m es (entry_terms r) ≡ (are_steady j m es (fixed_terms r.pattern.slots) && list_all (λ a. are_steady j m es a.arguments) r.listed)
steady_region j m es r =
    all_append (is_steady j m es) (fixed_terms r.pattern.slots) _ ∙ ap (λ b. are_steady j m es (fixed_terms r.pattern.slots) && b) (all_flat (is_steady j m es) (λ a. a.arguments) r.listed)

pub steady_then : (j : Judge) (m : ℕ) (es : List Effect) (r : Entry) (a b : Bool) → a ≡ are_steady j m es (fixed_terms r.pattern.slots) → a ≡ true → b ≡ list_all (λ a. are_steady j m es a.arguments) r.listed → b ≡ are_steady j m es (entry_terms r)
steady_then j m es r a b e h f = f ∙ ap (λ c. c && list_all (λ a. are_steady j m es a.arguments) r.listed) (sym h ∙ e) ∙ sym (steady_region j m es r)

-- some of the two targets of a literal
pub any_of_two : (f : Target → Bool) (o o' : Option Target) (ts : List Target) → cons_option o (cons_option o' []) ≡ ts → list_any f ts ≡ (option_map_or f o false || option_map_or f o' false)
any_of_two f o o' ts e = ap (list_any f) (sym e) ∙ any_two f o o'

module _ (j : Judge) (m : ℕ) (es : List Effect) (l : Literal) where
  -- the walk with what is so of those passed already
  needed_walk : (x : Target) (b : Bool) (fs : List Effect) → list_any (needs j m es l x b) (with_others fs) ≡ needed_from j m es l x b fs
  needed_walk x b [] = refl
  needed_walk x b (e ∷ later) =
      others_all (λ f. list_any (literal_eq l) f.condition && is_steady_form j m es f x) (are_barred j m (would_make_same j m x)) e (is_barred j m (would_make_same j m x) e) (λ ys. refl) b later
      ∙ ap (λ c. ((list_any (literal_eq l) e.condition && is_steady_form j m es e x) && (b && are_barred j m (would_make_same j m x) later)) || c) (needed_walk x (b && is_barred j m (would_make_same j m x) e) later)

  -- fact by fact: an effect that alone can have made it so
  pub needed_turned : is_needed j m es l ≡ list_any (is_literal_that (is_turned j m es l)) (j (suc m))
  needed_turned =
      any_commuted (λ q. list_any (literal_eq l) q.0.condition) (λ q f. is_literal_that (is_only_made_by j m es q) f) (λ q f. list_any (literal_eq l) q.0.condition && is_literal_that (is_only_made_by j m es q) f) (λ q f. refl) true (with_others es) (j (suc m))
      ∙ any_alike (λ f. list_any (λ q. list_any (literal_eq l) q.0.condition && is_literal_that (is_only_made_by j m es q) f) (with_others es)) (is_literal_that (is_turned j m es l)) each (j (suc m))
    where
      each : (f : Fact) → list_any (λ (q : Effect × List Effect). list_any (literal_eq l) q.0.condition && is_literal_that (is_only_made_by j m es q) f) (with_others es) ≡ is_literal_that (is_turned j m es l) f
      each (FactLit k) =
          any_commuted (λ (q : Effect × List Effect). list_any (literal_eq l) q.0.condition) (λ q x. is_steady_form j m es q.0 x && are_barred j m (would_make_same j m x) q.1) (λ q x. needs j m es l x true q)
          (λ q x. sym (and_again (list_any (literal_eq l) q.0.condition) (is_steady_form j m es q.0 x) (are_barred j m (would_make_same j m x) q.1))) (is_cited j m (negated k)) (with_others es) (targets_of k)
          ∙ ap (λ b. is_cited j m (negated k) && b) (any_alike (λ x. list_any (needs j m es l x true) (with_others es)) (λ x. needed_from j m es l x true es) (λ x. needed_walk x true es) (targets_of k))
      each (FactKx g) = any_commuted (λ (q : Effect × List Effect). list_any (literal_eq l) q.0.condition) (λ q (x : Target). false) (λ q x. list_any (literal_eq l) q.0.condition && false) (λ q x. refl) false (with_others es) []
      each (FactLcw r) = any_commuted (λ (q : Effect × List Effect). list_any (literal_eq l) q.0.condition) (λ q (x : Target). false) (λ q x. list_any (literal_eq l) q.0.condition && false) (λ q x. refl) false (with_others es) []

  abbrev one_denied_in : Effect × List Effect → Bool
  one_denied_in q = list_any (λ c. literal_eq l (negated c.0) && are_cited j m c.1) (with_others q.0.condition)

  -- fact by fact: an effect that fails
  pub failed_missed : is_failed j m es l ≡ list_any (is_literal_that (is_missed j m es l)) (j (suc m))
  failed_missed =
      any_commuted one_denied_in (λ q f. is_literal_that (is_missed_by j m es q) f) (λ q f. one_denied_in q && is_literal_that (is_missed_by j m es q) f) (λ q f. refl) true (with_later es) (j (suc m))
      ∙ any_alike (λ f. list_any (λ q. one_denied_in q && is_literal_that (is_missed_by j m es q) f) (with_later es)) (is_literal_that (is_missed j m es l)) each (j (suc m))
    where
      each : (f : Fact) → list_any (λ q. one_denied_in q && is_literal_that (is_missed_by j m es q) f) (with_later es) ≡ is_literal_that (is_missed j m es l) f
      each (FactLit k) = any_commuted one_denied_in (λ q x. is_steady_form j m es q.0 x && are_barred j m (would_undo j m x) q.1) (λ q x. fails j m es l x q) (λ q x. refl) true (with_later es) (targets_of (negated k))
      each (FactKx g) = any_commuted one_denied_in (λ q (x : Target). false) (λ q x. one_denied_in q && false) (λ q x. refl) false (with_later es) []
      each (FactLcw r) = any_commuted one_denied_in (λ q (x : Target). false) (λ q x. one_denied_in q && false) (λ q x. refl) false (with_later es) []
