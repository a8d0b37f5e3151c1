-- One more place that has a value.
use Rattle.std.proofs.Common.{◌≡◌, Bool, true, false, cond, ◌||◌, List, [], ◌∷◌, map, refl, sym, ap, ◌∙◌, Ordering, Less, Equal, Greater}
use Rattle.std.specs.BTreeSet.{BTreeSet, insert_key}
use Rattle.std.specs.List.{list_any}
use Rattle.std.specs.Ordering.{on, match_ordering}
use Rattle.pks_terms.specs.Syntax as syntax
use Rattle.pks_terms.specs.Orders.{term_cmp, term_eq}
use Rattle.pks_terms.specs.Sets.{insert_in}
use Rattle.pks_terms.specs.declared.term.Term.{Term}
use Rattle.pks_terms.specs.Views.{term_of}
use Rattle.pks_terms.proofs.ListLaws.{any_added}
use Rattle.pks_terms.proofs.OrderLaws.{same_term, term_cmp_tells}
use Rattle.pks_terms.proofs.Types.{both_ways}
use Rattle.pks_world.proofs.Filling.{same_eq}
use Rattle.pks_reader_world.specs.Facts.{with_given}
use Rattle.pks_reader_world.specs.Views.{given_of}

by_order : (o : Ordering) (t k : Term) (ks more : List Term) (us : List syntax.Term) → map term_of more ≡ us
    → map term_of (match_ordering o (t ∷ k ∷ ks) (k ∷ ks) (k ∷ more)) ≡ elim o as (λ _. List syntax.Term) [ Less ↦ term_of t ∷ term_of k ∷ map term_of ks | Equal ↦ term_of k ∷ map term_of ks | Greater ↦ term_of k ∷ us ]
by_order Less t k ks more us e = refl
by_order Equal t k ks more us e = refl
by_order Greater t k ks more us e = ap (λ vs. term_of k ∷ vs) e

inserted_view : (t : Term) (ks : List Term) → map term_of (insert_key (on term_of term_cmp) ks t) ≡ insert_in term_cmp (term_of t) (map term_of ks)
inserted_view t [] = refl
inserted_view t (k ∷ ks) =
    by_order (term_cmp (term_of t) (term_of k)) t k ks (insert_key (on term_of term_cmp) ks t) (insert_in term_cmp (term_of t) (map term_of ks)) (inserted_view t ks)

either_way : (t u : syntax.Term) → term_eq t u ≡ term_eq u t
either_way t u = both_ways (term_eq t u) (term_eq u t) (λ h. same_eq u t (sym (same_term t u h))) (λ h. same_eq t u (sym (same_term u t h)))

chosen : (a b : Bool) → ((a || false) || b) ≡ cond a true b
chosen true b = refl
chosen false b = refl

pub gave : (old new : BTreeSet Term) (t : Term) → new.keys ≡ insert_key (on term_of term_cmp) old.keys t → given_of new ≡ with_given (given_of old) (term_of t)
gave old new t h = λ i u.
    (ap (λ ks. list_any (term_eq u) (map term_of ks)) h
    ∙ ap (list_any (term_eq u)) (inserted_view t old.keys)
    ∙ any_added term_cmp term_cmp_tells (term_eq u) (map term_of old.keys) (term_of t ∷ [])
    ∙ ap (λ b. (b || false) || list_any (term_eq u) (map term_of old.keys)) (either_way u (term_of t))
    ∙ chosen (term_eq (term_of t) u) (list_any (term_eq u) (map term_of old.keys))) i
