-- What regions that stand for others tell of these.
use Rattle.std.proofs.Common.{◌≡◌, ◌==◌, ◌&&◌, ◌||◌, ◌++◌, ℕ, Bool, true, false, not, List, [], ◌∷◌, map, Less, Equal, Greater, refl, sym, ap, ◌∙◌, subst, true≢false, zero, suc, Some}
use Rattle.std.proofs.lemmas.Bool.{and_parts, and_from}
use Rattle.std.proofs.lemmas.List.{map-append}
use Rattle.std.proofs.lemmas.Option.{none-some, same_Some}
use Rattle.std.specs.Prelude.{slice_get}
use Rattle.std.specs.List.{list_all, list_any}
use Rattle.std.specs.Ordering.{is_eq}
use Rattle.pks_terms.specs.Syntax.{Term, Literal, Atom}
use Rattle.pks_terms.specs.Orders.{atom_cmp}
use Rattle.pks_terms.specs.Signatures.{Signature}
use Rattle.pks_terms.specs.Databases.{Entry, fits, some_differ, is_shut_out}
use Rattle.pks_terms.proofs.OrderLaws.{atom_cmp_tells}
use Rattle.pks_pmap_set.specs.Members.{is_member}
use Rattle.pks_lcw.specs.declared.regions.Entry.{Entry as DEntry}
use Rattle.pks_lcw.specs.Entries.{entry_of, entries_of}
use Rattle.pks_query_closing.specs.Listing.{all_pass, StandFor, StandForOne, spares}

-- what passes with one more at the end passes without it, and it does
pub pass_more : (test : ℕ → List Atom → Bool) (es : List Entry) (e : Entry) → all_pass test (es ++ e ∷ []) ≡ true → (all_pass test es ≡ true) × (test e.pattern.predicate e.listed ≡ true)
pass_more test [] e h = (refl, (and_parts (test e.pattern.predicate e.listed) true h).0)
pass_more test (x ∷ es) e h =
    let parts = and_parts (test x.pattern.predicate x.listed) (all_pass test (es ++ e ∷ [])) h in
    let later = pass_more test es e parts.1 in
    (and_from (test x.pattern.predicate x.listed) (all_pass test es) parts.0 later.0, later.1)

-- a region with the predicate and the list of another
pub stands_for_like : (some : List Entry) (d e : Entry) → d.pattern.predicate ≡ e.pattern.predicate → d.listed ≡ e.listed → StandForOne some d → StandForOne some e
stands_for_like some d e p l stands = λ test h. subst (λ q. test q e.listed ≡ true) p (subst (λ listed. test d.pattern.predicate listed ≡ true) l (stands test h))

and_no : (b : Bool) → (b && false) ≡ false
and_no true = refl
and_no false = refl

-- what fails of an atom fails of a list that has it
member_fails : (test : Atom → Bool) (a : Atom) (xs : List Atom) → is_member atom_cmp a xs ≡ true → test a ≡ false → list_all test xs ≡ false
member_fails test a [] m f = absurd (true≢false (sym m))
member_fails test a (x ∷ xs) m f =
    let later : is_member atom_cmp a xs ≡ true → list_all test (x ∷ xs) ≡ false = λ h. ap (λ b. test x && b) (member_fails test a xs h f) ∙ and_no (test x) in
    elim (atom_cmp a x) as (λ o. atom_cmp a x ≡ o → (is_eq o || is_member atom_cmp a xs) ≡ true → list_all test (x ∷ xs) ≡ false) [
      | Less ↦ λ e h. later h
      | Equal ↦ λ e h. ap (λ b. b && list_all test xs) (subst (λ y. test y ≡ false) (atom_cmp_tells a x e) f)
      | Greater ↦ λ e h. later h
    ] refl m

-- a region that stands at a place among those that pass
pub passes_at : (test : ℕ → List Atom → Bool) (es : List DEntry) (k : ℕ) (e : DEntry) → Some e ≡ slice_get es k → all_pass test (entries_of es) ≡ true → test (entry_of e).pattern.predicate (entry_of e).listed ≡ true
passes_at test [] k e is h = absurd (none-some e (sym is))
passes_at test (d ∷ es) zero e is h =
    subst (λ x. test (entry_of x).pattern.predicate (entry_of x).listed ≡ true) (sym (same_Some e d is)) (and_parts (test (entry_of d).pattern.predicate (entry_of d).listed) (all_pass test (entries_of es)) h).0
passes_at test (d ∷ es) (suc k) e is h = passes_at test es k e is (and_parts (test (entry_of d).pattern.predicate (entry_of d).listed) (all_pass test (entries_of es)) h).1

-- what passes with one more at the end
pub put_passes : (es more : List DEntry) (same e : DEntry) → more ≡ es ++ same ∷ [] → same ≡ e → StandFor (entries_of more) (entries_of es) × StandForOne (entries_of more) (entry_of e)
put_passes es more same e put is =
    let listed : entries_of more ≡ entries_of es ++ entry_of e ∷ [] = ap entries_of put ∙ map-append entry_of es (same ∷ []) ∙ ap (λ x. entries_of es ++ entry_of x ∷ []) is in (
      λ test h. (pass_more test (entries_of es) (entry_of e) (subst (λ xs. all_pass test xs ≡ true) listed h)).0,
      λ test h. (pass_more test (entries_of es) (entry_of e) (subst (λ xs. all_pass test xs ≡ true) listed h)).1,
    )

module _ (s : Signature) (kf : List Literal) (a : Atom) where
  not_shut_out : (e : Entry) → spares a e.pattern.predicate e.listed ≡ true → some_differ s kf a.arguments a.arguments ≡ false → is_shut_out s kf a.predicate a.arguments e ≡ false
  not_shut_out e h f =
      let apart : Bool = list_all (λ b. some_differ s kf b.arguments a.arguments) e.listed in
      let fit : Bool = fits kf e.pattern.slots a.arguments in
      elim (e.pattern.predicate == a.predicate) as (λ b. (not b || is_member atom_cmp a e.listed) ≡ true → (b && (fit && apart)) ≡ false) [
        | true ↦ λ m. ap (λ b. fit && b) (member_fails (λ b. some_differ s kf b.arguments a.arguments) a e.listed m f) ∙ and_no fit
        | false ↦ λ m. refl
      ] h

  -- no region shuts out an atom that each lists
  pub none_shuts_out : (es : List Entry) → all_pass (spares a) es ≡ true → some_differ s kf a.arguments a.arguments ≡ false → list_any (is_shut_out s kf a.predicate a.arguments) es ≡ false
  none_shuts_out [] h f = refl
  none_shuts_out (e ∷ es) h f =
      let parts = and_parts (spares a e.pattern.predicate e.listed) (all_pass (spares a) es) h in
      ap (λ b. b || list_any (is_shut_out s kf a.predicate a.arguments) es) (not_shut_out e parts.0 f) ∙ none_shuts_out es parts.1 f
