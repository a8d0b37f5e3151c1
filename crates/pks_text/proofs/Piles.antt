-- The tokens and the open lists of a pile.
use Rattle.std.proofs.Common.{◌≡◌, ℕ, Bool, true, cond, Some, None, nat_lt, ◌+◌, List, [], ◌∷◌, ◌++◌, length, map, refl, sym, ◌∙◌, ap, append_assoc, arith}
use Rattle.std.proofs.lemmas.List.{append-nil, map_push}
use Rattle.pks_text.specs.declared.tree.Form.{Form as CodeForm}
use Rattle.pks_text.specs.declared.nesting.Open.{Open}
use Rattle.pks_text.specs.Forms.{Form, forms_of, Mark, Opens, Closes, form_marks, forms_marks}
use Rattle.pks_text.specs.Faults.{opened}
use Rattle.pks_text.specs.FormViews.{form_view, forms_view, pile_marks, open_places}

pub marks_push : (fs : List Form) (f : Form) → forms_marks (forms_of (fs ++ f ∷ [])) ≡ forms_marks (forms_of fs) ++ form_marks f
marks_push [] f = append-nil (form_marks f)
marks_push (g ∷ fs) f = ap (λ (ms : List Mark). form_marks g ++ ms) (marks_push fs f) ∙ sym (append_assoc (form_marks g) (forms_marks (forms_of fs)) (form_marks f))

pub said : (xs : List CodeForm) (x : CodeForm) → forms_marks (forms_view (xs ++ x ∷ [])) ≡ forms_marks (forms_view xs) ++ form_marks (form_view x)
said xs x = ap (λ (fs : List Form). forms_marks (forms_of fs)) (map_push form_view xs x) ∙ marks_push (map form_view xs) (form_view x)

pub pile_push : (os : List Open) (o : Open) → pile_marks (os ++ o ∷ []) ≡ pile_marks os ++ (forms_marks (forms_view o.parts.items) ++ Opens o.start ∷ [])
pile_push [] o = refl
pile_push (p ∷ os) o =
    ap (λ (ms : List Mark). forms_marks (forms_view p.parts.items) ++ Opens p.start ∷ ms) (pile_push os o)
    ∙ sym (append_assoc (forms_marks (forms_view p.parts.items)) (Opens p.start ∷ pile_marks os) (forms_marks (forms_view o.parts.items) ++ Opens o.start ∷ []))

pub places_push : (ps : List ℕ) (os : List Open) (o : Open) → open_places ps (os ++ o ∷ []) ≡ o.start ∷ open_places ps os
places_push ps [] o = refl
places_push ps (p ∷ os) o = places_push (p.start ∷ ps) os o

pub open_count_from : (ps : List ℕ) (os : List Open) → length (open_places ps os) ≡ length ps + length os
open_count_from ps [] = omega arith
open_count_from ps (p ∷ os) = let later : length (open_places (p.start ∷ ps) os) ≡ length (p.start ∷ ps) + length os = open_count_from (p.start ∷ ps) os in omega (arith, later)

pub open_count : (os : List Open) → length (open_places [] os) ≡ length os
open_count os = let all : length (open_places [] os) ≡ 0 + length os = open_count_from [] os in omega (arith, all)

pub say_marks : (os : List Open) (xs : List CodeForm) (x : CodeForm) → pile_marks os ++ forms_marks (forms_view (xs ++ x ∷ [])) ≡ (pile_marks os ++ forms_marks (forms_view xs)) ++ form_marks (form_view x)
say_marks os xs x = ap (λ (ms : List Mark). pile_marks os ++ ms) (said xs x) ∙ sym (append_assoc (pile_marks os) (forms_marks (forms_view xs)) (form_marks (form_view x)))

pub open_marks : (os : List Open) (o : Open) → pile_marks (os ++ o ∷ []) ++ [] ≡ (pile_marks os ++ forms_marks (forms_view o.parts.items)) ++ Opens o.start ∷ []
open_marks os o =
    append-nil (pile_marks (os ++ o ∷ [])) ∙ pile_push os o ∙ sym (append_assoc (pile_marks os) (forms_marks (forms_view o.parts.items)) (Opens o.start ∷ []))

pub close_marks : (os : List Open) (o : Open) (inner : List CodeForm) (x : CodeForm) (end : ℕ) → form_marks (form_view x) ≡ Opens o.start ∷ (forms_marks (forms_view inner) ++ Closes end ∷ [])
    → pile_marks os ++ forms_marks (forms_view (o.parts.items ++ x ∷ [])) ≡ (pile_marks (os ++ o ∷ []) ++ forms_marks (forms_view inner)) ++ Closes end ∷ []
close_marks os o inner x end e =
    say_marks os o.parts.items x
    ∙ ap (λ (ms : List Mark). (pile_marks os ++ forms_marks (forms_view o.parts.items)) ++ ms) e
    ∙ sym (append_assoc (pile_marks os ++ forms_marks (forms_view o.parts.items)) (Opens o.start ∷ []) (forms_marks (forms_view inner) ++ Closes end ∷ []))
    ∙ sym (append_assoc ((pile_marks os ++ forms_marks (forms_view o.parts.items)) ++ Opens o.start ∷ []) (forms_marks (forms_view inner)) (Closes end ∷ []))
    ∙ ap (λ (ms : List Mark). (ms ++ forms_marks (forms_view inner)) ++ Closes end ∷ []) (append_assoc (pile_marks os) (forms_marks (forms_view o.parts.items)) (Opens o.start ∷ []) ∙ sym (pile_push os o))

pub opened_push : (os : List Open) (o : Open) → (nat_lt (length os) 12 ≡ true) → opened (open_places [] os) (Opens o.start) ≡ Some (open_places [] (os ++ o ∷ []))
opened_push os o few =
    ap (λ (b : Bool). cond b (Some (o.start ∷ open_places [] os)) None) (ap (λ (n : ℕ). nat_lt n 12) (open_count os) ∙ few) ∙ ap (λ (ps : List ℕ). Some ps) (sym (places_push [] os o))
