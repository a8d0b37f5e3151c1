-- Literals of objects alone are their own normal forms.
use Rattle.std.proofs.Common.{◌≡◌, true, List, [], ◌∷◌, map, refl, sym, ap, ◌∙◌, true≢false}
use Rattle.std.proofs.lemmas.Bool.{and_parts}
use Rattle.std.specs.Ordering.{on, is_eq}
use Rattle.pks_terms.specs.Syntax.{Object, Parameter, Apply, Term, Atom, Relation, Named, Equality, Literal}
use Rattle.pks_terms.specs.Sets.{IsOrdered, set_of}
use Rattle.std.proofs.lemmas.Cmp.{tied_itself}
use Rattle.pks_terms.specs.Orders.{atom_cmp, literal, in_order, literal_eq}
use Rattle.pks_terms.specs.Totality.{atom_cmp_total, literal_cmp_total}
use Rattle.pks_terms.specs.Databases.{normal, normal_literal}
use Rattle.pks_terms.specs.Closure.{normal_atom}
use Rattle.pks_terms.specs.Views.{atom_of}
use Rattle.pks_terms.specs.declared.literal.PredAtom.{PredAtom}
use Rattle.pks_pmap_set.proofs.Mapped.{ordered-map}
use Rattle.pks_pmap_set.proofs.Rising.{added_rising}
use Rattle.pks_lcw.specs.Entries.{atoms_of}
use Rattle.pks_query_lookup.specs.Forms.{is_normal}
use Rattle.pks_terms.specs.Objects.{is_object, are_objects, is_named, is_of_objects}
use Rattle.pks_query_lookup.specs.Own.{have_objects}

module _ (kf : List Literal) where
  own_term : (t : Term) → is_object t ≡ true → normal kf t ≡ t
  unfolding normal
  own_term (Object d) h = refl
  own_term (Parameter i) h = absurd (true≢false (sym h))
  own_term (Apply f ts) h = absurd (true≢false (sym h))

  own_terms : (ts : List Term) → are_objects ts ≡ true → map (normal kf) ts ≡ ts
  own_terms [] h = refl
  own_terms (t ∷ ts) h =
      let parts = and_parts (is_object t) (are_objects ts) h in
      λ i. own_term t parts.0 i ∷ own_terms ts parts.1 i

  own_order : (r : Relation) (ts : List Term) → is_named r ≡ true → in_order r ts ≡ ts
  own_order (Named p) ts h = refl
  own_order Equality ts h = absurd (true≢false (sym h))

  -- such an atom, or its negation, is its own normal form
  pub own_literal : (l : Literal) → is_of_objects l ≡ true → normal_literal kf l ≡ l
  unfolding normal_literal literal
  own_literal l h =
      let parts = and_parts (is_named l.relation) (are_objects l.arguments) h in
      let order = own_order l.relation (map (normal kf) l.arguments) parts.0 ∙ own_terms l.arguments parts.1 in
      λ i. record { relation = l.relation; arguments = order i; positive = l.positive }

  pub own_is_normal : (l : Literal) → is_of_objects l ≡ true → is_normal kf l ≡ true
  unfolding literal_eq
  own_is_normal l h = ap (λ m. literal_eq m l) (own_literal l h) ∙ ap is_eq (tied_itself literal_cmp_total l)

  own_atoms : (es : List Atom) → have_objects es ≡ true → map (normal_atom kf) es ≡ es
  own_atoms [] h = refl
  own_atoms (a ∷ es) h =
      let parts = and_parts (are_objects a.arguments) (have_objects es) h in
      λ i. record { predicate = a.predicate; arguments = own_terms a.arguments parts.0 i } ∷ own_atoms es parts.1 i

  -- a set of such atoms is the set of their normal forms
  pub own_list : (list : List PredAtom) → IsOrdered (on atom_of atom_cmp) list → have_objects (atoms_of list) ≡ true → atoms_of list ≡ set_of atom_cmp (map (normal_atom kf) (atoms_of list))
  own_list list ordered h =
      let es = atoms_of list in
      sym (ap (set_of atom_cmp) (own_atoms es h) ∙ added_rising atom_cmp atom_cmp_total es (ordered-map atom_of atom_cmp list ordered))
