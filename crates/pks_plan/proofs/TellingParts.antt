-- Texts of terms, literals, conjunctions and actions tell what they are of, whatever follows.
use Rattle.std.proofs.Common.{◌≡◌, ◌<◌, ℕ, Bool, true, false, ◌==◌, List, [], ◌∷◌, ◌++◌, length, map, codes, append_assoc, refl, sym, ap, ◌∙◌, subst, true≢false}
use Rattle.std.specs.List.{flat_map}
use Rattle.pks_terms.specs.Sets.{Each, IsIn}
use Rattle.pks_terms.specs.Syntax.{Form, Object, Parameter, Apply, Inner, Term, Relation, Named, Equality, Literal}
use Rattle.pks_terms.specs.Actions.{Instance}
use Rattle.pks_terms.specs.ValidProblems.{is_name, AreDifferent}
use Rattle.pks_terms.specs.Printed.{Text, Names, name_in, listed, form_text, inner_text, term_text, relation_text, signed_text, literal_text, conj_text, instance_text}
use Rattle.pks_plan.proofs.Appended.{joined}
use Rattle.pks_plan.proofs.Words.{first, rest, differ, IsWord, word_ends, name_is_word, name_no_list, named, name_among, same_number, Tells, parts, parts_follow, parts_more, same_parts, listed_is, same_heads}

-- each is a name, and none is given twice
pub record AreOwn (names : List Text) : Type 0 where
  pub spelled : Each (λ name. is_name name ≡ true) names
  pub different : AreDifferent names

-- so are those of each kind, and no predicate is named not
pub record AreProper (names : Names) : Type 0 where
  pub objects : AreOwn names.objects
  pub predicates : AreOwn names.predicates
  pub functions : AreOwn names.functions
  pub actions : AreOwn names.actions
  pub none_is_not : IsIn (codes "not") names.predicates → ⊥

-- a ground form whose names are there
abbrev pub IsNamedForm : {A : Type 0} → (A → Type 0) → Names → Form A → Type 0
IsNamedForm P names (Object d) = d < length names.objects
IsNamedForm P names (Parameter i) = ⊥
IsNamedForm P names (Apply f ts) = (f < length names.functions) × Each P ts

abbrev pub IsNamedInner : Names → Inner → Type 0
IsNamedInner names = IsNamedForm (λ d. d < length names.objects) names

abbrev pub IsNamedTerm : Names → Term → Type 0
IsNamedTerm names = IsNamedForm (IsNamedInner names) names

abbrev pub IsNamedRelation : Names → Relation → Type 0
IsNamedRelation names (Named p) = p < length names.predicates
IsNamedRelation names Equality = Unit {0}

pub record IsNamedLiteral (names : Names) (l : Literal) : Type 0 where
  pub relation : IsNamedRelation names l.relation
  pub arguments : Each (IsNamedTerm names) l.arguments

pub record IsNamedInstance (names : Names) (i : Instance) : Type 0 where
  pub action : i.action < length names.actions
  pub arguments : Each (IsNamedInner names) i.arguments

-- ---- names and terms

pub own_word : (names : List Text) → AreOwn names → (n : ℕ) → n < length names → IsWord (name_in names n)
own_word names a n h = name_is_word (name_in names n) (named names n a.spelled h)

pub name_tells : (names : List Text) → AreOwn names → Tells (λ n. n < length names) (name_in names)
name_tells names a x y r s h k f g e =
    let p = word_ends (name_in names x) (name_in names y) r s (own_word names a x h) (own_word names a y k) f g e in
    (same_number names x y a.different h k p.0, p.1)

list_differs : (names : List Text) → AreOwn names → (n : ℕ) → n < length names → (h : Text) (xs : List Text) (r s : Text) → name_in names n ++ r ≡ listed h xs ++ s → ⊥
list_differs names a n b h xs r s e = name_no_list (name_in names n) r (h ++ parts 41 xs s) (named names n a.spelled b) (e ∙ listed_is h xs s)

pub same_lists : {A : Type 0} (P : A → Type 0) (text : A → Text) → Tells P text → (names : List Text) → AreOwn names → (f g : ℕ) (ts us : List A) (r s : Text) →
    f < length names → g < length names → Each P ts → Each P us →
    listed (name_in names f) (map text ts) ++ r ≡ listed (name_in names g) (map text us) ++ s → (f ≡ g) × (ts ≡ us) × (r ≡ s)
same_lists P text tells names a f g ts us r s h k b c e =
    let p = same_heads (name_in names f) (name_in names g) (map text ts) (map text us) r s (own_word names a f h) (own_word names a g k) e in
    let q = same_parts P text tells 41 refl refl ts us r s b c p.1 in
    (same_number names f g a.different h k p.0, q.0, q.1)

pub form_tells : (names : Names) → AreProper names → {A : Type 0} (P : A → Type 0) (text : A → Text) → Tells P text → Tells (IsNamedForm P names) (form_text text names)
form_tells names a P text tells (Object d) (Object e) r s h k f g m = let p = name_tells names.objects a.objects d e r s h k f g m in (ap Object p.0, p.1)
form_tells names a P text tells (Object d) (Apply y us) r s h k f g m = absurd (list_differs names.objects a.objects d h (name_in names.functions y) (map text us) r s m)
form_tells names a P text tells (Apply x ts) (Object e) r s h k f g m = absurd (list_differs names.objects a.objects e k (name_in names.functions x) (map text ts) s r (sym m))
form_tells names a P text tells (Apply x ts) (Apply y us) r s h k f g m =
    let p = same_lists P text tells names.functions a.functions x y ts us r s h.0 k.0 h.1 k.1 m in
    ((λ i. Apply (p.0 i) (p.1 i)), p.2)
form_tells names a P text tells (Parameter i) y r s h k f g m = absurd h
form_tells names a P text tells x (Parameter i) r s h k f g m = absurd k

pub inner_tells : (names : Names) → AreProper names → Tells (IsNamedInner names) (inner_text names)
inner_tells names a = form_tells names a (λ d. d < length names.objects) (name_in names.objects) (name_tells names.objects a.objects)

pub term_tells : (names : Names) → AreProper names → Tells (IsNamedTerm names) (term_text names)
unfolding term_text
term_tells names a = form_tells names a (IsNamedInner names) (inner_text names) (inner_tells names a)

pub instance_tells : (names : Names) → AreProper names → Tells (IsNamedInstance names) (instance_text names)
unfolding instance_text
instance_tells names a x y r s h k f g e =
    let p = same_lists (IsNamedInner names) (inner_text names) (inner_tells names a) names.actions a.actions x.action y.action x.arguments y.arguments r s h.action k.action h.arguments k.arguments e in
    ((λ i. record { action = p.0 i; arguments = p.1 i }), p.2)

-- ---- literals

relation_word : (names : Names) → AreProper names → (q : Relation) → IsNamedRelation names q → IsWord (relation_text names q)
relation_word names a (Named p) h = own_word names.predicates a.predicates p h
relation_word names a Equality h = (refl, tt)

not_not : (names : Names) → AreProper names → (q : Relation) → IsNamedRelation names q → relation_text names q ≡ codes "not" → ⊥
not_not names a (Named p) h e = a.none_is_not (subst (λ y. IsIn y names.predicates) e (name_among names.predicates p h))
not_not names a Equality h e = differ 110 (codes "=") (codes "not") refl refl e

same_relation : (names : Names) → AreProper names → (q q' : Relation) → IsNamedRelation names q → IsNamedRelation names q' → relation_text names q ≡ relation_text names q' → q ≡ q'
same_relation names a (Named p) (Named p') h k e = ap Named (same_number names.predicates p p' a.predicates.different h k e)
same_relation names a (Named p) Equality h k e = absurd (true≢false (sym (named names.predicates p a.predicates.spelled h) ∙ ap is_name e))
same_relation names a Equality (Named p) h k e = absurd (true≢false (sym (named names.predicates p a.predicates.spelled k) ∙ ap is_name (sym e)))
same_relation names a Equality Equality h k e = refl

-- what follows the list within a literal
abbrev after : Bool → Text → Text
after true r = r
after false r = 41 ∷ r

word_not : IsWord (codes "not")
word_not = (refl, (refl, (refl, tt)))

inside_not : (x r : Text) → parts 41 (x ∷ []) r ≡ 32 ∷ (x ++ 41 ∷ r)
inside_not x r = parts_more 41 x [] r

same_signed : (b c : Bool) (h k : Text) (xs ys : List Text) (r s : Text) → IsWord h → IsWord k → (h ≡ codes "not" → ⊥) → (k ≡ codes "not" → ⊥) →
    signed_text b (listed h xs) ++ r ≡ signed_text c (listed k ys) ++ s → (b ≡ c) × (h ≡ k) × (parts 41 xs (after b r) ≡ parts 41 ys (after c s))
same_signed true true h k xs ys r s v w m n e = let p = same_heads h k xs ys r s v w e in (refl, p.0, p.1)
same_signed true false h k xs ys r s v w m n e = absurd (m (same_heads h (codes "not") xs (listed k ys ∷ []) r s v word_not e).0)
same_signed false true h k xs ys r s v w m n e = absurd (n (sym (same_heads (codes "not") k (listed h xs ∷ []) ys r s word_not w e).0))
same_signed false false h k xs ys r s v w m n e =
    let p = same_heads (codes "not") (codes "not") (listed h xs ∷ []) (listed k ys ∷ []) r s word_not word_not e in
    let t : listed h xs ++ 41 ∷ r ≡ listed k ys ++ 41 ∷ s = ap rest (sym (inside_not (listed h xs) r) ∙ (p.1 ∙ inside_not (listed k ys) s)) in
    let q = same_heads h k xs ys (41 ∷ r) (41 ∷ s) v w t in
    (refl, q.0, q.1)

same_after : (b c : Bool) (r s : Text) → b ≡ c → after b r ≡ after c s → r ≡ s
same_after true true r s h e = e
same_after false false r s h e = ap rest e
same_after true false r s h e = absurd (true≢false h)
same_after false true r s h e = absurd (true≢false (sym h))

pub literal_tells : (names : Names) → AreProper names → Tells (IsNamedLiteral names) (literal_text names)
unfolding literal_text
literal_tells names a x y r s h k f g e =
    let p = same_signed x.positive y.positive (relation_text names x.relation) (relation_text names y.relation) (map (term_text names) x.arguments) (map (term_text names) y.arguments) r s
    (relation_word names a x.relation h.relation) (relation_word names a y.relation k.relation) (not_not names a x.relation h.relation) (not_not names a y.relation k.relation) e in
    let same = same_relation names a x.relation y.relation h.relation k.relation p.1 in
    let q = same_parts (IsNamedTerm names) (term_text names) (term_tells names a) 41 refl refl x.arguments y.arguments (after x.positive r) (after y.positive s) h.arguments k.arguments p.2 in
    ((λ i. record { relation = same i; arguments = q.0 i; positive = p.0 i }), same_after x.positive y.positive r s p.0 q.1)

-- ---- conjunctions

signed_opens : (b : Bool) (h : Text) (xs : List Text) (r : Text) → first (signed_text b (listed h xs) ++ r) ≡ 40
signed_opens true h xs r = refl
signed_opens false h xs r = refl

literal_opens : (names : Names) (l : Literal) (r : Text) → first (literal_text names l ++ r) ≡ 40
unfolding literal_text
literal_opens names l r = signed_opens l.positive (relation_text names l.relation) (map (term_text names) l.arguments) r

conj_is : (names : Names) (l : Literal) (c : List Literal) (r : Text) → conj_text names (l ∷ c) ++ 10 ∷ r ≡ literal_text names l ++ parts 10 (map (literal_text names) c) r
unfolding conj_text
conj_is names l c r =
    ap (λ y. y ++ 10 ∷ r) (joined (literal_text names l) (map (literal_text names) c))
    ∙ append_assoc (literal_text names l) (flat_map (λ part. 32 ∷ part) (map (literal_text names) c)) (10 ∷ r)

none_is : (names : Names) (r : Text) → conj_text names [] ++ 10 ∷ r ≡ 10 ∷ r
unfolding conj_text
none_is names r = refl

-- no line feed is a literal's first byte
none_differs : (names : Names) (l : Literal) (c : List Literal) (r s : Text) → conj_text names [] ++ 10 ∷ r ≡ conj_text names (l ∷ c) ++ 10 ∷ s → ⊥
none_differs names l c r s e =
    let t : 10 ≡ 40 = ap first (sym (none_is names r) ∙ (e ∙ conj_is names l c s)) ∙ literal_opens names l (parts 10 (map (literal_text names) c) s) in
    true≢false (ap (λ b. b == 10) t)

pub same_conj : (names : Names) → AreProper names → (c d : List Literal) (r s : Text) → Each (IsNamedLiteral names) c → Each (IsNamedLiteral names) d →
    conj_text names c ++ 10 ∷ r ≡ conj_text names d ++ 10 ∷ s → (c ≡ d) × (r ≡ s)
same_conj names a [] [] r s h k e = (refl, ap rest (sym (none_is names r) ∙ (e ∙ none_is names s)))
same_conj names a [] (m ∷ d) r s h k e = absurd (none_differs names m d r s e)
same_conj names a (l ∷ c) [] r s h k e = absurd (none_differs names l c s r (sym e))
same_conj names a (l ∷ c) (m ∷ d) r s h k e =
    let t = sym (conj_is names l c r) ∙ (e ∙ conj_is names m d s) in
    let text = literal_text names in
    let p = literal_tells names a l m (parts 10 (map text c) r) (parts 10 (map text d) s) h.0 k.0 (parts_follow 10 refl (map text c) r) (parts_follow 10 refl (map text d) s) t in
    let q = same_parts (IsNamedLiteral names) text (literal_tells names a) 10 refl refl c d r s h.1 k.1 p.1 in
    ((λ i. p.0 i ∷ q.0 i), q.1)
