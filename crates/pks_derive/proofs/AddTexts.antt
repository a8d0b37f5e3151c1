-- The text of an add with queries.
use Rattle.std.proofs.Common.{◌≡◌, ◌≤◌, ℕ, List, [], ◌∷◌, ◌++◌, map, take, length, codes, append_assoc, append-nil, arith, sym, ap, ◌∙◌}
use Rattle.std.specs.List.{join_with_byte}
use Rattle.pks_terms.specs.declared.schema.Query as query
use Rattle.pks_terms.specs.declared.schema.Adds.{Adds}
use Rattle.pks_terms.specs.Printed.{Text, Names, query_text, item_text, given_text, add_text}
use Rattle.pks_terms.specs.Views.{query_of, item_of, add_of}

closed : (queries item : List ℕ) → ((queries ++ 41 ∷ []) ++ (32 ∷ (item ++ []))) ++ 41 ∷ [] ≡ queries ++ (41 ∷ 32 ∷ (item ++ 41 ∷ []))
closed [] item = ap (λ z. 41 ∷ 32 ∷ (z ++ 41 ∷ [])) (append-nil item)
closed (x ∷ queries) item = ap (λ z. x ∷ z) (closed queries item)

given_shape : (texts : List Text) (item : Text) → 1 ≤ length texts → given_text texts item ≡ codes "(if (" ++ (join_with_byte 32 texts ++ (codes ") " ++ (item ++ codes ")")))
given_shape [] item h = absurd (omega (arith, h))
given_shape (t ∷ ts) item h = ap (λ z. 40 ∷ 105 ∷ 102 ∷ 32 ∷ 40 ∷ z) (closed (join_with_byte 32 (t ∷ ts)) item)

as_long : {X Y Z : Type 0} (f : X → Y) (g : Y → Z) (xs : List X) → 1 ≤ length xs → 1 ≤ length (map g (map f xs))
as_long f g [] h = absurd (omega (arith, h))
as_long f g (x ∷ xs) h = omega arith

pub add_printed : (names : Names) (ps : List Text) (a : Adds) (qs : List query.Query) (out one two three four new : List ℕ) → qs ≡ take a.n a.given → 1 ≤ length qs
    → one ≡ out ++ codes "(if (" → two ≡ one ++ join_with_byte 32 (map (query_text names ps) (map query_of qs)) → three ≡ two ++ codes ") " → four ≡ three ++ item_text names ps (item_of a.item) → new ≡ four ++ codes ")"
    → new ≡ out ++ add_text names ps (add_of a)
unfolding add_text
add_printed names ps a qs out one two three four new is some p q r s t =
    let queries = join_with_byte 32 (map (query_text names ps) (map query_of qs)) in
    let item = item_text names ps (item_of a.item) in
    let all : new ≡ ((((out ++ codes "(if (") ++ queries) ++ codes ") ") ++ item) ++ codes ")" = t ∙ ap (λ z. z ++ codes ")") (s ∙ ap (λ z. z ++ item) (r ∙ ap (λ z. z ++ codes ") ") (q ∙ ap (λ z. z ++ queries) p))) in
    all ∙ append_assoc (((out ++ codes "(if (") ++ queries) ++ codes ") ") item (codes ")")
    ∙ append_assoc ((out ++ codes "(if (") ++ queries) (codes ") ") (item ++ codes ")")
    ∙ append_assoc (out ++ codes "(if (") queries (codes ") " ++ (item ++ codes ")"))
    ∙ append_assoc out (codes "(if (") (queries ++ (codes ") " ++ (item ++ codes ")")))
    ∙ ap (λ z. out ++ z) (sym (given_shape (map (query_text names ps) (map query_of qs)) item (as_long query_of (query_text names ps) qs some)))
    ∙ ap (λ us. out ++ given_text (map (query_text names ps) (map query_of us)) item) is
