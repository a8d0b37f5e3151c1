-- The parts of a line of refusal.
use Rattle.std.proofs.Common.{◌≡◌, ◌∙◌, [], ◌∷◌, ◌++◌, sym, ap, codes, decimal, append_assoc}
use Rattle.pks_terms.specs.Printed.{Text, Refusal, refusal_text}

behind : (t a b : Text) → b ++ 10 ∷ [] ≡ a → (t ++ b) ++ 10 ∷ [] ≡ t ++ a
behind t a b e = append_assoc t b (10 ∷ []) ∙ ap (λ (x : Text). t ++ x) e

feed : (a l b k s d e : Text) → (a ++ (l ++ (b ++ (k ++ (s ++ (d ++ e)))))) ++ 10 ∷ [] ≡ a ++ (l ++ (b ++ (k ++ (s ++ (d ++ (e ++ 10 ∷ []))))))
feed a l b k s d e =
    behind a (l ++ (b ++ (k ++ (s ++ (d ++ (e ++ 10 ∷ [])))))) (l ++ (b ++ (k ++ (s ++ (d ++ e)))))
    (behind l (b ++ (k ++ (s ++ (d ++ (e ++ 10 ∷ []))))) (b ++ (k ++ (s ++ (d ++ e))))
    (behind b (k ++ (s ++ (d ++ (e ++ 10 ∷ [])))) (k ++ (s ++ (d ++ e)))
    (behind k (s ++ (d ++ (e ++ 10 ∷ []))) (s ++ (d ++ e))
    (behind s (d ++ (e ++ 10 ∷ [])) (d ++ e) (append_assoc d e (10 ∷ []))))))

-- they make the line
pub parts_refuse : (r : Refusal) (a l b k s d e n : Text) → a ≡ codes "refused " → l ≡ decimal r.line → b ≡ codes ":" → k ≡ decimal r.column → s ≡ codes " " → d ≡ decimal r.code → e ≡ r.rest → n ≡ 10 ∷ []
    → a ++ (l ++ (b ++ (k ++ (s ++ (d ++ (e ++ (n ++ []))))))) ≡ refusal_text r
parts_refuse r a l b k s d e n a_is l_is b_is k_is s_is d_is e_is n_is =
    (λ i. a_is i ++ (l_is i ++ (b_is i ++ (k_is i ++ (s_is i ++ (d_is i ++ (e_is i ++ (n_is i ++ []))))))))
    ∙ sym (feed (codes "refused ") (decimal r.line) (codes ":") (decimal r.column) (codes " ") (decimal r.code) r.rest)
