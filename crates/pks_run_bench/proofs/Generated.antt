-- The generated text, part by part.
use Rattle.std.proofs.Common.{◌≡◌, ◌∙◌, ◌++◌, ◌∷◌, [], ℕ, append_assoc, codes, sym, ap}
use Rattle.std.specs.List.{flat_map}
use Rattle.pks_terms.specs.Printed.{Text, line, generated, numbers_from, numbered_object, fact_lines}

-- five texts in turn
pub in_turn : {t₀ t₁ t₂ t₃ t₄ t₅ : Text} (a b c d e : Text) → t₀ ≡ [] → t₁ ≡ t₀ ++ a → t₂ ≡ t₁ ++ b → t₃ ≡ t₂ ++ c → t₄ ≡ t₃ ++ d → t₅ ≡ t₄ ++ e → t₅ ≡ a ++ (b ++ (c ++ (d ++ e)))
in_turn a b c d e e₀ e₁ e₂ e₃ e₄ e₅ =
    e₅ ∙ (ap (λ t. t ++ e) (e₄ ∙ ap (λ t. t ++ d) (e₃ ∙ ap (λ t. t ++ c) (e₂ ∙ ap (λ t. t ++ b) (e₁ ∙ ap (λ t. t ++ a) e₀))))
    ∙ (append_assoc ((a ++ b) ++ c) d e ∙ (append_assoc (a ++ b) c (d ++ e) ∙ append_assoc a b (c ++ (d ++ e)))))

-- what stands before the objects, and the end of their line with the lines behind it
abbrev pub to_objects : Text
to_objects = codes "(pks 1)\n(domain\n(types num)\n(objects (num"

abbrev pub to_facts : Text
to_facts =
    line (codes "))")
    ++ (line (codes "(predicates (open) (seen num num))")
    ++ (line (codes "(functions (combo num))")
    ++ (line (codes "(action read (senses (sense-value (combo))) (knows (kv (combo))))")
    ++ (line (codes "(action dial (params (?x num)) (effects (when ((= ?x (combo))) (set (open)))) (knows (if ((k (= ?x (combo)))) (kf (open))))))")
    ++ (line (codes "(problem")
    ++ line (codes "(init"))))))

abbrev pub to_end : Text
to_end = codes ")\n(goal (k (open))))\n"

-- the lines behind the objects
abbrev after_objects : ℕ → Text
after_objects n =
    line (codes "(predicates (open) (seen num num))")
    ++ (line (codes "(functions (combo num))")
    ++ (line (codes "(action read (senses (sense-value (combo))) (knows (kv (combo))))")
    ++ (line (codes "(action dial (params (?x num)) (effects (when ((= ?x (combo))) (set (open)))) (knows (if ((k (= ?x (combo)))) (kf (open))))))")
    ++ (line (codes "(problem")
    ++ (line (codes "(init") ++ (fact_lines n ++ to_end))))))

pub by_parts : (n : ℕ) → to_objects ++ (flat_map (λ i. 32 ∷ numbered_object i) (numbers_from 1 n) ++ (to_facts ++ (fact_lines n ++ to_end))) ≡ generated n
unfolding generated
by_parts n =
    let objects = flat_map (λ i. 32 ∷ numbered_object i) (numbers_from 1 n) in
    ap (λ x. to_objects ++ x) (sym (append_assoc (objects ++ codes "))") (10 ∷ []) (after_objects n) ∙ append_assoc objects (codes "))") (10 ∷ after_objects n)))
