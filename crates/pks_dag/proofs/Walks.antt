-- What a walk over nodes makes.
use Rattle.std.proofs.Common.{◌≡◌, ◌≤◌, ◌<◌, ◌+◌, ℕ, zero, suc, List, [], ◌∷◌, ◌++◌, map, length, drop, get_or, decimal, append_assoc, sym, ap, ◌∙◌, subst, add-one, arith}
use Rattle.pks_terms.specs.Sets.{Each}
use Rattle.pks_terms.specs.Nodes.{node_depth, last_depth, node_text}
use Rattle.pks_terms.specs.Printed.{Names}
use Rattle.pks_terms.proofs.ListLaws.{each_append, each_weaker}
use Rattle.pks_dag.specs.declared.nodes.Node as declared
use Rattle.pks_dag.specs.NodeViews.{node_of}
use Rattle.pks_dag.specs.Lines.{node_lines}
use Rattle.pks_dag.proofs.Listing.{longer}

-- the next element, and those behind it
pub dropped : {X Y : Type 0} (f : X → Y) (xs : List X) (i : ℕ) (x : X) → i < length xs → x ≡ get_or xs i x → drop i (map f xs) ≡ f x ∷ drop (suc i) (map f xs)
dropped f [] i x h e = absurd (omega (arith, h))
dropped f (y ∷ ys) zero x h e = λ k. f (sym e k) ∷ map f ys
dropped f (y ∷ ys) (suc i) x h e = let within : i < length ys = omega (arith, h) in dropped f ys i x within e

-- ---- depths

abbrev pub IsShallow : List ℕ → Type 0
IsShallow ds = Each (λ n. n ≤ length ds) ds

deeper : (ds : List ℕ) (d : ℕ) → IsShallow ds → d ≤ length ds + 1 → IsShallow (ds ++ d ∷ [])
deeper ds d h l =
    let more = longer ds d in
    let last : d ≤ length (ds ++ d ∷ []) = omega (arith, l, more) in
    each_append (λ n. n ≤ length (ds ++ d ∷ [])) ds (d ∷ []) (each_weaker (λ n. n ≤ length ds) (λ n. n ≤ length (ds ++ d ∷ [])) (λ n k. omega (arith, k, more)) ds h) (last, tt)

-- what holds while depths are gathered
abbrev pub Gathered : List declared.Node → ℕ → ℕ → List ℕ → ℕ → Type 0
Gathered xs total i ds last = (last_depth ds last (drop i (map node_of xs)) ≡ total) × (length ds ≡ i) × IsShallow ds

pub gathered : (xs : List declared.Node) (total i : ℕ) (x : declared.Node) (ds es new : List ℕ) (last d : ℕ) → i < length xs → x ≡ get_or xs i x → es ≡ ds → d ≡ node_depth es (node_of x) → d ≤ length es + 1 → new ≡ ds ++ d ∷ [] → Gathered xs total i ds last → Gathered xs total (i + 1) new d
gathered xs total i x ds es new last d h e lent says within pushed g =
    let rest = drop (suc i) (map node_of xs) in
    let depth : d ≡ node_depth ds (node_of x) = says ∙ ap (λ us. node_depth us (node_of x)) lent in
    let next = dropped node_of xs i x h e in
    let more = longer ds d in
    let low = subst (λ us. d ≤ length us + 1) lent within in
    let stays : last_depth (ds ++ d ∷ []) d rest ≡ total = ap (λ n. last_depth (ds ++ n ∷ []) n rest) depth ∙ sym (ap (last_depth ds last) next) ∙ g.0 in
    subst (λ us. Gathered xs total (i + 1) us d) (sym pushed) (
      subst (λ n. last_depth (ds ++ d ∷ []) d (drop n (map node_of xs)) ≡ total) (sym (add-one i)) stays,
      more ∙ ap suc g.1 ∙ sym (add-one i),
      deeper ds d g.2 low,
    )

-- ---- lines

five_texts : (out number text rest : List ℕ) → ((((out ++ number) ++ 32 ∷ []) ++ text) ++ 10 ∷ []) ++ rest ≡ out ++ (((number ++ 32 ∷ text) ++ 10 ∷ []) ++ rest)
five_texts [] number text rest = ap (λ z. (z ++ 10 ∷ []) ++ rest) (append_assoc number (32 ∷ []) text)
five_texts (x ∷ out) number text rest = ap (λ z. x ∷ z) (five_texts out number text rest)

pub line_printed : (names : Names) (xs : List declared.Node) (i : ℕ) (x : declared.Node) (out one two three four : List ℕ) → i < length xs → x ≡ get_or xs i x
    → one ≡ out ++ decimal (i + 1) → two ≡ one ++ 32 ∷ [] → three ≡ two ++ node_text names (node_of x) → four ≡ three ++ 10 ∷ []
    → four ++ node_lines names (i + 1 + 1) (drop (i + 1) (map node_of xs)) ≡ out ++ node_lines names (i + 1) (drop i (map node_of xs))
line_printed names xs i x out one two three four h e a b c d =
    let rest = node_lines names (i + 1 + 1) (drop (i + 1) (map node_of xs)) in
    let next : drop i (map node_of xs) ≡ node_of x ∷ drop (i + 1) (map node_of xs) = dropped node_of xs i x h e ∙ ap (λ n. node_of x ∷ drop n (map node_of xs)) (sym (add-one i)) in
    let all : four ≡ (((out ++ decimal (i + 1)) ++ 32 ∷ []) ++ node_text names (node_of x)) ++ 10 ∷ [] = d ∙ ap (λ z. z ++ 10 ∷ []) (c ∙ ap (λ z. z ++ node_text names (node_of x)) (b ∙ ap (λ z. z ++ 32 ∷ []) a)) in
    ap (λ z. z ++ rest) all ∙ five_texts out (decimal (i + 1)) (node_text names (node_of x)) rest ∙ ap (λ ys. out ++ node_lines names (i + 1) ys) (sym next)
