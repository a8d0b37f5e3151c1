-- Questions in their order.
use Rattle.std.proofs.Common.{◌≡◌, ◌==◌, ◌≤◌, ℕ, ◌+◌, ◌-◌, false, List, [], ◌∷◌, ◌++◌, length, take, drop, slice_index_or, Vec, refl, sym, ap, ◌∙◌, subst, true≢false, append_assoc, arith}
use Rattle.std.proofs.lemmas.List.{length-append, length-map, drop-map, drop-drop, length-drop, take_all}
use Rattle.std.proofs.Math.Seq.{drop-append_seam}
use Rattle.std.specs.declared.alloc.Global.{Global}
use Rattle.pks_terms.specs.Syntax.{Object, Parameter, Apply, Inner}
use Rattle.pks_terms.specs.Trees.{Tree, Goal, Impossible, Do, Branch, Cases, Chain, End, More}
use Rattle.pks_terms.specs.Printed.{Text, Names}
use Rattle.pks_agent.specs.Rooms.{argument_questions, argument_count, questions_of, case_questions, question_count, case_question_count, texts_in, Opens}

-- a list that isn't empty
pub head_and_rest : {X : Type 0} (xs : List X) (d : X) → (length xs == 0) ≡ false → xs ≡ slice_index_or xs 0 d ∷ take (length xs - 1) (drop 1 xs)
head_and_rest [] d h = absurd (true≢false h)
head_and_rest (x ∷ xs) d h = let few : length xs ≤ length (x ∷ xs) - 1 = omega arith in λ i. x ∷ sym (take_all (length (x ∷ xs) - 1) xs few) i

-- behind the first, and then behind more
pub behind_more : {X : Type 0} (xs : List X) (a b : ℕ) → drop b (drop a (take (length xs - 1) (drop 1 xs))) ≡ drop (1 + (a + b)) xs
behind_more xs a b =
    let few : length (drop 1 xs) ≤ length xs - 1 = omega (arith, length-drop 1 xs) in
    let sum : 1 + a + b ≡ 1 + (a + b) = omega arith in
    ap (λ ys. drop b (drop a ys)) (take_all (length xs - 1) (drop 1 xs) few) ∙ ap (drop b) (drop-drop a 1 xs) ∙ drop-drop b (1 + a) xs ∙ ap (λ n. drop n xs) sum

-- the question at the front
pub first_question : (texts : List (Vec ℕ Global)) (d : Vec ℕ Global) (question : Text) (rest : List Text) → texts_in texts ≡ question ∷ rest → (slice_index_or texts 0 d).items ≡ question
first_question [] d question rest e = absurd cc
first_question (text ∷ texts) d question rest e = cc e

pub first_opened : (texts : List (Vec ℕ Global)) (d : Vec ℕ Global) (question : Text) (more : List Text) → Opens (texts_in texts) (question ∷ more) → (slice_index_or texts 0 d).items ≡ question
first_opened texts d question more (rest, e) = first_question texts d question (more ++ rest) e

module _ (names : Names) where
  split_questions : (t : Inner) (ts : List Inner) → argument_questions names (t ∷ ts) ≡ argument_questions names (t ∷ []) ++ argument_questions names ts
  split_questions (Object d) ts = refl
  split_questions (Parameter i) ts = refl
  split_questions (Apply f ds) ts = refl

  -- the questions of the first argument come first
  pub opens_first : (texts : List Text) (t : Inner) (ts : List Inner) → Opens texts (argument_questions names (t ∷ ts)) → Opens texts (argument_questions names (t ∷ []))
  opens_first texts t ts (rest, e) = (argument_questions names ts ++ rest, e ∙ ap (λ l. l ++ rest) (split_questions t ts) ∙ append_assoc (argument_questions names (t ∷ [])) (argument_questions names ts) rest)

  -- ---- how many they are

  length_arguments : (ts : List Inner) → length (argument_questions names ts) ≡ argument_count ts
  length_arguments [] = refl
  length_arguments (Object d ∷ ts) = length_arguments ts
  length_arguments (Parameter i ∷ ts) = length_arguments ts
  length_arguments (Apply f ds ∷ ts) = let rest = length_arguments ts in omega (arith, rest)

  mutual
    length_questions : (t : Tree) → length (questions_of names t) ≡ question_count t
    length_questions Goal = refl
    length_questions Impossible = refl
    length_questions (Do i t) =
        let first = length_arguments i.arguments in
        let rest = length_questions t in
        let whole = length-append (argument_questions names i.arguments) (questions_of names t) in
        omega (arith, first, rest, whole)
    length_questions (Branch c t u) =
        let first = length_questions t in
        let rest = length_questions u in
        let whole = length-append (questions_of names t) (questions_of names u) in
        omega (arith, first, rest, whole)
    length_questions (Cases x k) = let rest = length_case_questions k in omega (arith, rest)

    length_case_questions : (k : Chain) → length (case_questions names k) ≡ case_question_count k
    length_case_questions End = refl
    length_case_questions (More o t k) =
        let first = length_questions t in
        let rest = length_case_questions k in
        let whole = length-append (questions_of names t) (case_questions names k) in
        omega (arith, first, rest, whole)

  -- ---- which stand first

  -- of two parts the first
  part_first : (texts front more : List Text) → Opens texts (front ++ more) → Opens texts front
  part_first texts front more (rest, e) = (more ++ rest, e ∙ append_assoc front more rest)

  -- and behind it the second
  part_behind : (texts front more : List Text) (n : ℕ) → length front ≡ n → Opens texts (front ++ more) → Opens (drop n texts) more
  part_behind texts front more n long (rest, e) =
      (rest, ap (λ m. drop m texts) (sym long) ∙ ap (drop (length front)) (e ∙ append_assoc front more rest) ∙ drop-append_seam front (more ++ rest))

  -- there are as many
  as_many : (texts : List (Vec ℕ Global)) (front : List Text) (n : ℕ) → length front ≡ n → Opens (texts_in texts) front → n ≤ length texts
  as_many texts front n long (rest, e) =
      let all : length (texts_in texts) ≡ length (front ++ rest) = ap length e in
      let same = length-map texts (λ (text : Vec ℕ Global). text.items) in
      let sum = length-append front rest in
      omega (arith, long, all, same, sum)

  behind_in : (texts : List (Vec ℕ Global)) (front more : List Text) (n : ℕ) → length front ≡ n → Opens (texts_in texts) (front ++ more) → Opens (texts_in (drop n texts)) more
  behind_in texts front more n long opens = subst (λ ts. Opens ts more) (drop-map (λ (text : Vec ℕ Global). text.items) n texts) (part_behind (texts_in texts) front more n long opens)

  -- those of an action
  pub opens_action : (texts : List Text) (ts : List Inner) (t : Tree) → Opens texts (argument_questions names ts ++ questions_of names t) → Opens texts (argument_questions names ts)
  opens_action texts ts t opens = part_first texts (argument_questions names ts) (questions_of names t) opens

  pub enough_for_action : (texts : List (Vec ℕ Global)) (ts : List Inner) (t : Tree) → Opens (texts_in texts) (argument_questions names ts ++ questions_of names t) → argument_count ts ≤ length texts
  enough_for_action texts ts t opens = as_many texts (argument_questions names ts) (argument_count ts) (length_arguments ts) (opens_action (texts_in texts) ts t opens)

  pub opens_behind_action : (texts : List (Vec ℕ Global)) (ts : List Inner) (t : Tree) → Opens (texts_in texts) (argument_questions names ts ++ questions_of names t) → Opens (texts_in (drop (argument_count ts) texts)) (questions_of names t)
  opens_behind_action texts ts t opens = behind_in texts (argument_questions names ts) (questions_of names t) (argument_count ts) (length_arguments ts) opens

  -- those behind the first, as a slice has them
  pub opens_rest : (texts : List (Vec ℕ Global)) (question : Text) (more : List Text) → Opens (texts_in texts) (question ∷ more) → Opens (texts_in (take (length texts - 1) (drop 1 texts))) more
  opens_rest texts question more opens =
      let few : length (drop 1 texts) ≤ length texts - 1 = omega (arith, length-drop 1 texts) in
      subst (λ ts. Opens (texts_in ts) more) (sym (take_all (length texts - 1) (drop 1 texts) few)) (behind_in texts (question ∷ []) more 1 refl opens)

  -- those of a tree before others
  pub opens_tree : (texts : List Text) (t : Tree) (more : List Text) → Opens texts (questions_of names t ++ more) → Opens texts (questions_of names t)
  opens_tree texts t more opens = part_first texts (questions_of names t) more opens

  pub opens_tree_in : (texts : List (Vec ℕ Global)) (t : Tree) (more : List Text) → Opens (texts_in texts) (questions_of names t ++ more) → Opens (texts_in texts) (questions_of names t)
  opens_tree_in texts t more opens = opens_tree (texts_in texts) t more opens

  pub enough_for_tree : (texts : List (Vec ℕ Global)) (t : Tree) (more : List Text) → Opens (texts_in texts) (questions_of names t ++ more) → question_count t ≤ length texts
  enough_for_tree texts t more opens = as_many texts (questions_of names t) (question_count t) (length_questions t) (opens_tree (texts_in texts) t more opens)

  pub opens_behind_tree : (texts : List (Vec ℕ Global)) (t : Tree) (more : List Text) → Opens (texts_in texts) (questions_of names t ++ more) → Opens (texts_in (drop (question_count t) texts)) more
  opens_behind_tree texts t more opens = behind_in texts (questions_of names t) more (question_count t) (length_questions t) opens
