-- How much a dialogue asks and says: at an action no more than four questions and its line, elsewhere one question.
use Rattle.std.proofs.Common.{◌≡◌, ◌≤◌, ℕ, ◌+◌, ◌*◌, suc, max, Bool, true, false, cond, List, [], ◌∷◌, length, Option, Some, None, refl, ap, arith}
use Rattle.std.specs.Prelude.{nat_eq}
use Rattle.std.specs.Option.{option_map_or}
use Rattle.std.proofs.Math.Nat.{le-max_left, le-max_right}
use Rattle.pks_terms.specs.Sets.{Each}
use Rattle.pks_terms.specs.Syntax.{Object, Parameter, Apply, Inner, term_of}
use Rattle.pks_terms.specs.Signatures.{Signature, range_of}
use Rattle.pks_terms.specs.Knowledge.{Ending, AtGoal, AtImpossible, NoCase}
use Rattle.pks_terms.specs.Trees.{Tree, Goal, Impossible, Do, Branch, Cases, Chain, End, More, depth, chain_depth}
use Rattle.pks_terms.specs.Printed.{Text, Names, end_text}
use Rattle.pks_terms.specs.Talk.{Talked, Question, Statement, Unfit, GoesOn, saying, ending, asking, asking_each, told_by, truth_told, object_named, do_text, talk_from, talk_case, talk}
use Rattle.pks_agent.specs.Rooms.{IsSpoken, test_question, value_question, argument_questions}
use Rattle.pks_agent.specs.Bounds.{IsWithin}

module _ (P : Text → Type 0) where
  more_room : (q q' l l' : ℕ) (talked : Talked) → q ≤ q' → l ≤ l' → IsWithin P q l talked → IsWithin P q' l' talked
  more_room q q' l l' talked a b w = record { questions = omega (arith, a, w.questions); lines = omega (arith, b, w.lines); each = w.each }

  asked_more : (q l : ℕ) (question : Text) (talked : Talked) → P question → IsWithin P q l talked → IsWithin P (q + 1) (l + 1) (saying (Question question) talked)
  asked_more q l question talked p w = record { questions = omega (arith, w.questions); lines = omega (arith, w.lines); each = (p, w.each) }

  told_more : (q l : ℕ) (text : Text) (talked : Talked) → P text → IsWithin P q l talked → IsWithin P q (l + 1) (saying (Statement text) talked)
  told_more q l text talked p w = record { questions = w.questions; lines = omega (arith, w.lines); each = (p, w.each) }

  asking_within : {X : Type 0} (reads : Text → Option X) (question : Text) (go : X → GoesOn) (q l : ℕ) → P question → ((x : X) (k : ℕ) (answers : List Text) → IsWithin P q l (go x k answers))
      → (k : ℕ) (answers : List Text) → IsWithin P (q + 1) (l + 1) (asking reads question go k answers)
  asking_within reads question go q l p behind k [] = record { questions = omega arith; lines = omega arith; each = (p, tt) }
  asking_within {X = X} reads question go q l p behind k (answer ∷ answers) = by_told (told_by reads answer)
    where
      by_told : (o : Option X) → IsWithin P (q + 1) (l + 1) (saying (Question question) (option_map_or (λ x. go x (k + 1) answers) o (record { lines = []; end = Unfit k; left = answers })))
      by_told None = record { questions = omega arith; lines = omega arith; each = (p, tt) }
      by_told (Some x) = asked_more q l question (go x (k + 1) answers) p (behind x (k + 1) answers)

  module _ (s : Signature) (names : Names) where
    -- the lines of an action whose arguments are these
    abbrev ArgumentsSay : ℕ → List Inner → Type 0
    ArgumentsSay action ts = (us : List Inner) → length us ≡ length ts → Each IsSpoken us → P (do_text names action us)

    each_within : (ts : List Inner) (go : List Inner → GoesOn) (q l : ℕ) → Each P (argument_questions names ts)
        → ((us : List Inner) → length us ≡ length ts → Each IsSpoken us → (k : ℕ) (answers : List Text) → IsWithin P q l (go us k answers))
        → (k : ℕ) (answers : List Text) → IsWithin P (q + length ts) (l + length ts) (asking_each s names ts go k answers)
    each_within [] go q l say behind k answers = more_room q (q + 0) l (l + 0) (go [] k answers) (omega arith) (omega arith) (behind [] refl tt k answers)
    each_within (Object d ∷ ts) go q l say behind k answers =
        more_room (q + length ts) (q + length (Object d ∷ ts)) (l + length ts) (l + length (Object d ∷ ts)) _ (omega arith) (omega arith)
        (each_within ts (λ us. go (Object d ∷ us)) q l say (λ us e spoken. behind (Object d ∷ us) (ap suc e) (tt, spoken)) k answers)
    each_within (Parameter i ∷ ts) go q l say behind k answers =
        more_room (q + length ts) (q + length (Parameter i ∷ ts)) (l + length ts) (l + length (Parameter i ∷ ts)) _ (omega arith) (omega arith)
        (each_within ts (λ us. go (Parameter i ∷ us)) q l say (λ us e spoken. behind (Parameter i ∷ us) (ap suc e) (tt, spoken)) k answers)
    each_within (Apply f ds ∷ ts) go q l say behind k answers =
        more_room (q + length ts + 1) (q + length (Apply f ds ∷ ts)) (l + length ts + 1) (l + length (Apply f ds ∷ ts)) _ (omega arith) (omega arith)
        (asking_within (object_named names (range_of s (Apply f ds))) (value_question names (term_of (Apply f ds))) (λ d. asking_each s names ts (λ us. go (Object d ∷ us))) (q + length ts) (l + length ts) say.0
        (λ d j others. each_within ts (λ us. go (Object d ∷ us)) q l say.1 (λ us e spoken. behind (Object d ∷ us) (ap suc e) (tt, spoken)) j others) k answers)

    -- P holds of each line that a dialogue of the tree may have, and no action has more than four arguments
    abbrev mutual
      pub Says : Tree → Type 0
      Says Goal = Unit {0}
      Says Impossible = Unit {0}
      Says (Do i t) = (length i.arguments ≤ 4) × Each P (argument_questions names i.arguments) × ArgumentsSay i.action i.arguments × Says t
      Says (Branch c t u) = P (test_question names c) × Says t × Says u
      Says (Cases x k) = P (value_question names x) × CasesSay k

      pub CasesSay : Chain → Type 0
      CasesSay End = Unit {0}
      CasesSay (More o t k) = Says t × CasesSay k

    module _ (ends : (x : Ending) → P (end_text x)) where
      ending_within : (x : Ending) (q l : ℕ) (answers : List Text) → IsWithin P q (l + 1) (ending x answers)
      ending_within x q l answers = record { questions = omega arith; lines = omega arith; each = (ends x, tt) }

      either : (d : ℕ) (t u : Tree) → ((j : ℕ) (others : List Text) → IsWithin P (4 * d) (5 * d + 1) (talk_from s names t j others))
          → ((j : ℕ) (others : List Text) → IsWithin P (4 * d) (5 * d + 1) (talk_from s names u j others))
          → (b : Bool) (j : ℕ) (others : List Text) → IsWithin P (4 * d) (5 * d + 1) (cond b (talk_from s names t j others) (talk_from s names u j others))
      either d t u yes' no' true j others = yes' j others
      either d t u yes' no' false j others = no' j others

      mutual
        tree_within : (t : Tree) → Says t → (k : ℕ) (answers : List Text) → IsWithin P (4 * depth t) (5 * depth t + 1) (talk_from s names t k answers)
        tree_within Goal say k answers = ending_within AtGoal 0 0 answers
        tree_within Impossible say k answers = ending_within AtImpossible 0 0 answers
        tree_within (Do i t) say k answers =
            more_room (4 * depth t + length i.arguments) (4 * (depth t + 1)) (5 * depth t + 1 + 1 + length i.arguments) (5 * (depth t + 1) + 1) _ (omega (arith, say.0)) (omega (arith, say.0))
            (each_within i.arguments (λ arguments k answers. saying (Statement (do_text names i.action arguments)) (talk_from s names t k answers)) (4 * depth t) (5 * depth t + 1 + 1) say.1
            (λ us e spoken j others. told_more (4 * depth t) (5 * depth t + 1) (do_text names i.action us) _ (say.2 us e spoken) (tree_within t say.3 j others)) k answers)
        tree_within (Branch c t u) say k answers =
            let d = max (depth t) (depth u) in
            let left : depth t ≤ d = le-max_left (depth t) (depth u) in
            let right : depth u ≤ d = le-max_right (depth t) (depth u) in
            let go : Bool → GoesOn = λ truth k answers. cond truth (talk_from s names t k answers) (talk_from s names u k answers) in
            more_room (4 * d + 1) (4 * (d + 1)) (5 * d + 1 + 1) (5 * (d + 1) + 1) _ (omega arith) (omega arith)
            (asking_within truth_told (test_question names c) go (4 * d) (5 * d + 1) say.0
            (either d t u
            (λ j others. more_room (4 * depth t) (4 * d) (5 * depth t + 1) (5 * d + 1) (talk_from s names t j others) (omega (arith, left)) (omega (arith, left)) (tree_within t say.1 j others))
            (λ j others. more_room (4 * depth u) (4 * d) (5 * depth u + 1) (5 * d + 1) (talk_from s names u j others) (omega (arith, right)) (omega (arith, right)) (tree_within u say.2 j others)))
            k answers)
        tree_within (Cases x chain) say k answers =
            let d = chain_depth chain in
            more_room (4 * d + 1) (4 * (d + 1)) (5 * d + 1 + 1) (5 * (d + 1) + 1) _ (omega arith) (omega arith)
            (asking_within (object_named names (range_of s x)) (value_question names x) (λ e k answers. talk_case s names chain e k answers) (4 * d) (5 * d + 1) say.0
            (λ e j others. case_within chain say.1 e j others) k answers)

        case_within : (chain : Chain) → CasesSay chain → (e k : ℕ) (answers : List Text) → IsWithin P (4 * chain_depth chain) (5 * chain_depth chain + 1) (talk_case s names chain e k answers)
        case_within End say e k answers = ending_within NoCase 0 0 answers
        case_within (More o t chain) say e k answers =
            let d = max (depth t) (chain_depth chain) in
            let first : depth t ≤ d = le-max_left (depth t) (chain_depth chain) in
            let others : chain_depth chain ≤ d = le-max_right (depth t) (chain_depth chain) in
            elim (nat_eq o e) as (λ b. IsWithin P (4 * d) (5 * d + 1) (cond b (talk_from s names t k answers) (talk_case s names chain e k answers))) [
              | true ↦ more_room (4 * depth t) (4 * d) (5 * depth t + 1) (5 * d + 1) (talk_from s names t k answers) (omega (arith, first)) (omega (arith, first)) (tree_within t say.0 k answers)
              | false ↦ more_room (4 * chain_depth chain) (4 * d) (5 * chain_depth chain + 1) (5 * d + 1) (talk_case s names chain e k answers) (omega (arith, others)) (omega (arith, others)) (case_within chain say.1 e k answers)
            ]

      pub talk_within : (t : Tree) → Says t → depth t ≤ 16 → (answers : List Text) → IsWithin P 64 81 (talk s names t answers)
      unfolding talk
      talk_within t say deep answers = more_room (4 * depth t) 64 (5 * depth t + 1) 81 (talk_from s names t 1 answers) (omega (arith, deep)) (omega (arith, deep)) (tree_within t say 1 answers)
