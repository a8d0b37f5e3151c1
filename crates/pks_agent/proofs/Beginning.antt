-- A dialogue that is given more answers goes on from where it broke off.
use Rattle.std.proofs.Common.{◌≡◌, ℕ, ◌+◌, true, false, cond, List, [], ◌∷◌, ◌++◌, Option, Some, None, refl, ap, ◌∙◌, subst}
use Rattle.std.specs.Prelude.{codes, nat_eq}
use Rattle.std.specs.List.{filter_map}
use Rattle.std.specs.Option.{option_map_or}
use Rattle.pks_terms.specs.Syntax.{Object, Parameter, Apply, Inner, term_of}
use Rattle.pks_terms.specs.Signatures.{Signature, range_of}
use Rattle.pks_terms.specs.Worlds.{World}
use Rattle.pks_terms.specs.Problems.{Problem}
use Rattle.pks_terms.specs.Knowledge.{run_of}
use Rattle.pks_terms.specs.Trees.{Tree, Goal, Impossible, Do, Branch, Cases, Chain, End, More}
use Rattle.pks_terms.specs.Printed.{Text, Names, term_text, conj_text}
use Rattle.pks_terms.specs.Talk.{Said, Question, Statement, Unfit, Talked, GoesOn, saying, asking, asking_each, told_by, truth_told, object_named, do_text, talk_from, talk_case, talk, statement_in, statements, run_statements, world_answers}
use Rattle.pks_agent.specs.Along.{LeadsAlong}
use Rattle.pks_agent.specs.Bounds.{Begins, StandFirst}

-- a dialogue goes on alike with more answers
abbrev GoesOnAlike : GoesOn → Type 0
GoesOnAlike go = (k : ℕ) (given more : List Text) → Begins (go k given) (go k (given ++ more))

said_first : (said : Said) (part whole : Talked) → Begins part whole → Begins (saying said part) (saying said whole)
said_first said part whole (rest, e) = (rest, ap (λ lines. said ∷ lines) e)

-- a question, and what comes of what its answer told
abbrev pub asked_then : {X : Type 0} → Text → (X → GoesOn) → ℕ → Option X → List Text → Talked
asked_then question go k o answers = saying (Question question) (option_map_or (λ x. go x (k + 1) answers) o (record { lines = []; end = Unfit k; left = answers }))

asking_alike : {X : Type 0} (reads : Text → Option X) (question : Text) (go : X → GoesOn) → ((x : X) → GoesOnAlike (go x)) → GoesOnAlike (asking reads question go)
asking_alike reads question go alike k [] [] = ([], refl)
asking_alike reads question go alike k [] (answer ∷ more) = (_, refl)
asking_alike {X = X} reads question go alike k (answer ∷ given) more = by_told (told_by reads answer)
  where
    by_told : (o : Option X) → Begins (asked_then question go k o given) (asked_then question go k o (given ++ more))
    by_told None = ([], refl)
    by_told (Some x) = said_first (Question question) (go x (k + 1) given) (go x (k + 1) (given ++ more)) (alike x (k + 1) given more)

module _ (s : Signature) (names : Names) where
  each_alike : (ts : List Inner) (go : List Inner → GoesOn) → ((us : List Inner) → GoesOnAlike (go us)) → GoesOnAlike (asking_each s names ts go)
  each_alike [] go alike = alike []
  each_alike (Object d ∷ ts) go alike = each_alike ts (λ us. go (Object d ∷ us)) (λ us. alike (Object d ∷ us))
  each_alike (Parameter i ∷ ts) go alike = each_alike ts (λ us. go (Parameter i ∷ us)) (λ us. alike (Parameter i ∷ us))
  each_alike (Apply f ds ∷ ts) go alike =
      asking_alike (object_named names (range_of s (Apply f ds))) (codes "value " ++ term_text names (term_of (Apply f ds))) (λ d. asking_each s names ts (λ us. go (Object d ∷ us)))
      (λ d. each_alike ts (λ us. go (Object d ∷ us)) (λ us. alike (Object d ∷ us)))

  mutual
    tree_alike : (t : Tree) → GoesOnAlike (talk_from s names t)
    tree_alike Goal k given more = ([], refl)
    tree_alike Impossible k given more = ([], refl)
    tree_alike (Do i t) k given more =
        each_alike i.arguments (λ arguments k answers. saying (Statement (do_text names i.action arguments)) (talk_from s names t k answers))
        (λ us j part rest. said_first (Statement (do_text names i.action us)) (talk_from s names t j part) (talk_from s names t j (part ++ rest)) (tree_alike t j part rest)) k given more
    tree_alike (Branch c t u) k given more =
        asking_alike truth_told (codes "test " ++ conj_text names c) (λ truth k answers. cond truth (talk_from s names t k answers) (talk_from s names u k answers))
        (λ truth j part rest. elim truth as (λ b. Begins (cond b (talk_from s names t j part) (talk_from s names u j part)) (cond b (talk_from s names t j (part ++ rest)) (talk_from s names u j (part ++ rest)))) [
          | true ↦ tree_alike t j part rest
          | false ↦ tree_alike u j part rest
        ]) k given more
    tree_alike (Cases x chain) k given more =
        asking_alike (object_named names (range_of s x)) (codes "value " ++ term_text names x) (λ e k answers. talk_case s names chain e k answers) (λ e. case_alike chain e) k given more

    case_alike : (chain : Chain) (e : ℕ) → GoesOnAlike (talk_case s names chain e)
    case_alike End e k given more = ([], refl)
    case_alike (More o t chain) e k given more =
        elim (nat_eq o e) as (λ b. Begins (cond b (talk_from s names t k given) (talk_case s names chain e k given)) (cond b (talk_from s names t k (given ++ more)) (talk_case s names chain e k (given ++ more)))) [
          | true ↦ tree_alike t k given more
          | false ↦ case_alike chain e k given more
        ]

  pub talk_begins : (t : Tree) (given more : List Text) → Begins (talk s names t given) (talk s names t (given ++ more))
  unfolding talk
  talk_begins t given more = tree_alike t 1 given more

filtered : (lines rest : List Said) → filter_map statement_in (lines ++ rest) ≡ filter_map statement_in lines ++ filter_map statement_in rest
filtered [] rest = refl
filtered (Question text ∷ lines) rest = filtered lines rest
filtered (Statement text ∷ lines) rest = ap (λ texts. text ∷ texts) (filtered lines rest)

statements_first : (part whole : Talked) → Begins part whole → StandFirst (statements part) (statements whole)
statements_first part whole (rest, e) = (filter_map statement_in rest, ap (filter_map statement_in) e ∙ filtered part.lines rest)

-- what was told along these answers of the world begins what the run tells
pub begins_run : (p : Problem) (names : Names) (t : Tree) (w : World) → LeadsAlong p names t w → (given more rest : List Text) → given ++ more ≡ world_answers p names t w ++ rest
    → StandFirst (statements (talk p.signature names t given)) (run_statements names (run_of p t w))
begins_run p names t w along given more rest e =
    let first = statements_first (talk p.signature names t given) (talk p.signature names t (given ++ more)) (talk_begins p.signature names t given more) in
    let whole : statements (talk p.signature names t (given ++ more)) ≡ run_statements names (run_of p t w) = ap (λ answers. statements (talk p.signature names t answers)) e ∙ (along rest).statements in
    subst (StandFirst (statements (talk p.signature names t given))) whole first
