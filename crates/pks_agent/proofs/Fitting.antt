-- The text that was told comes of the first answers, each of which was fit and asked for in it.
use Rattle.std.proofs.Common.{◌≡◌, ◌⊎◌, ◌≤◌, ◌+◌, ◌∙◌, ℕ, zero, suc, true, false, cond, List, [], ◌∷◌, ◌++◌, take, drop, length, Option, Some, None, Result, Ok, Err, inl, inr, refl, sym, ap, subst, append_assoc, append-nil, arith}
use Rattle.std.specs.Prelude.{codes, nat_eq}
use Rattle.std.specs.List.{flat_map}
use Rattle.std.specs.Io.KnownBytes.{Appends}
use Rattle.std.proofs.lemmas.Grind.{flat_map-append}
use Rattle.std.proofs.lemmas.List.{take-append-drop, take_all, length-append}
use Rattle.std.proofs.lemmas.Bool.Decides.{leb_tells}
use Rattle.pks_terms.specs.Syntax.{Object, Parameter, Apply, Inner, term_of}
use Rattle.pks_terms.specs.Signatures.{Signature, range_of}
use Rattle.pks_terms.specs.Knowledge.{Ending, AtGoal, AtImpossible, NoCase}
use Rattle.pks_terms.specs.Trees.{Tree, Goal, Impossible, Do, Branch, Cases, Chain, End, More}
use Rattle.pks_terms.specs.Printed.{Text, Names, line, term_text, conj_text}
use Rattle.pks_terms.specs.Talk.{Said, Question, Statement, TalkEnd, Over, Unfit, Missing, Talked, GoesOn, saying, ending, asking, asking_each, told_by, truth_told, object_named, do_text, talk_from, talk_case, talk, said_text, talked_text}
use Rattle.pks_io.specs.Writing.{AppendsFront}
use Rattle.pks_exec.specs.declared.runs.End.{End as RunEnd}
use Rattle.pks_agent.specs.Bounds.{StandFirst, asked_in}
use Rattle.pks_agent.specs.Fitting.{IsFront, TakesAll, ComesOfFit, LeavesRefused, LeavesBehind, SaysAll, TakesFit}
use Rattle.pks_agent.specs.Hearing.{LeavesBehindUnfit}
use Rattle.pks_agent.specs.Leading.{LeavesUnfit, BreaksOff, Led}
use Rattle.pks_agent.specs.declared.ends.TalkEnd.{TalkEnd as Stop}
use Rattle.pks_agent.specs.declared.ends.TalkEnd.TheVariants.{Misfit, Silent, Failed}
use Rattle.pks_agent.specs.declared.peers.PeerFault.TheVariants.{Send, Receive}
use Rattle.pks_agent.proofs.Beginning.{asked_then, talk_begins}
use Rattle.pks_agent.proofs.Joining.{appends_more}

-- ---- fronts

pub front_of_front : (a b c : Text) → IsFront a b → IsFront b c → IsFront a c
front_of_front a b c (r, e) (s, f) = (r ++ s, f ∙ ap (λ (l : Text). l ++ s) e ∙ append_assoc a r s)

-- of two fronts of a text the shorter one is a front of the longer one
pub shorter_front : (a b c : Text) → IsFront a c → IsFront b c → length a ≤ length b → IsFront a b
shorter_front [] b c (r, e) (s, f) few = (b, refl)
shorter_front (x ∷ a) [] c (r, e) (s, f) few = absurd (omega (arith, few))
shorter_front (x ∷ a) (y ∷ b) c (r, e) (s, f) few =
    let both : x ∷ (a ++ r) ≡ y ∷ (b ++ s) = sym e ∙ f in
    let head : x ≡ y = cc in
    let tail : a ++ r ≡ b ++ s = cc in
    let less : length a ≤ length b = omega (arith, few) in
    let rest = shorter_front a b (a ++ r) (r, refl) (s, tail) less in
    (rest.0, λ i. sym head i ∷ rest.1 i)

-- each proper front of the first answers is a front of one fewer
fewer_first : (j : ℕ) (xs given : List Text) (answer : Text) (more : List Text) → take (suc j) xs ≡ given ++ answer ∷ more → StandFirst given (take j xs)
fewer_first j xs [] answer more e = (take j xs, refl)
fewer_first j [] (g ∷ given) answer more e = absurd cc
fewer_first zero (x ∷ xs) (g ∷ []) answer more e = absurd cc
fewer_first zero (x ∷ xs) (g ∷ h ∷ given) answer more e = absurd cc
fewer_first (suc j) (x ∷ xs) (g ∷ given) answer more e =
    let head : x ≡ g = cc in
    let tail : take (suc j) xs ≡ given ++ answer ∷ more = cc in
    let rest = fewer_first j xs given answer more tail in
    (rest.0, λ i. head i ∷ rest.1 i)

-- before the same texts stands the same one
same_before : (xs ys : List Text) (x y : Text) (zs : List Text) → xs ++ x ∷ zs ≡ ys ++ y ∷ zs → x ≡ y
same_before [] [] x y zs e = cc
same_before [] (b ∷ ys) x y zs e =
    let tail : zs ≡ ys ++ y ∷ zs = cc in
    let long = ap length tail ∙ length-append ys (y ∷ zs) in
    absurd (omega (arith, long))
same_before (a ∷ xs) [] x y zs e =
    let tail : xs ++ x ∷ zs ≡ zs = cc in
    let long = sym (length-append xs (x ∷ zs)) ∙ ap length tail in
    absurd (omega (arith, long))
same_before (a ∷ xs) (b ∷ ys) x y zs e = let tail : xs ++ x ∷ zs ≡ ys ++ y ∷ zs = cc in same_before xs ys x y zs tail

-- ---- the answers that are taken

-- with these answers from number k on each is taken and fit
abbrev TakesFrom : ℕ → List Text → Talked → Type 0
TakesFrom k given talked = (((x : Ending) × (talked.end ≡ Over x)) ⊎ (talked.end ≡ Missing (k + length given))) × (talked.left ≡ [])

-- by the end, what stands behind the answers that are fit: those that are left, the one that isn't fit and then those, or none
abbrev RestAt : List Text → List Text → TalkEnd → Type 0
RestAt rest left (Over x) = rest ≡ left
RestAt rest left (Unfit j) = (unfit : Text) × (rest ≡ unfit ∷ left)
RestAt rest left (Missing j) = rest ≡ []

abbrev RestFrom : List Text → Talked → Type 0
RestFrom rest talked = RestAt rest talked.left talked.end

-- the first answers that are fit: the others change no line, and so it is with each front of them
abbrev FitFrom : GoesOn → ℕ → List Text → Type 0
FitFrom go k answers =
    (fit : List Text) × (rest : List Text) × (answers ≡ fit ++ rest) × ((go k fit).lines ≡ (go k answers).lines)
    × ((given more : List Text) → fit ≡ given ++ more → TakesFrom k given (go k given)) × RestFrom rest (go k answers)

abbrev FitAlong : GoesOn → Type 0
FitAlong go = (k : ℕ) (answers : List Text) → FitFrom go k answers

-- one answer before those from the next number on
taken_behind : (k : ℕ) (b : Text) (given : List Text) (talked : Talked) (said : Said) → TakesFrom (k + 1) given talked → TakesFrom k (b ∷ given) (saying said talked)
taken_behind k b given talked said (inl over, left) = (inl over, left)
taken_behind k b given talked said (inr missing, left) = (inr (missing ∙ ap (λ n. Missing n) (let n : k + 1 + length given ≡ k + length (b ∷ given) = omega arith in n)), left)

end_fit : (x : Ending) (k : ℕ) (answers : List Text) → FitFrom (λ k answers. ending x answers) k answers
end_fit x k answers = ([], answers, refl, refl, each, refl)
  where
    each : (given more : List Text) → [] ≡ given ++ more → TakesFrom k given (ending x given)
    each [] more e = (inl (x, refl), refl)
    each (g ∷ given) more e = absurd cc

said_fit : (said : Said) (go : GoesOn) (k : ℕ) (answers : List Text) → FitFrom go k answers → FitFrom (λ k answers. saying said (go k answers)) k answers
said_fit said go k answers (fit, rest, split, same, each, behind) = (fit, rest, split, ap (λ lines. said ∷ lines) same, (λ given more e. each given more e), behind)

module _ {X : Type 0} (reads : Text → Option X) (question : Text) (go : X → GoesOn) (fits : (x : X) → FitAlong (go x)) (k : ℕ) where
  none_given : TakesFrom k [] (asking reads question go k [])
  none_given = (inr (ap (λ n. Missing n) (let n : k ≡ k + 0 = omega arith in n)), refl)

  none_first : (given more : List Text) → [] ≡ given ++ more → TakesFrom k given (asking reads question go k given)
  none_first [] more e = none_given
  none_first (g ∷ given) more e = absurd cc

  -- the first answer told x, and behind it those are fit that are so in what comes then
  told_first : (answer : Text) (x : X) → told_by reads answer ≡ Some x → (fit : List Text) → ((given more : List Text) → fit ≡ given ++ more → TakesFrom (k + 1) given (go x (k + 1) given))
      → (given more : List Text) → answer ∷ fit ≡ given ++ more → TakesFrom k given (asking reads question go k given)
  told_first answer x e fit each [] more same = none_given
  told_first answer x e fit each (b ∷ given) more same =
      let head : answer ≡ b = cc in
      let tail : fit ≡ given ++ more = cc in
      subst (λ o. TakesFrom k (b ∷ given) (asked_then question go k o given)) (sym (ap (told_by reads) (sym head) ∙ e))
      (taken_behind k b given (go x (k + 1) given) (Question question) (each given more tail))

  asking_fit : (answers : List Text) → FitFrom (asking reads question go) k answers
  asking_fit [] = ([], [], refl, refl, none_first, refl)
  asking_fit (answer ∷ answers) = by_told (told_by reads answer) refl
    where
      by_told : (o : Option X) → told_by reads answer ≡ o → FitFrom (asking reads question go) k (answer ∷ answers)
      by_told None e = ([], answer ∷ answers, refl, sym (ap (λ o. (asked_then question go k o answers).lines) e), none_first, subst (λ o. RestFrom (answer ∷ answers) (asked_then question go k o answers)) (sym e) (answer, refl))
      by_told (Some x) e =
          let f = fits x (k + 1) answers in (
            answer ∷ f.0,
            f.1,
            ap (λ l. answer ∷ l) f.2,
            ap (λ o. (asked_then question go k o f.0).lines) e ∙ ap (λ lines. Question question ∷ lines) f.3 ∙ sym (ap (λ o. (asked_then question go k o answers).lines) e),
            told_first answer x e f.0 f.4,
            subst (λ o. RestFrom f.1 (asked_then question go k o answers)) (sym e) f.5,
          )

-- ---- the answers before a line

-- the lines before this one asked for the first answers, each of which is fit: with these alone it is said too, and with fewer none behind those before it
record BrokenAt (go : GoesOn) (k : ℕ) (answers : List Text) (before : List Said) (said : Said) : Type 0 where
  fit : List Text
  rest : List Text
  all : answers ≡ fit ++ rest
  asked : rest ≡ drop (asked_in before) answers
  taken : (given more : List Text) → fit ≡ given ++ more → TakesFrom k given (go k given)
  later : List Said
  lines : (go k fit).lines ≡ before ++ said ∷ later
  each : (given : List Text) (answer : Text) (more : List Text) → fit ≡ given ++ answer ∷ more → (others : List Said) × (before ≡ (go k given).lines ++ others)

abbrev BrokenFrom : GoesOn → ℕ → List Text → Type 0
BrokenFrom go k answers = (before after : List Said) (said : Said) → (go k answers).lines ≡ before ++ said ∷ after → BrokenAt go k answers before said

abbrev BrokenAlong : GoesOn → Type 0
BrokenAlong go = (k : ℕ) (answers : List Text) → BrokenFrom go k answers

no_line : {A : Type 0} (before after : List Said) (said : Said) → [] ≡ before ++ said ∷ after → A
no_line [] after said e = absurd cc
no_line (b ∷ before) after said e = absurd cc

no_answer : {A : Type 0} (given more : List Text) (answer : Text) → [] ≡ given ++ answer ∷ more → A
no_answer [] more answer e = absurd cc
no_answer (g ∷ given) more answer e = absurd cc

end_broken : (x : Ending) (k : ℕ) (answers : List Text) → BrokenFrom (λ k answers. ending x answers) k answers
end_broken x k answers [] after said e = record {
  fit = [];
  rest = answers;
  all = refl;
  asked = refl;
  taken = none;
  later = after;
  lines = e;
  each = λ given answer more f. no_answer given more answer f;
}
  where
    none : (given more : List Text) → [] ≡ given ++ more → TakesFrom k given (ending x given)
    none [] more f = (inl (x, refl), refl)
    none (g ∷ given) more f = absurd cc
end_broken x k answers (b ∷ before) after said e = let tail : [] ≡ before ++ said ∷ after = cc in no_line before after said tail

said_broken : (text : Text) (go : GoesOn) → FitAlong go → BrokenAlong go → (k : ℕ) (answers : List Text) → BrokenFrom (λ k answers. saying (Statement text) (go k answers)) k answers
said_broken text go fits broken k answers [] after said e = record {
  fit = [];
  rest = answers;
  all = refl;
  asked = refl;
  taken = none;
  later = (go k []).lines;
  lines = let head : Statement text ≡ said = cc in λ i. head i ∷ (go k []).lines;
  each = λ given answer more f. no_answer given more answer f;
}
  where
    none : (given more : List Text) → [] ≡ given ++ more → TakesFrom k given (saying (Statement text) (go k given))
    none [] more f = let nothing = fits k [] in nothing.4 [] nothing.0 refl
    none (g ∷ given) more f = absurd cc
said_broken text go fits broken k answers (b ∷ before) after said e =
    let head : Statement text ≡ b = cc in
    let tail : (go k answers).lines ≡ before ++ said ∷ after = cc in
    let r = broken k answers before after said tail in
    record {
      fit = r.fit;
      rest = r.rest;
      all = r.all;
      asked = r.asked ∙ ap (λ (said : Said). drop (asked_in (said ∷ before)) answers) head;
      taken = λ given more f. r.taken given more f;
      later = r.later;
      lines = λ i. head i ∷ r.lines i;
      each = λ given answer more f. let l = r.each given answer more f in (l.0, λ i. sym head i ∷ l.1 i);
    }

module _ {X : Type 0} (reads : Text → Option X) (question : Text) (go : X → GoesOn) (fits : (x : X) → FitAlong (go x)) (broken : (x : X) → BrokenAlong (go x)) (k : ℕ) where
  first_broken : (answers : List Text) (said : Said) → Question question ≡ said → BrokenAt (asking reads question go) k answers [] said
  first_broken answers said head = record {
    fit = [];
    rest = answers;
    all = refl;
    asked = refl;
    taken = none_first reads question go fits k;
    later = [];
    lines = λ i. head i ∷ [];
    each = λ given answer more f. no_answer given more answer f;
  }

  asking_broken : (answers : List Text) → BrokenFrom (asking reads question go) k answers
  asking_broken [] [] after said e = first_broken [] said (let head : Question question ≡ said = cc in head)
  asking_broken [] (b ∷ before) after said e = let tail : [] ≡ before ++ said ∷ after = cc in no_line before after said tail
  asking_broken (answer ∷ answers) [] after said e = first_broken (answer ∷ answers) said (let head : Question question ≡ said = cc in head)
  asking_broken (answer ∷ answers) (b ∷ before) after said e = by_told (told_by reads answer) refl
    where
      by_told : (o : Option X) → told_by reads answer ≡ o → BrokenAt (asking reads question go) k (answer ∷ answers) (b ∷ before) said
      by_told None f =
          let whole : Question question ∷ [] ≡ b ∷ (before ++ said ∷ after) = sym (ap (λ o. (asked_then question go k o answers).lines) f) ∙ e in
          let tail : [] ≡ before ++ said ∷ after = cc in
          no_line before after said tail
      by_told (Some x) f =
          let whole : Question question ∷ (go x (k + 1) answers).lines ≡ b ∷ (before ++ said ∷ after) = sym (ap (λ o. (asked_then question go k o answers).lines) f) ∙ e in
          let head : Question question ≡ b = cc in
          let tail : (go x (k + 1) answers).lines ≡ before ++ said ∷ after = cc in
          let r = broken x (k + 1) answers before after said tail in
          let one : suc (asked_in before) ≡ 1 + asked_in before = omega arith in
          record {
            fit = answer ∷ r.fit;
            rest = r.rest;
            all = ap (λ (l : List Text). answer ∷ l) r.all;
            asked = r.asked ∙ ap (λ n. drop n (answer ∷ answers)) one ∙ ap (λ (said : Said). drop (asked_in (said ∷ before)) (answer ∷ answers)) head;
            taken = told_first reads question go fits k answer x f r.fit r.taken;
            later = r.later;
            lines = ap (λ o. (asked_then question go k o r.fit).lines) f ∙ (λ i. head i ∷ r.lines i);
            each = each_first x f head r.fit r.each;
          }
        where
          each_first : (x : X) → told_by reads answer ≡ Some x → Question question ≡ b → (fit : List Text)
              → ((given : List Text) (next : Text) (more : List Text) → fit ≡ given ++ next ∷ more → (others : List Said) × (before ≡ (go x (k + 1) given).lines ++ others))
              → (given : List Text) (next : Text) (more : List Text) → answer ∷ fit ≡ given ++ next ∷ more → (others : List Said) × (b ∷ before ≡ (asking reads question go k given).lines ++ others)
          each_first x f head fit each [] next more same = (before, λ i. sym head i ∷ before)
          each_first x f head fit each (g ∷ given) next more same =
              let first : answer ≡ g = cc in
              let others : fit ≡ given ++ next ∷ more = cc in
              let l = each given next more others in
              (l.0, (λ i. sym head i ∷ l.1 i) ∙ ap (λ o. (asked_then question go k o given).lines ++ l.0) (sym (ap (told_by reads) (sym first) ∙ f)))

module _ (s : Signature) (names : Names) where
  each_fit : (ts : List Inner) (go : List Inner → GoesOn) → ((us : List Inner) → FitAlong (go us)) → FitAlong (asking_each s names ts go)
  each_fit [] go fits = fits []
  each_fit (Object d ∷ ts) go fits = each_fit ts (λ us. go (Object d ∷ us)) (λ us. fits (Object d ∷ us))
  each_fit (Parameter i ∷ ts) go fits = each_fit ts (λ us. go (Parameter i ∷ us)) (λ us. fits (Parameter i ∷ us))
  each_fit (Apply f ds ∷ ts) go fits = λ k answers.
      asking_fit (object_named names (range_of s (Apply f ds))) (codes "value " ++ term_text names (term_of (Apply f ds))) (λ d. asking_each s names ts (λ us. go (Object d ∷ us)))
      (λ d. each_fit ts (λ us. go (Object d ∷ us)) (λ us. fits (Object d ∷ us))) k answers

  mutual
    tree_fit : (t : Tree) → FitAlong (talk_from s names t)
    tree_fit Goal k answers = end_fit AtGoal k answers
    tree_fit Impossible k answers = end_fit AtImpossible k answers
    tree_fit (Do i t) k answers =
        each_fit i.arguments (λ arguments k answers. saying (Statement (do_text names i.action arguments)) (talk_from s names t k answers))
        (λ us j part. said_fit (Statement (do_text names i.action us)) (talk_from s names t) j part (tree_fit t j part)) k answers
    tree_fit (Branch c t u) k answers =
        asking_fit truth_told (codes "test " ++ conj_text names c) (λ truth k answers. cond truth (talk_from s names t k answers) (talk_from s names u k answers))
        (λ truth j part. elim truth as (λ b. FitFrom (λ k answers. cond b (talk_from s names t k answers) (talk_from s names u k answers)) j part) [
          | true ↦ tree_fit t j part
          | false ↦ tree_fit u j part
        ]) k answers
    tree_fit (Cases x chain) k answers =
        asking_fit (object_named names (range_of s x)) (codes "value " ++ term_text names x) (λ e k answers. talk_case s names chain e k answers) (λ e. case_fit chain e) k answers

    case_fit : (chain : Chain) (e : ℕ) → FitAlong (talk_case s names chain e)
    case_fit End e k answers = end_fit NoCase k answers
    case_fit (More o t chain) e k answers =
        elim (nat_eq o e) as (λ b. FitFrom (λ k answers. cond b (talk_from s names t k answers) (talk_case s names chain e k answers)) k answers) [
          | true ↦ tree_fit t k answers
          | false ↦ case_fit chain e k answers
        ]

  each_broken : (ts : List Inner) (go : List Inner → GoesOn) → ((us : List Inner) → FitAlong (go us)) → ((us : List Inner) → BrokenAlong (go us)) → BrokenAlong (asking_each s names ts go)
  each_broken [] go fits broken = broken []
  each_broken (Object d ∷ ts) go fits broken = each_broken ts (λ us. go (Object d ∷ us)) (λ us. fits (Object d ∷ us)) (λ us. broken (Object d ∷ us))
  each_broken (Parameter i ∷ ts) go fits broken = each_broken ts (λ us. go (Parameter i ∷ us)) (λ us. fits (Parameter i ∷ us)) (λ us. broken (Parameter i ∷ us))
  each_broken (Apply f ds ∷ ts) go fits broken = λ k answers.
      asking_broken (object_named names (range_of s (Apply f ds))) (codes "value " ++ term_text names (term_of (Apply f ds))) (λ d. asking_each s names ts (λ us. go (Object d ∷ us)))
      (λ d. each_fit ts (λ us. go (Object d ∷ us)) (λ us. fits (Object d ∷ us)))
      (λ d. each_broken ts (λ us. go (Object d ∷ us)) (λ us. fits (Object d ∷ us)) (λ us. broken (Object d ∷ us))) k answers

  mutual
    tree_broken : (t : Tree) → BrokenAlong (talk_from s names t)
    tree_broken Goal k answers = end_broken AtGoal k answers
    tree_broken Impossible k answers = end_broken AtImpossible k answers
    tree_broken (Do i t) k answers =
        each_broken i.arguments (λ arguments k answers. saying (Statement (do_text names i.action arguments)) (talk_from s names t k answers))
        (λ us j part. said_fit (Statement (do_text names i.action us)) (talk_from s names t) j part (tree_fit t j part))
        (λ us. said_broken (do_text names i.action us) (talk_from s names t) (tree_fit t) (tree_broken t)) k answers
    tree_broken (Branch c t u) k answers =
        asking_broken truth_told (codes "test " ++ conj_text names c) (λ truth k answers. cond truth (talk_from s names t k answers) (talk_from s names u k answers))
        (λ truth j part. elim truth as (λ b. FitFrom (λ k answers. cond b (talk_from s names t k answers) (talk_from s names u k answers)) j part) [
          | true ↦ tree_fit t j part
          | false ↦ tree_fit u j part
        ])
        (λ truth j part. elim truth as (λ b. BrokenFrom (λ k answers. cond b (talk_from s names t k answers) (talk_from s names u k answers)) j part) [
          | true ↦ tree_broken t j part
          | false ↦ tree_broken u j part
        ]) k answers
    tree_broken (Cases x chain) k answers =
        asking_broken (object_named names (range_of s x)) (codes "value " ++ term_text names x) (λ e k answers. talk_case s names chain e k answers) (λ e. case_fit chain e) (λ e. case_broken chain e) k answers

    case_broken : (chain : Chain) (e : ℕ) → BrokenAlong (talk_case s names chain e)
    case_broken End e k answers = end_broken NoCase k answers
    case_broken (More o t chain) e k answers =
        elim (nat_eq o e) as (λ b. BrokenFrom (λ k answers. cond b (talk_from s names t k answers) (talk_case s names chain e k answers)) k answers) [
          | true ↦ tree_broken t k answers
          | false ↦ case_broken chain e k answers
        ]

  -- ---- the answers that a text comes of

  module _ (t : Tree) where
    text_begins : (given more : List Text) → IsFront (talked_text (talk s names t given)) (talked_text (talk s names t (given ++ more)))
    text_begins given more =
        let begins = talk_begins s names t given more in
        (flat_map (λ said. line (said_text said)) begins.0, ap (flat_map (λ said. line (said_text said))) begins.1 ∙ flat_map-append (λ said. line (said_text said)) (talk s names t given).lines begins.0)

    module _ (answers fit rest : List Text) (split : answers ≡ fit ++ rest) (each : (given more : List Text) → fit ≡ given ++ more → TakesFrom 1 given (talk s names t given)) (text : Text)
        (part : IsFront text (talked_text (talk s names t answers))) where
      first_few : (j : ℕ) → answers ≡ take j fit ++ (drop j fit ++ rest)
      first_few j = split ∙ ap (λ l. l ++ rest) (sym (take-append-drop j fit)) ∙ append_assoc (take j fit) (drop j fit) rest

      few_begin : (j : ℕ) → IsFront (talked_text (talk s names t (take j fit))) (talked_text (talk s names t answers))
      few_begin j = subst (λ l. IsFront (talked_text (talk s names t (take j fit))) (talked_text (talk s names t l))) (sym (first_few j)) (text_begins (take j fit) (drop j fit ++ rest))

      few_taken : (j : ℕ) → TakesAll (take j fit) (talk s names t (take j fit))
      few_taken j = by_end (each (take j fit) (drop j fit) (sym (take-append-drop j fit)))
        where
          by_end : TakesFrom 1 (take j fit) (talk s names t (take j fit)) → TakesAll (take j fit) (talk s names t (take j fit))
          by_end (inl over, left) = record { ends = inl over; left = left }
          by_end (inr missing, left) = record { ends = inr (missing ∙ ap (λ n. Missing n) (let n : 1 + length (take j fit) ≡ length (take j fit) + 1 = omega arith in n)); left = left }

      comes : (j : ℕ) → IsFront text (talked_text (talk s names t (take j fit)))
          → ((given : List Text) (answer : Text) (more : List Text) → take j fit ≡ given ++ answer ∷ more → IsFront (talked_text (talk s names t given)) text) → (own : List Text) × ComesOfFit s names t answers own text
      comes j front asked = (take j fit, record { first = (drop j fit ++ rest, first_few j); taken = few_taken j; asked = asked; front = front })

      -- as few answers as the text has lines for
      fewest : (j : ℕ) → IsFront text (talked_text (talk s names t (take j fit))) → (own : List Text) × ComesOfFit s names t answers own text
      fewest zero front = comes zero front none
        where
          none : (given : List Text) (answer : Text) (more : List Text) → [] ≡ given ++ answer ∷ more → IsFront (talked_text (talk s names t given)) text
          none [] answer more e = absurd cc
          none (g ∷ given) answer more e = absurd cc
      fewest (suc j) front = elim (leb_tells (length text) (length (talked_text (talk s names t (take j fit))))) [
        | inl few ↦ fewest j (shorter_front text (talked_text (talk s names t (take j fit))) (talked_text (talk s names t answers)) part (few_begin j) few.1)
        | inr many ↦ comes (suc j) front (λ given answer more e.
            let own = fewer_first j fit given answer more e in
            let less : length (talked_text (talk s names t (take j fit))) ≤ length text = omega (arith, many.1) in
            front_of_front (talked_text (talk s names t given)) (talked_text (talk s names t (take j fit))) text
            (subst (λ l. IsFront (talked_text (talk s names t given)) (talked_text (talk s names t l))) (sym own.1) (text_begins given own.0))
            (shorter_front (talked_text (talk s names t (take j fit))) text (talked_text (talk s names t answers)) (few_begin j) part less))
      ]

    pub comes_of_fit : (answers : List Text) (text : Text) → IsFront text (talked_text (talk s names t answers)) → (fit : List Text) × ComesOfFit s names t answers fit text
    unfolding talk
    comes_of_fit answers text part =
        let f = tree_fit t 1 answers in
        let all : take (length f.0) f.0 ≡ f.0 = take_all (length f.0) f.0 (let n : length f.0 ≤ length f.0 = omega arith in n) in
        fewest answers f.0 f.1 f.2 f.4 text part (length f.0)
        (subst (λ l. IsFront text (talked_text (talk s names t l))) (sym all) (subst (λ lines. IsFront text (flat_map (λ said. line (said_text said)) lines)) (sym f.3) part))

    -- ---- the answers that are left

    all_taken : (fit : List Text) → ((given more : List Text) → fit ≡ given ++ more → TakesFrom 1 given (talk s names t given)) → TakesAll fit (talk s names t fit)
    all_taken fit each = by_end (each fit [] (sym (append-nil fit)))
      where
        by_end : TakesFrom 1 fit (talk s names t fit) → TakesAll fit (talk s names t fit)
        by_end (inl over, left) = record { ends = inl over; left = left }
        by_end (inr missing, left) = record { ends = inr (missing ∙ ap (λ n. Missing n) (let n : 1 + length fit ≡ length fit + 1 = omega arith in n)); left = left }

    module _ (answers : List Text) (old new : Option Text) (left : Option (List Text)) where
      abbrev Taken : Result RunEnd Stop → Type 0
      Taken result = TakesFit s names t answers old new left result

      -- all lines were said
      whole_fit : (result : Result RunEnd Stop) → Appends old new (talked_text (talk s names t answers)) → SaysAll (talked_text (talk s names t answers)) (talked_text (talk s names t answers)) result → ((fit rest : List Text) → answers ≡ fit ++ rest → RestFrom rest (talk s names t answers) → LeavesBehind rest left result) → Taken result
      unfolding talk
      whole_fit result appends all_said behind =
          let f = tree_fit t 1 answers in
          record {
            fit = f.0;
            text = talked_text (talk s names t answers);
            comes = record {
              first = (f.1, f.2);
              taken = all_taken f.0 f.4;
              asked = λ given answer more e.
                  let all : answers ≡ given ++ (answer ∷ more ++ f.1) = f.2 ∙ ap (λ (l : List Text). l ++ f.1) e ∙ append_assoc given (answer ∷ more) f.1 in
                  subst (λ l. IsFront (talked_text (talk s names t given)) (talked_text (talk s names t l))) (sym all) (text_begins given (answer ∷ more ++ f.1));
              front = ([], sym (append-nil (talked_text (talk s names t answers)) ∙ ap (flat_map (λ said. line (said_text said))) (sym f.3)));
            };
            appends = appends;
            whole = all_said;
            left_is = behind f.0 f.1 f.2 f.5;
          }

      -- sending failed at a line
      broken_fit : BreaksOff old new answers left (talk s names t answers) → Taken (Err (Failed Send))
      unfolding talk
      broken_fit b =
          let r = tree_broken t 1 answers b.before b.after b.said b.lines in
          let told = flat_map (λ x. line (said_text x)) b.before in
          let last = line (said_text b.said) in
          let part = take b.front.0 last in
          record {
            fit = r.fit;
            text = told ++ part;
            comes = record {
              first = (r.rest, r.all);
              taken = all_taken r.fit r.taken;
              asked = λ given answer more e.
                  let l = r.each given answer more e in
                  let lines : told ≡ talked_text (talk s names t given) ++ flat_map (λ x. line (said_text x)) l.0 = ap (flat_map (λ x. line (said_text x))) l.1 ∙ flat_map-append (λ x. line (said_text x)) (talk s names t given).lines l.0 in
                  (flat_map (λ x. line (said_text x)) l.0 ++ part, ap (λ (l : Text). l ++ part) lines ∙ append_assoc (talked_text (talk s names t given)) (flat_map (λ x. line (said_text x)) l.0) part);
              front = (drop b.front.0 last ++ flat_map (λ x. line (said_text x)) r.later, ap (flat_map (λ x. line (said_text x))) r.lines ∙ broken_text b.before r.later b.said b.front.0);
            };
            appends = appends_more old b.mid new told part b.whole b.front.2;
            whole = tt;
            left_is = b.stay ∙ ap (λ l. Some l) (sym r.asked);
          }
        where
          broken_text : (before later : List Said) (said : Said) (n : ℕ)
              → flat_map (λ x. line (said_text x)) (before ++ said ∷ later) ≡ (flat_map (λ x. line (said_text x)) before ++ take n (line (said_text said))) ++ (drop n (line (said_text said)) ++ flat_map (λ x. line (said_text x)) later)
          broken_text before later said n =
              let told = flat_map (λ x. line (said_text x)) before in
              let last = line (said_text said) in
              let behind = flat_map (λ x. line (said_text x)) later in
              flat_map-append (λ x. line (said_text x)) before (said ∷ later)
              ∙ ap (λ (l : Text). told ++ (l ++ behind)) (sym (take-append-drop n last))
              ∙ ap (λ (l : Text). told ++ l) (append_assoc (take n last) (drop n last) behind)
              ∙ sym (append_assoc told (take n last) (drop n last ++ behind))

      -- a front of the lines was said, and it isn't known which answers are left
      front_fit : AppendsFront old new (talked_text (talk s names t answers)) → Taken (Err (Failed Receive))
      front_fit (n, few, appends) =
          let all = talked_text (talk s names t answers) in
          let c = comes_of_fit answers (take n all) (drop n all, sym (take-append-drop n all)) in
          record { fit = c.0; text = take n all; comes = c.1; appends = appends; whole = tt; left_is = tt }

      pub takes_fit : (result : Result RunEnd Stop) → Led old new answers left result (talk s names t answers) → Taken result
      takes_fit (Ok end) led = whole_fit (Ok end) led.1 refl (λ fit rest all behind. led.2 ∙ ap (λ l. Some l) (sym (subst (RestAt rest (talk s names t answers).left) led.0 behind)))
      takes_fit (Err (Misfit k)) led = whole_fit (Err (Misfit k)) led.1 refl (λ fit rest all behind. refused fit rest all (subst (RestAt rest (talk s names t answers).left) led.0 behind) led.2)
        where
          refused : (fit rest : List Text) → answers ≡ fit ++ rest → (unfit : Text) × (rest ≡ unfit ∷ (talk s names t answers).left) → LeavesUnfit answers (talk s names t answers).left left → LeavesRefused rest left
          refused fit rest all (unfit, is) (given, other, split, ends) =
              let one : unfit ≡ other = same_before fit given unfit other (talk s names t answers).left (sym (all ∙ ap (λ (l : List Text). fit ++ l) is) ∙ split) in
              subst (λ l. LeavesRefused l left) (sym is) (subst (λ x. LeavesBehindUnfit x (talk s names t answers).left left) (sym one) ends)
      takes_fit (Err (Silent k)) led = whole_fit (Err (Silent k)) led.1 refl (λ fit rest all behind. subst (λ l. LeavesRefused l left) (sym (subst (RestAt rest (talk s names t answers).left) led.0 behind)) led.2)
      takes_fit (Err (Failed Send)) led = broken_fit led
      takes_fit (Err (Failed Receive)) led = front_fit led
