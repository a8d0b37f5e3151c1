-- What a parse of the command has told of the words.
use Rattle.std.proofs.Common.{◌≡◌, ◌∙◌, ◌∷◌, [], ℕ, List, Option, option_map, Some, None, Result, Ok, Err, IsErrOf, String, map, drop, codes, decimal, string_bytes, refl, sym, ap, ap₂, ◌↔◌, subst}
use Rattle.std.specs.Str.{IsUtf8}
use Rattle.std.specs.Result.{IsErrAnd}
use Rattle.std.proofs.lemmas.Str.{IsUtf8-string_bytes}
use Rattle.clap.specs.Walk.{Row, first_of, finished}
use Rattle.clap.specs.Simple.{matches_of}
use Rattle.clap.specs.Faults.{fault_of}
use Rattle.pks_terms.specs.Printed.{Text}
use Rattle.pks_terms.specs.Sets.{Each}
use Rattle.pks_terms.specs.Jobs.{Job, mode_of, mode_word, number_of_job, number_words, positionals}
use Rattle.pks_run_words.specs.Command.{two_words, given, HasWords}
use Rattle.pks_run_words.specs.JobViews.{AreWordsOf, AskFor, AskForOne, AskNoJob}
use Rattle.pks_run_words.specs.declared.end.WordsEnd.{WordsEnd}
use Rattle.pks_run_words.specs.declared.end.WordsEnd.TheVariants.{Refused, Memory}
use Rattle.pks_run_words.proofs.Spelling.{one_spelled}
use Rattle.pks_run_words.proofs.Walking.{faults_of, fault_is, matches_are, held_of, rules}

-- each word but the first is text
pub are_texts : {Z : Type 0} (words : List (String Z)) → Each IsUtf8 (drop 1 (map string_bytes words))
are_texts [] = tt
are_texts {Z = Z} (name ∷ words) = go words
  where
    go : (words : List (String Z)) → Each IsUtf8 (map string_bytes words)
    go [] = tt
    go (w ∷ words) = (IsUtf8-string_bytes w, go words)

module _ (words : List Text) (texts : Each IsUtf8 (drop 1 words)) where
  -- no kind of error: the words are those that were found
  pub found : fault_of two_words words ≡ [] → (rows : List Row) → rows ≡ matches_of two_words words → (mode : Text) (number : Option Text) → Some mode ≡ first_of (codes "mode") rows
      → number ≡ first_of (codes "number") rows → HasWords words mode number
  found none rows rows_are mode number is_mode is_number = go (positionals (drop 1 words)) refl
    where
      told : (all : List Text) → positionals (drop 1 words) ≡ Some all → faults_of (Some all) ≡ [] → rows ≡ finished rules (held_of all)
      told all e f = rows_are ∙ matches_are words all texts e f

      kinds : (o : Option (List Text)) → positionals (drop 1 words) ≡ o → faults_of o ≡ []
      kinds o e = sym (ap faults_of e) ∙ (sym (fault_is words texts) ∙ none)

      go : (o : Option (List Text)) → positionals (drop 1 words) ≡ o → HasWords words mode number
      go None e = let bad = kinds None e in absurd cc
      go (Some []) e = let bad = kinds (Some []) e in absurd cc
      go (Some (a ∷ [])) e =
          let rows_in = told (a ∷ []) e refl in
          let same : Some mode ≡ Some a = is_mode ∙ ap (first_of (codes "mode")) rows_in in
          let one : mode ≡ a = cc in
          let no_number : number ≡ None = is_number ∙ ap (first_of (codes "number")) rows_in in
          e ∙ ap Some (ap₂ given (sym one) (sym no_number))
      go (Some (a ∷ b ∷ [])) e =
          let rows_in = told (a ∷ b ∷ []) e refl in
          let same : Some mode ≡ Some a = is_mode ∙ ap (first_of (codes "mode")) rows_in in
          let one : mode ≡ a = cc in
          let other : number ≡ Some b = is_number ∙ ap (first_of (codes "number")) rows_in in
          e ∙ ap Some (ap₂ given (sym one) (sym other))
      go (Some (a ∷ b ∷ d ∷ ws)) e = let bad = kinds (Some (a ∷ b ∷ d ∷ ws)) e in absurd cc

  -- a mode is there
  pub mode_found : fault_of two_words words ≡ [] → (rows : List Row) → rows ≡ matches_of two_words words → None ≡ first_of (codes "mode") rows → ⊥
  mode_found none rows rows_are is_none = go (positionals (drop 1 words)) refl
    where
      told : (all : List Text) → positionals (drop 1 words) ≡ Some all → faults_of (Some all) ≡ [] → rows ≡ finished rules (held_of all)
      told all e f = rows_are ∙ matches_are words all texts e f

      kinds : (o : Option (List Text)) → positionals (drop 1 words) ≡ o → faults_of o ≡ []
      kinds o e = sym (ap faults_of e) ∙ (sym (fault_is words texts) ∙ none)

      go : (o : Option (List Text)) → positionals (drop 1 words) ≡ o → ⊥
      go None e = let bad = kinds None e in cc
      go (Some []) e = let bad = kinds (Some []) e in cc
      go (Some (a ∷ [])) e = let same : None ≡ Some a = is_none ∙ ap (first_of (codes "mode")) (told (a ∷ []) e refl) in cc
      go (Some (a ∷ b ∷ [])) e = let same : None ≡ Some a = is_none ∙ ap (first_of (codes "mode")) (told (a ∷ b ∷ []) e refl) in cc
      go (Some (a ∷ b ∷ d ∷ ws)) e = let bad = kinds (Some (a ∷ b ∷ d ∷ ws)) e in cc

  -- a mode and a number, or a mode alone, have no kind of error
  pub no_fault : (mode : Text) (number : Option Text) → HasWords words mode number → fault_of two_words words ≡ []
  no_fault mode None e = fault_is words texts ∙ ap faults_of e
  no_fault mode (Some n) e = fault_is words texts ∙ ap faults_of e

-- an error that refuses has another cause than memory
pub refused_by : {A : Type 0} (P : Type 0) (r : Result A WordsEnd) → IsErrAnd r (λ end. (end ≡ Memory) ↔ P) → IsErrOf r Refused → P → ⊥
refused_by P (Ok x) told refused p = absurd told
refused_by P (Err end) told refused p = let memory : end ≡ Memory = told.1 p in let other : end ≡ Refused = cc in cc

-- an error that was handed on
pub same_error : {A B : Type 0} (r : Result A WordsEnd) (end : WordsEnd) → IsErrAnd r (λ e. e ≡ end) → IsErrOf r Refused → IsErrOf {T = B} (Err end) Refused
same_error (Ok x) end told refused = absurd told
same_error (Err e) end told refused = let one : e ≡ end = told in let other : e ≡ Refused = cc in ap (λ x. Err x) (sym one ∙ other)

-- the words ask for the job of their mode and their number, and for nothing else
pub asked : (words : List Text) (mode : Text) (number : Option Text) (job : Job) → HasWords words mode number → AreWordsOf (given mode number) job → AskForOne words job
asked [] mode None job has spells = cc
asked [] mode (Some n) job has spells = cc
asked (name ∷ words) mode number job has spells = ((given mode number, has, spells), only)
  where
    only : (other : Job) → AskFor (name ∷ words) other → other ≡ job
    only other (rest, is, spells_other) =
        let same : Some (given mode number) ≡ Some rest = sym has ∙ is in
        let one : given mode number ≡ rest = cc in
        one_spelled (given mode number) job other spells (subst (λ ws. AreWordsOf ws other) (sym one) spells_other)

-- a mode and its number, if it has one
in_parts : (mode : Text) (number : Option ℕ) → mode ∷ number_words number ≡ given mode (option_map decimal number)
in_parts mode None = refl
in_parts mode (Some n) = refl

-- and where they have no mode, for none
pub unasked : (words : List Text) → ((mode : Text) (number : Option Text) → HasWords words mode number → ⊥) → AskNoJob words
unasked [] none job asks = asks
unasked (name ∷ words) none job (rest, has, are) =
    none (mode_word (mode_of job)) (option_map decimal (number_of_job job)) (has ∙ ap Some (are.spelled ∙ in_parts (mode_word (mode_of job)) (number_of_job job)))
