use Rattle.std.proofs.Common.{◌≡◌, ◌∙◌, [], map, option_map, string_bytes, codes, inl, inr, sym, ap, subst}
use Rattle.clap.specs.Words.{app_of, fault_of, found_of, is_simple, is_simple_and_free, HasKind, Kinds, matches_of, rows_of}
use Rattle.clap.proofs.WalkLemmas.{first_value-rows}
use Rattle.pks_run_words.specs.Command.{text_of, two_words}
use Rattle.pks_run_words.proofs.Parsed.{are_texts, found, mode_found, no_fault, refused_by}
use Rattle.pks_run_words.proofs.read.mode_and_number.Goals as goal

pub returns-in_err-matches-clause-refused : goal.returns-in_err-matches-clause-refused
returns-in_err-matches-clause-refused c = λ refused mode number has.
    let words = map string_bytes c.args.words.now in
    let other = refused_by _ _ c.from_residual-in_err-matches.ensures.1 refused in
    let none : fault_of (app_of c.in_ok-command.field-0) words ≡ [] = ap (λ a. fault_of a words) c.in_ok-command.ensures ∙ no_fault words (are_texts c.args.words.now) mode number has in
    let kind = subst (λ (k : Kinds). HasKind k c.in_err-matches.field-0.0) none (c.in_err-matches.ensures.kinds (ap is_simple_and_free c.in_ok-command.ensures)) in
    elim kind [
      | inl memory ↦ other memory
      | inr among ↦ among
    ]

pub returns-in-Some-clause-ok : goal.returns-in-Some-clause-ok
returns-in-Some-clause-ok c =
    let words = map string_bytes c.args.words.now in
    let matches = found_of c.in_ok-matches.matches in
    let none : fault_of two_words words ≡ [] = sym (ap (λ a. fault_of a words) c.in_ok-command.ensures) ∙ c.in_ok-matches.ensures.kinds (ap is_simple_and_free c.in_ok-command.ensures) in
    let rows : rows_of matches ≡ matches_of two_words words = (c.in_ok-matches.ensures.matches (ap is_simple c.in_ok-command.ensures)).0 ∙ ap (λ a. matches_of a words) c.in_ok-command.ensures in
    found words (are_texts c.args.words.now) none (rows_of matches) rows c.in-Some.mode.now (option_map text_of c.get_str-in-Some.result)
    (c.in-Some.ensures ∙ first_value-rows matches (codes "mode")) (c.get_str-in-Some.ensures ∙ first_value-rows matches (codes "number"))

pub returns-clause-refused : goal.returns-clause-refused
returns-clause-refused c =
    let words = map string_bytes c.args.words.now in
    let matches = found_of c.in_ok-matches.matches in
    let none : fault_of two_words words ≡ [] = sym (ap (λ a. fault_of a words) c.in_ok-command.ensures) ∙ c.in_ok-matches.ensures.kinds (ap is_simple_and_free c.in_ok-command.ensures) in
    let rows : rows_of matches ≡ matches_of two_words words = (c.in_ok-matches.ensures.matches (ap is_simple c.in_ok-command.ensures)).0 ∙ ap (λ a. matches_of a words) c.in_ok-command.ensures in
    absurd (mode_found words (are_texts c.args.words.now) none (rows_of matches) rows (c.in-None.ensures ∙ first_value-rows matches (codes "mode")))
