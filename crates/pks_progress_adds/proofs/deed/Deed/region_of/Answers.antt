use Rattle.std.proofs.Common.{◌≡◌, ◌∙◌, true, [], ◌∷◌, map, sym, ap}
use Rattle.std.specs.Option.{option_map}
use Rattle.pks_terms.specs.Closure.{normal_pattern}
use Rattle.pks_terms.specs.Spoiling.{are_stable}
use Rattle.pks_terms.specs.Progress.{fixed_terms}
use Rattle.pks_terms.specs.Views.{term_of, pattern_of}
use Rattle.pks_kf.specs.Known.{literals_of}
use Rattle.pks_lcw.specs.Entries.{atoms_of}
use Rattle.pks_terms.specs.Actions.{pattern_at}
use Rattle.pks_progress_adds.specs.Deeds.{signature_in, five_in, effects_in, chosen_in}
use Rattle.pks_progress_adds.proofs.Applying.{region_made}
use Rattle.pks_progress_adds.proofs.deed.Deed.region_of.Goals as goal

pub returns-then-fixed_are_stable : goal.returns-then-fixed_are_stable
returns-then-fixed_are_stable c =
    let x = c.args.self.now in
    let stable = are_stable (signature_in x) (five_in x) (effects_in x) in
    let form : pattern_of c.normal_pattern-pattern.result ≡ normal_pattern (five_in x).kf (pattern_at (chosen_in x) (pattern_of c.args.x.now)) =
    c.normal_pattern-pattern.ensures ∙ (λ i. normal_pattern (literals_of (c.normals.ensures i).kf) (c.at.ensures.says i)) in
    let held : stable (fixed_terms (pattern_of c.normal_pattern-pattern.result).slots) ≡ true = sym (c.if-fixed_are_stable.ensures ∙ ap (λ ss. stable (fixed_terms (map (option_map term_of) ss))) c.front.ensures) in
    (λ i. record { pattern = pattern_of c.normal_pattern-pattern.result; listed = atoms_of (c.empty-list.ensures i) } ∷ [])
    ∙ region_made (signature_in x) (five_in x) (effects_in x) (chosen_in x) (pattern_of c.args.x.now) (pattern_of c.normal_pattern-pattern.result) form held
