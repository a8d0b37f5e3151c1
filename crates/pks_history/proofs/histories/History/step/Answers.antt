use Rattle.std.proofs.Common.{◌≡◌, ◌<◌, List, map, length, get_or, arith, sym, ap, ◌∙◌}
use Rattle.std.specs.List.{slice_get}
use Rattle.std.proofs.lemmas.Option.{slice_get-get_or}
use Rattle.std.proofs.lemmas.List.{length-map}
use Rattle.pks_terms.specs.Actions.{Instance}
use Rattle.pks_terms.specs.Databases.{Five}
use Rattle.pks_terms.specs.Settling.{History}
use Rattle.pks_history.specs.Moments.{moment_of, moments_of}
use Rattle.pks_history.proofs.Reading.{instance_there}
use Rattle.pks_history.proofs.histories.History.step.Goals as goal

pub returns : goal.returns
returns c =
    let ms = c.as_slice.result.now in
    let n = c.args.moment in
    let d = c.index-as_slice-moment.result in
    let steps : c.args.self.now.steps ≡ moments_of ms = sym (ap (λ (h : History). h.steps) c.self.view_is) ∙ ap moments_of (sym c.as_slice.ensures.value) in
    let count : length c.args.self.now.steps ≡ length ms = ap length steps ∙ length-map ms moment_of in
    let within : n < length ms = omega (arith, c.requires, count) in
    ap (λ (xs : List (Instance × Five)). slice_get (map (λ (step : Instance × Five). step.0) xs) n) steps ∙ instance_there ms n (get_or ms n d) (slice_get-get_or ms n d within)
