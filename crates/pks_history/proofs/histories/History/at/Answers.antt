use Rattle.std.proofs.Common.{◌≡◌, ◌<◌, ◌-◌, length, get_or, arith, sym, ap, ◌∙◌}
use Rattle.std.specs.List.{slice_get}
use Rattle.std.proofs.lemmas.Option.{slice_get-get_or}
use Rattle.std.proofs.lemmas.List.{length-map}
use Rattle.pks_terms.specs.Settling.{History}
use Rattle.pks_terms.specs.Aims.{moments}
use Rattle.pks_query_lookup.specs.Fives.{five_of}
use Rattle.pks_history.specs.Moments.{moment_of, moments_of}
use Rattle.pks_history.proofs.Reading.{databases_there}
use Rattle.pks_history.proofs.histories.History.at.Goals as goal

pub returns : goal.returns
returns c =
    let ms = c.as_slice.result.now in
    let n = c.args.moment in
    let d = c.index-as_slice-moment.result in
    let whole : c.args.self.now ≡ record { start = five_of c.self.inside.first; steps = moments_of ms } = sym c.self.view_is ∙ ap (λ xs. record { start = five_of c.self.inside.first; steps = moments_of xs }) (sym c.as_slice.ensures.value) in
    let count : length c.args.self.now.steps ≡ length ms = ap (λ (h : History). length h.steps) whole ∙ length-map ms moment_of in
    let after : 0 < n = omega (arith, c.if-moment-eq0.false) in
    let within : n - 1 < length ms = omega (arith, c.requires, count) in
    ap (λ (h : History). slice_get (moments h) n) whole ∙ databases_there (five_of c.self.inside.first) ms n (get_or ms (n - 1) d) after (slice_get-get_or ms (n - 1) d within)
