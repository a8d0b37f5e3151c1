use Rattle.std.proofs.Common.{◌≡◌, [], ap}
use Rattle.pks_terms.specs.Settling.{inner_forms}
use Rattle.pks_terms.specs.Views.{terms_of}
use Rattle.pks_kf.specs.Known.{literals_of}
use Rattle.pks_query_lookup.specs.Reading.{first_inners}
use Rattle.pks_postdict_rules.proofs.Choices.{choices_start}
use Rattle.pks_postdict_rules.proofs.forms.applications_of.Goals as goal

pub returns : goal.returns
returns c =
    let none : terms_of c.new-all.result.items ≡ [] = ap terms_of c.new-all.ensures.items in
    let start = choices_start (inner_forms (literals_of c.args.by.now.kf)) (first_inners c.args.n c.args.args.now) in
    rw (c.in_ok-put_applied.ensures, none, start)
