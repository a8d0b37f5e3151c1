use Rattle.std.proofs.Common.{◌∙◌}
use Rattle.pks_terms.specs.Views.{instance_of, problem_of, signature_of, terms_of}
use Rattle.pks_kf.specs.Known.{literals_of}
use Rattle.pks_kw.specs.Formulas.{formulas_of}
use Rattle.pks_lcw.specs.Entries.{entries_of}
use Rattle.pks_query_lookup.specs.Fives.{five_of}
use Rattle.pks_progress.specs.Kept.{kept_after}
use Rattle.pks_progress.proofs.Stepping.{progressed_from, put_in_from}
use Rattle.pks_progress.proofs.progressing.put_in_adds.Goals as goal

pub returns-clause-five : goal.returns-clause-five
returns-clause-five c =
    let gains = c.in_ok-gains.gains in
    let gained = c.in_ok-gains.ensures in
    let put = c.in_ok-five.ensures in
    progressed_from (problem_of c.args.p.now) (five_of c.args.d.now) (instance_of c.args.i.now) (five_of c.in_ok-kept.kept) (five_of c.in_ok-five.five)
    (literals_of gains.kf.items) (formulas_of gains.kw.items) (terms_of gains.kv.items) (entries_of gains.lcw.items)
    (c.in_ok-kept.ensures ∙ (λ j. kept_after (signature_of c.args.p.now.signature) (five_of (c.lookup.ensures j)) (c.effects_of.ensures j)))
    gained.literals gained.formulas gained.values gained.regions
    put.literals put.formulas put.values put.groups put.regions

pub returns-clause-puts : goal.returns-clause-puts
returns-clause-puts c =
    let gains = c.in_ok-gains.gains in
    let put = c.in_ok-five.ensures in
    put_in_from (problem_of c.args.p.now) (five_of c.args.d.now) (instance_of c.args.i.now) (five_of c.in_ok-kept.kept) (five_of c.in_ok-five.five)
    (literals_of gains.kf.items) (literals_of c.in_ok-literals.literals.items) (entries_of gains.lcw.items)
    (c.in_ok-kept.ensures ∙ (λ j. kept_after (signature_of c.args.p.now.signature) (five_of (c.lookup.ensures j)) (c.effects_of.ensures j)))
    c.in_ok-literals.ensures put.literals put.groups put.regions
