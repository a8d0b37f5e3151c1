use Rattle.std.proofs.Common.{◌≡◌, ◌∙◌, map, filter, flat_map}
use Rattle.pks_terms.specs.Databases.{inner_normal}
use Rattle.pks_terms.specs.Actions.{effect_at}
use Rattle.pks_terms.specs.Justified.{case_of}
use Rattle.pks_terms.specs.Progress.{is_applied_in, literals_added, formulas_added, values_added, regions_added}
use Rattle.pks_terms.specs.Views.{add_of, given_of, schema_of, signature_of}
use Rattle.pks_kf.specs.Known.{literals_of}
use Rattle.pks_query_lookup.specs.Fives.{five_of}
use Rattle.pks_progress_adds.proofs.gains.gains_by.Goals as goal

pub returns-clause-formulas : goal.returns-clause-formulas
returns-clause-formulas c =
    let s = signature_of c.args.s.now in
    let d = five_of c.args.d.now in
    let sc = schema_of c.args.schema.now in
    let given = given_of c.args.i.now in
    let normals : given_of c.normal_instance-normal.result ≡ map (inner_normal d.kf) given =
    c.normal_instance-normal.ensures ∙ (λ i. map (inner_normal (literals_of ((c.normals.ensures ∙ c.lookup.ensures) i).kf)) given) in
    c.in_ok-gains.ensures.formulas
    ∙ (λ i. flat_map (λ a. formulas_added s d (map (effect_at given) sc.effects) given (normals i) (case_of sc a) a.item) (filter (is_applied_in s d given) (map add_of (c.as_slice.ensures i))))

pub returns-clause-values : goal.returns-clause-values
returns-clause-values c =
    let s = signature_of c.args.s.now in
    let d = five_of c.args.d.now in
    let sc = schema_of c.args.schema.now in
    let given = given_of c.args.i.now in
    let normals : given_of c.normal_instance-normal.result ≡ map (inner_normal d.kf) given =
    c.normal_instance-normal.ensures ∙ (λ i. map (inner_normal (literals_of ((c.normals.ensures ∙ c.lookup.ensures) i).kf)) given) in
    c.in_ok-gains.ensures.values
    ∙ (λ i. flat_map (λ a. values_added s d (map (effect_at given) sc.effects) given (normals i) (case_of sc a) a.item) (filter (is_applied_in s d given) (map add_of (c.as_slice.ensures i))))

pub returns-clause-literals : goal.returns-clause-literals
returns-clause-literals c =
    let s = signature_of c.args.s.now in
    let d = five_of c.args.d.now in
    let sc = schema_of c.args.schema.now in
    let given = given_of c.args.i.now in
    c.in_ok-gains.ensures.literals
    ∙ (λ i. flat_map (λ a. literals_added s d (map (effect_at given) sc.effects) given sc a a.item) (filter (is_applied_in s d given) (map add_of (c.as_slice.ensures i))))

pub returns-clause-regions : goal.returns-clause-regions
returns-clause-regions c =
    let s = signature_of c.args.s.now in
    let d = five_of c.args.d.now in
    let sc = schema_of c.args.schema.now in
    let given = given_of c.args.i.now in
    c.in_ok-gains.ensures.regions
    ∙ (λ i. flat_map (λ a. regions_added s d (map (effect_at given) sc.effects) given a.item) (filter (is_applied_in s d given) (map add_of (c.as_slice.ensures i))))
