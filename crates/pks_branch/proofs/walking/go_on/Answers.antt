use Rattle.std.proofs.Common.{◌≡◌, ◌≤◌, length, map, true, Some, None, option_map, slice_get, refl, sym, ap, ◌∙◌, subst, arith}
use Rattle.std.specs.Option.{option_to_list}
use Rattle.std.proofs.lemmas.Bool.{ltb-true}
use Rattle.pks_terms.specs.Views.{instance_of, query_of, schema_of, types_of, problem_of}
use Rattle.pks_query_lookup.specs.Fives.{five_of}
use Rattle.pks_branch.specs.WalkViews.{beginnings_of}
use Rattle.pks_branch.specs.Early.{is_barred}
use Rattle.pks_branch.specs.Walks.{allowed_at, GoesOn}
use Rattle.pks_branch.proofs.Onward.{found_at, whole, barred, with_each}
use Rattle.pks_branch.proofs.Parameters.{few_parameters}
use Rattle.pks_branch.proofs.walking.go_on.Goals as goal

pub next_type-requires : goal.next_type-requires
next_type-requires c =
    let within = ltb-true c.args.given.now.act.0 (length c.as_slice.result.now) (sym c.in-Some.ensures.lookup.0) in
    let few = few_parameters c.args.p.now c.as_slice.result.now c.args.given.now.act.0 c.in-Some.schema.now c.requires.valid c.as_slice.ensures within c.in-Some.ensures.lookup.1 in
    subst (λ xs. length xs ≤ 4) (sym c.as_slice-2.ensures) few

pub is_barred-requires : goal.is_barred-requires
is_barred-requires c = let more = c.in-Some-next_type.ensures.more refl in omega (arith, more)

pub returns-in_default-next_type : goal.returns-in_default-next_type
returns-in_default-next_type c =
    let p = problem_of c.args.p.now in
    let d = five_of c.args.d.now in
    let i = instance_of c.args.given.now in
    let sc = schema_of c.in-Some.schema.now in
    let there : slice_get p.schemas i.action ≡ Some sc = found_at schema_of c.as_slice.result.now c.args.p.now.schemas c.args.given.now.act.0 c.in-Some.schema.now c.as_slice.ensures c.in-Some.ensures.lookup.0 c.in-Some.ensures.lookup.1 in
    let next : slice_get sc.parameters (length i.arguments) ≡ None = sym (c.in_default-next_type.ensures.wanted ∙ ap (λ xs. slice_get (types_of xs) (length i.arguments)) c.as_slice-2.ensures) in
    let found : option_to_list (option_map instance_of c.if_allowed.result) ≡ allowed_at p.signature d sc.pre i.action i.arguments = c.if_allowed.ensures ∙ ap (λ pre. allowed_at p.signature d (map query_of pre) i.action i.arguments) c.as_slice-pre.ensures in
    whole p d i (beginnings_of c.args.to.now.items) sc there (option_map instance_of c.if_allowed.result) next found

pub returns-in_ok-push_candidates : goal.returns-in_ok-push_candidates
returns-in_ok-push_candidates c =
    let p = problem_of c.args.p.now in
    let d = five_of c.args.d.now in
    let i = instance_of c.args.given.now in
    let old = beginnings_of c.args.to.now.items in
    let sc = schema_of c.in-Some.schema.now in
    let there : slice_get p.schemas i.action ≡ Some sc = found_at schema_of c.as_slice.result.now c.args.p.now.schemas c.args.given.now.act.0 c.in-Some.schema.now c.as_slice.ensures c.in-Some.ensures.lookup.0 c.in-Some.ensures.lookup.1 in
    let next : slice_get sc.parameters (length i.arguments) ≡ Some c.in-Some-next_type.of.0 = sym (c.in-Some-next_type.ensures.wanted ∙ ap (λ xs. slice_get (types_of xs) (length i.arguments)) c.as_slice-2.ensures) in
    subst (λ new. GoesOn p d i old new None) (sym c.in_ok-push_candidates.ensures) (with_each p d i old sc there c.in-Some-next_type.of.0 next)

pub returns-else-not-is_barred : goal.returns-else-not-is_barred
returns-else-not-is_barred c =
    let p = problem_of c.args.p.now in
    let d = five_of c.args.d.now in
    let i = instance_of c.args.given.now in
    let sc = schema_of c.in-Some.schema.now in
    let there : slice_get p.schemas i.action ≡ Some sc = found_at schema_of c.as_slice.result.now c.args.p.now.schemas c.args.given.now.act.0 c.in-Some.schema.now c.as_slice.ensures c.in-Some.ensures.lookup.0 c.in-Some.ensures.lookup.1 in
    let shut : is_barred p.signature d sc.pre i.arguments ≡ true = ap (λ pre. is_barred p.signature d (map query_of pre) i.arguments) (sym c.as_slice-pre.ensures) ∙ sym c.is_barred.ensures ∙ c.if-not-is_barred.false in
    barred p d i (beginnings_of c.args.to.now.items) sc there shut
