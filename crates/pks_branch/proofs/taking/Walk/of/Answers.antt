use Rattle.std.proofs.Common.{◌≡◌, ◌++◌, map, ap, ◌∙◌, subst}
use Rattle.std.specs.List.{filter, flat_map}
use Rattle.pks_terms.specs.Sets.{IsOrdered}
use Rattle.pks_terms.specs.Orders.{term_cmp, conj_cmp}
use Rattle.pks_terms.specs.Branching.{Act, BranchOn, CasesOn, instances, is_undecided, may_split, numbered, choices}
use Rattle.pks_terms.specs.Views.{schema_of, terms_of, problem_of}
use Rattle.pks_kw.specs.Formulas.{formulas_of}
use Rattle.pks_query_lookup.specs.Fives.{five_of}
use Rattle.pks_query_lookup.specs.declared.five.Five.{Five}
use Rattle.pks_terms.specs.ChoiceViews.{choices_of}
use Rattle.pks_branch.specs.Walks.{begun, bare}
use Rattle.pks_branch.proofs.Onward.{all_begin}
use Rattle.pks_branch.proofs.ChoicesRise.{all_rise}
use Rattle.pks_branch.proofs.taking.Walk.of.Goals as goal

pub returns-clause-all : goal.returns-clause-all
unfolding choices
returns-clause-all c =
    let p = problem_of c.args.p.now in
    let d = five_of c.args.d.now in
    let five = c.parts-five.result.now in
    let branches = λ (f : Five). map BranchOn (filter (is_undecided p.signature d) (formulas_of f.kw)) in
    let cases = λ (f : Five). map CasesOn (filter (may_split p.signature d) (terms_of f.kv)) in
    let begin : flat_map (begun p d) (map bare (numbered 0 (map schema_of c.as_slice.result.now))) ≡ instances p d = ap (λ xs. flat_map (begun p d) (map bare (numbered 0 (map schema_of xs)))) c.as_slice.ensures ∙ all_begin p d in
    let others = c.in_ok-push_cases.ensures.all ∙ ap (λ xs. xs ++ cases five) (c.in_ok-push_branches.ensures.all ∙ ap (λ xs. choices_of xs ++ branches five) c.new-others.ensures.items) ∙ ap (λ f. branches f ++ cases f) c.parts-five.ensures.lent in
    (λ i. map Act (flat_map (begun p d) (c.in_ok-beginnings.ensures i)) ++ others i)
    ∙ ap (λ is. map Act is ++ (branches c.args.d.now ++ cases c.args.d.now)) begin

pub returns-clause-ordered : goal.returns-clause-ordered
returns-clause-ordered c =
    let whether = subst (λ (f : Five). IsOrdered conj_cmp (formulas_of f.kw)) c.parts-five.ensures.lent c.in_ok-push_branches.ensures.ordered in
    let values = subst (λ (f : Five). IsOrdered term_cmp (terms_of f.kv)) c.parts-five.ensures.lent c.in_ok-push_cases.ensures.ordered in
    all_rise (problem_of c.args.p.now) (five_of c.args.d.now) whether values
