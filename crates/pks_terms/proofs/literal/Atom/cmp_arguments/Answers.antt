use Rattle.std.proofs.Common.{◌∙◌, map, sym}
use Rattle.std.specs.Cmp.Lexicographic.{slice_cmp}
use Rattle.pks_terms.specs.Orders.{term_cmp}
use Rattle.pks_terms.specs.Views.{term_of, sides_of}
use Rattle.pks_terms.specs.Totality.{slice_cmp-map}
use Rattle.pks_terms.proofs.literal.Atom.cmp_arguments.Goals as goal

pub returns-in-Pred-Pred : goal.returns-in-Pred-Pred
returns-in-Pred-Pred c =
    c.cmp.ensures ∙ (sym (slice_cmp-map term_of term_cmp c.front.result.now c.front-in-Pred-Pred.result.now)
    ∙ ((λ i. slice_cmp term_cmp (map term_of (c.front.ensures i)) (map term_of (c.front-in-Pred-Pred.ensures i)))
    ∙ (λ i. slice_cmp term_cmp (sides_of (sym c.in-Pred-Pred.is-0 i)) (sides_of (sym c.in-Pred-Pred.is-1 i)))))

pub returns-in_default : goal.returns-in_default
returns-in_default c =
    let arguments = slice_cmp-map term_of term_cmp c.terms.result.now c.terms-in_default.result.now in
    cc
