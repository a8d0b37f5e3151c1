-- When two instances say the same.
use Rattle.std.proofs.Common.{◌≡◌, ◌↔◌, Bool, true, List, map, take, Equal, sym, ap, ◌∙◌, subst}
use Rattle.std.specs.Bool.{Decides}
use Rattle.std.specs.Ordering.{on, eq_by_cmp}
use Rattle.std.specs.Cmp.{Equal-is}
use Rattle.std.specs.FinMap.{IsAntisymmetric, nat_cmp-IsAntisymmetric}
use Rattle.std.specs.Cmp.Derive.Mapped.{pointwise-map}
use Rattle.std.specs.Cmp.Lexicographic.{pointwise, pointwise_decides}
use Rattle.std.proofs.lemmas.Cmp.{tied_itself}
use Rattle.pks_terms.specs.declared.schema.Instance.{Instance as DInstance}
use Rattle.pks_terms.specs.declared.term.Inner as inner
use Rattle.pks_terms.specs.Syntax.{Inner}
use Rattle.pks_terms.specs.Orders.{inner_cmp}
use Rattle.pks_terms.specs.Totality.{inner_cmp_total}
use Rattle.pks_terms.specs.Views.{inner_of, instance_of}
use Rattle.pks_terms.proofs.OrderLaws.{form_cmp_tells}

inner_cmp_tells : IsAntisymmetric inner_cmp
inner_cmp_tells = form_cmp_tells nat_cmp-IsAntisymmetric

tied_decides : (x y : Inner) → Decides (eq_by_cmp inner_cmp x y) (x ≡ y)
tied_decides x y =
    let tied = Equal-is (inner_cmp x y) in
    (λ e. inner_cmp_tells x y (tied.0 e), λ e. tied.1 (subst (λ z. inner_cmp x z ≡ Equal) e (tied_itself inner_cmp_total x)))

said_alike : (xs ys : List inner.Inner) → Decides (pointwise (on inner_of (eq_by_cmp inner_cmp)) xs ys) (map inner_of xs ≡ map inner_of ys)
said_alike xs ys =
    let both = pointwise_decides tied_decides (map inner_of xs) (map inner_of ys) in
    let mapped = pointwise-map inner_of (eq_by_cmp inner_cmp) xs ys in
    (λ e. both.0 (mapped ∙ e), λ e. sym mapped ∙ both.1 e)

-- instances of one action, whose arguments are compared
pub same_arguments :
    (i j : DInstance) (xs ys : List inner.Inner) (b : Bool)
    → i.act.0 ≡ j.act.0
    → xs ≡ take i.n i.args
    → ys ≡ take j.n j.args
    → b ≡ pointwise (on inner_of (eq_by_cmp inner_cmp)) xs ys
    → (b ≡ true) ↔ (instance_of i ≡ instance_of j)
same_arguments i j xs ys b act left right tells =
    let both = said_alike xs ys in (
      λ h. let e : map inner_of (take i.n i.args) ≡ map inner_of (take j.n j.args) = ap (map inner_of) (sym left) ∙ both.0 (sym tells ∙ h) ∙ ap (map inner_of) right in λ k. record { action = act k; arguments = e k },
      λ h. tells ∙ both.1 (ap (map inner_of) left ∙ ap (λ x. x.arguments) h ∙ ap (map inner_of) (sym right)),
    )
