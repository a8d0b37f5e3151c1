-- Lists of the program's values that are equal in turn say the same: v is what a value says, and R the order of that.
use Rattle.std.proofs.Common.{◌≡◌, ◌&&◌, ◌↔◌, Bool, true, List, map, Ordering, Equal, sym, ap, ◌∙◌, subst}
use Rattle.std.specs.Bool.{Decides}
use Rattle.std.specs.Ordering.{on, eq_by_cmp}
use Rattle.std.specs.Cmp.{IsTotalOrder, Equal-is}
use Rattle.std.specs.Cmp.Derive.Mapped.{pointwise-map}
use Rattle.std.specs.Cmp.Lexicographic.{pointwise, pointwise_decides}
use Rattle.std.specs.FinMap.{IsAntisymmetric}
use Rattle.std.proofs.lemmas.Bool.{and_parts, and_from}
use Rattle.std.proofs.lemmas.Cmp.{tied_itself}
use Rattle.pks_terms.specs.Databases.{entry_cmp}
use Rattle.pks_terms.specs.Orders.{term_cmp, literal_cmp, conj_cmp}
use Rattle.pks_terms.specs.Totality.{term_cmp_total, literal_cmp_total, conj_cmp_total, entry_cmp_total}
use Rattle.pks_terms.specs.Views.{term_of, literal_of, literals_in, conj_of}
use Rattle.pks_terms.proofs.OrderLaws.{term_cmp_tells, literal_cmp_tells, conj_cmp_tells, entry_cmp_tells}
use Rattle.pks_lcw.specs.Entries.{entry_of}
use Rattle.pks_query_lookup.specs.Fives.{five_of}
use Rattle.pks_query_lookup.specs.declared.five.Five.{Five as DFive}

tied_decides : {Y : Type 0} {R : Y → Y → Ordering} → IsAntisymmetric R → IsTotalOrder R → (x y : Y) → Decides (eq_by_cmp R x y) (x ≡ y)
tied_decides {R = R} tells total x y =
    let tied = Equal-is (R x y) in
    (λ e. tells x y (tied.0 e), λ e. tied.1 (subst (λ z. R x z ≡ Equal) e (tied_itself total x)))

said_alike : {X Y : Type 0} (v : X → Y) {R : Y → Y → Ordering} → IsAntisymmetric R → IsTotalOrder R → (xs ys : List X) → Decides (pointwise (eq_by_cmp (on v R)) xs ys) (map v xs ≡ map v ys)
said_alike v {R} tells total xs ys =
    let both = pointwise_decides (tied_decides tells total) (map v xs) (map v ys) in
    let mapped = pointwise-map v (eq_by_cmp R) xs ys in
    (λ e. both.0 (mapped ∙ e), λ e. sym mapped ∙ both.1 e)

both_decide : {A B : Type 0} (a b : Bool) → Decides a A → Decides b B → Decides (a && b) (A × B)
both_decide a b p q = (λ h. let parts = and_parts a b h in (p.0 parts.0, q.0 parts.1), λ h. and_from a b (p.1 h.0) (q.1 h.1))

pub fives_alike :
    (d e : DFive)
    → Decides
    (pointwise (eq_by_cmp (on literal_of literal_cmp)) d.kf e.kf
    && pointwise (eq_by_cmp (on conj_of conj_cmp)) d.kw e.kw
    && pointwise (eq_by_cmp (on term_of term_cmp)) d.kv e.kv
    && pointwise (eq_by_cmp (on literals_in conj_cmp)) d.kx e.kx
    && pointwise (eq_by_cmp (on entry_of entry_cmp)) d.lcw e.lcw)
    (five_of d ≡ five_of e)
fives_alike d e =
    let kf = pointwise (eq_by_cmp (on literal_of literal_cmp)) d.kf e.kf in
    let kw = pointwise (eq_by_cmp (on conj_of conj_cmp)) d.kw e.kw in
    let kv = pointwise (eq_by_cmp (on term_of term_cmp)) d.kv e.kv in
    let kx = pointwise (eq_by_cmp (on literals_in conj_cmp)) d.kx e.kx in
    let lcw = pointwise (eq_by_cmp (on entry_of entry_cmp)) d.lcw e.lcw in
    let two = both_decide kf kw (said_alike literal_of literal_cmp_tells literal_cmp_total d.kf e.kf) (said_alike conj_of conj_cmp_tells conj_cmp_total d.kw e.kw) in
    let three = both_decide (kf && kw) kv two (said_alike term_of term_cmp_tells term_cmp_total d.kv e.kv) in
    let four = both_decide (kf && kw && kv) kx three (said_alike literals_in conj_cmp_tells conj_cmp_total d.kx e.kx) in
    let five = both_decide (kf && kw && kv && kx) lcw four (said_alike entry_of entry_cmp_tells entry_cmp_total d.lcw e.lcw) in (
      λ h. let m = five.0 h in λ i. record { kf = m.0.0.0.0 i; kw = m.0.0.0.1 i; kv = m.0.0.1 i; kx = m.0.1 i; lcw = m.1 i },
      λ h. five.1 ((((ap (λ f. f.kf) h, ap (λ f. f.kw) h), ap (λ f. f.kv) h), ap (λ f. f.kx) h), ap (λ f. f.lcw) h),
    )

-- what two lent fives compare as
pub told_alike :
    (d e l r : DFive) (b : Bool)
    → l ≡ d
    → r ≡ e
    → b
    ≡ (pointwise (eq_by_cmp (on literal_of literal_cmp)) l.kf r.kf
    && pointwise (eq_by_cmp (on conj_of conj_cmp)) l.kw r.kw
    && pointwise (eq_by_cmp (on term_of term_cmp)) l.kv r.kv
    && pointwise (eq_by_cmp (on literals_in conj_cmp)) l.kx r.kx
    && pointwise (eq_by_cmp (on entry_of entry_cmp)) l.lcw r.lcw)
    → (b ≡ true) ↔ (five_of d ≡ five_of e)
told_alike d e l r b left right tells =
    let p : Decides b (five_of l ≡ five_of r) = subst (λ t. Decides t (five_of l ≡ five_of r)) (sym tells) (fives_alike l r) in
    subst (λ f. Decides b (five_of d ≡ five_of f)) right (subst (λ f. Decides b (five_of f ≡ five_of r)) left p)
