use Rattle.std.proofs.Common.{◌≡◌, false, sym, subst, ◌∙◌}
use Rattle.std.specs.List.{list_any}
use Rattle.pks_terms.specs.Syntax.{negated}
use Rattle.pks_terms.specs.Databases.{holds}
use Rattle.pks_terms.specs.Views.{signature_of}
use Rattle.pks_kf.specs.Known.{literals_of}
use Rattle.pks_query_lookup.specs.Fives.{five_of}
use Rattle.pks_progress.specs.Ahead.{IsStill}
use Rattle.pks_progress.proofs.ahead.still_or_denied.Goals as goal

pub returns-clause-still : goal.returns-clause-still
returns-clause-still c =
    let s = signature_of c.args.s.now in
    let undenied : list_any (λ l. holds s (five_of c.args.five) (negated l)) (literals_of c.args.literals.now) ≡ false =
    (λ i. list_any (λ l. holds s (five_of (sym c.in_ok-next.ensures i)) (negated l)) (literals_of c.args.literals.now)) ∙ sym c.some_denied.ensures ∙ c.if-some_denied.false
    in
    subst (λ x. IsStill s (five_of x)) (sym c.in_ok-next.ensures) (c.requires.still undenied)
