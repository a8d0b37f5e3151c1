use Rattle.std.proofs.Common.{rules, ◌≡◌, true, sym, subst, ◌∙◌}
use Rattle.std.specs.List.{list_any}
use Rattle.pks_terms.specs.Syntax.{negated}
use Rattle.pks_terms.specs.Databases.{holds}
use Rattle.pks_terms.specs.Views.{signature_of}
use Rattle.pks_kf.specs.Known.{literals_of}
use Rattle.pks_query_lookup.specs.Fives.{five_of}
use Rattle.pks_progress_interference.specs.EffectViews.{effects_in}
use Rattle.pks_progress.specs.Ahead.{BringsNothing}
use Rattle.pks_progress.proofs.Still.{has_its_forms, gives_alike, is_still}
use Rattle.pks_progress.proofs.ahead.grown_or_still.Goals as goal

pub still_or_denied-requires-clause-forms : goal.still_or_denied-requires-clause-forms
still_or_denied-requires-clause-forms c =
    let told : c.brings_nothing.result ≡ true = search rules in
    let none : BringsNothing (five_of c.args.put.kept) (literals_of c.args.put.literals.items) (five_of c.args.put.five) =
    subst (λ ls. BringsNothing (five_of c.args.put.kept) (literals_of ls) (five_of c.args.put.five)) c.as_slice.ensures.value (c.brings_nothing.ensures.tells told)
    in
    has_its_forms (signature_of c.args.s.now) (five_of c.args.d.now) (five_of c.args.put.kept) (five_of c.args.put.five) (effects_in c.args.es) (literals_of c.args.put.literals.items)
    c.requires.values c.requires.closed c.requires.sides c.brings_nothing.ensures.ordered c.requires.puts none

pub still_or_denied-requires-clause-values : goal.still_or_denied-requires-clause-values
still_or_denied-requires-clause-values c =
    let told : c.brings_nothing.result ≡ true = search rules in
    let none : BringsNothing (five_of c.args.put.kept) (literals_of c.args.put.literals.items) (five_of c.args.put.five) =
    subst (λ ls. BringsNothing (five_of c.args.put.kept) (literals_of ls) (five_of c.args.put.five)) c.as_slice.ensures.value (c.brings_nothing.ensures.tells told)
    in
    λ nothing. gives_alike (signature_of c.args.s.now) (five_of c.args.d.now) (five_of c.args.put.kept) (five_of c.args.put.five) (effects_in c.args.es) (literals_of c.args.put.literals.items)
    c.requires.values c.requires.closed c.requires.sides c.brings_nothing.ensures.ordered c.requires.puts none nothing

pub still_or_denied-requires-clause-still : goal.still_or_denied-requires-clause-still
still_or_denied-requires-clause-still c =
    let s = signature_of c.args.s.now in
    let told : c.brings_nothing.result ≡ true = search rules in
    let none : BringsNothing (five_of c.args.put.kept) (literals_of c.args.put.literals.items) (five_of c.args.put.five) =
    subst (λ ls. BringsNothing (five_of c.args.put.kept) (literals_of ls) (five_of c.args.put.five)) c.as_slice.ensures.value (c.brings_nothing.ensures.tells told)
    in
    λ undenied.
    is_still s (five_of c.args.d.now) (five_of c.args.put.kept) (five_of c.args.put.five) (effects_in c.args.es) (literals_of c.args.put.literals.items)
    c.requires.values c.requires.closed c.requires.sides c.brings_nothing.ensures.ordered c.requires.puts none
    ((λ i. list_any (λ l. holds s (five_of c.args.put.five) (negated l)) (literals_of (sym c.as_slice-2.ensures.value i))) ∙ undenied)
