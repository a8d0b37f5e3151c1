use Rattle.std.proofs.Common.{◌≡◌, true, refl, sym, ◌∙◌, subst}
use Rattle.pks_terms.specs.Signatures.{fits_type}
use Rattle.pks_reader_names.specs.Scopes.{signature_in}
use Rattle.pks_reader_names.specs.Views.{scope_view}
use Rattle.pks_terms.proofs.Types.{parent_earlier, fits_itself, fits_up, fits_not}
use Rattle.pks_reader_names.proofs.scope.Scope.fits.Goals as goal

pub loop-own-init : goal.loop-own-init
loop-own-init c = refl

pub returns-then-own-wanted : goal.returns-then-own-wanted
returns-then-own-wanted c =
    sym (subst (λ x. fits_type (signature_in (scope_view c.args.self.now)) c.loop-own.own x ≡ true) c.if-own-wanted.true (fits_itself (signature_in (scope_view c.args.self.now)) c.loop-own.own)) ∙ c.loop-own.invariant

pub loop-own-smaller : goal.loop-own-smaller
loop-own-smaller c = parent_earlier (signature_in (scope_view c.args.self.now)) c.loop-own.own c.in-Some.up (sym c.parent.ensures ∙ c.in-Some.is)

pub loop-own-preserved : goal.loop-own-preserved
loop-own-preserved c =
    sym (fits_up (signature_in (scope_view c.args.self.now)) c.loop-own.own c.args.wanted c.in-Some.up c.if-own-wanted.false (sym c.parent.ensures ∙ c.in-Some.is)) ∙ c.loop-own.invariant

pub returns-in-None : goal.returns-in-None
returns-in-None c =
    sym (fits_not (signature_in (scope_view c.args.self.now)) c.loop-own.own c.args.wanted c.if-own-wanted.false (sym c.parent.ensures ∙ c.in-None.is)) ∙ c.loop-own.invariant
