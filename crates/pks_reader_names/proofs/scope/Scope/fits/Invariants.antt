use Rattle.std.proofs.Common.{◌≡◌}
use Rattle.pks_terms.specs.Signatures.{fits_type}
use Rattle.pks_reader_names.specs.Scopes.{signature_in}
use Rattle.pks_reader_names.specs.Views.{scope_view}
use Rattle.pks_reader_names.proofs.scope.Scope.fits.Given as goal

abbrev pub invariant-loop-own : goal.invariant-loop-own
invariant-loop-own l = fits_type (signature_in (scope_view l.self)) l.own l.wanted ≡ fits_type (signature_in (scope_view l.self)) l.fn.own l.wanted

abbrev pub decreases-loop-own : goal.decreases-loop-own
decreases-loop-own l = l.own
