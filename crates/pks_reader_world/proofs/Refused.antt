-- A refusal is that of the fault that was found.
use Rattle.std.proofs.Common.{◌≡◌, Option, Some}
use Rattle.pks_reader_shape.specs.Files.{Fault}
use Rattle.pks_reader_shape.specs.declared.report.Extra.TheVariants.{Plain}
use Rattle.pks_reader_shape.specs.declared.report.Refusal.{Refusal}
use Rattle.pks_reader_shape.specs.Refusals.{refusing}
use Rattle.pks_reader_shape.proofs.Refusing.{this_refused}

pub this_found : (found : Option Fault) (r : Refusal) → refusing found ≡ Some r → found ≡ Some (r.at, r.code)
this_found found r e = (this_refused found r e).0

pub this_plain : (found : Option Fault) (r : Refusal) → refusing found ≡ Some r → r.extra ≡ Plain
this_plain found r e = (this_refused found r e).1
