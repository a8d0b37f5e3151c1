-- Refusals of first faults.
use Rattle.std.proofs.Common.{◌≡◌, Option, Some, None, refl, subst, sym}
use Rattle.std.proofs.lemmas.Option.{none-some}
use Rattle.pks_reader_shape.specs.Files.{Fault, or_else}
use Rattle.pks_reader_shape.specs.declared.report.Refusal.{Refusal}
use Rattle.pks_reader_shape.specs.declared.report.Turned.TheVariants.{Refused}
use Rattle.pks_reader_shape.specs.Refusals.{plain, refusing, Turns}

-- the first refusal is that of the first fault
pub both_refusing : (a b : Option Fault) → or_else (refusing a) (refusing b) ≡ refusing (or_else a b)
both_refusing None b = refl
both_refusing (Some fault) b = refl

-- nothing is refused where there is no fault
pub none_refused : (found : Option Fault) → refusing found ≡ None → found ≡ None
none_refused None e = refl
none_refused (Some fault) e = absurd (none-some (plain fault) (sym e))

-- what is refused is the first fault
pub this_refused : (found : Option Fault) (r : Refusal) → refusing found ≡ Some r → Turns (λ f. found ≡ Some f) (Refused r)
this_refused None r e = absurd (none-some r e)
this_refused (Some fault) r e = subst (λ (q : Refusal). Turns (λ f. Some fault ≡ Some f) (Refused q)) (same_some e) (refl, refl)
  where
    same_some : Some (plain fault) ≡ Some r → plain fault ≡ r
    same_some s = cc
