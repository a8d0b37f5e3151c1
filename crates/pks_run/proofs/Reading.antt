-- An input reads in one way, by what reading it gave.
use Rattle.std.proofs.Common.{◌≡◌, ◌<◌, [], ◌∷◌, length, Option, Some, None, IfSome, refl, ap, ◌∙◌, arith}
use Rattle.pks_terms.specs.Printed.{Text}
use Rattle.pks_text.specs.Lines.{line_column_of}
use Rattle.pks_terms.specs.Answers.{Reading, ReadAs, Faulty, File}
use Rattle.pks_reader_shape.specs.Files.{Fault}
use Rattle.pks_reader_shape.specs.declared.report.Refusal.{Refusal}
use Rattle.pks_reader_shape.specs.declared.report.Turned.{Turned}
use Rattle.pks_reader_shape.specs.declared.report.Turned.TheVariants.{Refused, Memory}
use Rattle.pks_reader.specs.Inputs.{line_and_column, IsFaulty, too_long, too_high, refused, IsRead, Reads}

-- as this file alone
pub one_file : (input : Text) (f : File) → ((g : File) → IsRead input g → g ≡ f) → ((fault : Fault) → IsFaulty input fault → ⊥) → (x : Reading) → Reads input x → x ≡ ReadAs f
one_file input f same none (ReadAs g) r = ap ReadAs (same g r)
one_file input f same none (Faulty at code) (byte, fault, e) = absurd (none (byte, code) fault)

-- as this fault alone
pub one_fault : (input : Text) (fault : Fault) → ((g : File) → IsRead input g → ⊥) → ((other : Fault) → IsFaulty input other → other ≡ fault) → (x : Reading) → Reads input x → x ≡ Faulty (line_and_column input fault.0) fault.1
one_fault input fault none same (ReadAs g) r = absurd (none g r)
one_fault input fault none same (Faulty at code) (byte, other, e) =
    let is : (byte, code) ≡ fault = same (byte, code) other in
    ap (λ a. Faulty a code) e ∙ (λ i. Faulty (line_and_column input (is i).0) (is i).1)

-- a refusal isn't want of memory
pub isnt_memory : {end : Turned} (r : Refusal) → Refused r ≡ end → end ≡ Memory → ⊥
isnt_memory r this memory = let bad : Refused r ≡ Memory = this ∙ memory in cc

-- an input that is too long is that fault alone
pub long_file : (input : Text) → 262144 < length input → (g : File) → IsRead input g → ⊥
long_file input long g r = let short = r.short in absurd (omega arith)

pub long_fault : (input : Text) → 262144 < length input → (other : Fault) → IsFaulty input other → other ≡ (0, 100)
long_fault input long _ (too_long h) = refl
long_fault input long _ (too_high short at h) = absurd (omega arith)
long_fault input long _ (refused short h fault r) = absurd (omega arith)

-- the first byte stands at the beginning
pub begins_at : (input : Text) → line_and_column [] 0 ≡ line_and_column input 0
unfolding line_column_of
begins_at [] = refl
begins_at (b ∷ bytes) = refl

-- what holds of all inputs holds of the one that is told
pub of_any : {X : Type 0} (P : X → Type 0) (o : Option X) → ((x : X) → P x) → IfSome o P
of_any P None all = tt
of_any P (Some x) all = all x
