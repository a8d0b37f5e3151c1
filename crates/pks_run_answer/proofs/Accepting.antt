-- From the acceptance of a file to that no refusal applies, and from parts of a refusal to the whole.
use Rattle.std.proofs.Common.{◌≡◌, ℕ, List, [], ◌∷◌, ◌⊎◌, inl, inr, Option, Some, None, Result, Ok, Err, OnOk, IfOk, IfErr, sym, ap, subst, ◌∙◌}
use Rattle.pks_terms.specs.Databases.{Five}
use Rattle.pks_terms.specs.Syntax.{Literal}
use Rattle.pks_terms.specs.Closure.{Next, Clash, Closes}
use Rattle.pks_terms.specs.Problems.{Problem, initial}
use Rattle.pks_terms.specs.Jobs.{Job, Check, Plan, Exec, Bench, Recall, Agent, Explain, Derive, Shared}
use Rattle.pks_terms.specs.Printed as printed
use Rattle.pks_terms.specs.Answers.{Stated, NoWorld, BadWorld, GivenWorld, File, refusal, unjustified, RefusesAdd, RefusesStart, RefusesWorld, RefusesRun, RefusesFor, NoneApplies, RefusesFile}
use Rattle.pks_reader_shape.specs.declared.report.Extra.{Extra}
use Rattle.pks_reader_shape.specs.declared.report.Refusal.{Refusal}
use Rattle.pks_reader_shape.specs.declared.report.Turned.{Turned}
use Rattle.pks_reader_shape.specs.declared.report.Turned.TheVariants.{Refused, Memory}
use Rattle.pks_laws.proofs.Unique.{closes_one}
use Rattle.pks_world.specs.declared.worlds.World.{World}
use Rattle.pks_reader.specs.declared.input.InputFile.{InputFile}
use Rattle.pks_reader.specs.Inputs.{line_and_column}
use Rattle.pks_reader.specs.Views.{file_of, stated_as, IsBadWorld}
use Rattle.pks_run_answer.specs.Accepting.{rest_of, printed_of, IfRefused, RefusesFirst, RefusesAnyRun, IsFaultless, IsUnbroken, IsFit, Begins, Accepts}

-- ---- what doesn't apply

empty_or_more : (x : ℕ × ℕ) (xs : List (ℕ × ℕ)) → [] ≡ x ∷ xs → ⊥
empty_or_more x xs e = cc

no_add : (f : File) → unjustified f.problem ≡ [] → NoneApplies (RefusesAdd f)
no_add f none r a = empty_or_more (a.0, a.1) a.2 (sym none ∙ a.3)

next_or_clash : (d : Five) (l : Literal) → Next d ≡ Clash l → ⊥
next_or_clash d l e = cc

no_clash : (f : File) (d : Five) → Begins f.problem d → NoneApplies (RefusesStart f)
no_clash f d begins r a = next_or_clash d a.0 (closes_one f.problem.signature (initial f.problem) (Next d) (Clash a.0) begins.closed a.1)

no_fault : (f : File) (w : Stated) → IsFaultless w → NoneApplies (RefusesWorld f w)
no_fault f NoWorld fits r a = a
no_fault f (BadWorld at code) fits r a = fits
no_fault f (GivenWorld w) fits r a = a

no_break : (f : File) (w : Stated) → IsUnbroken f.problem w → NoneApplies (RefusesRun f w)
no_break f NoWorld fits r a = fits
no_break f (BadWorld at code) fits r a = fits
no_break f (GivenWorld w) fits r a = fits a.0 a.1

whole_faultless : (p : Problem) (w : Stated) → IsUnbroken p w → IsFaultless w
whole_faultless p NoWorld fits = tt
whole_faultless p (BadWorld at code) fits = fits
whole_faultless p (GivenWorld w) fits = tt

no_other : (j : Job) (f : File) → IsFit j f.problem f.world → NoneApplies (RefusesFor j f)
no_other Check f fits r a = no_fault f f.world fits r a
no_other (Plan n) f fits r a = no_fault f f.world fits r a
no_other (Exec n) f fits r (inl a) = no_fault f f.world (whole_faultless f.problem f.world fits) r a
no_other (Exec n) f fits r (inr a) = no_break f f.world fits r a
no_other (Bench n) f fits r a = a
no_other (Recall n) f fits r a = no_fault f f.world fits r a
no_other (Agent n) f fits r a = no_fault f f.world fits r a
no_other (Explain n) f fits r a = no_fault f f.world fits r a
no_other Derive f fits r a = no_fault f f.world fits r a
no_other (Shared n) f fits r a = no_fault f f.world fits r a

-- no refusal applies to an accepted file
pub none_applies : (j : Job) (f : File) (d : Five) (w : Option World) → Accepts j f d w → NoneApplies (RefusesFile j f)
none_applies j f d w accepts r (inl a) = no_add f accepts.begins.justified r a
none_applies j f d w accepts r (inr a) = later a.1
  where
    later : RefusesStart f r ⊎ (NoneApplies (RefusesStart f) × RefusesFor j f r) → ⊥
    later (inl b) = no_clash f d accepts.begins r b
    later (inr b) = no_other j f accepts.fits r b.1

-- ---- refusals

refused_as : (f : InputFile) (P Q : printed.Refusal → Type 0) (e : Turned) → ((r : printed.Refusal) → P r → Q r) → IfRefused f P e → IfRefused f Q e
refused_as f P Q (Refused r) as_q refused = as_q (printed_of f r) refused
refused_as f P Q Memory as_q refused = tt

-- what the job asks of the world refuses it, where the first databases are there
pub world_refuses : (j : Job) (f : InputFile) (d : Five) (e : Turned) → Begins (file_of f).problem d → IfRefused f (RefusesFor j (file_of f)) e → IfRefused f (RefusesFile j (file_of f)) e
world_refuses j f d e begins refused =
    refused_as f (RefusesFor j (file_of f)) (RefusesFile j (file_of f)) e (λ r a. inr (no_add (file_of f) begins.justified, inr (no_clash (file_of f) d begins, a))) refused

-- first databases that clash
pub clash_refuses : (f : InputFile) (r : Refusal) → unjustified (file_of f).problem ≡ [] → ((l : Literal) × Closes (file_of f).problem.signature (initial (file_of f).problem) (Clash l))
    → printed_of f r ≡ refusal (file_of f).init_at 270 [] → RefusesFirst (file_of f) (printed_of f r)
clash_refuses f r none clashes says = inr (no_add (file_of f) none, (clashes.0, clashes.1, says))

-- ---- the world of a file

stated_faultless : (w : Option World) (s : Stated) → s ≡ stated_as w → IsFaultless s
stated_faultless None s e = subst IsFaultless (sym e) tt
stated_faultless (Some v) s e = subst IsFaultless (sym e) tt

bad_world : (f : InputFile) (e : Turned) → IsBadWorld f e → IfRefused f (RefusesWorld (file_of f) (file_of f).world) e
bad_world f (Refused r) bad =
    subst (λ (w : Stated). RefusesWorld (file_of f) w (printed_of f r)) (sym bad.0) (ap (λ (x : Extra). refusal (line_and_column f.source.now r.at) r.code (rest_of (file_of f).names x)) bad.1)
bad_world f Memory bad = tt

-- the world that was read has no fault, or is refused for it
pub sound_fits : (f : InputFile) (r : Result (Option World) Turned) → IfOk r (λ w. (file_of f).world ≡ stated_as w) → OnOk r (IsFaultless (file_of f).world)
sound_fits f (Ok w) says = stated_faultless w (file_of f).world says
sound_fits f (Err e) says = tt

pub sound_refused : (f : InputFile) (r : Result (Option World) Turned) → IfErr r (IsBadWorld f) → IfErr r (IfRefused f (RefusesWorld (file_of f) (file_of f).world))
sound_refused f (Ok w) bad = tt
sound_refused f (Err e) bad = bad_world f e bad
