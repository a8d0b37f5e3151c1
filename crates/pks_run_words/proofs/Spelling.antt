-- Modes with numbers: which are the words of no job, and that none are the words of two.
use Rattle.std.proofs.Common.{◌≡◌, ◌∙◌, ◌<◌, ◌∷◌, [], ℕ, nat_eq, length, List, Option, Some, None, IfSome, codes, decimal, if◌then◌else◌, refl, sym, ap, ap₂, subst, arith}
use Rattle.std.proofs.lemmas.Fmt.{decimal_injective}
use Rattle.pks_terms.specs.Printed.{Text}
use Rattle.pks_terms.specs.Jobs.{Mode, Checking, Planning, Running, Benching, Recalling, Leading, Explaining, Deriving, Sharing, Job, Check, Plan, Exec, Bench, Recall, Agent, Explain, Derive, Shared, mode_of, mode_word, number_of_job, number_words, IsInBounds}
use Rattle.pks_run_words.specs.JobViews.{AreSpelled, AreWordsOf, AreNoWords}

-- the letter with which the word begins
abbrev letter : Text → ℕ
letter [] = 0
letter (b ∷ word) = b

-- ---- no words of a job

-- a mode with a number that is none of these
pub no_mode : (mode : Text) (n : ℕ) → (mode ≡ codes "plan" → ⊥) → (mode ≡ codes "exec" → ⊥) → (mode ≡ codes "bench" → ⊥) → (mode ≡ codes "recall" → ⊥) → (mode ≡ codes "agent" → ⊥) → (mode ≡ codes "explain" → ⊥) → (mode ≡ codes "shared" → ⊥) → AreNoWords (mode ∷ decimal n ∷ [])
no_mode mode n plan exec bench recall agent explain shared Check w = let e = w.spelled in cc
no_mode mode n plan exec bench recall agent explain shared (Plan m) w = let e = w.spelled in plan cc
no_mode mode n plan exec bench recall agent explain shared (Exec m) w = let e = w.spelled in exec cc
no_mode mode n plan exec bench recall agent explain shared (Bench m) w = let e = w.spelled in bench cc
no_mode mode n plan exec bench recall agent explain shared (Recall m) w = let e = w.spelled in recall cc
no_mode mode n plan exec bench recall agent explain shared (Agent m) w = let e = w.spelled in agent cc
no_mode mode n plan exec bench recall agent explain shared (Explain m) w = let e = w.spelled in explain cc
no_mode mode n plan exec bench recall agent explain shared Derive w = let e = w.spelled in cc
no_mode mode n plan exec bench recall agent explain shared (Shared m) w = let e = w.spelled in shared cc

-- a mode without a number
pub no_bare_job : (mode : Text) → (mode ≡ codes "check" → ⊥) → (mode ≡ codes "derive" → ⊥) → AreNoWords (mode ∷ [])
no_bare_job mode check derive Check w = let e = w.spelled in check cc
no_bare_job mode check derive (Plan m) w = let e = w.spelled in cc
no_bare_job mode check derive (Exec m) w = let e = w.spelled in cc
no_bare_job mode check derive (Bench m) w = let e = w.spelled in cc
no_bare_job mode check derive (Recall m) w = let e = w.spelled in cc
no_bare_job mode check derive (Agent m) w = let e = w.spelled in cc
no_bare_job mode check derive (Explain m) w = let e = w.spelled in cc
no_bare_job mode check derive Derive w = let e = w.spelled in derive cc
no_bare_job mode check derive (Shared m) w = let e = w.spelled in cc

-- ---- words of one job alone

-- the mode that a word tells by its first letter, and of two with the same letter by its length
abbrev mode_told : Text → Mode
mode_told word =
    if nat_eq (letter word) 99 then Checking else if nat_eq (letter word) 112 then Planning else if nat_eq (letter word) 98 then Benching else if nat_eq (letter word) 114 then Recalling
    else if nat_eq (letter word) 97 then Leading else if nat_eq (letter word) 100 then Deriving else if nat_eq (letter word) 115 then Sharing else if nat_eq (length word) 4 then Running else Explaining

tells_mode : (m : Mode) → mode_told (mode_word m) ≡ m
tells_mode Checking = refl
tells_mode Planning = refl
tells_mode Running = refl
tells_mode Benching = refl
tells_mode Recalling = refl
tells_mode Leading = refl
tells_mode Explaining = refl
tells_mode Deriving = refl
tells_mode Sharing = refl

one_mode : (m n : Mode) → mode_word m ≡ mode_word n → m ≡ n
one_mode m n e = sym (tells_mode m) ∙ (ap mode_told e ∙ tells_mode n)

-- a number within its bounds has one spelling
one_number : (o u : Option ℕ) → IfSome o (λ n. n < 256) → IfSome u (λ n. n < 256) → number_words o ≡ number_words u → o ≡ u
one_number None None a b e = refl
one_number None (Some n) a b e = absurd cc
one_number (Some n) None a b e = absurd cc
one_number (Some n) (Some m) a b e = let same : decimal n ≡ decimal m = cc in ap Some (decimal_injective n m (omega (arith, a)) (omega (arith, b)) same)

within : (j : Job) → IsInBounds j → IfSome (number_of_job j) (λ n. n < 256)
within Check b = tt
within (Plan n) b = omega (arith, b)
within (Exec n) b = omega (arith, b)
within (Bench n) b = omega (arith, b)
within (Recall n) b = omega (arith, b)
within (Agent n) b = omega (arith, b)
within (Explain n) b = omega (arith, b)
within Derive b = tt
within (Shared n) b = omega (arith, b)

abbrev or_zero : Option ℕ → ℕ
or_zero None = 0
or_zero (Some n) = n

-- the job of a mode with this number
abbrev job_with : Mode → Option ℕ → Job
job_with Checking o = Check
job_with Planning o = Plan (or_zero o)
job_with Running o = Exec (or_zero o)
job_with Benching o = Bench (or_zero o)
job_with Recalling o = Recall (or_zero o)
job_with Leading o = Agent (or_zero o)
job_with Explaining o = Explain (or_zero o)
job_with Deriving o = Derive
job_with Sharing o = Shared (or_zero o)

is_with : (j : Job) → job_with (mode_of j) (number_of_job j) ≡ j
is_with Check = refl
is_with (Plan n) = refl
is_with (Exec n) = refl
is_with (Bench n) = refl
is_with (Recall n) = refl
is_with (Agent n) = refl
is_with (Explain n) = refl
is_with Derive = refl
is_with (Shared n) = refl

same_first : (x y : Text) (xs ys : List Text) → x ∷ xs ≡ y ∷ ys → (x ≡ y) × (xs ≡ ys)
same_first x y xs ys e = (cc, cc)

-- words of two jobs are those of the same
pub one_spelled : (words : List Text) (j k : Job) → AreWordsOf words j → AreWordsOf words k → k ≡ j
one_spelled words j k a b =
    let same = same_first _ _ _ _ (sym b.spelled ∙ a.spelled) in
    let mode : mode_of k ≡ mode_of j = one_mode (mode_of k) (mode_of j) same.0 in
    let number : number_of_job k ≡ number_of_job j = one_number (number_of_job k) (number_of_job j) (within k b.bounds) (within j a.bounds) same.1 in
    sym (is_with k) ∙ (ap₂ job_with mode number ∙ is_with j)

-- ---- a number that isn't within its bounds

-- spelled alike, a job is another whose number is within its bounds
pub spelled_one : (words : List Text) (j k : Job) → AreSpelled words j → IfSome (number_of_job j) (λ n. n < 256) → AreWordsOf words k → k ≡ j
spelled_one words j k a small b =
    let same = same_first _ _ _ _ (sym b.spelled ∙ a.spelled) in
    let mode : mode_of k ≡ mode_of j = one_mode (mode_of k) (mode_of j) same.0 in
    let number : number_of_job k ≡ number_of_job j = one_number (number_of_job k) (number_of_job j) (within k b.bounds) small same.1 in
    sym (is_with k) ∙ (ap₂ job_with mode number ∙ is_with j)

pub out_of_bounds : (words : List Text) (j : Job) → AreSpelled words j → IfSome (number_of_job j) (λ n. n < 256) → (IsInBounds j → ⊥) → AreNoWords words
out_of_bounds words j a small bad k w = bad (subst IsInBounds (spelled_one words j k a small w) w.bounds)
