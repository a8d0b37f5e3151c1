-- Words ask for a job, or for none.
use Rattle.std.proofs.Common.{◌≡◌, ◌⊎◌, inl, inr, ⊎_elim, ℕ, zero, suc, ◌≤◌, Bool, true, false, eqb, List, [], ◌∷◌, ◌++◌, map, Option, Some, None, refl, sym, ◌∙◌, subst, arith, true≢false}
use Rattle.std.proofs.lemmas.Bool.{cases_Bool, cases_lt}
use Rattle.std.proofs.lemmas.Bool.Decides.{Decides-eqb}
use Rattle.std.proofs.lemmas.Option.{none-some, same_Some}
use Rattle.std.specs.Bool.{Decides}
use Rattle.std.specs.Cmp.Lexicographic.{pointwise, pointwise_decides}
use Rattle.pks_terms.specs.Printed.{Text}
use Rattle.pks_terms.specs.Sets.{Each, IsIn}
use Rattle.pks_terms.specs.Jobs.{all_modes, Job, Check, Plan, Exec, Bench, Recall, Agent, Explain, Derive, Shared, mode_of, mode_word, number_of_job, number_words, has_mode, positionals, IsInBounds, IsCommand, Asks, AskForNone}
use Rattle.pks_terms.proofs.ListLaws.{each_append, each_in, each_map, in_map}
use Rattle.pks_laws.proofs.Least.{in_left, in_right}

-- ---- numbers

-- the numbers from this one down to 0
abbrev numbers_to : ℕ → List ℕ
numbers_to zero = zero ∷ []
numbers_to (suc n) = suc n ∷ numbers_to n

numbers_most : (n most : ℕ) → n ≤ most → Each (λ d. d ≤ most) (numbers_to n)
numbers_most zero most h = (h, tt)
numbers_most (suc n) most h = let less : n ≤ most = omega arith in (h, numbers_most n most less)

in_numbers : (d n : ℕ) → d ≤ n → IsIn d (numbers_to n)
in_numbers d zero h = let e : zero ≡ d = omega arith in inl e
in_numbers d (suc n) h =
    ⊎_elim (λ less. let low : d ≤ n = omega arith in inr (in_numbers d n low)) (λ more. let e : suc n ≡ d = omega arith in inl e) (cases_lt d (suc n))

-- ---- all jobs with numbers up to these

module _ (deep size : ℕ) where
  abbrev to_depths : (ℕ → Job) → List Job
  to_depths make = map make (numbers_to deep)

  abbrev benches : List Job
  benches = map (λ n. Bench (suc n)) (numbers_to size)

  abbrev from_shared : List Job
  from_shared = to_depths Shared ++ benches

  abbrev from_explain : List Job
  from_explain = to_depths Explain ++ from_shared

  abbrev from_agent : List Job
  from_agent = to_depths Agent ++ from_explain

  abbrev from_recall : List Job
  from_recall = to_depths Recall ++ from_agent

  abbrev from_exec : List Job
  from_exec = to_depths Exec ++ from_recall

  abbrev all_jobs : List Job
  all_jobs = Check ∷ Derive ∷ (to_depths Plan ++ from_exec)

  depths_bounded : deep ≤ 16 → (make : ℕ → Job) → ((n : ℕ) → n ≤ 16 → IsInBounds (make n)) → Each IsInBounds (to_depths make)
  depths_bounded low make bounds = each_map IsInBounds make (numbers_to deep) (each_bounds (numbers_to deep) (numbers_most deep 16 low))
    where
      each_bounds : (ns : List ℕ) → Each (λ d. d ≤ 16) ns → Each (λ d. IsInBounds (make d)) ns
      each_bounds [] a = tt
      each_bounds (n ∷ ns) a = (bounds n a.0, each_bounds ns a.1)

  benches_bounded : size ≤ 63 → Each IsInBounds benches
  benches_bounded small = each_map IsInBounds (λ n. Bench (suc n)) (numbers_to size) (each_bounds (numbers_to size) (numbers_most size 63 small))
    where
      bounds : (n : ℕ) → n ≤ 63 → (1 ≤ suc n) × (suc n ≤ 64)
      bounds n h = (omega arith, omega arith)

      each_bounds : (ns : List ℕ) → Each (λ d. d ≤ 63) ns → Each (λ d. IsInBounds (Bench (suc d))) ns
      each_bounds [] a = tt
      each_bounds (n ∷ ns) a = (bounds n a.0, each_bounds ns a.1)

  all_bounded : deep ≤ 16 → size ≤ 63 → Each IsInBounds all_jobs
  all_bounded low small = (
    tt,
    (
      tt,
      each_append IsInBounds (to_depths Plan) from_exec (depths_bounded low Plan (λ n h. h))
          (each_append IsInBounds (to_depths Exec) from_recall (depths_bounded low Exec (λ n h. h))
          (each_append IsInBounds (to_depths Recall) from_agent (depths_bounded low Recall (λ n h. h))
          (each_append IsInBounds (to_depths Agent) from_explain (depths_bounded low Agent (λ n h. h))
          (each_append IsInBounds (to_depths Explain) from_shared (depths_bounded low Explain (λ n h. h))
          (each_append IsInBounds (to_depths Shared) benches (depths_bounded low Shared (λ n h. h)) (benches_bounded small)))))),
    ),
  )

  module _ (deepest : (n : ℕ) → n ≤ 16 → n ≤ deep) (greatest : (n : ℕ) → n ≤ 63 → n ≤ size) where
    to_depth : (make : ℕ → Job) (n : ℕ) → n ≤ 16 → IsIn (make n) (to_depths make)
    to_depth make n h = in_map make (numbers_to deep) n (in_numbers n deep (deepest n h))

    in_benches : (n : ℕ) → (1 ≤ n) × (n ≤ 64) → IsIn (Bench n) benches
    in_benches zero h = let one = h.0 in absurd (omega arith)
    in_benches (suc n) h = let most = h.1 in let small : n ≤ 63 = omega arith in in_map (λ n. Bench (suc n)) (numbers_to size) n (in_numbers n size (greatest n small))

    in_jobs : (j : Job) → IsInBounds j → IsIn j all_jobs
    in_jobs Check h = inl refl
    in_jobs Derive h = inr (inl refl)
    in_jobs (Plan n) h = inr (inr (in_left (to_depths Plan) from_exec (Plan n) (to_depth Plan n h)))
    in_jobs (Exec n) h = inr (inr (in_right (to_depths Plan) from_exec (Exec n) (in_left (to_depths Exec) from_recall (Exec n) (to_depth Exec n h))))
    in_jobs (Recall n) h = inr (inr (in_right (to_depths Plan) from_exec (Recall n) (in_right (to_depths Exec) from_recall (Recall n) (in_left (to_depths Recall) from_agent (Recall n) (to_depth Recall n h)))))
    in_jobs (Agent n) h =
        inr (inr (in_right (to_depths Plan) from_exec (Agent n) (in_right (to_depths Exec) from_recall (Agent n) (in_right (to_depths Recall) from_agent (Agent n) (in_left (to_depths Agent) from_explain (Agent n) (to_depth Agent n h))))))
    in_jobs (Explain n) h =
        inr (inr (in_right (to_depths Plan) from_exec (Explain n) (in_right (to_depths Exec) from_recall (Explain n) (in_right (to_depths Recall) from_agent (Explain n) (in_right (to_depths Agent) from_explain (Explain n)
        (in_left (to_depths Explain) from_shared (Explain n) (to_depth Explain n h)))))))
    in_jobs (Shared n) h =
        inr (inr (in_right (to_depths Plan) from_exec (Shared n) (in_right (to_depths Exec) from_recall (Shared n) (in_right (to_depths Recall) from_agent (Shared n) (in_right (to_depths Agent) from_explain (Shared n)
        (in_right (to_depths Explain) from_shared (Shared n) (in_left (to_depths Shared) benches (Shared n) (to_depth Shared n h))))))))
    in_jobs (Bench n) h =
        inr (inr (in_right (to_depths Plan) from_exec (Bench n) (in_right (to_depths Exec) from_recall (Bench n) (in_right (to_depths Recall) from_agent (Bench n) (in_right (to_depths Agent) from_explain (Bench n)
        (in_right (to_depths Explain) from_shared (Bench n) (in_right (to_depths Shared) benches (Bench n) (in_benches n h))))))))

-- ---- words

abbrev spelling : Job → List Text
spelling j = mode_word (mode_of j) ∷ number_words (number_of_job j)

is_spelled : List Text → Job → Bool
is_spelled words j = pointwise (pointwise eqb) words (spelling j)

spelled_decides : (words : List Text) (j : Job) → Decides (is_spelled words j) (words ≡ spelling j)
unfolding is_spelled
spelled_decides words j = pointwise_decides (pointwise_decides Decides-eqb) words (spelling j)

built : (j : Job) → has_mode all_modes (mode_of j) ≡ true
built Check = refl
built (Plan n) = refl
built (Exec n) = refl
built (Bench n) = refl
built (Recall n) = refl
built (Agent n) = refl
built (Explain n) = refl
built Derive = refl
built (Shared n) = refl

-- one of the jobs is spelled by the words, or none
searched : (words : List Text) (js : List Job) → ((j : Job) × IsIn j js × (is_spelled words j ≡ true)) ⊎ ((j : Job) → IsIn j js → is_spelled words j ≡ false)
searched words [] = inr (λ j i. absurd i)
searched words (k ∷ js) =
    ⊎_elim
    (λ is. inl (k, inl refl, is))
    (λ other. ⊎_elim (λ found. inl (found.0, inr found.1, found.2)) (λ none. inr (λ j i. ⊎_elim (λ same. subst (λ l. is_spelled words l ≡ false) same other) (λ later. none j later) i)) (searched words js))
    (cases_Bool (is_spelled words k))

-- with all jobs among these, each of which is in its bounds
commands : (js : List Job) → Each IsInBounds js → ((j : Job) → IsInBounds j → IsIn j js) → (words : List Text) → ((j : Job) × IsCommand all_modes words j) ⊎ ((j : Job) → IsCommand all_modes words j → ⊥)
commands js bounded all words =
    ⊎_elim
    (λ found. inl (found.0, record { built = built found.0; spelled = (spelled_decides words found.0).0 found.2; bounds = each_in IsInBounds js found.0 bounded found.1 }))
    (λ none. inr (λ j c. true≢false (sym ((spelled_decides words j).1 c.spelled) ∙ none j (all j c.bounds))))
    (searched words js)

command : (words : List Text) → ((j : Job) × IsCommand all_modes words j) ⊎ ((j : Job) → IsCommand all_modes words j → ⊥)
command = commands (all_jobs 16 63) (all_bounded 16 63 (omega arith) (omega arith)) (in_jobs 16 63 (λ n h. h) (λ n h. h))

-- the words ask for a job, or for none
pub asked : (words : List Text) → ((j : Job) × Asks all_modes words j) ⊎ AskForNone all_modes words
asked [] = inr (λ j asks. asks)
asked (name ∷ words) = by_rest (positionals words) refl
  where
    by_rest : (o : Option (List Text)) → positionals words ≡ o → ((j : Job) × Asks all_modes (name ∷ words) j) ⊎ AskForNone all_modes (name ∷ words)
    by_rest None e = inr (λ j asks. none-some asks.0 (sym e ∙ asks.1))
    by_rest (Some rest) e =
        ⊎_elim
        (λ c. inl (c.0, (rest, e, c.1)))
        (λ none. inr (λ j asks. none j (subst (λ r. IsCommand all_modes r j) (same_Some asks.0 rest (sym asks.1 ∙ e)) asks.2)))
        (command rest)
