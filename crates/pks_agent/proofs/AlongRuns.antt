-- With the answers of a world a dialogue tells the run in it.
use Rattle.std.proofs.Common.{◌≡◌, ◌==◌, ◌<◌, ℕ, ◌+◌, zero, suc, Bool, true, false, cond, List, [], ◌∷◌, ◌&&◌, ◌++◌, map, length, slice_get, Option, Some, None, option_map, refl, sym, ap, ◌∙◌, subst, inl, inr, true≢false, append_assoc, arith}
use Rattle.std.specs.Prelude.{codes, nat_eq}
use Rattle.std.specs.Option.{option_map_or}
use Rattle.std.proofs.lemmas.Bool.{and_parts, and_from, eqb-true, eq-eqb}
use Rattle.std.proofs.lemmas.Option.{none-some, same_Some, slice_get_within}
use Rattle.pks_terms.specs.Sets.{Each, IsIn}
use Rattle.pks_terms.specs.Syntax.{Object, Parameter, Apply, Inner, Term, term_of, Literal}
use Rattle.pks_terms.specs.Signatures.{Shape, Signature, fits_type, objects_of, object_is_of, range_of}
use Rattle.pks_terms.specs.Worlds.{World, inner_value, value_of, all_true_in}
use Rattle.pks_terms.specs.Meaning.{IsWorld}
use Rattle.pks_terms.specs.Actions.{Instance, Seen, argument}
use Rattle.pks_terms.specs.Problems.{Problem, schema_of, IsCompatible}
use Rattle.pks_terms.specs.Trees.{Tree, Goal, Impossible, Do, Branch, Cases, Chain, End, More, IsPlan}
use Rattle.pks_terms.specs.Knowledge.{grounded, after_action, observations, Ending, AtGoal, AtImpossible, NoCase, Event, Did, Saw, Tested, Told, Ended, run_of, run_cases, Good}
use Rattle.pks_terms.specs.Printed.{Text, Names, name_in, term_text, conj_text, truth_text}
use Rattle.pks_terms.specs.Valid.{all_fit, inner_fits, is_term, term_fits, IsValid}
use Rattle.pks_terms.specs.Handed.{IsStepOf, IsTreeOf, IsChainOf}
use Rattle.pks_terms.specs.Answers.{unjustified}
use Rattle.pks_terms.specs.Jobs.{same_text}
use Rattle.pks_terms.specs.Talk.{Talked, Question, Statement, Over, Unfit, talk, talk_from, talk_case, GoesOn, saying, asking, asking_each, first_that, object_named, truth_told, is_short, told_by, do_text, statements, run_statements, argument_answers, world_answers, case_answers}
use Rattle.pks_terms.proofs.Types.{objects_are_of, are_objects_of}
use Rattle.pks_laws.proofs.GoodPlans.{plan_good}
use Rattle.pks_laws.proofs.Grounding.{grounded_of}
use Rattle.pks_laws.proofs.Staying.{still_world}
use Rattle.pks_laws.proofs.TreesOf.{plan_of}
use Rattle.pks_laws.proofs.Validity.{valid_typed}
use Rattle.pks_plan.specs.Naming.{AreNamesOf}
use Rattle.pks_plan.proofs.Words.{same_number, name_among}
use Rattle.pks_exec.specs.Runs.{EndsWith}
use Rattle.pks_exec.proofs.Ending.{plan_ends}
use Rattle.pks_laws.proofs.Accepting.{all_justified}
use Rattle.pks_agent.specs.Along.{AreShort, TellsRun, LeadsAlong}

-- ---- texts

same_itself : (a : Text) → same_text a a ≡ true
same_itself [] = refl
same_itself (x ∷ a) = and_from (x == x) (same_text a a) (eq-eqb x x refl) (same_itself a)

same_is : (a b : Text) → same_text a b ≡ true → a ≡ b
same_is [] [] h = refl
same_is [] (y ∷ b) h = absurd (true≢false (sym h))
same_is (x ∷ a) [] h = absurd (true≢false (sym h))
same_is (x ∷ a) (y ∷ b) h =
    let parts = and_parts (x == y) (same_text a b) h in
    λ i. eqb-true x y parts.0 i ∷ same_is a b parts.1 i

-- the one that passes is found
found_one : {X : Type 0} (p : X → Bool) (xs : List X) (x : X) → IsIn x xs → p x ≡ true → ((y : X) → IsIn y xs → p y ≡ true → y ≡ x) → first_that p xs ≡ Some x
found_one p [] x i h one = absurd i
found_one p (y ∷ xs) x i h one =
    elim (p y) as (λ b. p y ≡ b → cond b (Some y) (first_that p xs) ≡ Some x) [
      | true ↦ λ e. ap Some (one y (inl refl) e)
      | false ↦ λ e. found_one p xs x (behind i e) h (λ z j. one z (inr j))
    ] refl
  where
    behind : IsIn x (y ∷ xs) → p y ≡ false → IsIn x xs
    behind (inl same) e = absurd (true≢false (sym h ∙ (ap p (sym same) ∙ e)))
    behind (inr j) e = j

-- ---- names of values

module _ (p : Problem) (names : Names) (valid : IsValid p) (own : AreNamesOf p names) (short : AreShort names) where
  abbrev s : Signature
  s = p.signature

  object_below : (a d : ℕ) → IsIn d (objects_of s a) → d < length s.objects
  unfolding object_is_of
  object_below a d i =
      elim (slice_get s.objects d) as (λ (o : Option ℕ). slice_get s.objects d ≡ o → option_map_or (λ (own : ℕ). fits_type s own a) o false ≡ true → d < length s.objects) [
        | None ↦ λ e h. absurd (true≢false (sym h))
        | Some own ↦ λ e h. slice_get_within s.objects d own e
      ] refl (objects_are_of s a d i)

  short_name : (d : ℕ) → d < length s.objects → is_short (name_in names.objects d) ≡ true
  short_name d h = each_at names.objects short (name_among names.objects d (omega (arith, h, own.objects.counted)))
    where
      each_at : (all : List Text) → Each (λ name. is_short name ≡ true) all → IsIn (name_in names.objects d) all → is_short (name_in names.objects d) ≡ true
      each_at [] a i = absurd i
      each_at (x ∷ xs) a (inl e) = subst (λ t. is_short t ≡ true) e a.0
      each_at (x ∷ xs) a (inr i) = each_at xs a.1 i

  -- an object is told by its name
  told_object : (range : List ℕ) (d : ℕ) → IsIn d range → ((e : ℕ) → IsIn e range → e < length s.objects) → told_by (object_named names range) (name_in names.objects d) ≡ Some d
  told_object range d i below =
      let name = name_in names.objects d in
      ap (λ b. cond b (object_named names range name) None) (short_name d (below d i))
      ∙ found_one (λ e. same_text (name_in names.objects e) name) range d i (same_itself name) (λ e j h.
      let one : e < length names.objects = omega (arith, below e j, own.objects.counted) in
      let other : d < length names.objects = omega (arith, below d i, own.objects.counted) in
      same_number names.objects e d own.objects.different one other (same_is (name_in names.objects e) name h))

  -- ---- actions

  typed_at : (w : World) (params : List ℕ) (ts : List Inner) → all_fit (inner_fits s []) params (map (λ t. Object (inner_value w t)) ts) ≡ true → (k b : ℕ) → slice_get params k ≡ Some b
      → IsIn (inner_value w (argument (map (λ t. Object (inner_value w t)) ts) k)) (objects_of s b)
  typed_at w [] ts h k b e = absurd (none-some b e)
  typed_at w (a ∷ params) [] h k b e = absurd (true≢false (sym h))
  typed_at w (a ∷ params) (t ∷ ts) h zero b e =
      subst (λ c. IsIn (inner_value w t) (objects_of s c)) (same_Some a b e) (are_objects_of s a (inner_value w t) (and_parts (object_is_of s a (inner_value w t)) _ h).0)
  typed_at w (a ∷ params) (t ∷ ts) h (suc k) b e = typed_at w params ts (and_parts (object_is_of s a (inner_value w t)) _ h).1 k b e

  -- a ground action of the problem leads from a world of the signature to one
  world_after : (w : World) (i : Instance) → IsWorld s w → IsStepOf p i → IsWorld s (after_action p w (grounded w i))
  unfolding after_action
  world_after w i world of =
      let sc = schema_of p i.action in
      still_world s w world sc.parameters (grounded w i).arguments (typed_at w sc.parameters i.arguments (grounded_of p w i world of).arguments) sc.effects (valid_typed p valid i.action)

  -- ---- questions that are answered

  -- the second dialogue is the first behind its questions
  record Comes (talked later : Talked) : Type 0 where
    said : statements talked ≡ statements later
    ends : talked.end ≡ later.end
    left : talked.left ≡ later.left

  past_question : (question : Text) (talked later : Talked) → Comes talked later → Comes (saying (Question question) talked) later
  past_question question talked later c = record { said = c.said; ends = c.ends; left = c.left }

  tells_later : (talked later : Talked) (events : List Event) (left : List Text) → Comes talked later → TellsRun names later events left → TellsRun names talked events left
  tells_later talked later events left c r = record {
    statements = c.said ∙ r.statements;
    ends = (r.ends.0, c.ends ∙ r.ends.1, r.ends.2);
    left = c.left ∙ r.left;
  }

  -- an application has a declared function
  applied : (F : Shape → Bool) (f : ℕ) → option_map_or F (slice_get s.functions f) false ≡ true → (x : Shape) × (slice_get s.functions f ≡ Some x)
  applied F f h =
      elim (slice_get s.functions f) as (λ o. slice_get s.functions f ≡ o → option_map_or F o false ≡ true → (x : Shape) × (slice_get s.functions f ≡ Some x)) [
        | None ↦ λ e k. absurd (true≢false (sym k))
        | Some x ↦ λ e k. (x, e)
      ] refl h

  abbrev values : World → List Inner → List Inner
  values w ts = map (λ t. Object (inner_value w t)) ts

  asked_along : (w : World) → IsWorld s w → (params : List ℕ) (ts : List Inner) → all_fit (inner_fits s []) params ts ≡ true → (go : List Inner → GoesOn) (k : ℕ) (rest : List Text)
      → (next : ℕ) × Comes (asking_each s names ts go k (argument_answers names w ts ++ rest)) (go (values w ts) next rest)
  asked_along w world [] [] h go k rest = (k, record { said = refl; ends = refl; left = refl })
  asked_along w world [] (t ∷ ts) h go k rest = absurd (true≢false (sym h))
  asked_along w world (a ∷ params) [] h go k rest = absurd (true≢false (sym h))
  asked_along w world (a ∷ params) (Object d ∷ ts) h go k rest = asked_along w world params ts (and_parts (inner_fits s [] a (Object d)) _ h).1 (λ us. go (Object d ∷ us)) k rest
  asked_along w world (a ∷ params) (Parameter i ∷ ts) h go k rest = absurd (true≢false (sym h))
  asked_along w world (a ∷ params) (Apply f ds ∷ ts) h go k rest =
      let parts = and_parts (inner_fits s [] a (Apply f ds)) _ h in
      let x = applied (λ x. all_fit (object_is_of s) x.arguments ds && fits_type s x.result a) f parts.0 in
      let range = range_of {A = ℕ} s (Apply f ds) in
      let range_is : range ≡ objects_of s x.0.result = ap (λ o. option_map_or (λ (x : Shape). objects_of s x.result) o []) x.1 in
      let d = inner_value w (Apply f ds) in
      let told = told_object range d (subst (IsIn d) (sym range_is) (world.typed f (map (λ d. d) ds) x.0 x.1)) (λ e j. object_below x.0.result e (subst (IsIn e) range_is j)) in
      let answers = argument_answers names w ts ++ rest in
      let later = asked_along w world params ts parts.1 (λ us. go (Object d ∷ us)) (k + 1) rest in
      let question = codes "value " ++ term_text names (term_of (Apply f ds)) in (
        later.0,
        past_question question _ _
            (subst (λ o. Comes (option_map_or (λ e. asking_each s names ts (λ us. go (Object e ∷ us)) (k + 1) answers) o (record { lines = []; end = Unfit k; left = answers })) (go (values w (Apply f ds ∷ ts)) later.0 rest))
            (sym told) later.1),
      )

  -- ---- the whole dialogue

  ends_later : (x : Ending) (before after : List Event) → EndsWith x after → EndsWith x (before ++ after)
  ends_later x before after e = (before ++ e.0, ap (λ es. before ++ es) e.1 ∙ sym (append_assoc before e.0 (Ended x ∷ [])))

  -- what is seen isn't told
  unseen : (seen : List Seen) (events : List Event) → run_statements names (map Saw seen ++ events) ≡ run_statements names events
  unseen [] events = refl
  unseen (x ∷ seen) events = unseen seen events

  tested : (c : List Literal) (b : Bool) (question : Text) (talked : Talked) (events : List Event) (left : List Text) → TellsRun names talked events left → TellsRun names (saying (Question question) talked) (Tested c b ∷ events) left
  tested c b question talked events left r = record { statements = r.statements; ends = (r.ends.0, r.ends.1, ends_later r.ends.0 (Tested c b ∷ []) events r.ends.2); left = r.left }

  valued : (t : Term) (e : ℕ) (question : Text) (talked : Talked) (events : List Event) (left : List Text) → TellsRun names talked events left → TellsRun names (saying (Question question) talked) (Told t e ∷ events) left
  valued t e question talked events left r = record { statements = r.statements; ends = (r.ends.0, r.ends.1, ends_later r.ends.0 (Told t e ∷ []) events r.ends.2); left = r.left }

  did : (g : Instance) (seen : List Seen) (talked : Talked) (events : List Event) (left : List Text) → TellsRun names talked events left
      → TellsRun names (saying (Statement (do_text names g.action g.arguments)) talked) (Did g ∷ (map Saw seen ++ events)) left
  did g seen talked events left r = record {
    statements = ap (λ xs. do_text names g.action g.arguments ∷ xs) (r.statements ∙ sym (unseen seen events));
    ends = (r.ends.0, r.ends.1, ends_later r.ends.0 (Did g ∷ map Saw seen) events r.ends.2);
    left = r.left;
  }

  -- the value of a term of the signature is one of the objects that may be told, and these are declared
  value_told : (w : World) → IsWorld s w → (t : Term) → is_term s [] t ≡ true → told_by (object_named names (range_of s t)) (name_in names.objects (value_of w t)) ≡ Some (value_of w t)
  unfolding value_of object_is_of term_fits
  value_told w world (Object d) h = told_object (d ∷ []) d (inl refl) (λ e j. only e j (declared (slice_get s.objects d) refl h))
    where
      declared : (o : Option ℕ) → slice_get s.objects d ≡ o → option_map_or (λ own. option_map_or (λ (own' : ℕ). fits_type s own' own) (slice_get s.objects d) false) o false ≡ true → d < length s.objects
      declared None e k = absurd (true≢false (sym k))
      declared (Some own) e k = slice_get_within s.objects d own e

      only : (e : ℕ) → IsIn e (d ∷ []) → d < length s.objects → e < length s.objects
      only e (inl same) h = subst (λ n. n < length s.objects) same h
      only e (inr j) h = absurd j
  value_told w world (Parameter i) h = absurd (true≢false (sym h))
  value_told w world (Apply f ts) h =
      let x = applied (λ x. term_fits s [] x.result (Apply f ts)) f (mapped (slice_get s.functions f) h) in
      let range = range_of {A = Inner} s (Apply f ts) in
      let range_is : range ≡ objects_of s x.0.result = ap (λ o. option_map_or (λ (x : Shape). objects_of s x.result) o []) x.1 in
      let d = w.value f (map (inner_value w) ts) in
      told_object range d (subst (IsIn d) (sym range_is) (world.typed f (map (inner_value w) ts) x.0 x.1)) (λ e j. object_below x.0.result e (subst (IsIn e) range_is j))
    where
      mapped : (o : Option Shape) → option_map_or (λ own. term_fits s [] own (Apply f ts)) (option_map (λ (x : Shape). x.result) o) false ≡ true → option_map_or (λ (x : Shape). term_fits s [] x.result (Apply f ts)) o false ≡ true
      mapped None k = k
      mapped (Some x) k = k

  mutual
    led : (t : Tree) (w : World) → IsTreeOf p t → IsWorld s w → (k : ℕ) (rest : List Text) → TellsRun names (talk_from s names t k (world_answers p names t w ++ rest)) (run_of p t w) rest
    led Goal w of world k rest = record { statements = refl; ends = (AtGoal, refl, ([], refl)); left = refl }
    led Impossible w of world k rest = record { statements = refl; ends = (AtImpossible, refl, ([], refl)); left = refl }
    led (Do i t) w of world k rest =
        let g = grounded w i in
        let v = after_action p w g in
        let more = world_answers p names t v in
        let go : List Inner → GoesOn = λ arguments k answers. saying (Statement (do_text names i.action arguments)) (talk_from s names t k answers) in
        let asked = asked_along w world (schema_of p i.action).parameters i.arguments of.0.arguments go k (more ++ rest) in
        let next = led t v of.1 (world_after w i world of.0) asked.0 rest in
        subst (λ answers. TellsRun names (asking_each s names i.arguments go k answers) (run_of p (Do i t) w) rest) (sym (append_assoc (argument_answers names w i.arguments) more rest))
        (tells_later _ _ (run_of p (Do i t) w) rest asked.1 (did g (observations p v g) (talk_from s names t asked.0 (more ++ rest)) (run_of p t v) rest next))
    led (Branch c t u) w of world k rest =
        let question = codes "test " ++ conj_text names c in
        elim (all_true_in w c) as (λ b. TellsRun names (asking truth_told question (λ truth k answers. cond truth (talk_from s names t k answers) (talk_from s names u k answers)) k
        ((truth_text b ∷ cond b (world_answers p names t w) (world_answers p names u w)) ++ rest)) (Tested c b ∷ cond b (run_of p t w) (run_of p u w)) rest) [
          | true ↦ tested c true question _ (run_of p t w) rest (led t w of.1 world (k + 1) rest)
          | false ↦ tested c false question _ (run_of p u w) rest (led u w of.2 world (k + 1) rest)
        ]
    led (Cases x chain) w of world k rest =
        let e = value_of w x in
        let answers = case_answers p names chain e w ++ rest in
        valued x e (codes "value " ++ term_text names x) _ (run_cases p chain e w) rest
        (subst (λ o. TellsRun names (option_map_or (λ e. talk_case s names chain e (k + 1) answers) o (record { lines = []; end = Unfit k; left = answers })) (run_cases p chain e w) rest) (sym (value_told w world x of.0))
        (led_case chain e w of.1 world (k + 1) rest))

    led_case : (chain : Chain) (e : ℕ) (w : World) → IsChainOf p chain → IsWorld s w → (k : ℕ) (rest : List Text) → TellsRun names (talk_case s names chain e k (case_answers p names chain e w ++ rest)) (run_cases p chain e w) rest
    led_case End e w of world k rest = record { statements = refl; ends = (NoCase, refl, ([], refl)); left = refl }
    led_case (More o t chain) e w of world k rest =
        elim (nat_eq o e) as (λ b. TellsRun names (cond b (talk_from s names t k (cond b (world_answers p names t w) (case_answers p names chain e w) ++ rest)) (talk_case s names chain e k (cond b (world_answers p names t w) (case_answers p names chain e w) ++ rest)))
        (cond b (run_of p t w) (run_cases p chain e w)) rest) [
          | true ↦ led t w of.1 world k rest
          | false ↦ led_case chain e w of.2 world k rest
        ]

  pub leads_along : (t : Tree) (w : World) → IsTreeOf p t → IsWorld s w → LeadsAlong p names t w
  unfolding talk
  leads_along t w of world rest = led t w of world 1 rest

  -- a plan ends at its goal
  at_goal : (x : Ending) (events : List Event) → EndsWith x events → EndsWith AtGoal events → x ≡ AtGoal
  at_goal x events a b = last_one (a.0) (b.0) (sym a.1 ∙ b.1)
    where
      last_one : (before other : List Event) → before ++ Ended x ∷ [] ≡ other ++ Ended AtGoal ∷ [] → x ≡ AtGoal
      last_one [] [] e = cc
      last_one [] (y ∷ []) e = absurd cc
      last_one [] (y ∷ z ∷ other) e = absurd cc
      last_one (y ∷ []) [] e = absurd cc
      last_one (y ∷ z ∷ before) [] e = absurd cc
      last_one (y ∷ before) (z ∷ other) e = let rest : before ++ Ended x ∷ [] ≡ other ++ Ended AtGoal ∷ [] = cc in last_one before other rest

  pub plan_led : (t : Tree) (w : World) → unjustified p ≡ [] → IsPlan p t → IsCompatible p w → LeadsAlong p names t w × Good p t w × ((rest : List Text) → (talk s names t (world_answers p names t w ++ rest)).end ≡ Over AtGoal)
  plan_led t w none plan compatible =
      let along = leads_along t w (plan_of p valid t plan) compatible.world in (
        along,
        plan_good p (all_justified p none) (valid_typed p valid) t plan w compatible,
        λ rest.
            let told = along rest in
            told.ends.1 ∙ ap Over (at_goal told.ends.0 (run_of p t w) told.ends.2 (plan_ends p t w valid none plan compatible)),
      )
