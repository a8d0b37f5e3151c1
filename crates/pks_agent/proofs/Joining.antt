-- Parts of a dialogue, joined.
use Rattle.std.proofs.Common.{◌≡◌, ℕ, suc, ◌+◌, ◌<◌, ◌≤◌, Bool, true, false, cond, List, [], ◌∷◌, ◌++◌, take, drop, length, inl, inr, Option, Some, None, Result, Ok, Err, IfSome, refl, sym, ap, ◌∙◌, subst, arith, append-nil, append_assoc}
use Rattle.std.specs.Prelude.{codes}
use Rattle.std.specs.List.{flat_map}
use Rattle.std.specs.Result.{IsErrAnd}
use Rattle.std.specs.Option.{option_map_or}
use Rattle.std.specs.Io.KnownBytes.{Appends}
use Rattle.std.proofs.Math.Seq.{take-append-add}
use Rattle.std.proofs.lemmas.List.{take-append-le, length-append}
use Rattle.std.proofs.lemmas.Bool.{leb-true, le-leb}
use Rattle.std.proofs.lemmas.Grind.{flat_map-append}
use Rattle.pks_io.specs.Writing.{AppendsFront}
use Rattle.pks_terms.specs.Actions.{Instance}
use Rattle.pks_terms.specs.Signatures.{Signature, range_of}
use Rattle.pks_terms.specs.Syntax.{Object, Parameter, Apply, Inner, Term, Literal}
use Rattle.pks_terms.specs.Trees.{Tree, Do, Branch, Cases, Chain}
use Rattle.pks_terms.specs.Printed.{Text, Names, line, end_text, term_text, conj_text}
use Rattle.pks_terms.specs.Talk.{Talked, Said, Question, Statement, Over, Unfit, Missing, said_text, talked_text, GoesOn, saying, ending, asking, asking_value, asking_each, is_short, told_by, do_text, truth_told, object_named, talk_from, talk_case}
use Rattle.pks_exec.specs.Runs.{ending_of}
use Rattle.pks_exec.specs.declared.runs.End.{End}
use Rattle.pks_agent.specs.declared.peers.PeerFault.{PeerFault}
use Rattle.pks_agent.specs.declared.peers.PeerFault.TheVariants.{Send, Receive}
use Rattle.pks_agent.specs.declared.ends.TalkEnd.{TalkEnd as Stop}
use Rattle.pks_agent.specs.declared.ends.TalkEnd.TheVariants.{Misfit, Silent, Failed}
use Rattle.pks_agent.specs.Bounds.{IsShortLine, asked_in}
use Rattle.pks_agent.specs.Hearing.{Stay, StayBehind, LeavesBehindUnfit, HasPeerCause, IsServed}
use Rattle.pks_agent.specs.Leading.{BreaksOff, Led, IsSafe, TalkServed, Moment, IsLed, LeadsOn, EndsIn, Leads, each_behind, stating, doing}
use Rattle.pks_agent.specs.Asking.{Answered, IsAsked}
use Rattle.pks_agent.specs.Rooms.{IsSpoken, argument_count}
use Rattle.pks_agent.proofs.Causing.{cause_behind, cause_ends, cause_unfit, cause_well, cause_failed, cause_still}

-- ---- texts

pub appends_more : (old mid new : Option Text) (xs ys : Text) → Appends old mid xs → Appends mid new ys → Appends old new (xs ++ ys)
appends_more None mid new xs ys a b = tt
appends_more (Some o) None new xs ys a b = absurd a
appends_more (Some o) (Some m) None xs ys a b = absurd b
appends_more (Some o) (Some m) (Some n) xs ys a b = b ∙ ap (λ (l : Text). l ++ ys) a ∙ append_assoc o xs ys

appends_none : (old : Option Text) → Appends old old []
appends_none None = tt
appends_none (Some o) = sym (append-nil o)

pub front_behind : (old mid new : Option Text) (xs ys : Text) → Appends old mid xs → AppendsFront mid new ys → AppendsFront old new (xs ++ ys)
front_behind old mid new xs ys a (n, few, b) = (
  length xs + n,
  omega (arith, few, length-append xs ys),
  subst (Appends old new) (sym (take-append-add xs ys n)) (appends_more old mid new xs (take n ys) a b),
)

pub front_first : (old new : Option Text) (xs ys : Text) → AppendsFront old new xs → AppendsFront old new (xs ++ ys)
front_first old new xs ys (n, few, a) = (
  n,
  omega (arith, few, length-append xs ys),
  subst (Appends old new) (sym (take-append-le n xs ys few)) a,
)

-- ---- one line, and what is led behind it

-- the line asks for the answers that come first, and for no others
abbrev Asks : Said → List Text → List Text → Type 0
Asks said first rest = (lines : List Said) → drop (asked_in (said ∷ lines)) (first ++ rest) ≡ drop (asked_in lines) rest

question_asks : (question next : Text) (rest : List Text) → Asks (Question question) (next ∷ []) rest
question_asks question next rest lines = let one : 1 + asked_in lines ≡ suc (asked_in lines) = omega arith in ap (λ n. drop n (next ∷ rest)) one

module _ (old mid new : Option Text) (first rest : List Text) (left : Option (List Text)) where
  led_behind : (result : Result End Stop) (said : Said) (talked : Talked) → Asks said first rest → Appends old mid (line (said_text said)) → Led mid new rest left result talked → Led old new (first ++ rest) left result (saying said talked)
  led_behind (Ok end) said talked asks a led = (led.0, appends_more old mid new (line (said_text said)) (talked_text talked) a led.1, led.2)
  led_behind (Err (Misfit k)) said talked asks a led =
      let (given, unfit, all, ends) = led.2 in
      (led.0, appends_more old mid new (line (said_text said)) (talked_text talked) a led.1, (first ++ given, unfit, ap (λ (l : List Text). first ++ l) all ∙ sym (append_assoc first given (unfit ∷ talked.left)), ends))
  led_behind (Err (Silent k)) said talked asks a led = (led.0, appends_more old mid new (line (said_text said)) (talked_text talked) a led.1, led.2)
  led_behind (Err (Failed Send)) said talked asks a led = record {
    before = said ∷ led.before;
    said = led.said;
    after = led.after;
    lines = ap (λ (l : List Said). said ∷ l) led.lines;
    mid = led.mid;
    whole = appends_more old mid led.mid (line (said_text said)) (flat_map (λ x. line (said_text x)) led.before) a led.whole;
    front = led.front;
    stay = led.stay ∙ ap (λ l. Some l) (sym (asks led.before));
  }
  led_behind (Err (Failed Receive)) said talked asks a led = front_behind old mid new (line (said_text said)) (talked_text talked) a led

-- what was said before the fault is a front of all lines
pub front_broken : (old new : Option Text) (answers : List Text) (left : Option (List Text)) (talked : Talked) → BreaksOff old new answers left talked → AppendsFront old new (talked_text talked)
front_broken old new answers left talked b =
    let told = flat_map (λ x. line (said_text x)) b.before in
    let last = line (said_text b.said) in
    let behind = flat_map (λ x. line (said_text x)) b.after in
    let all : talked_text talked ≡ (told ++ last) ++ behind = ap (flat_map (λ x. line (said_text x))) b.lines ∙ flat_map-append (λ x. line (said_text x)) b.before (b.said ∷ b.after) ∙ sym (append_assoc told last behind) in
    subst (AppendsFront old new) (sym all) (front_first old new (told ++ last) behind (front_behind old b.mid new told last b.whole b.front))

-- at this line
led_first : (old new : Option Text) (answers : List Text) (left : Option (List Text)) (fault : PeerFault) (said : Said) (talked : Talked) → AppendsFront old new (line (said_text said)) → StayBehind fault answers left → Led old new answers left (Err (Failed fault)) (saying said talked)
led_first old new answers left Send said talked front stay = record { before = []; said = said; after = talked.lines; lines = refl; mid = old; whole = appends_none old; front = front; stay = stay }
led_first old new answers left Receive said talked front stay = front_first old new (line (said_text said)) (talked_text talked) front

-- one call fewer is left, and one line more
safe_behind : (sure sure' : ℕ) (result : Result End Stop) (said : Said) (talked : Talked) → sure ≤ sure' + 1 → IsSafe sure' result talked → IsSafe sure result (saying said talked)
safe_behind sure sure' (Ok end) said talked fewer safe = tt
safe_behind sure sure' (Err (Misfit k)) said talked fewer safe = tt
safe_behind sure sure' (Err (Silent k)) said talked fewer safe = tt
safe_behind sure sure' (Err (Failed fault)) said talked fewer safe = λ each. let more = safe each.1 in omega (arith, fewer, more)

-- the call for the line failed
safe_first : (sure : ℕ) (fault : PeerFault) (said : Said) (talked : Talked) → (IsShortLine (said_text said) → sure ≡ 0) → IsSafe sure (Err (Failed fault)) (saying said talked)
safe_first sure fault said talked none = λ each. let zero_left = none each.0 in omega (arith, zero_left)

-- ---- results

-- what is so of this error is so of the result that has it
pub so_of_error : {A B : Type 0} (P : Result A B → Type 0) (result : Result A B) (error : B) → IsErrAnd result (λ e. e ≡ error) → P (Err error) → P result
so_of_error P (Ok x) error is so = absurd is
so_of_error P (Err e) error is so = subst (λ x. P (Err x)) (sym is) so

-- ---- a question

not_short : (answer : Text) → 64 < length answer → is_short answer ≡ false
not_short answer h = by_test (is_short answer) refl
  where
    by_test : (b : Bool) → is_short answer ≡ b → is_short answer ≡ false
    by_test true e = let few : length answer ≤ 64 = leb-true (length answer) 64 e in absurd (omega (arith, few, h))
    by_test false e = e

module _ {Y : Type 0} (reads : Text → Option Y) (question : Text) (k : ℕ) (m m' : Moment) where
  told_fit : (answer next : Text) → answer ≡ next → length answer ≤ 64 → told_by reads next ≡ reads answer
  told_fit answer next e few = subst (λ t. told_by reads t ≡ reads answer) e (ap (λ b. cond b (reads answer) None) (le-leb (length answer) 64 few))

  -- its answer is fit
  pub asked_on : {X : Type 0} (answer : Text) (x : X) (y : Y) → IsAsked {X = X} m m' question k answer (Ok x) → length answer ≤ 64 → reads answer ≡ Some y → LeadsOn (asking reads question) k (k + 1) y m m'
  asked_on {X = X} answer x y a few fit go m'' result behind = record {
    led = on m.answers a.answered;
    safe = safely m.answers a.answered;
    cause = cause_behind m.sends m'.sends m''.sends m.receipts m'.receipts m''.receipts x result a.cause behind.cause;
    kept = behind.kept ∙ a.kept;
  }
    where
      on : (before : Option (List Text)) → IfSome before (Answered {X = X} m m' question k answer (Ok x)) → IfSome before (λ answers. Led m.said m''.said answers m''.answers result (asking reads question go k answers))
      on None h = tt
      on (Some []) h = absurd h
      on (Some (next ∷ rest)) h =
          let next_led : Led m'.said m''.said rest m''.answers result (go y (k + 1) rest) = subst (λ o. IfSome o (λ answers. Led m'.said m''.said answers m''.answers result (go y (k + 1) answers))) h.2 behind.led in
          subst (λ o. Led m.said m''.said (next ∷ rest) m''.answers result (saying (Question question) (option_map_or (λ x. go x (k + 1) rest) o (record { lines = []; end = Unfit k; left = rest }))))
          (sym (told_fit answer next h.0 few ∙ fit))
          (led_behind m.said m'.said m''.said (next ∷ []) rest m''.answers result (Question question) (go y (k + 1) rest) (question_asks question next rest) h.1 next_led)

      safely : (before : Option (List Text)) → IfSome before (Answered {X = X} m m' question k answer (Ok x)) → IfSome before (λ answers. IsSafe m.sure result (asking reads question go k answers))
      safely None h = tt
      safely (Some []) h = absurd h
      safely (Some (next ∷ rest)) h =
          let next_safe : IsSafe m'.sure result (go y (k + 1) rest) = subst (λ o. IfSome o (λ answers. IsSafe m'.sure result (go y (k + 1) answers))) h.2 behind.safe in
          subst (λ o. IsSafe m.sure result (saying (Question question) (option_map_or (λ x. go x (k + 1) rest) o (record { lines = []; end = Unfit k; left = rest }))))
          (sym (told_fit answer next h.0 few ∙ fit))
          (safe_behind m.sure m'.sure result (Question question) (go y (k + 1) rest) a.served next_safe)

  unfit_led : (go : Y → GoesOn) (next : Text) (rest : List Text) → Appends m.said m'.said (line question) → told_by reads next ≡ None → LeavesBehindUnfit next rest m'.answers → Led m.said m'.said (next ∷ rest) m'.answers (Err (Misfit k)) (asking reads question go k (next ∷ rest))
  unfit_led go next rest said none ends =
      subst (λ o. Led m.said m'.said (next ∷ rest) m'.answers (Err (Misfit k)) (saying (Question question) (option_map_or (λ x. go x (k + 1) rest) o (record { lines = []; end = Unfit k; left = rest }))))
      (sym none)
      (refl, appends_more m.said m'.said m'.said (line question) [] said (appends_none m'.said), ([], next, refl, ends))

  -- its answer was taken and isn't fit
  pub asked_unfit : {X : Type 0} (answer : Text) (x : X) → IsAsked {X = X} m m' question k answer (Ok x) → length answer ≤ 64 → reads answer ≡ None → EndsIn (asking reads question) k (Misfit k) m m'
  asked_unfit {X = X} answer x a few none go = record {
    led = ends m.answers a.answered;
    safe = all_some m.answers;
    cause = cause_unfit m.sends m'.sends m.receipts m'.receipts x k a.cause;
    kept = a.kept;
  }
    where
      ends : (before : Option (List Text)) → IfSome before (Answered {X = X} m m' question k answer (Ok x)) → IfSome before (λ answers. Led m.said m'.said answers m'.answers (Err (Misfit k)) (asking reads question go k answers))
      ends None h = tt
      ends (Some []) h = absurd h
      ends (Some (next ∷ rest)) h = unfit_led go next rest h.1 (told_fit answer next h.0 few ∙ none) (inl h.2)

      all_some : (before : Option (List Text)) → IfSome before (λ answers. Unit {0})
      all_some None = tt
      all_some (Some answers) = tt

  -- a question begins with its line
  opens : (go : Y → GoesOn) (answers : List Text) → (talked : Talked) × (asking reads question go k answers ≡ saying (Question question) talked)
  opens go [] = (record { lines = []; end = Missing k; left = [] }, refl)
  opens go (next ∷ rest) = (option_map_or (λ x. go x (k + 1) rest) (told_by reads next) (record { lines = []; end = Unfit k; left = rest }), refl)

  -- the dialogue ends with it
  pub asked_ends : {X : Type 0} (answer : Text) (end : Stop) → IsAsked {X = X} m m' question k answer (Err end) → EndsIn (asking reads question) k end m m'
  asked_ends {X = X} answer end a go = record {
    led = ends m.answers end a.answered;
    safe = safely m.answers end a.served;
    cause = cause_ends m.sends m'.sends m.receipts m'.receipts end a.cause;
    kept = a.kept;
  }
    where
      ends : (before : Option (List Text)) (end : Stop) → IfSome before (Answered {X = X} m m' question k answer (Err end)) → IfSome before (λ answers. Led m.said m'.said answers m'.answers (Err end) (asking reads question go k answers))
      ends None end h = tt
      ends (Some []) (Misfit j) h = absurd h
      ends (Some (next ∷ rest)) (Misfit j) h =
          subst (λ n. Led m.said m'.said (next ∷ rest) m'.answers (Err (Misfit n)) (asking reads question go k (next ∷ rest))) (sym h.0)
          (unfit_led go next rest h.2 (ap (λ b. cond b (reads next) None) (not_short next h.1)) (inr (h.1, h.3)))
      ends (Some []) (Silent j) h = (ap Missing (sym h.0), appends_more m.said m'.said m'.said (line question) [] h.1 (appends_none m'.said), h.2)
      ends (Some (next ∷ rest)) (Silent j) h = absurd h
      ends (Some answers) (Failed fault) h =
          let asked = opens go answers in
          subst (Led m.said m'.said answers m'.answers (Err (Failed fault))) (sym asked.1) (led_first m.said m'.said answers m'.answers fault (Question question) asked.0 h.0 h.1)

      safely : (before : Option (List Text)) (end : Stop) → TalkServed {X = X} m.sure m'.sure question (Err end) → IfSome before (λ answers. IsSafe m.sure (Err end) (asking reads question go k answers))
      safely None end served = tt
      safely (Some answers) (Misfit j) served = tt
      safely (Some answers) (Silent j) served = tt
      safely (Some answers) (Failed fault) served =
          let asked = opens go answers in
          subst (IsSafe m.sure (Err (Failed fault))) (sym asked.1) (safe_first m.sure fault (Question question) asked.0 served)

-- ---- the arguments of an action

-- how many ask for a value
pub count_more : (t : Inner) (ts : List Inner) → argument_count (t ∷ ts) ≡ argument_count (t ∷ []) + argument_count ts
count_more (Object d) ts = let e : argument_count ts ≡ 0 + argument_count ts = omega arith in e
count_more (Parameter i) ts = let e : argument_count ts ≡ 0 + argument_count ts = omega arith in e
count_more (Apply f ds) ts = let e : 1 + argument_count ts ≡ 1 + 0 + argument_count ts = omega arith in e

module _ (s : Signature) (names : Names) where
  -- none is left
  pub none_left : (before : List Inner) (k : ℕ) (m : Moment) → LeadsOn (each_behind s names before []) k (k + 0) before m m
  none_left before k m go m'' result led =
      let zero_more : k + 0 ≡ k = omega arith in
      subst (λ us. IsLed m m'' result (go us k)) (sym (append-nil before)) (subst (λ n. IsLed m m'' result (go before n)) zero_more led)

  -- one, and then the others
  one_by_one : (before : List Inner) (t : Inner) (ts : List Inner) (go : List Inner → GoesOn) → asking_each s names (t ∷ []) (λ us. asking_each s names ts (λ vs. go ((before ++ us) ++ vs))) ≡ asking_each s names (t ∷ ts) (λ us. go (before ++ us))
  one_by_one before (Object d) ts go = λ i. asking_each s names ts (λ vs. go (append_assoc before (Object d ∷ []) vs i))
  one_by_one before (Parameter j) ts go = λ i. asking_each s names ts (λ vs. go (append_assoc before (Parameter j ∷ []) vs i))
  one_by_one before (Apply f ds) ts go = λ i. asking_value s names (Apply f ds) (λ d. asking_each s names ts (λ vs. go (append_assoc before (Object d ∷ []) vs i)))

  pub more_on : {X : Type 0} (told : X → List Inner) (before : List Inner) (t : Inner) (ts us : List Inner) (k n next : ℕ) (result : Result X Stop) (m m' m'' : Moment)
      → LeadsOn (each_behind s names before (t ∷ [])) k n us m m' → Leads told (each_behind s names us ts) n next result m' m'' → Leads told (each_behind s names before (t ∷ ts)) k next result m m''
  more_on told before t ts us k n next (Ok x) m m' m'' first rest =
      λ go m3 end led. subst (λ (on : GoesOn). IsLed m m3 end (on k)) (one_by_one before t ts go) (first (λ vs. each_behind s names vs ts go) m3 end (rest go m3 end led))
  more_on told before t ts us k n next (Err stop) m m' m'' first rest =
      λ go. subst (λ (on : GoesOn). IsLed m m'' (Err stop) (on k)) (one_by_one before t ts go) (first (λ vs. each_behind s names vs ts go) m'' (Err stop) (rest go))

  -- all that are left are one and the others
  pub all_on : {X : Type 0} (told : X → List Inner) (before all : List Inner) (t : Inner) (ts us : List Inner) (k n : ℕ) (result : Result X Stop) (m m' m'' : Moment) → all ≡ t ∷ ts → n ≡ k + argument_count (t ∷ [])
      → LeadsOn (each_behind s names before (t ∷ [])) k (k + argument_count (t ∷ [])) us m m' → Leads told (each_behind s names us ts) n (n + argument_count ts) result m' m'' → Leads told (each_behind s names before all) k (k + argument_count all) result m m''
  all_on told before all t ts us k n result m m' m'' is next first rest =
      let more : argument_count (t ∷ ts) ≡ argument_count (t ∷ []) + argument_count ts = count_more t ts in
      let sum : n + argument_count ts ≡ k + argument_count (t ∷ ts) = omega (arith, next, more) in
      subst (λ all. Leads told (each_behind s names before all) k (k + argument_count all) result m m'') (sym is)
      (more_on told before t ts us k n (k + argument_count (t ∷ ts)) result m m' m''
      (subst (λ j. LeadsOn (each_behind s names before (t ∷ [])) k j us m m') (sym next) first)
      (subst (λ j. Leads told (each_behind s names us ts) n j result m' m'') sum rest))

  pub more_ends : (before : List Inner) (t : Inner) (ts : List Inner) (k : ℕ) (stop : Stop) (m m' : Moment) → EndsIn (each_behind s names before (t ∷ [])) k stop m m' → EndsIn (each_behind s names before (t ∷ ts)) k stop m m'
  more_ends before t ts k stop m m' first = λ go. subst (λ (on : GoesOn). IsLed m m' (Err stop) (on k)) (one_by_one before t ts go) (first (λ vs. each_behind s names vs ts go))

  -- an argument that isn't asked for
  pub spoken_on : (before : List Inner) (t : Inner) (k : ℕ) (m : Moment) → IsSpoken t → LeadsOn (each_behind s names before (t ∷ [])) k (k + argument_count (t ∷ [])) (before ++ t ∷ []) m m
  spoken_on before (Object d) k m spoken = λ go m'' result led. let zero_more : k + 0 ≡ k = omega arith in subst (λ n. IsLed m m'' result (go (before ++ Object d ∷ []) n)) zero_more led
  spoken_on before (Parameter j) k m spoken = λ go m'' result led. let zero_more : k + 0 ≡ k = omega arith in subst (λ n. IsLed m m'' result (go (before ++ Parameter j ∷ []) n)) zero_more led
  spoken_on before (Apply f ds) k m spoken = absurd spoken

  -- one whose value was told, and one at whose question the dialogue ends
  pub value_on : (before : List Inner) (f : ℕ) (ds : List ℕ) (d k : ℕ) (m m' : Moment) → LeadsOn (asking_value s names (Apply f ds)) k (k + 1) d m m' → LeadsOn (each_behind s names before (Apply f ds ∷ [])) k (k + 1) (before ++ Object d ∷ []) m m'
  value_on before f ds d k m m' first = λ go m3 end led. first (λ e. go (before ++ Object e ∷ [])) m3 end led

  pub value_ends : (before : List Inner) (f : ℕ) (ds : List ℕ) (k : ℕ) (stop : Stop) (m m' : Moment) → EndsIn (asking_value s names (Apply f ds)) k stop m m' → EndsIn (each_behind s names before (Apply f ds ∷ [])) k stop m m'
  value_ends before f ds k stop m m' first = λ go. first (λ e. go (before ++ Object e ∷ []))

  -- ---- an action, told behind its questions

  pub done_on : (i : Instance) (us : List Inner) (k next : ℕ) (m m' m'' : Moment) → LeadsOn (each_behind s names [] i.arguments) k next us m m' → LeadsOn {Y = Unit {0}} (λ go. stating (do_text names i.action us) (go tt)) next next tt m' m''
      → LeadsOn {Y = Unit {0}} (λ go. doing s names i (go tt)) k next tt m m''
  done_on i us k next m m' m'' each told go m3 result led = each (λ arguments. stating (do_text names i.action arguments) (go tt)) m3 result (told go m3 result led)

  pub done_untold : (i : Instance) (us : List Inner) (k next : ℕ) (end : Stop) (m m' m'' : Moment) → LeadsOn (each_behind s names [] i.arguments) k next us m m' → EndsIn {Y = Unit {0}} (λ go. stating (do_text names i.action us) (go tt)) next end m' m''
      → EndsIn {Y = Unit {0}} (λ go. doing s names i (go tt)) k end m m''
  done_untold i us k next end m m' m'' each told go = each (λ arguments. stating (do_text names i.action arguments) (go tt)) m'' (Err end) (told go)

  pub done_unasked : (i : Instance) (k : ℕ) (end : Stop) (m m' : Moment) → EndsIn (each_behind s names [] i.arguments) k end m m' → EndsIn {Y = Unit {0}} (λ go. doing s names i (go tt)) k end m m'
  done_unasked i k end m m' each go = each (λ arguments. stating (do_text names i.action arguments) (go tt))

-- ---- a line that asks for no answer

module _ (m m' : Moment) (text : Text) (k : ℕ) where
  pub told_on : {X : Type 0} (x : X) → HasPeerCause {X = X} m.sends m'.sends m.receipts m'.receipts (Ok x) → Appends m.said m'.said (line text) → Stay m.answers m'.answers → IsServed {X = X} m.sure m'.sure text (Ok x) → m'.kept ≡ m.kept → LeadsOn {Y = Unit {0}} (λ go. stating text (go tt)) k k tt m m'
  told_on x cause said stay served same go m'' result behind = record {
    led = on m.answers stay;
    safe = safely m.answers stay;
    cause = cause_behind m.sends m'.sends m''.sends m.receipts m'.receipts m''.receipts (tt {0}) result (cause_well m.sends m'.sends m.receipts m'.receipts x (tt {0}) cause) behind.cause;
    kept = behind.kept ∙ same;
  }
    where
      on : (before : Option (List Text)) → Stay before m'.answers → IfSome before (λ answers. Led m.said m''.said answers m''.answers result (stating text (go tt) k answers))
      on None s = tt
      on (Some answers) s = led_behind m.said m'.said m''.said [] answers m''.answers result (Statement text) (go tt k answers) (λ lines. refl) said (subst (λ o. IfSome o (λ answers. Led m'.said m''.said answers m''.answers result (go tt k answers))) s behind.led)

      safely : (before : Option (List Text)) → Stay before m'.answers → IfSome before (λ answers. IsSafe m.sure result (stating text (go tt) k answers))
      safely None s = tt
      safely (Some answers) s = safe_behind m.sure m'.sure result (Statement text) (go tt k answers) served.well (subst (λ o. IfSome o (λ answers. IsSafe m'.sure result (go tt k answers))) s behind.safe)

  pub told_ends : {X : Type 0} (fault : PeerFault) → HasPeerCause {X = X} m.sends m'.sends m.receipts m'.receipts (Err fault) → AppendsFront m.said m'.said (line text) → Stay m.answers m'.answers → IsServed {X = X} m.sure m'.sure text (Err fault) → m'.kept ≡ m.kept → EndsIn {Y = Unit {0}} (λ go. stating text (go tt)) k (Failed fault) m m'
  told_ends fault cause said stay served same go = record {
    led = ends m.answers stay;
    safe = safely m.answers;
    cause = cause_failed m.sends m'.sends m.receipts m'.receipts fault cause;
    kept = same;
  }
    where
      stays : (fault : PeerFault) (answers : List Text) → m'.answers ≡ Some answers → StayBehind fault answers m'.answers
      stays Send answers s = s
      stays Receive answers s = tt

      ends : (before : Option (List Text)) → Stay before m'.answers → IfSome before (λ answers. Led m.said m'.said answers m'.answers (Err (Failed fault)) (stating text (go tt) k answers))
      ends None s = tt
      ends (Some answers) s = led_first m.said m'.said answers m'.answers fault (Statement text) (go tt k answers) said (stays fault answers s)

      safely : (before : Option (List Text)) → IfSome before (λ answers. IsSafe m.sure (Err (Failed fault)) (stating text (go tt) k answers))
      safely None = tt
      safely (Some answers) = safe_first m.sure fault (Statement text) (go tt k answers) served.failed

-- the last line
module _ (end : End) (k : ℕ) (m m' : Moment) where
  abbrev over : Unit {0} → GoesOn
  over u k answers = record { lines = []; end = Over (ending_of end); left = answers }

  over_led : IsLed m' m' (Ok end) (over tt k)
  over_led = record {
    led = still m'.answers;
    safe = safely m'.answers;
    cause = cause_still m'.sends m'.receipts end;
    kept = refl;
  }
    where
      still : (now : Option (List Text)) → IfSome now (λ answers. Led m'.said m'.said answers now (Ok end) (over tt k answers))
      still None = tt
      still (Some answers) = (refl, appends_none m'.said, refl)

      safely : (now : Option (List Text)) → IfSome now (λ answers. Unit {0})
      safely None = tt
      safely (Some answers) = tt

  pub ended_on : LeadsOn {Y = Unit {0}} (λ go. stating (end_text (ending_of end)) (go tt)) k k tt m m' → IsLed m m' (Ok end) (ending (ending_of end))
  ended_on told = told over m' (Ok end) over_led

  pub ended_untold : (stop : Stop) → EndsIn {Y = Unit {0}} (λ go. stating (end_text (ending_of end)) (go tt)) k stop m m' → IsLed m m' (Err stop) (ending (ending_of end))
  ended_untold stop told = told over

-- ---- nodes of a tree

module _ (s : Signature) (names : Names) where
  pub act_on : (i : Instance) (t : Tree) (k n asked : ℕ) (m m' m'' : Moment) (result : Result End Stop) → LeadsOn {Y = Unit {0}} (λ go. doing s names i (go tt)) k n tt m m' → asked ≡ n
      → IsLed m' m'' result (talk_from s names t asked) → IsLed m m'' result (talk_from s names (Do i t) k)
  act_on i t k n asked m m' m'' result leads same led = leads (λ u. talk_from s names t) m'' result (subst (λ j. IsLed m' m'' result (talk_from s names t j)) same led)

  pub act_ends : (i : Instance) (t : Tree) (k : ℕ) (stop : Stop) (m m' : Moment) → EndsIn {Y = Unit {0}} (λ go. doing s names i (go tt)) k stop m m' → IsLed m m' (Err stop) (talk_from s names (Do i t) k)
  act_ends i t k stop m m' ends = ends (λ u. talk_from s names t)

  module _ (c : List Literal) (t u : Tree) (k : ℕ) (question : Text) (is : question ≡ codes "test " ++ conj_text names c) (m m' : Moment) where
    abbrev by_truth : Bool → GoesOn
    by_truth truth k answers = cond truth (talk_from s names t k answers) (talk_from s names u k answers)

    pub branch_true : (b : Bool) (m'' : Moment) (result : Result End Stop) → b ≡ true → LeadsOn (asking truth_told question) k (k + 1) b m m' → IsLed m' m'' result (talk_from s names t (k + 1)) → IsLed m m'' result (talk_from s names (Branch c t u) k)
    branch_true b m'' result so leads led =
        subst (λ text. LeadsOn (asking truth_told text) k (k + 1) true m m') is (subst (λ b. LeadsOn (asking truth_told question) k (k + 1) b m m') so leads) by_truth m'' result led

    pub branch_false : (b : Bool) (m'' : Moment) (result : Result End Stop) → b ≡ false → LeadsOn (asking truth_told question) k (k + 1) b m m' → IsLed m' m'' result (talk_from s names u (k + 1)) → IsLed m m'' result (talk_from s names (Branch c t u) k)
    branch_false b m'' result so leads led =
        subst (λ text. LeadsOn (asking truth_told text) k (k + 1) false m m') is (subst (λ b. LeadsOn (asking truth_told question) k (k + 1) b m m') so leads) by_truth m'' result led

    pub branch_ends : (stop : Stop) → EndsIn (asking truth_told question) k stop m m' → IsLed m m' (Err stop) (talk_from s names (Branch c t u) k)
    branch_ends stop ends = subst (λ text. EndsIn (asking truth_told text) k stop m m') is ends by_truth

  module _ (x : Term) (chain : Chain) (k : ℕ) (question : Text) (is : question ≡ codes "value " ++ term_text names x) (m m' : Moment) where
    pub cases_on : (e : ℕ) (m'' : Moment) (result : Result End Stop) → LeadsOn (asking (object_named names (range_of s x)) question) k (k + 1) e m m' → IsLed m' m'' result (talk_case s names chain e (k + 1)) → IsLed m m'' result (talk_from s names (Cases x chain) k)
    cases_on e m'' result leads led = subst (λ text. LeadsOn (asking (object_named names (range_of s x)) text) k (k + 1) e m m') is leads (λ e. talk_case s names chain e) m'' result led

    pub cases_end : (stop : Stop) → EndsIn (asking (object_named names (range_of s x)) question) k stop m m' → IsLed m m' (Err stop) (talk_from s names (Cases x chain) k)
    cases_end stop ends = subst (λ text. EndsIn (asking (object_named names (range_of s x)) text) k stop m m') is ends (λ e. talk_case s names chain e)
