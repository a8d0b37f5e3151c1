-- The dialogue that leads a caller through a plan by its answers.
use Rattle.std.specs.Prelude.{ℕ, ◌+◌, Bool, true, false, ◌≡◌, nat_eq, nat_le, List, [], ◌∷◌, ◌++◌, length, Option, Some, None, codes, option_map, if◌then◌else◌}
use Rattle.std.specs.List.{filter, filter_map, flat_map}
use Rattle.std.specs.Option.{option_map_or}
use Rattle.pks_terms.specs.declared.codes.TheConstants.{ANSWER_MISSING, ANSWER_UNFIT}
use Rattle.pks_terms.specs.Syntax.{Object, Parameter, Apply, Inner, term_of}
use Rattle.pks_terms.specs.Signatures.{Signature, range_of}
use Rattle.pks_terms.specs.Worlds.{World, inner_value, value_of, all_true_in}
use Rattle.pks_terms.specs.Problems.{Problem}
use Rattle.pks_terms.specs.Trees.{Tree, Goal, Impossible, Do, Branch, Cases, Chain, End, More}
use Rattle.pks_terms.specs.Knowledge.{grounded, after_action, Ending, AtGoal, AtImpossible, NoCase, Event, Did, Saw, Tested, Told, Ended}
use Rattle.pks_terms.specs.Printed.{Text, Names, Refusal, name_in, line, term_text, conj_text, instance_text, truth_text, end_text, event_text}
use Rattle.pks_terms.specs.Jobs.{same_text}

-- ---- the input of a dialogue

-- a byte put before the first of the lines
abbrev pub with_byte : ℕ → List Text → List Text
with_byte b [] = (b ∷ []) ∷ []
with_byte b (first ∷ rest) = (b ∷ first) ∷ rest

-- the lines of a text: each is what stands before the next line feed, and the last one what stands behind the last line feed, if that isn't empty
abbrev pub lines_of : Text → List Text
lines_of [] = []
lines_of (b ∷ text) = if nat_eq b 10 then [] ∷ lines_of text else with_byte b (lines_of text)

-- the lines before the first that is a full stop alone, and the lines behind it, if there is such a line
abbrev pub cut : List Text → Option (List Text × List Text)
cut [] = None
cut (text ∷ rest) = if same_text text (codes ".") then Some ([], rest) else option_map (λ parts. (text ∷ parts.0, parts.1)) (cut rest)

-- the lines up to the full stop, or the whole input
unfoldable pub file_text : Text → Text
file_text input = option_map_or (λ parts. flat_map line parts.0) (cut (lines_of input)) input

-- the lines behind the full stop
unfoldable pub answers_in : Text → List Text
answers_in input = option_map_or (λ parts. parts.1) (cut (lines_of input)) []

-- how many line feeds a text has
abbrev pub line_feeds : Text → ℕ
line_feeds input = length (filter (λ b. nat_eq b 10) input)

-- the number of the line that is a full stop, counted from 1; without one, that of the line on which the input ends
unfoldable pub stop_line : Text → ℕ
stop_line input = option_map_or (λ parts. length parts.0) (cut (lines_of input)) (line_feeds input) + 1

-- ---- fit answers

-- an answer has at most 64 bytes
abbrev pub is_short : Text → Bool
is_short answer = nat_le (length answer) 64

-- the first that passes
abbrev pub first_that : {X : Type 0} → (X → Bool) → List X → Option X
first_that p [] = None
first_that p (x ∷ xs) = if p x then Some x else first_that p xs

-- the object of these that the answer names
abbrev pub object_named : Names → List ℕ → Text → Option ℕ
object_named names objects answer = first_that (λ d. same_text (name_in names.objects d) answer) objects

-- the truth that the answer tells
abbrev pub truth_told : Text → Option Bool
truth_told answer = if same_text answer (codes "true") then Some true else if same_text answer (codes "false") then Some false else None

-- what a short answer tells, and of a longer one nothing
abbrev pub told_by : {X : Type 0} → (Text → Option X) → Text → Option X
told_by reads answer = if is_short answer then reads answer else None

-- ---- the walk

-- how a dialogue ends: as a run does; or since the answer with this number, counted from 1, isn't fit or is missing
pub data TalkEnd : Type 0 where
  Over : Ending → TalkEnd
  Unfit : ℕ → TalkEnd
  Missing : ℕ → TalkEnd

-- a line that asks for an answer, or one that asks for none
pub data Said : Type 0 where
  Question : Text → Said
  Statement : Text → Said

-- what was said, how it ended, and the answers that weren't taken
pub record Talked : Type 0 where
  pub lines : List Said
  pub end : TalkEnd
  pub left : List Text

-- a dialogue goes on with the number of the next answer, and the answers from that one on
abbrev pub GoesOn : Type 0
GoesOn = ℕ → List Text → Talked

-- a line is said, and then the rest
abbrev pub saying : Said → Talked → Talked
saying said talked = record talked { lines = said ∷ talked.lines }

-- it is over
abbrev pub ending : Ending → List Text → Talked
ending end answers = record { lines = Statement (end_text end) ∷ []; end = Over end; left = answers }

-- a question is asked, its answer is taken, and it goes on with what a fit one tells
abbrev pub asking : {X : Type 0} → (Text → Option X) → Text → (X → GoesOn) → ℕ → List Text → Talked
asking reads question go k [] = record { lines = Question question ∷ []; end = Missing k; left = [] }
asking reads question go k (answer ∷ answers) =
    saying (Question question) (option_map_or (λ x. go x (k + 1) answers) (told_by reads answer) (record { lines = []; end = Unfit k; left = answers }))

-- the value of a term is asked, which is one of the objects of its type
abbrev pub asking_value : Signature → Names → Inner → (ℕ → GoesOn) → GoesOn
asking_value s names t go = asking (object_named names (range_of s t)) (codes "value " ++ term_text names (term_of t)) go

-- the value of each argument that is an application is asked, in order
abbrev pub asking_each : Signature → Names → List Inner → (List Inner → GoesOn) → GoesOn
asking_each s names [] go = go []
asking_each s names (Object d ∷ ts) go = asking_each s names ts (λ us. go (Object d ∷ us))
asking_each s names (Parameter i ∷ ts) go = asking_each s names ts (λ us. go (Parameter i ∷ us))
asking_each s names (Apply f ds ∷ ts) go = asking_value s names (Apply f ds) (λ d. asking_each s names ts (λ us. go (Object d ∷ us)))

-- an action with the values of its arguments, as it is to be done
abbrev pub do_text : Names → ℕ → List Inner → Text
do_text names action arguments = codes "do " ++ instance_text names (record { action = action; arguments = arguments })

-- the walk of a tree: an action is told when its values were answered, a branch and cases go on as answered
abbrev mutual
  pub talk_from : Signature → Names → Tree → ℕ → List Text → Talked
  talk_from s names Goal k answers = ending AtGoal answers
  talk_from s names Impossible k answers = ending AtImpossible answers
  talk_from s names (Do i t) k answers =
      asking_each s names i.arguments (λ arguments k answers. saying (Statement (do_text names i.action arguments)) (talk_from s names t k answers)) k answers
  talk_from s names (Branch c t u) k answers =
      asking truth_told (codes "test " ++ conj_text names c) (λ truth k answers. if truth then talk_from s names t k answers else talk_from s names u k answers) k answers
  talk_from s names (Cases x chain) k answers =
      asking (object_named names (range_of s x)) (codes "value " ++ term_text names x) (λ e k answers. talk_case s names chain e k answers) k answers

  -- the walk of the case of the value, if there is one
  pub talk_case : Signature → Names → Chain → ℕ → ℕ → List Text → Talked
  talk_case s names End e k answers = ending NoCase answers
  talk_case s names (More o t chain) e k answers = if nat_eq o e then talk_from s names t k answers else talk_case s names chain e k answers

-- the dialogue of a plan with these answers
unfoldable pub talk : Signature → Names → Tree → List Text → Talked
talk s names t answers = talk_from s names t 1 answers

-- ---- what is printed

-- the text of a line
abbrev pub said_text : Said → Text
said_text (Question text) = text
said_text (Statement text) = text

-- the lines that were said
abbrev pub talked_text : Talked → Text
talked_text talked = flat_map (λ said. line (said_text said)) talked.lines

-- it ended as a run does
abbrev pub IsOver : TalkEnd → Type 0
IsOver (Over end) = Unit {0}
IsOver (Unfit k) = ⊥
IsOver (Missing k) = ⊥

-- an answer is refused at its line of the input, the answers standing behind the full stop
abbrev pub answer_refusal : Text → ℕ → ℕ → Refusal
answer_refusal input k code = record { line = stop_line input + k; column = 1; code = code; rest = [] }

-- the refusal of an answer that isn't fit, or of one that is missing
abbrev pub RefusesAnswer : Text → TalkEnd → Refusal → Type 0
RefusesAnswer input (Over end) r = ⊥
RefusesAnswer input (Unfit k) r = r ≡ answer_refusal input k ANSWER_UNFIT
RefusesAnswer input (Missing k) r = r ≡ answer_refusal input k ANSWER_MISSING

-- ---- answers of a world

-- the names of the values of the arguments that are applications
abbrev pub argument_answers : Names → World → List Inner → List Text
argument_answers names w [] = []
argument_answers names w (Object d ∷ ts) = argument_answers names w ts
argument_answers names w (Parameter i ∷ ts) = argument_answers names w ts
argument_answers names w (Apply f ds ∷ ts) = name_in names.objects (inner_value w (Apply f ds)) ∷ argument_answers names w ts

-- what is so in a world where each question of the walk is asked
abbrev mutual
  pub world_answers : Problem → Names → Tree → World → List Text
  world_answers p names Goal w = []
  world_answers p names Impossible w = []
  world_answers p names (Do i t) w = argument_answers names w i.arguments ++ world_answers p names t (after_action p w (grounded w i))
  world_answers p names (Branch c t u) w =
      truth_text (all_true_in w c) ∷ (if all_true_in w c then world_answers p names t w else world_answers p names u w)
  world_answers p names (Cases x chain) w = name_in names.objects (value_of w x) ∷ case_answers p names chain (value_of w x) w

  -- so in the case of the value
  pub case_answers : Problem → Names → Chain → ℕ → World → List Text
  case_answers p names End e w = []
  case_answers p names (More o t chain) e w = if nat_eq o e then world_answers p names t w else case_answers p names chain e w

-- the line, where it asks for no answer
abbrev pub statement_in : Said → Option Text
statement_in (Question text) = None
statement_in (Statement text) = Some text

-- the lines of a dialogue that ask for no answer: the actions and the end
abbrev pub statements : Talked → List Text
statements talked = filter_map statement_in talked.lines

-- the line of an action or of the end of a run
abbrev pub event_statement : Names → Event → Option Text
event_statement names (Did i) = Some (event_text names (Did i))
event_statement names (Ended x) = Some (event_text names (Ended x))
event_statement names (Saw x) = None
event_statement names (Tested c b) = None
event_statement names (Told t e) = None

-- the lines of a run that a dialogue has too: the actions and the end
abbrev pub run_statements : Names → List Event → List Text
run_statements names events = filter_map (event_statement names) events
