-- What the parser's walk makes of words, for the command of a mode and a number.
use Rattle.std.proofs.Common.{◌≡◌, ◌∙◌, ◌∷◌, [], ◌++◌, ℕ, Bool, true, false, List, Option, Some, None, fold, drop, codes, option_map, nat_eq, refl, sym, ap, ap₂, subst, option_and_then, unwrap_or}
use Rattle.std.specs.Str.{bytes_eq, chars, IsUtf8}
use Rattle.std.proofs.lemmas.Str.{encodes-chars}
use lib.Utf8.{encodes}
use Rattle.std.specs.Char.{encode_utf8}
use Rattle.std.proofs.lemmas.Bool.{eqb-true}
use Rattle.pks_terms.specs.Sets.{Each}
use Rattle.clap.specs.Simple.{Shape, built, matches_of}
use Rattle.clap.proofs.FaultLemmas.{leaf_fault}
use Rattle.clap.specs.Walk.{Held, Rule, Text, Walk, finished, settled, idle, nothing_held, walked}
use Rattle.clap.specs.Lexer.{long_of, long_of_rest, short_of, short_of_rest, strip_byte, name_and_value}
use Rattle.clap.specs.Kinds.{Kinds, or_else}
use Rattle.clap.specs.Faults.{walk_fault, turn_fault, flags_fault, fault_of, settle_fault, defaults_fault, check_fault}
use Rattle.clap.specs.declared.error.kind.ErrorKind.TheVariants as kind
use Rattle.clap.specs.declared.parser.matches.ValueSource.TheVariants.{CommandLine}
use Rattle.clap.specs.declared.builder.value_parser.Reading.TheVariants as reading
use Rattle.pks_terms.specs.Jobs.{positionals, is_option}
use Rattle.pks_run_words.specs.Command.{two_words}

abbrev pub shape : Shape
shape = (built two_words).top

abbrev pub rules : List Rule
rules = shape.rules

-- how many of the two words were met
pub data Given : Type 0 where
  neither : Given
  one : Text → Given
  both : Text → Text → Given

abbrev pub held_at : Given → Held
held_at neither = nothing_held
held_at (one a) = record { rows = []; pending = Some (codes "mode", a ∷ []); skip = 0 }
held_at (both a b) = record {
  rows = record { id = codes "mode"; values = a ∷ []; count = None; source = Some CommandLine; reading = reading.AsWritten } ∷ [];
  pending = Some (codes "number", b ∷ []);
  skip = 0;
}

abbrev position_at : Given → ℕ
position_at neither = 1
position_at (one a) = 2
position_at (both a b) = 3

abbrev walk_at : Bool → Given → Walk
walk_at trailing g = record { held = held_at g; waiting = idle; position = position_at g; is_trailing = trailing; stopped = None }

-- the place after one more word
abbrev more : Given → Text → Given
more neither w = one w
more (one a) w = both a w
more (both a b) w = both a b

-- the words so far
abbrev words_of : Given → List Text
words_of neither = []
words_of (one a) = a ∷ []
words_of (both a b) = a ∷ b ∷ []

abbrev unknown : Kinds
unknown = kind.UnknownArgument ∷ []

-- what is wrong with a word where the place is
abbrev extra : Given → Kinds
extra neither = []
extra (one a) = []
extra (both a b) = unknown

-- ---- a word that goes to a place, as each does after `--`

trailing_moves : (g : Given) (w : Text) → extra g ≡ [] → walked rules [] (walk_at true g) w ≡ walk_at true (more g w)
unfolding walked
trailing_moves neither w e = refl
trailing_moves (one a) w e = refl
trailing_moves (both a b) w e = cc

trailing_fault : (g : Given) (w : Text) → turn_fault shape [] (walk_at true g) w ≡ extra g
trailing_fault neither w = refl
trailing_fault (one a) w = refl
trailing_fault (both a b) w = refl

-- ---- `--`

abbrev dashes : Text
dashes = codes "--"

dashes_move : (g : Given) → walked rules [] (walk_at false g) dashes ≡ walk_at true g
unfolding walked
dashes_move neither = refl
dashes_move (one a) = refl
dashes_move (both a b) = refl

dashes_pass : (g : Given) → turn_fault shape [] (walk_at false g) dashes ≡ []
dashes_pass neither = refl
dashes_pass (one a) = refl
dashes_pass (both a b) = refl

-- ---- a word that isn't an option

abbrev Meets : Given → Text → Type 0
Meets g w = (extra g ≡ [] → walked rules [] (walk_at false g) w ≡ walk_at false (more g w)) × (turn_fault shape [] (walk_at false g) w ≡ extra g)

plain_meets : (g : Given) (w : Text) → bytes_eq w dashes ≡ false → long_of w ≡ None → short_of w ≡ None → Meets g w
unfolding walked
plain_meets neither w n l s = ((λ auto. rw (n, l, s) refl), rw (n, l, s) refl)
plain_meets (one a) w n l s = ((λ auto. rw (n, l, s) refl), rw (n, l, s) refl)
plain_meets (both x y) w n l s = ((λ auto. cc), rw (n, l, s) refl)

-- ---- an option

long_fails : (g : Given) (w : Text) (p : Text × Option Text) → bytes_eq w dashes ≡ false → long_of w ≡ Some p → turn_fault shape [] (walk_at false g) w ≡ unknown
long_fails neither w p n l = rw (n, l) refl
long_fails (one a) w p n l = rw (n, l) refl
long_fails (both x y) w p n l = rw (n, l) refl

short_fails : (g : Given) (w : Text) (b x : ℕ) (bs xs : List ℕ) → bytes_eq w dashes ≡ false → long_of w ≡ None → short_of w ≡ Some (b ∷ bs) → chars (b ∷ bs) ≡ x ∷ xs → turn_fault shape [] (walk_at false g) w ≡ unknown
unfolding flags_fault
short_fails neither w b x bs xs n l s e = rw (n, l, s, e) refl
short_fails (one a) w b x bs xs n l s e = rw (n, l, s, e) refl
short_fails (both c d) w b x bs xs n l s e = rw (n, l, s, e) refl

-- ---- what a word is

pub record IsPlain (w : Text) : Type 0 where
  pub differs : bytes_eq w dashes ≡ false
  pub no_option : is_option w ≡ false
  pub no_long : long_of w ≡ None
  pub no_short : short_of w ≡ None

pub record IsOption (w : Text) : Type 0 where
  pub differs : bytes_eq w dashes ≡ false
  pub option : is_option w ≡ true
  pub fails : (g : Given) → turn_fault shape [] (walk_at false g) w ≡ unknown

pub data Sort (w : Text) : Type 0 where
  dashed : w ≡ dashes → Sort w
  plain : IsPlain w → Sort w
  opted : IsOption w → Sort w

strip_miss : (b : ℕ) (w : Text) → nat_eq b 45 ≡ false → strip_byte 45 (b ∷ w) ≡ None
strip_miss b w e = rw e refl

has_chars : (b : ℕ) (w : Text) → IsUtf8 (45 ∷ b ∷ w) → (x : ℕ) × (xs : List ℕ) × (chars (b ∷ w) ≡ x ∷ xs)
unfolding chars encode_utf8
has_chars b w h = go (chars (b ∷ w)) refl
  where
    go : (xs : List ℕ) → chars (b ∷ w) ≡ xs → (x : ℕ) × (xs : List ℕ) × (chars (b ∷ w) ≡ x ∷ xs)
    go [] e =
        let whole : encodes (45 ∷ []) ≡ 45 ∷ b ∷ w = subst (λ (xs : List ℕ). encodes (45 ∷ xs) ≡ 45 ∷ b ∷ w) e (encodes-chars (45 ∷ b ∷ w) h) in
        let short : 45 ∷ [] ≡ 45 ∷ b ∷ w = whole in
        absurd cc
    go (x ∷ xs) e = (x, xs, e)

of_one : (b : ℕ) (dash : Bool) → nat_eq b 45 ≡ dash → Sort (b ∷ [])
of_one b true e = plain (subst (λ (k : ℕ). IsPlain (k ∷ [])) (sym (eqb-true b 45 e)) (record { differs = refl; no_option = refl; no_long = refl; no_short = refl }))
of_one b false e =
    plain (record {
      differs = rw e refl;
      no_option = refl;
      no_long = ap (λ (o : Option Text). option_and_then long_of_rest (option_and_then (strip_byte 45) o)) (strip_miss b [] e);
      no_short = ap (λ (o : Option Text). option_and_then short_of_rest o) (strip_miss b [] e);
    })

of_short : (c : ℕ) (w : Text) → nat_eq c 45 ≡ false → IsUtf8 (45 ∷ c ∷ w) → IsOption (45 ∷ c ∷ w)
of_short c w e u =
    let some = has_chars c w u in
    let differs : bytes_eq (45 ∷ c ∷ w) dashes ≡ false = rw e refl in
    let no_long : long_of (45 ∷ c ∷ w) ≡ None = ap (λ (o : Option Text). option_and_then long_of_rest o) (strip_miss c w e) in
    let short : short_of (45 ∷ c ∷ w) ≡ Some (c ∷ w) = rw e refl in
    record { differs = differs; option = refl; fails = λ g. short_fails g (45 ∷ c ∷ w) c some.0 w some.1 differs no_long short some.2 }

of_long : (b : ℕ) (w : Text) → IsOption (45 ∷ 45 ∷ b ∷ w)
of_long b w = record { differs = refl; option = refl; fails = λ g. long_fails g (45 ∷ 45 ∷ b ∷ w) (name_and_value (b ∷ w)) refl refl }

of_dash : (c : ℕ) (w : Text) (dash : Bool) → nat_eq c 45 ≡ dash → IsUtf8 (45 ∷ c ∷ w) → Sort (45 ∷ c ∷ w)
of_dash c w false e u = opted (of_short c w e u)
of_dash c [] true e u = dashed (ap (λ (k : ℕ). 45 ∷ k ∷ []) (eqb-true c 45 e))
of_dash c (b ∷ w) true e u = opted (subst (λ (k : ℕ). IsOption (45 ∷ k ∷ b ∷ w)) (sym (eqb-true c 45 e)) (of_long b w))

of_more : (b c : ℕ) (w : Text) (dash : Bool) → nat_eq b 45 ≡ dash → IsUtf8 (b ∷ c ∷ w) → Sort (b ∷ c ∷ w)
of_more b c w true e u = subst (λ (k : ℕ). IsUtf8 (k ∷ c ∷ w) → Sort (k ∷ c ∷ w)) (sym (eqb-true b 45 e)) (of_dash c w (nat_eq c 45) refl) u
of_more b c w false e u =
    plain (record {
      differs = rw e refl;
      no_option = e;
      no_long = ap (λ (o : Option Text). option_and_then long_of_rest (option_and_then (strip_byte 45) o)) (strip_miss b (c ∷ w) e);
      no_short = ap (λ (o : Option Text). option_and_then short_of_rest o) (strip_miss b (c ∷ w) e);
    })

pub sort_of : (w : Text) → IsUtf8 w → Sort w
sort_of [] u = plain (record { differs = refl; no_option = refl; no_long = refl; no_short = refl })
sort_of (b ∷ []) u = of_one b (nat_eq b 45) refl
sort_of (b ∷ c ∷ w) u = of_more b c w (nat_eq b 45) refl u

-- ---- the whole walk

-- what the words after a place come to: after `--` each of them, and before it the positional ones
abbrev left_of : Bool → List Text → Option (List Text)
left_of true ws = Some ws
left_of false ws = positionals ws

abbrev behind : Given → Option (List Text) → Option (List Text)
behind g = option_map (λ ws. words_of g ++ ws)

-- three words are too many
abbrev kinds_of : Option (List Text) → Kinds
kinds_of None = unknown
kinds_of (Some []) = []
kinds_of (Some (a ∷ [])) = []
kinds_of (Some (a ∷ b ∷ [])) = []
kinds_of (Some (a ∷ b ∷ c ∷ ws)) = unknown

abbrev pub held_of : List Text → Held
held_of [] = nothing_held
held_of (a ∷ []) = held_at (one a)
held_of (a ∷ b ∷ ws) = held_at (both a b)

record Tells (t : Bool) (g : Given) (ws : List Text) : Type 0 where
  fault : walk_fault shape [] (walk_at t g) ws ≡ kinds_of (behind g (left_of t ws))
  held : (all : List Text) → behind g (left_of t ws) ≡ Some all → kinds_of (Some all) ≡ [] → (fold (walked rules []) (walk_at t g) ws).held ≡ held_of all

abbrev MeetsAt : Bool → Given → Text → Type 0
MeetsAt t g w = (extra g ≡ [] → walked rules [] (walk_at t g) w ≡ walk_at t (more g w)) × (turn_fault shape [] (walk_at t g) w ≡ extra g)

module _ (t : Bool) (w : Text) (ws : List Text) (goes_on : (g : Given) → Tells t g ws) (e : left_of t (w ∷ ws) ≡ option_map (λ r. w ∷ r) (left_of t ws)) where
  one_more : (g : Given) → extra g ≡ [] → behind g (left_of t (w ∷ ws)) ≡ behind (more g w) (left_of t ws)
  one_more g x = ap (behind g) e ∙ go g x (left_of t ws)
    where
      go : (g : Given) → extra g ≡ [] → (o : Option (List Text)) → behind g (option_map (λ r. w ∷ r) o) ≡ behind (more g w) o
      go neither x None = refl
      go neither x (Some r) = refl
      go (one a) x None = refl
      go (one a) x (Some r) = refl
      go (both a b) x o = cc

  too_many : (a b : Text) → kinds_of (behind (both a b) (left_of t (w ∷ ws))) ≡ unknown
  too_many a b = ap (λ o. kinds_of (behind (both a b) o)) e ∙ go (left_of t ws)
    where
      go : (o : Option (List Text)) → kinds_of (behind (both a b) (option_map (λ r. w ∷ r) o)) ≡ unknown
      go None = refl
      go (Some r) = refl

  room : (g : Given) → extra g ≡ [] → MeetsAt t g w → Tells t g (w ∷ ws)
  unfolding walk_fault
  room g x m =
      let next = goes_on (more g w) in
      record {
        fault = ap₂ or_else (m.1 ∙ x) (ap (λ p. walk_fault shape [] p ws) (m.0 x)) ∙ (next.fault ∙ ap kinds_of (sym (one_more g x)));
        held = λ all f k. ap (λ p. (fold (walked rules []) p ws).held) (m.0 x) ∙ next.held all (sym (one_more g x) ∙ f) k;
      }

  no_room : (a b : Text) → MeetsAt t (both a b) w → Tells t (both a b) (w ∷ ws)
  unfolding walk_fault
  no_room a b m = record {
    fault = ap (λ k. or_else k (walk_fault shape [] (walked rules [] (walk_at t (both a b)) w) ws)) m.1 ∙ sym (too_many a b);
    held = λ all f k. let bad : unknown ≡ [] = sym (too_many a b) ∙ (ap kinds_of f ∙ k) in absurd cc;
  }

  taken : (g : Given) → MeetsAt t g w → Tells t g (w ∷ ws)
  taken neither m = room neither refl m
  taken (one a) m = room (one a) refl m
  taken (both a b) m = no_room a b m

nothing_left : (g : Given) → Tells true g []
unfolding walk_fault
nothing_left neither = record { fault = refl; held = λ all f k. ap (λ (o : Option (List Text)). held_of (unwrap_or o [])) f }
nothing_left (one a) = record { fault = refl; held = λ all f k. ap (λ (o : Option (List Text)). held_of (unwrap_or o [])) f }
nothing_left (both a b) = record { fault = refl; held = λ all f k. ap (λ (o : Option (List Text)). held_of (unwrap_or o [])) f }

no_word_left : (g : Given) → Tells false g []
unfolding walk_fault
no_word_left neither = record { fault = refl; held = λ all f k. ap (λ (o : Option (List Text)). held_of (unwrap_or o [])) f }
no_word_left (one a) = record { fault = refl; held = λ all f k. ap (λ (o : Option (List Text)). held_of (unwrap_or o [])) f }
no_word_left (both a b) = record { fault = refl; held = λ all f k. ap (λ (o : Option (List Text)). held_of (unwrap_or o [])) f }

after_dashes : (ws : List Text) (g : Given) → Tells true g ws
after_dashes [] g = nothing_left g
after_dashes (w ∷ ws) g = taken true w ws (after_dashes ws) refl g (trailing_moves g w, trailing_fault g w)

at_dashes : (ws : List Text) (g : Given) → Tells false g (dashes ∷ ws)
unfolding walk_fault
at_dashes ws g =
    let next = after_dashes ws g in
    record {
      fault = ap₂ or_else (dashes_pass g) (ap (λ p. walk_fault shape [] p ws) (dashes_move g)) ∙ next.fault;
      held = λ all f k. ap (λ p. (fold (walked rules []) p ws).held) (dashes_move g) ∙ next.held all f k;
    }

at_option : (w : Text) (ws : List Text) (g : Given) → IsOption w → Tells false g (w ∷ ws)
unfolding walk_fault
at_option w ws g o =
    let none : positionals (w ∷ ws) ≡ None = rw (o.differs, o.option) refl in
    record {
      fault = ap (λ k. or_else k (walk_fault shape [] (walked rules [] (walk_at false g) w) ws)) (o.fails g) ∙ sym (ap (λ x. kinds_of (behind g x)) none);
      held = λ all f k. let bad : None ≡ Some all = sym (ap (behind g) none) ∙ f in absurd cc;
    }

at_word : (w : Text) (ws : List Text) → ((g : Given) → Tells false g ws) → (g : Given) → Sort w → Tells false g (w ∷ ws)
at_word w ws goes_on g (dashed e) = subst (λ (v : Text). Tells false g (v ∷ ws)) (sym e) (at_dashes ws g)
at_word w ws goes_on g (plain p) = taken false w ws goes_on (rw (p.differs, p.no_option) refl) g (plain_meets g w p.differs p.no_long p.no_short)
at_word w ws goes_on g (opted o) = at_option w ws g o

walk_tells : (ws : List Text) → Each IsUtf8 ws → (g : Given) → Tells false g ws
walk_tells [] u g = no_word_left g
walk_tells (w ∷ ws) u g = at_word w ws (walk_tells ws u.1) g (sort_of w u.0)

-- ---- the whole parse

-- none is too few, and three are too many
abbrev pub faults_of : Option (List Text) → Kinds
faults_of None = unknown
faults_of (Some []) = kind.MissingRequiredArgument ∷ []
faults_of (Some (a ∷ [])) = []
faults_of (Some (a ∷ b ∷ [])) = []
faults_of (Some (a ∷ b ∷ c ∷ ws)) = unknown

-- what the parse checks behind the walk
abbrev checks : Held → Kinds
checks end = or_else (settle_fault rules false end) (or_else (defaults_fault (settled rules end).rows rules) (check_fault shape (finished rules end) false))

checked : (o : Option (List Text)) (walk : Kinds) (end : Held) → walk ≡ kinds_of o → ((all : List Text) → o ≡ Some all → kinds_of (Some all) ≡ [] → end ≡ held_of all) → or_else walk (checks end) ≡ faults_of o
unfolding defaults_fault
checked None k end e h = ap (λ (x : Kinds). or_else x (checks end)) e
checked (Some []) k end e h = ap₂ (λ (x : Kinds) (y : Held). or_else x (checks y)) e (h [] refl refl)
checked (Some (a ∷ [])) k end e h = ap₂ (λ (x : Kinds) (y : Held). or_else x (checks y)) e (h (a ∷ []) refl refl)
checked (Some (a ∷ b ∷ [])) k end e h = ap₂ (λ (x : Kinds) (y : Held). or_else x (checks y)) e (h (a ∷ b ∷ []) refl refl)
checked (Some (a ∷ b ∷ c ∷ ws)) k end e h = ap (λ (x : Kinds). or_else x (checks end)) e

unmapped : (o : Option (List Text)) → behind neither o ≡ o
unmapped None = refl
unmapped (Some ws) = refl

-- the kinds of error are told by the positional words
pub fault_is : (words : List Text) → Each IsUtf8 (drop 1 words) → fault_of two_words words ≡ faults_of (positionals (drop 1 words))
fault_is words u =
    let tells = walk_tells (drop 1 words) u neither in
    leaf_fault (built two_words) nothing_held (drop 1 words) refl
    ∙ (checked (behind neither (positionals (drop 1 words))) _ _ tells.fault tells.held ∙ ap faults_of (unmapped (positionals (drop 1 words))))

-- where it is taken, its two words are the positional ones
pub matches_are : (words all : List Text) → Each IsUtf8 (drop 1 words) → positionals (drop 1 words) ≡ Some all → faults_of (Some all) ≡ [] → matches_of two_words words ≡ finished rules (held_of all)
matches_are words all u e f =
    let tells = walk_tells (drop 1 words) u neither in
    ap (finished rules) (tells.held all (unmapped (positionals (drop 1 words)) ∙ e) (fits all f))
  where
    fits : (all : List Text) → faults_of (Some all) ≡ [] → kinds_of (Some all) ≡ []
    fits [] f = refl
    fits (a ∷ []) f = refl
    fits (a ∷ b ∷ []) f = refl
    fits (a ∷ b ∷ c ∷ ws) f = f
