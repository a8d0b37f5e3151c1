-- The grammar of the first version is that of `pks_reader_shape` at this version.
use Rattle.std.proofs.Common.{◌≡◌, ◌⊎◌, ℕ, Bool, true, false, cond, List, [], ◌∷◌, Option, Some, None, option_map, slice_get, refl, sym, ap, ◌∙◌, subst, inl, inr, codes, arith}
use Rattle.std.proofs.lemmas.Option.{none-some, same_Some}
use Rattle.std.proofs.lemmas.Bool.{false≢true}
use Rattle.pks_text.specs.Forms.{Form, Word, Listing, Forms, no_forms, form, place_of}
use Rattle.pks_reader_shape.specs.declared.grammar.Version.{Version}
use Rattle.pks_reader_shape.specs.declared.grammar.Version.TheVariants.{First, Second}
use Rattle.pks_reader_shape.specs.declared.grammar.Sort.{Sort}
use Rattle.pks_reader_shape.specs.declared.grammar.Sort.TheVariants.{Domain, Types, Kind, Objects, Predicates, Functions, Entry, Function, Action, Cost, Params, Param, Pre, Effects, Effect, Condition, Target, Senses, Sense, Knows, Add, Given, Item, Query, Plain, Problem, Init, Start, Goal, Aim, Literal, Positive, Atom, Pattern, Slot, Place, Term, World, True, Values, Value, Fact, Nothing, Head, Name, Variable, Number}
use Rattle.pks_reader_shape.specs.declared.grammar.Part.{Part}
use Rattle.pks_reader_shape.specs.Grammar as now
use Rattle.pks_reader_shape.specs.Walk.{is_headed, fault_in}
use Rattle.pks_reader_shape.specs.Language as now_language
use Rattle.pks_reader_shape.specs.Language.{MayHave, MayBeWorld}
use Rattle.pks_reader_shape.specs.Files.{Fault, or_else, is_list_of, stated, is_version, version_of, top_fault, rest_fault, walk_fault, shape_fault}
use Rattle.pks_reader_shape.proofs.Deciding.{of_the_sort}
use Rattle.pks_laws_reader.proofs.Shapes.{of_sort, headed}
use Rattle.pks_laws_version1.specs.Grammar as old

pub same_lists : (s : Sort) → now.lists First s ≡ old.lists s
unfolding now.lists old.lists
same_lists Domain = refl
same_lists Types = refl
same_lists Kind = refl
same_lists Objects = refl
same_lists Predicates = refl
same_lists Functions = refl
same_lists Entry = refl
same_lists Function = refl
same_lists Action = refl
same_lists Cost = refl
same_lists Params = refl
same_lists Param = refl
same_lists Pre = refl
same_lists Effects = refl
same_lists Effect = refl
same_lists Condition = refl
same_lists Target = refl
same_lists Senses = refl
same_lists Sense = refl
same_lists Knows = refl
same_lists Add = refl
same_lists Given = refl
same_lists Item = refl
same_lists Query = refl
same_lists Plain = refl
same_lists Problem = refl
same_lists Init = refl
same_lists Start = refl
same_lists Goal = refl
same_lists Aim = refl
same_lists Literal = refl
same_lists Positive = refl
same_lists Atom = refl
same_lists Pattern = refl
same_lists Slot = refl
same_lists Place = refl
same_lists Term = refl
same_lists World = refl
same_lists True = refl
same_lists Values = refl
same_lists Value = refl
same_lists Fact = refl
same_lists Nothing = refl
same_lists Head = refl
same_lists Name = refl
same_lists Variable = refl
same_lists Number = refl

mutual
  pub to_old : (s : Sort) (f : Form) → now_language.IsOf First s f → old.IsOf s f
  to_old s _ (now_language.word _ text at allowed) = old.word s text at allowed
  to_old s _ (now_language.listing _ parts at end ps may matches) = old.listing s parts at end ps (subst (λ ls. MayHave ls (Rattle.pks_reader_shape.specs.Walk.head_of parts) ps) (same_lists s) may) (parts_to_old ps parts matches)

  parts_to_old : (ps : List Part) (fs : Forms) → now_language.Matches First ps fs → old.Matches ps fs
  parts_to_old _ _ now_language.nothing = old.nothing
  parts_to_old _ _ (now_language.one s ps f fs is rest) = old.one s ps f fs (to_old s f is) (parts_to_old ps fs rest)
  parts_to_old _ fs (now_language.left_out s ps _ rest) = old.left_out s ps fs (parts_to_old ps fs rest)
  parts_to_old _ _ (now_language.there s ps f fs is rest) = old.there s ps f fs (to_old s f is) (parts_to_old ps fs rest)
  parts_to_old _ fs (now_language.no_more s ps _ rest) = old.no_more s ps fs (parts_to_old ps fs rest)
  parts_to_old ps _ (now_language.again s qs f fs is rest) = old.again s qs f fs (to_old s f is) (parts_to_old ps fs rest)

mutual
  pub to_now : (s : Sort) (f : Form) → old.IsOf s f → now_language.IsOf First s f
  to_now s _ (old.word _ text at allowed) = now_language.word s text at allowed
  to_now s _ (old.listing _ parts at end ps may matches) = now_language.listing s parts at end ps (subst (λ ls. MayHave ls (Rattle.pks_reader_shape.specs.Walk.head_of parts) ps) (sym (same_lists s)) may) (parts_to_now ps parts matches)

  parts_to_now : (ps : List Part) (fs : Forms) → old.Matches ps fs → now_language.Matches First ps fs
  parts_to_now _ _ old.nothing = now_language.nothing
  parts_to_now _ _ (old.one s ps f fs is rest) = now_language.one s ps f fs (to_now s f is) (parts_to_now ps fs rest)
  parts_to_now _ fs (old.left_out s ps _ rest) = now_language.left_out s ps fs (parts_to_now ps fs rest)
  parts_to_now _ _ (old.there s ps f fs is rest) = now_language.there s ps f fs (to_now s f is) (parts_to_now ps fs rest)
  parts_to_now _ fs (old.no_more s ps _ rest) = now_language.no_more s ps fs (parts_to_now ps fs rest)
  parts_to_now ps _ (old.again s qs f fs is rest) = now_language.again s qs f fs (to_now s f is) (parts_to_now ps fs rest)

-- ---- whole files

some_not : {v : Version} → None ≡ Some v → ⊥
some_not {v} e = none-some v e

says_first : (f : Form) → is_list_of (codes "pks" ∷ codes "1" ∷ []) f ≡ true → stated f ≡ Some First
unfolding stated
says_first f e = ap (λ b. cond b (Some First) (cond (is_list_of (codes "pks" ∷ codes "2" ∷ []) f) (Some Second) None)) e

first_said : (f : Form) → stated f ≡ Some First → is_list_of (codes "pks" ∷ codes "1" ∷ []) f ≡ true
unfolding stated
first_said f e = by_tests (is_list_of (codes "pks" ∷ codes "1" ∷ []) f) (is_list_of (codes "pks" ∷ codes "2" ∷ []) f) e
  where
    is_first : Version → Bool
    is_first First = true
    is_first Second = false

    by_tests : (a b : Bool) → ◌≡◌ {A = Option Version} (cond a (Some First) (cond b (Some Second) None)) (Some First) → a ≡ true
    by_tests true b e = refl
    by_tests false true e = ap is_first (same_Some Second First e)
    by_tests false false e = absurd (some_not e)

version_is : (f : Form) (v : Version) (fs : List Form) → stated f ≡ Some v → version_of (f ∷ fs) ≡ v
version_is f v fs e = ap (λ (o : Option Version). elim o [ None ↦ First | Some w ↦ w ]) e

pub file_to_now : (fs : List Form) → old.IsFile fs → now_language.IsFile fs × (version_of fs ≡ First)
file_to_now [] is = absurd is
file_to_now (f ∷ []) is = absurd is
file_to_now (f ∷ d ∷ []) is = absurd is
file_to_now (f ∷ d ∷ p ∷ rest) is = let said = says_first f is.0 in ((First, said, to_now Domain d is.1, to_now Problem p is.2, is.3), version_is f First (d ∷ p ∷ rest) said)

pub file_to_old : (fs : List Form) → now_language.IsFile fs → version_of fs ≡ First → old.IsFile fs
file_to_old [] is v = absurd is
file_to_old (f ∷ []) is v = absurd is
file_to_old (f ∷ d ∷ []) is v = absurd is
file_to_old (f ∷ d ∷ p ∷ rest) is v =
    let same : is.0 ≡ First = sym (version_is f is.0 (d ∷ p ∷ rest) is.1) ∙ v in (
      first_said f (is.1 ∙ ap Some same),
      to_old Domain d (subst (λ w. now_language.IsOf w Domain d) same is.2),
      to_old Problem p (subst (λ w. now_language.IsOf w Problem p) same is.3),
      is.4,
    )

-- ---- the tests of shape

abbrev with_code : ℕ → ℕ → Fault
with_code code at = (at, code)

none_first : (a b : Option Fault) → or_else a b ≡ None → a ≡ None
none_first None b e = refl
none_first (Some fault) b e = absurd (none-some fault (sym e))

none_later : (a b : Option Fault) → or_else a b ≡ None → b ≡ None
none_later None b e = e
none_later (Some fault) b e = absurd (none-some fault (sym e))

abbrev walks : Version → Form → Form → Option Fault
walks v d p = or_else (walk_fault 124 v Domain (Some d)) (walk_fault 124 v Problem (Some p))

walked : (v : Version) (s : Sort) (f : Form) → walk_fault 124 v s (Some f) ≡ None → now_language.IsOf v s f
walked v s f e = (of_the_sort v s f).0 (unmapped (fault_in v s f) e)
  where
    unmapped : (o : Option ℕ) → option_map (with_code 124) o ≡ None → o ≡ None
    unmapped None e = refl
    unmapped (Some at) e = absurd (none-some (with_code 124 at) (sym e))

version_stated : (f : Form) (rest : List Form) → top_fault 120 is_version 0 (Some f) ≡ None → version_of (f ∷ rest) ≡ First → stated f ≡ Some First
version_stated f rest e v = by_version (stated f) e v
  where
    by_version : (o : Option Version) → cond (elim o [ None ↦ false | Some w ↦ true ]) None (Some (with_code 120 (place_of f))) ≡ None → elim o [ None ↦ First | Some w ↦ w ] ≡ First → o ≡ Some First
    by_version None e v = absurd (none-some (with_code 120 (place_of f)) (sym e))
    by_version (Some w) e v = ap Some v

world_last : (rest : List Form) → rest_fault (slice_get rest 0) (slice_get rest 1) ≡ None → MayBeWorld rest
world_last [] e = tt
world_last (w ∷ []) e = by_head (is_headed (codes "world") w) e
  where
    by_head : (b : Bool) → cond b None (Some (with_code 123 (place_of w))) ≡ None → b ≡ true
    by_head true e = refl
    by_head false e = absurd (none-some (with_code 123 (place_of w)) (sym e))
world_last (w ∷ g ∷ gs) e = by_head (is_headed (codes "world") w) e
  where
    by_head : (b : Bool) → cond b (Some (with_code 123 (place_of g))) (Some (with_code 123 (place_of w))) ≡ None → ⊥
    by_head true e = none-some (with_code 123 (place_of g)) (sym e)
    by_head false e = none-some (with_code 123 (place_of w)) (sym e)

-- a file without a fault of shape is one by the grammar of the first version, where it states no later one
shaped : (end : ℕ) (fs : List Form) → shape_fault end fs ≡ None → version_of fs ≡ First → old.IsFile fs
unfolding shape_fault
shaped end [] e v = none-some (with_code 120 end) (sym e)
shaped end (f ∷ []) e v = none-some (with_code 121 end) (sym (none_later (top_fault 120 is_version end (Some f)) (Some (with_code 121 end)) e))
shaped end (f ∷ d ∷ []) e v =
    let a = top_fault 121 (is_headed (codes "domain")) end (Some d) in
    none-some (with_code 122 end) (sym (none_later a (Some (with_code 122 end)) (none_later (top_fault 120 is_version end (Some f)) (or_else a (Some (with_code 122 end))) e)))
shaped end (f ∷ d ∷ p ∷ rest) e v =
    let w = version_of (f ∷ d ∷ p ∷ rest) in
    let zero = top_fault 120 is_version end (Some f) in
    let a = top_fault 121 (is_headed (codes "domain")) end (Some d) in
    let b = top_fault 122 (is_headed (codes "problem")) end (Some p) in
    let c = rest_fault (slice_get rest 0) (slice_get rest 1) in
    let after_zero = none_later zero (or_else a (or_else b (or_else c (walks w d p)))) e in
    let after_a = none_later a (or_else b (or_else c (walks w d p))) after_zero in
    let after_b = none_later b (or_else c (walks w d p)) after_a in
    let walk = none_later c (walks w d p) after_b in (
      first_said f (version_stated f (d ∷ p ∷ rest) (none_first zero (or_else a (or_else b (or_else c (walks w d p)))) e) v),
      to_old Domain d (subst (λ u. now_language.IsOf u Domain d) v (walked w Domain d (none_first (walk_fault 124 w Domain (Some d)) (walk_fault 124 w Problem (Some p)) walk))),
      to_old Problem p (subst (λ u. now_language.IsOf u Problem p) v (walked w Problem p (none_later (walk_fault 124 w Domain (Some d)) (walk_fault 124 w Problem (Some p)) walk))),
      world_last rest (none_first c (walks w d p) after_b),
    )

-- what isn't such a file has a fault of shape
pub refused_shape : (end : ℕ) (fs : List Form) → version_of fs ≡ First → (old.IsFile fs → ⊥) → (fault : Fault) × (shape_fault end fs ≡ Some fault)
refused_shape end fs v not_old = by_fault (shape_fault end fs) refl
  where
    by_fault : (o : Option Fault) → shape_fault end fs ≡ o → (fault : Fault) × (shape_fault end fs ≡ Some fault)
    by_fault None e = absurd (not_old (shaped end fs e v))
    by_fault (Some fault) e = (fault, e)

-- ---- what the second version alone has

domain_headed : (f : Form) → now_language.IsOf Second Domain f → is_headed (codes "domain") f ≡ true
unfolding now.lists now.is_allowed
domain_headed f = of_sort Second (λ f. is_headed (codes "domain") f ≡ true) Domain (λ text at allowed. absurd (false≢true allowed)) (headed Second (λ f. is_headed (codes "domain") f ≡ true) (codes "domain") _ refl (λ a at end rest m. refl), tt) tt f

problem_headed : (f : Form) → now_language.IsOf Second Problem f → is_headed (codes "problem") f ≡ true
unfolding now.lists now.is_allowed
problem_headed f = of_sort Second (λ f. is_headed (codes "problem") f ≡ true) Problem (λ text at allowed. absurd (false≢true allowed)) (headed Second (λ f. is_headed (codes "problem") f ≡ true) (codes "problem") _ refl (λ a at end rest m. refl), tt) tt f

world_fits : (rest : List Form) → MayBeWorld rest → rest_fault (slice_get rest 0) (slice_get rest 1) ≡ None
world_fits [] may = refl
world_fits (w ∷ []) may = ap (λ (b : Bool). cond b None (Some (with_code 123 (place_of w)))) may
world_fits (w ∷ g ∷ gs) may = absurd may

-- the tests behind that of the version
abbrev tops : ℕ → Form → Form → List Form → Option Fault → Option Fault
tops end d p rest later =
    or_else (top_fault 121 (is_headed (codes "domain")) end (Some d)) (or_else (top_fault 122 (is_headed (codes "problem")) end (Some p)) (or_else (rest_fault (slice_get rest 0) (slice_get rest 1)) later))

only_walks : (end : ℕ) (d p : Form) (rest : List Form) (later : Option Fault) → is_headed (codes "domain") d ≡ true → is_headed (codes "problem") p ≡ true → MayBeWorld rest → tops end d p rest later ≡ later
only_walks end d p rest later is_d is_p may =
    λ i. or_else (cond (is_d i) None (Some (with_code 121 (place_of d)))) (or_else (cond (is_p i) None (Some (with_code 122 (place_of p)))) (or_else (world_fits rest may i) later))

-- the fault of a walk has the code 124
walk_code : (v : Version) (d p : Form) (fault : Fault) → walks v d p ≡ Some fault → (at : ℕ) × (fault ≡ (at, 124))
walk_code v d p fault e = by_walks (fault_in v Domain d) (fault_in v Problem p) e
  where
    by_walks : (a b : Option ℕ) → or_else (option_map (with_code 124) a) (option_map (with_code 124) b) ≡ Some fault → (at : ℕ) × (fault ≡ (at, 124))
    by_walks (Some at) b e = (at, sym (same_Some (with_code 124 at) fault e))
    by_walks None (Some at) e = (at, sym (same_Some (with_code 124 at) fault e))
    by_walks None None e = absurd (none-some fault e)

pub second_alone : (end : ℕ) (f d p : Form) (rest : List Form) → is_list_of (codes "pks" ∷ codes "1" ∷ []) f ≡ true → now_language.IsOf Second Domain d → now_language.IsOf Second Problem p → MayBeWorld rest
    → (old.IsFile (f ∷ d ∷ p ∷ rest) → ⊥) → (at : ℕ) × (shape_fault end (f ∷ d ∷ p ∷ rest) ≡ Some (at, 124))
unfolding shape_fault
second_alone end f d p rest one is_d is_p may not_old =
    let fs = f ∷ d ∷ p ∷ rest in
    let said = says_first f one in
    let version = version_is f First (d ∷ p ∷ rest) said in
    let fault = refused_shape end fs version not_old in
    let passed : top_fault 120 is_version end (Some f) ≡ None = ap (λ (o : Option Version). cond (elim o [ None ↦ false | Some w ↦ true ]) None (Some (with_code 120 (place_of f)))) said in
    let walked : shape_fault end fs ≡ walks (version_of fs) d p = (λ i. or_else (passed i) (tops end d p rest (walks (version_of fs) d p))) ∙ only_walks end d p rest (walks (version_of fs) d p) (domain_headed d is_d) (problem_headed p is_p) may in
    let code = walk_code (version_of fs) d p fault.0 (sym walked ∙ fault.1) in
    (code.0, fault.1 ∙ ap Some code.1)
