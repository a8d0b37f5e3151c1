-- The sections of a domain, an action and a problem have the forms that the grammar says.
use Rattle.std.proofs.Common.{◌≡◌, inl, inr, ℕ, Bool, true, false, cond, List, [], ◌∷◌, None, refl, sym, ◌∙◌, subst, bytes_eq}
use Rattle.std.specs.Prelude.{codes}
use Rattle.std.proofs.lemmas.Bool.{false≢true}
use Rattle.std.proofs.lemmas.Option.{none-some}
use Rattle.pks_terms.specs.Sets.{IsIn}
use Rattle.pks_text.specs.Forms.{Form, Forms, no_forms, form}
use Rattle.pks_reader_shape.specs.declared.grammar.Version.{Version}
use Rattle.pks_reader_shape.specs.declared.grammar.Version.TheVariants.{First, Second}
use Rattle.pks_reader_shape.specs.declared.grammar.Sort.{Sort}
use Rattle.pks_reader_shape.specs.declared.grammar.Sort.TheVariants as sort
use Rattle.pks_reader_shape.specs.declared.grammar.Part.{Part}
use Rattle.pks_reader_shape.specs.declared.grammar.Part.TheVariants.{One, Maybe, Many}
use Rattle.pks_reader_shape.specs.Grammar.{lists, is_allowed}
use Rattle.pks_reader_shape.specs.Walk.{head_of, is_headed}
use Rattle.pks_reader_shape.specs.Language.{IsOf, word, listing, Matches, nothing, one, left_out, there, no_more, again}
use Rattle.pks_reader_names.specs.Parts.{parts_of, behind, behind_head, section}
use Rattle.pks_reader_names.specs.Declarations.{actions_among}
use Rattle.pks_laws_reader.specs.Facts.{EachForm}
use Rattle.pks_laws_reader.proofs.Shapes.{each_of, some_of, of_lists}

-- ---- lists by their heads

-- a statement that is needed where the test is passed
abbrev pub Where : Bool → Type 0 → Type 0
Where true P = P
Where false P = Unit {0}

module _ (v : Version) (h : List ℕ) (P : List Part → Type 0) where
  -- P holds of the parts of each of these lists that has this head
  abbrev pub AreLed : List (List ℕ × List Part) → Type 0
  AreLed [] = Unit {0}
  AreLed (q ∷ qs) = Where (bytes_eq q.0 h) (P q.1) × AreLed qs

  led_in : (qs : List (List ℕ × List Part)) → AreLed qs → (head : List ℕ) (ps : List Part) → IsIn (head, ps) qs → bytes_eq head h ≡ true → P ps
  led_in [] led head ps i e = absurd i
  led_in (q ∷ qs) led head ps (inl same) e = subst (λ (b : Bool). Where b (P ps)) e (subst (λ (q : List ℕ × List Part). Where (bytes_eq q.0 h) (P q.1)) same led.0)
  led_in (q ∷ qs) led head ps (inr i) e = led_in qs led.1 head ps i e

  -- of those of a sort
  abbrev pub IsLed : Sort → Type 0
  IsLed s = AreLed (lists v s).fixed × ((lists v s).other ≡ None)

  led_form : (s : Sort) → IsLed s → (f : Form) → IsOf v s f → is_headed h f ≡ true → (ps : List Part) × P ps × Matches v ps (parts_of f)
  led_form s led _ (word _ text at allowed) e = absurd (false≢true e)
  led_form s led _ (listing _ parts at end ps (inl found) m) e = (ps, led_in (lists v s).fixed led.0 (head_of parts) ps found e, m)
  led_form s led _ (listing _ parts at end ps (inr rest) m) e = absurd (none-some ps (sym led.1 ∙ rest.0))

  -- of those of each part
  abbrev pub AllLed : List Part → Type 0
  AllLed [] = Unit {0}
  AllLed (One s ∷ ps) = IsLed s × AllLed ps
  AllLed (Maybe s ∷ ps) = IsLed s × AllLed ps
  AllLed (Many s ∷ ps) = IsLed s × AllLed ps

  module _ (Q : Forms → Type 0) (q : Q no_forms) (here : (f : Form) → (ps : List Part) × P ps × Matches v ps (parts_of f) → Q (behind_head f)) where
    by_head : (s : Sort) → IsLed s → (f : Form) (fs : Forms) → IsOf v s f → Q (section h fs) → Q (section h (form f fs))
    by_head s led f fs is later = by_test (is_headed h f) (λ e. here f (led_form s led f is e))
      where
        by_test : (b : Bool) → (b ≡ true → Q (behind_head f)) → Q (cond b (behind_head f) (section h fs))
        by_test true here = here refl
        by_test false here = later

    -- what holds behind each form with this head holds of the section
    pub led_section : (ps : List Part) → AllLed ps → (fs : Forms) → Matches v ps fs → Q (section h fs)
    led_section _ led _ nothing = q
    led_section _ led _ (one s ps f fs is m) = by_head s led.0 f fs is (led_section ps led.1 fs m)
    led_section _ led _ (left_out s ps fs m) = led_section ps led.1 fs m
    led_section _ led _ (there s ps f fs is m) = by_head s led.0 f fs is (led_section ps led.1 fs m)
    led_section _ led _ (no_more s ps fs m) = led_section ps led.1 fs m
    led_section _ led _ (again s ps f fs is m) = by_head s led.0 f fs is (led_section (Many s ∷ ps) led fs m)

-- lists with this head have these parts behind it
abbrev pub Have : List Part → List Part → Type 0
Have qs ps = ps ≡ One sort.Head ∷ qs

-- what holds of nothing and of these parts holds of the section that has them
pub section_holds : (v : Version) (h : List ℕ) (qs : List Part) (Q : Forms → Type 0) → Q no_forms → ((gs : Forms) → Matches v qs gs → Q gs) → (ps : List Part) → AllLed v h (Have qs) ps → (fs : Forms) → Matches v ps fs → Q (section h fs)
section_holds v h qs Q q h' = led_section v h (Have qs) Q q (λ f r. h' (behind_head f) (behind_parts (parts_of f) (subst (λ (ps : List Part). Matches v ps (parts_of f)) r.1 r.2)))
  where
    behind_parts : (fs : Forms) → Matches v (One sort.Head ∷ qs) fs → Matches v qs (behind fs)
    behind_parts _ (one _ _ f fs is m) = m

many_section : (v : Version) (h : List ℕ) (s : Sort) (ps : List Part) → AllLed v h (Have (Many s ∷ [])) ps → (fs : Forms) → Matches v ps fs → EachForm (IsOf v s) (section h fs)
many_section v h s = section_holds v h (Many s ∷ []) (EachForm (IsOf v s)) tt (each_of v s)

-- ---- actions

-- what stands behind `action`
abbrev pub action_parts : List Part
action_parts = One sort.Name ∷ Maybe sort.Cost ∷ Maybe sort.Params ∷ Maybe sort.Pre ∷ Maybe sort.Effects ∷ Maybe sort.Senses ∷ Maybe sort.Knows ∷ []

pub action_is : (v : Version) (f : Form) → IsOf v sort.Action f → Matches v action_parts (behind_head f)
unfolding lists is_allowed
action_is First = of_lists First (λ f. Matches First action_parts (behind_head f)) sort.Action (λ text. refl) (λ a at end rest m. by_name rest m, tt) tt
  where
    by_name : (fs : Forms) → Matches First (One sort.Name ∷ Maybe sort.Params ∷ Maybe sort.Pre ∷ Maybe sort.Effects ∷ Maybe sort.Senses ∷ Maybe sort.Knows ∷ []) fs → Matches First action_parts fs
    by_name _ (one s ps f fs is m) = one s (Maybe sort.Cost ∷ ps) f fs is (left_out sort.Cost ps fs m)
action_is Second = of_lists Second (λ f. Matches Second action_parts (behind_head f)) sort.Action (λ text. refl) (λ a at end rest m. m, tt) tt

-- in the first version there is no cost
pub no_cost : (f : Form) → IsOf First sort.Action f → section (codes "cost") (behind_head f) ≡ no_forms
unfolding lists is_allowed
no_cost = of_lists First (λ f. section (codes "cost") (behind_head f) ≡ no_forms) sort.Action (λ text. refl)
    (λ a at end rest m. led_section First (codes "cost") (λ ps. ⊥) (λ gs. gs ≡ no_forms) refl (λ f r. absurd r.1) _ (search) rest m, tt) tt

module _ (v : Version) (fs : Forms) (m : Matches v action_parts fs) where
  pub params_are : EachForm (IsOf v sort.Param) (section (codes "params") fs)
  unfolding lists
  params_are = many_section v (codes "params") sort.Param action_parts (search) fs m

  pub pre_are : EachForm (IsOf v sort.Query) (section (codes "pre") fs)
  unfolding lists
  pre_are = many_section v (codes "pre") sort.Query action_parts (search) fs m

  pub effects_are : EachForm (IsOf v sort.Effect) (section (codes "effects") fs)
  unfolding lists
  effects_are = many_section v (codes "effects") sort.Effect action_parts (search) fs m

  pub senses_are : EachForm (IsOf v sort.Sense) (section (codes "senses") fs)
  unfolding lists
  senses_are = many_section v (codes "senses") sort.Sense action_parts (search) fs m

  pub knows_are : EachForm (IsOf v sort.Add) (section (codes "knows") fs)
  unfolding lists
  knows_are = many_section v (codes "knows") sort.Add action_parts (search) fs m

  pub cost_holds : (Q : Forms → Type 0) → Q no_forms → ((gs : Forms) → Matches v (One sort.Number ∷ []) gs → Q gs) → Q (section (codes "cost") fs)
  unfolding lists
  cost_holds Q q h = section_holds v (codes "cost") (One sort.Number ∷ []) Q q h action_parts (search) fs m

-- ---- domains

-- what stands behind `domain`
abbrev pub domain_parts : List Part
domain_parts = Maybe sort.Types ∷ Maybe sort.Objects ∷ Maybe sort.Predicates ∷ Maybe sort.Functions ∷ Many sort.Action ∷ []

pub domain_is : (v : Version) (f : Form) → IsOf v sort.Domain f → Matches v domain_parts (behind_head f)
unfolding lists is_allowed
domain_is v = of_lists v (λ f. Matches v domain_parts (behind_head f)) sort.Domain (λ text. refl) (λ a at end rest m. m, tt) tt

module _ (v : Version) (fs : Forms) (m : Matches v domain_parts fs) where
  pub types_are : EachForm (IsOf v sort.Kind) (section (codes "types") fs)
  unfolding lists
  types_are = many_section v (codes "types") sort.Kind domain_parts (search) fs m

  pub objects_are : EachForm (IsOf v sort.Entry) (section (codes "objects") fs)
  unfolding lists
  objects_are = many_section v (codes "objects") sort.Entry domain_parts (search) fs m

  pub predicates_are : EachForm (IsOf v sort.Entry) (section (codes "predicates") fs)
  unfolding lists
  predicates_are = many_section v (codes "predicates") sort.Entry domain_parts (search) fs m

  pub functions_are : EachForm (IsOf v sort.Function) (section (codes "functions") fs)
  unfolding lists
  functions_are = many_section v (codes "functions") sort.Function domain_parts (search) fs m

-- sections that aren't actions, and then actions
abbrev Precede : Version → List Part → Type 0
Precede v [] = Unit {0}
Precede v (One s ∷ ps) = IsLed v (codes "action") (λ ps. ⊥) s × Precede v ps
Precede v (Maybe s ∷ ps) = IsLed v (codes "action") (λ ps. ⊥) s × Precede v ps
Precede v (Many s ∷ ps) = Many s ∷ ps ≡ Many sort.Action ∷ []

among_actions : (v : Version) (f : Form) (fs : Forms) → (is_headed (codes "action") f ≡ true → EachForm (IsOf v sort.Action) (form f fs)) → EachForm (IsOf v sort.Action) (actions_among fs) → EachForm (IsOf v sort.Action) (actions_among (form f fs))
among_actions v f fs here later = by_test (is_headed (codes "action") f) here
  where
    by_test : (b : Bool) → (b ≡ true → EachForm (IsOf v sort.Action) (form f fs)) → EachForm (IsOf v sort.Action) (cond b (form f fs) (actions_among fs))
    by_test true here = here refl
    by_test false here = later

actions_in : (v : Version) (ps : List Part) → Precede v ps → (fs : Forms) → Matches v ps fs → EachForm (IsOf v sort.Action) (actions_among fs)
actions_in v _ led _ nothing = tt
actions_in v _ led _ (one s ps f fs is m) = among_actions v f fs (λ e. absurd (led_form v (codes "action") (λ ps. ⊥) s led.0 f is e).1) (actions_in v ps led.1 fs m)
actions_in v _ led _ (left_out s ps fs m) = actions_in v ps led.1 fs m
actions_in v _ led _ (there s ps f fs is m) = among_actions v f fs (λ e. absurd (led_form v (codes "action") (λ ps. ⊥) s led.0 f is e).1) (actions_in v ps led.1 fs m)
actions_in v _ same _ (no_more s ps fs m) = all_actions fs (each_of v sort.Action fs (subst (λ (ps : List Part). Matches v ps fs) same (no_more s ps fs m)))
  where
    all_actions : (fs : Forms) → EachForm (IsOf v sort.Action) fs → EachForm (IsOf v sort.Action) (actions_among fs)
    all_actions no_forms are = tt
    all_actions (form f fs) are = among_actions v f fs (λ e. are) (all_actions fs are.1)
actions_in v _ same _ (again s ps f fs is m) =
    let are = each_of v sort.Action (form f fs) (subst (λ (ps : List Part). Matches v ps (form f fs)) same (again s ps f fs is m)) in
    among_actions v f fs (λ e. are) (actions_in v (Many s ∷ ps) same fs m)

pub actions_are : (v : Version) (fs : Forms) → Matches v domain_parts fs → EachForm (IsOf v sort.Action) (actions_among fs)
unfolding lists
actions_are v = actions_in v domain_parts search

-- ---- problems

-- what stands behind `problem`
abbrev pub problem_parts : List Part
problem_parts = Maybe sort.Init ∷ One sort.Goal ∷ []

pub problem_is : (v : Version) (f : Form) → IsOf v sort.Problem f → Matches v problem_parts (behind_head f)
unfolding lists is_allowed
problem_is v = of_lists v (λ f. Matches v problem_parts (behind_head f)) sort.Problem (λ text. refl) (λ a at end rest m. m, tt) tt

module _ (v : Version) (fs : Forms) (m : Matches v problem_parts fs) where
  pub init_are : EachForm (IsOf v sort.Start) (section (codes "init") fs)
  unfolding lists
  init_are = many_section v (codes "init") sort.Start problem_parts (search) fs m

  pub goal_are : EachForm (IsOf v sort.Aim) (section (codes "goal") fs)
  unfolding lists
  goal_are = section_holds v (codes "goal") (One sort.Aim ∷ Many sort.Aim ∷ []) (EachForm (IsOf v sort.Aim)) tt (some_of v sort.Aim) problem_parts (search) fs m
