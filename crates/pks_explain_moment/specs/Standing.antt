-- What stands at a moment: lines of literals, values of places, and normal forms by them.
use Rattle.std.specs.Prelude.{ℕ, Bool, false, ◌||◌, is_some, List, [], ◌∷◌, map, Option, Some, None}
use Rattle.std.specs.declared.cmp.Ordering.{Ordering}
use Rattle.std.specs.Option.{option_map, option_map_or, option_or, option_and_then}
use Rattle.pks_terms.specs.Sets.{all_some}
use Rattle.pks_terms.specs.Syntax.{Object, Parameter, Apply, Inner, Term, Literal, as_object}
use Rattle.pks_terms.specs.Orders.{inner_cmp, literal_cmp, literal}
use Rattle.pks_terms.specs.Signatures.{Signature}
use Rattle.pks_terms.specs.Reasons.{is_same}
use Rattle.pks_terms.specs.Views.{inner_of, literal_of}
use Rattle.pks_pmap.specs.Entries.{get}
use Rattle.pks_explain_moment.specs.declared.moment.MomentLines.{MomentLines}
use Rattle.pks_explain_moment.specs.declared.moment.Valued.{Valued}
use Rattle.pks_explain_moment.specs.declared.normalizing.LiteralRewrite.{LiteralRewrite}

-- what a map has at the key that says k
abbrev pub found : {K L V : Type 0} → (K → L) → (L → L → Ordering) → List (K × V) → L → Option V
found says R es k = get R k (map (λ e. (says e.0, e.1)) es)

-- the literal's line at the moment: as a known one, or else as one that was shown
abbrev pub line_of : MomentLines → Literal → Option ℕ
line_of m l = option_or (found literal_of literal_cmp m.stated.known l) (found literal_of literal_cmp m.stated.shown l)

-- the equation that gives the value of a place at the moment
abbrev pub valued : MomentLines → Inner → Option Valued
valued m t = found inner_of inner_cmp m.occurring.values t

-- the value of a place at the moment
abbrev pub value_at : MomentLines → Inner → Option ℕ
value_at m t = option_map (λ by. by.value.0) (valued m t)

-- an argument's value, or itself where it has none
abbrev pub inner_normal : MomentLines → Inner → Inner
inner_normal m t = option_map_or Object (value_at m t) t

-- an application whose arguments are normal: its value, or itself where it has none
abbrev pub applied : MomentLines → ℕ → List Inner → Term
applied m f ts = option_map_or Object (option_and_then (λ ds. value_at m (Apply f ds)) (all_some (map as_object ts))) (Apply f ts)

-- the normal form of a term, its arguments first
abbrev pub normal : MomentLines → Term → Term
normal m (Object d) = Object d
normal m (Parameter i) = Parameter i
normal m (Apply f ts) = applied m f (map (inner_normal m) ts)

-- the arguments in normal form, the sides of an equation in order again
abbrev pub normal_literal : MomentLines → Literal → Literal
normal_literal m l = literal l.relation (map (normal m) l.arguments) l.positive

-- the literal has a line at the moment
abbrev pub has_line : MomentLines → Literal → Bool
has_line m l = is_some (line_of m l)

-- the literal has a line at the moment or is evident
abbrev pub stands : Signature → MomentLines → Literal → Bool
stands s m l = has_line m l || is_same s l

-- the literal has a line at the moment, or its normal form there has one or is evident
abbrev pub holds_plainly : Signature → MomentLines → Literal → Bool
holds_plainly s m l = has_line m l || stands s m (normal_literal m l)

-- the last literal of a chain of them
abbrev pub last_of : List LiteralRewrite → Option Literal
last_of [] = None
last_of (x ∷ []) = Some (literal_of x.literal)
last_of (x ∷ y ∷ xs) = last_of (y ∷ xs)

-- a chain whose last literal has a line at the moment or is evident
abbrev pub ends_standing : Signature → MomentLines → List LiteralRewrite → Bool
ends_standing s m chain = option_map_or (stands s m) (last_of chain) false
