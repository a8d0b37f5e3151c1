-- What the program's choices and sides say.
use Rattle.std.specs.Prelude.{List, map}
use Rattle.pks_terms.specs.Branching.{Choice, Act, BranchOn, CasesOn, Side, AsTrue, AsFalse, Is}
use Rattle.pks_terms.specs.Views.{term_of, conj_of, instance_of}
use Rattle.pks_terms.specs.declared.choices.Choice.{Choice as DChoice}
use Rattle.pks_terms.specs.declared.choices.Choice.TheVariants as choice_is
use Rattle.pks_terms.specs.declared.choices.Side.{Side as DSide}
use Rattle.pks_terms.specs.declared.choices.Side.TheVariants as side_is

-- a choice
abbrev pub choice_of : DChoice → Choice
choice_of (choice_is.Act i) = Act (instance_of i)
choice_of (choice_is.Branch c) = BranchOn (conj_of c)
choice_of (choice_is.Cases t) = CasesOn (term_of t)

-- the choices of a list
abbrev pub choices_of : List DChoice → List Choice
choices_of cs = map choice_of cs

-- a side
abbrev pub side_of : DSide → Side
side_of side_is.True = AsTrue
side_of side_is.False = AsFalse
side_of (side_is.Is d) = Is d.0
