-- What an effect may be barred from doing, and actions that are done.
use Rattle.std.specs.Prelude.{ℕ, Bool, false, not, ◌&&◌, List, map}
use Rattle.pks_terms.specs.declared.schema.Effect.{Effect as DEffect}
use Rattle.pks_terms.specs.declared.schema.Instance.{Instance as DInstance}
use Rattle.pks_terms.specs.Orders.{number_of, arguments_of}
use Rattle.pks_terms.specs.Actions.{Target, Effect, effect_at}
use Rattle.pks_terms.specs.Views.{term_of, terms_of, pattern_of, effect_of, given_of}
use Rattle.pks_terms.specs.Judging.{Judge}
use Rattle.pks_terms.specs.Reasons.{would_make_true, would_make_false, would_change, would_widen, assigns_other}
use Rattle.pks_proof.specs.declared.barring.Doing as doing
use Rattle.pks_proof.specs.declared.barring.Doing.TheVariants as doing_is
use Rattle.pks_proof.specs.declared.barring.Transition.{Transition}
use Rattle.pks_proof_cited.specs.CitedViews.{judge_of}

-- the target would do so
abbrev pub would_of : Judge → ℕ → doing.Doing → Target → Bool
would_of j m doing_is.Nothing x = false
would_of j m (doing_is.MakingTrue p ts) x = would_make_true j m p.0 (terms_of ts.now) x
would_of j m (doing_is.MakingFalse p ts) x = would_make_false j m p.0 (terms_of ts.now) x
would_of j m (doing_is.Changing t) x = would_change j m (number_of (term_of t.now)) (arguments_of (term_of t.now)) x
would_of j m (doing_is.Assigning t value) x = would_change j m (number_of (term_of t.now)) (arguments_of (term_of t.now)) x && not (assigns_other j m (term_of value.now) x)
would_of j m (doing_is.Widening y) x = would_widen j m (pattern_of y.now) x

-- effects with the arguments of an instance
abbrev pub effects_at : DInstance → List DEffect → List Effect
effects_at i es = map (effect_at (given_of i)) (map effect_of es)

-- the effects of the action
abbrev pub effects_by : Transition → List Effect
effects_by d = effects_at d.instance.now d.effects.now

-- what is cited, and the moment before the action
abbrev pub before_in : Transition → Judge
before_in d = judge_of d.before

abbrev pub moment_in : Transition → ℕ
moment_in d = d.before.moment
