-- A term whose normal form is another object is shut out of an object.
use Rattle.std.proofs.Common.{◌≡◌, ℕ, true, false, not, cond, [], ◌∷◌, map, is_lt, ◌==◌, sym, ap, ◌∙◌}
use Rattle.std.proofs.lemmas.Bool.{or_left, or_right, eqb-false, ne_eqb}
use Rattle.pks_terms.specs.Syntax.{Object, Term, object, Equality}
use Rattle.pks_terms.specs.Orders.{term_cmp, in_order, literal, inequation}
use Rattle.pks_terms.specs.Signatures.{Signature}
use Rattle.pks_terms.specs.Databases.{Five, normal, is_known, is_evident, is_plain, holds}
use Rattle.pks_query_closing.specs.Possible.{IsOther}

pub other_shut_out : (s : Signature) (d : Five) (t u : Term) (e : ℕ) → u ≡ normal d.kf t → IsOther u e → holds s d (inequation t (object e)) ≡ true
unfolding holds is_plain normal literal
other_shut_out s d t u e form other =
    or_left _ _ (or_right (is_known d.kf (inequation t (object e))) _ evident)
  where
    own : normal d.kf t ≡ Object other.own
    own = sym form ∙ other.is

    ahead : not (other.own == e) ≡ true
    ahead = ap not other.other

    behind : not (e == other.own) ≡ true
    behind = ap not (ne_eqb e other.own (λ q. eqb-false other.own e other.other (sym q)))

    evident : is_evident s Equality (map (normal d.kf) (in_order Equality (t ∷ object e ∷ []))) false ≡ true
    evident =
        elim (is_lt (term_cmp t (object e))) as (λ b. is_evident s Equality (map (normal d.kf) (cond b (object e ∷ t ∷ []) (t ∷ object e ∷ []))) false ≡ true) [
          | true ↦ ap (λ x. is_evident s Equality (object e ∷ x ∷ []) false) own ∙ behind
          | false ↦ ap (λ x. is_evident s Equality (x ∷ object e ∷ []) false) own ∙ ahead
        ]
