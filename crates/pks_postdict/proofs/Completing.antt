-- News that complete what is known.
use Rattle.std.proofs.Common.{◌≡◌, List, [], ◌++◌, sym, ◌∙◌, subst, inl, inr, ⊎_elim}
use Rattle.pks_terms.specs.Sets.{IsIn, IsOrdered, added}
use Rattle.pks_terms.specs.Syntax.{Literal}
use Rattle.pks_terms.specs.Orders.{literal_cmp}
use Rattle.pks_terms.specs.Totality.{literal_cmp_total}
use Rattle.pks_terms.specs.Databases.{Five}
use Rattle.pks_terms.specs.Saturated.{Within}
use Rattle.pks_terms.proofs.ListLaws.{in_appended}
use Rattle.pks_terms.proofs.OrderLaws.{literal_cmp_tells}
use Rattle.pks_terms.proofs.SetLaws.{ordered_added, in_added, added_in, same_members}
use Rattle.pks_laws.proofs.Least.{in_left, in_right, within_append}
use Rattle.pks_query_closing.specs.Rounds.{HaveSameMembers}
use Rattle.pks_postdict_rules.specs.News.{Completes}

pub completes_members : (kf news all : List Literal) → HaveSameMembers news all → Completes kf news all
completes_members kf news all h = record { sound = h.0; whole = λ l i. inr (h.1 l i) }

pub completes_none : (kf news all : List Literal) → news ≡ [] → Within all kf → Completes kf news all
completes_none kf news all e w = record { sound = λ l i. absurd (subst (IsIn l) e i); whole = λ l i. inl (w l i) }

pub completes_append : (kf a b all more : List Literal) → Completes kf a all → Completes kf b more → Completes kf (a ++ b) (all ++ more)
completes_append kf a b all more p q = record {
  sound = within_append a b all more p.sound q.sound;
  whole = λ l i. ⊎_elim
      (λ j. ⊎_elim (λ k. inl k) (λ k. inr (in_left a b l k)) (p.whole l j))
      (λ j. ⊎_elim (λ k. inl k) (λ k. inr (in_right a b l k)) (q.whole l j))
      (in_appended all more l i);
}

completes_added : (kf news all : List Literal) → IsOrdered literal_cmp kf → Completes kf news all → added literal_cmp kf news ≡ added literal_cmp kf all
completes_added kf news all o c =
    same_members literal_cmp_total literal_cmp_tells (added literal_cmp kf news) (added literal_cmp kf all)
    (ordered_added literal_cmp_total literal_cmp_tells kf news o)
    (ordered_added literal_cmp_total literal_cmp_tells kf all o)
    (λ l i. added_in literal_cmp_total literal_cmp_tells kf all l (⊎_elim (λ j. inl j) (λ j. inr (c.sound l j)) (in_added literal_cmp_total literal_cmp_tells kf news l i)))
    (λ l i. added_in literal_cmp_total literal_cmp_tells kf news l (⊎_elim (λ j. inl j) (λ j. c.whole l j) (in_added literal_cmp_total literal_cmp_tells kf all l i)))

-- with such news known, all is
pub grown_completed : (d e : Five) (news all : List Literal) → e ≡ record d { kf = added literal_cmp d.kf news } → IsOrdered literal_cmp d.kf → Completes d.kf news all → e ≡ record d { kf = added literal_cmp d.kf all }
grown_completed d e news all known o c = known ∙ (λ i. record d { kf = completes_added d.kf news all o c i })
