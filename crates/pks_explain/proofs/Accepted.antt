-- Entries that are tested one after another.
use Rattle.std.proofs.Common.{◌≡◌, true, List, [], ◌∷◌, ◌++◌, map, append_assoc, append-nil, refl, sym, ap, ◌∙◌}
use Rattle.pks_terms.specs.Sets.{Each}
use Rattle.pks_terms.specs.Syntax.{Literal}
use Rattle.pks_terms.specs.Problems.{Problem}
use Rattle.pks_terms.specs.Proofs.{Path}
use Rattle.pks_terms.specs.Trees.{Tree}
use Rattle.pks_terms.specs.Accepting.{accepts}
use Rattle.pks_terms.specs.Explained.{Entry, owed, IsExplained}
use Rattle.pks_terms.proofs.ListLaws.{each_append}
use Rattle.pks_explain.specs.Accepted.{part_of, IsProved, AreProved}

parts_more : (done : List Entry) (e : Entry) → map part_of (done ++ e ∷ []) ≡ map part_of done ++ part_of e ∷ []
parts_more [] e = refl
parts_more (x ∷ xs) e = ap (λ ys. part_of x ∷ ys) (parts_more xs e)

module _ (p : Problem) where
  -- the entries so far are proved, and with what is left they are the whole
  pub record AreSoFar (done : List Entry) (left whole : List (Path × Literal)) : Type 0 where
    pub parts : map part_of done ++ left ≡ whole
    pub accepted : Each (λ (e : Entry). accepts p e.path e.proof e.literal ≡ true) done

  pub none_yet : (whole : List (Path × Literal)) → AreSoFar [] whole whole
  none_yet whole = record { parts = refl; accepted = tt }

  pub one_more : (done : List Entry) (one : Path × Literal) (left whole : List (Path × Literal)) (e : Entry) → AreSoFar done (one ∷ left) whole → IsProved p one e → AreSoFar (done ++ e ∷ []) left whole
  one_more done one left whole e d k = record {
    parts = ap (λ ys. ys ++ left) (parts_more done e) ∙ (append_assoc (map part_of done) (part_of e ∷ []) left ∙ (ap (λ q. map part_of done ++ q ∷ left) k.part ∙ d.parts));
    accepted = each_append (λ (e : Entry). accepts p e.path e.proof e.literal ≡ true) done (e ∷ []) d.accepted (k.accepted, tt);
  }

  pub all_done : (done : List Entry) (whole : List (Path × Literal)) → AreSoFar done [] whole → AreProved p whole done
  all_done done whole d = record { whole = sym (append-nil (map part_of done)) ∙ d.parts; accepted = d.accepted }

  pub explained : (t : Tree) (all : List (Path × Literal)) (es : List Entry) → all ≡ owed p [] t → AreProved p all es → IsExplained p t es
  explained t all es same k = record { whole = k.whole ∙ same; accepted = k.accepted }
