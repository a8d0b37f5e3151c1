-- The arguments of a ground action.
use Rattle.std.proofs.Common.{◌≡◌, ℕ, List, [], ◌∷◌, map, take, length, get_or, sym, ap, ◌∙◌}
use Rattle.std.proofs.lemmas.List.{take-map}
use Rattle.pks_terms.specs.declared.ids.ObjId.{ObjId}
use Rattle.pks_terms.specs.declared.term.Inner as inner
use Rattle.pks_terms.specs.declared.term.Inner.TheVariants as inner_is
use Rattle.pks_terms.specs.Syntax.{Inner, Object}
use Rattle.pks_terms.specs.Worlds.{World, inner_value}
use Rattle.pks_terms.specs.Views.{inner_of}

-- the values one by one
four_values : (w : World) (given : List inner.Inner) (filler : inner.Inner) (d e f g : ObjId) → length given ≡ 4
    → d.0 ≡ inner_value w (inner_of (get_or given 0 filler)) → e.0 ≡ inner_value w (inner_of (get_or given 1 filler))
    → f.0 ≡ inner_value w (inner_of (get_or given 2 filler)) → g.0 ≡ inner_value w (inner_of (get_or given 3 filler))
    → map inner_of (inner_is.Obj d ∷ inner_is.Obj e ∷ inner_is.Obj f ∷ inner_is.Obj g ∷ []) ≡ map (λ t. Object (inner_value w t)) (map inner_of given)
four_values w (a ∷ b ∷ c ∷ x ∷ []) filler d e f g long h j k m = λ i. Object (h i) ∷ Object (j i) ∷ Object (k i) ∷ Object (m i) ∷ []
four_values w [] filler d e f g long h j k m = cc
four_values w (a ∷ []) filler d e f g long h j k m = cc
four_values w (a ∷ b ∷ []) filler d e f g long h j k m = cc
four_values w (a ∷ b ∷ c ∷ []) filler d e f g long h j k m = cc
four_values w (a ∷ b ∷ c ∷ x ∷ y ∷ more) filler d e f g long h j k m = cc

-- of the first ones
pub first_values : (w : World) (n : ℕ) (given : List inner.Inner) (filler : inner.Inner) (d e f g : ObjId) → length given ≡ 4
    → d.0 ≡ inner_value w (inner_of (get_or given 0 filler)) → e.0 ≡ inner_value w (inner_of (get_or given 1 filler))
    → f.0 ≡ inner_value w (inner_of (get_or given 2 filler)) → g.0 ≡ inner_value w (inner_of (get_or given 3 filler))
    → map inner_of (take n (inner_is.Obj d ∷ inner_is.Obj e ∷ inner_is.Obj f ∷ inner_is.Obj g ∷ [])) ≡ map (λ t. Object (inner_value w t)) (map inner_of (take n given))
first_values w n given filler d e f g long h j k m =
    let ground : Inner → Inner = λ t. Object (inner_value w t) in
    sym (take-map inner_of n (inner_is.Obj d ∷ inner_is.Obj e ∷ inner_is.Obj f ∷ inner_is.Obj g ∷ []))
    ∙ (ap (take n) (four_values w given filler d e f g long h j k m) ∙ (take-map ground n (map inner_of given) ∙ ap (map ground) (take-map inner_of n given)))
