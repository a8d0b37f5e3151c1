-- Literals that are true wherever aims are so, gathered one after another.
use Rattle.std.proofs.Common.{◌≡◌, ◌≤◌, ◌-◌, ◌++◌, true, List, [], ◌∷◌, map, take, drop, get_or, length, subst, sym}
use Rattle.std.proofs.lemmas.List.{map_push}
use Rattle.pks_terms.specs.Sets.{Each}
use Rattle.pks_terms.specs.Syntax.{Literal}
use Rattle.pks_terms.specs.Worlds.{World, true_in}
use Rattle.pks_terms.specs.Problems.{Aim}
use Rattle.pks_terms.specs.Views.{literal_of, literals_in, aim_of}
use Rattle.pks_terms.specs.declared.literal.Literal as literal
use Rattle.pks_terms.specs.declared.problem.Aim as aim
use Rattle.pks_search_distance.specs.Runs.{IsAim}
use Rattle.pks_search_distance.specs.Counted.{AddsWanted}
use Rattle.pks_search_distance.proofs.Lists.{first_and_others}

pub each_push : {X : Type 0} (P : X → Type 0) (xs : List X) (x : X) → Each P xs → P x → Each P (xs ++ x ∷ [])
each_push P [] x k h = (h, tt)
each_push P (y ∷ xs) x k h = (k.0, each_push P xs x k.1 h)

-- nothing more
pub adds_none : (aims : List Aim) (ls : List Literal) → AddsWanted aims ls ls
adds_none aims ls w so k = k

-- one that the aim asks for
pub adds_one : (a : Aim) (ls : List literal.Literal) (l : literal.Literal) → ((w : World) → IsAim w a → true_in w (literal_of l) ≡ true) → AddsWanted (a ∷ []) (literals_in ls) (literals_in (ls ++ l ∷ []))
adds_one a ls l asks w so k = subst (Each (λ l. true_in w l ≡ true)) (sym (map_push literal_of ls l)) (each_push (λ l. true_in w l ≡ true) (literals_in ls) (literal_of l) k (asks w so.0))

-- what the first aim asks for, and then the others
pub adds_all : (a : Aim) (rest : List Aim) (old mid new : List Literal) → AddsWanted (a ∷ []) old mid → AddsWanted rest mid new → AddsWanted (a ∷ rest) old new
adds_all a rest old mid new f g w so k = g w so.1 (f w (so.0, tt) k)

-- the same of a list that isn't empty
pub adds_split : (aims : List aim.Aim) (d : aim.Aim) (old mid new : List Literal) → 1 ≤ length aims → AddsWanted (aim_of (get_or aims 0 d) ∷ []) old mid → AddsWanted (map aim_of (take (length aims - 1) (drop 1 aims))) mid new → AddsWanted (map aim_of aims) old new
adds_split aims d old mid new h f g =
    subst (λ xs. AddsWanted xs old new) (sym (first_and_others aim_of aims d h)) (adds_all (aim_of (get_or aims 0 d)) (map aim_of (take (length aims - 1) (drop 1 aims))) old mid new f g)
