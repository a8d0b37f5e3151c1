-- What an action makes of a region's list: the atoms that were there, and the normal forms of those that it may set.
use Rattle.std.proofs.Common.{◌≡◌, ◌⊎◌, ◌&&◌, ◌==◌, Bool, true, false, cond, not, List, [], ◌∷◌, map, Option, Some, None, refl, sym, ap, ◌∙◌, subst, inl, inr, ⊎_elim, true≢false}
use Rattle.std.proofs.lemmas.Bool.{and_from}
use Rattle.std.proofs.lemmas.Option.{same_Some, cond_some, option_and_then_some}
use Rattle.pks_terms.specs.Sets.{IsIn, insert_in, IsOrdered}
use Rattle.pks_terms.specs.Syntax.{Atom, Pattern}
use Rattle.pks_terms.specs.Orders.{atom_cmp}
use Rattle.pks_terms.specs.Totality.{atom_cmp_total}
use Rattle.pks_terms.specs.Signatures.{Signature}
use Rattle.pks_terms.specs.Databases.{Five, normal}
use Rattle.pks_terms.specs.Closure.{normal_atom}
use Rattle.pks_terms.specs.Actions.{Target, Set, Unset, Clear, Assign, Effect}
use Rattle.pks_terms.specs.Spoiling.{may_fire, some_fixed_differ, are_stable}
use Rattle.pks_terms.specs.Progress.{widened_by, widened}
use Rattle.pks_terms.proofs.OrderLaws.{atom_cmp_tells}
use Rattle.pks_terms.proofs.SetLaws.{ordered_insert, in_inserted, inserted_in}

module _ (s : Signature) (d : Five) (x : Pattern) where
  -- the target may set an instance of the pattern
  abbrev pub meets : Target → Bool
  meets (Set a) = (a.predicate == x.predicate) && not (some_fixed_differ s d.kf x.slots a.arguments)
  meets (Unset a) = false
  meets (Clear y) = false
  meets (Assign f ts v) = false

  -- the effect may set one
  abbrev pub joins : Effect → Bool
  joins e = may_fire s d e && meets e.target

module _ (s : Signature) (d : Five) (es : List Effect) (x : Pattern) where
  -- the atom is the normal form of one that the effect may set
  pub record Joined (e : Effect) (b : Atom) : Type 0 where
    pub atom : Atom
    pub is_set : e.target ≡ Set atom
    pub joined : joins s d x e ≡ true
    pub normal_is : normal_atom d.kf atom ≡ b
    pub stable : are_stable s d es (map (normal d.kf) atom.arguments) ≡ true

  record Wider (e : Effect) (listed more : List Atom) : Type 0 where
    keeps : (b : Atom) → IsIn b listed → IsIn b more
    from : (b : Atom) → IsIn b more → IsIn b listed ⊎ Joined e b
    has : joins s d x e ≡ true → (b : Atom) × IsIn b more × Joined e b
    ordered : IsOrdered atom_cmp listed → IsOrdered atom_cmp more

  stays : (e : Effect) (listed more : List Atom) → joins s d x e ≡ false → listed ≡ more → Wider e listed more
  stays e listed more n q = record {
    keeps = λ b i. subst (IsIn b) q i;
    from = λ b i. inl (subst (IsIn b) (sym q) i);
    has = λ h. absurd (true≢false (sym h ∙ n));
    ordered = λ o. subst (IsOrdered atom_cmp) q o;
  }

  misses : (e : Effect) (t : Target) → e.target ≡ t → meets s d x t ≡ false → joins s d x e ≡ false
  misses e t q n = ap (λ t. may_fire s d e && meets s d x t) q ∙ ap (λ b. may_fire s d e && b) n ∙ false_right (may_fire s d e)
    where
      false_right : (b : Bool) → (b && false) ≡ false
      false_right true = refl
      false_right false = refl

  by_target : (e : Effect) (listed more : List Atom) → may_fire s d e ≡ true → (t : Target) → e.target ≡ t → widened_by s d es x t listed ≡ Some more → Wider e listed more
  by_target e listed more fire (Set a) q h =
      elim (meets s d x (Set a)) as (λ c. meets s d x (Set a) ≡ c → cond c (cond (are_stable s d es (map (normal d.kf) a.arguments)) (Some (insert_in atom_cmp (normal_atom d.kf a) listed)) None) (Some listed) ≡ Some more → Wider e listed more) [
        | false ↦ λ n r. stays e listed more (misses e (Set a) q n) (same_Some listed more r)
        | true ↦ λ n r.
            let parts = cond_some (are_stable s d es (map (normal d.kf) a.arguments)) (insert_in atom_cmp (normal_atom d.kf a) listed) more r in
            let one : Joined e (normal_atom d.kf a) = record { atom = a; is_set = q; joined = and_from _ _ fire (ap (meets s d x) q ∙ n); normal_is = refl; stable = parts.0 } in
            record {
              keeps = λ b i. subst (IsIn b) parts.1 (inserted_in atom_cmp_total atom_cmp_tells (normal_atom d.kf a) listed b (inr i));
              from = λ b i. ⊎_elim (λ k. inr (subst (Joined e) k one)) (λ k. inl k) (in_inserted atom_cmp_total atom_cmp_tells (normal_atom d.kf a) listed b (subst (IsIn b) (sym parts.1) i));
              has = λ j. (normal_atom d.kf a, subst (IsIn (normal_atom d.kf a)) parts.1 (inserted_in atom_cmp_total atom_cmp_tells (normal_atom d.kf a) listed (normal_atom d.kf a) (inl refl)), one);
              ordered = λ o. subst (IsOrdered atom_cmp) parts.1 (ordered_insert atom_cmp_total atom_cmp_tells (normal_atom d.kf a) listed o);
            }
      ] refl h
  by_target e listed more fire (Unset a) q h = stays e listed more (misses e (Unset a) q refl) (same_Some listed more h)
  by_target e listed more fire (Clear y) q h = stays e listed more (misses e (Clear y) q refl) (same_Some listed more h)
  by_target e listed more fire (Assign f ts v) q h = stays e listed more (misses e (Assign f ts v) q refl) (same_Some listed more h)

  abbrev one_wider : Effect → List Atom → Option (List Atom)
  one_wider e listed = cond (may_fire s d e) (widened_by s d es x e.target listed) (Some listed)

  one_wide : (e : Effect) (listed more : List Atom) → one_wider e listed ≡ Some more → Wider e listed more
  one_wide e listed more h =
      elim (may_fire s d e) as (λ c. may_fire s d e ≡ c → cond c (widened_by s d es x e.target listed) (Some listed) ≡ Some more → Wider e listed more) [
        | true ↦ λ q r. by_target e listed more q e.target refl r
        | false ↦ λ q r. stays e listed more (ap (λ b. b && meets s d x e.target) q) (same_Some listed more r)
      ] refl h

  -- what the effects make of the list
  pub record Widens (rest : List Effect) (listed all : List Atom) : Type 0 where
    pub keeps : (b : Atom) → IsIn b listed → IsIn b all
    pub from : (b : Atom) → IsIn b all → IsIn b listed ⊎ ((e : Effect) × IsIn e rest × Joined e b)
    pub has : (e : Effect) → IsIn e rest → joins s d x e ≡ true → (b : Atom) × IsIn b all × Joined e b
    pub ordered : IsOrdered atom_cmp listed → IsOrdered atom_cmp all

  pub wide : (rest : List Effect) (listed all : List Atom) → widened s d es x rest listed ≡ Some all → Widens rest listed all
  wide [] listed all h =
      let q = same_Some listed all h in
      record {
        keeps = λ b i. subst (IsIn b) q i;
        from = λ b i. inl (subst (IsIn b) (sym q) i);
        has = λ e i j. absurd i;
        ordered = λ o. subst (IsOrdered atom_cmp) q o;
      }
  wide (e ∷ rest) listed all h =
      option_and_then_some (widened s d es x rest) (one_wider e listed) all h (λ more k r.
      let w = one_wide e listed more k in
      let z = wide rest more all r in
      record {
        keeps = λ b i. z.keeps b (w.keeps b i);
        from = λ b i. ⊎_elim (λ n. ⊎_elim (λ l. inl l) (λ j. inr (e, inl refl, j)) (w.from b n)) (λ n. inr (n.0, inr n.1, n.2)) (z.from b i);
        has = λ f i j. ⊎_elim (λ q. let o = w.has (subst (λ g. joins s d x g ≡ true) (sym q) j) in (o.0, z.keeps o.0 o.1, subst (λ g. Joined g o.0) q o.2)) (λ n. z.has f n j) i;
        ordered = λ o. z.ordered (w.ordered o);
      })
