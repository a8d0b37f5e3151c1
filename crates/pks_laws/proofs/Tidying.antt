-- Closed databases are true of the worlds of which the databases are.
use Rattle.std.proofs.Common.{◌≡◌, ◌&&◌, ◌||◌, ◌==◌, ℕ, zero, suc, Bool, true, false, cond, not, List, [], ◌∷◌, ◌++◌, append-nil, map, filter, Option, Some, None, option_map, Less, Equal, Greater, refl, sym, ap, ◌∙◌, subst}
use Rattle.std.specs.List.{list_any}
use Rattle.std.specs.Option.{option_map_or}
use Rattle.pks_terms.specs.Sets.{Each, exactly_one, set_of}
use Rattle.pks_terms.specs.Syntax.{Term, Literal, Atom}
use Rattle.pks_terms.specs.Orders.{term_cmp, literal_cmp, conj_cmp, atom_cmp}
use Rattle.pks_terms.specs.Signatures.{Signature}
use Rattle.pks_terms.specs.Worlds.{World, value_of, true_in, all_true_in}
use Rattle.pks_terms.specs.Databases.{Entry, entry_cmp, Five, same_objects, normal, normal_literal}
use Rattle.pks_terms.specs.Meaning.{is_instance, is_value_of, Meets, IsTrueIn, IsTrueOf}
use Rattle.pks_terms.specs.Closure.{is_application, round, rounds, put_in, all_put_in, in_sequence, normal_conj, normal_group, normal_atom, normal_entry, tidied, Outcome, Next, Clash, first_clash, Closes}
use Rattle.pks_terms.proofs.ListLaws.{each_map, each_kept, each_set_of, each_weaker, or_swapped, any_set_of, any_alike}
use Rattle.pks_terms.proofs.OrderLaws.{atom_cmp_tells}
use Rattle.pks_laws.proofs.Values.{AllTrue, value_of-normal, values-normal}
use Rattle.pks_laws.proofs.Holding.{true_in-normal}
use Rattle.pks_laws.proofs.Answering.{all_true_in-normal}
use Rattle.pks_laws.proofs.Closing.{rounds_true, no_clash}

-- the order of a group's members doesn't matter
module _ (p : Literal → Bool) where
  one_swapped : (a b c e : Bool) → cond a (not (b || c)) (cond b (not c) e) ≡ cond b (not (a || c)) (cond a (not c) e)
  one_swapped true true c e = refl
  one_swapped true false c e = refl
  one_swapped false true c e = refl
  one_swapped false false c e = refl

  any_put_in : (l : Literal) (ms : List Literal) → list_any p (put_in l ms) ≡ (p l || list_any p ms)
  any_put_in l [] = refl
  any_put_in l (m ∷ ms) =
      elim (literal_cmp l m) as (λ o. list_any p (elim o [ Less ↦ l ∷ m ∷ ms | Equal ↦ l ∷ m ∷ ms | Greater ↦ m ∷ put_in l ms ]) ≡ (p l || (p m || list_any p ms))) [
        | Less ↦ refl
        | Equal ↦ refl
        | Greater ↦ ap (λ b. p m || b) (any_put_in l ms) ∙ or_swapped (p m) (p l) (list_any p ms)
      ]

  one_put_in : (l : Literal) (ms : List Literal) → exactly_one p (put_in l ms) ≡ exactly_one p (l ∷ ms)
  one_put_in l [] = refl
  one_put_in l (m ∷ ms) =
      elim (literal_cmp l m) as (λ o. exactly_one p (elim o [ Less ↦ l ∷ m ∷ ms | Equal ↦ l ∷ m ∷ ms | Greater ↦ m ∷ put_in l ms ]) ≡ exactly_one p (l ∷ m ∷ ms)) [
        | Less ↦ refl
        | Equal ↦ refl
        | Greater ↦ (λ i. cond (p m) (not (any_put_in l ms i)) (one_put_in l ms i)) ∙ one_swapped (p m) (p l) (list_any p ms) (exactly_one p ms)
      ]

  any_moved : (ls ms : List Literal) (l : Literal) → list_any p (ls ++ put_in l ms) ≡ list_any p (l ∷ (ls ++ ms))
  any_moved [] ms l = any_put_in l ms
  any_moved (k ∷ ls) ms l = ap (λ b. p k || b) (any_moved ls ms l) ∙ or_swapped (p k) (p l) (list_any p (ls ++ ms))

  one_moved : (ls ms : List Literal) (l : Literal) → exactly_one p (ls ++ put_in l ms) ≡ exactly_one p (l ∷ (ls ++ ms))
  one_moved [] ms l = one_put_in l ms
  one_moved (k ∷ ls) ms l = (λ i. cond (p k) (not (any_moved ls ms l i)) (one_moved ls ms l i)) ∙ one_swapped (p k) (p l) (list_any p (ls ++ ms)) (exactly_one p (ls ++ ms))

  one_all_put_in : (ls ms : List Literal) → exactly_one p (all_put_in ms ls) ≡ exactly_one p (ls ++ ms)
  one_all_put_in [] ms = refl
  one_all_put_in (l ∷ ls) ms = one_all_put_in ls (put_in l ms) ∙ one_moved ls ms l

  one_in_sequence : (ls : List Literal) → exactly_one p (in_sequence ls) ≡ exactly_one p ls
  one_in_sequence ls = one_all_put_in ls [] ∙ ap (exactly_one p) (append-nil ls)

  one_alike : (f : Literal → Literal) → ((l : Literal) → p (f l) ≡ p l) → (ls : List Literal) → exactly_one p (map f ls) ≡ exactly_one p ls
  one_alike f h [] = refl
  one_alike f h (l ∷ ls) = λ i. cond (h l i) (not (any_alike p p f h ls i)) (one_alike f h ls i)

module _ (w : World) (kf : List Literal) (a : AllTrue w kf) where
  one_true-normal : (g : List Literal) → exactly_one (true_in w) (normal_group kf g) ≡ exactly_one (true_in w) g
  one_true-normal g = one_in_sequence (true_in w) (map (normal_literal kf) g) ∙ one_alike (true_in w) (normal_literal kf) (true_in-normal w kf a) g

  pub is_instance-normal : (ss : List (Option Term)) (ds : List ℕ) → is_instance w (map (option_map (normal kf)) ss) ds ≡ is_instance w ss ds
  is_instance-normal [] [] = refl
  is_instance-normal [] (d ∷ ds) = refl
  is_instance-normal (None ∷ ss) [] = refl
  is_instance-normal (None ∷ ss) (d ∷ ds) = is_instance-normal ss ds
  is_instance-normal (Some t ∷ ss) [] = refl
  is_instance-normal (Some t ∷ ss) (d ∷ ds) = λ i. (value_of-normal w kf a t i == d) && is_instance-normal ss ds i

  listed-normal : (p : ℕ) (ds : List ℕ) (es : List Atom) → list_any (is_value_of w p ds) (set_of atom_cmp (map (normal_atom kf) es)) ≡ list_any (is_value_of w p ds) es
  listed-normal p ds es =
      any_set_of atom_cmp atom_cmp_tells (is_value_of w p ds) (map (normal_atom kf) es)
      ∙ any_alike (is_value_of w p ds) (is_value_of w p ds) (normal_atom kf) (λ b. ap (λ vs. (b.predicate == p) && same_objects vs ds) (values-normal w kf a b.arguments)) es

  meets-normal : (e : Entry) → Meets w e → Meets w (normal_entry kf e)
  meets-normal e m = record {
    closed = λ ds i t. listed-normal e.pattern.predicate ds e.listed ∙ m.closed ds (sym (is_instance-normal e.pattern.slots ds) ∙ i) t;
  }

pub tidied_true_in : {s : Signature} (w : World) (d : Five) → IsTrueIn s w d → IsTrueIn s w (tidied d)
unfolding tidied
tidied_true_in w d m =
    let One : List Literal → Type 0 = λ g. exactly_one (true_in w) g ≡ true in
    record {
      world = m.world;
      known = m.known;
      groups = each_set_of One conj_cmp (map (normal_group d.kf) d.kx) (each_map One (normal_group d.kf) d.kx (each_weaker One (λ g. One (normal_group d.kf g)) (λ g e. one_true-normal w d.kf m.known g ∙ e) d.kx m.groups));
      regions = each_set_of (Meets w) entry_cmp (map (normal_entry d.kf) d.lcw) (each_map (Meets w) (normal_entry d.kf) d.lcw (each_weaker (Meets w) (λ e. Meets w (normal_entry d.kf e)) (λ e. meets-normal w d.kf m.known e) d.lcw m.regions));
    }

pub tidied_true : {s : Signature} (w w' : World) (d : Five) → IsTrueOf s w w' d → IsTrueOf s w w' (tidied d)
unfolding tidied
tidied_true w w' d m =
    let C : List Literal → Type 0 = λ c. all_true_in w c ≡ all_true_in w' c in
    let V : Term → Type 0 = λ t. value_of w t ≡ value_of w' t in
    record {
      first = tidied_true_in w d m.first;
      second = tidied_true_in w' d m.second;
      whether = each_set_of C conj_cmp (map (normal_conj d.kf) d.kw) (each_map C (normal_conj d.kf) d.kw (each_weaker C (λ c. C (normal_conj d.kf c))
          (λ c e. all_true_in-normal w d.kf m.first.known c ∙ e ∙ sym (all_true_in-normal w' d.kf m.second.known c)) d.kw m.whether));
      values = each_set_of V term_cmp (filter is_application (map (normal d.kf) d.kv)) (each_kept V is_application (map (normal d.kf) d.kv) (each_map V (normal d.kf) d.kv (each_weaker V (λ t. V (normal d.kf t))
          (λ t e. value_of-normal w d.kf m.first.known t ∙ e ∙ sym (value_of-normal w' d.kf m.second.known t)) d.kv m.values)));
    }

rounds_keep : (s : Signature) (n : ℕ) (d : Five) → ((rounds s n d).kw ≡ d.kw) × ((rounds s n d).kv ≡ d.kv)
unfolding round
rounds_keep s zero d = (refl, refl)
rounds_keep s (suc n) d = rounds_keep s n d

-- the first law: databases that are true of two worlds don't clash, and closed they are true of the two
pub closed_true : (s : Signature) (w w' : World) (d : Five) → IsTrueOf s w w' d → (o : Outcome) → Closes s d o → (e : Five) × (o ≡ Next e) × IsTrueOf s w w' e
closed_true s w w' d m o c =
    let end = rounds s c.count d in
    let keep = rounds_keep s c.count d in
    let t : IsTrueOf s w w' end = record {
      first = rounds_true s w m.first.world c.count d m.first;
      second = rounds_true s w' m.second.world c.count d m.second;
      whether = subst (Each (λ b. all_true_in w b ≡ all_true_in w' b)) (sym keep.0) m.whether;
      values = subst (Each (λ u. value_of w u ≡ value_of w' u)) (sym keep.1) m.values;
    } in
    elim (first_clash s end) as (λ r. first_clash s end ≡ r → o ≡ option_map_or Clash r (Next (tidied end)) → (e : Five) × (o ≡ Next e) × IsTrueOf s w w' e) [
      | None ↦ λ q k. (tidied end, k, tidied_true w w' end t)
      | Some l ↦ λ q k. absurd (no_clash w end t.first l q)
    ] refl c.gives
