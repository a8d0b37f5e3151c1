-- What known values give of known literals follows from them.
use Rattle.std.proofs.Common.{◌≡◌, ◌<◌, ℕ, zero, suc, List, [], ◌∷◌, ◌++◌, map, flat_map, length, get_or, None, Some, option_and_then, true, true≢false, refl, sym, ap, ◌∙◌, subst, inl, inr, ⊎_elim, arith}
use Rattle.std.specs.Prelude.{Vec}
use Rattle.std.specs.Global.{Global}
use Rattle.std.specs.Option.{option_map_or}
use Rattle.std.specs.Ordering.{on, is_eq}
use Rattle.std.specs.Cmp.{Equal-is}
use Rattle.std.proofs.lemmas.List.{map-append}
use Rattle.pks_terms.specs.Sets.{IsIn, insert_in, added, one_replaced, all_some}
use Rattle.pks_terms.specs.Syntax.{Object, Parameter, Apply, Inner, Term, as_object, Literal}
use Rattle.pks_terms.specs.Orders.{literal_cmp, literal}
use Rattle.pks_terms.specs.Totality.{literal_cmp_total}
use Rattle.pks_terms.specs.Signatures.{Signature, HasValues}
use Rattle.pks_terms.specs.Databases.{Five, told, value_if_at, values_at}
use Rattle.pks_terms.specs.Closure.{inner_steps, term_steps, by_value, by_group, by_range, additions}
use Rattle.pks_terms.specs.Saturated.{Within}
use Rattle.pks_terms.specs.Views.{literal_of, literals_in}
use Rattle.pks_pmap_set.specs.Members.{is_member}
use Rattle.std.proofs.lemmas.Bool.{or_cases}
use Rattle.pks_terms.specs.declared.literal.Literal.{Literal as DLiteral}
use Rattle.pks_terms.proofs.ListLaws.{each_of, each_in, in_appended, in_map}
use Rattle.pks_terms.proofs.OrderLaws.{literal_cmp_tells}
use Rattle.pks_terms.proofs.SetLaws.{map-insert_in, map-added, in_inserted, inserted_in, in_added, added_in}
use Rattle.pks_laws.proofs.Least.{in_left, in_right, in_flat, in_filter_mapped, in_filter_map, within_append, within_map, additions_within}
use Rattle.pks_laws_progress.specs.Following.{IsImplied, Follows}
use Rattle.pks_laws_progress.proofs.Following.{addition_implied}
use Rattle.pks_kf.specs.Known.{literals_of}
use Rattle.pks_query_closing.specs.Working.{GrowsTo}
use Rattle.pks_query_closing.specs.Carrying.{IsReached, Starts, Lists, Puts, Carries, GoesOn, GivesBy, IsAmong}
use Rattle.pks_query_closing.specs.declared.carrying.Carrying.{Carrying}
use Rattle.pks_kx.specs.Groups.{groups_of}
use Rattle.pks_query_lookup.specs.declared.five.Five.{Five as DFive}
use Rattle.pks_query_lookup.specs.Fives.{five_of}
use Rattle.pks_query_closing.proofs.Growing.{grows_itself, grows_one, group_added, range_added}

-- ---- more values give more

within_replaced : {X : Type 0} (f g : X → List X) → ((x : X) → Within (f x) (g x)) → (xs : List X) → Within (one_replaced f xs) (one_replaced g xs)
within_replaced f g w [] = λ x i. i
within_replaced f g w (x ∷ xs) = within_append _ _ _ _ (within_map (λ y. y ∷ xs) (f x) (g x) (w x)) (within_map (λ ys. x ∷ ys) (one_replaced f xs) (one_replaced g xs) (within_replaced f g w xs))

module _ (small big : List Literal) (within : Within small big) where
  values_within : (f : ℕ) (ds : List ℕ) → Within (values_at small f ds) (values_at big f ds)
  unfolding values_at
  values_within f ds e i =
      let given = λ (l : Literal). option_and_then (value_if_at f ds) (told l.relation l.arguments l.positive) in
      let r = in_filter_mapped given small e i in
      in_filter_map given big r.0 e (within r.0 r.1) r.2

  inner_steps_within : (t : Inner) → Within (inner_steps small t) (inner_steps big t)
  inner_steps_within (Object d) = λ x i. i
  inner_steps_within (Parameter d) = λ x i. i
  inner_steps_within (Apply f ds) = within_map Object (values_at small f ds) (values_at big f ds) (values_within f ds)

  term_steps_within : (t : Term) → Within (term_steps small t) (term_steps big t)
  unfolding term_steps
  term_steps_within (Object d) = λ x i. i
  term_steps_within (Parameter d) = λ x i. i
  term_steps_within (Apply f ts) =
      within_append _ _ _ _
      (within_map Object (option_map_or (values_at small f) (all_some (map as_object ts)) []) (option_map_or (values_at big f) (all_some (map as_object ts)) [])
      (elim (all_some (map as_object ts)) as (λ o. Within (option_map_or (values_at small f) o []) (option_map_or (values_at big f) o [])) [ None ↦ λ x i. i | Some ds ↦ values_within f ds ]))
      (within_map (Apply f) (one_replaced (inner_steps small) ts) (one_replaced (inner_steps big) ts) (within_replaced (inner_steps small) (inner_steps big) inner_steps_within ts))

  by_value_within : (l : Literal) → Within (by_value small l) (by_value big l)
  unfolding by_value
  by_value_within l =
      within_map (λ ts. literal l.relation ts l.positive) (one_replaced (term_steps small) l.arguments) (one_replaced (term_steps big) l.arguments)
      (within_replaced (term_steps small) (term_steps big) term_steps_within l.arguments)

value_added : (s : Signature) (a : Five) (l k : Literal) → IsIn l a.kf → IsIn k (by_value a.kf l) → IsIn k (additions s a)
unfolding additions
value_added s a l k i j = in_left (flat_map (by_value a.kf) a.kf) _ k (in_flat (by_value a.kf) a.kf l k i j)

form_implied : (s : Signature) → HasValues s → (d a : Five) → Follows s d a → (by : List Literal) (l : Literal) → Within (l ∷ by) a.kf → (k : Literal) → IsIn k (by_value by l) → IsImplied s d k
form_implied s inhabited d a follows by l known k i =
    addition_implied s inhabited d a follows k (value_added s a l k (known l (inl refl)) (by_value_within by a.kf (λ m j. known m (inr j)) l k i))

-- ---- one literal, and several

pub puts_one : (l : DLiteral) (old new : Carrying) (kf : List DLiteral) → new.five ≡ record old.five { kf = kf } → new.groups ≡ old.groups → kf ≡ insert_in (on literal_of literal_cmp) l old.five.kf → new.listed.items ≡ old.listed.items ++ l ∷ [] → Puts (literal_of l ∷ []) old new
puts_one l old new kf five groups known listed = record {
  has = λ m i. subst (IsIn m) (sym all) (inserted_in literal_cmp_total literal_cmp_tells k (literals_of old.five.kf) m (inr i));
  lists = λ m i. subst (IsIn m) (sym both) (in_left (literals_of old.listed.items) (k ∷ []) m i);
  put = λ m i. ⊎_elim (λ e. inr (subst (IsIn m) (sym both) (in_right (literals_of old.listed.items) (k ∷ []) m (inl e)))) (λ j. inl j) (in_inserted literal_cmp_total literal_cmp_tells k (literals_of old.five.kf) m (subst (IsIn m) all i));
  reached = λ s d before implied. record {
    grown = (grows_one s k (five_of old.five) (five_of new.five) (ap five_of five ∙ ap (λ ls. record (five_of old.five) { kf = ls }) put_in)).grows d before.grown implied;
    listed = λ m i.
        subst (IsIn m) (sym all) (inserted_in literal_cmp_total literal_cmp_tells k (literals_of old.five.kf) m
        (⊎_elim (λ j. inr (before.listed m j)) (λ j. ⊎_elim (λ e. inl e) (λ j. absurd j) j) (in_appended (literals_of old.listed.items) (k ∷ []) m (subst (IsIn m) both i))));
    groups = ap (λ (gs : Vec (List DLiteral) Global). groups_of gs.items) groups ∙ before.groups;
  };
}
  where
    k : Literal
    k = literal_of l

    put_in : literals_of kf ≡ insert_in literal_cmp k (literals_of old.five.kf)
    put_in = ap literals_of known ∙ map-insert_in literal_of literal_cmp l old.five.kf

    all : literals_of new.five.kf ≡ insert_in literal_cmp k (literals_of old.five.kf)
    all = ap (λ (x : DFive). literals_of x.kf) five ∙ put_in

    both : literals_of new.listed.items ≡ literals_of old.listed.items ++ k ∷ []
    both = ap literals_of listed ∙ map-append literal_of old.listed.items (l ∷ [])

pub puts_part : (l : Literal) (ls : List Literal) (a b c : Carrying) → IsIn l ls → Puts ls a b → Puts (l ∷ []) b c → Puts ls a c
puts_part l ls a b c among before one = record {
  has = λ m i. one.has m (before.has m i);
  lists = λ m i. one.lists m (before.lists m i);
  put = λ m i. ⊎_elim (λ j. ⊎_elim (λ k. inl k) (λ k. inr (one.lists m k)) (before.put m j)) (λ j. inr j) (one.put m i);
  reached = λ s d start implied. one.reached s d (before.reached s d start implied) (each_in (IsImplied s d) ls l implied among, tt);
}

-- ---- what known literals give

pub carries_on : (ls : List Literal) (a b c : Carrying) → Carries ls a b → Carries ls b c → Carries ls a c
carries_on ls a b c one more = record {
  has = λ m i. more.has m (one.has m i);
  lists = λ m i. more.lists m (one.lists m i);
  reached = λ s d inhabited before known. more.reached s d inhabited (one.reached s d inhabited before known) (λ m i. one.has m (known m i));
}

pub carries_forms : (l : Literal) (by forms : List Literal) (old new : Carrying) → forms ≡ by_value by l → Puts forms old new → Carries (l ∷ by) old new
carries_forms l by forms old new all puts = record {
  has = puts.has;
  lists = puts.lists;
  reached = λ s d inhabited before known.
      puts.reached s d before (each_of (IsImplied s d) forms (λ k i.
      form_implied s inhabited d (five_of old.five) before.grown.follows by l known k (subst (IsIn k) all i)));
}

-- listed literals needn't be asked for
pub carries_own : (l : Literal) (by : List Literal) (old new : Carrying) → Within by (literals_of old.listed.items) → Carries (l ∷ by) old new → Carries (l ∷ []) old new
carries_own l by old new listed carries = record {
  has = carries.has;
  lists = carries.lists;
  reached = λ s d inhabited before known.
      carries.reached s d inhabited before (λ m i. ⊎_elim (λ e. known m (inl e)) (λ j. before.listed m (listed m j)) i);
}

pub carries_touched : (l : Literal) (by : List Literal) (old new : Carrying) → IsIn l (literals_of old.listed.items) → Carries (l ∷ by) old new → Carries by old new
carries_touched l by old new listed carries = record {
  has = carries.has;
  lists = carries.lists;
  reached = λ s d inhabited before known.
      carries.reached s d inhabited before (λ m i. ⊎_elim (λ e. before.listed m (subst (λ k. IsIn k (literals_of old.listed.items)) e listed)) (λ j. known m j) i);
}

pub carries_weaker : (us vs : List Literal) (old new : Carrying) → Within us vs → Carries us old new → Carries vs old new
carries_weaker us vs old new within carries = record {
  has = carries.has;
  lists = carries.lists;
  reached = λ s d inhabited before known. carries.reached s d inhabited before (λ m i. known m (within m i));
}

-- the set of some literals has none but these
pub from_nothing : (values kf : List DLiteral) → kf ≡ added (on literal_of literal_cmp) [] values → Within (literals_of kf) (literals_of values)
from_nothing values kf all m i =
    ⊎_elim absurd (λ j. j)
    (in_added literal_cmp_total literal_cmp_tells [] (literals_of values) m (subst (IsIn m) (ap literals_of all ∙ map-added literal_of literal_cmp [] values) i))

-- ---- from the start to the end

pub within_push : (all : List Literal) (l : DLiteral) (xs ys : List DLiteral) → ys ≡ xs ++ l ∷ [] → IsIn (literal_of l) all → Within (literals_of xs) all → Within (literals_of ys) all
within_push all l xs ys pushed here within m i =
    ⊎_elim (within m) (λ j. ⊎_elim (λ e. subst (λ k. IsIn k all) e here) (λ k. absurd k) j)
    (in_appended (literals_of xs) (literal_of l ∷ []) m (subst (IsIn m) (ap literals_of pushed ∙ map-append literal_of xs (l ∷ [])) i))

pub at_in : {X : Type 0} (xs : List X) (i : ℕ) (d : X) → i < length xs → IsIn (get_or xs i d) xs
at_in [] i d h = absurd (omega arith)
at_in (x ∷ xs) zero d h = inl refl
at_in (x ∷ xs) (suc i) d h = inr (at_in xs i d (omega arith))

pub lists_one : (l : DLiteral) (old new : Carrying) → new.five ≡ old.five → new.groups ≡ old.groups → new.listed.items ≡ old.listed.items ++ l ∷ [] → Lists (literal_of l ∷ []) old new
lists_one l old new same groups pushed = record {
  known = same;
  groups = groups;
  listed = λ m i. in_appended (literals_of old.listed.items) (literal_of l ∷ []) m (subst (IsIn m) (ap literals_of pushed ∙ map-append literal_of old.listed.items (l ∷ [])) i);
}

pub lists_part : (l : Literal) (ls : List Literal) (a b c : Carrying) → IsIn l ls → Lists ls a b → Lists (l ∷ []) b c → Lists ls a c
lists_part l ls a b c among before one = record {
  known = one.known ∙ before.known;
  groups = one.groups ∙ before.groups;
  listed = λ m i. ⊎_elim (before.listed m) (λ j. ⊎_elim (λ e. inr (subst (λ k. IsIn k ls) e among)) (λ k. absurd k) j) (one.listed m i);
}

pub lists_nothing : (old new : Carrying) → new.five ≡ old.five → new.groups ≡ old.groups → new.listed ≡ old.listed → Lists [] old new
lists_nothing old new same groups listed = record {
  known = same;
  groups = groups;
  listed = λ m i. inl (subst (λ (v : Vec DLiteral Global). IsIn m (literals_of v.items)) listed i);
}

pub starts : (five : DFive) (first a b last : Carrying) → Starts five first → Lists (literals_of five.kf) first a → Lists [] a b → Lists (literals_of five.kf) b last → (s : Signature) → IsReached s (five_of five) last
starts five first a b last start one two three = λ s. record {
  grown = subst (λ (x : DFive). GrowsTo s (five_of five) (five_of x)) (sym same) (grows_itself s (five_of five));
  listed = λ m i. subst (λ (x : DFive). IsIn m (literals_of x.kf)) (sym same)
      (⊎_elim
      (λ j. ⊎_elim (λ k. ⊎_elim (λ h. absurd (subst (λ xs. IsIn m (literals_of xs)) start.none h)) (λ h. h) (one.listed m k)) (λ k. absurd k) (two.listed m j))
      (λ j. j) (three.listed m i));
  groups = ap (λ (gs : Vec (List DLiteral) Global). groups_of gs.items) (three.groups ∙ two.groups ∙ one.groups) ∙ ap groups_of start.groups;
}
  where
    same : last.five ≡ five
    same = three.known ∙ two.known ∙ one.known ∙ start.same

-- ---- steps of the work

pub goes_on : (s : Signature) (a b c : Carrying) → GoesOn s a b → GoesOn s b c → GoesOn s a c
goes_on s a b c one more = record { reached = λ d inhabited before. more.reached d inhabited (one.reached d inhabited before) }

pub lists_goes : (s : Signature) (a b : Carrying) → Lists [] a b → GoesOn s a b
lists_goes s a b lists = record {
  reached = λ d inhabited before. record {
    grown = subst (λ (x : DFive). GrowsTo s d (five_of x)) (sym lists.known) before.grown;
    listed = λ m i. subst (λ (x : DFive). IsIn m (literals_of x.kf)) (sym lists.known) (⊎_elim (before.listed m) (λ j. absurd j) (lists.listed m i));
    groups = ap (λ (gs : Vec (List DLiteral) Global). groups_of gs.items) lists.groups ∙ before.groups;
  };
}

pub carries_goes : (s : Signature) (l : Literal) (a b : Carrying) → IsIn l (literals_of a.listed.items) → Carries (l ∷ []) a b → GoesOn s a b
carries_goes s l a b listed carries = record {
  reached = λ d inhabited before. carries.reached s d inhabited before (λ m i. ⊎_elim (λ e. before.listed m (subst (λ k. IsIn k (literals_of a.listed.items)) e listed)) (λ j. absurd j) i);
}

pub gives_goes : (s : Signature) (ls : List Literal) (a b : Carrying) → GivesBy s a ls → Puts ls a b → GoesOn s a b
gives_goes s ls a b gives puts = record { reached = λ d inhabited before. puts.reached s d before (gives.implied d inhabited before) }

-- what the rules add to some of the known literals is implied
part_implied : (s : Signature) → HasValues s → (d : Five) (r : Carrying) → IsReached s d r → (some : List Literal) → Within some (literals_of r.five.kf) → (l : Literal) → IsIn l (additions s (record (five_of r.five) { kf = some })) → IsImplied s d l
part_implied s inhabited d r reached some within l i = λ big saturated fine known groups regions.
    let others = reached.grown.follows.others in
    additions_within s big inhabited saturated fine (record (five_of r.five) { kf = some })
    (λ m j. reached.grown.follows.implied m (within m j) big saturated fine known groups regions)
    (ap (λ (x : Five). x.kx) others ∙ groups) (ap (λ (x : Five). x.lcw) others ∙ regions) l i

in_alone : (values : List Literal) (l : Literal) → IsIn l values → IsIn l (added literal_cmp [] values)
in_alone values l i = added_in literal_cmp_total literal_cmp_tells [] values l (inr i)

alone_in : (values : List Literal) (l : Literal) → IsIn l (added literal_cmp [] values) → IsIn l values
alone_in values l i = ⊎_elim (λ j. absurd j) (λ j. j) (in_added literal_cmp_total literal_cmp_tells [] values l i)

pub group_gives : (s : Signature) (r : Carrying) (g : List DLiteral) (values ls : List Literal) (a : Five) → IsIn g r.groups.items → (Within (literals_of r.listed.items) (literals_of r.five.kf) → Within values (literals_of r.five.kf)) → a ≡ record (five_of r.five) { kf = added literal_cmp [] values } → ls ≡ by_group s a (literals_in g) → GivesBy s r ls
group_gives s r g values ls a got within alone all = record {
  implied = λ d inhabited reached.
      let few = added literal_cmp [] values in
      let here : IsIn (literals_in g) (record (five_of r.five) { kf = few }).kx =
      subst (IsIn (literals_in g)) (reached.groups ∙ sym (ap (λ (x : Five). x.kx) reached.grown.follows.others)) (in_map literals_in r.groups.items g got) in
      each_of (IsImplied s d) ls (λ l i.
      part_implied s inhabited d r reached few (λ m j. within reached.listed m (alone_in values m j)) l
      (group_added s (record (five_of r.five) { kf = few }) (literals_in g) l here (subst (λ x. IsIn l (by_group s x (literals_in g))) alone (subst (IsIn l) all i))));
}

pub range_gives : (s : Signature) (r : Carrying) (l : Literal) (t : Term) (values ls : List Literal) (a : Five) → IsAmong t l → IsIn l values → Within values (literals_of r.listed.items) → a ≡ record (five_of r.five) { kf = added literal_cmp [] values } → ls ≡ by_range s a t → GivesBy s r ls
range_gives s r l t values ls a among got within alone all = record {
  implied = λ d inhabited reached.
      let few = added literal_cmp [] values in
      each_of (IsImplied s d) ls (λ k i.
      part_implied s inhabited d r reached few (λ m j. reached.listed m (within m (alone_in values m j))) k
      (range_added s (record (five_of r.five) { kf = few }) l k t (in_alone values l got) among (subst (λ x. IsIn k (by_range s x t)) alone (subst (IsIn k) all i))));
}

-- a member is in the list
pub member_in : (l : DLiteral) (xs : List DLiteral) → is_member (on literal_of literal_cmp) l xs ≡ true → IsIn (literal_of l) (literals_of xs)
member_in l [] h = absurd (true≢false (sym h))
member_in l (x ∷ xs) h =
    let k = literal_of l in
    let y = literal_of x in
    ⊎_elim (λ e. inl (sym (literal_cmp_tells k y ((Equal-is (literal_cmp k y)).0 e)))) (λ i. inr (member_in l xs i))
    (or_cases (is_eq (literal_cmp k y)) (is_member (on literal_of literal_cmp) l xs) h)

pub within_more : (all : List Literal) (xs ys : List DLiteral) → Within (literals_of xs) all → Within (literals_of ys) all → Within (literals_of (xs ++ ys)) all
within_more all xs ys one two m i = ⊎_elim (one m) (two m) (in_appended (literals_of xs) (literals_of ys) m (subst (IsIn m) (map-append literal_of xs ys) i))

pub reaches : (s : Signature) (d e : Five) (a b : Carrying) → HasValues s → IsReached s d a → GoesOn s a b → e ≡ five_of b.five → GrowsTo s d e
reaches s d e a b inhabited reached goes same = subst (GrowsTo s d) (sym same) (goes.reached d inhabited reached).grown

pub pushed_in : (l : DLiteral) (xs ys : List DLiteral) → ys ≡ xs ++ l ∷ [] → IsIn (literal_of l) (literals_of ys)
pushed_in l xs ys pushed = subst (IsIn (literal_of l)) (sym (ap literals_of pushed ∙ map-append literal_of xs (l ∷ []))) (in_right (literals_of xs) (literal_of l ∷ []) (literal_of l) (inl refl))
