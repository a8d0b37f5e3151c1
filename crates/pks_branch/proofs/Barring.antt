-- Where a precondition isn't answered by the first arguments, no instance that begins with them is a choice.
use Rattle.std.proofs.Common.{◌≡◌, ◌≤◌, ◌<◌, ℕ, take, arith, zero, suc, Bool, true, false, not, ◌&&◌, ◌||◌, List, [], ◌∷◌, ◌++◌, length, map, refl, sym, ap, ◌∙◌, true≢false, if◌then◌else◌, append-nil, append_assoc, flat_map}
use Rattle.std.specs.List.{list_all, list_any}
use Rattle.std.proofs.lemmas.Bool.{ltb-true}
use Rattle.pks_terms.specs.Syntax.{Object, Parameter, Apply, Inner, Term, Literal, term_of}
use Rattle.pks_terms.specs.Orders.{literal, literal_cmp}
use Rattle.pks_terms.specs.Sets.{set_of}
use Rattle.pks_terms.specs.Signatures.{Signature}
use Rattle.pks_terms.specs.Databases.{Five}
use Rattle.pks_terms.specs.Queries.{Plain, Know, KnowWhether, KnowValue, Query, answers}
use Rattle.pks_terms.specs.Actions.{Instance, argument, inner_at, term_at, literal_at, plain_at, query_at}
use Rattle.pks_branch.specs.Early.{inner_is_early, term_is_early, literal_is_early, plain_is_early, is_barred_by, is_barred}
use Rattle.pks_branch.specs.Walks.{walked, allowed_at}

both : (a b : Bool) → (a && b) ≡ true → (a ≡ true) × (b ≡ true)
both true b h = (refl, h)
both false b h = absurd (true≢false (sym h))

and_false : (a : Bool) → (a && false) ≡ false
and_false true = refl
and_false false = refl

-- the front of a list that is long enough
pub front_length : {X : Type 0} (n : ℕ) (xs : List X) → n ≤ length xs → length (take n xs) ≡ n
front_length zero xs h = refl
front_length (suc n) [] h = absurd (omega arith)
front_length (suc n) (x ∷ xs) h = let shorter = front_length n xs (omega arith) in omega arith

-- a parameter among the first keeps its argument
argument_stays : (given more : List Inner) (i : ℕ) → i < length given → argument (given ++ more) i ≡ argument given i
argument_stays [] more i h = absurd (omega arith)
argument_stays (t ∷ given) more zero h = refl
argument_stays (t ∷ given) more (suc i) h = argument_stays given more i (omega arith)

-- functions that agree on what passes agree on lists of it
each_stays : {X Y : Type 0} (passes : X → Bool) (f g : X → Y) → ((x : X) → passes x ≡ true → f x ≡ g x) → (xs : List X) → list_all passes xs ≡ true → map f xs ≡ map g xs
each_stays passes f g same [] h = refl
each_stays passes f g same (x ∷ xs) h = let k = both (passes x) (list_all passes xs) h in λ i. same x k.0 i ∷ each_stays passes f g same xs k.1 i

module _ (given more : List Inner) where
  inner_stays : (t : Inner) → inner_is_early (length given) t ≡ true → inner_at (given ++ more) t ≡ inner_at given t
  inner_stays (Object d) h = refl
  inner_stays (Parameter i) h = argument_stays given more i (ltb-true i (length given) h)
  inner_stays (Apply f ds) h = refl

  term_stays : (t : Term) → term_is_early (length given) t ≡ true → term_at (given ++ more) t ≡ term_at given t
  term_stays (Object d) h = refl
  term_stays (Parameter i) h = ap term_of (argument_stays given more i (ltb-true i (length given) h))
  term_stays (Apply f ts) h = ap (λ us. Apply f us) (each_stays (inner_is_early (length given)) (inner_at (given ++ more)) (inner_at given) inner_stays ts h)

  literal_stays : (l : Literal) → literal_is_early (length given) l ≡ true → literal_at (given ++ more) l ≡ literal_at given l
  unfolding literal_at
  literal_stays l h = ap (λ ts. literal l.relation ts l.positive) (each_stays (term_is_early (length given)) (term_at (given ++ more)) (term_at given) term_stays l.arguments h)

  plain_stays : (q : Plain) → plain_is_early (length given) q ≡ true → plain_at (given ++ more) q ≡ plain_at given q
  plain_stays (Know l) h = ap Know (literal_stays l h)
  plain_stays (KnowWhether c) h = ap (λ ls. KnowWhether (set_of literal_cmp ls)) (each_stays (literal_is_early (length given)) (literal_at (given ++ more)) (literal_at given) literal_stays c h)
  plain_stays (KnowValue t) h = ap KnowValue (term_stays t h)

  query_stays : (q : Query) → plain_is_early (length given) q.asks ≡ true → query_at (given ++ more) q ≡ query_at given q
  query_stays q h = ap (λ asks. record { asks = asks; denied = q.denied }) (plain_stays q.asks h)

not_true : (b : Bool) → not b ≡ true → b ≡ false
not_true true h = absurd (true≢false (sym h))
not_true false h = refl

module _ (s : Signature) (d : Five) (given more : List Inner) where
  -- what isn't answered by the first arguments isn't by more
  one_barred : (q : Query) → is_barred_by s d given q ≡ true → answers s d (query_at (given ++ more) q) ≡ false
  one_barred q h = let k = both (plain_is_early (length given) q.asks) (not (answers s d (query_at given q))) h in ap (answers s d) (query_stays given more q k.0) ∙ not_true (answers s d (query_at given q)) k.1

  some_barred : (pre : List Query) → is_barred s d pre given ≡ true → list_all (λ q. answers s d (query_at (given ++ more) q)) pre ≡ false
  some_barred [] h = absurd (true≢false (sym h))
  some_barred (q ∷ qs) h =
      elim (is_barred_by s d given q) as (λ b. is_barred_by s d given q ≡ b → (b || list_any (is_barred_by s d given) qs) ≡ true → (answers s d (query_at (given ++ more) q) && list_all (λ r. answers s d (query_at (given ++ more) r)) qs) ≡ false) [
        | true ↦ λ e k. ap (λ b. b && list_all (λ r. answers s d (query_at (given ++ more) r)) qs) (one_barred q e)
        | false ↦ λ e k. ap (λ b. answers s d (query_at (given ++ more) q) && b) (some_barred qs k) ∙ and_false (answers s d (query_at (given ++ more) q))
      ] refl h

-- what gives nothing of each element gives nothing of all
none_of : {X Y : Type 0} (f : X → List Y) → ((x : X) → f x ≡ []) → (xs : List X) → flat_map f xs ≡ []
none_of f none [] = refl
none_of f none (x ∷ xs) = (λ i. none x i ++ flat_map f xs) ∙ none_of f none xs

module _ {X Y : Type 0} (end : List X → List Y) where
  -- a walk whose ends give nothing gives nothing
  nothing_found : (xss : List (List X)) (given : List X) → ((more : List X) → end (given ++ more) ≡ []) → walked end given xss ≡ []
  nothing_found [] given none = ap end (sym (append-nil given)) ∙ none []
  nothing_found (xs ∷ xss) given none = none_of (λ x. walked end (given ++ x ∷ []) xss) (λ x. nothing_found xss (given ++ x ∷ []) (λ more. ap end (append_assoc given (x ∷ []) more) ∙ none (x ∷ more))) xs

-- no instance that begins with these arguments is a choice
pub walk_barred : (s : Signature) (d : Five) (pre : List Query) (act : ℕ) (given : List Inner) (xss : List (List Inner)) → is_barred s d pre given ≡ true → walked (allowed_at s d pre act) given xss ≡ []
walk_barred s d pre act given xss h =
    let instance : List Inner → List Instance = λ all. record { action = act; arguments = all } ∷ [] in
    nothing_found (allowed_at s d pre act) xss given (λ more. ap (λ b. if b then instance (given ++ more) else []) (some_barred s d given more pre h))
