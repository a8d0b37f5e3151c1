-- What reasons may rely on: they are defined over any judge, and that of a line of a proof has the facts that the line cites.
use Rattle.std.specs.Prelude.{ℕ, Bool, true, false, ◌≡◌, ◌==◌, List, [], ◌++◌, map, Option, Some, None, slice_get, if◌then◌else◌}
use Rattle.std.specs.List.{list_any, list_all, filter_map}
use Rattle.std.specs.Option.{option_and_then, option_map_or}
use Rattle.std.specs.Ordering.{is_eq}
use Rattle.pks_terms.specs.Sets.{Each}
use Rattle.pks_terms.specs.Syntax.{Literal}
use Rattle.pks_terms.specs.Orders.{literal_eq, conj_cmp}
use Rattle.pks_terms.specs.Worlds.{World}
use Rattle.pks_terms.specs.Databases.{Entry, entry_cmp, Five}
use Rattle.pks_terms.specs.Settling.{History}
use Rattle.pks_terms.specs.Aims.{moments}
use Rattle.pks_terms.specs.Proofs.{Fact, FactLit, FactKx, FactLcw, IsFactOf, Line, Proof, nth}

-- the facts that may be relied on as cited, of each moment
abbrev pub Judge : Type 0
Judge = ℕ → List Fact

-- the facts are equal
abbrev pub fact_eq : Fact → Fact → Bool
fact_eq (FactLit l) (FactLit k) = literal_eq l k
fact_eq (FactKx g) (FactKx h) = is_eq (conj_cmp g h)
fact_eq (FactLcw e) (FactLcw r) = is_eq (entry_cmp e r)
fact_eq f g = false

-- the fact is cited at the moment
abbrev pub relies : Judge → ℕ → Fact → Bool
relies j m f = list_any (fact_eq f) (j m)

-- the literal is cited at the moment
abbrev pub is_cited : Judge → ℕ → Literal → Bool
is_cited j m l = relies j m (FactLit l)

-- all these literals are cited at the moment
abbrev pub are_cited : Judge → ℕ → List Literal → Bool
are_cited j m ls = list_all (is_cited j m) ls

-- the fact is a literal that passes
abbrev pub is_literal_that : (Literal → Bool) → Fact → Bool
is_literal_that q (FactLit l) = q l
is_literal_that q (FactKx g) = false
is_literal_that q (FactLcw e) = false

-- the fact is a group that passes
abbrev pub is_group_that : (List Literal → Bool) → Fact → Bool
is_group_that q (FactKx g) = q g
is_group_that q (FactLit l) = false
is_group_that q (FactLcw e) = false

-- the fact is a region that passes
abbrev pub is_region_that : (Entry → Bool) → Fact → Bool
is_region_that q (FactLcw e) = q e
is_region_that q (FactLit l) = false
is_region_that q (FactKx g) = false

-- some literal that is cited at the moment passes
abbrev pub some_literal : Judge → ℕ → (Literal → Bool) → Bool
some_literal j m q = list_any (is_literal_that q) (j m)

-- some group that is cited at the moment passes
abbrev pub some_group : Judge → ℕ → (List Literal → Bool) → Bool
some_group j m q = list_any (is_group_that q) (j m)

-- some region that is cited at the moment passes
abbrev pub some_region : Judge → ℕ → (Entry → Bool) → Bool
some_region j m q = list_any (is_region_that q) (j m)

-- what is cited is so in the world of its moment
abbrev pub IsRight : Judge → (ℕ → World) → Type 0
IsRight j worlds = (m : ℕ) → Each (IsFactOf (worlds m)) (j m)

-- all that the first judge has cited the second has
abbrev pub IsMore : Judge → Judge → Type 0
IsMore j k = (m : ℕ) (q : Fact → Bool) → list_any q (j m) ≡ true → list_any q (k m) ≡ true

-- ---- the judge of a line

-- the fact of a line, where the line is of the moment
abbrev pub fact_then : ℕ → Line → Option Fact
fact_then m line = if line.moment == m then Some line.fact else None

-- the facts of the cited lines, each at its moment
abbrev pub by_cited : Proof → List ℕ → Judge
by_cited proof cites m = filter_map (λ n. option_and_then (fact_then m) (nth proof n)) cites

-- ---- the judge of a history

-- the literals, groups and regions that stand in databases
abbrev pub facts_in : Five → List Fact
facts_in d = map FactLit d.kf ++ (map FactKx d.kx ++ map FactLcw d.lcw)

-- what stands in the databases of each moment
abbrev pub by_databases : History → Judge
by_databases h m = option_map_or facts_in (slice_get (moments h) m) []
