-- Explanations: what each literal that a plan rests on is shown by, and the printed text.
use Rattle.std.specs.Prelude.{ℕ, true, ◌≡◌, List, [], ◌∷◌, ◌++◌, map, Option, Some, None, codes, decimal, if◌then◌else◌}
use Rattle.std.specs.List.{filter_map, flat_map}
use Rattle.pks_terms.specs.Sets.{Each}
use Rattle.pks_terms.specs.Syntax.{Term, Literal}
use Rattle.pks_terms.specs.Queries.{Plain, Know, KnowWhether, KnowValue, Query}
use Rattle.pks_terms.specs.Actions.{Instance, query_at}
use Rattle.pks_terms.specs.Problems.{Aim, Now, AtStart, Always, Once, Problem, schema_of}
use Rattle.pks_terms.specs.Branching.{numbered, BranchOn, CasesOn, AsTrue, AsFalse, Is}
use Rattle.pks_terms.specs.Trees.{Tree, Goal, Impossible, Do, Branch, Cases, Chain, End, More}
use Rattle.pks_terms.specs.Printed.{Text, Names, line, listed, literal_text, atom_text, pattern_text}
use Rattle.pks_terms.specs.Proofs.{Fact, FactLit, FactKx, FactLcw, Path, Went, Took, Reason, ByGiven, BySide, BySame, BySwap, ByOnly, ByOthers, ByRange, ByClosed, ByKeep, ByBack, ByEffect, ByMust, ByCannot, ByGrow, ByClear, Line, Proof}
use Rattle.pks_terms.specs.Accepting.{accepts}

-- ---- what is owed

-- the literal of which a query asks whether it is known
abbrev pub literal_asked : Plain → Option Literal
literal_asked (Know l) = Some l
literal_asked (KnowWhether c) = None
literal_asked (KnowValue t) = None

-- the literal that must be known for a query to be answered, which isn't so of a negated one
abbrev pub literal_needed : Query → Option Literal
literal_needed q = if q.denied then None else literal_asked q.asks

-- the literals that must be known before an action, in the order of its preconditions
abbrev pub needed_before : Problem → Instance → List Literal
needed_before p i = filter_map (λ q. literal_needed (query_at i.arguments q)) (schema_of p i.action).pre

-- the literal of a plain goal
abbrev pub literal_aimed : Aim → Option Literal
literal_aimed (Now q) = literal_needed q
literal_aimed (AtStart q) = None
literal_aimed (Always q) = None
literal_aimed (Once q) = None

-- each of the literals, at the end of the path
abbrev pub at_end : Path → List Literal → List (Path × Literal)
at_end path ls = map (λ l. (path, l)) ls

-- the literals that must be known in a tree to which this path leads, in the order in which it is printed: before each action those of its preconditions, and at each goal those of the plain goals
abbrev mutual
  pub owed : Problem → Path → Tree → List (Path × Literal)
  owed p path Goal = at_end path (filter_map literal_aimed p.goal)
  owed p path Impossible = []
  owed p path (Do i t) = at_end path (needed_before p i) ++ owed p (path ++ Went i ∷ []) t
  owed p path (Branch c t u) = owed p (path ++ Took (BranchOn c) AsTrue ∷ []) t ++ owed p (path ++ Took (BranchOn c) AsFalse ∷ []) u
  owed p path (Cases x k) = owed_in p path x k

  -- so for each case of a term
  pub owed_in : Problem → Path → Term → Chain → List (Path × Literal)
  owed_in p path x End = []
  owed_in p path x (More e t k) = owed p (path ++ Took (CasesOn x) (Is e) ∷ []) t ++ owed_in p path x k

-- a literal with the path at whose end it is known, and a proof of it
pub record Entry : Type 0 where
  pub path : Path
  pub literal : Literal
  pub proof : Proof

-- the entries have exactly the owed literals, in their order, and each proof is accepted
pub record IsExplained (p : Problem) (t : Tree) (entries : List Entry) : Type 0 where
  pub whole : map (λ (e : Entry). (e.path, e.literal)) entries ≡ owed p [] t
  pub accepted : Each (λ (e : Entry). accepts p e.path e.proof e.literal ≡ true) entries

-- ---- the text

-- a literal as in a file, a group as the list kx of its members, a region as the list lcw of its pattern and its atoms
unfoldable pub known_fact_text : Names → Fact → Text
known_fact_text names (FactLit l) = literal_text names l
known_fact_text names (FactKx g) = listed (codes "kx") (map (literal_text names) g)
known_fact_text names (FactLcw e) = listed (codes "lcw") (pattern_text names e.pattern ∷ map (atom_text names) e.listed)

-- the reason in one word, with its number where it has one
unfoldable pub reason_text : Reason → Text
reason_text (ByGiven n) = codes "given " ++ decimal n
reason_text (BySide n) = codes "side " ++ decimal n
reason_text BySame = codes "same"
reason_text BySwap = codes "swap"
reason_text ByOnly = codes "only"
reason_text ByOthers = codes "others"
reason_text ByRange = codes "range"
reason_text ByClosed = codes "closed"
reason_text ByKeep = codes "keep"
reason_text ByBack = codes "back"
reason_text ByEffect = codes "effect"
reason_text ByMust = codes "must"
reason_text ByCannot = codes "cannot"
reason_text ByGrow = codes "grow"
reason_text ByClear = codes "clear"

-- the cited numbers after by, or nothing where none is cited
unfoldable pub cites_text : List ℕ → Text
cites_text [] = []
cites_text (n ∷ ns) = codes " by" ++ flat_map (λ c. 32 ∷ decimal c) (n ∷ ns)

-- a line of a proof: its number, its moment, its fact, its reason and what it cites
unfoldable pub proof_line_text : Names → ℕ → Line → Text
proof_line_text names n x =
    decimal n ++ (codes " moment " ++ (decimal x.moment ++ (codes " " ++ (known_fact_text names x.fact ++ (codes " " ++ (reason_text x.reason ++ cites_text x.cites))))))

-- an entry: the literal that is known, and the lines of its proof
unfoldable pub entry_text : Names → Entry → Text
entry_text names e = line (codes "known " ++ literal_text names e.literal) ++ flat_map (λ q. line (proof_line_text names q.0 q.1)) (numbered 1 e.proof)

-- the text of an explanation, which is printed after that of the tree
unfoldable pub explained_text : Names → List Entry → Text
explained_text names entries = flat_map (entry_text names) entries
