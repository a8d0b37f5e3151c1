-- What the program's proofs and paths say.
use Rattle.std.specs.Prelude.{List, map}
use Rattle.pks_terms.specs.Proofs.{Fact, FactLit, FactKx, FactLcw, Turn, Went, Took, Path, Reason, ByGiven, BySide, BySame, BySwap, ByOnly, ByOthers, ByRange, ByClosed, ByKeep, ByBack, ByEffect, ByMust, ByCannot, ByGrow, ByClear, Line, Proof}
use Rattle.pks_terms.specs.Views.{literal_of, literals_in, instance_of}
use Rattle.pks_lcw.specs.Entries.{entry_of}
use Rattle.pks_terms.specs.ChoiceViews.{choice_of, side_of}
use Rattle.pks_proof_lines.specs.declared.lines.Fact as fact
use Rattle.pks_proof_lines.specs.declared.lines.Fact.TheVariants as fact_is
use Rattle.pks_proof_lines.specs.declared.lines.Reason as reason
use Rattle.pks_proof_lines.specs.declared.lines.Reason.TheVariants as reason_is
use Rattle.pks_proof_lines.specs.declared.lines.Line.{Line as DLine}
use Rattle.pks_proof_lines.specs.declared.lines.Turn as turn
use Rattle.pks_proof_lines.specs.declared.lines.Turn.TheVariants as turn_is

-- a fact
abbrev pub fact_of : fact.Fact → Fact
fact_of (fact_is.Lit l) = FactLit (literal_of l)
fact_of (fact_is.Kx g) = FactKx (literals_in g)
fact_of (fact_is.Lcw e) = FactLcw (entry_of e)

-- a reason
abbrev pub reason_of : reason.Reason → Reason
reason_of (reason_is.Given n) = ByGiven n.0
reason_of (reason_is.Side n) = BySide n
reason_of reason_is.Same = BySame
reason_of reason_is.Swap = BySwap
reason_of reason_is.Only = ByOnly
reason_of reason_is.Others = ByOthers
reason_of reason_is.Range = ByRange
reason_of reason_is.Closed = ByClosed
reason_of reason_is.Keep = ByKeep
reason_of reason_is.Back = ByBack
reason_of reason_is.Effect = ByEffect
reason_of reason_is.Must = ByMust
reason_of reason_is.Cannot = ByCannot
reason_of reason_is.Grow = ByGrow
reason_of reason_is.Clear = ByClear

-- a line
abbrev pub line_of : DLine → Line
line_of x = record { moment = x.moment; fact = fact_of x.fact; reason = reason_of x.reason; cites = x.cites }

-- the lines of a proof
abbrev pub lines_of : List DLine → Proof
lines_of xs = map line_of xs

-- a piece of a path
abbrev pub turn_of : turn.Turn → Turn
turn_of (turn_is.Went i) = Went (instance_of i)
turn_of (turn_is.Took c side) = Took (choice_of c) (side_of side)

-- a path
abbrev pub path_of : List turn.Turn → Path
path_of xs = map turn_of xs
