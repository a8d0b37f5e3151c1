use Rattle.std.proofs.Common.{◌≡◌, ◌++◌, drop}
use Rattle.std.specs.List.{flat_map}
use Rattle.pks_terms.specs.Explained.{entry_text}
use Rattle.pks_terms.specs.Views.{names_of}
use Rattle.pks_explain.specs.EntryViews.{entries_of}
use Rattle.pks_explain.proofs.print.print_entries.Given as goal

abbrev pub invariant-loop-e : goal.invariant-loop-e
invariant-loop-e l = l.out.items ++ flat_map (entry_text (names_of l.p)) (entries_of (drop l.e-index l.entries)) ≡ l.fn.out.items ++ flat_map (entry_text (names_of l.p)) (entries_of l.entries)
