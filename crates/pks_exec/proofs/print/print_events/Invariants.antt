use Rattle.std.proofs.Common.{◌≡◌, ◌++◌, map, drop}
use Rattle.std.specs.List.{flat_map}
use Rattle.pks_terms.specs.Views.{names_of}
use Rattle.pks_terms.specs.Printed.{line, event_text}
use Rattle.pks_exec.specs.Runs.{event_of}
use Rattle.pks_exec.proofs.print.print_events.Given as goal

abbrev pub invariant-loop-event : goal.invariant-loop-event
invariant-loop-event l =
    l.out.items ++ flat_map (λ event. line (event_text (names_of l.p) event)) (map event_of (drop l.event-index l.events))
    ≡ l.fn.out.items ++ flat_map (λ event. line (event_text (names_of l.p) event)) (map event_of l.events)
