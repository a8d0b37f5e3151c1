use Rattle.std.proofs.Common.{◌≡◌, drop, map}
use Rattle.std.specs.List.{list_all}
use Rattle.pks_terms.specs.Aims.{is_met}
use Rattle.pks_terms.specs.Views.{aim_of, signature_of}
use Rattle.pks_past.proofs.meeting.are_met.Given as goal

abbrev pub invariant-loop-aim : goal.invariant-loop-aim
invariant-loop-aim l = list_all (is_met (signature_of l.s) l.h) (map aim_of (drop l.aim-index l.aims)) ≡ list_all (is_met (signature_of l.s) l.h) (map aim_of l.aims)
