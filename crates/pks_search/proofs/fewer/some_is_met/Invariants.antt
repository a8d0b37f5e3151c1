use Rattle.std.proofs.Common.{◌≡◌, drop, map}
use Rattle.std.specs.List.{list_any}
use Rattle.pks_terms.specs.Views.{aim_of, signature_of}
use Rattle.pks_laws_forget.specs.Fewer.{is_met_for_good}
use Rattle.pks_search.proofs.fewer.some_is_met.Given as goal

abbrev pub invariant-loop-aim : goal.invariant-loop-aim
invariant-loop-aim l = list_any (is_met_for_good (signature_of l.s) l.h) (map aim_of (drop l.aim-index l.aims)) ≡ list_any (is_met_for_good (signature_of l.s) l.h) (map aim_of l.aims)
