use Rattle.std.proofs.Common.{◌≡◌, drop, map}
use Rattle.std.specs.List.{list_all}
use Rattle.pks_terms.specs.Views.{aim_of, signature_of}
use Rattle.pks_query_lookup.specs.Fives.{five_of}
use Rattle.pks_laws_forget.specs.Looks.{aim_is_told_alike}
use Rattle.pks_history_forget.proofs.looking.are_told_alike.Given as goal

abbrev pub invariant-loop-aim : goal.invariant-loop-aim
invariant-loop-aim l = list_all (aim_is_told_alike (signature_of l.s) (five_of l.before) (five_of l.after)) (map aim_of (drop l.aim-index l.aims)) ≡ list_all (aim_is_told_alike (signature_of l.s) (five_of l.before) (five_of l.after)) (map aim_of l.aims)
