-- Lists read through a function.
use Rattle.std.proofs.Common.{append-nil, append_assoc}
use Rattle.std.proofs.lemmas.List.{map_push}

pub ruleset read = (map_push, append_assoc, append-nil)
