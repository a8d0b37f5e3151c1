-- Lists that code appends to.
use Rattle.std.proofs.Common.{append-nil, append_assoc}
use Rattle.std.proofs.lemmas.List.{map_push}

pub ruleset pushing = (map_push, append_assoc, append-nil)
