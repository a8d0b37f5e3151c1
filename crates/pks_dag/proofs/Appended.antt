-- Texts that are appended part by part.
use Rattle.std.proofs.Common.{append_assoc, append-nil}

pub ruleset appended = (append_assoc, append-nil)
