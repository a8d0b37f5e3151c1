use Rattle.std.proofs.Common.{◌∙◌, ◌-◌, length, sym, ap, option_copied}
use Rattle.pks_lcw.specs.Entries.{entry_of, entries_of}
use Rattle.pks_query_closing.proofs.Spared.{passes_at, stands_for_like}
use Rattle.pks_query_closing.proofs.listing.is_like_last.Goals as goal

pub returns-in-Some : goal.returns-in-Some
returns-in-Some c = λ h.
    stands_for_like (entries_of c.args.kinds.now) (entry_of c.in-Some.last.now) (entry_of c.args.region.now) (c.are_alike.ensures.predicate h) (c.are_alike.ensures.listed h)
    (λ test p. passes_at test c.args.kinds.now (length c.args.kinds.now - 1) c.in-Some.last.now (ap option_copied (sym c.in-Some.is) ∙ c.last.ensures.value) p)
