use Rattle.std.proofs.Common.{sym}
use Rattle.pks_terms.specs.Views.{term_of, signature_of}
use Rattle.pks_query_lookup.specs.Fives.{five_of}
use Rattle.pks_query_closing.proofs.Apart.{other_shut_out}
use Rattle.pks_query_closing.proofs.ranges.is_shut_out.Goals as goal

pub returns-then-is_other : goal.returns-then-is_other
returns-then-is_other c =
    sym (other_shut_out (signature_of c.args.s.now) (five_of c.args.d.now) (term_of c.args.t.now) (term_of c.args.form.now) c.args.o.0 c.requires (c.is_other.ensures c.if-is_other.true))
