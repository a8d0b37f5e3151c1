use Rattle.std.proofs.Common.{map, subst}
use Rattle.pks_terms.specs.Views.{literal_of, signature_of}
use Rattle.pks_query_closing.specs.Carrying.{Puts}
use Rattle.pks_query_closing.proofs.ByValue.{gives_goes}
use Rattle.pks_query_closing.proofs.carrying.Carrying.put_group_in.Goals as goal

pub returns : goal.returns
returns c =
    gives_goes (signature_of c.args.s.now) (map literal_of c.in_ok-more.more.items) c.args.self.now c.put_all_in.new.self c.in_ok-more.ensures
    (subst (λ ls. Puts (map literal_of ls) c.args.self.now c.put_all_in.new.self) c.as_slice.ensures.value c.in_ok-put_all_in.ensures)
