use Rattle.std.proofs.Common.{map}
use Rattle.pks_terms.specs.Views.{names_of}
use Rattle.pks_derive.proofs.AddTexts.{add_printed}
use Rattle.pks_derive.proofs.text.print_add.Goals as goal

pub returns-in_ok-put-in-len1-up-3 : goal.returns-in_ok-put-in-len1-up-3
returns-in_ok-put-in-len1-up-3 c =
    add_printed (names_of c.args.p.now) (map (λ t. t.now) c.args.parameters.now) c.args.add.now c.front-given.result.now c.args.out.now.items c.put.new.out.items c.print_queries.new.out.items c.put-in-len1-up.new.out.items c.print_item-in-len1-up.new.out.items c.put-in-len1-up-2.new.out.items
    c.front-given.ensures c.in-len1-up.len_at_least c.in_ok-put-in-len1-up.ensures.ok c.in_ok-print_queries-in-len1-up.ensures c.in_ok-put-in-len1-up-2.ensures.ok c.in_ok-print_item-in-len1-up.ensures c.in_ok-put-in-len1-up-3.ensures.ok
