use Rattle.std.proofs.Common.{◌++◌, ◌∙◌, map, ap}
use Rattle.pks_terms.specs.Closure.{by_group}
use Rattle.pks_terms.specs.Views.{literal_of, signature_of}
use Rattle.pks_kf.specs.Known.{literals_of}
use Rattle.pks_query_lookup.specs.Fives.{five_of}
use Rattle.pks_query_closing.proofs.Growing.{found_in}
use Rattle.pks_query_closing.proofs.ByValue.{group_gives}
use Rattle.pks_query_closing.proofs.carrying.Carrying.given_by_group.Goals as goal

pub returns : goal.returns
returns c =
    let s = signature_of c.args.s.now in
    let g = c.in-Some.group.now in
    let groups = c.args.self.now.groups.items in
    let d = five_of c.in_ok-d.d in
    let got = found_in c.as_slice.result.now groups c.args.k g c.as_slice.ensures.value c.in-Some.ensures.lookup.0 c.in-Some.ensures.lookup.1 in
    group_gives s c.args.self.now g (literals_of c.in_ok-known.known.items) (map literal_of c.put_by_group-put.new.to.items) d got c.in_ok-known.ensures c.in_ok-d.ensures
    (c.in_ok-put.ensures ∙ ap (λ xs. map literal_of xs ++ by_group s d (map literal_of c.as_slice-4.result.now)) c.new-more.ensures.items ∙ ap (λ ls. by_group s d (map literal_of ls)) c.as_slice-4.ensures)
