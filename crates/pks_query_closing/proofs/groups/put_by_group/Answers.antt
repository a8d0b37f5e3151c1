use Rattle.std.proofs.Common.{◌≡◌, ◌∙◌, ◌++◌, ◌∷◌, map, take, drop, flat_map, sym, ap, append_assoc}
use Rattle.std.specs.List.{take-map}
use Rattle.pks_terms.specs.Closure.{by_group, by_member}
use Rattle.pks_terms.specs.Views.{literal_of, signature_of}
use Rattle.pks_query_lookup.specs.Fives.{five_of}
use Rattle.pks_query_closing.proofs.Members.{others_from-start, others_from-split, drop-map}
use Rattle.pks_query_closing.proofs.groups.put_by_group.Goals as goal

pub loop-i-init : goal.loop-i-init
unfolding by_group
loop-i-init c = ap (λ ps. map literal_of c.args.to.now.items ++ flat_map (by_member (signature_of c.args.s.now) (five_of c.args.d.now)) ps) (others_from-start (map literal_of c.args.g.now))

pub loop-i-preserved : goal.loop-i-preserved
loop-i-preserved c =
    let g = c.args.g.now in
    let split : drop c.loop-i.i (map literal_of g) ≡ literal_of c.in-Some.l.now ∷ map literal_of c.in-Some.after.now =
    drop-map literal_of c.loop-i.i g ∙ ap (map literal_of) (sym c.split_at.ensures.back ∙ c.in-Some.ensures.cases.0) in
    let before : map literal_of c.split_at.result.0.now ≡ take c.loop-i.i (map literal_of g) = ap (map literal_of) c.split_at.ensures.front ∙ sym (take-map literal_of c.loop-i.i g) in
    let more = others_from-split (map literal_of g) c.loop-i.i (literal_of c.in-Some.l.now) (map literal_of c.in-Some.after.now) split in
    let h = rw more at c.loop-i.invariant in
    rw (c.in_ok-put_by_member.ensures, before, append_assoc) h
