use Rattle.std.proofs.Common.{◌≡◌, ◌∙◌, ◌++◌, ap, map, filter, subst}
use Rattle.std.specs.Result.{OnOk}
use Rattle.pks_terms.specs.Signatures.{range_of}
use Rattle.pks_terms.specs.Closure.{by_range, is_last_left}
use Rattle.pks_terms.specs.Views.{object_of, term_of, literal_of, signature_of}
use Rattle.pks_query_lookup.specs.Fives.{five_of}
use Rattle.pks_query_closing.specs.Reading.{value_is}
use Rattle.pks_query_closing.proofs.ranges.put_by_range.Goals as goal

pub returns : goal.returns
unfolding by_range
returns c =
    let all : map object_of c.as_slice.result.now ≡ range_of (signature_of c.args.s.now) (term_of c.args.t.now) = ap (map object_of) c.as_slice.ensures.value ∙ c.in_ok-objects.ensures in
    subst (λ os. OnOk c.put_last.result (map literal_of c.put_last.new.to.items ≡ map literal_of c.args.to.now.items ++ map (value_is (term_of c.args.t.now)) (filter (is_last_left (signature_of c.args.s.now) (five_of c.args.d.now) (term_of c.args.t.now) os) os))) all c.put_last.ensures
