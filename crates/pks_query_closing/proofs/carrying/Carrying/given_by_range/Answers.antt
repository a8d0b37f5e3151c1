use Rattle.std.proofs.Common.{◌++◌, ◌∙◌, map, ap}
use Rattle.pks_terms.specs.Closure.{by_range}
use Rattle.pks_terms.specs.Views.{literal_of, term_of, signature_of}
use Rattle.pks_kf.specs.Known.{literals_of}
use Rattle.pks_query_lookup.specs.Fives.{five_of}
use Rattle.pks_query_closing.proofs.ByValue.{pushed_in, range_gives, within_push}
use Rattle.pks_query_closing.proofs.carrying.Carrying.given_by_range.Goals as goal

pub returns : goal.returns
returns c = λ listed.
    let s = signature_of c.args.s.now in
    let d = five_of c.in_ok-d.d in
    let l = c.args.l.now in
    let known = c.push.new.self.items in
    range_gives s c.args.self.now (literal_of l) (term_of c.args.t.now) (literals_of known) (map literal_of c.put_by_range-put.new.to.items) d c.requires.among
    (pushed_in l c.in_ok-known.known.items known c.in_ok-push.ensures.items)
    (within_push (literals_of c.args.self.now.listed.items) l c.in_ok-known.known.items known c.in_ok-push.ensures.items listed c.in_ok-known.ensures)
    c.in_ok-d.ensures
    (c.in_ok-put.ensures ∙ ap (λ xs. map literal_of xs ++ by_range s d (term_of c.args.t.now)) c.new-more.ensures.items)
