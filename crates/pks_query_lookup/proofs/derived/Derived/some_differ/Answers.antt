use Rattle.std.proofs.Common.{◌∙◌, sym}
use Rattle.pks_terms.specs.Views.{signature_of, terms_of}
use Rattle.pks_kf.specs.Known.{literals_of}
use Rattle.pks_query_lookup.proofs.Apart.{apart_differ}
use Rattle.pks_query_lookup.proofs.derived.Derived.some_differ.Goals as goal

pub returns-then-are_apart : goal.returns-then-are_apart
returns-then-are_apart c =
    let apart = sym c.are_apart.ensures ∙ c.if-are_apart.true in
    c.if-are_apart.true ∙ sym (apart_differ (signature_of c.args.s.now) (literals_of c.args.self.now.kf) (terms_of c.args.ts.now) (terms_of c.args.us.now) apart)
