use Rattle.std.proofs.Common.{◌≡◌, ◌∙◌, Bool, false, sym, ap, subst}
use Rattle.pks_terms.specs.Syntax.{Atom}
use Rattle.pks_terms.specs.Databases.{some_differ}
use Rattle.pks_terms.specs.Views.{atom_of, terms_of, signature_of}
use Rattle.pks_kf.specs.Known.{literals_of}
use Rattle.pks_query_lookup.proofs.Listed.{listed_fails, not_so}
use Rattle.pks_query_lookup.proofs.derived.Derived.is_listed.Goals as goal

pub returns-then-has : goal.returns-then-has
returns-then-has c = λ h.
    let test : Atom → Bool = λ b. some_differ (signature_of c.args.s.now) (literals_of c.args.self.now.kf) b.arguments (atom_of c.args.a.now).arguments in
    let same : terms_of c.front-args.result.now ≡ (atom_of c.args.a.now).arguments = ap terms_of c.front-args.ensures in
    let fails : test (atom_of c.args.a.now) ≡ false =
    subst (λ ts. some_differ (signature_of c.args.s.now) (literals_of c.args.self.now.kf) ts ts ≡ false) same (sym c.some_differ.ensures ∙ not_so c.some_differ.result h) in
    listed_fails test c.args.a.now c.args.list.now (sym c.has.ensures ∙ c.if-has.true) fails
