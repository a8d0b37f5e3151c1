use Rattle.std.proofs.Common.{◌≡◌, ◌∙◌, false, sym, ap, subst}
use Rattle.pks_terms.specs.Databases.{some_differ}
use Rattle.pks_terms.specs.Views.{atom_of, terms_of, signature_of}
use Rattle.pks_kf.specs.Known.{literals_of}
use Rattle.pks_lcw.specs.Entries.{entries_of}
use Rattle.pks_query_lookup.proofs.Listed.{not_so}
use Rattle.pks_query_closing.specs.Listing.{spares}
use Rattle.pks_query_closing.proofs.Spared.{none_shuts_out}
use Rattle.pks_query_closing.proofs.listing.is_spared.Goals as goal

pub returns-then-all_spare : goal.returns-then-all_spare
returns-then-all_spare c = λ h.
    let s = signature_of c.args.s.now in
    let kf = literals_of c.args.d.now.kf in
    let a = atom_of c.args.a.now in
    let same : terms_of c.front-args.result.now ≡ a.arguments = ap terms_of c.front-args.ensures in
    let alike : some_differ s kf a.arguments a.arguments ≡ false = subst (λ ts. some_differ s kf ts ts ≡ false) same (sym c.some_differ.ensures ∙ not_so c.some_differ.result h) in
    none_shuts_out s kf a (entries_of c.args.d.now.lcw) (c.requires (spares a) (sym c.all_spare.ensures ∙ c.if-all_spare.true)) alike
