use Rattle.std.proofs.Common.{◌≡◌, ◌∙◌, ap, sym, subst, ℕ, Option, Bor, List, option_map, slice_get}
use Rattle.std.specs.Map.Iter.{deref_pair}
use Rattle.pks_reader_names.proofs.Entries.{said_number}
use Rattle.pks_reader_names.proofs.scope.said_at.Goals as goal

pub returns-in-Some : goal.returns-in-Some
returns-in-Some c =
    let es = c.args.types.now.entries in
    let e : option_map deref_pair c.get_index.result ≡ slice_get es c.args.own = subst (λ (n : ℕ). option_map deref_pair c.get_index.result ≡ slice_get es n) c.from.ensures c.get_index.ensures.entry in
    sym (ap (option_map (λ (p : Bor (Bor (List ℕ)) × Bor (Option ℕ)). p.1.now)) c.in-Some.is) ∙ said_number es c.args.own c.get_index.result e

pub returns-in-None : goal.returns-in-None
returns-in-None c =
    let es = c.args.types.now.entries in
    let e : option_map deref_pair c.get_index.result ≡ slice_get es c.args.own = subst (λ (n : ℕ). option_map deref_pair c.get_index.result ≡ slice_get es n) c.from.ensures c.get_index.ensures.entry in
    sym (ap (option_map (λ (p : Bor (Bor (List ℕ)) × Bor (Option ℕ)). p.1.now)) c.in-None.is) ∙ said_number es c.args.own c.get_index.result e
