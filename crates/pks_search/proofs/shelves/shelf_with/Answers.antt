use Rattle.std.proofs.Common.{[], ◌∷◌, sym, subst}
use Rattle.pks_terms.specs.Sets.{Each}
use Rattle.pks_terms.specs.Views.{problem_of}
use Rattle.pks_terms.proofs.ListLaws.{each_append}
use Rattle.pks_search.specs.declared.shelves.Shelved.{Shelved}
use Rattle.pks_search.specs.Shelves.{IsShelved}
use Rattle.pks_search.proofs.Shelving.{shelved_back}
use Rattle.pks_search.proofs.shelves.shelf_with.Goals as goal

pub returns : goal.returns
returns c = λ p valid aims so.
    let own : Shelved = record { problem = c.args.problem; learned = c.args.notes.own } in
    let all : Each (IsShelved p) (own ∷ []) = (record { valid = valid; aims = aims; learned = so.own }, tt) in
    subst (Each (IsShelved p)) (sym c.in_ok-push.ensures.items)
    (each_append (IsShelved p) c.args.notes.shelf.items (own ∷ []) (shelved_back p (problem_of c.args.problem) aims c.args.notes.shelf.items so.shelf) all)
