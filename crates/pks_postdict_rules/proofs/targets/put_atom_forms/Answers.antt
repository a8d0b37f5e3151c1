use Rattle.std.proofs.Common.{◌∙◌, ◌++◌, ap, List, map, take}
use Rattle.pks_terms.specs.Syntax.{Named, Term}
use Rattle.pks_terms.specs.Orders.{literal}
use Rattle.pks_terms.specs.Views.{terms_of, literals_in}
use Rattle.pks_postdict_rules.specs.Changes.{signature_in, before_in, effects_by}
use Rattle.pks_postdict_rules.proofs.StableForms.{stable_choices}
use Rattle.pks_postdict_rules.proofs.targets.put_atom_forms.Goals as goal

pub returns : goal.returns
returns c =
    let own = stable_choices (signature_in c.args.change.now) (before_in c.args.change.now) (effects_by c.args.change.now) (terms_of (take c.args.a.now.n c.args.a.now.args)) in
    c.in_ok-put_atoms.ensures ∙ ap (λ (tss : List (List Term)). literals_in c.args.to.now.items ++ map (λ ts. literal (Named c.args.a.now.pred.0) ts c.args.positive) tss) own
