use Rattle.std.proofs.Common.{◌∙◌, ◌++◌, ap, map, true, false}
use Rattle.pks_terms.specs.Syntax.{Named, Atom}
use Rattle.pks_terms.specs.Orders.{literal}
use Rattle.pks_terms.specs.Settling.{stable_forms}
use Rattle.pks_terms.specs.Views.{literals_in}
use Rattle.pks_postdict_rules.specs.Changes.{signature_in, before_in, effects_by}
use Rattle.pks_postdict_rules.proofs.targets.put_target_forms.Goals as goal

pub returns-in_ok-put_atom_forms-in-Set : goal.returns-in_ok-put_atom_forms-in-Set
returns-in_ok-put_atom_forms-in-Set c =
    rw c.in-Set.is
    (c.in_ok-put_atom_forms-in-Set.ensures ∙ ap (λ (a : Atom). literals_in c.args.to.now.items ++ map (λ ts. literal (Named a.predicate) ts true) (stable_forms (signature_in c.args.change.now) (before_in c.args.change.now) (effects_by c.args.change.now) a.arguments)) c.at.ensures.says)

pub returns-in_ok-put_atom_forms-in-Unset : goal.returns-in_ok-put_atom_forms-in-Unset
returns-in_ok-put_atom_forms-in-Unset c =
    rw c.in-Unset.is
    (c.in_ok-put_atom_forms-in-Unset.ensures ∙ ap (λ (a : Atom). literals_in c.args.to.now.items ++ map (λ ts. literal (Named a.predicate) ts false) (stable_forms (signature_in c.args.change.now) (before_in c.args.change.now) (effects_by c.args.change.now) a.arguments)) c.at-in-Unset.ensures.says)
