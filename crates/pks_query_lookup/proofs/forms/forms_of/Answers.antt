use Rattle.std.proofs.Common.{rules, ap}
use Rattle.pks_query_lookup.specs.declared.five.Five.{Five}
use Rattle.pks_query_lookup.proofs.FormLaws.{all_forms}
use Rattle.pks_query_lookup.proofs.forms.forms_of.Goals as goal

pub returns : goal.returns
returns c =
    all_forms _ c.five.result.now.kf c.args.normals.now.kf c.in_ok-own.own c.in_ok-others.others.items c.in_ok-forms.forms (ap (λ (d : Five). d.kf) c.five.ensures) (λ x b r. search rules) c.in_ok-own.ensures c.in_ok-others.ensures c.in_ok-forms.ensures
