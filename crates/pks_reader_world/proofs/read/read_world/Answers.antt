use Rattle.std.proofs.Common.{◌≡◌, Option, map, rules, subst}
use Rattle.pks_text.specs.FormViews.{form_view}
use Rattle.pks_reader_shape.specs.Files.{Fault}
use Rattle.pks_reader_names.specs.Scopes.{Scope}
use Rattle.pks_reader_names.specs.Views.{names_of}
use Rattle.pks_reader_declared.specs.Views.{declared_view}
use Rattle.pks_reader_world.specs.Stated.{contents_fault, declared_by, world_fault}
use Rattle.pks_reader_world.specs.Views.{IsRefusal}
use Rattle.pks_reader_shape.proofs.Refusing.{none_refused}
use Rattle.pks_reader_world.proofs.read.read_world.Goals as goal

pub returns-clause-refused : goal.returns-clause-refused
unfolding world_fault declared_by
returns-clause-refused c =
    let scope : Scope = record (declared_view c.in_ok-domain-in-Some.domain.declared) { parameters = names_of c.new-none.result } in
    let same : contents_fault scope (form_view c.in-Some.form.now) ≡ world_fault (map form_view c.args.forms.now.top.items) = search (rules, none_refused) in
    subst (λ (found : Option Fault). IsRefusal found c.in-Err.turned) same c.in-Err.ensures.refused
