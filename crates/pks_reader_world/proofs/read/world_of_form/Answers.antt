use Rattle.std.proofs.Common.{◌∙◌, sym, ap}
use Rattle.std.specs.Prelude.{length, ◌≤◌}
use Rattle.pks_terms.specs.Views.{shape_of}
use Rattle.pks_terms.proofs.ListLaws.{each_weaker, each_unmapped}
use Rattle.pks_text.specs.FormViews.{form_view}
use Rattle.pks_reader_shape.proofs.Refusing.{none_refused}
use Rattle.pks_reader_names.specs.Parts.{behind_head}
use Rattle.pks_reader_names.specs.Views.{found_of, scope_view}
use Rattle.pks_world.specs.First.{first_world}
use Rattle.pks_reader_world.specs.Filling.{with_all}
use Rattle.pks_reader_world.proofs.Putting.{all_put}
use Rattle.pks_reader_world.proofs.read.world_of_form.Goals as goal

pub is_full-requires-clause-few : goal.is_full-requires-clause-few
is_full-requires-clause-few c =
    each_unmapped (λ x. length x.arguments ≤ 2) shape_of c.args.p.now.signature.functions (each_weaker _ (λ x. length x.arguments ≤ 2) (λ x valid. valid.1) _ c.requires.valid.functions.0)

pub returns-clause-says : goal.returns-clause-says
returns-clause-says c =
    let s = scope_view c.args.scope.now in
    let none = none_refused (found_of c.facts.new.report) (sym c.in_default.ensures) in
    c.in_ok-given.ensures.says none
    ∙ (λ i. with_all s ((c.in_ok-world.ensures.world ∙ ap first_world c.requires.stated) i) (c.behind_head.ensures i))
    ∙ all_put s (behind_head (form_view c.args.form.now))
