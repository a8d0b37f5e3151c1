use Rattle.std.proofs.Common.{◌∙◌, sym}
use Rattle.pks_reader_names.specs.Tables.{entries_of}
use Rattle.pks_reader_names.specs.Views.{scope_view}
use Rattle.pks_reader_declared.proofs.Owning.{has_found, has_skipped}
use Rattle.pks_reader_declared.proofs.functions.has_object.Goals as goal

pub returns-then-is_of_type : goal.returns-then-is_of_type
returns-then-is_of_type c =
    let s = scope_view c.args.scope.now in
    has_found s (entries_of s.objects) c.loop-i.i c.args.wanted (sym c.is_of_type.ensures ∙ c.if-is_of_type.true) ∙ c.loop-i.invariant

pub loop-i-preserved : goal.loop-i-preserved
loop-i-preserved c =
    let s = scope_view c.args.scope.now in
    has_skipped s (entries_of s.objects) c.loop-i.i c.args.wanted (sym c.is_of_type.ensures ∙ c.if-is_of_type.false) ∙ c.loop-i.invariant
