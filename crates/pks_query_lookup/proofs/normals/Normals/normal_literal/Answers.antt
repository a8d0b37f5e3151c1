use Rattle.std.proofs.Common.{◌≡◌, sym}
use Rattle.pks_terms.specs.Views.{literal_of}
use Rattle.pks_kf.specs.Known.{literals_of}
use Rattle.pks_query_lookup.proofs.OwnForms.{own_literal}
use Rattle.pks_query_lookup.proofs.normals.Normals.normal_literal.Goals as goal

pub returns-then-is_of_objects : goal.returns-then-is_of_objects
returns-then-is_of_objects c = sym (own_literal (literals_of c.args.self.now.kf) (literal_of c.args.l.now) (sym c.if-is_of_objects.ensures))
