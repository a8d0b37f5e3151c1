use Rattle.std.proofs.Common.{◌++◌, ◌∷◌, map, codes, append_assoc, sym, ap, ◌∙◌}
use Rattle.std.specs.List.{flat_map}
use Rattle.pks_terms.specs.Printed.{pattern_text, objects_text, seen_text}
use Rattle.pks_terms.specs.Views.{pattern_of, names_of}
use Rattle.pks_world.specs.Observed.{objects_in, seen_of}
use Rattle.pks_exec.proofs.print.print_seen.Goals as goal

pub returns-in_ok-print_atoms-in-All : goal.returns-in_ok-print_atoms-in-All
returns-in_ok-print_atoms-in-All c =
    let names = names_of c.args.p.now in
    let before = c.args.out.now.items in
    let pattern = pattern_text names (pattern_of c.in-All.x) in
    let found = λ (atoms : _). flat_map (λ ds. 32 ∷ objects_text names c.in-All.x.pred.0 ds) (map objects_in atoms) in
    let atoms = found c.as_slice.result.now in
    c.in_ok-print_atoms-in-All.ensures
    ∙ (ap (λ text. text ++ atoms) c.in_ok-print_pattern-in-All.ensures.ok
    ∙ (append_assoc c.put-in-All.new.out.items pattern atoms
    ∙ (ap (λ text. text ++ (pattern ++ atoms)) c.in_ok-put-in-All.ensures.ok
    ∙ (append_assoc before (codes "all ") (pattern ++ atoms)
    ∙ (ap (λ others. before ++ (codes "all " ++ (pattern ++ found others))) c.as_slice.ensures ∙ ap (λ seen. before ++ seen_text names (seen_of seen)) (sym c.in-All.is))))))
