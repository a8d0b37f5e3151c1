use Rattle.std.proofs.Common.{◌∙◌, ◌∷◌}
use Rattle.std.specs.List.{flat_map}
use Rattle.pks_terms.specs.Printed.{numbers_from, numbered_object, fact_lines}
use Rattle.pks_run_bench.proofs.Generated.{by_parts, in_turn, to_objects, to_facts, to_end}
use Rattle.pks_run_bench.proofs.file.generate.Goals as goal

pub returns : goal.returns
returns c =
    in_turn to_objects (flat_map (λ i. 32 ∷ numbered_object i) (numbers_from 1 c.args.n)) to_facts (fact_lines c.args.n) to_end
    c.new-text.ensures.items c.in_ok-put.ensures c.in_ok-put_objects.ensures c.in_ok-put-2.ensures c.in_ok-put_facts.ensures c.in_ok-put-3.ensures ∙ by_parts c.args.n
