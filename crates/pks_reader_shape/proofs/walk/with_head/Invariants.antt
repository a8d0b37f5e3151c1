use Rattle.std.proofs.Common.{◌≡◌, drop, map, option_map}
use Rattle.pks_reader_shape.specs.Grammar.{with_head}
use Rattle.pks_reader_shape.specs.GrammarViews.{headed_view}
use Rattle.pks_reader_shape.proofs.walk.with_head.Given as goal

abbrev pub invariant-loop-one : goal.invariant-loop-one
invariant-loop-one l = with_head l.head (map headed_view (drop l.one-index l.fixed)) (option_map (λ ps. ps.now) l.otherwise) ≡ with_head l.head (map headed_view l.fixed) (option_map (λ ps. ps.now) l.otherwise)
