use Rattle.std.proofs.Common.{◌++◌, ◌∷◌, [], Option, Result, Ok, Err, OnErr}
use Rattle.std.specs.Io.KnownBytes.{Appends}
use Rattle.pks_io.specs.Writing.{AppendsFront}
use Rattle.pks_terms.specs.Printed.{Text}
use Rattle.pks_agent.proofs.Joining.{front_behind}
use Rattle.pks_agent.proofs.wire.say.Goals as goal

-- a fault behind what was written
failed_behind : {X E : Type 0} (old mid new : Option Text) (xs ys : Text) (result : Result X E) → Appends old mid xs → OnErr result (AppendsFront mid new ys) → OnErr result (AppendsFront old new (xs ++ ys))
failed_behind old mid new xs ys (Ok x) a b = tt
failed_behind old mid new xs ys (Err e) a b = front_behind old mid new xs ys a b

pub returns-in-Ok-clause-err : goal.returns-in-Ok-clause-err
returns-in-Ok-clause-err g c =
    failed_behind (g.K.Sink.written c.args.sink.now) (g.K.Sink.written c.write_all.new.sink) (g.K.Sink.written c.write_all-in-Ok.new.sink)
    c.args.text.now (10 ∷ []) c.write_all-in-Ok.result c.in-Ok.ensures.ok c.write_all-in-Ok.ensures.err
