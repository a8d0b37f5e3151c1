-- What a source and a sink over std's readers and writers show.
use Rattle.std.specs.Prelude.{ℕ}
use Rattle.pks_io.specs.declared.standard.StdSource.{StdSource}
use Rattle.pks_io.specs.declared.standard.StdSink.{StdSink}

-- how often reading ended in an error
abbrev pub read_errors : {R : Type 0} → StdSource R → ℕ
read_errors s = s.faults

-- how often writing ended in an error, or took nothing of a nonempty piece
abbrev pub write_errors : {W : Type 0} → StdSink W → ℕ
write_errors s = s.faults

-- the reader from which the bytes come
abbrev pub source_reader : {R : Type 0} → StdSource R → R
source_reader s = s.inner

-- the writer to which the bytes go
abbrev pub sink_writer : {W : Type 0} → StdSink W → W
sink_writer s = s.inner
