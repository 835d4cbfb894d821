-- What contracts see of a sink over one of std's writers.
use Rattle.std.specs.Prelude.{ℕ}
use Rattle.av_io.specs.declared.std_sink.StdSink.{StdSink}

-- the writer
abbrev pub writer_of : {W : Type 0} → StdSink W → W
writer_of sink = sink.writer

-- how many writes have failed; it stands still at 2 ^ 64 - 1
abbrev pub fault_count : {W : Type 0} → StdSink W → ℕ
fault_count sink = sink.faults.number
