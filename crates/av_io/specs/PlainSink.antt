-- What contracts see of a sink in memory that never fails.
use Rattle.std.specs.Prelude.{ℕ, List}
use Rattle.av_io.specs.declared.plain_sink.PlainSink.{PlainSink}

-- the bytes taken
abbrev pub bytes_held : PlainSink → List ℕ
bytes_held sink = sink.store.bytes.items

-- for how many more bytes room was made
abbrev pub bytes_free : PlainSink → ℕ
bytes_free sink = sink.store.room

-- the greatest number of bytes of one call
abbrev pub most_bytes : PlainSink → ℕ
most_bytes sink = sink.store.most
