-- What contracts see of a sink in memory that fails at listed calls.
use Rattle.std.specs.Prelude.{ℕ, List}
use Rattle.av_io.specs.declared.mem_sink.MemSink.{MemSink}

-- the bytes taken
abbrev pub bytes_held : MemSink → List ℕ
bytes_held sink = sink.store.bytes.items

-- for how many more bytes room was made
abbrev pub bytes_free : MemSink → ℕ
bytes_free sink = sink.store.room

-- the greatest number of bytes of one call
abbrev pub most_bytes : MemSink → ℕ
most_bytes sink = sink.store.most

-- how many writes were called, which is the number of the next; it stands still at 2 ^ 64 - 1
abbrev pub calls_made : MemSink → ℕ
calls_made sink = sink.calls.made.number

-- the numbers, from 0, of the writes that fail
abbrev pub failing_calls : MemSink → List ℕ
failing_calls sink = sink.calls.fails.items

-- how many writes have failed; it stands still at 2 ^ 64 - 1
abbrev pub fault_count : MemSink → ℕ
fault_count sink = sink.calls.faults.number
