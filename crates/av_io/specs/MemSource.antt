-- What contracts see of a source in memory that fails at listed calls.
use Rattle.std.specs.Prelude.{ℕ, List}
use Rattle.av_io.specs.Feed.{unread}
use Rattle.av_io.specs.declared.mem_source.MemSource.{MemSource}

-- the bytes still to come
abbrev pub bytes_left : MemSource → List ℕ
bytes_left source = unread source.feed

-- the greatest number of bytes of one call
abbrev pub most_bytes : MemSource → ℕ
most_bytes source = source.feed.most

-- how many reads were called, which is the number of the next; it stands still at 2 ^ 64 - 1
abbrev pub calls_made : MemSource → ℕ
calls_made source = source.calls.made.number

-- the numbers, from 0, of the reads that fail
abbrev pub failing_calls : MemSource → List ℕ
failing_calls source = source.calls.fails.items

-- how many reads have failed; it stands still at 2 ^ 64 - 1
abbrev pub fault_count : MemSource → ℕ
fault_count source = source.calls.faults.number
