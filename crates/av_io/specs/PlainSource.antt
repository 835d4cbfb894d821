-- What contracts see of a source in memory that never fails.
use Rattle.std.specs.Prelude.{ℕ, List}
use Rattle.av_io.specs.Feed.{unread}
use Rattle.av_io.specs.declared.plain_source.PlainSource.{PlainSource}

-- the bytes still to come
abbrev pub bytes_left : PlainSource → List ℕ
bytes_left source = unread source.feed

-- the greatest number of bytes of one call
abbrev pub most_bytes : PlainSource → ℕ
most_bytes source = source.feed.most

-- how many reads were made; it stands still at 2 ^ 64 - 1
abbrev pub calls_made : PlainSource → ℕ
calls_made source = source.made.number
