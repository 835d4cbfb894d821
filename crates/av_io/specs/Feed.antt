-- What contracts see of a feed.
use Rattle.std.specs.Prelude.{ℕ, List, drop}
use Rattle.av_io.specs.declared.feed.Feed.{Feed}

-- the bytes still to come
abbrev pub unread : Feed → List ℕ
unread feed = drop feed.at feed.bytes.items
