-- What contracts see of a tally.
use Rattle.std.specs.Prelude.{ℕ}
use Rattle.av_cases.specs.declared.tally.Tally.{Tally}

-- how many cases differ; it stands still at 2 ^ 64 - 1
abbrev pub differing : Tally → ℕ
differing tally = tally.differ
