-- What contracts see of a source over one of std's readers.
use Rattle.std.specs.Prelude.{ℕ}
use Rattle.av_io.specs.declared.std_source.StdSource.{StdSource}

-- the reader
abbrev pub reader_of : {R : Type 0} → StdSource R → R
reader_of source = source.reader

-- how many reads were made; it stands still at 2 ^ 64 - 1
abbrev pub calls_made : {R : Type 0} → StdSource R → ℕ
calls_made source = source.made.number

-- how many reads have failed; it stands still at 2 ^ 64 - 1
abbrev pub fault_count : {R : Type 0} → StdSource R → ℕ
fault_count source = source.faults.number
