-- How many values functions have.
use Rattle.std.specs.Prelude.{ℕ, List, length, nat_lt, fold, if◌then◌else◌}
use Rattle.av_ir.specs.declared.module.Func.{Func}

abbrev pub greater : ℕ → Func → ℕ
greater most f = if nat_lt most (length f.values) then length f.values else most

-- the greatest number of values of a function
abbrev pub most_of : List Func → ℕ
most_of funcs = fold greater 0 funcs
