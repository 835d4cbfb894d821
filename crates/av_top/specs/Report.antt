-- The report: a line for each loop with no loop inside.
use Rattle.std.specs.Prelude.{ℕ, List, [], ◌++◌, codes, decimal, option_map, slice_get, unwrap_or}
use Rattle.std.specs.List.{flat_map}
use Rattle.av_ir.specs.declared.marking.InnerLoop.{InnerLoop}
use Rattle.av_ir.specs.declared.module.Func.{Func}
use Rattle.av_ir.specs.declared.module.Module.{Module}
use Rattle.av_ir.specs.Marks.{inner_loops_of}

-- the line of a loop: its function's name and its number, and that it is kept since taking it isn't built
abbrev pub line_of : List ℕ → ℕ → List ℕ
line_of name number =
    codes "@" ++ name ++ codes " loop " ++ decimal number ++ codes ": kept not-built " ++ decimal number ++ codes "\n"

-- the name of the function at a place
abbrev pub name_at : List Func → ℕ → List ℕ
name_at funcs place = unwrap_or (option_map (λ f. f.name) (slice_get funcs place)) []

-- the lines of these loops, in their order
abbrev pub lines_of : List Func → List InnerLoop → List ℕ
lines_of funcs = flat_map (λ inner. line_of (name_at funcs inner.func) inner.number)

-- the report on a module
abbrev pub reported : Module → List ℕ
reported m = lines_of m.funcs (inner_loops_of m)
