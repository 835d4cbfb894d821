-- The forms of their own that operations have.
use Rattle.std.specs.Prelude.{ℕ, List, [], Option, Some, None, if◌then◌else◌, codes}
use Rattle.av_dialects.specs.Rows.{number_of, form_of}
use Rattle.av_printer.specs.declared.named.NamedForm.{NamedForm}
use Rattle.av_printer.specs.declared.named.NamedForm.TheVariants as own
use Rattle.av_printer.specs.Pieces.{Piece, plain}
use Rattle.av_printer.specs.Expressions.{same}
use Rattle.av_printer.specs.Operations.{Head, function_line}
use Rattle.av_printer.specs.Parts.{form_line, form_end}

-- what stands before the regions
abbrev pub own_line : NamedForm → Head → List Piece
own_line own.Module h = plain (codes "module")
own_line own.Function h = function_line h
own_line (own.Row number) h = form_line (form_of number) h

-- what stands behind them
abbrev pub own_end : NamedForm → Head → List Piece
own_end own.Module h = []
own_end own.Function h = []
own_end (own.Row number) h = form_end (form_of number) h

-- ---- which form
abbrev pub by_row : Option ℕ → Option NamedForm
by_row None = None
by_row (Some number) = Some (own.Row number)

-- modules and functions by hand, and the others by the table of operations
unfoldable pub own_form : List ℕ → Option NamedForm
own_form name =
    if same name (codes "builtin.module") then Some own.Module else (
    if same name (codes "func.func") then Some own.Function else by_row (number_of name))
