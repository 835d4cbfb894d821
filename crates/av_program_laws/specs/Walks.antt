-- A walk over a program in the order of its text: numbers of operations and loops, and the types and names of values.
use Rattle.std.specs.Prelude.{ℕ, ◌+◌, List, [], ◌∷◌, ◌++◌, length, slice_index_or, codes}
use Rattle.av_bits.specs.declared.types.Width.TheVariants.{W32}
use Rattle.av_ir.specs.declared.ty.Elem.TheVariants.{Int, Index}
use Rattle.av_ir.specs.declared.ty.Extent.TheVariants.{Fixed}
use Rattle.av_ir.specs.declared.ty.Ty.{Ty}
use Rattle.av_ir.specs.declared.ty.Ty.TheVariants.{Scalar, MemRef}
use Rattle.av_totree.specs.Names.{argument_name, operation_name}
use Rattle.av_program_laws.specs.Programs.{Line, constant, sum, load, store, Step, single, counted, Program}

-- what stands before a place of the text
pub record Place : Type 0 where
  -- operations, and loops
  pub number : ℕ
  pub loops : ℕ
  -- the types of the values, and their names
  pub types : List Ty
  pub names : List (List ℕ)
  -- named arguments of blocks, and named operations
  pub arguments : ℕ
  pub operations : ℕ

abbrev pub element : Ty
element = Scalar (Int W32)

abbrev pub buffer : ℕ → Ty
buffer size = MemRef (Fixed size ∷ []) (Int W32)

abbrev pub type_at : Place → ℕ → Ty
type_at place value = slice_index_or place.types value (Scalar Index)

abbrev pub name_at : Place → ℕ → List ℕ
name_at place value = slice_index_or place.names value (codes "%")

-- the number of the next value
abbrev pub next : Place → ℕ
next place = length place.types

-- behind an operation without a result
unfoldable pub passed : Place → Place
passed place = record place { number = place.number + 1 }

-- behind an operation with one result of this type
unfoldable pub with_result : Ty → Place → Place
with_result ty place = record place {
  number = place.number + 1;
  types = place.types ++ ty ∷ [];
  names = place.names ++ operation_name place.operations ∷ [];
  operations = place.operations + 1;
}

-- behind an argument of a block
unfoldable pub with_argument : Ty → Place → Place
with_argument ty place = record place {
  types = place.types ++ ty ∷ [];
  names = place.names ++ argument_name place.arguments ∷ [];
  arguments = place.arguments + 1;
}

unfoldable pub after_line : Line → Place → Place
after_line (constant pattern) place = with_result element place
after_line (sum left right) place = with_result (type_at place left) place
after_line (load from at) place = with_result element place
after_line (store value into at) place = passed place

unfoldable pub after_lines : List Line → Place → Place
after_lines [] place = place
after_lines (line ∷ lines) place = after_lines lines (after_line line place)

-- where the operations of a loop begin
unfoldable pub inside : Place → Place
inside place = with_argument (Scalar Index) (record place { number = place.number + 1; loops = place.loops + 1 })

-- a loop ends with a terminator
unfoldable pub after_step : Step → Place → Place
after_step (single pattern) place = with_result element place
after_step (counted lower upper lines) place = passed (after_lines lines (inside place))

unfoldable pub after_steps : List Step → Place → Place
after_steps [] place = place
after_steps (step ∷ steps) place = after_steps steps (after_step step place)

unfoldable pub after_buffers : List ℕ → Place → Place
after_buffers [] place = place
after_buffers (size ∷ sizes) place = after_buffers sizes (with_argument (buffer size) place)

-- in the function, which is operation 1 of the module
abbrev pub first_place : Place
first_place = record { number = 2; loops = 0; types = []; names = []; arguments = 0; operations = 0 }

abbrev pub body_place : Program → Place
body_place p = after_buffers p.sizes first_place

abbrev pub last_place : Program → Place
last_place p = after_steps p.steps (body_place p)
