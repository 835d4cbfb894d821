-- The module of a program, with its loops and accesses marked.
use Rattle.std.specs.Prelude.{ℕ, ◌+◌, ℤ, false, List, [], ◌∷◌, map, length, replicate, Some, None}
use Rattle.std.specs.List.{range_with_len}
use Rattle.av_affine.specs.declared.expression.Leaf.TheVariants.{Dim}
use Rattle.av_affine.specs.declared.expression.Expr.{Expr}
use Rattle.av_affine.specs.declared.expression.Expr.TheVariants as expr
use Rattle.av_affine.specs.declared.expression.AffMap.{AffMap}
use Rattle.av_bits.specs.declared.types.BinOp.TheVariants.{Addi}
use Rattle.av_ir.specs.declared.module.ValueId.{ValueId}
use Rattle.av_ir.specs.declared.module.Const.TheVariants.{Splat}
use Rattle.av_ir.specs.declared.module.OpKind.{OpKind}
use Rattle.av_ir.specs.declared.module.OpKind.TheVariants.{FuncReturn, ArithConstant, ArithBinary, AffineFor, AffineYield, AffineLoad, AffineStore}
use Rattle.av_ir.specs.declared.module.Marks.{Marks}
use Rattle.av_ir.specs.declared.module.Op.{Op, roll-Op}
use Rattle.av_ir.specs.declared.module.Region.{Region, roll-Region}
use Rattle.av_ir.specs.declared.module.Func.{Func}
use Rattle.av_ir.specs.declared.module.Module.{Module}
use Rattle.av_program_laws.specs.Programs.{Subscript, fixed, variable, plus, minus, Line, constant, sum, load, store, Step, single, counted, Program}
use Rattle.av_program_laws.specs.Walks.{Place, next, after_line, inside, after_step, body_place, last_place}

abbrev pub no_marks : Marks
no_marks = record { loop_no = None; source = None; distinct = false }

abbrev pub value : ℕ → ValueId
value number = record { 0 = number }

-- ---- maps
abbrev pub loop_variable : Expr
loop_variable = expr.Param (Dim 0)

abbrev pub over : ℕ → Expr → AffMap
over dims e = record { dims = dims; syms = 0; results = e ∷ [] }

abbrev pub bound_map : ℤ → AffMap
bound_map z = over 0 (expr.Const z)

abbrev pub subscript_map : Subscript → AffMap
subscript_map (fixed z) = over 0 (expr.Const z)
subscript_map variable = over 1 loop_variable
subscript_map (plus z) = over 1 (expr.Add loop_variable (expr.Const z))
subscript_map (minus z) = over 1 (expr.Sub loop_variable (expr.Const z))

-- the values of a subscript in the loop of a variable
abbrev pub subscript_values : ℕ → Subscript → List ℕ
subscript_values counter (fixed z) = []
subscript_values counter variable = counter ∷ []
subscript_values counter (plus z) = counter ∷ []
subscript_values counter (minus z) = counter ∷ []

-- ---- operations
unfoldable pub op : ℕ → OpKind → List ℕ → List ℕ → List Region → Marks → Op
op number kind operands results regions marks = roll-Op (record {
  number = number;
  kind = kind;
  operands = map value operands;
  results = map value results;
  regions = regions;
  marks = marks;
})

abbrev pub access_mark : ℕ → Marks
access_mark number = record no_marks { source = Some number }

abbrev pub loop_mark : ℕ → Marks
loop_mark number = record no_marks { loop_no = Some number }

-- an operation in the loop of a variable, at a place
unfoldable pub line_op : ℕ → Line → Place → Op
line_op counter (constant pattern) place = op place.number (ArithConstant (Splat pattern)) [] (next place ∷ []) [] no_marks
line_op counter (sum left right) place = op place.number (ArithBinary Addi) (left ∷ right ∷ []) (next place ∷ []) [] no_marks
line_op counter (load from at) place =
    op place.number (AffineLoad (subscript_map at)) (from ∷ subscript_values counter at) (next place ∷ []) [] (access_mark place.number)
line_op counter (store stored into at) place =
    op place.number (AffineStore (subscript_map at)) (stored ∷ into ∷ subscript_values counter at) [] [] (access_mark place.number)

unfoldable pub line_ops : ℕ → List Line → Place → List Op
line_ops counter [] place = op place.number AffineYield [] [] [] no_marks ∷ []
line_ops counter (line ∷ lines) place = line_op counter line place ∷ line_ops counter lines (after_line line place)

unfoldable pub loop_region : List Line → Place → Region
loop_region lines place =
    roll-Region (record { args = value (next place) ∷ []; ops = line_ops (next place) lines (inside place) })

unfoldable pub step_op : Step → Place → Op
step_op (single pattern) place = op place.number (ArithConstant (Splat pattern)) [] (next place ∷ []) [] no_marks
step_op (counted lower upper lines) place =
    op place.number (AffineFor (bound_map lower) (bound_map upper) 1) [] [] (loop_region lines place ∷ []) (loop_mark place.loops)

unfoldable pub step_ops : List Step → Place → List Op
step_ops [] place = op place.number FuncReturn [] [] [] no_marks ∷ []
step_ops (step ∷ steps) place = step_op step place ∷ step_ops steps (after_step step place)

-- ---- the function and the module
abbrev pub func_of : Program → Func
func_of p = record {
  name = p.name;
  number = 1;
  values = (last_place p).types;
  results = [];
  body = roll-Region (record { args = map value (range_with_len 0 (length p.sizes)); ops = step_ops p.steps (body_place p) });
  marks = no_marks;
}

-- the operations are those before the last terminator, and it
abbrev pub module_of : Program → Module
module_of p = record { funcs = func_of p ∷ []; owners = replicate ((last_place p).number + 1) 0 }
