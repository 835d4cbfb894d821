-- What holds of the text that is written for a module.
use Rattle.std.specs.Prelude.{◌≡◌, ◌<◌, ◌≤◌, ◌^◌, length, true}
use Rattle.std.specs.List.{All}
use Rattle.av_ir.specs.declared.module.Func.{Func}
use Rattle.av_ir.specs.declared.module.Module.{Module}
use Rattle.av_ir.specs.Marks.{marked_of}
use Rattle.av_shapes.specs.declared.Shape.{Shape}
use Rattle.av_shapes.specs.Places.{lanes}
use Rattle.av_tree.specs.declared.node.Tree.{Tree}
use Rattle.av_totree.specs.Trees.{tree_of}
use Rattle.av_printer.specs.declared.form.Form.{Form}
use Rattle.av_printer.specs.Spelling.{spelling}
use Rattle.av_verify.specs.declared.module.Mode.TheVariants.{Scalar}
use Rattle.av_verify.specs.Elaboration.{elaborated, gives}
use Rattle.av_verify.specs.FirstPath.{is_first_path_of}
use Rattle.av_output_laws.specs.Returns.{ReadsAgain}

-- The values of a function are fewer than 2 ^ 64, as those in memory are. Their names are told apart by decimal numbers, of which
-- at most 64 digits are written.
abbrev pub HasFewValues : Func → Type 0
HasFewValues f = length f.values < 2 ^ 64

-- the module of a tree of the forms that are taken, with its loops and accesses marked, is written in either form so that it reads again as itself
abbrev pub ReturnLaw : Type 0
ReturnLaw = (form : Form) (tree : Tree) (shape : Shape) (m : Module) → 1 ≤ lanes shape 1 → is_first_path_of tree ≡ true → elaborated tree (Scalar shape) ≡ gives m
    → All HasFewValues (marked_of m).funcs → ReadsAgain (spelling form (tree_of (marked_of m))) (marked_of m)
