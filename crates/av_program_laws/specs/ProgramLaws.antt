-- What holds of programs.
use Rattle.std.specs.Prelude.{◌^◌, ◌<◌, ◌≤◌, ◌≡◌, true, length}
use Rattle.av_ir.specs.declared.module.Module.{Module}
use Rattle.av_ir.specs.Marks.{marked_of}
use Rattle.av_shapes.specs.declared.Shape.{Shape}
use Rattle.av_shapes.specs.Places.{lanes}
use Rattle.av_tree.specs.declared.node.Tree.{Tree}
use Rattle.av_printer.specs.declared.form.Form.{Form}
use Rattle.av_totree.specs.Trees.{tree_of}
use Rattle.av_verify.specs.declared.module.Mode.TheVariants.{Scalar, Run}
use Rattle.av_verify.specs.Elaboration.{elaborated, gives}
use Rattle.av_verify.specs.FirstPath.{is_first_path_of}
use Rattle.av_program_laws.specs.Programs.{Program}
use Rattle.av_program_laws.specs.Modules.{module_of}
use Rattle.av_program_laws.specs.WrittenTrees.{written_tree}
use Rattle.av_program_laws.specs.ReadTrees.{read_tree}
use Rattle.av_program_laws.specs.Sound.{IsSound}

-- the tree that is printed for the module of a sound program
abbrev pub WrittenLaw : Type 0
WrittenLaw = (p : Program) → IsSound p → tree_of (module_of p) ≡ written_tree p

-- the tree as which a sound program is read again, in either form, is its module; names of buffers differ where these are fewer than 2 ^ 64
abbrev pub ReadLaw : Type 0
ReadLaw = (form : Form) (p : Program) → IsSound p → length p.sizes < 2 ^ 64 → elaborated (read_tree form p) Run ≡ gives (module_of p)

-- a module is that of a sound program, but for its marks
pub record IsProgram (m : Module) : Type 0 where
  pub program : Program
  pub sound : IsSound program
  pub same : marked_of m ≡ module_of program

-- a tree of the forms that are taken, in which no rule fails, is a sound program, but for its marks; a shape has at least one lane
abbrev pub TakenLaw : Type 0
TakenLaw = (tree : Tree) (shape : Shape) (m : Module) → 1 ≤ lanes shape 1 → is_first_path_of tree ≡ true → elaborated tree (Scalar shape) ≡ gives m → IsProgram m
