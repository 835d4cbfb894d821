-- What holds of modules that were elaborated.
use Rattle.std.specs.Prelude.{◌≡◌}
use Rattle.av_ir.specs.declared.module.Module.{Module}
use Rattle.av_ir.specs.Marks.{marked_of}
use Rattle.av_ir.specs.WellFormed.{IsScalarModule, WellFormed}
use Rattle.av_tree.specs.declared.node.Tree.{Tree}
use Rattle.av_verify.specs.declared.module.Mode.{Mode}
use Rattle.av_verify.specs.Elaboration.{elaborated, gives}
use Rattle.av_kept.specs.Headline.{EndsAlike}

-- a module of a tree is of Scalar mode
abbrev pub ScalarModeLaw : Type 0
ScalarModeLaw = (tree : Tree) (mode : Mode) (m : Module) → elaborated tree mode ≡ gives m → IsScalarModule m

-- it is well formed
abbrev pub WellFormedLaw : Type 0
WellFormedLaw = (tree : Tree) (mode : Mode) (m : Module) → elaborated tree mode ≡ gives m → WellFormed m

-- the module of a tree and that module with its loops and accesses marked end alike
abbrev pub KeptLoopsLaw : Type 0
KeptLoopsLaw = (tree : Tree) (mode : Mode) (m : Module) → elaborated tree mode ≡ gives m → EndsAlike m (marked_of m)
