-- What holds of flat runs.
use Rattle.std.specs.Prelude.{◌≡◌, ℕ, map}
use Rattle.av_ir.specs.declared.run.Args.{Args}
use Rattle.av_ir.specs.declared.module.Func.{Func}
use Rattle.av_ir.specs.declared.module.Module.{Module}
use Rattle.av_ir.specs.Marks.{marked_of}
use Rattle.av_ir.specs.ScalarRun.{run_scalar_of}
use Rattle.av_ir.specs.FlatRun.{run_flat_of}
use Rattle.av_ir.specs.WellFormed.{IsScalarFunc, IsScalarModule}

-- on a function of Scalar mode the scale makes no difference
abbrev pub ScalarLaw : Type 0
ScalarLaw = (scale : ℕ) (f : Func) (args : Args) → IsScalarFunc f → run_flat_of scale f args ≡ run_scalar_of f args

-- with its loops and accesses marked, a module of Scalar mode runs at each scale as it did one element at a time
abbrev pub MarkedLaw : Type 0
MarkedLaw =
    (scale : ℕ) (m : Module) (args : Args) → IsScalarModule m
    → map (λ f. run_flat_of scale f args) (marked_of m).funcs ≡ map (λ f. run_scalar_of f args) m.funcs
