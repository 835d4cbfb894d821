-- Marks change no run.
use Rattle.std.specs.Prelude.{◌≡◌, ℕ, List, map}
use Rattle.av_ir.specs.declared.ty.Ty.{Ty}
use Rattle.av_ir.specs.declared.module.Op.{Op}
use Rattle.av_ir.specs.declared.module.Region.{Region}
use Rattle.av_ir.specs.declared.module.Module.{Module}
use Rattle.av_ir.specs.declared.run.Args.{Args}
use Rattle.av_ir.specs.Run.{Perform, run_op, run_region}
use Rattle.av_ir.specs.ScalarRun.{run_func_by}
use Rattle.av_ir.specs.Marks.{marked_op, marked_region, marked_of}

-- a marked operation, and a region of marked operations, run as without marks, whatever operations do
abbrev pub MarkedOpLaw : Type 0
MarkedOpLaw =
    (perform : Perform) (types : List Ty) (op : Op) (loops : ℕ)
    → run_op perform types (marked_op op loops).made ≡ run_op perform types op

abbrev pub MarkedRegionLaw : Type 0
MarkedRegionLaw =
    (perform : Perform) (types : List Ty) (region : Region) (loops : ℕ)
    → run_region perform types (marked_region region loops).made ≡ run_region perform types region

-- the functions of a marked module run as those of the module
abbrev pub MarkedModuleLaw : Type 0
MarkedModuleLaw =
    (perform : Perform) (m : Module) (args : Args)
    → map (λ f. run_func_by perform f args) (marked_of m).funcs ≡ map (λ f. run_func_by perform f args) m.funcs
