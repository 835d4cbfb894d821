-- What a module with all its loops kept means: at each scale, what the module that was read means.
use Rattle.std.specs.Prelude.{◌≡◌, ℕ, ◌≤◌, List}
use Rattle.std.specs.List.{AllZip}
use Rattle.av_ir.specs.declared.run.Args.{Args}
use Rattle.av_ir.specs.declared.types.Ended.{Ended}
use Rattle.av_ir.specs.declared.ty.Ty.{Ty}
use Rattle.av_ir.specs.declared.module.Region.{out-Region}
use Rattle.av_ir.specs.declared.module.Func.{Func}
use Rattle.av_ir.specs.declared.module.Module.{Module}
use Rattle.av_ir.specs.Values.{Suits}
use Rattle.av_ir.specs.Run.{Run, ends, traps, types_at}
use Rattle.av_ir.specs.ScalarRun.{run_scalar_of}
use Rattle.av_ir.specs.FlatRun.{run_flat_of}

-- a run ends with this, without a trap
abbrev pub EndsWith : {A : Type 0} → Run A → A → Type 0
EndsWith (ends a steps) end = a ≡ end
EndsWith (traps kind number steps) end = ⊥

-- Arguments are good for a function if they suit it, however many elements they have, and its scalar run ends without a
-- trap, with these buffers and results. Each memref argument is a buffer of its own.
pub record Good (f : Func) (args : Args) : Type 0 where
  pub suits : Suits f args
  pub outcome : Ended
  pub without_trap : EndsWith (run_scalar_of f args) outcome

-- the types of a function's arguments, in their order
abbrev pub argument_types : Func → List Ty
argument_types f = types_at f.values (out-Region f.body).args

-- A function of the same name and types that ends alike at this scale, which is constant over a run: for all good
-- arguments its flat run has no trap, and ends with the buffers and results of the scalar run of the first.
pub record EndsAlikeAt (scale : ℕ) (f f' : Func) : Type 0 where
  pub name : f'.name ≡ f.name
  pub arguments : argument_types f' ≡ argument_types f
  pub results : f'.results ≡ f.results
  pub alike : (args : Args) (good : Good f args) → EndsWith (run_flat_of scale f' args) good.outcome

-- at each scale from 1 to 16 the functions of two modules end alike, place by place
abbrev pub EndsAlike : Module → Module → Type 0
EndsAlike m m' = (scale : ℕ) → 1 ≤ scale → scale ≤ 16 → AllZip (EndsAlikeAt scale) m.funcs m'.funcs
