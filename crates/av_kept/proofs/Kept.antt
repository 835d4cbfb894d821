-- An elaborated module is well formed and of Scalar mode.
use Rattle.std.proofs.Common.{◌≡◌, length}
use Rattle.std.specs.List.{All}
use Rattle.std.proofs.lemmas.List.Elements.{All-weaker}
use Rattle.av_ir.specs.declared.module.Func.{Func}
use Rattle.av_ir.specs.declared.module.Module.{Module}
use Rattle.av_ir.specs.WellFormed.{HasNoVector, IsNoVector, IsScalarFunc, IsScalarModule, IsWellFormedFunc, WellFormed}
use Rattle.av_tree.specs.declared.node.Tree.{Tree}
use Rattle.av_verify.specs.declared.module.Mode.{Mode}
use Rattle.av_verify.specs.Elaboration.{elaborated, gives}
use Rattle.av_verify.proofs.Kept.{elaborated_holds}
use Rattle.av_kept.proofs.Parts.{IsGoodOp, IsGoodRegion, good_op, good_region}

abbrev IsKept : Func → Type 0
IsKept f = HasNoVector f × IsGoodRegion (length f.values) f.body

kept : (tree : Tree) (mode : Mode) (m : Module) → elaborated tree mode ≡ gives m → All IsKept m.funcs
kept = elaborated_holds IsNoVector (λ elem. tt) (λ extents elem. tt) IsGoodOp IsGoodRegion good_op good_region

pub scalar_module : (tree : Tree) (mode : Mode) (m : Module) → elaborated tree mode ≡ gives m → IsScalarModule m
scalar_module tree mode m is = All-weaker IsKept IsScalarFunc (λ f h. record { types = h.0; ops = h.1.1 }) m.funcs (kept tree mode m is)

pub formed_module : (tree : Tree) (mode : Mode) (m : Module) → elaborated tree mode ≡ gives m → WellFormed m
formed_module tree mode m is = All-weaker IsKept IsWellFormedFunc (λ f h. h.1.0) m.funcs (kept tree mode m is)
