use Rattle.std.proofs.Common.{◌≡◌, map, take}
use Rattle.av_tree.specs.declared.node.BodyArg.{BodyArg}
use Rattle.av_blocks.proofs.files.types_of.Given as goal

abbrev pub invariant-loop-arg : goal.invariant-loop-arg
invariant-loop-arg l = l.types ≡ map (λ (arg : BodyArg). arg.ty) (take l.arg-index l.args)
