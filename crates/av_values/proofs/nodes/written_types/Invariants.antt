use Rattle.std.proofs.Common.{◌≡◌, Some, map, take}
use Rattle.av_tree.specs.declared.written.TypeText.{TypeText}
use Rattle.av_values.proofs.nodes.written_types.Given as goal

abbrev pub invariant-loop-ty : goal.invariant-loop-ty
invariant-loop-ty l = l.list ≡ map (λ (type : TypeText). Some type) (take l.ty-index l.types)
