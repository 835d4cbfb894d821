-- the types are copied up to the place of the loop
use Rattle.std.proofs.Common.{◌≡◌, take}
use Rattle.av_tree.proofs.written.+copying.Given as goal

abbrev pub invariant-copy_types-loop-ty : goal.invariant-copy_types-loop-ty
invariant-copy_types-loop-ty l = l.copies ≡ take l.ty-index l.types
