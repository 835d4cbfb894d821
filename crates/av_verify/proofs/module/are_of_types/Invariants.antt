-- what is left to compare decides
use Rattle.std.proofs.Common.{◌≡◌, drop}
use Rattle.std.specs.Cmp.Lexicographic.{pointwise}
use Rattle.av_verify.specs.Types.{same_type}
use Rattle.av_verify.proofs.module.are_of_types.Given as goal

abbrev pub invariant-loop-at : goal.invariant-loop-at
invariant-loop-at l = pointwise (λ ty arg. same_type ty arg.ty) (drop l.at l.types) (drop l.at l.args) ≡ pointwise (λ ty arg. same_type ty arg.ty) l.types l.args
