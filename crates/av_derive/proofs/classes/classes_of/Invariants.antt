use Rattle.std.proofs.Common.{◌≡◌, map, take}
use Rattle.av_derive.specs.ClassOf.{class_of, spelling_of}
use Rattle.av_derive.proofs.classes.classes_of.Given as goal

abbrev pub invariant-loop-token : goal.invariant-loop-token
invariant-loop-token l = l.classes.items ≡ map (λ token. class_of token.kind (spelling_of l.bytes token)) (take l.token-index l.tokens)
