use Rattle.std.proofs.Common.{◌≡◌, drop}
use Rattle.av_affine.specs.Spelling.{plus_opaques}
use Rattle.av_affine.proofs.spelling.+spelling.Given as goal

abbrev pub invariant-spell_opaques-loop-opaque : goal.invariant-spell_opaques-loop-opaque
invariant-spell_opaques-loop-opaque l = plus_opaques l.sum (drop l.opaque-index l.opaques) ≡ plus_opaques l.fn.before l.opaques
