use Rattle.std.proofs.lemmas.Nat.{or_lt, xor_lt}
use Rattle.av_bits.specs.Pattern.{bits_of}
use Rattle.av_bits.proofs.operations.binary.Goals as goal

pub returns-in-Ori-clause-pattern : goal.returns-in-Ori-clause-pattern
returns-in-Ori-clause-pattern c =
    or_lt (bits_of c.args.width) c.args.a c.args.b c.requires.first c.requires.second

pub returns-in-Xori-clause-pattern : goal.returns-in-Xori-clause-pattern
returns-in-Xori-clause-pattern c =
    xor_lt (bits_of c.args.width) c.args.a c.args.b c.requires.first c.requires.second
