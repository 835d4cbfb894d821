use Rattle.av_ir.proofs.NumberLaws.{numbers_law}
use Rattle.av_ir.proofs.laws.numbers_of_loops.Goals as goal

pub returns : goal.returns
returns c = λ m. numbers_law 0 0 m.funcs
