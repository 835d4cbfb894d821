use Rattle.av_ir.proofs.TurnLaws.{loop_law, turn_law}
use Rattle.av_ir.proofs.laws.turns_of_loops.Goals as goal

pub returns-clause-turn : goal.returns-clause-turn
returns-clause-turn c = turn_law

pub returns-clause-turns : goal.returns-clause-turns
returns-clause-turns c = λ body step n k lower carried memory. loop_law body step n k lower carried memory
