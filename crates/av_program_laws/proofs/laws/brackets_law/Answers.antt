use Rattle.av_program_laws.proofs.laws.brackets_law.Goals as goal
use Rattle.av_program_laws.proofs.GenericTrees.{brackets}

pub returns : goal.returns
returns c = brackets
