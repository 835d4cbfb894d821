use Rattle.std.proofs.Common.{◌∙◌}
use Rattle.av_ir.specs.FlatRun.{perform_flat}
use Rattle.av_ir.proofs.MarkedLevels.{funcs_alike}
use Rattle.av_flat.proofs.Agreement.{all_alike}
use Rattle.av_flat.proofs.laws.marked_law.Goals as goal

pub returns : goal.returns
returns c = λ scale m args h. funcs_alike (perform_flat scale) args m.funcs 0 ∙ all_alike scale args m.funcs h
