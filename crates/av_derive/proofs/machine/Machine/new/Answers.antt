-- Nothing was taken, and a file has to come.
use Rattle.std.proofs.Common.{refl, ◌≡◌, ◌∷◌, [], ◌∙◌, ap, ◌++◌, List}
use Rattle.av_tree.specs.declared.table.Symbol.{Symbol}
use Rattle.av_tree.specs.declared.table.Symbol.TheVariants as symbol
use Rattle.av_tree.specs.declared.table.Name.TheVariants as name
use Rattle.av_tree.specs.declared.table.file.FileName.TheVariants as file_name
use Rattle.av_derive.proofs.Refusals.{fresh-stands}
use Rattle.av_derive.proofs.machine.Machine.new.Goals as goal

pub returns-clause-stands : goal.returns-clause-stands
returns-clause-stands c =
    let one : c.push.new.self.items ≡ symbol.Rows (name.File file_name.File) ∷ [] = c.in_ok-push.ensures.items ∙ ap (λ (l : List Symbol). l ++ symbol.Rows (name.File file_name.File) ∷ []) c.new-stack.ensures.items in
    λ cs. fresh-stands _ one c.new.ensures.items refl refl cs
