-- The words that are printed for a sound program, in either form, are read as its tree.
use Rattle.std.proofs.Common.{[], ◌∷◌, sym, ap}
use Rattle.av_tree.specs.declared.node.Node.{Node}
use Rattle.av_printer.specs.declared.form.Form.TheVariants as forms
use Rattle.av_values.specs.declared.value.Value.TheVariants as value
use Rattle.av_program_laws.specs.WrittenTrees.{written_tree}
use Rattle.av_round_trip.proofs.Following.{respelled, revalued}
use Rattle.av_round_trip.proofs.Trees.{generic_trees-law}
use Rattle.av_output_laws.specs.RereadLaws.{RereadLaw}
use Rattle.av_output_laws.proofs.Modules.{program_made}
use Rattle.av_output_laws.proofs.SaidModules.{words_are}
use Rattle.av_output_laws.proofs.WholePrograms.{module_reread, root_name, root_results}

pub reread : RereadLaw
reread forms.Named most p two sound = respelled (sym (words_are p)) (program_made two p sound)
reread forms.Generic most p two sound =
    let whole = module_reread two p sound in
    revalued (ap (λ (n : Node). value.Tree (record { aliases = []; root = n }) ∷ []) whole.is)
    (generic_trees-law most (written_tree p).root whole.whole (root_name p) (root_results p))
