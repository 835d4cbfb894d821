-- What is written for a program in a form reads again as its module.
use Rattle.std.proofs.Common.{◌<◌, ◌≤◌, ◌^◌, ◌∙◌, length, ap, sym, subst, arith}
use Rattle.std.specs.List.{All}
use Rattle.av_ir.specs.declared.module.Module.{Module}
use Rattle.av_tree.specs.declared.node.Tree.{Tree}
use Rattle.av_totree.specs.Trees.{tree_of}
use Rattle.av_printer.specs.declared.form.Form.{Form}
use Rattle.av_printer.specs.Pieces.{spelt}
use Rattle.av_printer.specs.Spelling.{pieces_of, spelling}
use Rattle.av_verify.specs.declared.module.Mode.TheVariants.{Run}
use Rattle.av_verify.specs.Elaboration.{elaborated}
use Rattle.av_print_laws.specs.Spacing.{tokens_of, words_of}
use Rattle.av_print_laws.proofs.Lexing.{tokens-law}
use Rattle.av_print_laws.proofs.TextsOf.{spellings-law}
use Rattle.av_print_laws.proofs.NodeParts.{trees-law}
use Rattle.av_read_laws.specs.Laws.{IsMade}
use Rattle.av_read_laws.proofs.Again.{reading-law}
use Rattle.av_output_laws.proofs.PlacesInWalks.{places}
use Rattle.av_program_laws.specs.Programs.{Program}
use Rattle.av_program_laws.specs.Walks.{last_place}
use Rattle.av_program_laws.specs.Modules.{func_of, module_of}
use Rattle.av_program_laws.specs.WrittenTrees.{written_tree}
use Rattle.av_program_laws.specs.ReadTrees.{read_tree}
use Rattle.av_program_laws.specs.Sound.{IsSound}
use Rattle.av_program_laws.proofs.TakenWholes.{taken_law}
use Rattle.av_program_laws.proofs.MadeModules.{tree_made}
use Rattle.av_program_laws.proofs.AgainPlaces.{sizes_within}
use Rattle.av_program_laws.proofs.AgainWholes.{read_again}
use Rattle.av_program_laws.proofs.PrintedForms.{printed}
use Rattle.av_program_laws.proofs.GenericTrees.{brackets}
use Rattle.av_output_laws.proofs.Reread.{reread}
use Rattle.av_output_laws.specs.Returns.{ReadsAgain}
use Rattle.av_output_laws.specs.ReturnLaws.{HasFewValues, ReturnLaw}

pub returned : (form : Form) (p : Program) → IsSound p → length p.sizes < 2 ^ 64 → ReadsAgain (spelling form (written_tree p)) (module_of p)
unfolding spelling
returned form p sound few =
    let pieces = pieces_of form (written_tree p).root in
    let spaced = trees-law form (written_tree p).root (printed form p sound) in
    let made : IsMade (words_of pieces) (read_tree form p) = record { makes = reread form _ p (omega arith) sound; brackets = brackets form p } in
    let read = reading-law (spelt pieces) (tokens_of pieces 0) (words_of pieces) (read_tree form p) (spellings-law pieces) made in
    record {
      tokens = tokens_of pieces 0;
      lexed = tokens-law pieces spaced;
      tree = read.read;
      is_tree = read.is;
      elaborates = sym (places read.read Run) ∙ ap (λ (t : Tree). elaborated t Run) read.same ∙ read_again form p sound few;
    }

pub return_law : ReturnLaw
return_law form tree shape m wide is given numbered =
    let taken = taken_law tree shape m wide is given in
    let Reads : Tree → Type 0 = λ t. ReadsAgain (spelling form t) (module_of taken.program) in
    let Returns : Module → Type 0 = λ n. ReadsAgain (spelling form (tree_of n)) n in
    let Few : Module → Type 0 = λ n. All HasFewValues n.funcs in
    let values : Few (module_of taken.program) = subst Few taken.same numbered in
    let within : length taken.program.sizes ≤ length (last_place taken.program).types = sizes_within taken.program in
    let first : length (last_place taken.program).types < 2 ^ 64 = values 0 (func_of taken.program) (omega arith) in
    let few : length taken.program.sizes < 2 ^ 64 = omega arith in
    let written : Reads (tree_of (module_of taken.program)) = subst Reads (sym (tree_made taken.program taken.sound)) (returned form taken.program taken.sound few) in
    subst Returns (sym taken.same) written
