use Rattle.av_printer.specs.Spelling.{pieces_of, spelling}
use Rattle.av_print_laws.specs.WrittenTrees.{WrittenTreesLaw}
use Rattle.av_print_laws.proofs.Lexing.{tokens-law, no-other-law}
use Rattle.av_print_laws.proofs.TextsOf.{spellings-law, classes-law}
use Rattle.av_print_laws.proofs.NodeParts.{trees-law}
use Rattle.av_print_laws.proofs.trees_are_read_as_spelled.Goals as goal

written-trees-law : WrittenTreesLaw
unfolding spelling
written-trees-law form tree h =
    let spaced = trees-law form tree.root h in
    record {
      has = tokens-law (pieces_of form tree.root) spaced;
      no_others = no-other-law (pieces_of form tree.root) spaced;
      texts = spellings-law (pieces_of form tree.root);
      classes = classes-law (pieces_of form tree.root);
    }

pub returns : goal.returns
returns c = written-trees-law
