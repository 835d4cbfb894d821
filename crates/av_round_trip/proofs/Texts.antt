-- Texts that are spelled for whole trees.
use Rattle.std.proofs.Common.{List, [], sym, subst}
use Rattle.av_lex.specs.declared.token.Token.{Token}
use Rattle.av_tree.specs.declared.node.Tree.{Tree}
use Rattle.av_reader.specs.Reading.{the_limits}
use Rattle.av_printer.specs.declared.form.Form.TheVariants as forms
use Rattle.av_printer.specs.Pieces.{Piece, spelt}
use Rattle.av_printer.specs.Spelling.{pieces_of, spelling}
use Rattle.av_print_laws.specs.Spacing.{tokens_of, words_of}
use Rattle.av_print_laws.proofs.Lexing.{tokens-law, no-other-law}
use Rattle.av_print_laws.proofs.TextsOf.{spellings-law}
use Rattle.av_print_laws.proofs.NodeParts.{trees-law}
use Rattle.av_read_laws.specs.Laws.{IsMade, IsReadAs}
use Rattle.av_read_laws.proofs.Again.{reading-law}
use Rattle.av_round_trip.specs.Trees.{as_read}
use Rattle.av_round_trip.specs.Laws.{GenericTextsLaw}
use Rattle.av_round_trip.proofs.Trees.{generic_trees-law}

pub generic_texts-law : GenericTextsLaw
unfolding spelling
generic_texts-law tree readable =
    let pieces : List Piece = pieces_of forms.Generic tree.root in
    let spaced = trees-law forms.Generic tree.root readable.spelled in
    let again : Tree = record { aliases = []; root = as_read tree.root } in
    let made : IsMade (words_of pieces) again = record { makes = generic_trees-law the_limits.signs tree.root readable.whole readable.named readable.alone; brackets = readable.brackets } in
    let read : IsReadAs (spelt pieces) (tokens_of pieces 0) again = reading-law (spelt pieces) (tokens_of pieces 0) (words_of pieces) again (spellings-law pieces) made in
    record {
      tokens = tokens_of pieces 0;
      has = tokens-law pieces spaced;
      reads = λ others has. subst (λ (tokens : List Token). IsReadAs (spelt pieces) tokens again) (sym (no-other-law pieces spaced others has)) read;
    }
