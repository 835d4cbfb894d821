-- What is read of a tree's text again.
use Rattle.std.specs.Prelude.{ℕ, ◌≡◌, List, map}
use Rattle.av_lex.specs.declared.token.Token.{Token}
use Rattle.av_lex.specs.Tokens.{Tokens}
use Rattle.av_derive.specs.ClassOf.{class_of, classes_of, spelling_of}
use Rattle.av_tree.specs.declared.node.Node.{Node}
use Rattle.av_tree.specs.declared.node.Tree.{Tree}
use Rattle.av_printer.specs.declared.form.Form.{Form}
use Rattle.av_printer.specs.declared.form.Form.TheVariants as forms
use Rattle.av_printer.specs.Pieces.{Piece}
use Rattle.av_printer.specs.Spelling.{pieces_of, spelling}
use Rattle.av_print_laws.specs.Spacing.{tokens_of, words_of}
use Rattle.av_print_laws.specs.ReadNodes.{IsReadNode}

-- a text has these tokens and no others, and they are the words of these pieces: each has its word's text and its class
pub record ReadsAs (text : List ℕ) (pieces : List Piece) (tokens : List Token) : Type 0 where
  pub has : Tokens text tokens
  pub no_others : (others : List Token) → Tokens text others → others ≡ tokens
  pub texts : map (λ token. (token.kind, spelling_of text token)) tokens ≡ words_of pieces
  pub classes : classes_of text tokens ≡ map (λ word. class_of word.0 word.1) (words_of pieces)

-- the text of a tree that was read is read as the words of its pieces
abbrev pub WrittenTreesLaw : Type 0
WrittenTreesLaw = (form : Form) (tree : Tree) → IsReadNode form tree.root
    → ReadsAs (spelling form tree) (pieces_of form tree.root) (tokens_of (pieces_of form tree.root) 0)

-- a tree that can be spelled with forms of their own can be spelled in each form
abbrev pub FormsLaw : Type 0
FormsLaw = (root : Node) → IsReadNode forms.Named root → (form : Form) → IsReadNode form root
