-- What holds of words that are read again.
use Rattle.std.specs.Prelude.{◌≡◌, ℕ, List, [], ◌∷◌, codes, map}
use Rattle.av_lex.specs.declared.token.Kind.TheVariants as kind
use Rattle.av_lex.specs.declared.token.Sign.TheVariants as sign
use Rattle.av_lex.specs.declared.token.Token.{Token}
use Rattle.av_tree.specs.declared.node.Tree.{Tree}
use Rattle.av_tree.specs.declared.table.Symbol.TheVariants as symbol
use Rattle.av_tree.specs.declared.table.Name.TheVariants as name
use Rattle.av_tree.specs.declared.table.file.FileName.TheVariants as file_name
use Rattle.av_derive.specs.Derivation.{WithinBrackets}
use Rattle.av_values.specs.declared.value.Value.TheVariants as value
use Rattle.av_values.specs.Operations.{module_of}
use Rattle.av_reader.specs.Reading.{IsTree, the_limits}
use Rattle.av_read_laws.specs.Making.{Word, class_of_word, words_of, Makes}
use Rattle.av_read_laws.specs.Places.{unplaced}

-- the rows make this tree of the words within the limits
pub record IsMade (words : List Word) (tree : Tree) : Type 0 where
  pub makes : Makes the_limits.signs (symbol.Rows (name.File file_name.File) ∷ []) words (value.Tree tree ∷ [])
  pub brackets : WithinBrackets the_limits.brackets 0 (map class_of_word words)

-- the text with its tokens is read as this tree, but for the places of its operations
pub record IsReadAs (bytes : List ℕ) (tokens : List Token) (tree : Tree) : Type 0 where
  pub read : Tree
  pub is : IsTree bytes tokens read
  pub same : unplaced read ≡ tree

-- what the rows make of the words of a text is what it is read as
abbrev pub ReadingLaw : Type 0
ReadingLaw = (bytes : List ℕ) (tokens : List Token) (words : List Word) (tree : Tree)
    → words_of bytes tokens ≡ words → IsMade words tree → IsReadAs bytes tokens tree

-- the words `module {}`, and the tree that is made of them
abbrev pub example_words : List Word
example_words = (kind.Word, codes "module") ∷ (kind.Sign sign.OpenCurly, codes "{") ∷ (kind.Sign sign.CloseCurly, codes "}") ∷ []

abbrev pub example_tree : Tree
example_tree = record { aliases = []; root = module_of [] [] [] 0 }

abbrev pub ExampleLaw : Type 0
ExampleLaw = IsMade example_words example_tree
