-- Texts that are spelled for trees, and read again as these trees.
use Rattle.std.specs.Prelude.{ℕ, ◌≡◌, List, [], ◌∷◌, map, codes}
use Rattle.av_lex.specs.declared.token.Token.{Token}
use Rattle.av_lex.specs.Tokens.{Tokens}
use Rattle.av_tree.specs.declared.attribute.Attr as attrs
use Rattle.av_tree.specs.declared.attribute.Named.{Named, roll-Named}
use Rattle.av_tree.specs.declared.node.Node.{Node, Node-F, out-Node, roll-Node}
use Rattle.av_tree.specs.declared.node.Body.{Body, roll-Body}
use Rattle.av_tree.specs.declared.node.Tree.{Tree}
use Rattle.av_derive.specs.Derivation.{WithinBrackets}
use Rattle.av_reader.specs.Reading.{the_limits}
use Rattle.av_printer.specs.declared.form.Form.TheVariants as forms
use Rattle.av_printer.specs.Spelling.{pieces_of, spelling}
use Rattle.av_print_laws.specs.Spacing.{words_of}
use Rattle.av_print_laws.specs.ReadNodes.{IsReadNode}
use Rattle.av_read_laws.specs.Making.{class_of_word}
use Rattle.av_read_laws.specs.Laws.{IsReadAs}
use Rattle.av_round_trip.specs.Trees.{IsWhole, as_read}

-- A module that is spelled in words of their kinds, and is whole, where the limits of the format are kept.
pub record IsReadable (root : Node) : Type 0 where
  pub spelled : IsReadNode forms.Generic root
  pub whole : IsWhole the_limits.signs root
  pub named : (out-Node root).name ≡ codes "builtin.module"
  pub alone : (out-Node root).results ≡ []
  pub brackets : WithinBrackets the_limits.brackets 0 (map class_of_word (words_of (pieces_of forms.Generic root)))

-- a text has tokens, and however it is divided into tokens, it is read as this tree
pub record ReadsBackAs (text : List ℕ) (tree : Tree) : Type 0 where
  pub tokens : List Token
  pub has : Tokens text tokens
  pub reads : (others : List Token) → Tokens text others → IsReadAs text others tree

-- What is spelled for a tree in the form that all operations have in common is read as this tree, but for aliases, which aren't
-- spelled, for places, and for the order of the entries of dictionaries, which are spelled by name.
abbrev pub GenericTextsLaw : Type 0
GenericTextsLaw = (tree : Tree) → IsReadable tree.root → ReadsBackAs (spelling forms.Generic tree) (record { aliases = []; root = as_read tree.root })

-- ---- worked out by hand
abbrev pub mark : List ℕ → Named
mark text = roll-Named (record { name = text; value = attrs.Unit })

-- a module of nothing
abbrev pub example_layer : List Named → ℕ → Node-F Body Node
example_layer marks place = record {
  name = codes "builtin.module";
  place = place;
  results = [];
  operands = [];
  properties = [];
  attrs = marks;
  regions = roll-Body (record { args = []; nodes = [] }) ∷ [];
  in_types = [];
  out_types = [];
}

abbrev pub example_module : List Named → ℕ → Node
example_module marks place = roll-Node (example_layer marks place)

-- the marks of a module are spelled and read in order of name, and it is read without its place
pub record ExampleLaw : Type 0 where
  pub readable : IsReadable (example_module (mark (codes "b") ∷ mark (codes "a") ∷ []) 7)
  pub spelled : spelling forms.Generic (record { aliases = []; root = example_module (mark (codes "b") ∷ mark (codes "a") ∷ []) 7 })
      ≡ codes "\"builtin.module\"() ({\n}) {a, b} : () -> ()\n"
  pub read : as_read (example_module (mark (codes "b") ∷ mark (codes "a") ∷ []) 7) ≡ example_module (mark (codes "a") ∷ mark (codes "b") ∷ []) 0
