-- Trees that are printed in the form that all operations have in common, and read again as themselves, but that entries of dictionaries stand in order of name.
use Rattle.std.specs.Prelude.{ℕ, ◌≡◌, List, [], ◌∷◌, reverse, Option, Some, codes}
use Rattle.std.specs.List.{All}
use Rattle.av_lex.specs.declared.token.Kind.TheVariants as kinds
use Rattle.av_tree.specs.declared.class.Class.TheVariants as class
use Rattle.av_tree.specs.declared.table.Symbol.TheVariants as symbol
use Rattle.av_tree.specs.declared.table.Name.TheVariants as name
use Rattle.av_tree.specs.declared.table.file.FileName.TheVariants as file_name
use Rattle.av_tree.specs.declared.table.generic.GenericName.TheVariants as generic_name
use Rattle.av_tree.specs.declared.table.attributes.AttributeName.TheVariants as attributes_name
use Rattle.av_tree.specs.declared.attribute.Named.{Named}
use Rattle.av_tree.specs.declared.written.TypeText.{TypeText}
use Rattle.av_tree.specs.declared.node.BodyArg.{BodyArg}
use Rattle.av_tree.specs.declared.node.Node.{Node, Node-F, fold-Node, out-Node, roll-Node}
use Rattle.av_tree.specs.declared.node.Body.{Body, Body-F, fold-Body, out-Body, roll-Body}
use Rattle.av_printer.specs.declared.form.Form.TheVariants as forms
use Rattle.av_printer.specs.Dictionaries.{in_order}
use Rattle.av_printer.specs.Expressions.{from}
use Rattle.av_printer.specs.Operations.{properties_behind, marks_behind}
use Rattle.av_printer.specs.Spelling.{pieces_of}
use Rattle.av_values.specs.declared.value.Value.TheVariants as value
use Rattle.av_values.specs.Forms.{completed}
use Rattle.av_print_laws.specs.Spacing.{words_of}
use Rattle.av_read_laws.specs.Making.{Makes, class_of_word}
use Rattle.av_round_trip.specs.Giving.{Gives}
use Rattle.av_round_trip.specs.Types.{IsType, IsNameOfValue}
use Rattle.av_round_trip.specs.Attributes.{AreEntries}

-- nothing, or `:` and a positive number
abbrev pub IsResultCount : List ℕ → Type 0
IsResultCount [] = Unit {0}
IsResultCount (c ∷ cs) = (c ≡ 58) × (class_of_word (kinds.Number, cs) ≡ class.Positive)

-- the names of results that an operation makes, as `%a` or `%r:2`
abbrev pub IsNameOfResults : List ℕ → Type 0
IsNameOfResults text = IsResultCount (from 58 text)

-- a type that the tree has
pub data IsKnownType : Option TypeText → Type 0 where
  known : (t : TypeText) → IsType t → IsKnownType (Some t)

-- nothing is put into an operation without names of results: if it is a branch, its second region has a terminator
abbrev pub IsComplete : Node → Type 0
IsComplete node = (out-Node node).results ≡ [] → completed node ≡ node

-- dictionaries behind operations, which are read in order of name
abbrev pub PropertiesLaw : Type 0
PropertiesLaw = (most : ℕ) (entries : List Named) → AreEntries most entries
    → Gives most (symbol.Rows (name.Generic generic_name.Properties) ∷ []) (properties_behind entries) (value.Entries (reverse (in_order entries)) ∷ [])

abbrev pub MarksLaw : Type 0
MarksLaw = (most : ℕ) (entries : List Named) → AreEntries most entries
    → Gives most (symbol.Rows (name.Attribute attributes_name.OptionalDictionary) ∷ []) (marks_behind entries) (value.Entries (reverse (in_order entries)) ∷ [])

-- an operation beside its regions
pub record IsWholeLine (most : ℕ) (n : Node-F Body Node) : Type 0 where
  pub makes : All IsNameOfResults n.results
  pub uses : All IsNameOfValue n.operands
  pub says : AreEntries most n.properties
  pub marked : AreEntries most n.attrs
  pub takes : All IsKnownType n.in_types
  pub gives : All IsKnownType n.out_types

abbrev pub IsWholeArg : BodyArg → Type 0
IsWholeArg a = IsType a.ty

mutual
  -- an operation: itself and its regions; nothing is left for the reader to put in
  pub data IsWhole (most : ℕ) : Node → Type 0 where
    node : (n : Node) → IsWholeLine most (out-Node n) → AreWholeBodies most (out-Node n).regions → IsWhole most n

  pub data AreWholeBodies (most : ℕ) : List Body → Type 0 where
    no_bodies : AreWholeBodies most []
    one_body_more : (b : Body) (rest : List Body) → All IsWholeArg (out-Body b).args → AreWholeNodes most (out-Body b).nodes
        → AreWholeBodies most rest → AreWholeBodies most (b ∷ rest)

  -- operations in a region
  pub data AreWholeNodes (most : ℕ) : List Node → Type 0 where
    no_nodes : AreWholeNodes most []
    one_node_more : (n : Node) (rest : List Node) → IsComplete n → IsWhole most n → AreWholeNodes most rest → AreWholeNodes most (n ∷ rest)

-- ---- the tree as it is read
abbrev pub ordered_step : Node-F Body Node → Node
ordered_step n = roll-Node (record n { place = 0; properties = in_order n.properties; attrs = in_order n.attrs })

abbrev pub body_step : Body-F Body Node → Body
body_step b = roll-Body b

-- an operation without places, and with the entries of its dictionaries in order of name, and the same of all operations in it
unfoldable pub as_read : Node → Node
as_read = fold-Node Body Node body_step ordered_step

unfoldable pub body_as_read : Body → Body
body_as_read = fold-Body Body Node body_step ordered_step

-- In the form that all operations have in common, the rows of the format make of the words that are printed for a module the module.
abbrev pub GenericTreesLaw : Type 0
GenericTreesLaw = (most : ℕ) (root : Node) → IsWhole most root → (out-Node root).name ≡ codes "builtin.module" → (out-Node root).results ≡ []
    → Makes most (symbol.Rows (name.File file_name.File) ∷ []) (words_of (pieces_of forms.Generic root))
    (value.Tree (record { aliases = []; root = as_read root }) ∷ [])
