-- What holds of pieces that are written and read again.
use Rattle.std.specs.Prelude.{ℕ, ◌≡◌, Bool, true, List, ◌++◌, map, IsPermutation, IsSortedByKey}
use Rattle.std.specs.Ordering.{nat_cmp}
use Rattle.std.specs.Cmp.Lexicographic.{slice_cmp}
use Rattle.av_lex.specs.declared.token.Token.{Token}
use Rattle.av_lex.specs.Tokens.{Tokens}
use Rattle.av_derive.specs.ClassOf.{class_of, classes_of, spelling_of}
use Rattle.av_tree.specs.declared.written.TypeText.{TypeText}
use Rattle.av_printer.specs.Pieces.{Piece, spelt}
use Rattle.av_tree.specs.declared.written.MapText.{MapText}
use Rattle.av_tree.specs.declared.written.SetText.{SetText}
use Rattle.av_printer.specs.Expressions.{map_pieces, set_pieces, map_use, subscripts, bound}
use Rattle.av_tree.specs.declared.attribute.Attr.{Attr}
use Rattle.av_tree.specs.declared.attribute.Named.{Named, out-Named}
use Rattle.av_printer.specs.Attributes.{attribute}
use Rattle.av_printer.specs.Dictionaries.{dictionary, in_order}
use Rattle.av_printer.specs.Types.{type_pieces}
use Rattle.av_print_laws.specs.Spacing.{begins_apart, SpacedBefore, Spaced, tokens_of, words_of}
use Rattle.std.specs.List.{All}
use Rattle.av_print_laws.specs.ReadTypes.{IsReadType}
use Rattle.av_print_laws.specs.ReadAttributes.{IsReadAttr, AreReadEntries}
use Rattle.av_print_laws.specs.ReadExpressions.{IsReadMap, IsReadSet, IsValue}
use Rattle.av_tree.specs.declared.node.Node.{Node}
use Rattle.av_printer.specs.declared.form.Form.{Form}
use Rattle.av_printer.specs.Spelling.{pieces_of}
use Rattle.av_print_laws.specs.ReadNodes.{IsReadNode}

-- the tokens of what spaced pieces spell are their words
abbrev pub TokensLaw : Type 0
TokensLaw = (pieces : List Piece) → Spaced pieces → Tokens (spelt pieces) (tokens_of pieces 0)

-- and it has no other tokens
abbrev pub NoOtherTokensLaw : Type 0
NoOtherTokensLaw = (pieces : List Piece) → Spaced pieces → (tokens : List Token) → Tokens (spelt pieces) tokens → tokens ≡ tokens_of pieces 0

-- each token is spelled with the text of its word
abbrev pub SpellingsLaw : Type 0
SpellingsLaw = (pieces : List Piece)
    → map (λ token. (token.kind, spelling_of (spelt pieces) token)) (tokens_of pieces 0) ≡ words_of pieces

-- each token has the class of its word
abbrev pub ClassesLaw : Type 0
ClassesLaw = (pieces : List Piece)
    → classes_of (spelt pieces) (tokens_of pieces 0) ≡ map (λ word. class_of word.0 word.1) (words_of pieces)

-- pieces are spaced if their first part is before the second, and the second is
abbrev pub PartsLaw : Type 0
PartsLaw = (first second : List Piece) (rest : List ℕ) → SpacedBefore first (spelt second ++ rest) → SpacedBefore second rest
    → SpacedBefore (first ++ second) rest

-- the pieces of a type that was read are spaced before each text that begins apart
abbrev pub TypesLaw : Type 0
TypesLaw = (ty : TypeText) → IsReadType ty → (rest : List ℕ) → begins_apart rest ≡ true → SpacedBefore (type_pieces ty) rest

-- so are those of a map
abbrev pub MapsLaw : Type 0
MapsLaw = (m : MapText) → IsReadMap m → (rest : List ℕ) → begins_apart rest ≡ true → SpacedBefore (map_pieces m) rest

-- and of a set
abbrev pub SetsLaw : Type 0
SetsLaw = (s : SetText) → IsReadSet s → (rest : List ℕ) → begins_apart rest ≡ true → SpacedBefore (set_pieces s) rest

-- and of a map with its operands, as subscripts and as a bound of a loop
abbrev pub MapUsesLaw : Type 0
MapUsesLaw = (m : MapText) (operands : List (List ℕ)) → IsReadMap m → All IsValue operands
    → (rest : List ℕ) → begins_apart rest ≡ true
    → SpacedBefore (map_use m operands) rest × SpacedBefore (subscripts m operands) rest
    × ((lower : Bool) → SpacedBefore (bound lower m operands) rest)

-- and of an attribute
abbrev pub AttributesLaw : Type 0
AttributesLaw = (a : Attr) → IsReadAttr a → (rest : List ℕ) → begins_apart rest ≡ true → SpacedBefore (attribute a) rest

-- and of the entries of a dictionary
abbrev pub DictionariesLaw : Type 0
DictionariesLaw = (entries : List Named) → AreReadEntries entries → (rest : List ℕ) → begins_apart rest ≡ true
    → SpacedBefore (dictionary entries) rest

-- and of a whole tree, in each form
abbrev pub TreesLaw : Type 0
TreesLaw = (form : Form) (root : Node) → IsReadNode form root → Spaced (pieces_of form root)

-- the name of an entry
abbrev pub name_of : Named → List ℕ
name_of entry = (out-Named entry).name

-- the entries of a dictionary are spelled in order of name, by bytes: none has a smaller name than the one before it; and they
-- are the entries of the dictionary, each as often
abbrev pub OrderedEntriesLaw : Type 0
OrderedEntriesLaw = (entries : List Named) → IsSortedByKey name_of (slice_cmp nat_cmp) (in_order entries) × IsPermutation entries (in_order entries)
