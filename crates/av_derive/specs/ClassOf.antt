-- The class of a token, by its kind and the bytes that spell it.
use Rattle.std.specs.Prelude.{ℕ, ◌+◌, Bool, false, not, ◌&&◌, ◌||◌, ◌==◌, nat_le, List, [], ◌∷◌, ◌++◌, length, take, drop, map, Option, Some, None, if◌then◌else◌, codes, bytes_eq}
use Rattle.std.specs.List.{list_all}
use Rattle.std.specs.Char.{is_ascii_digit}
use Rattle.av_dialects.specs.Rows.{form_of, number_of}
use Rattle.av_lex.specs.declared.token.Kind.{Kind}
use Rattle.av_lex.specs.declared.token.Kind.TheVariants as kind
use Rattle.av_lex.specs.declared.token.Token.{Token}
use Rattle.av_lex.specs.declared.class.Class.TheVariants as byte
use Rattle.av_lex.specs.Bytes.{in_class}
use Rattle.av_tree.specs.declared.class.Class.{Class}
use Rattle.av_tree.specs.declared.class.Class.TheVariants as class
use Rattle.av_tree.specs.Forms.{is_by_hand}
use Rattle.av_tree.specs.declared.class.Keyword.{Keyword}
use Rattle.av_tree.specs.declared.class.Keyword.TheVariants as key

-- the words that rows ask for, each with its keyword; the names of operations aside, whose forms are made of parts
unfoldable pub keywords : List (List ℕ × Keyword)
keywords =
    (codes "module", key.Module) ∷
    (codes "func.func", key.FuncFunc) ∷
    (codes "memref", key.MemRef) ∷
    (codes "vector", key.Vector) ∷
    (codes "strided", key.Strided) ∷
    (codes "offset", key.Offset) ∷
    (codes "affine_map", key.AffineMap) ∷
    (codes "affine_set", key.AffineSet) ∷
    (codes "array", key.Array) ∷
    (codes "dense", key.Dense) ∷
    (codes "function_type", key.FunctionType) ∷
    (codes "symbol", key.Symbol) ∷
    (codes "overflow", key.Overflow) ∷
    (codes "attributes", key.Attributes) ∷
    (codes "to", key.To) ∷
    (codes "step", key.Step) ∷
    (codes "iter_args", key.IterArgs) ∷
    (codes "else", key.Else) ∷
    (codes "into", key.Into) ∷
    (codes "from", key.From) ∷
    (codes "min", key.Min) ∷
    (codes "max", key.Max) ∷
    (codes "return", key.Terminator) ∷
    (codes "func.return", key.Terminator) ∷
    (codes "affine.yield", key.Terminator) ∷
    (codes "scf.yield", key.Terminator) ∷
    (codes "true", key.Bool) ∷
    (codes "false", key.Bool) ∷
    (codes "private", key.Visibility) ∷
    (codes "public", key.Visibility) ∷
    (codes "nsw", key.OverflowFlag) ∷
    (codes "nuw", key.OverflowFlag) ∷
    (codes "mod", key.Division) ∷
    (codes "floordiv", key.Division) ∷
    (codes "ceildiv", key.Division) ∷
    (codes "add", key.Kind) ∷
    (codes "mul", key.Kind) ∷
    (codes "and", key.Kind) ∷
    (codes "or", key.Kind) ∷
    (codes "xor", key.Kind) ∷
    (codes "minsi", key.Kind) ∷
    (codes "minui", key.Kind) ∷
    (codes "maxsi", key.Kind) ∷
    (codes "maxui", key.Kind) ∷
    (codes "eq", key.Predicate) ∷
    (codes "ne", key.Predicate) ∷
    (codes "slt", key.Predicate) ∷
    (codes "sle", key.Predicate) ∷
    (codes "sgt", key.Predicate) ∷
    (codes "sge", key.Predicate) ∷
    (codes "ult", key.Predicate) ∷
    (codes "ule", key.Predicate) ∷
    (codes "ugt", key.Predicate) ∷
    (codes "uge", key.Predicate) ∷
    []

-- what the first of these entries with the word says of it
abbrev pub found_in : List (List ℕ × Keyword) → List ℕ → Option Keyword
found_in [] word = None
found_in (entry ∷ rest) word = if bytes_eq word entry.0 then Some entry.1 else found_in rest word

-- the keyword that a word is, if any
abbrev pub keyword_of : List ℕ → Option Keyword
keyword_of word = found_in keywords word

-- `i` and digits, at least one
abbrev pub is_integer_type : List ℕ → Bool
is_integer_type [] = false
is_integer_type (first ∷ digits) = (first == 105) && (not (length digits == 0) && list_all is_ascii_digit digits)

-- `index`, or `i` and digits
abbrev pub is_scalar : List ℕ → Bool
is_scalar word = bytes_eq word (codes "index") || is_integer_type word

-- the class of a word that is the name of the operation of this number, or of none; a form by hand has other words
abbrev pub class_of_number : Option ℕ → Class
class_of_number None = class.OtherWord
class_of_number (Some number) = if is_by_hand (form_of number) then class.OtherWord else class.Word (key.Operation number)

-- the class of a word that is this keyword, or none
abbrev pub class_of_keyword : Option Keyword → List ℕ → Class
class_of_keyword (Some keyword) word = class.Word keyword
class_of_keyword None word = if is_scalar word then class.Scalar else class_of_number (number_of word)

-- a letter or `_`, and then letters, digits, `_`, `$` and `.`
abbrev pub spells_word : List ℕ → Bool
spells_word [] = false
spells_word (first ∷ rest) = in_class byte.WordStart first && list_all (in_class byte.Word) rest

-- the class of a `#` and a name, which follows the first byte
abbrev pub class_of_hash : List ℕ → Class
class_of_hash [] = class.HashOther
class_of_hash (mark ∷ name) = if list_all is_ascii_digit name then class.HashDigits else if spells_word name then class.HashWord else class.HashOther

-- the class of a text in quotes, the quotes included
abbrev pub class_of_quoted : List ℕ → Class
class_of_quoted spelling =
    if bytes_eq spelling (34 ∷ codes "builtin.module" ++ 34 ∷ []) then class.QuotedModule
    else if bytes_eq spelling (34 ∷ codes "func.func" ++ 34 ∷ []) then class.QuotedFunc else class.Quoted

-- the class of a token of this kind with these bytes
abbrev pub class_of : Kind → List ℕ → Class
class_of (kind.Sign sign) spelling = class.Sign sign
class_of kind.Word spelling = class_of_keyword (keyword_of spelling) spelling
class_of kind.Number spelling = if list_all (λ digit. digit == 48) spelling then class.Zero else class.Positive
class_of kind.HashId spelling = class_of_hash spelling
class_of kind.DimX spelling = class.DimX
class_of kind.ScalX spelling = class.ScalX
class_of kind.ValId spelling = class.ValId
class_of kind.SymId spelling = class.SymId
class_of kind.CaretId spelling = class.CaretId
class_of kind.Quoted spelling = class_of_quoted spelling

-- the bytes of a token in its text; none where it isn't within the text
abbrev pub spelling_of : List ℕ → Token → List ℕ
spelling_of bytes token = if nat_le (token.place + token.length) (length bytes) then take token.length (drop token.place bytes) else []

-- the classes of a text's tokens, in order
abbrev pub classes_of : List ℕ → List Token → List Class
classes_of bytes tokens = map (λ token. class_of token.kind (spelling_of bytes token)) tokens
