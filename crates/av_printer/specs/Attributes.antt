-- The spelling of attributes and dictionaries.
use Rattle.std.specs.Prelude.{ℕ, ℤ, Bool, List, [], ◌∷◌, ◌++◌, map, Option, Some, None, if◌then◌else◌, codes}
use Rattle.av_lex.specs.declared.token.Kind.TheVariants as kinds
use Rattle.av_lex.specs.declared.token.Sign.TheVariants.{OpenAngle, CloseAngle, Colon, Equal}
use Rattle.av_tree.specs.declared.written.TypeText.{TypeText}
use Rattle.av_tree.specs.declared.attribute.Element.{Element, Element-F, fold-Element}
use Rattle.av_tree.specs.declared.attribute.Element.TheOpen as elements
use Rattle.av_tree.specs.declared.attribute.Attr.{Attr, Attr-F, fold-Attr}
use Rattle.av_tree.specs.declared.attribute.Attr.TheOpen as attrs
use Rattle.av_tree.specs.declared.attribute.Named.{Named, Named-F, fold-Named}
use Rattle.av_printer.specs.Pieces.{Piece, token, sign, plain, colon, spaced, commas, in_square, in_curly}
use Rattle.av_printer.specs.Types.{type_pieces}
use Rattle.av_printer.specs.Expressions.{number, map_pieces, set_pieces}

unfoldable pub truth : Bool → List Piece
truth b = plain (if b then codes "true" else codes "false")

-- `1`, `true`, `[[1, 2], [3, 4]]`
abbrev pub element_step : Element-F (List Piece) → List Piece
element_step (elements.Number z) = number z
element_step (elements.Bool b) = truth b
element_step (elements.List items) = in_square (commas items)

unfoldable pub element_pieces : Element → List Piece
element_pieces = fold-Element (List Piece) element_step

-- ` : i64`
unfoldable pub typed : TypeText → List Piece
typed ty = spaced (sign Colon) ++ type_pieces ty

-- `: 1, 2`, or nothing where there is no number
unfoldable pub numbers_behind : List ℤ → List Piece
numbers_behind [] = []
numbers_behind (n ∷ ns) = colon ++ commas (map number (n ∷ ns))

unfoldable pub quoted : List ℕ → List Piece
quoted text = token kinds.Quoted (codes "\"" ++ text ++ codes "\"")

-- `#name<word, word>`
unfoldable pub hashed : List ℕ → List (List ℕ) → List Piece
hashed name words = token kinds.HashId name ++ sign OpenAngle ++ commas (map plain words) ++ sign CloseAngle

-- `array<i64: 1, 2>`
unfoldable pub array_of : TypeText → List ℤ → List Piece
array_of elem numbers = plain (codes "array") ++ sign OpenAngle ++ type_pieces elem ++ numbers_behind numbers ++ sign CloseAngle

-- `dense<[1, 2]> : vector<2xi64>`
unfoldable pub dense_of : Element → TypeText → List Piece
dense_of elements ty = plain (codes "dense") ++ sign OpenAngle ++ element_pieces elements ++ sign CloseAngle ++ typed ty

-- a unit has no spelling of its own
abbrev pub or_nothing : Option (List Piece) → List Piece
or_nothing None = []
or_nothing (Some pieces) = pieces

unfoldable pub assigned : Option (List Piece) → List Piece
assigned None = []
assigned (Some pieces) = spaced (sign Equal) ++ pieces

abbrev pub attr_step : Attr-F (Option (List Piece)) (List Piece) → Option (List Piece)
attr_step (attrs.Number z ty) = Some (number z ++ typed ty)
attr_step (attrs.Bool b) = Some (truth b)
attr_step (attrs.Quoted text) = Some (quoted text)
attr_step (attrs.Symbol name) = Some (token kinds.SymId name)
attr_step (attrs.Type ty) = Some (type_pieces ty)
attr_step (attrs.Map m) = Some (map_pieces m)
attr_step (attrs.Set s) = Some (set_pieces s)
attr_step (attrs.AliasUse name) = Some (token kinds.HashId name)
attr_step (attrs.Hash name words) = Some (hashed name words)
attr_step (attrs.List items) = Some (in_square (commas (map or_nothing items)))
attr_step (attrs.Dictionary entries) = Some (in_curly (commas entries))
attr_step (attrs.Array elem numbers) = Some (array_of elem numbers)
attr_step (attrs.Dense elements ty) = Some (dense_of elements ty)
attr_step attrs.Unit = None

-- `name = value`, or the name alone where the value is a unit
abbrev pub entry_step : Named-F (Option (List Piece)) (List Piece) → List Piece
entry_step e = plain e.name ++ assigned e.value

unfoldable pub attr_of : Attr → Option (List Piece)
attr_of = fold-Attr (Option (List Piece)) (List Piece) attr_step entry_step

abbrev pub attribute : Attr → List Piece
attribute a = or_nothing (attr_of a)

unfoldable pub entry_pieces : Named → List Piece
entry_pieces = fold-Named (Option (List Piece)) (List Piece) attr_step entry_step
