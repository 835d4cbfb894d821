-- The spelling of numbers, names, affine expressions, maps and sets.
use Rattle.std.specs.Prelude.{ℕ, suc, ℤ, pos, negsuc, Bool, false, List, [], ◌∷◌, ◌++◌, map, length, take, drop, nat_lt, nat_eq, ◌==◌, Option, Some, None, if◌then◌else◌, codes, decimal}
use Rattle.std.specs.Cmp.Lexicographic.{pointwise}
use Rattle.av_lex.specs.declared.token.Kind.TheVariants as kinds
use Rattle.av_lex.specs.declared.token.Sign.TheVariants.{OpenAngle, CloseAngle, Colon, Arrow, Plus, Minus, Star, AtLeast, EqualEqual}
use Rattle.av_tree.specs.declared.written.ExprText.{ExprText, ExprText-F, fold-ExprText, out-ExprText}
use Rattle.av_tree.specs.declared.written.ExprText.TheOpen as expr
use Rattle.av_tree.specs.declared.written.MapText.{MapText}
use Rattle.av_tree.specs.declared.written.RowText.{RowText}
use Rattle.av_tree.specs.declared.written.SetText.{SetText}
use Rattle.av_printer.specs.Pieces.{Piece, space, token, sign, plain, spaced, commas, in_round, in_square}

-- ---- numbers and names
-- decimal digits, the first of which counts most; a `-` stands before them where the number is below 0
unfoldable pub number : ℤ → List Piece
number (pos n) = token kinds.Number (decimal n)
number (negsuc n) = sign Minus ++ token kinds.Number (decimal (suc n))

-- a text up to a mark, and from the mark on
unfoldable pub before : ℕ → List ℕ → List ℕ
before mark [] = []
before mark (c ∷ cs) = if c == mark then [] else c ∷ before mark cs

unfoldable pub from : ℕ → List ℕ → List ℕ
from mark [] = []
from mark (c ∷ cs) = if c == mark then c ∷ cs else from mark cs

-- the token or tokens of `#0` and of `:2`
unfoldable pub which : List ℕ → List Piece
which [] = []
which (c ∷ cs) = token kinds.HashId (c ∷ cs)

unfoldable pub how_many : List ℕ → List Piece
how_many [] = []
how_many (c ∷ cs) = token (kinds.Sign Colon) (c ∷ []) ++ token kinds.Number cs

-- a value where it is used, as `%a` or `%r#0`, and where it is made, as `%a` or `%r:2`
abbrev pub value : List ℕ → List Piece
value text = token kinds.ValId (before 35 text) ++ which (from 35 text)

abbrev pub result_name : List ℕ → List Piece
result_name text = token kinds.ValId (before 58 text) ++ how_many (from 58 text)

-- values in square brackets, or nothing where there is none
unfoldable pub square_if_any : List (List Piece) → List Piece
square_if_any [] = []
square_if_any (first ∷ others) = in_square (commas (first ∷ others))

-- ---- names in an expression
abbrev pub same : List ℕ → List ℕ → Bool
same a b = pointwise nat_eq a b

-- what stands in the place of the first parameter of a name
unfoldable pub placed : List (List ℕ) → List (List ℕ) → List ℕ → Option (List ℕ)
placed [] values name = None
placed (p ∷ parameters) [] name = None
placed (p ∷ parameters) (v ∷ values) name = if same p name then Some v else placed parameters values name

unfoldable pub leaf_of : Option (List ℕ) → Option (List ℕ) → List ℕ → List Piece
leaf_of (Some v) other name = value v
leaf_of None (Some v) name = plain (codes "symbol") ++ in_round (value v)
leaf_of None None name = plain name

-- a name by the value of its dimension, or else of its symbol, or else as it is
abbrev pub leaf : List (List ℕ) → List (List ℕ) → List (List ℕ) → List (List ℕ) → List ℕ → List Piece
leaf dims dim_values syms sym_values name = leaf_of (placed dims dim_values name) (placed syms sym_values name) name

-- ---- expressions
-- an expression, and how tightly it binds: a sum least (1), then a product or a division (2), then a number or a negation (3), and most a name (4)
pub record Part : Type 0 where
  pub strength : ℕ
  pub pieces : List Piece

-- in brackets where it binds less tightly than its place asks
unfoldable pub side : ℕ → Part → List Piece
side asked part = if nat_lt part.strength asked then in_round part.pieces else part.pieces

-- sums and products are read from the left: a right side that binds no tighter stands in brackets
abbrev pub sum : List Piece → Part → Part → Part
sum word a b = record { strength = 1; pieces = side 1 a ++ spaced word ++ side 2 b }

abbrev pub product : List Piece → Part → Part → Part
product word a b = record { strength = 2; pieces = side 2 a ++ spaced word ++ side 3 b }

abbrev pub part_step : (List ℕ → List Piece) → ExprText-F Part → Part
part_step name_of (expr.Name name) = record { strength = 4; pieces = name_of name }
part_step name_of (expr.Const c) = record { strength = 3; pieces = number c }
part_step name_of (expr.Neg a) = record { strength = 3; pieces = sign Minus ++ side 4 a }
part_step name_of (expr.Add a b) = sum (sign Plus) a b
part_step name_of (expr.Sub a b) = sum (sign Minus) a b
part_step name_of (expr.Mul a b) = product (sign Star) a b
part_step name_of (expr.Mod a b) = product (plain (codes "mod")) a b
part_step name_of (expr.Floor a b) = product (plain (codes "floordiv")) a b
part_step name_of (expr.Ceil a b) = product (plain (codes "ceildiv")) a b

unfoldable pub part_of : (List ℕ → List Piece) → ExprText → Part
part_of name_of = fold-ExprText Part (part_step name_of)

abbrev pub expression : (List ℕ → List Piece) → ExprText → List Piece
expression name_of e = (part_of name_of e).pieces

-- ---- maps and sets
unfoldable pub parameters : List (List ℕ) → List (List ℕ) → List Piece
parameters dims syms = in_round (commas (map plain dims)) ++ square_if_any (map plain syms)

-- `affine_map<(d0)[s0] -> (d0 + s0)>`
unfoldable pub map_pieces : MapText → List Piece
map_pieces m =
    plain (codes "affine_map") ++ sign OpenAngle ++ parameters m.dims m.syms ++ spaced (sign Arrow)
    ++ in_round (commas (map (expression plain) m.results)) ++ sign CloseAngle

abbrev pub comparison : Bool → List Piece
comparison equal = spaced (sign (if equal then EqualEqual else AtLeast)) ++ token kinds.Number (codes "0")

unfoldable pub row_pieces : RowText → List Piece
row_pieces r = expression plain r.left ++ comparison r.equal

-- `affine_set<(d0) : (d0 >= 0, d0 - 4 == 0)>`
unfoldable pub set_pieces : SetText → List Piece
set_pieces s =
    plain (codes "affine_set") ++ sign OpenAngle ++ parameters s.dims s.syms ++ spaced (sign Colon)
    ++ in_round (commas (map row_pieces s.rows)) ++ sign CloseAngle

-- ---- maps with their operands
abbrev pub dim_values : MapText → List (List ℕ) → List (List ℕ)
dim_values m operands = take (length m.dims) operands

abbrev pub sym_values : MapText → List (List ℕ) → List (List ℕ)
sym_values m operands = drop (length m.dims) operands

-- `(%a)[%b]`: operands, of which the first so many are those of dimensions
abbrev pub operands_pieces : ℕ → List (List ℕ) → List Piece
operands_pieces dims operands = in_round (commas (map value (take dims operands))) ++ square_if_any (map value (drop dims operands))

-- `affine_map<(d0)[s0] -> (d0 + s0)>(%a)[%b]`
unfoldable pub map_use : MapText → List (List ℕ) → List Piece
map_use m operands =
    map_pieces m ++ in_round (commas (map value (dim_values m operands))) ++ square_if_any (map value (sym_values m operands))

-- `affine_set<(d0)[s0] : (d0 - s0 >= 0)>(%a)[%b]`
unfoldable pub set_use : SetText → List (List ℕ) → List Piece
set_use s operands =
    set_pieces s ++ in_round (commas (map value (take (length s.dims) operands))) ++ square_if_any (map value (drop (length s.dims) operands))

-- `[%a, %b + 1, symbol(%c)]`
unfoldable pub subscripts : MapText → List (List ℕ) → List Piece
subscripts m operands =
    in_square (commas (map (expression (leaf m.dims (dim_values m operands) m.syms (sym_values m operands))) m.results))

-- a name is the only parameter, and a symbol
unfoldable pub lone_symbol : List (List ℕ) → List (List ℕ) → List ℕ → Bool
lone_symbol [] [] name = false
lone_symbol [] (s ∷ []) name = same s name
lone_symbol [] (s ∷ t ∷ syms) name = false
lone_symbol (d ∷ dims) syms name = false

unfoldable pub first_value : List (List ℕ) → List Piece
first_value [] = []
first_value (v ∷ values) = value v

unfoldable pub constant_bound : MapText → List (List ℕ) → ℤ → List Piece
constant_bound m operands c = if nat_eq (length operands) 0 then number c else map_use m operands

unfoldable pub named_bound : MapText → List (List ℕ) → List ℕ → List Piece
named_bound m operands name = if lone_symbol m.dims m.syms name then first_value operands else map_use m operands

-- a bound that is one expression: a constant as a number, a lone symbol as its value, else the map
abbrev pub single_bound_of : MapText → List (List ℕ) → ExprText-F ExprText → List Piece
single_bound_of m operands (expr.Const c) = constant_bound m operands c
single_bound_of m operands (expr.Name name) = named_bound m operands name
single_bound_of m operands other = map_use m operands

unfoldable pub single_bound : MapText → List (List ℕ) → ExprText → List Piece
single_bound m operands e = single_bound_of m operands (out-ExprText e)

unfoldable pub several_bound : Bool → MapText → List (List ℕ) → List Piece
several_bound lower m operands = plain (if lower then codes "max" else codes "min") ++ space ++ map_use m operands

-- a bound of a loop; `max` stands before a lower map with several results, and `min` before an upper one
unfoldable pub bound_by : Bool → MapText → List (List ℕ) → List ExprText → List Piece
bound_by lower m operands (only ∷ []) = single_bound m operands only
bound_by lower m operands others = several_bound lower m operands

abbrev pub bound : Bool → MapText → List (List ℕ) → List Piece
bound lower m operands = bound_by lower m operands m.results
