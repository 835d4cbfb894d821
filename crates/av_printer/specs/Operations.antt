-- The spelling of operations beside their regions: in a form of their own, and in the form that all have in common.
use Rattle.std.specs.Prelude.{ℕ, ℤ, pos, List, [], ◌∷◌, ◌++◌, map, drop, Option, Some, None, if◌then◌else◌, codes}
use Rattle.std.specs.Ordering.{int_eq}
use Rattle.av_lex.specs.declared.token.Kind.TheVariants as kinds
use Rattle.av_lex.specs.declared.token.Sign.TheVariants.{OpenAngle, CloseAngle, OpenCurly, CloseCurly, Colon, Equal, Arrow, Question}
use Rattle.av_tree.specs.declared.written.TypeText.{TypeText, TypeText-F, out-TypeText}
use Rattle.av_tree.specs.declared.written.TypeText.TheOpen as types
use Rattle.av_tree.specs.declared.written.MapText.{MapText}
use Rattle.av_tree.specs.declared.attribute.Attr.{Attr, Attr-F, out-Attr}
use Rattle.av_tree.specs.declared.attribute.Attr.TheOpen as attrs
use Rattle.av_tree.specs.declared.attribute.Named.{Named, out-Named}
use Rattle.av_tree.specs.declared.node.BodyArg.{BodyArg}
use Rattle.av_tree.specs.declared.node.Node.{Node, out-Node}
use Rattle.av_tree.specs.declared.node.Body.{Body, out-Body}
use Rattle.av_printer.specs.Pieces.{Piece, space, token, sign, plain, colon, spaced, commas, in_round}
use Rattle.av_printer.specs.Types.{type_pieces, one_or_several}
use Rattle.av_printer.specs.Expressions.{number, value, result_name, same, subscripts}
use Rattle.av_printer.specs.Attributes.{attribute}
use Rattle.av_printer.specs.Dictionaries.{dictionary}

-- an operation without its regions, but with the arguments of the first one
pub record Head : Type 0 where
  pub name : List ℕ
  pub results : List (List ℕ)
  pub operands : List (List ℕ)
  pub properties : List Named
  pub attrs : List Named
  pub in_types : List (Option TypeText)
  pub out_types : List (Option TypeText)
  pub arguments : List BodyArg

abbrev pub first_of : List (List BodyArg) → List BodyArg
first_of [] = []
first_of (args ∷ others) = args

abbrev pub arguments_of : Node → List BodyArg
arguments_of node = first_of (map (λ (body : Body). (out-Body body).args) (out-Node node).regions)

abbrev pub head_of : Node → Head
head_of node = record {
  name = (out-Node node).name;
  results = (out-Node node).results;
  operands = (out-Node node).operands;
  properties = (out-Node node).properties;
  attrs = (out-Node node).attrs;
  in_types = (out-Node node).in_types;
  out_types = (out-Node node).out_types;
  arguments = arguments_of node;
}

-- ---- parts of lines
-- the value of the first entry of a name
unfoldable pub property : List Named → List ℕ → Option Attr
property [] name = None
property (e ∷ entries) name = if same (out-Named e).name name then Some (out-Named e).value else property entries name

-- `%0, %1 = `, or nothing where there is no result
unfoldable pub results_before : List (List ℕ) → List Piece
results_before [] = []
results_before (first ∷ others) = commas (map result_name (first ∷ others)) ++ spaced (sign Equal)

-- `%a: i32`
unfoldable pub argument : BodyArg → List Piece
argument a = token kinds.ValId a.name ++ colon ++ type_pieces a.ty

unfoldable pub arguments_pieces : List BodyArg → List Piece
arguments_pieces args = in_round (commas (map argument args))

-- values between commas, and in round brackets
unfoldable pub values_pieces : List (List ℕ) → List Piece
values_pieces values = commas (map value values)

unfoldable pub values_in_round : List (List ℕ) → List Piece
values_in_round values = in_round (values_pieces values)

-- a type, or `?` where the tree has none
unfoldable pub known_type : Option TypeText → List Piece
known_type None = sign Question
known_type (Some ty) = type_pieces ty

unfoldable pub known_types : List (Option TypeText) → List Piece
known_types types = commas (map known_type types)

unfoldable pub known_in_round : List (Option TypeText) → List Piece
known_in_round types = in_round (known_types types)

-- ` {affvec.loop = 0 : i64}`, or nothing where there is no mark
unfoldable pub marks_behind : List Named → List Piece
marks_behind [] = []
marks_behind (first ∷ others) = space ++ sign OpenCurly ++ dictionary (first ∷ others) ++ sign CloseCurly

-- ---- what attributes say
abbrev pub text_in : Attr-F Attr Named → List ℕ
text_in (attrs.Quoted text) = text
text_in other = []

unfoldable pub text_of : Option Attr → List ℕ
text_of None = []
text_of (Some a) = text_in (out-Attr a)

abbrev pub map_in : Attr-F Attr Named → Option MapText
map_in (attrs.Map m) = Some m
map_in other = None

unfoldable pub map_of : Option Attr → Option MapText
map_of None = None
map_of (Some a) = map_in (out-Attr a)

abbrev pub number_in : Attr-F Attr Named → ℤ
number_in (attrs.Number z ty) = z
number_in other = pos 1

-- a step that isn't written is 1
unfoldable pub step_of : Option Attr → ℤ
step_of None = pos 1
step_of (Some a) = number_in (out-Attr a)

abbrev pub results_in_type : TypeText-F TypeText → List TypeText
results_in_type (types.Func inputs results) = results
results_in_type other = []

unfoldable pub results_of_type : TypeText → List TypeText
results_of_type ty = results_in_type (out-TypeText ty)

abbrev pub results_in : Attr-F Attr Named → List TypeText
results_in (attrs.Type ty) = results_of_type ty
results_in other = []

unfoldable pub results_of : Option Attr → List TypeText
results_of None = []
results_of (Some a) = results_in (out-Attr a)

-- ---- forms of their own
-- `func.func @f(%arg0: i32) -> i32 attributes {affvec.distinct}`
unfoldable pub results_behind : List TypeText → List Piece
results_behind [] = []
results_behind (first ∷ others) = spaced (sign Arrow) ++ one_or_several (map type_pieces (first ∷ others))

unfoldable pub function_name : List ℕ → List Piece
function_name name = plain (codes "func.func") ++ space ++ token kinds.SymId (codes "@" ++ name)

unfoldable pub attributes_word : List Named → List Piece
attributes_word [] = []
attributes_word (first ∷ others) = space ++ plain (codes "attributes")

unfoldable pub function_line : Head → List Piece
function_line h =
    function_name (text_of (property h.properties (codes "sym_name"))) ++ arguments_pieces h.arguments
    ++ results_behind (results_of (property h.properties (codes "function_type"))) ++ attributes_word h.attrs ++ marks_behind h.attrs

-- `affine.yield %0, %1 : i32, i32`, or the word alone where there is no value
unfoldable pub values_behind : List (List ℕ) → List (Option TypeText) → List Piece
values_behind [] types = []
values_behind (first ∷ others) types =
    space ++ values_pieces (first ∷ others) ++ spaced (sign Colon) ++ known_types types

-- `arith.constant 1 : i32`
unfoldable pub constant_value : Option Attr → List Piece
constant_value None = []
constant_value (Some a) = attribute a

-- the variable of a loop
unfoldable pub variable : List BodyArg → List Piece
variable [] = []
variable (a ∷ args) = token kinds.ValId a.name

-- ` step 2`, or nothing where it is 1
unfoldable pub step_behind : ℤ → List Piece
step_behind z = if int_eq z (pos 1) then [] else space ++ plain (codes "step") ++ space ++ number z

-- `%arg2 = %0`
unfoldable pub carried_pair : BodyArg → List ℕ → List Piece
carried_pair a v = token kinds.ValId a.name ++ spaced (sign Equal) ++ value v

-- as far as there are arguments and values
unfoldable pub carried : List BodyArg → List (List ℕ) → List (List Piece)
carried [] values = []
carried (a ∷ args) [] = []
carried (a ∷ args) (v ∷ values) = carried_pair a v ∷ carried args values

unfoldable pub carried_in_round : List BodyArg → List (List ℕ) → List Piece
carried_in_round args values = in_round (commas (carried args values))

unfoldable pub carried_behind : List BodyArg → List (List ℕ) → List (Option TypeText) → List Piece
carried_behind args [] types = []
carried_behind args (first ∷ others) types =
    space ++ plain (codes "iter_args") ++ carried_in_round (drop 1 args) (first ∷ others) ++ spaced (sign Arrow) ++ known_in_round types

-- `%arg0[%arg1 + 1]`
unfoldable pub subscripts_if_any : Option MapText → List (List ℕ) → List Piece
subscripts_if_any None operands = []
subscripts_if_any (Some m) operands = subscripts m operands

unfoldable pub buffer : Option MapText → List (List ℕ) → List Piece
buffer m [] = []
buffer m (first ∷ others) = value first ++ subscripts_if_any m others

-- ---- the form that all have in common
-- ` <{map = ..}>`, or nothing where there is no property
unfoldable pub properties_behind : List Named → List Piece
properties_behind [] = []
properties_behind (first ∷ others) =
    space ++ sign OpenAngle ++ sign OpenCurly ++ dictionary (first ∷ others) ++ sign CloseCurly ++ sign CloseAngle

unfoldable pub quoted_name : List ℕ → List Piece
quoted_name name = token kinds.Quoted (codes "\"" ++ name ++ codes "\"")

-- `"affine.load"(%arg0, %arg1) <{map = ..}>`
unfoldable pub common_line : Head → List Piece
common_line h = quoted_name h.name ++ values_in_round h.operands ++ properties_behind h.properties

unfoldable pub known_results : List (Option TypeText) → List Piece
known_results types = one_or_several (map known_type types)

-- ` : (i32) -> i32`
unfoldable pub signature : List (Option TypeText) → List (Option TypeText) → List Piece
signature inputs results = spaced (sign Colon) ++ known_in_round inputs ++ spaced (sign Arrow) ++ known_results results

unfoldable pub common_end : Head → List Piece
common_end h = marks_behind h.attrs ++ signature h.in_types h.out_types
