-- Small trees, to try the rules on: a module with one function of a buffer, an index and an integer.
use Rattle.std.specs.Prelude.{ℕ, ℤ, pos, List, [], ◌∷◌, ◌++◌, map, Some, None, codes}
use mathlib.Core.Former.{arity, list, this}
use Rattle.av_tree.specs.declared.attribute.Attr.{Attr}
use Rattle.av_tree.specs.declared.attribute.Attr.TheVariants as attr
use Rattle.av_tree.specs.declared.attribute.Named.{Named}
use Rattle.av_tree.specs.declared.node.Body.{Body, Body', Row_of-Node, end_of-Node, more_of-Node}
use Rattle.av_tree.specs.declared.node.BodyArg.{BodyArg}
use Rattle.av_tree.specs.declared.node.Node.{Node, Node', Row_of-Body, end_of-Body, more_of-Body}
use Rattle.av_tree.specs.declared.node.Tree.{Tree}
use Rattle.av_tree.specs.declared.written.ExprText.{ExprText}
use Rattle.av_tree.specs.declared.written.ExprText.TheVariants as expr
use Rattle.av_tree.specs.declared.written.SizeText.TheVariants as size
use Rattle.av_tree.specs.declared.written.DimText.TheVariants as dim
use Rattle.av_tree.specs.declared.written.TypeText.{TypeText, Func', Row_of-TypeText, end_of-TypeText, more_of-TypeText}
use Rattle.av_tree.specs.declared.written.TypeText.TheVariants as type

-- so many things, as the tree holds their number
abbrev pub shape : {X : Type 0} → List X → List (Unit {0})
shape xs = map (λ _. tt) xs

-- ---- types
abbrev pub i32 : TypeText
i32 = type.Scalar (codes "i32")

abbrev pub i8 : TypeText
i8 = type.Scalar (codes "i8")

abbrev pub index : TypeText
index = type.Scalar (codes "index")

-- memref<4xi32>
abbrev pub buffer : TypeText
buffer = type.MemRef (size.Fixed 4 ∷ []) (codes "i32") None

-- vector<4xi32>
abbrev pub four : TypeText
four = type.Vector (dim.Fixed 4 ∷ []) (codes "i32")

-- (inputs) -> ()
abbrev pub row_of_types : (types : List TypeText) → Row_of-TypeText (arity (list this) (shape types))
row_of_types [] = end_of-TypeText
row_of_types (t ∷ types) = more_of-TypeText t (row_of_types types)

abbrev pub function_type : List TypeText → TypeText
function_type inputs = Func' (shape inputs) (row_of_types inputs) [] end_of-TypeText

-- ---- entries
abbrev pub entry : List ℕ → Attr → Named
entry name value = record { name = name; value = value }

abbrev pub number : ℤ → TypeText → Attr
number n t = attr.Number n t

-- (d0) -> (e)
abbrev pub map_over : ExprText → Attr
map_over e = attr.Map (record { dims = codes "d0" ∷ []; syms = []; results = e ∷ [] })

abbrev pub d0 : ExprText
d0 = expr.Name (codes "d0")

-- () -> (n)
abbrev pub bound : ℤ → Attr
bound n = attr.Map (record { dims = []; syms = []; results = expr.Const n ∷ [] })

-- ---- operations
-- the operations of a region, and the regions of an operation, as the tree holds them
abbrev pub row_of_nodes : (nodes : List Node) → Row_of-Node (arity (list this) (shape nodes))
row_of_nodes [] = end_of-Node
row_of_nodes (node ∷ nodes) = more_of-Node node (row_of_nodes nodes)

abbrev pub row_of_bodies : (bodies : List Body) → Row_of-Body (arity (list this) (shape bodies))
row_of_bodies [] = end_of-Body
row_of_bodies (body ∷ bodies) = more_of-Body body (row_of_bodies bodies)

abbrev pub operation : List ℕ → List (List ℕ) → List (List ℕ) → List Named → List Body → List TypeText → List TypeText → Node
operation name results operands properties regions ins outs =
    Node' name 0 results operands properties [] (shape regions) (row_of_bodies regions) (map (λ t. Some t) ins) (map (λ t. Some t) outs)

abbrev pub region : List BodyArg → List Node → Body
region args nodes = Body' args (shape nodes) (row_of_nodes nodes)

abbrev pub arg : List ℕ → TypeText → BodyArg
arg name t = record { name = name; ty = t }

-- an operation without regions, with one result
abbrev pub simple : List ℕ → List ℕ → List (List ℕ) → List Named → List TypeText → TypeText → Node
simple name result operands properties ins out = operation name (result ∷ []) operands properties [] ins (out ∷ [])

abbrev pub terminator : List ℕ → Node
terminator name = operation name [] [] [] [] [] []

-- values with their types, as operands
abbrev pub cells : BodyArg
cells = arg (codes "%A") buffer

abbrev pub place : BodyArg
place = arg (codes "%n") index

abbrev pub word : BodyArg
word = arg (codes "%x") i32

-- NAME(operands) <{properties}>, with these results of these types
abbrev pub named_results : List (List ℕ) → List ℕ → List BodyArg → List Named → List TypeText → Node
named_results results name operands properties outs =
    operation name results (map (λ (a : BodyArg). a.name) operands) properties [] (map (λ (a : BodyArg). a.ty) operands) outs

-- with the result %y
abbrev pub gives : List ℕ → List BodyArg → List Named → TypeText → Node
gives name operands properties t = named_results (codes "%y" ∷ []) name operands properties (t ∷ [])

-- and without one
abbrev pub acts : List ℕ → List BodyArg → List Named → Node
acts name operands properties = named_results [] name operands properties []

abbrev pub constant : List ℕ → ℤ → TypeText → Node
constant result n t = simple (codes "arith.constant") result [] (entry (codes "value") (number n t) ∷ []) [] t

abbrev pub add : List ℕ → List ℕ → List ℕ → TypeText → Node
add result a b t = simple (codes "arith.addi") result (a ∷ b ∷ []) [] (t ∷ t ∷ []) t

-- "affine.apply"(%a) <{map = affine_map<(d0) -> (e)>}>
abbrev pub apply : List ℕ → List (List ℕ) → ExprText → Node
apply result operands e = simple (codes "affine.apply") result operands (entry (codes "map") (map_over e) ∷ []) (map (λ _. index) operands) index

-- a loop over a counter from 0 to 4 that carries nothing
abbrev pub loop_over : List ℕ → Attr → List ℤ → List Node → Node
loop_over counter step segments nodes =
    operation (codes "affine.for") [] []
    (entry (codes "lowerBoundMap") (bound (pos 0)) ∷ entry (codes "operandSegmentSizes") (attr.Array i32 segments)
    ∷ entry (codes "step") step ∷ entry (codes "upperBoundMap") (bound (pos 4)) ∷ [])
    (region (arg counter index ∷ []) nodes ∷ []) [] []

-- the same over %i
abbrev pub loop_with : Attr → List ℤ → List Node → Node
loop_with step segments nodes = loop_over (codes "%i") step segments nodes

abbrev pub loop : List Node → Node
loop nodes = loop_with (number (pos 1) index) (pos 0 ∷ pos 0 ∷ pos 0 ∷ []) nodes

-- %v = affine.load %A[%i] : memref<4xi32>
abbrev pub load : List ℕ → Node
load at = simple (codes "affine.load") (codes "%v") (codes "%A" ∷ at ∷ []) (entry (codes "map") (map_over d0) ∷ []) (buffer ∷ index ∷ []) i32

abbrev pub yield : Node
yield = terminator (codes "affine.yield")

-- ---- trees
abbrev pub function : List ℕ → List TypeText → List BodyArg → List Node → Node
function name inputs args nodes =
    operation (codes "func.func") [] []
    (entry (codes "function_type") (attr.«Type» (function_type inputs)) ∷ entry (codes "sym_name") (attr.Quoted name) ∷ [])
    (region args nodes ∷ []) [] []

abbrev pub tree_of : List Node → Tree
tree_of nodes = record { aliases = []; root = operation (codes "builtin.module") [] [] [] (region [] nodes ∷ []) [] [] }

-- the arguments %A, %n and %x of a function, the first of this type
abbrev pub arguments_over : TypeText → List BodyArg
arguments_over t = arg (codes "%A") t ∷ place ∷ word ∷ []

-- the function with this body and a return; its first operation has the number 2
abbrev pub body_over : TypeText → List Node → Tree
body_over t nodes =
    tree_of (function (codes "f") (t ∷ index ∷ i32 ∷ []) (arguments_over t) (nodes ++ terminator (codes "func.return") ∷ []) ∷ [])

abbrev pub body : List Node → Tree
body nodes = body_over buffer nodes
