-- What an operation and a region have, read off the tree.
use Rattle.std.specs.Prelude.{ℕ, ◌≡◌, List, [], ◌∷◌, Option, Some, None}
use Rattle.av_tree.specs.declared.attribute.Named.{Named}
use Rattle.av_tree.specs.declared.node.Node.{Node, Node', Row_of-Body, end_of-Body, more_of-Body, out-Node}
use Rattle.av_tree.specs.declared.node.Body.{Body, Body', Row_of-Node, end_of-Node, more_of-Node, out-Body}
use Rattle.av_tree.specs.declared.node.BodyArg.{BodyArg}
use Rattle.av_tree.specs.declared.written.TypeText.{TypeText, Scalar, MemRef, Vector, Func', Row_of-TypeText, end_of-TypeText, more_of-TypeText}

-- the fields of an operation
pub record Fields : Type 0 where
  pub name : List ℕ
  pub results : List (List ℕ)
  pub operands : List (List ℕ)
  pub properties : List Named
  pub attrs : List Named
  pub regions : List Body
  pub in_types : List (Option TypeText)
  pub out_types : List (Option TypeText)

unfoldable pub bodies_in : {m : _} → Row_of-Body m → List Body
bodies_in end_of-Body = []
bodies_in (more_of-Body body rest) = body ∷ bodies_in rest

unfoldable pub fields : Node → Fields
fields (Node' name place results operands properties attrs s bodies ins outs) = record {
  name = name;
  results = results;
  operands = operands;
  properties = properties;
  attrs = attrs;
  regions = bodies_in bodies;
  in_types = ins;
  out_types = outs;
}

-- the arguments and the operations of a region
pub record Inside : Type 0 where
  pub args : List BodyArg
  pub nodes : List Node

unfoldable pub nodes_in : {m : _} → Row_of-Node m → List Node
nodes_in end_of-Node = []
nodes_in (more_of-Node node rest) = node ∷ nodes_in rest

unfoldable pub inside : Body → Inside
inside (Body' args s nodes) = record { args = args; nodes = nodes_in nodes }

-- the inputs and the results of a function type
pub record Function : Type 0 where
  pub inputs : List TypeText
  pub results : List TypeText

unfoldable pub types_listed : {m : _} → Row_of-TypeText m → List TypeText
types_listed end_of-TypeText = []
types_listed (more_of-TypeText t rest) = t ∷ types_listed rest

unfoldable pub function_in : TypeText → Option Function
function_in (Scalar name) = None
function_in (MemRef sizes elem layout) = None
function_in (Vector dims elem) = None
function_in (Func' s inputs t results) = Some (record { inputs = types_listed inputs; results = types_listed results })

-- the layer of an operation, as the code reads it, has these fields; likewise that of a region and of a type
pub record AreFields (node : Node) : Type 0 where
  pub name : (fields node).name ≡ (out-Node node).name
  pub results : (fields node).results ≡ (out-Node node).results
  pub operands : (fields node).operands ≡ (out-Node node).operands
  pub properties : (fields node).properties ≡ (out-Node node).properties
  pub attrs : (fields node).attrs ≡ (out-Node node).attrs
  pub regions : (fields node).regions ≡ (out-Node node).regions
  pub in_types : (fields node).in_types ≡ (out-Node node).in_types
  pub out_types : (fields node).out_types ≡ (out-Node node).out_types

pub record AreInside (body : Body) : Type 0 where
  pub args : (inside body).args ≡ (out-Body body).args
  pub nodes : (inside body).nodes ≡ (out-Body body).nodes

abbrev pub ViewsLaw : Type 0
ViewsLaw = ((node : Node) → AreFields node) × ((body : Body) → AreInside body)
