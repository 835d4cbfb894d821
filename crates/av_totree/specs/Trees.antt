-- The tree of a module: each value named, each type written.
use Rattle.std.specs.Prelude.{ℕ, List, [], ◌∷◌, map, length, slice_get, Option, Some, None, unwrap_or, codes}
use Rattle.av_ir.specs.declared.ty.Ty.{Ty}
use Rattle.av_ir.specs.declared.module.ValueId.{ValueId}
use Rattle.av_ir.specs.declared.module.Op.{Op, Op-F, fold-Op}
use Rattle.av_ir.specs.declared.module.Region.{Region, Region-F, out-Region, fold-Region}
use Rattle.av_ir.specs.declared.module.Func.{Func}
use Rattle.av_ir.specs.declared.module.Module.{Module}
use Rattle.av_tree.specs.declared.attribute.Named.{Named}
use Rattle.av_tree.specs.declared.node.Node.{Node, roll-Node}
use Rattle.av_tree.specs.declared.node.Body.{Body, roll-Body}
use Rattle.av_tree.specs.declared.node.BodyArg.{BodyArg}
use Rattle.av_tree.specs.declared.node.Tree.{Tree}
use Rattle.av_tree.specs.declared.written.TypeText.{TypeText}
use Rattle.av_tree.specs.declared.written.TypeText.TheVariants as text
use Rattle.av_totree.specs.Types.{type_of}
use Rattle.av_totree.specs.Names.{Naming, first_naming, name_of, argument_name, with_argument, with_results, result_texts, written_type}
use Rattle.av_totree.specs.Kinds.{kind_name}
use Rattle.av_totree.specs.Properties.{properties_of, function_properties_of, marks_of}

-- what is made of a part of a function, and the names behind it
pub record Made (A : Type 0) : Type 0 where
  pub made : A
  pub naming : Naming

-- the same from the names before the part
abbrev pub Making : Type 0 → Type 0
Making A = Naming → Made A

-- parts one after the other
unfoldable pub in_turn : {A : Type 0} → List (Making A) → Making (List A)
in_turn [] naming = record { made = []; naming = naming }
in_turn (making ∷ makings) naming =
    let first = making naming in
    let others = in_turn makings first.naming in
    record { made = first.made ∷ others.made; naming = others.naming }

-- the type of an argument of a block
abbrev pub argument_type : List Ty → ValueId → TypeText
argument_type types id = unwrap_or (written_type types id) (text.Scalar (codes "index"))

abbrev pub make_argument : List Ty → ValueId → Making BodyArg
make_argument types id naming = record {
  made = record { name = argument_name naming.arguments; ty = argument_type types id };
  naming = with_argument id naming;
}

-- the node of an operation with these texts for its results and these regions
abbrev pub whole_node : {A B : Type 0} → List Ty → Op-F A B → List (List ℕ) → List Body → Naming → Node
whole_node types op results regions naming = roll-Node (record {
  name = kind_name op.kind;
  place = 0;
  results = results;
  operands = map (name_of naming) op.operands;
  properties = properties_of types op.kind (length op.operands) op.results;
  attrs = marks_of op.marks;
  regions = regions;
  in_types = map (written_type types) op.operands;
  out_types = map (written_type types) op.results;
})

-- an operation uses the names that its operands have; its results are named before what stands in its regions
abbrev pub make_node : List Ty → Op-F (Making Node) (Making Body) → Making Node
make_node types op naming =
    let inside = in_turn op.regions (with_results op.results naming) in
    record { made = whole_node types op (result_texts op.results naming.operations) inside.made naming; naming = inside.naming }

-- the arguments of a block are named before its operations
abbrev pub make_body : List Ty → Region-F (Making Node) (Making Body) → Making Body
make_body types region naming =
    let args = in_turn (map (make_argument types) region.args) naming in
    let nodes = in_turn region.ops args.naming in
    record { made = roll-Body (record { args = args.made; nodes = nodes.made }); naming = nodes.naming }

unfoldable pub node_of : List Ty → Op → Making Node
node_of types = fold-Op (Making Node) (Making Body) (make_node types) (make_body types)

unfoldable pub body_of : List Ty → Region → Making Body
body_of types = fold-Region (Making Node) (Making Body) (make_node types) (make_body types)

-- a node without results and operands, around one region
abbrev pub outer_node : List ℕ → List Named → List Named → Body → Node
outer_node name properties attrs body = roll-Node (record {
  name = name;
  place = 0;
  results = [];
  operands = [];
  properties = properties;
  attrs = attrs;
  regions = body ∷ [];
  in_types = [];
  out_types = [];
})

-- a function with its values named from 0 on
abbrev pub function_of : Func → Node
function_of f =
    outer_node (codes "func.func")
    (function_properties_of f.name (map (argument_type f.values) (out-Region f.body).args) (map type_of f.results))
    (marks_of f.marks) (body_of f.values f.body (first_naming f.values)).made

-- the tree of a module
abbrev pub tree_of : Module → Tree
tree_of m = record {
  aliases = [];
  root = outer_node (codes "builtin.module") [] [] (roll-Body (record { args = []; nodes = map function_of m.funcs }));
}
