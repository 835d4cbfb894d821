-- A node or a body that is put together of its parts is that of its definition.
use Rattle.std.proofs.Common.{◌≡◌, ap, sym, ◌∙◌, refl, ℕ, suc, ◌+◌, ◌<◌, zero, List, [], ◌∷◌, map, length, get_or, arith, Ok, Err}
use Rattle.std.specs.Prelude.{Result, Option, Some, None, IfOk, slice_get}
use Rattle.av_ir.specs.declared.ty.Ty.{Ty}
use Rattle.av_ir.specs.declared.module.ValueId.{ValueId}
use Rattle.av_ir.specs.declared.module.Op.{Op, Op-F, out-Op, fold_out-Op}
use Rattle.av_ir.specs.declared.module.Region.{Region, Region-F, out-Region, fold_out-Region}
use Rattle.av_tree.specs.declared.node.Node.{Node, Node-F, out-Node, roll-Node, out-roll-Node}
use Rattle.av_tree.specs.declared.node.Body.{Body, roll-Body}
use Rattle.av_tree.specs.declared.node.BodyArg.{BodyArg}
use Rattle.av_totree.specs.Names.{Naming, name_of, written_type, result_texts, with_results}
use Rattle.av_totree.specs.Kinds.{kind_name}
use Rattle.av_totree.specs.Properties.{properties_of, marks_of}
use Rattle.av_totree.specs.Trees.{Made, Making, in_turn, make_argument, make_node, make_body, whole_node, node_of, body_of}

pub any_default : {A : Type 0} (xs : List A) (i : ℕ) (d e : A) → i < length xs → get_or xs i d ≡ get_or xs i e
any_default [] i d e h = absurd (omega arith)
any_default (x ∷ xs) zero d e h = refl
any_default (x ∷ xs) (suc i) d e h = any_default xs i d e (omega arith)

module _ (types : List Ty) (op : Op) (naming : Naming) where
  node_of-out : let x = out-Op op in
      node_of types op naming ≡ make_node types (record {
        number = x.number;
        kind = x.kind;
        operands = x.operands;
        results = x.results;
        regions = map (body_of types) x.regions;
        marks = x.marks;
      }) naming
  unfolding node_of body_of
  node_of-out = ap (λ f. f naming) (fold_out-Op (Making Node) (Making Body) (make_node types) (make_body types) op)

  abbrev flat : List (List ℕ) → List Body → Node-F Body Node
  flat results regions = record {
    name = kind_name (out-Op op).kind;
    place = 0;
    results = results;
    operands = map (name_of naming) (out-Op op).operands;
    properties = properties_of types (out-Op op).kind (length (out-Op op).operands) (out-Op op).results;
    attrs = marks_of (out-Op op).marks;
    regions = regions;
    in_types = map (written_type types) (out-Op op).operands;
    out_types = map (written_type types) (out-Op op).results;
  }

  module _ (ids : List ValueId) (regions : List Region) (here : ids ≡ (out-Op op).results) (is : regions ≡ (out-Op op).regions)
      (named : Naming) (then : named ≡ with_results ids naming) where
    inside : in_turn (map (body_of types) regions) named ≡ in_turn (map (body_of types) (out-Op op).regions) (with_results (out-Op op).results naming)
    inside = ap (λ rs. in_turn (map (body_of types) rs) named) is
        ∙ ap (in_turn (map (body_of types) (out-Op op).regions)) (then ∙ ap (λ l. with_results l naming) here)

    pub node_made : (node whole : Node) (results : List (List ℕ)) (bodies : List Body)
        → node ≡ whole_node types (out-Op op) [] [] naming
        → whole ≡ roll-Node (record (out-Node node) { results = results; regions = bodies })
        → results ≡ result_texts ids naming.operations
        → bodies ≡ (in_turn (map (body_of types) regions) named).made
        → whole ≡ (node_of types op naming).made
    node_made node whole results bodies a b d e =
        b
        ∙ ap (λ n. roll-Node (record (out-Node n) { results = results; regions = bodies })) a
        ∙ ap (λ (x : Node-F Body Node). roll-Node (record x { results = results; regions = bodies })) (out-roll-Node (flat [] []))
        ∙ ap (λ r. roll-Node (flat r bodies)) (d ∙ ap (λ l. result_texts l naming.operations) here)
        ∙ ap (λ r. roll-Node (flat (result_texts (out-Op op).results naming.operations) r)) (e ∙ ap (λ (m : Made (List Body)). m.made) inside)
        ∙ sym (ap (λ (m : Made Node). m.made) node_of-out)

    pub node_named : (behind : Naming) → behind ≡ (in_turn (map (body_of types) regions) named).naming → behind ≡ (node_of types op naming).naming
    node_named behind e = e ∙ ap (λ (m : Made (List Body)). m.naming) inside ∙ sym (ap (λ (m : Made Node). m.naming) node_of-out)

module _ (types : List Ty) (region : Region) (naming : Naming) where
  body_of-out : let x = out-Region region in
      body_of types region naming ≡ make_body types (record { args = x.args; ops = map (node_of types) x.ops }) naming
  unfolding node_of body_of
  body_of-out = ap (λ f. f naming) (fold_out-Region (Making Node) (Making Body) (make_node types) (make_body types) region)

  module _ (ids : List ValueId) (ops : List Op) (here : ids ≡ (out-Region region).args) (is : ops ≡ (out-Region region).ops)
      (named : Naming) (then : named ≡ (in_turn (map (make_argument types) ids) naming).naming) where
    first : in_turn (map (make_argument types) ids) naming ≡ in_turn (map (make_argument types) (out-Region region).args) naming
    first = ap (λ l. in_turn (map (make_argument types) l) naming) here

    others : in_turn (map (node_of types) ops) named
        ≡ in_turn (map (node_of types) (out-Region region).ops) (in_turn (map (make_argument types) (out-Region region).args) naming).naming
    others = ap (λ l. in_turn (map (node_of types) l) named) is
        ∙ ap (in_turn (map (node_of types) (out-Region region).ops)) (then ∙ ap (λ (m : Made (List BodyArg)). m.naming) first)

    pub body_made : (args : List BodyArg) (nodes : List Node)
        → args ≡ (in_turn (map (make_argument types) ids) naming).made → nodes ≡ (in_turn (map (node_of types) ops) named).made
        → roll-Body (record { args = args; nodes = nodes }) ≡ (body_of types region naming).made
    body_made args nodes a e =
        ap (λ l. roll-Body (record { args = l; nodes = nodes })) (a ∙ ap (λ (m : Made (List BodyArg)). m.made) first)
        ∙ ap (λ l. roll-Body (record { args = (in_turn (map (make_argument types) (out-Region region).args) naming).made; nodes = l }))
        (e ∙ ap (λ (m : Made (List Node)). m.made) others)
        ∙ sym (ap (λ (m : Made Body). m.made) body_of-out)

    pub body_named : (behind : Naming) → behind ≡ (in_turn (map (node_of types) ops) named).naming → behind ≡ (body_of types region naming).naming
    body_named behind e = e ∙ ap (λ (m : Made (List Node)). m.naming) others ∙ sym (ap (λ (m : Made Body). m.naming) body_of-out)
