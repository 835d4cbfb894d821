-- The number of operations in a tree without places.
use Rattle.std.proofs.Common.{◌≡◌, ◌∙◌, ℕ, ◌+◌, List, [], ◌∷◌, map, refl, sym, ap, subst}
use Rattle.std.specs.Prelude.{sum}
use Rattle.av_tree.specs.declared.node.Node.{Node, Node-F, fold-roll-Node, ind-Node, roll-Node}
use Rattle.av_tree.specs.declared.node.Body.{Body, Body-F, fold-roll-Body, roll-Body}
use Rattle.av_read_laws.specs.Places.{unplaced_node, unplaced_body}
use Rattle.av_read_laws.proofs.Nodes.{layer, unplaced-body, unplaced-roll}
use Rattle.av_verify.specs.Modules.{count_node, count_region, operations_in, operations_within}

in-rolled : (x : Node-F Body Node) → operations_in (roll-Node x) ≡ 1 + sum (map operations_within x.regions)
unfolding operations_in operations_within
in-rolled x = fold-roll-Node ℕ ℕ count_region count_node x

within-rolled : (x : Body-F Body Node) → operations_within (roll-Body x) ≡ sum (map operations_in x.nodes)
unfolding operations_in operations_within
within-rolled x = fold-roll-Body ℕ ℕ count_region count_node x

module _ {A : Type 0} (f : A → ℕ) (g : A → A) where
  abbrev Alike : A → Type 0
  Alike a = f (g a) ≡ f a

  each-alike : (ys : List ((a : A) × Alike a)) → map f (map g (map (λ y. y.0) ys)) ≡ map f (map (λ y. y.0) ys)
  each-alike [] = refl
  each-alike (y ∷ ys) = ap (λ n. n ∷ map f (map g (map (λ y. y.0) ys))) (y.1) ∙ ap (λ ns. f y.0 ∷ ns) (each-alike ys)

abbrev SameNode : Node → Type 0
SameNode = Alike operations_in unplaced_node

abbrev SameBody : Body → Type 0
SameBody = Alike operations_within unplaced_body

node-rolled : (x : Node-F Body Node) → map operations_within (map unplaced_body x.regions) ≡ map operations_within x.regions → SameNode (roll-Node x)
node-rolled x h = ap operations_in (unplaced-roll x) ∙ in-rolled (layer x) ∙ ap (λ ns. 1 + sum ns) h ∙ sym (in-rolled x)

body-rolled : (x : Body-F Body Node) → map operations_in (map unplaced_node x.nodes) ≡ map operations_in x.nodes → SameBody (roll-Body x)
body-rolled x h =
    ap operations_within (unplaced-body x.args x.nodes)
    ∙ within-rolled (record { args = x.args; nodes = map unplaced_node x.nodes }) ∙ ap sum h ∙ sym (within-rolled x)

-- places don't count
pub count-same : (node : Node) → operations_in (unplaced_node node) ≡ operations_in node
count-same = ind-Node SameBody SameNode
    (λ x y is. subst (λ z. SameBody (roll-Body z)) is (body-rolled _ (each-alike operations_in unplaced_node y.nodes)))
    (λ x y is. subst (λ z. SameNode (roll-Node z)) is (node-rolled _ (each-alike operations_within unplaced_body y.regions)))
