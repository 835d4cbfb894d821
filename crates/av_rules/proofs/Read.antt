-- What is read off an operation and a region by their parts is what their layers have.
use Rattle.std.proofs.Common.{◌≡◌, ◌∙◌, ◌∷◌, refl, ap}
use Rattle.av_tree.specs.declared.node.Node.{Node, Row_of-Body, end_of-Body, more_of-Body, items-the_row-Body, items_hidden-the_row-Body-1, is-Node', out-Node}
use Rattle.av_tree.specs.declared.node.Body.{Body, Row_of-Node, end_of-Node, more_of-Node, items-the_row-Node, items_hidden-the_row-Node-0, is-Body', out-Body}
use Rattle.av_tree.specs.declared.node.Body.TheBlock.{hidden-the_row-Body-1, hidden-the_row-Node-0}
use Rattle.av_rules.specs.Views.{AreFields, AreInside, ViewsLaw, bodies_in, fields, inside, nodes_in}

bodies-are : {m : _} (row : Row_of-Body m) → bodies_in row ≡ items-the_row-Body m row
unfolding bodies_in
bodies-are end_of-Body = refl
bodies-are (more_of-Body body rest) = ap (λ more. body ∷ more) (bodies-are rest)

nodes-are : {m : _} (row : Row_of-Node m) → nodes_in row ≡ items-the_row-Node m row
unfolding nodes_in
nodes-are end_of-Node = refl
nodes-are (more_of-Node node rest) = ap (λ more. node ∷ more) (nodes-are rest)

of-node : (node : Node) → AreFields node
unfolding fields
of-node node = record {
  name = ap (λ n. (fields n).name) (is-Node' node);
  results = ap (λ n. (fields n).results) (is-Node' node);
  operands = ap (λ n. (fields n).operands) (is-Node' node);
  properties = ap (λ n. (fields n).properties) (is-Node' node);
  attrs = ap (λ n. (fields n).attrs) (is-Node' node);
  regions =
      ap (λ n. (fields n).regions) (is-Node' node) ∙ bodies-are (hidden-the_row-Body-1 (out-Node node).regions)
      ∙ items_hidden-the_row-Body-1 (out-Node node).regions;
  in_types = ap (λ n. (fields n).in_types) (is-Node' node);
  out_types = ap (λ n. (fields n).out_types) (is-Node' node);
}

of-body : (body : Body) → AreInside body
unfolding inside
of-body body = record {
  args = ap (λ b. (inside b).args) (is-Body' body);
  nodes =
      ap (λ b. (inside b).nodes) (is-Body' body) ∙ nodes-are (hidden-the_row-Node-0 (out-Body body).nodes)
      ∙ items_hidden-the_row-Node-0 (out-Body body).nodes;
}

pub views-law : ViewsLaw
views-law = (of-node, of-body)
