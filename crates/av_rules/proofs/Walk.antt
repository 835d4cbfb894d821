-- The walk over a tree has a place for each of its operations.
use Rattle.std.proofs.Common.{◌≡◌, ◌∙◌, ℕ, zero, suc, ◌+◌, ◌≤◌, arith, List, [], ◌∷◌, length, map, nat_eq, refl, ap, sym, length-append}
use Rattle.std.specs.Prelude.{flat_map, sum}
use Rattle.std.proofs.lemmas.List.Sums.{sum_by-cons}
use Rattle.av_tree.specs.declared.node.Node.{Node, Node', Row_of-Body, end_of-Body, more_of-Body}
use Rattle.av_tree.specs.declared.node.Body.{Body, Body', Row_of-Node, end_of-Node, more_of-Node}
use Rattle.av_rules.specs.Places.{Site}
use Rattle.av_rules.specs.Sites.{behind, in_order, operations_in, operations_in_bodies, operations_in_nodes, operations_within, sites_from, within}
use Rattle.av_rules.specs.Views.{bodies_in, fields, inside, nodes_in}
use Rattle.av_rules.specs.Walks.{AllSitesLaw}

one-more : (n : ℕ) → suc n ≡ 1 + n
one-more n = omega arith

sum-more : (n : ℕ) (ns : List ℕ) → sum (n ∷ ns) ≡ n + sum ns
sum-more n ns = sum_by-cons (λ k. k) n ns

-- ---- numbers of operations
in-bodies : {m : _} (row : Row_of-Body m) → operations_in_bodies row ≡ sum (map operations_within (bodies_in row))
unfolding operations_in_bodies bodies_in
in-bodies end_of-Body = refl
in-bodies (more_of-Body body rest) =
    ap (λ n. operations_within body + n) (in-bodies rest) ∙ sym (sum-more (operations_within body) (map operations_within (bodies_in rest)))

in-nodes : {m : _} (row : Row_of-Node m) → operations_in_nodes row ≡ sum (map operations_in (nodes_in row))
unfolding operations_in_nodes nodes_in
in-nodes end_of-Node = refl
in-nodes (more_of-Node node rest) =
    ap (λ n. operations_in node + n) (in-nodes rest) ∙ sym (sum-more (operations_in node) (map operations_in (nodes_in rest)))

in-node : (node : Node) → operations_in node ≡ 1 + sum (map operations_within (fields node).regions)
unfolding operations_in fields
in-node (Node' name place results operands properties attrs s bodies ins outs) = ap (λ n. 1 + n) (in-bodies bodies)

in-body : (body : Body) → operations_within body ≡ sum (map operations_in (inside body).nodes)
unfolding operations_within inside
in-body (Body' args s nodes) = in-nodes nodes

-- ---- places
module _ (most : ℕ) (walk : Site → List Site) (all : (site : Site) → operations_in site.node ≤ most → length (walk site) ≡ operations_in site.node) where
  of-nodes : (before : Site) (nodes : List Node) → sum (map operations_in nodes) ≤ most
      → length (in_order walk before nodes) ≡ sum (map operations_in nodes)
  of-nodes before [] h = refl
  of-nodes before (node ∷ nodes) h =
      let split : sum (map operations_in (node ∷ nodes)) ≡ operations_in node + sum (map operations_in nodes) = sum-more (operations_in node) (map operations_in nodes) in
      let one = record before { node = node; is_last = nat_eq (length nodes) 0 } in
      length-append (walk one) (in_order walk (behind (record before { node = node })) nodes)
      ∙ ap (λ n. n + length (in_order walk (behind (record before { node = node })) nodes)) (all one (omega (arith, split, h)))
      ∙ ap (λ n. operations_in node + n) (of-nodes (behind (record before { node = node })) nodes (omega (arith, split, h)))
      ∙ sym split

  of-bodies : (site : Site) (bodies : List Body) → sum (map operations_within bodies) ≤ most
      → length (flat_map (λ body. in_order walk (within site body) (inside body).nodes) bodies) ≡ sum (map operations_within bodies)
  of-bodies site [] h = refl
  of-bodies site (body ∷ bodies) h =
      let split : sum (map operations_within (body ∷ bodies)) ≡ operations_within body + sum (map operations_within bodies) = sum-more (operations_within body) (map operations_within bodies) in
      let here = in-body body in
      let rest = flat_map (λ b. in_order walk (within site b) (inside b).nodes) bodies in
      length-append (in_order walk (within site body) (inside body).nodes) rest
      ∙ ap (λ n. n + length rest) (of-nodes (within site body) (inside body).nodes (omega (arith, split, here, h)) ∙ sym here)
      ∙ ap (λ n. operations_within body + n) (of-bodies site bodies (omega (arith, split, h)))
      ∙ sym split

all-sites : (most : ℕ) (site : Site) → operations_in site.node ≤ most → length (sites_from most site) ≡ operations_in site.node
unfolding sites_from
all-sites zero site h = let one : operations_in site.node ≡ 1 + sum (map operations_within (fields site.node).regions) = in-node site.node in absurd (omega (arith, one, h))
all-sites (suc most) site h =
    let one : operations_in site.node ≡ 1 + sum (map operations_within (fields site.node).regions) = in-node site.node in
    ap suc (of-bodies most (sites_from most) (all-sites most) site (fields site.node).regions (omega (arith, one, h)))
    ∙ one-more (sum (map operations_within (fields site.node).regions)) ∙ sym one

pub all-sites-law : AllSitesLaw
all-sites-law tree mode = all-sites (operations_in tree.root) _ (omega arith)
