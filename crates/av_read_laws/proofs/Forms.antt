-- What the generic form makes, and a branch among others, without places.
use Rattle.std.proofs.Common.{◌≡◌, ℕ, Bool, true, false, ◌&&◌, List, [], ◌∷◌, ◌++◌, map, refl, sym, ap, ◌∙◌}
use Rattle.std.specs.Prelude.{codes, if◌then◌else◌}
use Rattle.std.specs.Str.{bytes_eq}
use Rattle.av_tree.specs.declared.node.Node.{Node, Node-F, out-Node, roll-Node}
use Rattle.av_tree.specs.declared.node.Body.{Body, Body-F, out-Body, roll-Body}
use Rattle.av_values.specs.declared.value.GenericParts.{GenericParts}
use Rattle.av_values.specs.Nodes.{plain}
use Rattle.av_values.specs.Forms.{generic_of, is_none, with_end, second_ended, is_plain_branch, completed}
use Rattle.av_read_laws.specs.Places.{unplaced_node, unplaced_body}
use Rattle.av_read_laws.proofs.Values.{unplaced_generic}
use Rattle.av_read_laws.proofs.Nodes.{unplaced-roll, unplaced-body, out-unplaced, out-unplaced-body, changed, end-added}

-- ---- operations with maps and sets, and loops

-- ---- operations on vectors

-- ---- the generic form
pub generic-unplaced : (name : List ℕ) (parts : GenericParts) (place : ℕ)
    → unplaced_node (generic_of name parts place) ≡ generic_of name (unplaced_generic parts) 0
generic-unplaced name parts place = unplaced-roll _

-- ---- a branch that lacks its second region's terminator
none-unplaced : (nodes : List Node) → is_none (map unplaced_node nodes) ≡ is_none nodes
none-unplaced [] = refl
none-unplaced (node ∷ nodes) = refl

with_end-unplaced : (body : Body) → unplaced_body (with_end body) ≡ with_end (unplaced_body body)
with_end-unplaced body =
    unplaced-body (out-Body body).args ((out-Body body).nodes ++ plain (codes "affine.yield") 0 ∷ [])
    ∙ ap (λ (nodes : List Node). roll-Body (record { args = (out-Body body).args; nodes = nodes })) (end-added (codes "affine.yield") (out-Body body).nodes)
    ∙ sym (ap (λ (x : Body-F Body Node). roll-Body (record x { nodes = x.nodes ++ plain (codes "affine.yield") 0 ∷ [] })) (out-unplaced-body body))

with_end-or : (b : Bool) (body : Body)
    → unplaced_body (if b then with_end body else body) ≡ (if b then with_end (unplaced_body body) else unplaced_body body)
with_end-or true body = with_end-unplaced body
with_end-or false body = refl

second-none : (body : Body) → is_none (out-Body body).nodes ≡ is_none (out-Body (unplaced_body body)).nodes
second-none body =
    sym (none-unplaced (out-Body body).nodes) ∙ sym (ap (λ (x : Body-F Body Node). is_none x.nodes) (out-unplaced-body body))

second-unplaced : (regions : List Body) → map unplaced_body (second_ended regions) ≡ second_ended (map unplaced_body regions)
second-unplaced [] = refl
second-unplaced (only ∷ []) = refl
second-unplaced (first ∷ second ∷ others) =
    ap (λ (b : Body). unplaced_body first ∷ b ∷ map unplaced_body others) (with_end-or (is_none (out-Body second).nodes) second
    ∙ ap (λ (b : Bool). if b then with_end (unplaced_body second) else unplaced_body second) (second-none second))

completed-or : (b : Bool) (node : Node)
    → unplaced_node (if b then roll-Node (record (out-Node node) { regions = second_ended (out-Node node).regions }) else node)
    ≡ (if b then roll-Node (record (out-Node (unplaced_node node)) { regions = second_ended (out-Node (unplaced_node node)).regions }) else unplaced_node node)
completed-or true node =
    changed (λ x. record x { regions = second_ended x.regions }) (λ x. record x { regions = second_ended x.regions })
    (λ x. ap (λ (regions : List Body). record x { place = 0; regions = regions }) (second-unplaced x.regions)) node
completed-or false node = refl

pub completed-unplaced : (node : Node) → unplaced_node (completed node) ≡ completed (unplaced_node node)
unfolding completed
completed-unplaced node =
    completed-or (is_plain_branch node) node
    ∙ ap (λ (b : Bool). if b then roll-Node (record (out-Node (unplaced_node node)) { regions = second_ended (out-Node (unplaced_node node)).regions }) else unplaced_node node)
    (sym (ap (λ (x : Node-F Body Node). bytes_eq x.name (codes "affine.if") && is_none x.out_types) (out-unplaced node)))
