-- Trees as they are read, level by level, and what is put into operations without names of results.
use Rattle.std.proofs.Common.{◌≡◌, Bool, true, false, List, [], ◌∷◌, ◌++◌, map, refl, sym, ap, ◌∙◌}
use Rattle.std.specs.Prelude.{if◌then◌else◌, ◌&&◌, codes}
use Rattle.std.specs.Str.{bytes_eq}
use Rattle.av_tree.specs.declared.node.Node.{Node, Node-F, fold_out-Node, out-Node, roll-Node, out-roll-Node}
use Rattle.av_tree.specs.declared.node.Body.{Body, Body-F, fold_out-Body, out-Body, roll-Body, out-roll-Body}
use Rattle.av_printer.specs.Dictionaries.{in_order}
use Rattle.av_values.specs.Nodes.{plain}
use Rattle.av_values.specs.Forms.{is_none, with_end, second_ended, completed}
use Rattle.av_round_trip.specs.Trees.{ordered_step, body_step, as_read, body_as_read}

-- ---- one level
abbrev pub layer_as_read : Node-F Body Node → Node-F Body Node
layer_as_read x = record x { place = 0; properties = in_order x.properties; attrs = in_order x.attrs; regions = map body_as_read x.regions }

pub as_read-is : (node : Node) → as_read node ≡ roll-Node (layer_as_read (out-Node node))
unfolding as_read body_as_read
as_read-is node = fold_out-Node Body Node body_step ordered_step node

pub out-as_read : (node : Node) → out-Node (as_read node) ≡ layer_as_read (out-Node node)
out-as_read node = ap out-Node (as_read-is node) ∙ out-roll-Node (layer_as_read (out-Node node))

pub body_as_read-is : (body : Body) → body_as_read body ≡ roll-Body (record (out-Body body) { nodes = map as_read (out-Body body).nodes })
unfolding as_read body_as_read
body_as_read-is body = fold_out-Body Body Node body_step ordered_step body

nodes-as_read : (body : Body) → (out-Body (body_as_read body)).nodes ≡ map as_read (out-Body body).nodes
nodes-as_read body =
    ap (λ (b : Body). (out-Body b).nodes) (body_as_read-is body)
    ∙ ap (λ (b : Body-F Body Node). b.nodes) (out-roll-Body (record (out-Body body) { nodes = map as_read (out-Body body).nodes }))

-- ---- branches that lack nothing
-- a region with a terminator where it has no operation
abbrev ended : Body → Body
ended body = if is_none (out-Body body).nodes then with_end body else body

some_more : {A : Type 0} (x : A) (xs : List A) → xs ≡ [] → xs ++ x ∷ [] ≡ xs → ⊥
some_more {A} x xs none same =
    let one : x ∷ [] ≡ [] = ap (λ (l : List A). l ++ x ∷ []) (sym none) ∙ same ∙ none in
    absurd (cc)

with_end-not : (body : Body) → (out-Body body).nodes ≡ [] → with_end body ≡ body → ⊥
with_end-not body none same =
    some_more (plain (codes "affine.yield") 0) (out-Body body).nodes none
    (sym (ap (λ (b : Body-F Body Node). b.nodes) (out-roll-Body (record (out-Body body) { nodes = (out-Body body).nodes ++ plain (codes "affine.yield") 0 ∷ [] })))
    ∙ ap (λ (b : Body). (out-Body b).nodes) same)

-- a region that gets no terminator has an operation, and has one as it is read
has_some : (body : Body) (nodes : List Node) → (out-Body body).nodes ≡ nodes → ended body ≡ body → is_none (map as_read nodes) ≡ false
has_some body [] is same =
    absurd (with_end-not body is (ap (λ (l : List Node). if is_none l then with_end body else body) (sym is) ∙ same))
has_some body (n ∷ nodes) is same = refl

ended-as_read : (body : Body) → ended body ≡ body → ended (body_as_read body) ≡ body_as_read body
ended-as_read body same =
    let read : Body = body_as_read body in
    ap (λ (l : List Node). if is_none l then with_end read else read) (nodes-as_read body)
    ∙ ap (λ (b : Bool). if b then with_end read else read) (has_some body (out-Body body).nodes refl same)

second_ended-as_read : (bodies : List Body) → second_ended bodies ≡ bodies → second_ended (map body_as_read bodies) ≡ map body_as_read bodies
second_ended-as_read [] same = refl
second_ended-as_read (first ∷ []) same = refl
second_ended-as_read (first ∷ second ∷ others) same =
    let is : ended second ≡ second = cc in
    ap (λ (b : Body). body_as_read first ∷ b ∷ map body_as_read others) (ended-as_read second is)

-- ---- operations that lack nothing
abbrev with_second_ended : Node-F Body Node → Node
with_second_ended x = roll-Node (record x { regions = second_ended x.regions })

regions_ended : (node : Node) → with_second_ended (out-Node node) ≡ node → second_ended (out-Node node).regions ≡ (out-Node node).regions
regions_ended node same =
    sym (ap (λ (x : Node-F Body Node). x.regions) (out-roll-Node (record (out-Node node) { regions = second_ended (out-Node node).regions })))
    ∙ ap (λ (n : Node). (out-Node n).regions) same

whole-as_read : (node : Node) → with_second_ended (out-Node node) ≡ node → with_second_ended (layer_as_read (out-Node node)) ≡ as_read node
whole-as_read node same =
    ap (λ (bodies : List Body). roll-Node (record (layer_as_read (out-Node node)) { regions = bodies }))
    (second_ended-as_read (out-Node node).regions (regions_ended node same))
    ∙ sym (as_read-is node)

chosen : (b : Bool) (x y u v : Node) → (x ≡ y → u ≡ v) → (if b then x else y) ≡ y → (if b then u else v) ≡ v
chosen true x y u v so same = so same
chosen false x y u v so same = refl

abbrev is_branch : Node-F Body Node → Bool
is_branch x = bytes_eq x.name (codes "affine.if") && is_none x.out_types

-- nothing is put into an operation as it is read where nothing is put into it
pub completed-as_read : (node : Node) → completed node ≡ node → completed (as_read node) ≡ as_read node
unfolding completed
completed-as_read node same =
    ap (λ (x : Node-F Body Node). if is_branch x then with_second_ended x else as_read node) (out-as_read node)
    ∙ chosen (is_branch (out-Node node)) (with_second_ended (out-Node node)) node (with_second_ended (layer_as_read (out-Node node))) (as_read node)
    (whole-as_read node) same
