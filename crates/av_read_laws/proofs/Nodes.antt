-- Nodes without places, as they are made part by part.
use Rattle.std.proofs.Common.{◌≡◌, ℕ, ◌-◌, List, [], ◌∷◌, ◌++◌, length, map, reverse, refl, sym, ap, ◌∙◌}
use Rattle.std.proofs.lemmas.List.{length-map, map-append, reverse-append}
use Rattle.std.proofs.lemmas.Option.{slice_get-map}
use Rattle.std.specs.Prelude.{codes, true, false, Bool, if◌then◌else◌, Option, Some, None, option_map, slice_get}
use Rattle.std.specs.Option.{option_map_or}
use Rattle.std.specs.Str.{bytes_eq}
use Rattle.av_tree.specs.declared.node.Node.{Node, Node-F, fold-roll-Node, fold_out-Node, out-Node, roll-Node, out-roll-Node}
use Rattle.av_tree.specs.declared.node.Body.{Body, fold-roll-Body, fold_out-Body, out-Body, out-roll-Body, roll-Body}
use Rattle.av_tree.specs.declared.node.BodyArg.{BodyArg}
use Rattle.av_tree.specs.declared.attribute.Named.{Named}
use Rattle.av_tree.specs.declared.written.TypeText.{TypeText}
use Rattle.av_values.specs.declared.value.TypedValues.{TypedValues}
use Rattle.av_values.specs.Loops.{ended, ends_region, has_end}
use Rattle.av_values.specs.Nodes.{plain}
use Rattle.av_values.specs.Operations.{named, with_regions, module_of, is_module, root_of, function_of, name_of_end, terminator_of}
use Rattle.av_read_laws.specs.Places.{body_step, node_step, unplaced_node, unplaced_body}

-- a layer without places
abbrev pub layer : Node-F Body Node → Node-F Body Node
layer x = record x { place = 0; regions = map unplaced_body x.regions }

pub unplaced-roll : (x : Node-F Body Node) → unplaced_node (roll-Node x) ≡ roll-Node (layer x)
unfolding unplaced_node unplaced_body
unplaced-roll x = fold-roll-Node Body Node body_step node_step x

pub unplaced-out : (node : Node) → unplaced_node node ≡ roll-Node (layer (out-Node node))
unfolding unplaced_node unplaced_body
unplaced-out node = fold_out-Node Body Node body_step node_step node

pub out-unplaced : (node : Node) → out-Node (unplaced_node node) ≡ layer (out-Node node)
out-unplaced node = ap out-Node (unplaced-out node) ∙ out-roll-Node (layer (out-Node node))

pub unplaced-body : (args : List BodyArg) (nodes : List Node)
    → unplaced_body (roll-Body (record { args = args; nodes = nodes })) ≡ roll-Body (record { args = args; nodes = map unplaced_node nodes })
unfolding unplaced_node unplaced_body
unplaced-body args nodes = fold-roll-Body Body Node body_step node_step (record { args = args; nodes = nodes })

pub out-unplaced-body : (body : Body) → out-Body (unplaced_body body) ≡ record { args = (out-Body body).args; nodes = map unplaced_node (out-Body body).nodes }
unfolding unplaced_node unplaced_body
out-unplaced-body body = ap out-Body (fold_out-Body Body Node body_step node_step body) ∙ out-roll-Body _

-- what changes a layer and keeps its regions changes it likewise without places
pub changed : (change later : Node-F Body Node → Node-F Body Node) → ((x : Node-F Body Node) → layer (change x) ≡ later (layer x)) → (node : Node)
    → unplaced_node (roll-Node (change (out-Node node))) ≡ roll-Node (later (out-Node (unplaced_node node)))
changed change later same node =
    unplaced-roll (change (out-Node node)) ∙ ap roll-Node (same (out-Node node)) ∙ sym (ap (λ (x : Node-F Body Node). roll-Node (later x)) (out-unplaced node))

-- the same of what changes nothing of places or regions
pub kept : (change : Node-F Body Node → Node-F Body Node) → ((x : Node-F Body Node) → layer (change x) ≡ change (layer x)) → (node later : Node)
    → unplaced_node node ≡ later → unplaced_node (roll-Node (change (out-Node node))) ≡ roll-Node (change (out-Node later))
kept change same node later e = changed change change same node ∙ ap (λ (n : Node). roll-Node (change (out-Node n))) e

pub plain-unplaced : (name : List ℕ) (place : ℕ) → unplaced_node (plain name place) ≡ plain name 0
unfolding plain
plain-unplaced name place = unplaced-roll _

pub named-unplaced : (node : Node) (results : List (List ℕ)) (place : ℕ) → unplaced_node (named node results place) ≡ named (unplaced_node node) results 0
named-unplaced node results place =
    changed (λ x. record x { results = results; place = place }) (λ x. record x { results = results; place = 0 }) (λ x. refl) node

pub regions-unplaced : (node : Node) (properties attrs : List Named) (regions : List Body)
    → unplaced_node (with_regions node properties attrs regions) ≡ with_regions (unplaced_node node) properties attrs (map unplaced_body regions)
regions-unplaced node properties attrs regions =
    changed (λ x. record x { properties = properties; attrs = attrs; regions = regions })
    (λ x. record x { properties = properties; attrs = attrs; regions = map unplaced_body regions }) (λ x. refl) node

-- ---- lists of nodes
pub map-reverse : {A B : Type 0} (f : A → B) (xs : List A) → map f (reverse xs) ≡ reverse (map f xs)
map-reverse f [] = refl
map-reverse f (x ∷ xs) =
    ap (map f) (reverse-append (x ∷ []) xs) ∙ map-append f (reverse xs) (x ∷ []) ∙ ap (λ l. l ++ f x ∷ []) (map-reverse f xs)
    ∙ sym (reverse-append (f x ∷ []) (map f xs))

-- the one region of an operation, its operations from the last to the first
one-body : (args : List BodyArg) (nodes : List Node)
    → map unplaced_body (roll-Body (record { args = args; nodes = reverse nodes }) ∷ [])
    ≡ roll-Body (record { args = args; nodes = reverse (map unplaced_node nodes) }) ∷ []
one-body args nodes =
    ap (λ (b : Body). b ∷ []) (unplaced-body args (reverse nodes) ∙ ap (λ (ns : List Node). roll-Body (record { args = args; nodes = ns })) (map-reverse unplaced_node nodes))

-- ---- operations
whole-unplaced : (name : List ℕ) (place : ℕ) (properties attrs : List Named) (args : List BodyArg) (nodes : List Node)
    → unplaced_node (with_regions (plain name place) properties attrs (roll-Body (record { args = args; nodes = reverse nodes }) ∷ []))
    ≡ with_regions (plain name 0) properties attrs (roll-Body (record { args = args; nodes = reverse (map unplaced_node nodes) }) ∷ [])
whole-unplaced name place properties attrs args nodes =
    regions-unplaced (plain name place) properties attrs (roll-Body (record { args = args; nodes = reverse nodes }) ∷ [])
    ∙ ap (λ (n : Node). with_regions n properties attrs (map unplaced_body (roll-Body (record { args = args; nodes = reverse nodes }) ∷ []))) (plain-unplaced name place)
    ∙ ap (with_regions (plain name 0) properties attrs) (one-body args nodes)

pub module-unplaced : (properties attrs : List Named) (nodes : List Node) (place : ℕ)
    → unplaced_node (module_of properties attrs nodes place) ≡ module_of properties attrs (map unplaced_node nodes) 0
module-unplaced properties attrs nodes place = whole-unplaced (codes "builtin.module") place properties attrs [] nodes

pub function-unplaced : (properties : List Named) (symbol : List ℕ) (args : List BodyArg) (results : List TypeText) (attrs : List Named) (nodes : List Node) (place : ℕ)
    → unplaced_node (function_of properties symbol args results attrs nodes place) ≡ function_of properties symbol args results attrs (map unplaced_node nodes) 0
function-unplaced properties symbol args results attrs nodes place = whole-unplaced (codes "func.func") place _ (reverse attrs) (reverse args) nodes

module-here : (node : Node) → is_module (unplaced_node node ∷ []) ≡ is_module (node ∷ [])
module-here node = ap (λ (x : Node-F Body Node). bytes_eq x.name (codes "builtin.module")) (out-unplaced node)

root-or : (b : Bool) (node : Node) (nodes : List Node)
    → unplaced_node (if b then node else module_of [] [] nodes 0) ≡ (if b then unplaced_node node else module_of [] [] (map unplaced_node nodes) 0)
root-or true node nodes = refl
root-or false node nodes = module-unplaced [] [] nodes 0

pub root-unplaced : (nodes : List Node) → unplaced_node (root_of nodes) ≡ root_of (map unplaced_node nodes)
root-unplaced [] = module-unplaced [] [] [] 0
root-unplaced (node ∷ []) =
    root-or (is_module (node ∷ [])) node (node ∷ [])
    ∙ ap (λ (b : Bool). if b then unplaced_node node else module_of [] [] (unplaced_node node ∷ []) 0) (sym (module-here node))
root-unplaced (node ∷ next ∷ nodes) = module-unplaced [] [] (node ∷ next ∷ nodes) 0

pub terminator-unplaced : (word : List ℕ) (values : TypedValues) (place : ℕ) → unplaced_node (terminator_of word values place) ≡ terminator_of word values 0
terminator-unplaced word values place =
    kept (λ x. record x { operands = reverse values.values; in_types = map (λ (type : TypeText). Some type) (reverse values.types) }) (λ x. refl) _ _
    (plain-unplaced (name_of_end word) place)

-- ---- the end of a region
last-of : (o : Option Node) → option_map_or (λ (node : Node). ends_region (out-Node node).name) (option_map unplaced_node o) false
    ≡ option_map_or (λ (node : Node). ends_region (out-Node node).name) o false
last-of None = refl
last-of (Some node) = ap (λ (x : Node-F Body Node). ends_region x.name) (out-unplaced node)

end-unplaced : (nodes : List Node) → has_end (map unplaced_node nodes) ≡ has_end nodes
end-unplaced nodes =
    ap (λ k. option_map_or (λ (node : Node). ends_region (out-Node node).name) (slice_get (map unplaced_node nodes) (k - 1)) false) (length-map nodes unplaced_node)
    ∙ ap (λ (o : Option Node). option_map_or (λ (node : Node). ends_region (out-Node node).name) o false) (slice_get-map unplaced_node nodes (length nodes - 1))
    ∙ last-of (slice_get nodes (length nodes - 1))

-- with an operation of this name behind these ones
pub end-added : (name : List ℕ) (nodes : List Node) → map unplaced_node (nodes ++ plain name 0 ∷ []) ≡ map unplaced_node nodes ++ plain name 0 ∷ []
end-added name nodes =
    map-append unplaced_node nodes (plain name 0 ∷ []) ∙ ap (λ (n : Node). map unplaced_node nodes ++ n ∷ []) (plain-unplaced name 0)

end-or : (b : Bool) (name : List ℕ) (nodes : List Node)
    → map unplaced_node (if b then nodes else nodes ++ plain name 0 ∷ [])
    ≡ (if b then map unplaced_node nodes else map unplaced_node nodes ++ plain name 0 ∷ [])
end-or true name nodes = refl
end-or false name nodes = end-added name nodes

ended-unplaced : (name : List ℕ) (nodes : List Node) → map unplaced_node (ended name nodes) ≡ ended name (map unplaced_node nodes)
unfolding ended
ended-unplaced name nodes =
    end-or (has_end nodes) name nodes
    ∙ ap (λ (b : Bool). if b then map unplaced_node nodes else map unplaced_node nodes ++ plain name 0 ∷ []) (sym (end-unplaced nodes))

-- a region that ends with an operation of this name
pub ended-body : (args : List BodyArg) (name : List ℕ) (nodes : List Node)
    → unplaced_body (roll-Body (record { args = args; nodes = ended name nodes })) ≡ roll-Body (record { args = args; nodes = ended name (map unplaced_node nodes) })
ended-body args name nodes =
    unplaced-body args (ended name nodes) ∙ ap (λ (ns : List Node). roll-Body (record { args = args; nodes = ns })) (ended-unplaced name nodes)
