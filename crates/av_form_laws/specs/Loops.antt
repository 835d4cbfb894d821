-- The parts of loops and branches: bounds, steps, carried values and regions.
use Rattle.std.specs.Prelude.{ℕ, ℤ, pos, negsuc, ◌==◌, ◌&&◌, Bool, if◌then◌else◌, List, [], ◌∷◌, map, codes}
use Rattle.std.specs.Str.{bytes_eq}
use Rattle.av_tree.specs.declared.attribute.Attr.{Attr, Attr-F, out-Attr}
use Rattle.av_tree.specs.declared.attribute.Attr.TheOpen as attrs
use Rattle.av_tree.specs.declared.attribute.Named.{Named, out-Named}
use Rattle.av_tree.specs.declared.node.Body.{Body, out-Body}
use Rattle.av_tree.specs.declared.node.BodyArg.{BodyArg}
use Rattle.av_tree.specs.declared.node.Node.{Node, Node-F, out-Node}
use Rattle.av_tree.specs.declared.written.ExprText.TheVariants as expr
use Rattle.av_tree.specs.declared.written.TypeText.{TypeText}
use Rattle.av_values.specs.Forms.{is_none}
use Rattle.av_values.specs.Loops.{step}
use Rattle.av_values.specs.Nodes.{entry}
use Rattle.av_form_laws.specs.Attributes.{Applied, written_map}

-- ---- bounds
-- `() -> (5)` stands for a number
abbrev pub number_map : ℤ → Applied
number_map z = written_map (record { dims = []; syms = []; results = expr.Const z ∷ [] })

-- `()[s0] -> (s0)` for a value
abbrev pub value_map : Applied
value_map = written_map (record { dims = []; syms = codes "s0" ∷ []; results = expr.Name (codes "s0") ∷ [] })

abbrev pub natural : ℤ → ℕ
natural (pos n) = n
natural (negsuc n) = 0

abbrev pub first_size : List ℤ → ℕ
first_size [] = 0
first_size (z ∷ others) = natural z

-- ---- steps
abbrev pub step_entry : ℕ → Named
step_entry s = entry (codes "step") (step (pos s))

abbrev pub step_in : Attr-F Attr Named → ℕ
step_in (attrs.Number z t) = natural z
step_in _ = 0

abbrev pub first_step : List Named → ℕ
first_step [] = 0
first_step (e ∷ es) = step_in (out-Attr (out-Named e).value)

abbrev pub nodes_in : List Body → List Node
nodes_in [] = []
nodes_in (body ∷ bodies) = (out-Body body).nodes

abbrev pub first_name : List BodyArg → List ℕ
first_name [] = []
first_name (arg ∷ args) = arg.name

-- an end without values, from no place of a text
abbrev pub is_put_in : List ℕ → Node-F Body Node → Bool
is_put_in end node = bytes_eq node.name end && is_none node.operands && node.place == 0

-- the operations that are written: all but an end that was put in
abbrev pub written_in : List ℕ → List Node → List Node
written_in end [] = []
written_in end (node ∷ []) = if is_put_in end (out-Node node) then [] else node ∷ []
written_in end (node ∷ next ∷ nodes) = node ∷ written_in end (next ∷ nodes)

-- ---- carried values
-- a carried argument and its first value
abbrev pub Carrying : Type 0
Carrying = BodyArg × List ℕ

abbrev pub paired : List BodyArg → List (List ℕ) → List Carrying
paired [] inits = []
paired (arg ∷ args) [] = []
paired (arg ∷ args) (init ∷ inits) = (arg, init) ∷ paired args inits

abbrev pub args_of : List Carrying → List BodyArg
args_of cs = map (λ (c : Carrying). c.0) cs

abbrev pub inits_of : List Carrying → List (List ℕ)
inits_of cs = map (λ (c : Carrying). c.1) cs

abbrev pub types_of : List Carrying → List TypeText
types_of cs = map (λ (c : Carrying). c.0.ty) cs
