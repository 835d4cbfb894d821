-- The spelling of a tree: its operations line by line.
use Rattle.std.specs.Prelude.{ℕ, ◌+◌, Bool, true, false, ◌&&◌, ◌||◌, List, [], ◌∷◌, ◌++◌, map, Option, Some, None, if◌then◌else◌, codes}
use Rattle.av_lex.specs.declared.token.Kind.TheVariants as kinds
use Rattle.av_lex.specs.declared.token.Sign.TheVariants.{OpenCurly, CloseCurly, Colon}
use Rattle.av_tree.specs.declared.node.BodyArg.{BodyArg}
use Rattle.av_tree.specs.declared.node.Node.{Node, Node-F, fold-Node}
use Rattle.av_tree.specs.declared.node.Body.{Body, Body-F, fold-Body}
use Rattle.av_tree.specs.declared.node.Tree.{Tree}
use Rattle.av_printer.specs.declared.form.Form.{Form}
use Rattle.av_printer.specs.declared.form.Form.TheVariants as forms
use Rattle.av_printer.specs.declared.named.NamedForm.{NamedForm}
use Rattle.av_printer.specs.Pieces.{Piece, spelt, space, token, sign, plain, commas, joined, new_line, in_round}
use Rattle.av_printer.specs.Expressions.{same}
use Rattle.av_printer.specs.Operations.{Head, first_of, common_line, common_end, results_before, arguments_pieces}
use Rattle.av_printer.specs.OwnForms.{own_form, own_line, own_end}

-- an operation in a form at a depth, and whether its own form leaves it out: a yield without values
pub record Operation : Type 0 where
  pub silent : Bool
  pub whole : Form → ℕ → List Piece

-- the arguments of a region, whether their own forms leave all of its operations out, and the lines of these in a form at a depth
pub record Region : Type 0 where
  pub args : List BodyArg
  pub silent : Bool
  pub lines : Form → ℕ → List Piece

unfoldable pub is_yield : List ℕ → Bool
is_yield name = same name (codes "affine.yield") || same name (codes "scf.yield") || same name (codes "vector.yield")

abbrev pub is_empty : List (List ℕ) → Bool
is_empty [] = true
is_empty (v ∷ values) = false

unfoldable pub is_silent : List ℕ → List (List ℕ) → Bool
is_silent name operands = is_empty operands && is_yield name

abbrev pub left_out : Form → Operation → Bool
left_out forms.Named op = op.silent
left_out forms.Generic op = false

-- an operation on a line of its own; in its own form some are left out
unfoldable pub on_line : Form → ℕ → Operation → List Piece
on_line form depth op = if left_out form op then [] else new_line depth ++ op.whole form depth

unfoldable pub all_silent : List Operation → Bool
all_silent [] = true
all_silent (op ∷ ops) = op.silent && all_silent ops

abbrev pub region_step : Body-F Region Operation → Region
region_step b = record { args = b.args; silent = all_silent b.nodes; lines = λ form depth. joined (map (on_line form depth) b.nodes) }

-- ` {`, the lines, and `}`
unfoldable pub own_region : ℕ → Region → List Piece
own_region depth r = space ++ sign OpenCurly ++ r.lines forms.Named (depth + 1) ++ new_line depth ++ sign CloseCurly

-- ` else {`, the lines, and `}`; nothing where there is no line
unfoldable pub else_region : ℕ → Region → List Piece
else_region depth r = if r.silent then [] else space ++ plain (codes "else") ++ own_region depth r

-- a region behind the first stands behind `else`
abbrev pub own_regions : ℕ → List Region → List (List Piece)
own_regions depth [] = []
own_regions depth (first ∷ others) = own_region depth first ∷ map (else_region depth) others

-- `^bb0(%arg0: i32):` where the region has arguments
unfoldable pub label : ℕ → List BodyArg → List Piece
label depth [] = []
label depth (first ∷ others) = new_line depth ++ token kinds.CaretId (codes "^bb0") ++ arguments_pieces (first ∷ others) ++ sign Colon

unfoldable pub common_region : ℕ → Region → List Piece
common_region depth r = sign OpenCurly ++ label depth r.args ++ r.lines forms.Generic (depth + 1) ++ new_line depth ++ sign CloseCurly

-- ` ({ .. }, { .. })`, or nothing where there is no region
unfoldable pub common_regions : List (List Piece) → List Piece
common_regions [] = []
common_regions (first ∷ others) = space ++ in_round (commas (first ∷ others))

abbrev pub form_of : Form → List ℕ → Option NamedForm
form_of forms.Named name = own_form name
form_of forms.Generic name = None

unfoldable pub by_form : Option NamedForm → Head → List Region → ℕ → List Piece
by_form (Some form) h regions depth = own_line form h ++ joined (own_regions depth regions) ++ own_end form h
by_form None h regions depth = common_line h ++ common_regions (map (common_region depth) regions) ++ common_end h

abbrev pub whole_of : Form → Head → List Region → ℕ → List Piece
whole_of form h regions depth = results_before h.results ++ by_form (form_of form h.name) h regions depth

abbrev pub layer_head : Node-F Region Operation → Head
layer_head n = record {
  name = n.name;
  results = n.results;
  operands = n.operands;
  properties = n.properties;
  attrs = n.attrs;
  in_types = n.in_types;
  out_types = n.out_types;
  arguments = first_of (map (λ (r : Region). r.args) n.regions);
}

abbrev pub operation_step : Node-F Region Operation → Operation
operation_step n = record { silent = is_silent n.name n.operands; whole = λ form depth. whole_of form (layer_head n) n.regions depth }

unfoldable pub operation_of : Node → Operation
operation_of = fold-Node Region Operation region_step operation_step

unfoldable pub region_of : Body → Region
region_of = fold-Body Region Operation region_step operation_step

-- the same of nodes and bodies as they stand in a tree
abbrev pub node_line : Form → ℕ → Node → List Piece
node_line form depth node = on_line form depth (operation_of node)

abbrev pub own_body : ℕ → Body → List Piece
own_body depth body = own_region depth (region_of body)

abbrev pub else_body : ℕ → Body → List Piece
else_body depth body = else_region depth (region_of body)

abbrev pub own_bodies : ℕ → List Body → List (List Piece)
own_bodies depth [] = []
own_bodies depth (first ∷ others) = own_body depth first ∷ map (else_body depth) others

abbrev pub common_body : ℕ → Body → List Piece
common_body depth body = common_region depth (region_of body)

-- the pieces of a tree: its root, and a line end behind it
abbrev pub pieces_of : Form → Node → List Piece
pieces_of form root = (operation_of root).whole form 0 ++ new_line 0

-- the printed text of a tree; its aliases aren't printed
unfoldable pub spelling : Form → Tree → List ℕ
spelling form tree = spelt (pieces_of form tree.root)
