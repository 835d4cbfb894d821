-- What is asked of loops, and what they are in a module. Loops carry no values yet.
use Rattle.std.specs.Prelude.{ℕ, ◌+◌, ◌-◌, ◌^◌, ◌==◌, nat_le, ℤ, pos, int_le, int_lt, unsigned_abs, Bool, true, false, not, ◌&&◌, List, [], ◌∷◌, ◌++◌, length, take, drop, Option, Some, None, is_some, codes, if◌then◌else◌}
use Rattle.std.specs.List.{list_all}
use Rattle.std.specs.Option.{option_map_or}
use Rattle.std.specs.Ordering.{int_eq}
use Rattle.std.specs.Cmp.Lexicographic.{pointwise}
use Rattle.std.specs.Str.{bytes_eq}
use Rattle.av_ir.specs.declared.ty.Elem.TheVariants.{Index}
use Rattle.av_ir.specs.declared.module.ValueId.{ValueId}
use Rattle.av_ir.specs.declared.module.OpKind.TheVariants.{AffineFor}
use Rattle.av_ir.specs.declared.module.Op.{Op}
use Rattle.av_ir.specs.declared.module.Region.{Region}
use Rattle.av_tree.specs.declared.attribute.Attr.{Attr}
use Rattle.av_tree.specs.declared.attribute.Attr.TheVariants.{Number, Array}
use Rattle.av_tree.specs.declared.node.Node.{Node, out-Node}
use Rattle.av_tree.specs.declared.node.Body.{Body, out-Body}
use Rattle.av_tree.specs.declared.node.BodyArg.{BodyArg}
use Rattle.av_tree.specs.declared.written.MapText.{MapText}
use Rattle.av_tree.specs.declared.written.TypeText.{Scalar}
use Rattle.av_verify.specs.declared.maps.MapUse.{MapUse}
use Rattle.av_verify.specs.declared.refusal.Code.TheVariants as code
use Rattle.av_verify.specs.declared.refusal.Rule.{Rule}
use Rattle.av_verify.specs.declared.rows.Row.TheVariants.{Loop}
use Rattle.av_verify.specs.declared.scope.Scope.{Scope}
use Rattle.av_verify.specs.Accesses.{has_few_results, normal_entry}
use Rattle.av_verify.specs.Codes.{asks}
use Rattle.av_verify.specs.Entries.{entry_of, map_of, number_of, has_needed, has_good_entries, marks_of}
use Rattle.av_verify.specs.Expressions.{is_affine}
use Rattle.av_verify.specs.FirstPath.{is_last, is_only}
use Rattle.av_verify.specs.Maps.{are_map_operands}
use Rattle.av_verify.specs.Names.{Binding, is_visible, are_visible, bound}
use Rattle.av_verify.specs.Ops.{op_of}
use Rattle.av_verify.specs.Results.{has_no_result}
use Rattle.av_verify.specs.Scopes.{agrees_at}
use Rattle.av_verify.specs.Types.{is_elem, written_scalar}

-- ---- arguments
-- the names of arguments, after others
abbrev pub with_names : List Binding → List BodyArg → List Binding
with_names seen [] = seen
with_names seen (arg ∷ args) = with_names (bound seen arg.name (record { 0 = 0 })) args

-- none of the names of arguments is visible, and none stands twice, nor among those seen
abbrev pub are_fresh : List Binding → List Binding → List BodyArg → Bool
are_fresh names seen [] = true
are_fresh names seen (arg ∷ args) =
    not (is_visible names arg.name) && not (is_visible seen arg.name) && are_fresh names (bound seen arg.name (record { 0 = 0 })) args

-- the same over the regions of an operation
abbrev pub are_new : List Binding → List Binding → List Body → Bool
are_new names seen [] = true
are_new names seen (body ∷ bodies) =
    are_fresh names seen (out-Body body).args && are_new names (with_names seen (out-Body body).args) bodies

-- an argument of type `index`
abbrev pub is_index : BodyArg → Bool
is_index arg = option_map_or (is_elem Index) (written_scalar arg.ty) false

-- ---- regions
-- each region ends with an operation of this name
abbrev pub end_with : List ℕ → List Body → Bool
end_with name bodies = list_all (λ body. is_last (λ node. bytes_eq (out-Node node).name name) (out-Body body).nodes) bodies

-- one region with one argument
abbrev pub has_one_variable : List Body → Bool
has_one_variable bodies = is_only (λ body. length (out-Body body).args == 1) bodies

-- ---- bounds and step
abbrev pub lower_map : Node → Option MapText
lower_map node = map_of (entry_of (codes "lowerBoundMap") node)

abbrev pub upper_map : Node → Option MapText
upper_map node = map_of (entry_of (codes "upperBoundMap") node)

-- how many operands the map takes
abbrev pub arity_of : Option MapText → ℕ
arity_of (Some m) = length m.dims + length m.syms
arity_of None = 0

-- the numbers of the operands of both bounds and of the carried values, in an array of type i32
abbrev pub segments_of : Option Attr → Option (List ℤ)
segments_of (Some (Array (Scalar name) numbers)) = if bytes_eq name (codes "i32") then Some numbers else None
segments_of _ = None

abbrev pub segments : Node → Option (List ℤ)
segments node = segments_of (entry_of (codes "operandSegmentSizes") node)

abbrev pub are_segments : Option (List ℤ) → ℕ → ℕ → Bool
are_segments (Some (lower ∷ upper ∷ carried ∷ [])) lowers uppers =
    int_eq lower (pos lowers) && int_eq upper (pos uppers) && int_eq carried (pos 0)
are_segments _ lowers uppers = false

abbrev pub gives_something : Option MapText → Bool
gives_something (Some m) = not (length m.results == 0)
gives_something None = false

-- the operands are parted as the bounds' maps take them, those of the lower one first, and each map gives something
abbrev pub is_parted : Node → ℕ → Bool
is_parted node operands =
    are_segments (segments node) (arity_of (lower_map node)) (arity_of (upper_map node))
    && nat_le (arity_of (lower_map node)) operands && (operands - arity_of (lower_map node) == arity_of (upper_map node))
    && gives_something (lower_map node) && gives_something (upper_map node)

abbrev pub lower_values : Node → List ValueId → List ValueId
lower_values node operands = take (arity_of (lower_map node)) operands

abbrev pub upper_values : Node → List ValueId → List ValueId
upper_values node operands = drop (arity_of (lower_map node)) operands

-- a number of type index
abbrev pub is_index_number : Option Attr → Bool
is_index_number (Some (Number value (Scalar name))) = bytes_eq name (codes "index")
is_index_number _ = false

-- from 1 to 2 ^ 31 - 1
abbrev pub is_step : Option ℤ → Bool
is_step (Some step) = int_le (pos 1) step && int_le step (pos 0x7FFF_FFFF)
is_step None = false

-- ---- rules
abbrev pub loop_agrees : Scope → Node → List ValueId → Bool
loop_agrees scope node operands =
    pointwise (agrees_at scope.values) (out-Node node).in_types operands
    && list_all (λ body. list_all is_index (out-Body body).args) (out-Node node).regions
    && (length (out-Node node).out_types == 0)

abbrev pub has_loop_entries : Node → Bool
has_loop_entries node =
    has_good_entries Loop node && is_some (lower_map node) && is_some (upper_map node)
    && is_index_number (entry_of (codes "step") node) && is_some (segments node)

abbrev pub bounds_dimensions : Scope → Node → List ValueId → Bool
bounds_dimensions scope node operands =
    are_map_operands scope.roles (lower_map node) (lower_values node operands)
    && are_map_operands scope.roles (upper_map node) (upper_values node operands)

-- where it is known whether the arguments' names are new, and whether a region may be opened
abbrev pub loop_rules : Bool → Bool → Scope → Node → List ValueId → List Rule
loop_rules new has_room scope node operands =
    asks code.Results (has_no_result node)
    ∷ asks code.Visible (are_visible scope.names (out-Node node).operands)
    ∷ asks code.New new
    ∷ asks code.Types (loop_agrees scope node operands)
    ∷ asks code.Needed (has_needed Loop node)
    ∷ asks code.Property (has_loop_entries node)
    ∷ asks code.Arity (is_parted node (length operands))
    ∷ asks code.Dimension (bounds_dimensions scope node operands)
    ∷ asks code.Step (is_step (number_of (entry_of (codes "step") node)))
    ∷ asks code.Terminator (end_with (codes "affine.yield") (out-Node node).regions)
    ∷ asks code.Regions (has_one_variable (out-Node node).regions)
    ∷ asks code.Expression (is_affine (lower_map node) && is_affine (upper_map node))
    ∷ asks code.Limit (has_few_results (lower_map node) && has_few_results (upper_map node) && has_room)
    ∷ []

-- ---- the loop
-- the step; 0 where it is none, which is refused
abbrev pub step_of : Option ℤ → ℕ
step_of (Some step) = if int_le (pos 0) step && int_lt step (pos (2 ^ 64)) then unsigned_abs step else 0
step_of None = 0

abbrev pub loop_between : MapUse → MapUse → Node → List Region → ℕ → Op
loop_between lower upper node regions number =
    op_of number (AffineFor lower.map upper.map (step_of (number_of (entry_of (codes "step") node))))
    (lower.operands ++ upper.operands) [] regions (marks_of Loop node)

abbrev pub loop_op : Node → List ValueId → List Region → ℕ → Op
loop_op node operands regions number =
    loop_between (normal_entry node (codes "lowerBoundMap") (lower_values node operands))
    (normal_entry node (codes "upperBoundMap") (upper_values node operands)) node regions number
