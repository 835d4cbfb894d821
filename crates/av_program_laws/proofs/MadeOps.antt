-- The node that is made of an operation without regions, and the text of a map.
use Rattle.std.proofs.Common.{◌≡◌, ap, sym, ◌∙◌, refl, ℕ, List, [], ◌∷◌, ◌++◌, map, length}
use Rattle.std.specs.Prelude.{ℤ, Option, Some}
use Rattle.std.specs.Fmt.{digits}
use Rattle.av_affine.specs.declared.expression.Expr.{Expr}
use Rattle.av_affine.specs.declared.expression.Expr.TheVariants as expr
use Rattle.av_affine.specs.declared.expression.Expr.TheVariants.{rolls-Param, rolls-Const}
use Rattle.av_affine.specs.declared.expression.Leaf.TheVariants.{Dim}
use Rattle.av_tree.specs.declared.written.ExprText.{ExprText}
use Rattle.av_tree.specs.declared.written.ExprText.TheVariants as text
use Rattle.av_totree.proofs.Expressions.{param_text, const_text, add_text, sub_text}
use Rattle.av_ir.specs.declared.ty.Ty.{Ty}
use Rattle.av_ir.specs.declared.module.OpKind.{OpKind}
use Rattle.av_ir.specs.declared.module.Marks.{Marks}
use Rattle.av_ir.specs.declared.module.Op.{Op-F, fold-roll-Op}
use Rattle.av_ir.specs.declared.module.Region.{Region}
use Rattle.av_tree.specs.declared.attribute.Named.{Named}
use Rattle.av_tree.specs.declared.node.Node.{Node, roll-Node}
use Rattle.av_tree.specs.declared.node.Body.{Body}
use Rattle.av_tree.specs.declared.written.TypeText.{TypeText}
use Rattle.av_totree.specs.Maps.{expression_of, map_of}
use Rattle.av_totree.specs.Names.{Naming, name_of, written_type, result_texts, with_results}
use Rattle.av_totree.specs.Kinds.{kind_name}
use Rattle.av_totree.specs.Properties.{properties_of, marks_of}
use Rattle.av_totree.specs.Trees.{Made, Making, in_turn, make_node, make_body, node_of, body_of}
use Rattle.av_totree.specs.Types.{type_of}
use Rattle.av_program_laws.specs.Programs.{Subscript, fixed, variable, plus, minus}
use Rattle.av_program_laws.specs.Walks.{Place, type_at, name_at}
use Rattle.av_program_laws.specs.Modules.{value, op}
use Rattle.av_program_laws.specs.Modules as modules
use Rattle.av_program_laws.specs.WrittenTrees.{node, bound_map, subscript_map, dimension, over}
use Rattle.av_program_laws.proofs.Ahead.{naming_at, IsNamed, AreBefore, operand_names, operand_types}

-- ---- maps
const_is : (z : ℤ) → expression_of (expr.Const z) ≡ text.Const z
const_is z = sym (const_text (expr.Const z) z z refl refl)

variable_is : expression_of modules.loop_variable ≡ text.Name dimension
unfolding digits
variable_is = sym (param_text modules.loop_variable (Dim 0) _ refl refl)

pub bound_text : (z : ℤ) → map_of (modules.bound_map z) ≡ bound_map z
bound_text z = ap (λ e. record { dims = []; syms = []; results = e ∷ [] }) (const_is z)

over_variable : (e : Expr) (t : ExprText) → expression_of e ≡ t → map_of (modules.over 1 e) ≡ over (dimension ∷ []) t
unfolding digits
over_variable e t is = ap (λ e. record { dims = dimension ∷ []; syms = []; results = e ∷ [] }) is

pub subscript_text : (at : Subscript) → map_of (modules.subscript_map at) ≡ subscript_map at
subscript_text (fixed z) = bound_text z
subscript_text variable = over_variable _ _ variable_is
subscript_text (plus z) = over_variable _ _
    (add_text modules.loop_variable (expr.Const z) ∙ ap (λ a. text.Add a (expression_of (expr.Const z))) variable_is ∙ ap (text.Add _) (const_is z))
subscript_text (minus z) = over_variable _ _
    (sub_text modules.loop_variable (expr.Const z) ∙ ap (λ a. text.Sub a (expression_of (expr.Const z))) variable_is ∙ ap (text.Sub _) (const_is z))

-- ---- operations
module _ (T : List Ty) (number : ℕ) (kind : OpKind) (operands results : List ℕ) (marks : Marks) (naming : Naming) where
  abbrev pub layer : {A B : Type 0} → List B → Op-F A B
  layer regions = record {
    number = number;
    kind = kind;
    operands = map value operands;
    results = map value results;
    regions = regions;
    marks = marks;
  }

  -- the node of these parts
  abbrev pub flat : List Body → Node
  flat regions = roll-Node (record {
    name = kind_name kind;
    place = 0;
    results = result_texts (map value results) naming.operations;
    operands = map (name_of naming) (map value operands);
    properties = properties_of T kind (length (map value operands)) (map value results);
    attrs = marks_of marks;
    regions = regions;
    in_types = map (written_type T) (map value operands);
    out_types = map (written_type T) (map value results);
  })

  pub made_op : (regions : List Region) (bodies : List Body) (behind : Naming)
      → in_turn (map (body_of T) regions) (with_results (map value results) naming) ≡ record { made = bodies; naming = behind }
      → node_of T (op number kind operands results regions marks) naming ≡ record { made = flat bodies; naming = behind }
  unfolding node_of body_of op
  made_op regions bodies behind is =
      ap (λ (making : Making Node). making naming)
      (fold-roll-Op (Making Node) (Making Body) (make_node T) (make_body T) (layer regions))
      ∙ ap (λ (inside : Made (List Body)). record { made = flat inside.made; naming = inside.naming }) is

  pub made_plain : node_of T (op number kind operands results [] marks) naming
      ≡ record { made = flat []; naming = with_results (map value results) naming }
  unfolding in_turn
  made_plain = made_op [] [] (with_results (map value results) naming) refl

-- it is the node of the program's tree, if its results have these types and its properties are these
module _ (T rest : List Ty) (number : ℕ) (kind : OpKind) (operands results : List ℕ) (marks : Marks) (place : Place)
    (is : T ≡ place.types ++ rest) (named : IsNamed place) (before : AreBefore place operands) where
  abbrev whole : List (List ℕ) → List (Option TypeText) → List (Option TypeText) → List Named → List Body → Node
  whole names in_types out_types properties regions = roll-Node (record {
    name = kind_name kind;
    place = 0;
    results = result_texts (map value results) place.operations;
    operands = names;
    properties = properties;
    attrs = marks_of marks;
    regions = regions;
    in_types = in_types;
    out_types = out_types;
  })

  pub flat_is : (types : List Ty) (properties : List Named) (regions : List Body)
      → map (written_type T) (map value results) ≡ map (λ ty. Some (type_of ty)) types
      → properties_of T kind (length (map value operands)) (map value results) ≡ properties
      → flat T number kind operands results marks (naming_at rest place) regions
      ≡ node (kind_name kind) place operands (result_texts (map value results) place.operations) types properties (marks_of marks) regions
  unfolding node
  flat_is types properties regions out same =
      let given = map (written_type T) (map value operands) in
      let made = map (written_type T) (map value results) in
      let said = properties_of T kind (length (map value operands)) (map value results) in
      ap (λ names. whole names given made said regions) (operand_names rest place operands named before)
      ∙ ap (λ (given : List (Option TypeText)). whole (map (name_at place) operands) given made said regions)
      (ap (λ t. map (written_type t) (map value operands)) is ∙ operand_types rest place operands before)
      ∙ ap (λ (made : List (Option TypeText)). whole (map (name_at place) operands) (map (λ v. Some (type_of (type_at place v))) operands) made said regions) out
      ∙ ap (λ said. whole (map (name_at place) operands) (map (λ v. Some (type_of (type_at place v))) operands) (map (λ ty. Some (type_of ty)) types) said regions) same
