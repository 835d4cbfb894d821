-- The nodes that are made of the lines of a loop.
use Rattle.std.proofs.Common.{◌≡◌, ap, sym, ◌∙◌, refl, ℕ, ◌<◌, ◌≤◌, List, [], ◌∷◌, ◌++◌, map, length, append_assoc, arith}
use Rattle.std.specs.Prelude.{codes, slice_get}
use Rattle.av_bits.specs.declared.types.BinOp.TheVariants.{Addi}
use Rattle.av_ir.specs.declared.ty.Ty.{Ty}
use Rattle.av_ir.specs.declared.module.Const.TheVariants.{Splat}
use Rattle.av_ir.specs.declared.module.OpKind.{OpKind}
use Rattle.av_ir.specs.declared.module.OpKind.TheVariants.{ArithConstant, ArithBinary, AffineYield, AffineLoad, AffineStore}
use Rattle.av_ir.specs.declared.module.Marks.{Marks}
use Rattle.av_tree.specs.declared.attribute.Attr.TheVariants as attr
use Rattle.av_tree.specs.declared.attribute.Named.{Named}
use Rattle.av_tree.specs.declared.node.Node.{Node}
use Rattle.av_totree.specs.Names.{Naming, written_type, with_results}
use Rattle.av_totree.specs.Kinds.{kind_name}
use Rattle.av_totree.specs.Properties.{properties_of, marks_of, typed_value}
use Rattle.av_totree.specs.Properties as properties
use Rattle.av_totree.specs.Trees.{Made, Making, in_turn, node_of}
use Rattle.av_program_laws.specs.Programs.{Subscript, fixed, variable, plus, minus, Line, constant, sum, load, store}
use Rattle.av_program_laws.specs.Walks.{Place, element, type_at, next, passed, with_result, after_line, after_lines}
use Rattle.av_program_laws.specs.Modules.{value, op, no_marks, access_mark, subscript_values, line_op, line_ops}
use Rattle.av_program_laws.specs.Modules as modules
use Rattle.av_program_laws.specs.WrittenTrees.{node, entry, constant_attr, map_entry, subscript_map, next_name, constant_node, end_node, line_node, line_nodes}
use Rattle.av_program_laws.specs.Sound.{IsSoundLine, AreSoundLines, visible_after}
use Rattle.av_program_laws.proofs.Ahead.{naming_at, IsNamed, AreBefore, next_there, result_type, result_named, passed_named, IsNamed-result, IsNamed-passed, types-result, types-passed, next-result, next-passed}
use Rattle.av_program_laws.proofs.MadeOps.{subscript_text, made_plain, flat_is}

-- ---- an operation with a result, and one without
module _ (T rest : List Ty) (number : ℕ) (kind : OpKind) (operands : List ℕ) (marks : Marks) (place : Place) (named : IsNamed place)
    (before : AreBefore place operands) where
  pub made_result : (ty : Ty) (properties : List Named) → T ≡ place.types ++ ty ∷ rest
      → properties_of T kind (length (map value operands)) (value (next place) ∷ []) ≡ properties
      → node_of T (op number kind operands (next place ∷ []) [] marks) (naming_at (ty ∷ rest) place)
      ≡ record {
        made = node (kind_name kind) place operands (next_name place) (ty ∷ []) properties (marks_of marks) [];
        naming = naming_at rest (with_result ty place);
      }
  made_result ty properties is same =
      made_plain T number kind operands (next place ∷ []) marks (naming_at (ty ∷ rest) place)
      ∙ ap (λ (made : Node). record { made = made; naming = with_results (value (next place) ∷ []) (naming_at (ty ∷ rest) place) })
      (flat_is T (ty ∷ rest) number kind operands (next place ∷ []) marks place is named before (ty ∷ []) properties []
      (ap (λ o. o ∷ []) (ap (λ t. written_type t (value (next place))) is ∙ result_type ty rest place)) same)
      ∙ ap (λ naming. record {
        made = node (kind_name kind) place operands (next_name place) (ty ∷ []) properties (marks_of marks) [];
        naming = naming;
      }) (result_named ty rest place named)

  pub made_without : (properties : List Named) → T ≡ place.types ++ rest
      → properties_of T kind (length (map value operands)) [] ≡ properties
      → node_of T (op number kind operands [] [] marks) (naming_at rest place)
      ≡ record { made = node (kind_name kind) place operands [] [] properties (marks_of marks) []; naming = naming_at rest (passed place) }
  made_without properties is same =
      made_plain T number kind operands [] marks (naming_at rest place)
      ∙ ap (λ (made : Node). record { made = made; naming = naming_at rest place })
      (flat_is T rest number kind operands [] marks place is named before [] properties [] refl same)
      ∙ ap (λ naming. record { made = node (kind_name kind) place operands [] [] properties (marks_of marks) []; naming = naming })
      (passed_named rest place)

-- ---- constants and ends
pub made_constant : (T rest : List Ty) (pattern : ℕ) (place : Place) → IsNamed place → T ≡ place.types ++ element ∷ rest
    → node_of T (op place.number (ArithConstant (Splat pattern)) [] (next place ∷ []) [] no_marks) (naming_at (element ∷ rest) place)
    ≡ record { made = constant_node pattern place; naming = naming_at rest (with_result element place) }
unfolding constant_node
made_constant T rest pattern place named is =
    made_result T rest place.number (ArithConstant (Splat pattern)) [] no_marks place named tt element
    (entry (codes "value") (constant_attr pattern) ∷ []) is
    (ap (typed_value (Splat pattern)) (ap (λ t. slice_get t (next place)) is ∙ next_there element rest place))

pub made_end : (T rest : List Ty) (kind : OpKind) (place : Place) → IsNamed place → T ≡ place.types ++ rest
    → properties_of T kind 0 [] ≡ []
    → node_of T (op place.number kind [] [] [] no_marks) (naming_at rest place)
    ≡ record { made = end_node (kind_name kind) place; naming = naming_at rest place }
unfolding end_node
made_end T rest kind place named is same =
    made_without T rest place.number kind [] no_marks place named tt [] is same
    ∙ ap (λ naming. record { made = node (kind_name kind) place [] [] [] [] [] []; naming = naming }) (sym (passed_named rest place))

-- ---- lines
-- the types of the values that lines add
abbrev pub line_types : Line → Place → List Ty
line_types (constant pattern) place = element ∷ []
line_types (sum left right) place = type_at place left ∷ []
line_types (load from at) place = element ∷ []
line_types (store stored into at) place = []

abbrev pub lines_types : List Line → Place → List Ty
lines_types [] place = []
lines_types (line ∷ lines) place = line_types line place ++ lines_types lines (after_line line place)

before_subscript : (counter : ℕ) (at : Subscript) (place : Place) → counter < next place → AreBefore place (subscript_values counter at)
before_subscript counter (fixed z) place lt = tt
before_subscript counter variable place lt = (lt, tt)
before_subscript counter (plus z) place lt = (lt, tt)
before_subscript counter (minus z) place lt = (lt, tt)

map_is : (at : Subscript) → properties.map_entry (codes "map") (modules.subscript_map at) ∷ [] ≡ map_entry (codes "map") (subscript_map at) ∷ []
map_is at = ap (λ m. entry (codes "map") (attr.Map m) ∷ []) (subscript_text at)

pub made_line : (T rest : List Ty) (counter : ℕ) (line : Line) (place : Place) (visible : List ℕ) → IsNamed place → counter < next place
    → IsSoundLine visible place line → T ≡ place.types ++ (line_types line place ++ rest)
    → node_of T (line_op counter line place) (naming_at (line_types line place ++ rest) place)
    ≡ record { made = line_node counter line place; naming = naming_at rest (after_line line place) }
unfolding line_op line_node after_line IsSoundLine
made_line T rest counter (constant pattern) place visible named lt sound is = made_constant T rest pattern place named is
made_line T rest counter (sum left right) place visible named lt sound is =
    made_result T rest place.number (ArithBinary Addi) (left ∷ right ∷ []) no_marks place named (sound.1.1, (sound.2.1, tt))
    (type_at place left) [] is refl
made_line T rest counter (load from at) place visible named lt sound is =
    made_result T rest place.number (AffineLoad (modules.subscript_map at)) (from ∷ subscript_values counter at) (access_mark place.number) place named
    (sound.0.1.1, before_subscript counter at place lt) element (map_entry (codes "map") (subscript_map at) ∷ []) is (map_is at)
made_line T rest counter (store stored into at) place visible named lt sound is =
    made_without T rest place.number (AffineStore (modules.subscript_map at)) (stored ∷ into ∷ subscript_values counter at) (access_mark place.number)
    place named (sound.0.1, (sound.1.1.1, before_subscript counter at place lt)) (map_entry (codes "map") (subscript_map at) ∷ []) is (map_is at)

pub IsNamed-line : (line : Line) (place : Place) → IsNamed place → IsNamed (after_line line place)
unfolding after_line
IsNamed-line (constant pattern) place named = IsNamed-result element place named
IsNamed-line (sum left right) place named = IsNamed-result (type_at place left) place named
IsNamed-line (load from at) place named = IsNamed-result element place named
IsNamed-line (store stored into at) place named = IsNamed-passed place named

pub types-line : (rest : List Ty) (line : Line) (place : Place) → place.types ++ (line_types line place ++ rest) ≡ (after_line line place).types ++ rest
unfolding after_line
types-line rest (constant pattern) place = types-result element rest place
types-line rest (sum left right) place = types-result (type_at place left) rest place
types-line rest (load from at) place = types-result element rest place
types-line rest (store stored into at) place = types-passed rest place

next-line : (line : Line) (place : Place) → next place ≤ next (after_line line place)
unfolding after_line
next-line (constant pattern) place = omega (arith, next-result element place)
next-line (sum left right) place = omega (arith, next-result (type_at place left) place)
next-line (load from at) place = omega (arith, next-result element place)
next-line (store stored into at) place = omega (arith, next-passed place)

-- one part, and the others
pub made_first : {A B : Type 0} (f : A → Making B) (x : A) (xs : List A) (naming behind last : Naming) (first : B) (others : List B)
    → f x naming ≡ record { made = first; naming = behind }
    → in_turn (map f xs) behind ≡ record { made = others; naming = last }
    → in_turn (map f (x ∷ xs)) naming ≡ record { made = first ∷ others; naming = last }
unfolding in_turn
made_first {A} {B} f x xs naming behind last first others one more =
    ap (λ (made : Made B). record { made = made.made ∷ (in_turn (map f xs) made.naming).made; naming = (in_turn (map f xs) made.naming).naming }) one
    ∙ ap (λ (made : Made (List B)). record { made = first ∷ made.made; naming = made.naming }) more

pub made_none : {A B : Type 0} (f : A → Making B) (naming : Naming) → in_turn (map f []) naming ≡ record { made = []; naming = naming }
unfolding in_turn
made_none f naming = refl

pub made_lines : (T rest : List Ty) (counter : ℕ) (lines : List Line) (place : Place) (visible : List ℕ) → IsNamed place → counter < next place
    → AreSoundLines visible place lines → T ≡ place.types ++ (lines_types lines place ++ rest)
    → in_turn (map (node_of T) (line_ops counter lines place)) (naming_at (lines_types lines place ++ rest) place)
    ≡ record { made = line_nodes counter lines place; naming = naming_at rest (after_lines lines place) }
unfolding line_ops line_nodes after_lines AreSoundLines
made_lines T rest counter [] place visible named lt sound is =
    made_first (node_of T) (op place.number AffineYield [] [] [] no_marks) [] (naming_at rest place) (naming_at rest place) (naming_at rest place)
    (end_node (codes "affine.yield") place) [] (made_end T rest AffineYield place named is refl) (made_none (node_of T) (naming_at rest place))
made_lines T rest counter (line ∷ lines) place visible named lt sound is =
    let more = lines_types lines (after_line line place) ++ rest in
    let regroup = append_assoc (line_types line place) (lines_types lines (after_line line place)) rest in
    let here : T ≡ place.types ++ (line_types line place ++ more) = is ∙ ap (λ types. place.types ++ types) regroup in
    let behind : T ≡ (after_line line place).types ++ more = here ∙ types-line more line place in
    let below : counter < next (after_line line place) = omega (arith, next-line line place) in
    ap (λ types. in_turn (map (node_of T) (line_ops counter (line ∷ lines) place)) (naming_at types place)) regroup
    ∙ made_first (node_of T) (line_op counter line place) (line_ops counter lines (after_line line place))
    (naming_at (line_types line place ++ more) place) (naming_at more (after_line line place)) (naming_at rest (after_lines lines (after_line line place)))
    (line_node counter line place) (line_nodes counter lines (after_line line place))
    (made_line T more counter line place visible named lt sound.0 here)
    (made_lines T rest counter lines (after_line line place) (visible_after line place visible) (IsNamed-line line place named) below sound.1 behind)

pub IsNamed-lines : (lines : List Line) (place : Place) → IsNamed place → IsNamed (after_lines lines place)
unfolding after_lines
IsNamed-lines [] place named = named
IsNamed-lines (line ∷ lines) place named = IsNamed-lines lines (after_line line place) (IsNamed-line line place named)

pub types-lines : (rest : List Ty) (lines : List Line) (place : Place)
    → place.types ++ (lines_types lines place ++ rest) ≡ (after_lines lines place).types ++ rest
unfolding after_lines
types-lines rest [] place = refl
types-lines rest (line ∷ lines) place =
    ap (λ types. place.types ++ types) (append_assoc (line_types line place) (lines_types lines (after_line line place)) rest)
    ∙ types-line (lines_types lines (after_line line place) ++ rest) line place
    ∙ types-lines rest lines (after_line line place)
