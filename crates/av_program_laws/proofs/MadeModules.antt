-- The tree that is made of the module of a program.
use Rattle.std.proofs.Common.{◌≡◌, ap, sym, ◌∙◌, refl, ℕ, ◌+◌, List, [], ◌∷◌, ◌++◌, map, length, append-nil}
use Rattle.std.specs.Prelude.{codes}
use Rattle.std.specs.List.{range_with_len}
use Rattle.av_ir.specs.declared.ty.Ty.{Ty}
use Rattle.av_ir.specs.declared.module.Region.{Region-F, out-Region, out-roll-Region}
use Rattle.av_ir.specs.declared.module.Op.{Op}
use Rattle.av_ir.specs.declared.module.Region.{Region}
use Rattle.av_tree.specs.declared.node.Body.{Body, roll-Body}
use Rattle.av_totree.specs.Names.{argument_name, first_naming}
use Rattle.av_totree.specs.Properties.{function_properties_of}
use Rattle.av_totree.specs.Trees.{Made, in_turn, make_argument, argument_type, function_of, body_of, tree_of}
use Rattle.av_totree.specs.Trees as trees
use Rattle.av_totree.specs.Types.{type_of}
use Rattle.av_program_laws.specs.Programs.{Program}
use Rattle.av_program_laws.specs.Walks.{Place, buffer, next, with_argument, after_buffers, first_place, body_place, last_place}
use Rattle.av_program_laws.specs.Modules.{value, step_ops, func_of, module_of}
use Rattle.av_program_laws.specs.WrittenTrees.{argument, arguments, step_nodes, function_properties, outer_node, function_node, written_tree}
use Rattle.av_program_laws.specs.Sound.{IsSound}
use Rattle.av_program_laws.proofs.Ahead.{naming_at, IsNamed, type_of_argument, IsNamed-argument, types-argument, next-argument}
use Rattle.av_program_laws.proofs.MadeLines.{made_first, made_none}
use Rattle.av_program_laws.proofs.MadeSteps.{made_region, made_argument, steps_types, made_steps, types-steps}

-- ---- buffers
abbrev buffers : List ℕ → List Ty
buffers sizes = map buffer sizes

pub IsNamed-buffers : (sizes : List ℕ) (place : Place) → IsNamed place → IsNamed (after_buffers sizes place)
unfolding after_buffers
IsNamed-buffers [] place named = named
IsNamed-buffers (size ∷ sizes) place named =
    IsNamed-buffers sizes (with_argument (buffer size) place) (IsNamed-argument (buffer size) place named)

pub types-buffers : (rest : List Ty) (sizes : List ℕ) (place : Place) → place.types ++ (map buffer sizes ++ rest) ≡ (after_buffers sizes place).types ++ rest
unfolding after_buffers
types-buffers rest [] place = refl
types-buffers rest (size ∷ sizes) place =
    types-argument (buffer size) (map buffer sizes ++ rest) place ∙ types-buffers rest sizes (with_argument (buffer size) place)

arguments_behind : (size : ℕ) (place : Place) → (with_argument (buffer size) place).arguments ≡ place.arguments + 1
unfolding with_argument
arguments_behind size place = refl

pub made_buffers : (T rest : List Ty) (sizes : List ℕ) (place : Place) → IsNamed place → T ≡ place.types ++ (map buffer sizes ++ rest)
    → in_turn (map (make_argument T) (map value (range_with_len (next place) (length sizes)))) (naming_at (map buffer sizes ++ rest) place)
    ≡ record { made = arguments place.arguments sizes; naming = naming_at rest (after_buffers sizes place) }
unfolding arguments after_buffers
made_buffers T rest [] place named is = made_none (make_argument T) (naming_at rest place)
made_buffers T rest (size ∷ sizes) place named is =
    let behind : Place = with_argument (buffer size) place in
    let more : List Ty = map buffer sizes ++ rest in
    made_first (make_argument T) (value (next place)) (map value (range_with_len (next place + 1) (length sizes)))
    (naming_at (buffer size ∷ more) place) (naming_at more behind) (naming_at rest (after_buffers sizes behind))
    (argument (argument_name place.arguments) (buffer size)) (arguments (place.arguments + 1) sizes)
    (made_argument T more (buffer size) place named is)
    (ap (λ k. in_turn (map (make_argument T) (map value (range_with_len k (length sizes)))) (naming_at more behind)) (sym (next-argument (buffer size) place))
    ∙ made_buffers T rest sizes behind (IsNamed-argument (buffer size) place named) (is ∙ types-argument (buffer size) more place)
    ∙ ap (λ k. record { made = arguments k sizes; naming = naming_at rest (after_buffers sizes behind) }) (arguments_behind size place))

pub buffer_types : (T rest : List Ty) (sizes : List ℕ) (place : Place) → T ≡ place.types ++ (map buffer sizes ++ rest)
    → map (argument_type T) (map value (range_with_len (next place) (length sizes))) ≡ map (λ size. type_of (buffer size)) sizes
buffer_types T rest [] place is = refl
buffer_types T rest (size ∷ sizes) place is =
    let behind : Place = with_argument (buffer size) place in
    let more : List Ty = map buffer sizes ++ rest in
    ap (λ k. argument_type T (value (next place)) ∷ map (argument_type T) (map value (range_with_len k (length sizes)))) (sym (next-argument (buffer size) place))
    ∙ ap (λ types. argument_type T (value (next place)) ∷ types) (buffer_types T rest sizes behind (is ∙ types-argument (buffer size) more place))
    ∙ ap (λ type. type ∷ map (λ size. type_of (buffer size)) sizes) (ap (λ t. argument_type t (value (next place))) is ∙ type_of_argument (buffer size) more place)

-- ---- the function
module _ (p : Program) (sound : IsSound p) where
  abbrev T : List Ty
  T = (last_place p).types

  abbrev rest : List Ty
  rest = steps_types p.steps (body_place p) ++ []

  all_types : T ≡ map buffer p.sizes ++ rest
  all_types = sym (append-nil T) ∙ sym (types-steps [] p.steps (body_place p)) ∙ sym (types-buffers rest p.sizes first_place)

  abbrev layer : Region-F Op Region
  layer = record { args = map value (range_with_len 0 (length p.sizes)); ops = step_ops p.steps (body_place p) }

  body_made : body_of T (func_of p).body (first_naming T)
      ≡ record { made = roll-Body (record { args = arguments 0 p.sizes; nodes = step_nodes p.steps (body_place p) }); naming = naming_at [] (last_place p) }
  body_made =
      ap (λ t. body_of T (func_of p).body (first_naming t)) all_types
      ∙ made_region T (map value (range_with_len 0 (length p.sizes))) (step_ops p.steps (body_place p))
      (naming_at (map buffer p.sizes ++ rest) first_place) (naming_at rest (body_place p)) (naming_at [] (last_place p)) (arguments 0 p.sizes)
      (step_nodes p.steps (body_place p)) (made_buffers T rest p.sizes first_place refl all_types)
      (made_steps T [] p.steps (body_place p) (range_with_len 0 (length p.sizes)) (IsNamed-buffers p.sizes first_place refl) sound.steps
      (all_types ∙ types-buffers rest p.sizes first_place))

  inputs_are : map (argument_type T) (out-Region (func_of p).body).args ≡ map (λ size. type_of (buffer size)) p.sizes
  inputs_are =
      ap (λ (region : Region-F Op Region). map (argument_type T) region.args) (out-roll-Region layer) ∙ buffer_types T rest p.sizes first_place all_types

  function_made : function_of (func_of p) ≡ function_node p
  unfolding outer_node
  function_made =
      ap (λ inputs. trees.outer_node (codes "func.func") (function_properties_of p.name inputs []) []
      (body_of T (func_of p).body (first_naming T)).made) inputs_are
      ∙ ap (λ (made : Made Body). trees.outer_node (codes "func.func") (function_properties p) [] made.made) body_made

  pub tree_made : tree_of (module_of p) ≡ written_tree p
  unfolding outer_node
  tree_made = ap (λ node. record {
    aliases = [];
    root = trees.outer_node (codes "builtin.module") [] [] (roll-Body (record { args = []; nodes = node ∷ [] }));
  }) function_made
