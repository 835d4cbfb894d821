-- What rows make doesn't depend on places, nor on what lies under the values.
use Rattle.std.proofs.Common.{◌≡◌, ℕ, List, [], ◌∷◌, ◌++◌, map, reverse, refl, ap, ◌∙◌}
use Rattle.std.proofs.lemmas.List.{map-append}
use Rattle.std.specs.Prelude.{Some, option_map}
use Rattle.av_tree.specs.declared.node.Node.{Node}
use Rattle.av_tree.specs.declared.node.Body.{Body, roll-Body}
use Rattle.av_tree.specs.declared.table.Rule.{Rule}
use Rattle.av_tree.specs.declared.table.Rule.TheVariants as rule
use Rattle.av_tree.specs.declared.table.file.FileRule.{FileRule}
use Rattle.av_tree.specs.declared.table.file.FileRule.TheVariants as file
use Rattle.av_tree.specs.declared.table.functions.FunctionRule.{FunctionRule}
use Rattle.av_tree.specs.declared.table.functions.FunctionRule.TheVariants as functions
use Rattle.av_tree.specs.declared.table.regions.RegionRule.{RegionRule}
use Rattle.av_tree.specs.declared.table.regions.RegionRule.TheVariants as regions
use Rattle.av_tree.specs.declared.table.generic.GenericRule.{GenericRule}
use Rattle.av_tree.specs.declared.table.generic.GenericRule.TheVariants as generics
use Rattle.av_tree.specs.declared.table.types.TypeRule.{TypeRule}
use Rattle.av_tree.specs.declared.table.types.TypeRule.TheVariants as types
use Rattle.av_tree.specs.declared.table.attributes.AttributeRule.{AttributeRule}
use Rattle.av_tree.specs.declared.table.attributes.AttributeRule.TheVariants as attributes
use Rattle.av_tree.specs.declared.table.maps.MapRule.{MapRule}
use Rattle.av_tree.specs.declared.table.maps.MapRule.TheVariants as maps
use Rattle.av_tree.specs.declared.table.values.ValueRule.{ValueRule}
use Rattle.av_tree.specs.declared.table.values.ValueRule.TheVariants as values
use Rattle.av_tree.specs.declared.table.arith.ArithRule.{ArithRule}
use Rattle.av_tree.specs.declared.table.arith.ArithRule.TheVariants as ariths
use Rattle.av_tree.specs.declared.table.affine.AffineRule.{AffineRule}
use Rattle.av_tree.specs.declared.table.affine.AffineRule.TheVariants as affines
use Rattle.av_tree.specs.declared.table.subscripts.SubscriptRule.{SubscriptRule}
use Rattle.av_tree.specs.declared.table.subscripts.SubscriptRule.TheVariants as subscripts
use Rattle.av_tree.specs.rows.FileRows as file_rows
use Rattle.av_tree.specs.rows.FunctionRows as function_rows
use Rattle.av_tree.specs.rows.RegionRows as region_rows
use Rattle.av_tree.specs.rows.GenericRows as generic_rows
use Rattle.av_tree.specs.rows.TypeRows as type_rows
use Rattle.av_tree.specs.rows.AttributeRows as attribute_rows
use Rattle.av_tree.specs.rows.MapRows as map_rows
use Rattle.av_tree.specs.rows.ValueRows as value_rows
use Rattle.av_tree.specs.rows.ArithRows as arith_rows
use Rattle.av_tree.specs.rows.AffineRows as affine_rows
use Rattle.av_tree.specs.rows.SubscriptRows as subscript_rows
use Rattle.av_blocks.specs.rows.FileRows as making_files
use Rattle.av_blocks.specs.rows.FunctionRows as making_functions
use Rattle.av_blocks.specs.rows.RegionRows as making_regions
use Rattle.av_blocks.specs.rows.GenericRows as making_generics
use Rattle.av_parts.specs.rows.TypeRows as making_types
use Rattle.av_parts.specs.rows.AttributeRows as making_attributes
use Rattle.av_parts.specs.rows.MapRows as making_maps
use Rattle.av_parts.specs.rows.ValueRows as making_values
use Rattle.av_operations.specs.rows.ArithRows as making_ariths
use Rattle.av_operations.specs.rows.AffineRows as making_affines
use Rattle.av_parts.specs.rows.SubscriptRows as making_subscripts
use Rattle.av_values.specs.declared.value.Value.{Value}
use Rattle.av_values.specs.Forms.{completed}
use Rattle.av_values.specs.Operations.{named, no_values}
use Rattle.av_values.specs.Spellings.{unquoted}
use Rattle.av_values.specs.Sorts.{All, sort_of, sorts_of}
use Rattle.av_reader.specs.Building.{by_row}
use Rattle.av_read_laws.specs.Places.{unplaced_body, unplaced_node}
use Rattle.av_read_laws.proofs.Nodes.{map-reverse, unplaced-body, named-unplaced, root-unplaced, module-unplaced, function-unplaced, terminator-unplaced}
use Rattle.av_read_laws.proofs.Forms.{completed-unplaced, generic-unplaced}
use Rattle.av_read_laws.proofs.Gifts.{operation-unplaced}
use Rattle.av_read_laws.proofs.Values.{unplaced_value, unplaced_of, unplaced_all, replaced-under, replaced-unplaced}

-- the operations after one, and it
last-unplaced : (others : List Node) (node later : Node) → unplaced_node node ≡ later
    → map unplaced_node (others ++ node ∷ []) ≡ map unplaced_node others ++ later ∷ []
last-unplaced others node later e = map-append unplaced_node others (node ∷ []) ∙ ap (λ (n : Node). map unplaced_node others ++ n ∷ []) e

made-file : (r : FileRule) (place : ℕ) (parts : All (sorts_of (file_rows.symbols_of r)))
    → unplaced_of (sort_of (file_rows.name_of r)) (making_files.made r place parts) ≡ making_files.made r 0 (unplaced_all (sorts_of (file_rows.symbols_of r)) parts)
made-file file.WholeFile place (aliases, (nodes, _)) = ap (λ (root : Node). record { aliases = reverse aliases; root = root }) (root-unplaced nodes)
made-file file.NamedContent place (results, (first, _)) =
    last-unplaced first.others (named first.node (reverse results) place) (named (unplaced_node first.node) (reverse results) 0) (named-unplaced first.node (reverse results) place)
made-file file.PlainContent place (first, _) = last-unplaced first.others first.node (unplaced_node first.node) refl
made-file file.NextNamedFunction place (results, (node, (others, _))) =
    last-unplaced others (named node (reverse results) place) (named (unplaced_node node) (reverse results) 0) (named-unplaced node (reverse results) place)
made-file file.NextFunction place (node, (others, _)) = last-unplaced others node (unplaced_node node) refl
made-file file.OnlyGenericModule place (string, (parts, _)) =
    ap (λ (n : Node). record { node = n; others = [] }) (generic-unplaced (unquoted string) parts place)
made-file file.GenericFunction place (string, (parts, _)) = generic-unplaced (unquoted string) parts place
made-file r place parts = refl

made-function : (r : FunctionRule) (place : ℕ) (parts : All (sorts_of (function_rows.symbols_of r)))
    → unplaced_of (sort_of (function_rows.name_of r)) (making_functions.made r place parts) ≡ making_functions.made r 0 (unplaced_all (sorts_of (function_rows.symbols_of r)) parts)
made-function functions.BuiltinModule place (properties, (attrs, (nodes, _))) = module-unplaced (reverse properties) (reverse attrs) nodes place
made-function functions.FuncFunc place (properties, (symbol, (args, (results, (attrs, (nodes, _)))))) = function-unplaced properties symbol args results attrs nodes place
made-function r place parts = refl

made-region : (r : RegionRule) (place : ℕ) (parts : All (sorts_of (region_rows.symbols_of r)))
    → unplaced_of (sort_of (region_rows.name_of r)) (making_regions.made r place parts) ≡ making_regions.made r 0 (unplaced_all (sorts_of (region_rows.symbols_of r)) parts)
made-region regions.WithResults place (results, (first, _)) =
    last-unplaced first.others (named first.node (reverse results) place) (named (unplaced_node first.node) (reverse results) 0) (named-unplaced first.node (reverse results) place)
made-region regions.WithoutResults place (first, _) =
    last-unplaced first.others (completed first.node) (completed (unplaced_node first.node)) (completed-unplaced first.node)
made-region regions.TerminatorOperation place (word, (rest, _)) =
    ap (λ (n : Node). record { node = n; others = map unplaced_node rest.nodes }) (terminator-unplaced word rest.values place)
made-region regions.TerminatorThenOperation place (first, _) =
    ap (λ (ns : List Node). record { values = no_values; nodes = ns })
    (last-unplaced first.others (completed first.node) (completed (unplaced_node first.node)) (completed-unplaced first.node))
made-region r place parts = refl

made-generic : (r : GenericRule) (place : ℕ) (parts : All (sorts_of (generic_rows.symbols_of r)))
    → unplaced_of (sort_of (generic_rows.name_of r)) (making_generics.made r place parts) ≡ making_generics.made r 0 (unplaced_all (sorts_of (generic_rows.symbols_of r)) parts)
made-generic generics.GenericForm place (string, (parts, _)) = generic-unplaced (unquoted string) parts place
made-generic generics.WholeGeneric place (operands, (properties, (regions, (attrs, (ins, (outs, _)))))) =
    ap (λ (bodies : List Body). record {
      operands = reverse operands;
      properties = reverse properties;
      regions = bodies;
      attrs = reverse attrs;
      in_types = reverse ins;
      out_types = reverse outs;
    }) (map-reverse unplaced_body regions)
made-generic generics.WrittenRegions place (body, (others, _)) = map-append unplaced_body others (body ∷ [])
made-generic generics.NextRegion place (body, (others, _)) = map-append unplaced_body others (body ∷ [])
made-generic generics.LabelledRegion place (args, (nodes, _)) =
    unplaced-body (reverse args) (reverse nodes)
    ∙ ap (λ (ns : List Node). roll-Body (record { args = reverse args; nodes = ns })) (map-reverse unplaced_node nodes)
made-generic r place parts = refl

made-arith : (r : ArithRule) (place : ℕ) (parts : All (sorts_of (arith_rows.symbols_of r)))
    → unplaced_of (sort_of (arith_rows.name_of r)) (making_ariths.made r place parts) ≡ making_ariths.made r 0 (unplaced_all (sorts_of (arith_rows.symbols_of r)) parts)
made-arith ariths.BoolConstant place parts = refl
made-arith r place parts = refl

made-type : (r : TypeRule) (parts : All (sorts_of (type_rows.symbols_of r)))
    → unplaced_of (sort_of (type_rows.name_of r)) (making_types.made r parts) ≡ making_types.made r (unplaced_all (sorts_of (type_rows.symbols_of r)) parts)
made-type types.ScalarType parts = refl
made-type r parts = refl

made-attribute : (r : AttributeRule) (parts : All (sorts_of (attribute_rows.symbols_of r)))
    → unplaced_of (sort_of (attribute_rows.name_of r)) (making_attributes.made r parts) ≡ making_attributes.made r (unplaced_all (sorts_of (attribute_rows.symbols_of r)) parts)
made-attribute attributes.NumberAttribute parts = refl
made-attribute r parts = refl

made-map : (r : MapRule) (parts : All (sorts_of (map_rows.symbols_of r)))
    → unplaced_of (sort_of (map_rows.name_of r)) (making_maps.made r parts) ≡ making_maps.made r (unplaced_all (sorts_of (map_rows.symbols_of r)) parts)
made-map maps.WrittenMap parts = refl
made-map r parts = refl

made-value : (r : ValueRule) (parts : All (sorts_of (value_rows.symbols_of r)))
    → unplaced_of (sort_of (value_rows.name_of r)) (making_values.made r parts) ≡ making_values.made r (unplaced_all (sorts_of (value_rows.symbols_of r)) parts)
made-value values.NamedValue parts = refl
made-value r parts = refl

made-subscript : (r : SubscriptRule) (parts : All (sorts_of (subscript_rows.symbols_of r)))
    → unplaced_of (sort_of (subscript_rows.name_of r)) (making_subscripts.made r parts) ≡ making_subscripts.made r (unplaced_all (sorts_of (subscript_rows.symbols_of r)) parts)
made-subscript subscripts.NoSubscripts parts = refl
made-subscript r parts = refl

made-affine : (r : AffineRule) (place : ℕ) (parts : All (sorts_of (affine_rows.symbols_of r)))
    → unplaced_of (sort_of (affine_rows.name_of r)) (making_affines.made r place parts) ≡ making_affines.made r 0 (unplaced_all (sorts_of (affine_rows.symbols_of r)) parts)
made-affine affines.GreatestOf place parts = refl
made-affine r place parts = refl

-- a row does without places what it does with them
pub row-unplaced : (r : Rule) (place : ℕ) (stack : List Value) → option_map (map unplaced_value) (by_row r place stack) ≡ by_row r 0 (map unplaced_value stack)
row-unplaced (rule.File r) place stack = replaced-unplaced _ _ _ _ stack (λ parts. ap Some (made-file r place parts))
row-unplaced (rule.Function r) place stack = replaced-unplaced _ _ _ _ stack (λ parts. ap Some (made-function r place parts))
row-unplaced (rule.Region r) place stack = replaced-unplaced _ _ _ _ stack (λ parts. ap Some (made-region r place parts))
row-unplaced (rule.Generic r) place stack = replaced-unplaced _ _ _ _ stack (λ parts. ap Some (made-generic r place parts))
row-unplaced (rule.Type r) place stack = replaced-unplaced _ _ _ _ stack (λ parts. ap Some (made-type r parts))
row-unplaced (rule.Attribute r) place stack = replaced-unplaced _ _ _ _ stack (λ parts. ap Some (made-attribute r parts))
row-unplaced (rule.Map r) place stack = replaced-unplaced _ _ _ _ stack (λ parts. ap Some (made-map r parts))
row-unplaced (rule.Value r) place stack = replaced-unplaced _ _ _ _ stack (λ parts. ap Some (made-value r parts))
row-unplaced (rule.Arith r) place stack = replaced-unplaced _ _ _ _ stack (λ parts. ap Some (made-arith r place parts))
row-unplaced (rule.Affine r) place stack = replaced-unplaced _ _ _ _ stack (λ parts. ap Some (made-affine r place parts))
row-unplaced (rule.Subscript r) place stack = replaced-unplaced _ _ _ _ stack (λ parts. ap Some (made-subscript r parts))
row-unplaced (rule.Operation number) place stack = replaced-unplaced _ _ _ _ stack (λ parts. ap Some (operation-unplaced number place parts))

-- and the same where more lies under the values
pub row-under : (r : Rule) (place : ℕ) (stack under out : List Value) → by_row r place stack ≡ Some out → by_row r place (stack ++ under) ≡ Some (out ++ under)
row-under (rule.File r) place stack under out e = replaced-under _ _ _ stack under out e
row-under (rule.Function r) place stack under out e = replaced-under _ _ _ stack under out e
row-under (rule.Region r) place stack under out e = replaced-under _ _ _ stack under out e
row-under (rule.Generic r) place stack under out e = replaced-under _ _ _ stack under out e
row-under (rule.Type r) place stack under out e = replaced-under _ _ _ stack under out e
row-under (rule.Attribute r) place stack under out e = replaced-under _ _ _ stack under out e
row-under (rule.Map r) place stack under out e = replaced-under _ _ _ stack under out e
row-under (rule.Value r) place stack under out e = replaced-under _ _ _ stack under out e
row-under (rule.Arith r) place stack under out e = replaced-under _ _ _ stack under out e
row-under (rule.Affine r) place stack under out e = replaced-under _ _ _ stack under out e
row-under (rule.Subscript r) place stack under out e = replaced-under _ _ _ stack under out e
row-under (rule.Operation number) place stack under out e = replaced-under _ _ _ stack under out e
