-- The small trees are taken and refused as is said.
use Rattle.std.proofs.Common.{refl}
use Rattle.std.specs.Fmt.{digits}
use Rattle.av_affine.specs.Finding.{bound_found}
use Rattle.av_affine.specs.Limits.{has_parameter, node_count}
use Rattle.av_affine.specs.Values.{value_of}
use Rattle.av_affine_laws.specs.Normalised.{parameters}
use Rattle.av_tree.specs.declared.written.ExprText.TheBlock.{shape-the_row-ExprText-0, hidden-the_row-ExprText-0}
use Rattle.av_affine.specs.declared.expression.Expr.TheBlock.{shape-the_row-Expr-0, hidden-the_row-Expr-0}
use denote.Hole.Carrier.{hidden}
use Rattle.av_maps.specs.Asked.{has_own}
use Rattle.av_maps.specs.Written.{expr_of}
use Rattle.av_dialects.specs.Rows.{kinds, predicates}
use Rattle.av_signatures.specs.Rows.{dropped, dropped_of_functions}
use Rattle.av_rules.specs.Agreement.{types_in, types_in_items, types_in_entries}
use Rattle.av_rules.specs.Constants.{nest_of, nests_of}
use Rattle.av_rules.specs.Examples.{RuleExamples, Unknown, Counts, Names, Types, Properties, Maps, Steps, Regions, Constants, Expressions, Functions, Limits}
use Rattle.av_rules.specs.Rows.{is_of_scalar_mode, rows}
use Rattle.av_rules.specs.Sites.{operations_in, operations_in_bodies, operations_within, operations_in_nodes, sites_from}
use Rattle.av_rules.specs.Views.{fields, bodies_in, inside, nodes_in, function_in, types_listed}

unknown : Unknown
unfolding rows is_of_scalar_mode dropped dropped_of_functions kinds predicates fields bodies_in inside nodes_in function_in types_listed operations_in operations_in_bodies operations_within operations_in_nodes sites_from types_in types_in_items types_in_entries nest_of nests_of
unknown = (refl, refl)

counts : Counts
unfolding rows is_of_scalar_mode dropped dropped_of_functions kinds predicates fields bodies_in inside nodes_in function_in types_listed operations_in operations_in_bodies operations_within operations_in_nodes sites_from types_in types_in_items types_in_entries nest_of nests_of digits
counts = (refl, refl, refl, refl, refl)

names : Names
unfolding rows is_of_scalar_mode dropped dropped_of_functions kinds predicates fields bodies_in inside nodes_in function_in types_listed operations_in operations_in_bodies operations_within operations_in_nodes sites_from types_in types_in_items types_in_entries nest_of nests_of has_own expr_of bound_found has_parameter node_count value_of parameters shape-the_row-ExprText-0 hidden-the_row-ExprText-0 shape-the_row-Expr-0 hidden-the_row-Expr-0 hidden
names = (refl, refl, refl, refl)

types : Types
unfolding rows is_of_scalar_mode dropped dropped_of_functions kinds predicates fields bodies_in inside nodes_in function_in types_listed operations_in operations_in_bodies operations_within operations_in_nodes sites_from types_in types_in_items types_in_entries nest_of nests_of
types = (refl, refl, refl, refl)

properties : Properties
unfolding rows is_of_scalar_mode dropped dropped_of_functions kinds predicates fields bodies_in inside nodes_in function_in types_listed operations_in operations_in_bodies operations_within operations_in_nodes sites_from types_in types_in_items types_in_entries nest_of nests_of
properties = (refl, refl, refl, refl)

maps : Maps
unfolding rows is_of_scalar_mode dropped dropped_of_functions kinds predicates fields bodies_in inside nodes_in function_in types_listed operations_in operations_in_bodies operations_within operations_in_nodes sites_from types_in types_in_items types_in_entries nest_of nests_of has_own expr_of bound_found has_parameter node_count value_of parameters shape-the_row-ExprText-0 hidden-the_row-ExprText-0 shape-the_row-Expr-0 hidden-the_row-Expr-0 hidden
maps = (refl, refl, refl, refl)

steps : Steps
unfolding rows is_of_scalar_mode dropped dropped_of_functions kinds predicates fields bodies_in inside nodes_in function_in types_listed operations_in operations_in_bodies operations_within operations_in_nodes sites_from types_in types_in_items types_in_entries nest_of nests_of
steps = (refl, refl)

regions : Regions
unfolding rows is_of_scalar_mode dropped dropped_of_functions kinds predicates fields bodies_in inside nodes_in function_in types_listed operations_in operations_in_bodies operations_within operations_in_nodes sites_from types_in types_in_items types_in_entries nest_of nests_of
regions = (refl, refl, refl, refl)

constants : Constants
unfolding rows is_of_scalar_mode dropped dropped_of_functions kinds predicates fields bodies_in inside nodes_in function_in types_listed operations_in operations_in_bodies operations_within operations_in_nodes sites_from types_in types_in_items types_in_entries nest_of nests_of
constants = (refl, refl, refl)

expressions : Expressions
unfolding rows is_of_scalar_mode dropped dropped_of_functions kinds predicates fields bodies_in inside nodes_in function_in types_listed operations_in operations_in_bodies operations_within operations_in_nodes sites_from types_in types_in_items types_in_entries nest_of nests_of has_own expr_of bound_found has_parameter node_count value_of parameters shape-the_row-ExprText-0 hidden-the_row-ExprText-0 shape-the_row-Expr-0 hidden-the_row-Expr-0 hidden
expressions = (refl, refl, refl)

functions : Functions
unfolding rows is_of_scalar_mode dropped dropped_of_functions kinds predicates fields bodies_in inside nodes_in function_in types_listed operations_in operations_in_bodies operations_within operations_in_nodes sites_from types_in types_in_items types_in_entries nest_of nests_of
functions = (refl, refl)

limits : Limits
unfolding rows is_of_scalar_mode dropped dropped_of_functions kinds predicates fields bodies_in inside nodes_in function_in types_listed operations_in operations_in_bodies operations_within operations_in_nodes sites_from types_in types_in_items types_in_entries nest_of nests_of
limits = (refl, refl, refl, refl, refl)

pub rule-examples : RuleExamples
rule-examples = (unknown, counts, names, types, properties, maps, steps, regions, constants, expressions, functions, limits)
