-- The small trees with functions, choices and what ends their regions are taken and refused as is said.
use Rattle.std.proofs.Common.{refl}
use Rattle.av_affine.specs.Finding.{bound_found}
use Rattle.av_affine.specs.Limits.{has_parameter, node_count}
use Rattle.av_affine.specs.Values.{value_of}
use Rattle.av_affine_laws.specs.Normalised.{parameters}
use Rattle.av_tree.specs.declared.written.ExprText.TheBlock.{shape-the_row-ExprText-0, hidden-the_row-ExprText-0}
use Rattle.av_affine.specs.declared.expression.Expr.TheBlock.{shape-the_row-Expr-0, hidden-the_row-Expr-0}
use denote.Hole.Carrier.{hidden}
use Rattle.av_maps.specs.Asked.{has_own}
use Rattle.av_maps.specs.Written.{expr_of}
use Rattle.av_dialects.specs.Rows.{kinds, predicates}
use Rattle.av_signatures.specs.Rows.{dropped, dropped_of_functions}
use Rattle.av_rules.specs.Agreement.{types_in, types_in_items, types_in_entries}
use Rattle.av_rules.specs.Constants.{nest_of, nests_of}
use Rattle.av_rules.specs.RegionExamples.{RegionExamples, Modules, FunctionProperties, FunctionBodies, Returns, Branching, BranchEnds}
use Rattle.av_rules.specs.Rows.{is_of_scalar_mode, rows}
use Rattle.av_rules.specs.Sites.{operations_in, operations_in_bodies, operations_within, operations_in_nodes, sites_from}
use Rattle.av_rules.specs.Views.{fields, bodies_in, inside, nodes_in, function_in, types_listed}

modules : Modules
unfolding rows is_of_scalar_mode dropped dropped_of_functions kinds predicates fields bodies_in inside nodes_in function_in types_listed operations_in operations_in_bodies operations_within operations_in_nodes sites_from types_in types_in_items types_in_entries nest_of nests_of has_own expr_of bound_found has_parameter node_count value_of parameters shape-the_row-ExprText-0 hidden-the_row-ExprText-0 shape-the_row-Expr-0 hidden-the_row-Expr-0 hidden
modules = (refl, refl, refl, refl, refl, refl, refl, refl, refl, refl, refl)

function-properties : FunctionProperties
unfolding rows is_of_scalar_mode dropped dropped_of_functions kinds predicates fields bodies_in inside nodes_in function_in types_listed operations_in operations_in_bodies operations_within operations_in_nodes sites_from types_in types_in_items types_in_entries nest_of nests_of has_own expr_of bound_found has_parameter node_count value_of parameters shape-the_row-ExprText-0 hidden-the_row-ExprText-0 shape-the_row-Expr-0 hidden-the_row-Expr-0 hidden
function-properties = (refl, refl, refl, refl, refl, refl, refl)

function-bodies : FunctionBodies
unfolding rows is_of_scalar_mode dropped dropped_of_functions kinds predicates fields bodies_in inside nodes_in function_in types_listed operations_in operations_in_bodies operations_within operations_in_nodes sites_from types_in types_in_items types_in_entries nest_of nests_of has_own expr_of bound_found has_parameter node_count value_of parameters shape-the_row-ExprText-0 hidden-the_row-ExprText-0 shape-the_row-Expr-0 hidden-the_row-Expr-0 hidden
function-bodies = (refl, refl, refl, refl, refl, refl, refl)

returns : Returns
unfolding rows is_of_scalar_mode dropped dropped_of_functions kinds predicates fields bodies_in inside nodes_in function_in types_listed operations_in operations_in_bodies operations_within operations_in_nodes sites_from types_in types_in_items types_in_entries nest_of nests_of has_own expr_of bound_found has_parameter node_count value_of parameters shape-the_row-ExprText-0 hidden-the_row-ExprText-0 shape-the_row-Expr-0 hidden-the_row-Expr-0 hidden
returns = (refl, refl, refl, refl, refl, refl, refl)

branching : Branching
unfolding rows is_of_scalar_mode dropped dropped_of_functions kinds predicates fields bodies_in inside nodes_in function_in types_listed operations_in operations_in_bodies operations_within operations_in_nodes sites_from types_in types_in_items types_in_entries nest_of nests_of has_own expr_of bound_found has_parameter node_count value_of parameters shape-the_row-ExprText-0 hidden-the_row-ExprText-0 shape-the_row-Expr-0 hidden-the_row-Expr-0 hidden
branching = (refl, refl, refl, refl, refl, refl, refl, refl, refl, refl)

branch-ends : BranchEnds
unfolding rows is_of_scalar_mode dropped dropped_of_functions kinds predicates fields bodies_in inside nodes_in function_in types_listed operations_in operations_in_bodies operations_within operations_in_nodes sites_from types_in types_in_items types_in_entries nest_of nests_of has_own expr_of bound_found has_parameter node_count value_of parameters shape-the_row-ExprText-0 hidden-the_row-ExprText-0 shape-the_row-Expr-0 hidden-the_row-Expr-0 hidden
branch-ends = (refl, refl, refl, refl)

pub region-examples : RegionExamples
region-examples = (modules, function-properties, function-bodies, returns, branching, branch-ends)
