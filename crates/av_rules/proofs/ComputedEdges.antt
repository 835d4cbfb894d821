-- Trees at the edges of limits are taken and refused as is said.
use Rattle.std.proofs.Common.{refl}
use Rattle.av_affine.specs.Finding.{bound_found}
use Rattle.av_affine.specs.Limits.{has_parameter, node_count}
use Rattle.av_affine.specs.Values.{value_of}
use Rattle.av_affine_laws.specs.Normalised.{parameters}
use Rattle.av_tree.specs.declared.written.ExprText.TheBlock.{shape-the_row-ExprText-0, hidden-the_row-ExprText-0}
use Rattle.av_affine.specs.declared.expression.Expr.TheBlock.{shape-the_row-Expr-0, hidden-the_row-Expr-0}
use denote.Hole.Carrier.{hidden}
use Rattle.av_maps.specs.Asked.{has_own}
use Rattle.av_maps.specs.Written.{expr_of}
use Rattle.av_dialects.specs.Rows.{kinds, predicates}
use Rattle.av_signatures.specs.Rows.{dropped, dropped_of_functions}
use Rattle.av_rules.specs.Agreement.{types_in, types_in_items, types_in_entries}
use Rattle.av_rules.specs.Constants.{nest_of, nests_of}
use Rattle.av_rules.specs.EdgeExamples.{EdgeExamples, Nesting, Sizes, Operations, Symbols, Aliases, Twice, Order, Truths, Functions, Counted}
use Rattle.av_rules.specs.Rows.{is_of_scalar_mode, rows}
use Rattle.av_rules.specs.Sites.{operations_in, operations_in_bodies, operations_within, operations_in_nodes, sites_from}
use Rattle.av_rules.specs.Views.{fields, bodies_in, inside, nodes_in, function_in, types_listed}

nesting : Nesting
unfolding rows is_of_scalar_mode dropped dropped_of_functions kinds predicates fields bodies_in inside nodes_in function_in types_listed operations_in operations_in_bodies operations_within operations_in_nodes sites_from types_in types_in_items types_in_entries nest_of nests_of has_own expr_of bound_found has_parameter node_count value_of parameters shape-the_row-ExprText-0 hidden-the_row-ExprText-0 shape-the_row-Expr-0 hidden-the_row-Expr-0 hidden
nesting = (refl, refl, refl, refl)

sizes : Sizes
unfolding rows is_of_scalar_mode dropped dropped_of_functions kinds predicates fields bodies_in inside nodes_in function_in types_listed operations_in operations_in_bodies operations_within operations_in_nodes sites_from types_in types_in_items types_in_entries nest_of nests_of has_own expr_of bound_found has_parameter node_count value_of parameters shape-the_row-ExprText-0 hidden-the_row-ExprText-0 shape-the_row-Expr-0 hidden-the_row-Expr-0 hidden
sizes = (refl, refl, refl, refl)

operations : Operations
unfolding rows is_of_scalar_mode dropped dropped_of_functions kinds predicates fields bodies_in inside nodes_in function_in types_listed operations_in operations_in_bodies operations_within operations_in_nodes sites_from types_in types_in_items types_in_entries nest_of nests_of has_own expr_of bound_found has_parameter node_count value_of parameters shape-the_row-ExprText-0 hidden-the_row-ExprText-0 shape-the_row-Expr-0 hidden-the_row-Expr-0 hidden
operations = (refl, refl)

symbols : Symbols
unfolding rows is_of_scalar_mode dropped dropped_of_functions kinds predicates fields bodies_in inside nodes_in function_in types_listed operations_in operations_in_bodies operations_within operations_in_nodes sites_from types_in types_in_items types_in_entries nest_of nests_of has_own expr_of bound_found has_parameter node_count value_of parameters shape-the_row-ExprText-0 hidden-the_row-ExprText-0 shape-the_row-Expr-0 hidden-the_row-Expr-0 hidden
symbols = (refl, refl, refl, refl, refl)

aliases : Aliases
unfolding rows is_of_scalar_mode dropped dropped_of_functions kinds predicates fields bodies_in inside nodes_in function_in types_listed operations_in operations_in_bodies operations_within operations_in_nodes sites_from types_in types_in_items types_in_entries nest_of nests_of has_own expr_of bound_found has_parameter node_count value_of parameters shape-the_row-ExprText-0 hidden-the_row-ExprText-0 shape-the_row-Expr-0 hidden-the_row-Expr-0 hidden
aliases = (refl, refl, refl, refl)

twice : Twice
unfolding rows is_of_scalar_mode dropped dropped_of_functions kinds predicates fields bodies_in inside nodes_in function_in types_listed operations_in operations_in_bodies operations_within operations_in_nodes sites_from types_in types_in_items types_in_entries nest_of nests_of has_own expr_of bound_found has_parameter node_count value_of parameters shape-the_row-ExprText-0 hidden-the_row-ExprText-0 shape-the_row-Expr-0 hidden-the_row-Expr-0 hidden
twice = (refl, refl, refl)

order : Order
unfolding rows is_of_scalar_mode dropped dropped_of_functions kinds predicates fields bodies_in inside nodes_in function_in types_listed operations_in operations_in_bodies operations_within operations_in_nodes sites_from types_in types_in_items types_in_entries nest_of nests_of has_own expr_of bound_found has_parameter node_count value_of parameters shape-the_row-ExprText-0 hidden-the_row-ExprText-0 shape-the_row-Expr-0 hidden-the_row-Expr-0 hidden
order = (refl, refl, refl, refl)

truths : Truths
unfolding rows is_of_scalar_mode dropped dropped_of_functions kinds predicates fields bodies_in inside nodes_in function_in types_listed operations_in operations_in_bodies operations_within operations_in_nodes sites_from types_in types_in_items types_in_entries nest_of nests_of has_own expr_of bound_found has_parameter node_count value_of parameters shape-the_row-ExprText-0 hidden-the_row-ExprText-0 shape-the_row-Expr-0 hidden-the_row-Expr-0 hidden
truths = (refl, refl)

functions : Functions
unfolding rows is_of_scalar_mode dropped dropped_of_functions kinds predicates fields bodies_in inside nodes_in function_in types_listed operations_in operations_in_bodies operations_within operations_in_nodes sites_from types_in types_in_items types_in_entries nest_of nests_of has_own expr_of bound_found has_parameter node_count value_of parameters shape-the_row-ExprText-0 hidden-the_row-ExprText-0 shape-the_row-Expr-0 hidden-the_row-Expr-0 hidden
functions = (refl, refl)

counted : Counted
unfolding rows is_of_scalar_mode dropped dropped_of_functions kinds predicates fields bodies_in inside nodes_in function_in types_listed operations_in operations_in_bodies operations_within operations_in_nodes sites_from types_in types_in_items types_in_entries nest_of nests_of has_own expr_of bound_found has_parameter node_count value_of parameters shape-the_row-ExprText-0 hidden-the_row-ExprText-0 shape-the_row-Expr-0 hidden-the_row-Expr-0 hidden
counted = (refl, refl, refl)

pub edge-examples : EdgeExamples
edge-examples = (nesting, sizes, operations, symbols, aliases, twice, order, truths, functions, counted)
