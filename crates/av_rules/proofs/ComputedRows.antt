-- The small trees with most operations are taken and refused as is said.
use Rattle.std.proofs.Common.{refl}
use Rattle.av_affine.specs.Finding.{bound_found}
use Rattle.av_affine.specs.Limits.{has_parameter, node_count}
use Rattle.av_affine.specs.Values.{value_of}
use Rattle.av_affine_laws.specs.Normalised.{parameters}
use Rattle.av_tree.specs.declared.written.ExprText.TheBlock.{shape-the_row-ExprText-0, hidden-the_row-ExprText-0}
use Rattle.av_affine.specs.declared.expression.Expr.TheBlock.{shape-the_row-Expr-0, hidden-the_row-Expr-0}
use denote.Hole.Carrier.{hidden}
use Rattle.av_maps.specs.Asked.{has_own}
use Rattle.av_maps.specs.Written.{expr_of}
use Rattle.av_dialects.specs.Rows.{kinds, predicates}
use Rattle.av_signatures.specs.Rows.{dropped, dropped_of_functions}
use Rattle.av_rules.specs.Agreement.{types_in, types_in_items, types_in_entries}
use Rattle.av_rules.specs.Constants.{nest_of, nests_of}
use Rattle.av_rules.specs.RowExamples.{RowExamples, Choices, Casts, Loops, Branches, Buffers, Lanes, Positions, Reductions, Elements, Marks}
use Rattle.av_rules.specs.Rows.{is_of_scalar_mode, rows}
use Rattle.av_rules.specs.Sites.{operations_in, operations_in_bodies, operations_within, operations_in_nodes, sites_from}
use Rattle.av_rules.specs.Views.{fields, bodies_in, inside, nodes_in, function_in, types_listed}

choices : Choices
unfolding rows is_of_scalar_mode dropped dropped_of_functions kinds predicates fields bodies_in inside nodes_in function_in types_listed operations_in operations_in_bodies operations_within operations_in_nodes sites_from types_in types_in_items types_in_entries nest_of nests_of has_own expr_of bound_found has_parameter node_count value_of parameters shape-the_row-ExprText-0 hidden-the_row-ExprText-0 shape-the_row-Expr-0 hidden-the_row-Expr-0 hidden
choices = (refl, refl, refl, refl)

casts : Casts
unfolding rows is_of_scalar_mode dropped dropped_of_functions kinds predicates fields bodies_in inside nodes_in function_in types_listed operations_in operations_in_bodies operations_within operations_in_nodes sites_from types_in types_in_items types_in_entries nest_of nests_of has_own expr_of bound_found has_parameter node_count value_of parameters shape-the_row-ExprText-0 hidden-the_row-ExprText-0 shape-the_row-Expr-0 hidden-the_row-Expr-0 hidden
casts = (refl, refl, refl, refl, refl, refl, refl)

loops : Loops
unfolding rows is_of_scalar_mode dropped dropped_of_functions kinds predicates fields bodies_in inside nodes_in function_in types_listed operations_in operations_in_bodies operations_within operations_in_nodes sites_from types_in types_in_items types_in_entries nest_of nests_of has_own expr_of bound_found has_parameter node_count value_of parameters shape-the_row-ExprText-0 hidden-the_row-ExprText-0 shape-the_row-Expr-0 hidden-the_row-Expr-0 hidden
loops = (refl, refl, refl, refl, refl, refl)

branches : Branches
unfolding rows is_of_scalar_mode dropped dropped_of_functions kinds predicates fields bodies_in inside nodes_in function_in types_listed operations_in operations_in_bodies operations_within operations_in_nodes sites_from types_in types_in_items types_in_entries nest_of nests_of has_own expr_of bound_found has_parameter node_count value_of parameters shape-the_row-ExprText-0 hidden-the_row-ExprText-0 shape-the_row-Expr-0 hidden-the_row-Expr-0 hidden
branches = (refl, refl, refl, refl)

buffers : Buffers
unfolding rows is_of_scalar_mode dropped dropped_of_functions kinds predicates fields bodies_in inside nodes_in function_in types_listed operations_in operations_in_bodies operations_within operations_in_nodes sites_from types_in types_in_items types_in_entries nest_of nests_of has_own expr_of bound_found has_parameter node_count value_of parameters shape-the_row-ExprText-0 hidden-the_row-ExprText-0 shape-the_row-Expr-0 hidden-the_row-Expr-0 hidden
buffers = (refl, refl, refl, refl, refl)

lanes : Lanes
unfolding rows is_of_scalar_mode dropped dropped_of_functions kinds predicates fields bodies_in inside nodes_in function_in types_listed operations_in operations_in_bodies operations_within operations_in_nodes sites_from types_in types_in_items types_in_entries nest_of nests_of has_own expr_of bound_found has_parameter node_count value_of parameters shape-the_row-ExprText-0 hidden-the_row-ExprText-0 shape-the_row-Expr-0 hidden-the_row-Expr-0 hidden
lanes = (refl, refl, refl, refl, refl)

positions : Positions
unfolding rows is_of_scalar_mode dropped dropped_of_functions kinds predicates fields bodies_in inside nodes_in function_in types_listed operations_in operations_in_bodies operations_within operations_in_nodes sites_from types_in types_in_items types_in_entries nest_of nests_of has_own expr_of bound_found has_parameter node_count value_of parameters shape-the_row-ExprText-0 hidden-the_row-ExprText-0 shape-the_row-Expr-0 hidden-the_row-Expr-0 hidden
positions = (refl, refl, refl, refl, refl, refl, refl, refl)

reductions : Reductions
unfolding rows is_of_scalar_mode dropped dropped_of_functions kinds predicates fields bodies_in inside nodes_in function_in types_listed operations_in operations_in_bodies operations_within operations_in_nodes sites_from types_in types_in_items types_in_entries nest_of nests_of has_own expr_of bound_found has_parameter node_count value_of parameters shape-the_row-ExprText-0 hidden-the_row-ExprText-0 shape-the_row-Expr-0 hidden-the_row-Expr-0 hidden
reductions = (refl, refl, refl, refl, refl, refl)

elements : Elements
unfolding rows is_of_scalar_mode dropped dropped_of_functions kinds predicates fields bodies_in inside nodes_in function_in types_listed operations_in operations_in_bodies operations_within operations_in_nodes sites_from types_in types_in_items types_in_entries nest_of nests_of has_own expr_of bound_found has_parameter node_count value_of parameters shape-the_row-ExprText-0 hidden-the_row-ExprText-0 shape-the_row-Expr-0 hidden-the_row-Expr-0 hidden
elements = (refl, refl, refl, refl, refl, refl)

marks : Marks
unfolding rows is_of_scalar_mode dropped dropped_of_functions kinds predicates fields bodies_in inside nodes_in function_in types_listed operations_in operations_in_bodies operations_within operations_in_nodes sites_from types_in types_in_items types_in_entries nest_of nests_of has_own expr_of bound_found has_parameter node_count value_of parameters shape-the_row-ExprText-0 hidden-the_row-ExprText-0 shape-the_row-Expr-0 hidden-the_row-Expr-0 hidden
marks = (refl, refl, refl, refl)

pub row-examples : RowExamples
row-examples = (choices, casts, loops, branches, buffers, lanes, positions, reductions, elements, marks)
