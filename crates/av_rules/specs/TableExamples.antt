-- An operation of every row of the table: each is taken, and refused with an entry that it doesn't have.
use Rattle.std.specs.Prelude.{ℕ, ◌≡◌, pos, true, List, [], ◌∷◌, ◌++◌, map, None, Some, codes}
use Rattle.av_tree.specs.declared.attribute.Attr.TheVariants as attr
use Rattle.av_tree.specs.declared.attribute.Named.{Named}
use Rattle.av_tree.specs.declared.node.Node.{Node, Node'}
use Rattle.av_tree.specs.declared.node.Tree.{Tree}
use Rattle.av_rules.specs.BufferExamples.{all_applied, each_with, fetching, fetching_lanes, fetching_some, putting, putting_lanes, putting_some, reading, sizing, with_map, writing}
use Rattle.av_rules.specs.EdgeExamples.{small_shape}
use Rattle.av_rules.specs.Examples.{AreRefused, AreTaken, EachRefused, EachTaken, IsRefused}
use Rattle.av_rules.specs.Fails.{least}
use Rattle.av_rules.specs.LoopExamples.{counter, counting, parts, three_places, to_four, turning}
use Rattle.av_rules.specs.RegionExamples.{both_end, deciding, holding, is_zero, returning, with_type}
use Rattle.av_rules.specs.RowExamples.{i1, i64, truths}
use Rattle.av_rules.specs.Rows.{rows}
use Rattle.av_rules.specs.ScalarExamples.{binary_names, choosing, comparing, constant_of, each_of, extensions, flag, flags, four_of, lanes, less, to_each, values}
use Rattle.av_rules.specs.Trees.{body, cells, d0, entry, four, function, gives, i32, i8, index, loop, map_over, named_results, number, place, region, terminator, tree_of, word, yield}
use Rattle.av_rules.specs.VectorExamples.{broadcasting, extracting, inserting, masking, picking, reducing, words}
use Rattle.av_rules.specs.Views.{fields}

-- ---- an operation of each row
abbrev pub of_arith : List Node
of_arith =
    constant_of (number (pos 7) i32) i32 ∷ each_of binary_names (word ∷ word ∷ []) i32
    ++ comparing (word ∷ word ∷ []) less i1 ∷ choosing (flag ∷ word ∷ word ∷ []) i32 ∷ to_each extensions word (i64 ∷ [])
    ++ to_each (codes "arith.trunci" ∷ []) word (i8 ∷ []) ++ to_each (codes "arith.index_cast" ∷ []) word (index ∷ [])
    ++ to_each (codes "arith.index_castui" ∷ []) place (i64 ∷ [])

abbrev pub a_loop : Node
a_loop = turning [] (to_four (parts 0 0 0))

abbrev pub a_choice : Node
a_choice = deciding (place ∷ []) is_zero both_end

abbrev pub of_maps : List Node
of_maps = each_with all_applied (place ∷ []) (with_map (map_over d0)) index

abbrev pub of_elements : List Node
of_elements =
    reading (cells ∷ place ∷ []) (map_over d0) i32 ∷ writing (word ∷ cells ∷ place ∷ []) (map_over d0)
    ∷ fetching (cells ∷ place ∷ []) i32 ∷ putting (word ∷ cells ∷ place ∷ []) ∷ []

abbrev pub a_size : Node
a_size = sizing (cells ∷ place ∷ []) index

abbrev pub a_counted_loop : Node
a_counted_loop = counting three_places []

abbrev pub of_many_elements : List Node
of_many_elements =
    fetching_lanes (cells ∷ place ∷ []) four ∷ putting_lanes (lanes ∷ cells ∷ place ∷ [])
    ∷ fetching_some (cells ∷ place ∷ flags ∷ lanes ∷ []) four ∷ putting_some (cells ∷ place ∷ flags ∷ lanes ∷ []) ∷ []

abbrev pub a_scale : Node
a_scale = gives (codes "vector.vscale") [] [] index

abbrev pub of_vectors : List Node
of_vectors =
    broadcasting word four ∷ masking (place ∷ []) truths ∷ reducing (lanes ∷ []) i32 ∷ extracting lanes (pos 3 ∷ []) i32
    ∷ inserting (word ∷ lanes ∷ []) (pos 3 ∷ []) four ∷ picking (lanes ∷ lanes ∷ []) (pos 0 ∷ []) (words 1)
    ∷ gives (codes "vector.step") [] [] (four_of (codes "index")) ∷ a_scale ∷ []

-- those that stand in a body, of Scalar mode and not
abbrev pub of_scalar_mode : List Node
of_scalar_mode = of_arith ++ a_loop ∷ a_choice ∷ of_maps ++ of_elements ++ a_size ∷ []

abbrev pub of_other_modes : List Node
of_other_modes = a_counted_loop ∷ of_many_elements ++ of_vectors

-- ---- an operation elsewhere
abbrev pub a_function : Node
a_function = function (codes "f") [] [] (returning [] ∷ [])

-- a terminator at the end of its function, or of its loop
abbrev pub at_end_of_function : Node → Tree
at_end_of_function node = with_type [] [] [] (node ∷ [])

abbrev pub at_end_of_loop : Node → Tree
at_end_of_loop node = body (loop (node ∷ []) ∷ [])

abbrev pub at_end_of_counted_loop : Node → Tree
at_end_of_counted_loop node = body (holding [] (codes "scf.for") three_places [] (region (counter ∷ []) (node ∷ []) ∷ []) [] ∷ [])

abbrev pub counted_yield : Node
counted_yield = terminator (codes "scf.yield")

-- ---- all of them
-- no row of the table lacks
abbrev pub EveryRow : Type 0
EveryRow =
    map (λ node. (fields node).name)
    ((tree_of []).root ∷ a_function ∷ returning [] ∷ of_arith ++ a_loop ∷ a_choice ∷ yield ∷ of_maps ++ of_elements ++ a_size
    ∷ a_counted_loop ∷ counted_yield ∷ of_many_elements ++ of_vectors)
    ≡ map (λ row. row.name) rows

abbrev pub RowsTaken : Type 0
RowsTaken =
    EachTaken values (of_scalar_mode ++ of_other_modes)
    × AreTaken (tree_of [] ∷ tree_of (a_function ∷ []) ∷ at_end_of_function (returning []) ∷ at_end_of_loop yield ∷ at_end_of_counted_loop counted_yield ∷ [])

-- the operation with other attributes
abbrev pub with_attributes : List Named → Node → Node
with_attributes attributes (Node' name at results operands properties attrs s bodies ins outs) = Node' name at results operands properties attributes s bodies ins outs

abbrev pub any : Node → Node
any node = with_attributes (entry (codes "any") attr.Unit ∷ []) node

-- each but the module, on which everything is dropped, for an entry of this name
abbrev pub RowsRefused : Type 0
RowsRefused =
    EachRefused values (map any (of_scalar_mode ++ of_other_modes)) 8 × IsRefused (tree_of (any a_function ∷ [])) 1 8
    × IsRefused (at_end_of_function (any (returning []))) 2 8 × AreRefused (at_end_of_loop (any yield) ∷ at_end_of_counted_loop (any counted_yield) ∷ []) 3 8

-- ---- marks
-- what no mark has as its value: a truth value
abbrev pub bad : List ℕ → Named
bad name = entry name (attr.Bool true)

abbrev pub loop_mark : Named
loop_mark = bad (codes "affvec.loop")

abbrev pub source_mark : Named
source_mark = bad (codes "affvec.of")

abbrev pub distinct_mark : Named
distinct_mark = bad (codes "affvec.distinct")

-- where it doesn't belong a mark is dropped: on loops, on accesses, on functions, and on all else
abbrev pub MarksElsewhere : Type 0
MarksElsewhere =
    EachTaken values (map (with_attributes (source_mark ∷ distinct_mark ∷ [])) (a_loop ∷ a_counted_loop ∷ [])
    ++ map (with_attributes (loop_mark ∷ distinct_mark ∷ [])) (of_elements ++ of_many_elements)
    ++ map (with_attributes (loop_mark ∷ source_mark ∷ distinct_mark ∷ [])) (of_arith ++ a_choice ∷ of_maps ++ a_size ∷ of_vectors))
    × AreTaken (tree_of (with_attributes (loop_mark ∷ source_mark ∷ []) a_function ∷ [])
    ∷ at_end_of_function (with_attributes (loop_mark ∷ source_mark ∷ distinct_mark ∷ []) (returning []))
    ∷ at_end_of_loop (with_attributes (loop_mark ∷ source_mark ∷ distinct_mark ∷ []) yield)
    ∷ at_end_of_counted_loop (with_attributes (loop_mark ∷ source_mark ∷ distinct_mark ∷ []) counted_yield) ∷ [])

abbrev pub MarksInPlace : Type 0
MarksInPlace =
    EachRefused values (map (with_attributes (loop_mark ∷ [])) (a_loop ∷ a_counted_loop ∷ [])
    ++ map (with_attributes (source_mark ∷ [])) (of_elements ++ of_many_elements)) 8
    × IsRefused (tree_of (with_attributes (distinct_mark ∷ []) a_function ∷ [])) 1 8

-- ---- modes
-- an operation behind one that gives a truth value, in a module that is to be vectorized
abbrev pub to_vectorize : Node → Tree
to_vectorize node = body (named_results (codes "%c" ∷ []) (codes "arith.trunci") (word ∷ []) [] (i1 ∷ []) ∷ node ∷ [])

-- Scalar mode takes operations without vectors; those that need no vector show that it takes none of the others
abbrev pub Modes : Type 0
Modes =
    (map (λ node. least (to_vectorize node) small_shape) of_scalar_mode ≡ map (λ _. None) of_scalar_mode)
    × (least (to_vectorize a_counted_loop) small_shape ≡ Some (record { operation = 3; code = 18 }))
    × (least (to_vectorize a_scale) small_shape ≡ Some (record { operation = 3; code = 18 }))

abbrev pub TableExamples : Type 0
TableExamples = EveryRow × RowsTaken × RowsRefused × MarksElsewhere × MarksInPlace × Modes
