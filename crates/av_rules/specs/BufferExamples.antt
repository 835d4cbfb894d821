-- Operations with affine maps, and those that touch buffers, as they are taken and as they are refused.
use Rattle.std.specs.Prelude.{ℕ, ◌≡◌, pos, negsuc, List, [], ◌∷◌, ◌++◌, map, flat_map, replicate, None, Some, codes}
use Rattle.av_tree.specs.declared.attribute.Attr.{Attr}
use Rattle.av_tree.specs.declared.attribute.Attr.TheVariants as attr
use Rattle.av_tree.specs.declared.attribute.Named.{Named}
use Rattle.av_tree.specs.declared.node.BodyArg.{BodyArg}
use Rattle.av_tree.specs.declared.node.Node.{Node}
use Rattle.av_tree.specs.declared.written.DimText.TheVariants as dim
use Rattle.av_tree.specs.declared.written.ExprText.{ExprText}
use Rattle.av_tree.specs.declared.written.ExprText.TheVariants as expr
use Rattle.av_tree.specs.declared.written.SizeText.TheVariants as size
use Rattle.av_tree.specs.declared.written.TypeText.{TypeText}
use Rattle.av_tree.specs.declared.written.TypeText.TheVariants as type
use Rattle.av_rules.specs.declared.mode.Mode.TheVariants as mode
use Rattle.av_rules.specs.Examples.{EachRefused, EachTaken, IsRefused, IsTaken}
use Rattle.av_rules.specs.Fails.{least}
use Rattle.av_rules.specs.RowExamples.{i64, truths}
use Rattle.av_rules.specs.ScalarExamples.{flag, flags, four_of, lanes, repeats, two_flags, values}
use Rattle.av_rules.specs.Trees.{acts, arg, body, body_over, bound, cells, d0, entry, four, gives, i32, index, map_over, number, place, word}

-- ---- the least and the greatest of a map's results
-- (d0) -> (results)
abbrev pub to_results : List ExprText → Attr
to_results results = attr.Map (record { dims = codes "d0" ∷ []; syms = []; results = results })

-- () -> ()
abbrev pub no_result : Attr
no_result = attr.Map (record { dims = []; syms = []; results = [] })

abbrev pub with_map : Attr → List Named
with_map value = entry (codes "map") value ∷ []

abbrev pub three : ExprText
three = expr.Const (pos 3)

abbrev pub extremes : List (List ℕ)
extremes = codes "affine.min" ∷ codes "affine.max" ∷ []

-- the operation of each name, with these operands, properties and a result of this type
abbrev pub each_with : List (List ℕ) → List BodyArg → List Named → TypeText → List Node
each_with names operands properties t = map (λ name. gives name operands properties t) names

abbrev pub all_applied : List (List ℕ)
all_applied = codes "affine.apply" ∷ extremes

-- one index from at least one result, of operands that are dimensions or symbols, one for each parameter
abbrev pub Extremes : Type 0
Extremes =
    EachTaken [] (each_with all_applied (place ∷ []) (with_map (map_over d0)) index ++ each_with all_applied [] (with_map (bound (pos 3))) index
    ++ each_with extremes (place ∷ []) (with_map (to_results (d0 ∷ three ∷ []))) index)
    × EachRefused [] (map (λ name. acts name (place ∷ []) (with_map (map_over d0))) all_applied) 3
    × EachRefused [] (each_with all_applied (place ∷ []) (with_map (map_over d0)) i32) 6
    × EachRefused [] (each_with all_applied (place ∷ []) [] index) 7
    × EachRefused [] (each_with all_applied (place ∷ []) (with_map (number (pos 3) index)) index
    ++ each_with all_applied (place ∷ []) (entry (codes "map") (map_over d0) ∷ entry (codes "step") (number (pos 1) index) ∷ []) index) 8
    × EachRefused [] (each_with all_applied (place ∷ place ∷ []) (with_map (map_over d0)) index
    ++ each_with all_applied (place ∷ []) (with_map (bound (pos 3))) index
    ++ each_with all_applied (place ∷ []) (with_map (to_results [])) index
    ++ each_with (codes "affine.apply" ∷ []) (place ∷ []) (with_map (to_results (d0 ∷ three ∷ []))) index) 9
    × EachRefused [] (each_with all_applied (word ∷ []) (with_map (map_over d0)) index) 10
    × EachRefused [] (each_with extremes (place ∷ []) (with_map (to_results (d0 ∷ expr.Mul d0 d0 ∷ []))) index) 15
    × EachRefused [] (each_with extremes (place ∷ []) (with_map (to_results (replicate 9 d0))) index) 17

-- memref<i32>
abbrev pub cell : TypeText
cell = type.MemRef [] (codes "i32") None

abbrev pub cell_value : BodyArg
cell_value = arg (codes "%A") cell

-- ---- affine subscripts
abbrev pub reading : List BodyArg → Attr → TypeText → Node
reading operands value t = gives (codes "affine.load") operands (with_map value) t

abbrev pub writing : List BodyArg → Attr → Node
writing operands value = acts (codes "affine.store") operands (with_map value)

-- memref<4x4xi32>
abbrev pub grid : TypeText
grid = type.MemRef (size.Fixed 4 ∷ size.Fixed 4 ∷ []) (codes "i32") None

abbrev pub grid_cells : BodyArg
grid_cells = arg (codes "%A") grid

-- an element, from a subscript for each dimension
abbrev pub AffineLoads : Type 0
AffineLoads =
    EachTaken [] (reading (cells ∷ place ∷ []) (map_over d0) i32 ∷ reading (cells ∷ []) (bound (pos 3)) i32 ∷ [])
    × EachRefused [] (gives (codes "affine.load") [] (with_map (map_over d0)) i32 ∷ []) 2
    × EachRefused [] (acts (codes "affine.load") (cells ∷ place ∷ []) (with_map (map_over d0)) ∷ []) 3
    × EachRefused [] (reading (word ∷ place ∷ []) (map_over d0) i32 ∷ reading (cells ∷ place ∷ []) (map_over d0) i64 ∷ []) 6
    × EachRefused [] (gives (codes "affine.load") (cells ∷ place ∷ []) [] i32 ∷ []) 7
    × EachRefused [] (reading (cells ∷ place ∷ []) (number (pos 3) index) i32 ∷ []) 8
    × EachRefused [] (reading (cells ∷ []) (map_over d0) i32 ∷ reading (cells ∷ place ∷ place ∷ []) (map_over d0) i32
    ∷ reading (cells ∷ place ∷ []) (to_results []) i32 ∷ reading (cells ∷ place ∷ []) (to_results (d0 ∷ d0 ∷ [])) i32 ∷ []) 9
    × EachRefused [] (reading (cells ∷ word ∷ []) (map_over d0) i32 ∷ []) 10
    × EachRefused [] (reading (cells ∷ place ∷ []) (map_over (expr.Mul d0 d0)) i32 ∷ []) 15
    × IsTaken (body_over grid (reading (grid_cells ∷ place ∷ []) (to_results (d0 ∷ three ∷ [])) i32 ∷ []))
    × IsTaken (body_over cell (reading (cell_value ∷ []) no_result i32 ∷ []))
    × IsRefused (body_over grid (reading (grid_cells ∷ place ∷ []) (map_over d0) i32 ∷ [])) 2 9

-- an element's value first, then as in loads
abbrev pub AffineStores : Type 0
AffineStores =
    EachTaken [] (writing (word ∷ cells ∷ place ∷ []) (map_over d0) ∷ writing (word ∷ cells ∷ []) (bound (pos 3)) ∷ [])
    × EachRefused [] (writing (cells ∷ []) (bound (pos 3)) ∷ []) 2
    × EachRefused [] (gives (codes "affine.store") (word ∷ cells ∷ place ∷ []) (with_map (map_over d0)) i32 ∷ []) 3
    × EachRefused [] (writing (place ∷ cells ∷ place ∷ []) (map_over d0) ∷ writing (word ∷ word ∷ place ∷ []) (map_over d0)
    ∷ writing (cells ∷ cells ∷ place ∷ []) (map_over d0) ∷ []) 6
    × EachRefused [] (acts (codes "affine.store") (word ∷ cells ∷ place ∷ []) [] ∷ []) 7
    × EachRefused [] (writing (word ∷ cells ∷ place ∷ []) (number (pos 3) index) ∷ []) 8
    × EachRefused [] (writing (word ∷ cells ∷ []) (map_over d0) ∷ writing (word ∷ cells ∷ place ∷ place ∷ []) (map_over d0)
    ∷ writing (word ∷ cells ∷ place ∷ []) (to_results []) ∷ writing (word ∷ cells ∷ place ∷ []) (to_results (d0 ∷ d0 ∷ [])) ∷ []) 9
    × EachRefused [] (writing (word ∷ cells ∷ word ∷ []) (map_over d0) ∷ []) 10
    × EachRefused [] (writing (word ∷ cells ∷ place ∷ []) (map_over (expr.Mul d0 d0)) ∷ []) 15
    × IsTaken (body_over grid (writing (word ∷ grid_cells ∷ place ∷ []) (to_results (d0 ∷ three ∷ [])) ∷ []))
    × IsTaken (body_over cell (writing (word ∷ cell_value ∷ []) no_result ∷ []))
    × IsRefused (body_over grid (writing (word ∷ grid_cells ∷ place ∷ []) (map_over d0) ∷ [])) 2 9

-- ---- subscripts that are values
abbrev pub fetching : List BodyArg → TypeText → Node
fetching operands t = gives (codes "memref.load") operands [] t

abbrev pub putting : List BodyArg → Node
putting operands = acts (codes "memref.store") operands []

abbrev pub sizing : List BodyArg → TypeText → Node
sizing operands t = gives (codes "memref.dim") operands [] t

-- an index for each dimension, and the element of the buffer; a size is an index
abbrev pub PlainAccess : Type 0
PlainAccess =
    EachTaken [] (fetching (cells ∷ place ∷ []) i32 ∷ putting (word ∷ cells ∷ place ∷ []) ∷ sizing (cells ∷ place ∷ []) index ∷ [])
    × EachRefused [] (fetching (cells ∷ []) i32 ∷ fetching (cells ∷ place ∷ place ∷ []) i32 ∷ fetching [] i32
    ∷ putting (word ∷ cells ∷ []) ∷ putting (word ∷ cells ∷ place ∷ place ∷ []) ∷ putting (cells ∷ [])
    ∷ sizing (cells ∷ []) index ∷ sizing (cells ∷ place ∷ place ∷ []) index ∷ []) 2
    × EachRefused [] (acts (codes "memref.load") (cells ∷ place ∷ []) [] ∷ gives (codes "memref.store") (word ∷ cells ∷ place ∷ []) [] i32
    ∷ acts (codes "memref.dim") (cells ∷ place ∷ []) [] ∷ []) 3
    × EachRefused [] (fetching (cells ∷ word ∷ []) i32 ∷ fetching (word ∷ place ∷ []) i32 ∷ fetching (cells ∷ place ∷ []) i64
    ∷ putting (word ∷ cells ∷ word ∷ []) ∷ putting (word ∷ word ∷ place ∷ []) ∷ putting (place ∷ cells ∷ place ∷ [])
    ∷ sizing (cells ∷ word ∷ []) index ∷ sizing (word ∷ place ∷ []) index ∷ sizing (cells ∷ place ∷ []) i32 ∷ []) 6
    × EachRefused [] (gives (codes "memref.load") (cells ∷ place ∷ []) (with_map (map_over d0)) i32
    ∷ acts (codes "memref.store") (word ∷ cells ∷ place ∷ []) (with_map (map_over d0))
    ∷ gives (codes "memref.dim") (cells ∷ place ∷ []) (with_map (map_over d0)) index ∷ []) 8
    × IsTaken (body_over grid (fetching (grid_cells ∷ place ∷ place ∷ []) i32 ∷ putting (word ∷ grid_cells ∷ place ∷ place ∷ []) ∷ []))
    × IsTaken (body_over cell (fetching (cell_value ∷ []) i32 ∷ putting (word ∷ cell_value ∷ []) ∷ []))
    × IsRefused (body_over grid (fetching (grid_cells ∷ place ∷ []) i32 ∷ [])) 2 2

-- ---- vectors in buffers
abbrev pub fetching_lanes : List BodyArg → TypeText → Node
fetching_lanes operands t = gives (codes "vector.load") operands [] t

abbrev pub putting_lanes : List BodyArg → Node
putting_lanes operands = acts (codes "vector.store") operands []

-- vector<2x2xi32>
abbrev pub square : TypeText
square = type.Vector (dim.Fixed 2 ∷ dim.Fixed 2 ∷ []) (codes "i32")

abbrev pub square_lanes : BodyArg
square_lanes = arg (codes "%q") square

-- vectors of one dimension with the buffer's elements, at an index for each of its dimensions, of which there is one or more
abbrev pub VectorAccess : Type 0
VectorAccess =
    EachTaken values (fetching_lanes (cells ∷ place ∷ []) four ∷ fetching_lanes (cells ∷ place ∷ []) (type.Vector (dim.Scalable 4 ∷ []) (codes "i32"))
    ∷ putting_lanes (lanes ∷ cells ∷ place ∷ []) ∷ [])
    × EachRefused values (fetching_lanes (cells ∷ []) four ∷ fetching_lanes (cells ∷ place ∷ place ∷ []) four
    ∷ putting_lanes (lanes ∷ cells ∷ []) ∷ putting_lanes (lanes ∷ cells ∷ place ∷ place ∷ []) ∷ []) 2
    × EachRefused values (acts (codes "vector.load") (cells ∷ place ∷ []) [] ∷ gives (codes "vector.store") (lanes ∷ cells ∷ place ∷ []) [] four ∷ []) 3
    × EachRefused values (fetching_lanes (cells ∷ place ∷ []) i32 ∷ fetching_lanes (cells ∷ place ∷ []) (four_of (codes "i64"))
    ∷ fetching_lanes (cells ∷ place ∷ []) square
    ∷ fetching_lanes (cells ∷ word ∷ []) four ∷ fetching_lanes (word ∷ place ∷ []) four
    ∷ putting_lanes (word ∷ cells ∷ place ∷ []) ∷ putting_lanes (flags ∷ cells ∷ place ∷ []) ∷ putting_lanes (lanes ∷ cells ∷ word ∷ [])
    ∷ putting_lanes (lanes ∷ word ∷ place ∷ []) ∷ []) 6
    × IsRefused (body_over cell (fetching_lanes (cell_value ∷ []) four ∷ [])) 2 6
    × IsRefused (body_over cell (repeats lanes word ∷ putting_lanes (lanes ∷ cell_value ∷ []) ∷ [])) 3 6
    × (least (body (repeats square_lanes word ∷ putting_lanes (square_lanes ∷ cells ∷ place ∷ []) ∷ [])) mode.Vector ≡ Some (record { operation = 3; code = 6 }))

abbrev pub fetching_some : List BodyArg → TypeText → Node
fetching_some operands t = gives (codes "vector.maskedload") operands [] t

abbrev pub putting_some : List BodyArg → Node
putting_some operands = acts (codes "vector.maskedstore") operands []

-- operands of either of the two that don't agree: behind the buffer and its index a truth value for each lane, and the lanes
abbrev pub disagreeing : List (List BodyArg)
disagreeing =
    (cells ∷ place ∷ flag ∷ lanes ∷ []) ∷ (cells ∷ place ∷ two_flags ∷ lanes ∷ []) ∷ (cells ∷ place ∷ flags ∷ flags ∷ [])
    ∷ (cells ∷ place ∷ lanes ∷ lanes ∷ []) ∷ (cells ∷ place ∷ flags ∷ word ∷ []) ∷ (cells ∷ word ∷ flags ∷ lanes ∷ []) ∷ (word ∷ place ∷ flags ∷ lanes ∷ []) ∷ []

abbrev pub MaskedAccess : Type 0
MaskedAccess =
    EachTaken values (fetching_some (cells ∷ place ∷ flags ∷ lanes ∷ []) four ∷ putting_some (cells ∷ place ∷ flags ∷ lanes ∷ []) ∷ [])
    × EachRefused values (flat_map (λ operands. fetching_some operands four ∷ putting_some operands ∷ [])
    ((cells ∷ place ∷ lanes ∷ []) ∷ (cells ∷ flags ∷ lanes ∷ []) ∷ (cells ∷ place ∷ place ∷ flags ∷ lanes ∷ []) ∷ [])) 2
    × EachRefused values (acts (codes "vector.maskedload") (cells ∷ place ∷ flags ∷ lanes ∷ []) []
    ∷ gives (codes "vector.maskedstore") (cells ∷ place ∷ flags ∷ lanes ∷ []) [] four ∷ []) 3
    × EachRefused values (fetching_some (cells ∷ place ∷ flags ∷ lanes ∷ []) truths ∷ fetching_some (cells ∷ place ∷ flags ∷ flags ∷ []) truths
    ∷ fetching_some (cells ∷ place ∷ flags ∷ word ∷ []) i32 ∷ map putting_some disagreeing ++ map (λ operands. fetching_some operands four) disagreeing) 6
    × IsRefused (body_over cell (values ++ fetching_some (cell_value ∷ flags ∷ lanes ∷ []) four ∷ [])) 6 6
    × IsRefused (body_over cell (values ++ putting_some (cell_value ∷ flags ∷ lanes ∷ []) ∷ [])) 6 6

-- ---- marks of accesses
-- operations that touch elements of a buffer, with these entries
abbrev pub accesses : List Named → List Node
accesses more =
    gives (codes "affine.load") (cells ∷ place ∷ []) (with_map (map_over d0) ++ more) i32
    ∷ acts (codes "affine.store") (word ∷ cells ∷ place ∷ []) (with_map (map_over d0) ++ more)
    ∷ gives (codes "memref.load") (cells ∷ place ∷ []) more i32 ∷ acts (codes "memref.store") (word ∷ cells ∷ place ∷ []) more
    ∷ gives (codes "vector.load") (cells ∷ place ∷ []) more four ∷ acts (codes "vector.store") (lanes ∷ cells ∷ place ∷ []) more
    ∷ gives (codes "vector.maskedload") (cells ∷ place ∷ flags ∷ lanes ∷ []) more four
    ∷ acts (codes "vector.maskedstore") (cells ∷ place ∷ flags ∷ lanes ∷ []) more ∷ []

-- they may have the number of a source
abbrev pub AccessMarks : Type 0
AccessMarks =
    EachTaken values (accesses (entry (codes "affvec.of") (number (pos 3) i64) ∷ []))
    × EachRefused values (accesses (entry (codes "affvec.of") attr.Unit ∷ []) ++ accesses (entry (codes "affvec.of") (number (negsuc 0) i64) ∷ [])) 8

abbrev pub BufferExamples : Type 0
BufferExamples = Extremes × AffineLoads × AffineStores × PlainAccess × VectorAccess × MaskedAccess × AccessMarks
