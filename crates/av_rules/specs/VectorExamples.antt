-- Operations that make vectors or take them apart, as they are taken and as they are refused.
use Rattle.std.specs.Prelude.{ℕ, ℤ, ◌≡◌, pos, negsuc, List, [], ◌∷◌, ◌++◌, map, None, Some, codes}
use Rattle.av_tree.specs.declared.attribute.Attr.TheVariants as attr
use Rattle.av_tree.specs.declared.attribute.Named.{Named}
use Rattle.av_tree.specs.declared.node.BodyArg.{BodyArg}
use Rattle.av_tree.specs.declared.node.Node.{Node}
use Rattle.av_tree.specs.declared.written.DimText.TheVariants as dim
use Rattle.av_tree.specs.declared.written.TypeText.{TypeText}
use Rattle.av_tree.specs.declared.written.TypeText.TheVariants as type
use Rattle.av_rules.specs.declared.mode.Mode.TheVariants as mode
use Rattle.av_rules.specs.BufferExamples.{square, square_lanes}
use Rattle.av_rules.specs.Examples.{EachRefused, EachTaken}
use Rattle.av_rules.specs.Fails.{least}
use Rattle.av_rules.specs.RowExamples.{i1, i64, truths}
use Rattle.av_rules.specs.ScalarExamples.{flag, flags, four_of, lanes, repeats, two_of, values}
use Rattle.av_rules.specs.Trees.{acts, arg, body, buffer, cells, entry, four, gives, i32, index, number, place, word}

-- ---- values
-- vector<[n]xi32>
abbrev pub scaled : ℕ → TypeText
scaled n = type.Vector (dim.Scalable n ∷ []) (codes "i32")

-- vector<nxi32>
abbrev pub words : ℕ → TypeText
words n = type.Vector (dim.Fixed n ∷ []) (codes "i32")

-- vector<2x4xi32>
abbrev pub rows_of_four : TypeText
rows_of_four = type.Vector (dim.Fixed 2 ∷ dim.Fixed 4 ∷ []) (codes "i32")

abbrev pub scaled_lanes : BodyArg
scaled_lanes = arg (codes "%s") (scaled 4)

abbrev pub scaled_lane : BodyArg
scaled_lane = arg (codes "%q") (scaled 1)

abbrev pub one_lane : BodyArg
one_lane = arg (codes "%o") (words 1)

abbrev pub two_lanes : BodyArg
two_lanes = arg (codes "%t") (words 2)

abbrev pub vectors : List Node
vectors = values ++ repeats scaled_lanes word ∷ repeats scaled_lane word ∷ repeats one_lane word ∷ repeats two_lanes word ∷ []

-- where vectors of any rank are taken, an operation is taken behind one that gives a vector, or refused
abbrev pub IsTakenBehind : BodyArg → Node → Type 0
IsTakenBehind a node = least (body (repeats a word ∷ node ∷ [])) mode.Vector ≡ None

abbrev pub IsRefusedBehind : BodyArg → Node → ℕ → Type 0
IsRefusedBehind a node c = least (body (repeats a word ∷ node ∷ [])) mode.Vector ≡ Some (record { operation = 3; code = c })

-- ---- repeating
abbrev pub broadcasting : BodyArg → TypeText → Node
broadcasting a t = gives (codes "vector.broadcast") (a ∷ []) [] t

-- A scalar, or a vector at the last dimensions, is repeated; a dimension of size 1 is stretched, where it isn't scalable. The elements stay
abbrev pub Broadcasts : Type 0
Broadcasts =
    EachTaken vectors (broadcasting word four ∷ broadcasting word (scaled 4) ∷ broadcasting flag truths ∷ broadcasting place (four_of (codes "index"))
    ∷ broadcasting lanes four ∷ broadcasting scaled_lanes (scaled 4) ∷ broadcasting one_lane four ∷ broadcasting one_lane (scaled 4) ∷ [])
    × EachRefused vectors (gives (codes "vector.broadcast") [] [] four ∷ gives (codes "vector.broadcast") (word ∷ word ∷ []) [] four ∷ []) 2
    × EachRefused vectors (acts (codes "vector.broadcast") (word ∷ []) [] ∷ []) 3
    × EachRefused vectors (broadcasting word i32 ∷ broadcasting word (four_of (codes "i64")) ∷ broadcasting place four ∷ broadcasting cells four
    ∷ broadcasting lanes (words 8) ∷ broadcasting lanes (words 1) ∷ broadcasting lanes (four_of (codes "i64")) ∷ broadcasting lanes (scaled 4)
    ∷ broadcasting scaled_lanes four ∷ broadcasting scaled_lane (scaled 4) ∷ []) 6
    × EachRefused [] (broadcasting word square ∷ []) 18
    × IsTakenBehind lanes (broadcasting lanes rows_of_four)
    × IsTakenBehind (arg (codes "%u") (type.Vector (dim.Fixed 2 ∷ dim.Fixed 1 ∷ []) (codes "i32")))
    (broadcasting (arg (codes "%u") (type.Vector (dim.Fixed 2 ∷ dim.Fixed 1 ∷ []) (codes "i32"))) rows_of_four)
    × IsRefusedBehind two_lanes (broadcasting two_lanes rows_of_four) 6
    × IsRefusedBehind square_lanes (broadcasting square_lanes (words 2)) 6

-- ---- masks
abbrev pub masking : List BodyArg → TypeText → Node
masking operands t = gives (codes "vector.create_mask") operands [] t

-- vector<2x2xi1>
abbrev pub square_truths : TypeText
square_truths = type.Vector (dim.Fixed 2 ∷ dim.Fixed 2 ∷ []) (codes "i1")

-- a truth value for each lane, from an index for each dimension
abbrev pub Masks : Type 0
Masks =
    EachTaken [] (masking (place ∷ []) truths ∷ masking (place ∷ []) (type.Vector (dim.Scalable 4 ∷ []) (codes "i1")) ∷ [])
    × EachRefused [] (masking [] truths ∷ masking (place ∷ place ∷ []) truths ∷ []) 2
    × EachRefused [] (acts (codes "vector.create_mask") (place ∷ []) [] ∷ []) 3
    × EachRefused [] (masking (word ∷ []) truths ∷ masking (place ∷ []) four ∷ masking (place ∷ []) i1 ∷ []) 6
    × EachRefused [] (masking (place ∷ place ∷ []) square_truths ∷ []) 18
    × IsTakenBehind lanes (masking (place ∷ place ∷ []) square_truths)
    × IsRefusedBehind lanes (masking (place ∷ []) square_truths) 2

-- ---- reductions
abbrev pub of_kind : List (List ℕ) → List Named
of_kind kind_words = entry (codes "kind") (attr.Hash (codes "#vector.kind") kind_words) ∷ []

abbrev pub reducing : List BodyArg → TypeText → Node
reducing operands t = gives (codes "vector.reduction") operands (of_kind (codes "add" ∷ [])) t

abbrev pub by_kind : List Named → Node
by_kind properties = gives (codes "vector.reduction") (lanes ∷ []) properties i32

abbrev pub kind_names : List (List ℕ)
kind_names =
    codes "add" ∷ codes "mul" ∷ codes "and" ∷ codes "or" ∷ codes "xor" ∷ codes "minsi" ∷ codes "minui" ∷ codes "maxsi" ∷ codes "maxui" ∷ []

-- the lanes of a vector of one dimension, and perhaps one more element, are combined to an element by one of nine kinds
abbrev pub ManyReductions : Type 0
ManyReductions =
    EachTaken vectors (map (λ kind. by_kind (of_kind (kind ∷ []))) kind_names ++ reducing (lanes ∷ word ∷ []) i32 ∷ reducing (scaled_lanes ∷ []) i32
    ∷ reducing (flags ∷ flag ∷ []) i1 ∷ [])
    × EachRefused vectors (reducing [] i32 ∷ reducing (lanes ∷ word ∷ word ∷ []) i32 ∷ []) 2
    × EachRefused vectors (acts (codes "vector.reduction") (lanes ∷ []) (of_kind (codes "add" ∷ [])) ∷ []) 3
    × EachRefused vectors (reducing (word ∷ []) i32 ∷ reducing (cells ∷ []) i32 ∷ reducing (lanes ∷ []) i64 ∷ reducing (lanes ∷ []) four
    ∷ reducing (lanes ∷ place ∷ []) i32 ∷ reducing (lanes ∷ lanes ∷ []) i32 ∷ []) 6
    × EachRefused vectors (by_kind [] ∷ []) 7
    × EachRefused vectors (map by_kind (of_kind [] ∷ of_kind (codes "addi" ∷ []) ∷ of_kind (codes "add" ∷ codes "mul" ∷ [])
    ∷ (entry (codes "kind") (attr.Hash (codes "#arith.kind") (codes "add" ∷ [])) ∷ []) ∷ (entry (codes "kind") (attr.Quoted (codes "add")) ∷ []) ∷ [])) 8
    × IsRefusedBehind square_lanes (reducing (square_lanes ∷ []) i32) 6

-- ---- positions
abbrev pub listed : List ℕ → TypeText → List ℤ → List Named
listed name elem numbers = entry name (attr.Array elem numbers) ∷ []

abbrev pub at_position : List ℤ → List Named
at_position numbers = listed (codes "static_position") i64 numbers

abbrev pub extracting : BodyArg → List ℤ → TypeText → Node
extracting a numbers t = gives (codes "vector.extract") (a ∷ []) (at_position numbers) t

abbrev pub rows_value : BodyArg
rows_value = arg (codes "%w") rows_of_four

-- what stands at a position, which is below the sizes of the leading dimensions at scale 1; at no position the vector itself
abbrev pub Extracts : Type 0
Extracts =
    EachTaken vectors (extracting lanes (pos 3 ∷ []) i32 ∷ extracting lanes [] four ∷ extracting scaled_lanes (pos 3 ∷ []) i32 ∷ [])
    × EachRefused vectors (gives (codes "vector.extract") [] (at_position (pos 3 ∷ [])) i32
    ∷ gives (codes "vector.extract") (lanes ∷ lanes ∷ []) (at_position (pos 3 ∷ [])) i32 ∷ []) 2
    × EachRefused vectors (acts (codes "vector.extract") (lanes ∷ []) (at_position (pos 3 ∷ [])) ∷ []) 3
    × EachRefused vectors (extracting lanes (pos 3 ∷ []) i64 ∷ extracting lanes [] i32 ∷ extracting word [] i32 ∷ extracting cells (pos 3 ∷ []) i32 ∷ []) 6
    × EachRefused vectors (gives (codes "vector.extract") (lanes ∷ []) [] i32 ∷ []) 7
    × EachRefused vectors (map (λ properties. gives (codes "vector.extract") (lanes ∷ []) properties i32)
    (listed (codes "static_position") i32 (pos 3 ∷ []) ∷ (entry (codes "static_position") (number (pos 3) i64) ∷ [])
    ∷ (at_position (pos 3 ∷ []) ++ listed (codes "mask") i64 (pos 3 ∷ [])) ∷ [])) 8
    × EachRefused vectors (extracting lanes (pos 3 ∷ pos 0 ∷ []) i32 ∷ []) 9
    × EachRefused vectors (extracting lanes (pos 4 ∷ []) i32 ∷ extracting lanes (negsuc 0 ∷ []) i32 ∷ extracting scaled_lanes (pos 4 ∷ []) i32 ∷ []) 14
    × IsTakenBehind rows_value (extracting rows_value (pos 1 ∷ []) four) × IsTakenBehind rows_value (extracting rows_value (pos 1 ∷ pos 3 ∷ []) i32)
    × IsRefusedBehind rows_value (extracting rows_value (pos 1 ∷ []) (words 2)) 6 × IsRefusedBehind rows_value (extracting rows_value (pos 2 ∷ pos 3 ∷ []) i32) 14

abbrev pub inserting : List BodyArg → List ℤ → TypeText → Node
inserting operands numbers t = gives (codes "vector.insert") operands (at_position numbers) t

-- a vector like the second, with the first at a position of it
abbrev pub Inserts : Type 0
Inserts =
    EachTaken vectors (inserting (word ∷ lanes ∷ []) (pos 3 ∷ []) four ∷ inserting (lanes ∷ lanes ∷ []) [] four
    ∷ inserting (word ∷ scaled_lanes ∷ []) (pos 3 ∷ []) (scaled 4) ∷ [])
    × EachRefused vectors (inserting (lanes ∷ []) (pos 3 ∷ []) four ∷ inserting (word ∷ lanes ∷ place ∷ []) (pos 3 ∷ []) four ∷ []) 2
    × EachRefused vectors (acts (codes "vector.insert") (word ∷ lanes ∷ []) (at_position (pos 3 ∷ [])) ∷ []) 3
    × EachRefused vectors (inserting (place ∷ lanes ∷ []) (pos 3 ∷ []) four ∷ inserting (lanes ∷ lanes ∷ []) (pos 3 ∷ []) four
    ∷ inserting (word ∷ lanes ∷ []) [] four
    ∷ inserting (word ∷ lanes ∷ []) (pos 3 ∷ []) (scaled 4) ∷ inserting (word ∷ word ∷ []) [] i32 ∷ inserting (word ∷ cells ∷ []) (pos 3 ∷ []) buffer ∷ []) 6
    × EachRefused vectors (gives (codes "vector.insert") (word ∷ lanes ∷ []) [] four ∷ []) 7
    × EachRefused vectors (gives (codes "vector.insert") (word ∷ lanes ∷ []) (listed (codes "static_position") i32 (pos 3 ∷ [])) four ∷ []) 8
    × EachRefused vectors (inserting (word ∷ lanes ∷ []) (pos 3 ∷ pos 0 ∷ []) four ∷ []) 9
    × EachRefused vectors (inserting (word ∷ lanes ∷ []) (pos 4 ∷ []) four ∷ inserting (word ∷ lanes ∷ []) (negsuc 0 ∷ []) four ∷ []) 14
    × IsTakenBehind rows_value (inserting (word ∷ rows_value ∷ []) (pos 1 ∷ pos 3 ∷ []) rows_of_four)
    × IsRefusedBehind rows_value (inserting (word ∷ rows_value ∷ []) (pos 1 ∷ []) rows_of_four) 6

-- ---- picking
abbrev pub picking : List BodyArg → List ℤ → TypeText → Node
picking operands numbers t = gives (codes "vector.shuffle") operands (listed (codes "mask") i64 numbers) t

-- as many elements as there are numbers, each a place in two vectors one after the other, whose lanes don't count times a scale
abbrev pub Shuffles : Type 0
Shuffles =
    EachTaken vectors (picking (lanes ∷ lanes ∷ []) (pos 0 ∷ pos 7 ∷ pos 0 ∷ []) (words 3) ∷ picking (lanes ∷ two_lanes ∷ []) (pos 5 ∷ []) (words 1) ∷ [])
    × EachRefused vectors (picking (lanes ∷ []) (pos 0 ∷ []) (words 1) ∷ picking (lanes ∷ lanes ∷ lanes ∷ []) (pos 0 ∷ []) (words 1) ∷ []) 2
    × EachRefused vectors (acts (codes "vector.shuffle") (lanes ∷ lanes ∷ []) (listed (codes "mask") i64 (pos 0 ∷ [])) ∷ []) 3
    × EachRefused vectors (picking (scaled_lanes ∷ lanes ∷ []) (pos 0 ∷ []) (words 1) ∷ picking (lanes ∷ scaled_lanes ∷ []) (pos 0 ∷ []) (words 1)
    ∷ picking (lanes ∷ flags ∷ []) (pos 0 ∷ []) (words 1) ∷ picking (word ∷ word ∷ []) (pos 0 ∷ []) (words 1)
    ∷ picking (lanes ∷ lanes ∷ []) (pos 0 ∷ pos 7 ∷ []) (words 3)
    ∷ picking (lanes ∷ lanes ∷ []) (pos 0 ∷ []) (two_of (codes "i64")) ∷ []) 6
    × EachRefused vectors (gives (codes "vector.shuffle") (lanes ∷ lanes ∷ []) [] (words 1) ∷ []) 7
    × EachRefused vectors (gives (codes "vector.shuffle") (lanes ∷ lanes ∷ []) (listed (codes "mask") i32 (pos 0 ∷ [])) (words 1) ∷ []) 8
    × EachRefused vectors (picking (lanes ∷ two_lanes ∷ []) (pos 6 ∷ []) (words 1) ∷ picking (lanes ∷ lanes ∷ []) (negsuc 0 ∷ []) (words 1) ∷ []) 14
    × IsRefusedBehind square_lanes (picking (square_lanes ∷ square_lanes ∷ []) (pos 0 ∷ []) (words 1)) 6

-- ---- numbers of lanes
-- the number of each lane, as `index`, and the scale
abbrev pub Counting : Type 0
Counting =
    EachTaken [] (gives (codes "vector.step") [] [] (four_of (codes "index")) ∷ gives (codes "vector.vscale") [] [] index ∷ [])
    × EachRefused [] (gives (codes "vector.step") (place ∷ []) [] (four_of (codes "index")) ∷ gives (codes "vector.vscale") (place ∷ []) [] index ∷ []) 2
    × EachRefused [] (acts (codes "vector.step") [] [] ∷ acts (codes "vector.vscale") [] [] ∷ []) 3
    × EachRefused [] (gives (codes "vector.step") [] [] four ∷ gives (codes "vector.step") [] [] index
    ∷ gives (codes "vector.step") [] [] (type.Vector (dim.Fixed 2 ∷ dim.Fixed 2 ∷ []) (codes "index"))
    ∷ gives (codes "vector.vscale") [] [] i32 ∷ gives (codes "vector.vscale") [] [] (four_of (codes "index")) ∷ []) 6

abbrev pub VectorExamples : Type 0
VectorExamples = Broadcasts × Masks × ManyReductions × Extracts × Inserts × Shuffles × Counting
