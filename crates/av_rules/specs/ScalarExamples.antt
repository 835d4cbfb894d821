-- The operations of arith as they are taken, and as they are refused where their values and properties aren't as their rows say.
use Rattle.std.specs.Prelude.{ℕ, pos, negsuc, true, List, [], ◌∷◌, ◌++◌, map, flat_map, None, codes}
use Rattle.av_tree.specs.declared.attribute.Attr.{Attr}
use Rattle.av_tree.specs.declared.attribute.Attr.TheVariants as attr
use Rattle.av_tree.specs.declared.attribute.Element.TheVariants as element
use Rattle.av_tree.specs.declared.node.BodyArg.{BodyArg}
use Rattle.av_tree.specs.declared.node.Node.{Node}
use Rattle.av_tree.specs.declared.written.DimText.TheVariants as dim
use Rattle.av_tree.specs.declared.written.SizeText.TheVariants as size
use Rattle.av_tree.specs.declared.written.TypeText.{TypeText}
use Rattle.av_tree.specs.declared.written.TypeText.TheVariants as type
use Rattle.av_rules.specs.Examples.{EachRefused, EachTaken}
use Rattle.av_rules.specs.RowExamples.{i1, i64, truths}
use Rattle.av_rules.specs.Trees.{acts, arg, buffer, cells, entry, four, gives, i32, i8, index, named_results, number, place, word}

-- ---- types and values
-- vector<4xE>, vector<2xE> and memref<4xE>
abbrev pub four_of : List ℕ → TypeText
four_of elem = type.Vector (dim.Fixed 4 ∷ []) elem

abbrev pub two_of : List ℕ → TypeText
two_of elem = type.Vector (dim.Fixed 2 ∷ []) elem

abbrev pub buffer_of : List ℕ → TypeText
buffer_of elem = type.MemRef (size.Fixed 4 ∷ []) elem None

-- %v : vector<4xi32>, %m : vector<4xi1>, %h : vector<2xi1> and %c : i1, and the operations that define them
abbrev pub lanes : BodyArg
lanes = arg (codes "%v") four

abbrev pub flags : BodyArg
flags = arg (codes "%m") truths

abbrev pub two_flags : BodyArg
two_flags = arg (codes "%h") (two_of (codes "i1"))

abbrev pub flag : BodyArg
flag = arg (codes "%c") i1

-- %a = vector.broadcast %b
abbrev pub repeats : BodyArg → BodyArg → Node
repeats a b = named_results (a.name ∷ []) (codes "vector.broadcast") (b ∷ []) [] (a.ty ∷ [])

abbrev pub values : List Node
values =
    named_results (codes "%c" ∷ []) (codes "arith.trunci") (word ∷ []) [] (i1 ∷ [])
    ∷ repeats lanes word ∷ repeats flags flag ∷ repeats two_flags flag ∷ []

-- ---- two operands of one type
abbrev pub binary_names : List (List ℕ)
binary_names =
    codes "arith.addi" ∷ codes "arith.subi" ∷ codes "arith.muli" ∷ codes "arith.divsi" ∷ codes "arith.divui" ∷ codes "arith.remsi" ∷ codes "arith.remui"
    ∷ codes "arith.floordivsi" ∷ codes "arith.ceildivsi" ∷ codes "arith.ceildivui" ∷ codes "arith.andi" ∷ codes "arith.ori" ∷ codes "arith.xori"
    ∷ codes "arith.shli" ∷ codes "arith.shrsi" ∷ codes "arith.shrui" ∷ codes "arith.minsi" ∷ codes "arith.minui" ∷ codes "arith.maxsi" ∷ codes "arith.maxui" ∷ []

-- the operation of each name, with these operands and a result of this type
abbrev pub each_of : List (List ℕ) → List BodyArg → TypeText → List Node
each_of names operands t = map (λ name. gives name operands [] t) names

-- numbers of one type, by themselves or in vectors, and a result of that type; buffers aren't computed with
abbrev pub Binary : Type 0
Binary =
    EachTaken [] (each_of binary_names (word ∷ word ∷ []) i32 ++ each_of binary_names (place ∷ place ∷ []) index)
    × EachTaken values (each_of binary_names (lanes ∷ lanes ∷ []) four)
    × EachRefused [] (each_of binary_names (word ∷ []) i32 ++ each_of binary_names (word ∷ word ∷ word ∷ []) i32) 2
    × EachRefused [] (map (λ name. acts name (word ∷ word ∷ []) []) binary_names) 3
    × EachRefused [] (each_of binary_names (word ∷ place ∷ []) i32 ++ each_of binary_names (word ∷ word ∷ []) i64
    ++ each_of binary_names (cells ∷ cells ∷ []) buffer) 6
    × EachRefused values (each_of binary_names (lanes ∷ word ∷ []) four) 6

-- ---- comparing and choosing
abbrev pub comparing : List BodyArg → Attr → TypeText → Node
comparing operands predicate t = gives (codes "arith.cmpi") operands (entry (codes "predicate") predicate ∷ []) t

-- slt
abbrev pub less : Attr
less = number (pos 2) i64

-- a truth value for each pair of numbers
abbrev pub Comparisons : Type 0
Comparisons =
    EachTaken [] (comparing (word ∷ word ∷ []) less i1 ∷ comparing (place ∷ place ∷ []) less i1 ∷ [])
    × EachTaken values (comparing (lanes ∷ lanes ∷ []) less truths ∷ [])
    × EachRefused [] (comparing (word ∷ []) less i1 ∷ comparing (word ∷ word ∷ word ∷ []) less i1 ∷ []) 2
    × EachRefused [] (comparing (word ∷ place ∷ []) less i1 ∷ comparing (cells ∷ cells ∷ []) less (buffer_of (codes "i1")) ∷ []) 6
    × EachRefused values (comparing (lanes ∷ lanes ∷ []) less i1 ∷ comparing (lanes ∷ lanes ∷ []) less four ∷ comparing (lanes ∷ word ∷ []) less truths ∷ []) 6
    × EachRefused [] (gives (codes "arith.cmpi") (word ∷ word ∷ []) [] i1 ∷ []) 7
    × EachRefused [] (comparing (word ∷ word ∷ []) (number (pos 2) i32) i1 ∷ comparing (word ∷ word ∷ []) (number (negsuc 0) i64) i1 ∷ []) 8

abbrev pub choosing : List BodyArg → TypeText → Node
choosing operands t = gives (codes "arith.select") operands [] t

-- one truth value chooses between any two values of one type, and one for each lane between vectors of as many lanes
abbrev pub Selections : Type 0
Selections =
    EachTaken values (choosing (flag ∷ word ∷ word ∷ []) i32 ∷ choosing (flag ∷ place ∷ place ∷ []) index
    ∷ choosing (flag ∷ lanes ∷ lanes ∷ []) four ∷ choosing (flags ∷ lanes ∷ lanes ∷ []) four ∷ [])
    × EachRefused values (choosing (flag ∷ word ∷ []) i32 ∷ choosing (flag ∷ word ∷ word ∷ word ∷ []) i32 ∷ []) 2
    × EachRefused values (choosing (flag ∷ word ∷ place ∷ []) i32 ∷ choosing (flag ∷ lanes ∷ word ∷ []) four ∷ choosing (flag ∷ word ∷ word ∷ []) i64
    ∷ choosing (flags ∷ word ∷ word ∷ []) i32 ∷ choosing (two_flags ∷ lanes ∷ lanes ∷ []) four
    ∷ choosing (lanes ∷ lanes ∷ lanes ∷ []) four ∷ choosing (flag ∷ cells ∷ cells ∷ []) buffer ∷ []) 6

-- ---- casts
abbrev pub extensions : List (List ℕ)
extensions = codes "arith.extsi" ∷ codes "arith.extui" ∷ []

abbrev pub index_casts : List (List ℕ)
index_casts = codes "arith.index_cast" ∷ codes "arith.index_castui" ∷ []

abbrev pub cast_names : List (List ℕ)
cast_names = extensions ++ codes "arith.trunci" ∷ index_casts

-- the casts of these names, from a value to each of these types
abbrev pub to_each : List (List ℕ) → BodyArg → List TypeText → List Node
to_each names from types = flat_map (λ name. map (λ t. gives name (from ∷ []) [] t) types) names

-- one value is cast, to as many lanes as it has
abbrev pub AllCasts : Type 0
AllCasts =
    EachRefused [] (each_of cast_names [] i64 ++ each_of cast_names (word ∷ word ∷ []) i64) 2
    × EachRefused [] (map (λ name. acts name (word ∷ []) []) cast_names) 3

-- an integer gets more bits; `index` is no integer
abbrev pub Extensions : Type 0
Extensions =
    EachTaken [] (to_each extensions word (i64 ∷ []))
    × EachTaken values (to_each extensions lanes (four_of (codes "i64") ∷ []) ++ to_each extensions flag (i8 ∷ []))
    × EachRefused [] (to_each extensions word (i32 ∷ i8 ∷ index ∷ four_of (codes "i64") ∷ buffer_of (codes "i64") ∷ [])
    ++ to_each extensions place (i64 ∷ []) ++ to_each extensions cells (buffer_of (codes "i64") ∷ [])) 6
    × EachRefused values (to_each extensions lanes (i64 ∷ two_of (codes "i64") ∷ four_of (codes "i8") ∷ [])) 6

-- an integer gets fewer bits
abbrev pub Truncations : Type 0
Truncations =
    EachTaken [] (to_each (codes "arith.trunci" ∷ []) word (i8 ∷ i1 ∷ []))
    × EachTaken values (to_each (codes "arith.trunci" ∷ []) lanes (four_of (codes "i8") ∷ []))
    × EachRefused [] (to_each (codes "arith.trunci" ∷ []) word (i32 ∷ i64 ∷ index ∷ four_of (codes "i8") ∷ [])
    ++ to_each (codes "arith.trunci" ∷ []) place (i8 ∷ []) ++ to_each (codes "arith.trunci" ∷ []) cells (buffer_of (codes "i8") ∷ [])) 6
    × EachRefused values (to_each (codes "arith.trunci" ∷ []) lanes (i8 ∷ two_of (codes "i8") ∷ four_of (codes "i64") ∷ [])) 6

-- between `index` and an integer, in either direction
abbrev pub IndexCasts : Type 0
IndexCasts =
    EachTaken [] (to_each index_casts word (index ∷ []) ++ to_each index_casts place (i8 ∷ i64 ∷ []))
    × EachTaken values (to_each index_casts lanes (four_of (codes "index") ∷ []))
    × EachRefused [] (to_each index_casts word (i32 ∷ i64 ∷ four_of (codes "index") ∷ []) ++ to_each index_casts place (index ∷ [])
    ++ to_each index_casts cells (buffer_of (codes "index") ∷ [])) 6
    × EachRefused values (to_each index_casts lanes (index ∷ two_of (codes "index") ∷ four_of (codes "i64") ∷ [])) 6

-- ---- constants
abbrev pub constant_of : Attr → TypeText → Node
constant_of value t = gives (codes "arith.constant") [] (entry (codes "value") value ∷ []) t

abbrev pub seven : TypeText → Attr
seven t = attr.Dense (element.Number (pos 7)) t

-- a number or a truth value for a scalar, and a list of elements for a vector, written with the type of the result
abbrev pub ConstantTypes : Type 0
ConstantTypes =
    EachTaken [] (constant_of (number (pos 7) index) index ∷ constant_of (attr.Bool true) i1 ∷ constant_of (seven four) four
    ∷ constant_of (attr.Dense (element.Bool true) truths) truths ∷ [])
    × EachRefused [] (gives (codes "arith.constant") (word ∷ []) (entry (codes "value") (number (pos 7) i32) ∷ []) i32 ∷ []) 2
    × EachRefused [] (acts (codes "arith.constant") [] (entry (codes "value") (number (pos 7) i32) ∷ []) ∷ []) 3
    × EachRefused [] (constant_of (number (pos 7) i64) i32 ∷ constant_of (number (pos 7) i32) four ∷ constant_of (number (pos 7) four) four
    ∷ constant_of (attr.Bool true) truths ∷ constant_of (seven i32) i32 ∷ constant_of (seven four) i32 ∷ constant_of (seven four) (four_of (codes "i64"))
    ∷ constant_of (number (pos 7) buffer) buffer ∷ []) 6
    × EachRefused [] (constant_of (attr.Quoted (codes "7")) i32 ∷ constant_of (attr.Array i32 (pos 7 ∷ [])) i32 ∷ []) 8
    × EachRefused [] (constant_of (attr.Dense (element.Bool true) four) four ∷ []) 14

abbrev pub ScalarExamples : Type 0
ScalarExamples = Binary × Comparisons × Selections × AllCasts × Extensions × Truncations × IndexCasts × ConstantTypes
