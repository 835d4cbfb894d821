-- For most operations a tree in which they are taken, and one in which they are refused.
use Rattle.std.specs.Prelude.{ℕ, ℤ, pos, negsuc, true, false, List, [], ◌∷◌, map, codes}
use mathlib.Core.Former.{arity, list, this}
use Rattle.av_tree.specs.declared.attribute.Attr.{Attr}
use Rattle.av_tree.specs.declared.attribute.Attr.TheVariants as attr
use Rattle.av_tree.specs.declared.attribute.Element.{Element, List', Row_of-Element, end_of-Element, more_of-Element}
use Rattle.av_tree.specs.declared.attribute.Element.TheVariants as element
use Rattle.av_tree.specs.declared.node.Node.{Node}
use Rattle.av_tree.specs.declared.written.DimText.TheVariants as dim
use Rattle.av_tree.specs.declared.written.ExprText.TheVariants as expr
use Rattle.av_tree.specs.declared.written.TypeText.{TypeText}
use Rattle.av_tree.specs.declared.written.TypeText.TheVariants as type
use Rattle.av_rules.specs.Examples.{IsRefused, IsTaken}
use Rattle.av_rules.specs.Trees.{add, arg, body, bound, buffer, entry, four, i32, i8, index, number, operation, region, shape, simple, terminator, yield}

abbrev pub i1 : TypeText
i1 = type.Scalar (codes "i1")

abbrev pub i64 : TypeText
i64 = type.Scalar (codes "i64")

-- vector<4xi1>
abbrev pub truths : TypeText
truths = type.Vector (dim.Fixed 4 ∷ []) (codes "i1")

-- %y = arith.cmpi P, %x, %x : i32
abbrev pub compare : ℤ → TypeText → Node
compare p t = simple (codes "arith.cmpi") (codes "%y") (codes "%x" ∷ codes "%x" ∷ []) (entry (codes "predicate") (number p i64) ∷ []) (i32 ∷ i32 ∷ []) t

abbrev pub select : List ℕ → TypeText → Node
select c t = simple (codes "arith.select") (codes "%z") (c ∷ codes "%x" ∷ codes "%x" ∷ []) [] (t ∷ i32 ∷ i32 ∷ []) i32

-- a comparison gives i1, by a predicate from 0 to 9, and a choice takes it
abbrev pub Choices : Type 0
Choices =
    IsTaken (body (compare (pos 9) i1 ∷ select (codes "%y") i1 ∷ []))
    × IsRefused (body (compare (pos 9) i32 ∷ [])) 2 6
    × IsRefused (body (compare (pos 10) i1 ∷ [])) 2 8
    × IsRefused (body (select (codes "%x") i32 ∷ [])) 2 6

abbrev pub cast : List ℕ → TypeText → Node
cast name t = simple name (codes "%y") (codes "%x" ∷ []) [] (i32 ∷ []) t

-- from i32: more bits, fewer bits, and an index
abbrev pub Casts : Type 0
Casts =
    IsTaken (body (cast (codes "arith.extsi") i64 ∷ [])) × IsRefused (body (cast (codes "arith.extui") i8 ∷ [])) 2 6
    × IsTaken (body (cast (codes "arith.trunci") i8 ∷ [])) × IsRefused (body (cast (codes "arith.trunci") i32 ∷ [])) 2 6
    × IsTaken (body (cast (codes "arith.index_cast") index ∷ [])) × IsRefused (body (cast (codes "arith.index_castui") i64 ∷ [])) 2 6
    × IsRefused (body (cast (codes "arith.extsi") index ∷ [])) 2 6

-- ---- loops that carry values
-- a loop over %i that carries %x as %t, and hands on these values
abbrev pub carrying : List (List ℕ) → List TypeText → Node
carrying values types =
    operation (codes "affine.for") (codes "%r" ∷ []) (codes "%x" ∷ [])
    (entry (codes "lowerBoundMap") (bound (pos 0)) ∷ entry (codes "operandSegmentSizes") (attr.Array i32 (pos 0 ∷ pos 0 ∷ pos 1 ∷ []))
    ∷ entry (codes "step") (number (pos 1) index) ∷ entry (codes "upperBoundMap") (bound (pos 4)) ∷ [])
    (region (arg (codes "%i") index ∷ arg (codes "%t") i32 ∷ []) (operation (codes "affine.yield") [] values [] [] types [] ∷ []) ∷ []) (i32 ∷ []) (i32 ∷ [])

abbrev pub counted : List (List ℕ) → Node
counted operands =
    operation (codes "scf.for") [] operands [] (region (arg (codes "%i") index ∷ []) (terminator (codes "scf.yield") ∷ []) ∷ [])
    (map (λ _. index) operands) []

-- the result is visible behind the loop and is what is handed on; a counted loop takes three indices
abbrev pub Loops : Type 0
Loops =
    IsTaken (body (carrying (codes "%t" ∷ []) (i32 ∷ []) ∷ add (codes "%y") (codes "%r") (codes "%x") i32 ∷ []))
    × IsRefused (body (carrying [] [] ∷ [])) 3 2
    × IsRefused (body (carrying (codes "%i" ∷ []) (index ∷ []) ∷ [])) 3 6
    × IsTaken (body (counted (codes "%n" ∷ codes "%n" ∷ codes "%n" ∷ []) ∷ []))
    × IsRefused (body (counted (codes "%n" ∷ codes "%n" ∷ []) ∷ [])) 2 2
    × IsRefused (body (counted (codes "%n" ∷ codes "%n" ∷ codes "%x" ∷ []) ∷ [])) 2 6

-- ---- choices between regions
abbrev pub branch : List TypeText → List Node → Node
branch types other =
    operation (codes "affine.if") (map (λ _. codes "%r") types) (codes "%n" ∷ [])
    (entry (codes "condition") (attr.Set (record { dims = codes "d0" ∷ []; syms = []; rows = record { left = expr.Name (codes "d0"); equal = false } ∷ [] })) ∷ [])
    (region [] (operation (codes "affine.yield") [] (map (λ _. codes "%x") types) [] [] types [] ∷ []) ∷ region [] other ∷ []) (index ∷ []) types

abbrev pub Branches : Type 0
Branches =
    IsTaken (body (branch [] (yield ∷ []) ∷ []))
    × IsTaken (body (branch (i32 ∷ []) (operation (codes "affine.yield") [] (codes "%x" ∷ []) [] [] (i32 ∷ []) [] ∷ []) ∷ []))
    × IsRefused (body (branch (i32 ∷ []) (yield ∷ []) ∷ [])) 4 2
    × IsRefused (body (branch [] [] ∷ [])) 2 12

-- ---- buffers
abbrev pub access : List ℕ → List (List ℕ) → List TypeText → Node
access name operands types = operation name [] operands [] [] types []

abbrev pub Buffers : Type 0
Buffers =
    IsTaken (body (simple (codes "memref.load") (codes "%y") (codes "%A" ∷ codes "%n" ∷ []) [] (buffer ∷ index ∷ []) i32
    ∷ access (codes "memref.store") (codes "%y" ∷ codes "%A" ∷ codes "%n" ∷ []) (i32 ∷ buffer ∷ index ∷ []) ∷ []))
    × IsRefused (body (simple (codes "memref.load") (codes "%y") (codes "%A" ∷ []) [] (buffer ∷ []) i32 ∷ [])) 2 2
    × IsRefused (body (access (codes "memref.store") (codes "%n" ∷ codes "%A" ∷ codes "%n" ∷ []) (index ∷ buffer ∷ index ∷ []) ∷ [])) 2 6
    × IsTaken (body (simple (codes "memref.dim") (codes "%y") (codes "%A" ∷ codes "%n" ∷ []) [] (buffer ∷ index ∷ []) index ∷ []))
    × IsRefused (body (simple (codes "memref.dim") (codes "%y") (codes "%x" ∷ codes "%n" ∷ []) [] (i32 ∷ index ∷ []) index ∷ [])) 2 6

-- ---- vectors
-- %v = vector.load %A[%n]
abbrev pub load_four : TypeText → Node
load_four t = simple (codes "vector.load") (codes "%v") (codes "%A" ∷ codes "%n" ∷ []) [] (buffer ∷ index ∷ []) t

abbrev pub mask : Node
mask = simple (codes "vector.create_mask") (codes "%m") (codes "%n" ∷ []) [] (index ∷ []) truths

abbrev pub Lanes : Type 0
Lanes =
    IsTaken (body (load_four four ∷ mask
    ∷ simple (codes "vector.maskedload") (codes "%w") (codes "%A" ∷ codes "%n" ∷ codes "%m" ∷ codes "%v" ∷ []) [] (buffer ∷ index ∷ truths ∷ four ∷ []) four
    ∷ access (codes "vector.maskedstore") (codes "%A" ∷ codes "%n" ∷ codes "%m" ∷ codes "%w" ∷ []) (buffer ∷ index ∷ truths ∷ four ∷ [])
    ∷ access (codes "vector.store") (codes "%w" ∷ codes "%A" ∷ codes "%n" ∷ []) (four ∷ buffer ∷ index ∷ []) ∷ []))
    × IsRefused (body (load_four truths ∷ [])) 2 6
    × IsRefused (body (simple (codes "vector.create_mask") (codes "%m") (codes "%n" ∷ []) [] (index ∷ []) (type.Vector [] (codes "i1")) ∷ [])) 2 6
    × IsRefused (body (simple (codes "vector.create_mask") (codes "%m") [] [] [] truths ∷ [])) 2 2
    × IsRefused (body (load_four four
    ∷ simple (codes "vector.maskedload") (codes "%w") (codes "%A" ∷ codes "%n" ∷ codes "%v" ∷ codes "%v" ∷ []) [] (buffer ∷ index ∷ four ∷ four ∷ []) four ∷ [])) 3 6

abbrev pub of_numbers : List ℕ → List ℤ → List (List ℕ) → List ℕ → List TypeText → TypeText → Node
of_numbers property numbers operands name ins out = simple name (codes "%y") operands (entry property (attr.Array i64 numbers) ∷ []) ins out

abbrev pub extract : List ℤ → TypeText → Node
extract at t = of_numbers (codes "static_position") at (codes "%v" ∷ []) (codes "vector.extract") (four ∷ []) t

abbrev pub shuffle : List ℤ → ℕ → Node
shuffle picks lanes = of_numbers (codes "mask") picks (codes "%v" ∷ codes "%v" ∷ []) (codes "vector.shuffle") (four ∷ four ∷ []) (type.Vector (dim.Fixed lanes ∷ []) (codes "i32"))

abbrev pub Positions : Type 0
Positions =
    IsTaken (body (load_four four ∷ extract (pos 3 ∷ []) i32 ∷ []))
    × IsRefused (body (load_four four ∷ extract (pos 3 ∷ []) four ∷ [])) 3 6
    × IsRefused (body (load_four four ∷ extract (pos 3 ∷ pos 0 ∷ []) i32 ∷ [])) 3 9
    × IsRefused (body (load_four four ∷ extract (pos 4 ∷ []) i32 ∷ [])) 3 14
    × IsTaken (body (load_four four ∷ of_numbers (codes "static_position") (pos 0 ∷ []) (codes "%x" ∷ codes "%v" ∷ []) (codes "vector.insert") (i32 ∷ four ∷ []) four ∷ []))
    × IsTaken (body (load_four four ∷ shuffle (pos 0 ∷ pos 7 ∷ []) 2 ∷ []))
    × IsRefused (body (load_four four ∷ shuffle (pos 0 ∷ pos 8 ∷ []) 2 ∷ [])) 3 14
    × IsRefused (body (load_four four ∷ shuffle [] 0 ∷ [])) 3 6

-- vector.reduction <add>
abbrev pub reduction : List (List ℕ) → List TypeText → List ℕ → Node
reduction operands ins word =
    simple (codes "vector.reduction") (codes "%y") operands (entry (codes "kind") (attr.Hash (codes "#vector.kind") (word ∷ [])) ∷ []) ins i32

abbrev pub Reductions : Type 0
Reductions =
    IsTaken (body (load_four four ∷ reduction (codes "%v" ∷ []) (four ∷ []) (codes "add") ∷ []))
    × IsTaken (body (load_four four ∷ reduction (codes "%v" ∷ codes "%x" ∷ []) (four ∷ i32 ∷ []) (codes "maxui") ∷ []))
    × IsRefused (body (load_four four ∷ reduction (codes "%v" ∷ codes "%n" ∷ []) (four ∷ index ∷ []) (codes "add") ∷ [])) 3 6
    × IsRefused (body (load_four four ∷ reduction (codes "%v" ∷ []) (four ∷ []) (codes "sub") ∷ [])) 3 8
    × IsTaken (body (simple (codes "vector.step") (codes "%y") [] [] [] (type.Vector (dim.Scalable 4 ∷ []) (codes "index"))
    ∷ simple (codes "vector.vscale") (codes "%s") [] [] [] index ∷ []))
    × IsRefused (body (simple (codes "vector.step") (codes "%y") [] [] [] four ∷ [])) 2 6

-- ---- constants of vectors
abbrev pub row_of_elements : (items : List Element) → Row_of-Element (arity (list this) (shape items))
row_of_elements [] = end_of-Element
row_of_elements (item ∷ items) = more_of-Element item (row_of_elements items)

abbrev pub dense : Element → TypeText → Node
dense elements t = simple (codes "arith.constant") (codes "%y") [] (entry (codes "value") (attr.Dense elements t) ∷ []) [] t

abbrev pub numbers : List ℤ → Element
numbers ns = List' (shape (map (λ n. element.Number n) ns)) (row_of_elements (map (λ n. element.Number n) ns))

-- one number for all, one for each, one too few, and on a scaled vector different ones
abbrev pub Elements : Type 0
Elements =
    IsTaken (body (dense (element.Number (negsuc 0)) four ∷ []))
    × IsTaken (body (dense (numbers (pos 1 ∷ pos 2 ∷ pos 3 ∷ pos 4 ∷ [])) four ∷ []))
    × IsRefused (body (dense (numbers (pos 1 ∷ pos 2 ∷ pos 3 ∷ [])) four ∷ [])) 2 14
    × IsRefused (body (dense (numbers (pos 1 ∷ pos 2 ∷ [])) (type.Vector (dim.Scalable 2 ∷ []) (codes "i32")) ∷ [])) 2 14
    × IsTaken (body (dense (numbers (pos 255 ∷ negsuc 0 ∷ [])) (type.Vector (dim.Scalable 2 ∷ []) (codes "i8")) ∷ []))
    × IsRefused (body (simple (codes "arith.constant") (codes "%y") [] (entry (codes "value") (attr.Bool true) ∷ []) [] i32 ∷ [])) 2 14

-- ---- marks
abbrev pub marked : List ℕ → Attr → Node
marked name value =
    simple (codes "memref.load") (codes "%y") (codes "%A" ∷ codes "%n" ∷ []) (entry name value ∷ []) (buffer ∷ index ∷ []) i32

-- a mark in its place is a number of type i64 that isn't negative; elsewhere it is dropped
abbrev pub Marks : Type 0
Marks =
    IsTaken (body (marked (codes "affvec.of") (number (pos 3) i64) ∷ []))
    × IsRefused (body (marked (codes "affvec.of") (number (pos 3) i32) ∷ [])) 2 8
    × IsRefused (body (marked (codes "affvec.of") (number (negsuc 0) i64) ∷ [])) 2 8
    × IsTaken (body (marked (codes "affvec.loop") (number (negsuc 0) i32) ∷ []))

abbrev pub RowExamples : Type 0
RowExamples = Choices × Casts × Loops × Branches × Buffers × Lanes × Positions × Reductions × Elements × Marks
