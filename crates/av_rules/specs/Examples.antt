-- For each code a tree that is refused for it, beside one that is taken.
use Rattle.std.specs.Prelude.{ℕ, ◌+◌, ◌≡◌, pos, negsuc, false, List, [], ◌∷◌, ◌++◌, length, map, Some, None, codes}
use Rattle.av_tree.specs.declared.attribute.Attr.TheVariants as attr
use Rattle.av_tree.specs.declared.node.Node.{Node}
use Rattle.av_tree.specs.declared.node.Tree.{Tree}
use Rattle.av_tree.specs.declared.written.DimText.TheVariants as dim
use Rattle.av_tree.specs.declared.written.ExprText.TheVariants as expr
use Rattle.av_tree.specs.declared.written.TypeText.{TypeText}
use Rattle.av_tree.specs.declared.written.TypeText.TheVariants as type
use Rattle.av_rules.specs.declared.mode.Mode.TheVariants as mode
use Rattle.av_rules.specs.Fails.{least}
use Rattle.av_rules.specs.Trees.{add, apply, body, buffer, constant, d0, entry, four, function, i32, i8, index, load, loop, loop_with, map_over, number, operation, region, simple, terminator, tree_of, yield}

-- a tree breaks no rule where it is to be run
abbrev pub IsTaken : Tree → Type 0
IsTaken tree = least tree mode.Run ≡ None

-- the least pair that fails
abbrev pub IsRefused : Tree → ℕ → ℕ → Type 0
IsRefused tree k c = least tree mode.Run ≡ Some (record { operation = k; code = c })

-- the same of each of some trees
abbrev pub AreTaken : List Tree → Type 0
AreTaken trees = map (λ tree. least tree mode.Run) trees ≡ map (λ _. None) trees

abbrev pub AreRefused : List Tree → ℕ → ℕ → Type 0
AreRefused trees k c = map (λ tree. least tree mode.Run) trees ≡ map (λ _. Some (record { operation = k; code = c })) trees

-- each of some operations is taken in a function's body, behind those before it; and each is refused there for a code
abbrev pub EachTaken : List Node → List Node → Type 0
EachTaken before nodes = AreTaken (map (λ node. body (before ++ node ∷ [])) nodes)

abbrev pub EachRefused : List Node → List Node → ℕ → Type 0
EachRefused before nodes c = AreRefused (map (λ node. body (before ++ node ∷ [])) nodes) (2 + length before) c

-- V1: arith.addf is no operation
abbrev pub Unknown : Type 0
Unknown = IsTaken (body []) × IsRefused (body (terminator (codes "arith.addf") ∷ [])) 2 1

-- V2, V3: an addition of one value, and one without a name
abbrev pub Counts : Type 0
Counts =
    IsTaken (body (add (codes "%y") (codes "%x") (codes "%x") i32 ∷ []))
    × IsRefused (body (simple (codes "arith.addi") (codes "%y") (codes "%x" ∷ []) [] (i32 ∷ []) i32 ∷ [])) 2 2
    × IsRefused (body (operation (codes "arith.addi") [] (codes "%x" ∷ codes "%x" ∷ []) [] [] (i32 ∷ i32 ∷ []) (i32 ∷ []) ∷ [])) 2 3
    × IsTaken (body (add (codes "%y:1") (codes "%x") (codes "%x") i32 ∷ add (codes "%z") (codes "%y#0") (codes "%x") i32 ∷ []))
    × IsRefused (body (add (codes "%y:2") (codes "%x") (codes "%x") i32 ∷ [])) 2 3

-- V4, V5: a value before its definition, one of a region behind it, and a name a second time
abbrev pub Names : Type 0
Names =
    IsRefused (body (add (codes "%y") (codes "%z") (codes "%x") i32 ∷ constant (codes "%z") (pos 1) i32 ∷ [])) 2 4
    × IsRefused (body (loop (load (codes "%i") ∷ yield ∷ []) ∷ add (codes "%y") (codes "%v") (codes "%x") i32 ∷ [])) 5 4
    × IsRefused (body (constant (codes "%x") (pos 1) i32 ∷ [])) 2 5
    × IsTaken (body (loop (load (codes "%i") ∷ yield ∷ []) ∷ constant (codes "%v") (pos 1) i32 ∷ []))

-- V6: an integer and an index, a type that there is not, a result of another type, and a step of it
abbrev pub Types : Type 0
Types =
    IsRefused (body (simple (codes "arith.addi") (codes "%y") (codes "%x" ∷ codes "%n" ∷ []) [] (i32 ∷ index ∷ []) i32 ∷ [])) 2 6
    × IsRefused (body (constant (codes "%y") (pos 1) (type.Scalar (codes "i7")) ∷ [])) 2 6
    × IsRefused (body (simple (codes "arith.addi") (codes "%y") (codes "%x" ∷ codes "%x" ∷ []) [] (i32 ∷ i32 ∷ []) i8 ∷ [])) 2 6
    × IsRefused (body (loop_with (number (pos 1) (type.Scalar (codes "i7"))) (pos 0 ∷ pos 0 ∷ pos 0 ∷ []) (yield ∷ []) ∷ [])) 2 6

-- V7, V8: a constant without its value; with a property that it doesn't have; and a value twice
abbrev pub Properties : Type 0
Properties =
    IsRefused (body (simple (codes "arith.constant") (codes "%y") [] [] [] i32 ∷ [])) 2 7
    × IsRefused (body (simple (codes "arith.constant") (codes "%y") []
    (entry (codes "value") (number (pos 1) i32) ∷ entry (codes "step") (number (pos 1) index) ∷ []) [] i32 ∷ [])) 2 8
    × IsRefused (body (simple (codes "arith.constant") (codes "%y") []
    (entry (codes "value") (number (pos 1) i32) ∷ entry (codes "value") (number (pos 1) i32) ∷ []) [] i32 ∷ [])) 2 8
    × IsTaken (body (simple (codes "arith.constant") (codes "%y") []
    (entry (codes "value") (number (pos 1) i32) ∷ entry (codes "fastmath") attr.Unit ∷ entry (codes "a.b") attr.Unit ∷ []) [] i32 ∷ []))

-- V9, V10: a map of one parameter at two values, and at one that is no index; a loop's counter may stand there
abbrev pub Maps : Type 0
Maps =
    IsTaken (body (apply (codes "%y") (codes "%n" ∷ []) d0 ∷ []))
    × IsRefused (body (apply (codes "%y") (codes "%n" ∷ codes "%n" ∷ []) d0 ∷ [])) 2 9
    × IsRefused (body (simple (codes "affine.apply") (codes "%y") (codes "%x" ∷ []) (entry (codes "map") (map_over d0) ∷ []) (i32 ∷ []) index ∷ [])) 2 10
    × IsTaken (body (loop (apply (codes "%y") (codes "%i" ∷ []) d0 ∷ load (codes "%y") ∷ yield ∷ []) ∷ []))

-- V11: a step of 0; and three results too many, which is asked before
abbrev pub Steps : Type 0
Steps =
    IsRefused (body (loop_with (number (pos 0) index) (pos 0 ∷ pos 0 ∷ pos 0 ∷ []) (yield ∷ []) ∷ [])) 2 11
    × IsRefused (body (loop_with (number (pos 1) index) (pos 0 ∷ pos 0 ∷ pos 1 ∷ []) (yield ∷ []) ∷ [])) 2 3

-- V12, V13: a loop that ends with another terminator, one in a function's body, a region too many, and an argument that lacks
abbrev pub Regions : Type 0
Regions =
    IsRefused (body (loop (terminator (codes "scf.yield") ∷ []) ∷ [])) 2 12
    × IsRefused (body (yield ∷ [])) 2 12
    × IsRefused (body (operation (codes "arith.addi") (codes "%y" ∷ []) (codes "%x" ∷ codes "%x" ∷ []) [] (region [] [] ∷ []) (i32 ∷ i32 ∷ []) (i32 ∷ []) ∷ [])) 2 13
    × IsRefused (tree_of (function (codes "f") (buffer ∷ []) [] (terminator (codes "func.return") ∷ []) ∷ [])) 1 13

-- V14: 256 doesn't fit i8, and 255 and -128 do
abbrev pub Constants : Type 0
Constants =
    IsRefused (body (constant (codes "%y") (pos 256) i8 ∷ [])) 2 14
    × IsTaken (body (constant (codes "%y") (pos 255) i8 ∷ constant (codes "%z") (negsuc 127) i8 ∷ []))
    × IsRefused (body (constant (codes "%y") (negsuc 128) i8 ∷ [])) 2 14

-- V15: d0 * d0, and a name that is no parameter
abbrev pub Expressions : Type 0
Expressions =
    IsRefused (body (apply (codes "%y") (codes "%n" ∷ []) (expr.Mul d0 d0) ∷ [])) 2 15
    × IsRefused (body (apply (codes "%y") (codes "%n" ∷ []) (expr.Name (codes "d1")) ∷ [])) 2 15
    × IsTaken (body (apply (codes "%y") (codes "%n" ∷ []) (expr.Mul d0 (expr.Const (pos 3))) ∷ []))

-- V16: two functions of one name
abbrev plain : List ℕ → Node
plain name = function name [] [] (terminator (codes "func.return") ∷ [])

abbrev pub Functions : Type 0
Functions =
    IsTaken (tree_of (plain (codes "f") ∷ plain (codes "g") ∷ []))
    × IsRefused (tree_of (plain (codes "f") ∷ plain (codes "g") ∷ plain (codes "f") ∷ [])) 5 16

-- V17, V18, V19: too many lanes, a function in a function, vectors in Scalar mode, and a scalable dimension before another one
abbrev broadcast : TypeText → Node
broadcast t = simple (codes "vector.broadcast") (codes "%y") (codes "%x" ∷ []) [] (i32 ∷ []) t

abbrev pub Limits : Type 0
Limits =
    IsTaken (body (broadcast four ∷ []))
    × IsRefused (body (broadcast (type.Vector (dim.Fixed 257 ∷ []) (codes "i32")) ∷ [])) 2 17
    × IsRefused (body (plain (codes "g") ∷ [])) 2 18
    × (least (body (broadcast four ∷ [])) (mode.Scalar (record { sizes = 4 ∷ []; scalable = false })) ≡ Some (record { operation = 2; code = 18 }))
    × (least (body (broadcast (type.Vector (dim.Scalable 4 ∷ dim.Fixed 4 ∷ []) (codes "i32")) ∷ [])) mode.Vector ≡ Some (record { operation = 2; code = 19 }))

abbrev pub RuleExamples : Type 0
RuleExamples =
    Unknown × Counts × Names × Types × Properties × Maps × Steps × Regions × Constants × Expressions × Functions × Limits
