-- The edges of limits, what may be a symbol, aliases, what stands twice, and which of two faults is answered.
use Rattle.std.specs.Prelude.{ℕ, zero, suc, ◌≡◌, pos, Bool, true, false, List, [], ◌∷◌, ◌++◌, map, Some, None, codes}
use Rattle.std.specs.List.{range_with_len}
use Rattle.av_tree.specs.declared.attribute.Alias.{Alias}
use Rattle.av_tree.specs.declared.attribute.Attr.TheVariants as attr
use Rattle.av_tree.specs.declared.attribute.Named.{Named}
use Rattle.av_tree.specs.declared.node.Node.{Node, Node', end_of-Body}
use Rattle.av_tree.specs.declared.node.Tree.{Tree}
use Rattle.av_tree.specs.declared.written.ExprText.{ExprText}
use Rattle.av_tree.specs.declared.written.ExprText.TheVariants as expr
use Rattle.av_tree.specs.declared.written.SizeText.TheVariants as size
use Rattle.av_tree.specs.declared.written.TypeText.{TypeText}
use Rattle.av_tree.specs.declared.written.TypeText.TheVariants as type
use Rattle.av_rules.specs.declared.mode.Mode.{Mode}
use Rattle.av_rules.specs.declared.mode.Mode.TheVariants as mode
use Rattle.av_rules.specs.Examples.{IsRefused, IsTaken}
use Rattle.av_rules.specs.Fails.{least}
use Rattle.av_rules.specs.Limits.{is_small}
use Rattle.av_rules.specs.Sites.{first_site}
use Rattle.av_rules.specs.Trees.{add, apply, arg, body, bound, buffer, constant, d0, entry, function, i32, i8, index, loop, loop_over, map_over, number, operation, region, simple, terminator, tree_of, yield}

-- ---- limits
-- a name of its own for each number
abbrev counter : ℕ → List ℕ
counter zero = codes "%i"
counter (suc n) = counter n ++ codes "i"

-- so many loops within each other
abbrev nest : ℕ → List Node
nest zero = []
nest (suc n) = loop_over (counter n) (number (pos 1) index) (pos 0 ∷ pos 0 ∷ pos 0 ∷ []) (nest n ++ yield ∷ []) ∷ []

abbrev pub small_shape : Mode
small_shape = mode.Scalar (record { sizes = 4 ∷ []; scalable = false })

-- with the regions of the module and of the function 32 in Scalar mode, and 40 in the others
abbrev pub Nesting : Type 0
Nesting =
    (least (body (nest 30)) small_shape ≡ None) × (least (body (nest 31)) small_shape ≡ Some (record { operation = 32; code = 17 }))
    × IsTaken (body (nest 38)) × IsRefused (body (nest 39)) 40 17

-- a function with an argument of so many sizes, and one with a size
abbrev of_sizes : List ℕ → Tree
of_sizes sizes =
    tree_of (function (codes "f") (type.MemRef (map (λ n. size.Fixed n) sizes) (codes "i32") None ∷ [])
    (arg (codes "%A") (type.MemRef (map (λ n. size.Fixed n) sizes) (codes "i32") None) ∷ []) (terminator (codes "func.return") ∷ []) ∷ [])

abbrev pub Sizes : Type 0
Sizes =
    IsTaken (of_sizes (1 ∷ 1 ∷ 1 ∷ 1 ∷ 1 ∷ 1 ∷ 1 ∷ 1 ∷ [])) × IsRefused (of_sizes (1 ∷ 1 ∷ 1 ∷ 1 ∷ 1 ∷ 1 ∷ 1 ∷ 1 ∷ 1 ∷ [])) 1 17
    × IsTaken (of_sizes (0x7FFF_FFFF ∷ [])) × IsRefused (of_sizes (0x8000_0000 ∷ [])) 1 17

-- 2,048 operations by 256 lanes are 2 ^ 19, and 2,049 are too many
abbrev large_shape : Mode
large_shape = mode.Scalar (record { sizes = 64 ∷ 4 ∷ []; scalable = false })

abbrev so_many : ℕ → Bool
so_many n = is_small (map (λ _. first_site (body []) large_shape) (range_with_len 0 n)) large_shape

abbrev pub Operations : Type 0
Operations = (so_many 2048 ≡ true) × (so_many 2049 ≡ false)

-- ---- symbols
-- () [s0] -> (s0)
abbrev of_symbol : List ℕ → Node
of_symbol value =
    simple (codes "affine.apply") (codes "%s") (value ∷ [])
    (entry (codes "map") (attr.Map (record { dims = []; syms = codes "s0" ∷ []; results = expr.Name (codes "s0") ∷ [] })) ∷ []) (index ∷ []) index

abbrev sum : List ℕ → Node
sum value = add (codes "%t") value value index

-- an argument, what is computed directly in the body and a constant are symbols; a loop's counter and what is computed in the loop aren't; and
-- what is applied to a counter is a dimension, and no symbol
abbrev pub Symbols : Type 0
Symbols =
    IsTaken (body (sum (codes "%n") ∷ loop (of_symbol (codes "%t") ∷ yield ∷ []) ∷ []))
    × IsTaken (body (loop (constant (codes "%c") (pos 1) index ∷ of_symbol (codes "%c") ∷ yield ∷ []) ∷ []))
    × IsRefused (body (loop (of_symbol (codes "%i") ∷ yield ∷ []) ∷ [])) 3 10
    × IsRefused (body (loop (sum (codes "%n") ∷ of_symbol (codes "%t") ∷ yield ∷ []) ∷ [])) 4 10
    × IsRefused (body (loop (apply (codes "%y") (codes "%i" ∷ []) d0 ∷ of_symbol (codes "%y") ∷ yield ∷ []) ∷ [])) 4 10

-- ---- aliases
abbrev alias : List ℕ → ExprText → Alias
alias name e = record { name = name; value = map_over e }

abbrev with_aliases : List Alias → Tree
with_aliases aliases =
    record (body (simple (codes "affine.apply") (codes "%y") (codes "%n" ∷ []) (entry (codes "map") (attr.AliasUse (codes "#m")) ∷ []) (index ∷ []) index ∷ [])) { aliases = aliases }

-- an alias that is used is defined once; what no operation has is asked for nothing
abbrev pub Aliases : Type 0
Aliases =
    IsTaken (with_aliases (alias (codes "#m") d0 ∷ alias (codes "#k") (expr.Mul d0 d0) ∷ []))
    × IsRefused (with_aliases []) 2 8 × IsRefused (with_aliases (alias (codes "#m") d0 ∷ alias (codes "#m") d0 ∷ [])) 2 8
    × IsRefused (with_aliases (alias (codes "#m") (expr.Mul d0 d0) ∷ [])) 2 15

-- ---- twice
abbrev marked : List Named → Tree
marked entries =
    body (simple (codes "memref.load") (codes "%y") (codes "%A" ∷ codes "%n" ∷ []) entries (buffer ∷ index ∷ []) i32 ∷ [])

-- a mark stands once, and what is dropped as often as it likes
abbrev pub Twice : Type 0
Twice =
    IsRefused (marked (entry (codes "affvec.of") (number (pos 1) (type.Scalar (codes "i64"))) ∷ entry (codes "affvec.of") (number (pos 1) (type.Scalar (codes "i64"))) ∷ [])) 2 8
    × IsTaken (marked (entry (codes "nontemporal") attr.Unit ∷ entry (codes "nontemporal") attr.Unit ∷ []))
    × IsTaken (marked (entry (codes "a.b") (number (pos 1) (type.Scalar (codes "i7"))) ∷ []))

-- ---- order
-- the earlier of two operations, and the smaller of two codes at one
abbrev pub Order : Type 0
Order =
    IsRefused (body (constant (codes "%y") (pos 256) i8 ∷ terminator (codes "arith.addf") ∷ [])) 2 14
    × IsRefused (body (terminator (codes "arith.addf") ∷ constant (codes "%y") (pos 256) i8 ∷ [])) 2 1
    × IsRefused (body (constant (codes "%x") (pos 256) i8 ∷ [])) 2 5
    × IsRefused (body (simple (codes "affine.apply") (codes "%y") (codes "%n" ∷ codes "%n" ∷ []) (entry (codes "map") (map_over (expr.Mul d0 d0)) ∷ []) (index ∷ index ∷ []) index ∷ [])) 2 9

-- ---- what isn't written
-- %t = arith.constant true
abbrev truth : Node
truth = Node' (codes "arith.constant") 0 (codes "%t" ∷ []) [] (entry (codes "value") (attr.Bool true) ∷ []) [] [] end_of-Body [] (None ∷ [])

-- a truth value is of type i1, and of no other
abbrev pub Truths : Type 0
Truths =
    IsTaken (body (truth ∷ add (codes "%y") (codes "%t") (codes "%t") (type.Scalar (codes "i1")) ∷ []))
    × IsRefused (body (truth ∷ add (codes "%y") (codes "%t") (codes "%x") i32 ∷ [])) 3 6

-- ---- names of functions
-- a name that stands before is told even of a function that may not stand where it does
abbrev pub Functions : Type 0
Functions =
    IsRefused (body (function (codes "f") [] [] (terminator (codes "func.return") ∷ []) ∷ [])) 2 16
    × IsRefused (body (function (codes "g") [] [] (terminator (codes "func.return") ∷ []) ∷ [])) 2 18

-- ---- loops whose counts say more than there is
abbrev counting : List ℕ → List Named → List TypeText → Node
counting result entries outs =
    operation (codes "affine.for") (result ∷ []) []
    (entry (codes "lowerBoundMap") (bound (pos 0)) ∷ entry (codes "step") (number (pos 1) index) ∷ entry (codes "upperBoundMap") (bound (pos 4)) ∷ entries)
    (region (arg (codes "%i") index ∷ arg (codes "%t") i32 ∷ []) (operation (codes "affine.yield") [] (codes "%t" ∷ []) [] [] (i32 ∷ []) [] ∷ []) ∷ []) [] outs

abbrev one_carried : List Named
one_carried = entry (codes "operandSegmentSizes") (attr.Array i32 (pos 0 ∷ pos 0 ∷ pos 1 ∷ [])) ∷ []

-- a result for each value that is said to be carried, with its type; the value itself lacks. Where nothing is said there are no more
-- results than operands
abbrev pub Counted : Type 0
Counted =
    IsRefused (body (counting (codes "%r") one_carried [] ∷ [])) 2 6 × IsRefused (body (counting (codes "%r") one_carried (i32 ∷ []) ∷ [])) 2 9
    × IsRefused (body (counting (codes "%r:99999999999999999999999999999999999999") [] [] ∷ [])) 2 3

abbrev pub EdgeExamples : Type 0
EdgeExamples = Nesting × Sizes × Operations × Symbols × Aliases × Twice × Order × Truths × Functions × Counted
