-- Operations that have regions, and those that end regions, as they are taken and as they are refused.
use Rattle.std.specs.Prelude.{ℕ, not, pos, true, List, [], ◌∷◌, ◌++◌, map, codes}
use Rattle.std.specs.List.{filter}
use Rattle.av_tree.specs.declared.attribute.Attr.{Attr}
use Rattle.av_tree.specs.declared.attribute.Attr.TheVariants as attr
use Rattle.av_tree.specs.declared.attribute.Named.{Named}
use Rattle.av_tree.specs.declared.node.Body.{Body}
use Rattle.av_tree.specs.declared.node.BodyArg.{BodyArg}
use Rattle.av_tree.specs.declared.node.Node.{Node}
use Rattle.av_tree.specs.declared.node.Tree.{Tree}
use Rattle.av_tree.specs.declared.written.ExprText.{ExprText}
use Rattle.av_tree.specs.declared.written.ExprText.TheVariants as expr
use Rattle.av_tree.specs.declared.written.TypeText.{TypeText, Func'}
use Rattle.av_rules.specs.Entries.{is_entry}
use Rattle.av_rules.specs.Examples.{AreRefused, AreTaken, EachRefused, EachTaken, IsRefused, IsTaken}
use Rattle.av_rules.specs.RowExamples.{i64}
use Rattle.av_rules.specs.ScalarExamples.{lanes}
use Rattle.av_rules.specs.Trees.{acts, arg, body, buffer, cells, constant, d0, entry, four, gives, i32, index, loop, map_over, number, operation, place, region, row_of_types, shape, terminator, tree_of, word, yield}

-- ---- operations with regions
-- NAME(operands) <{properties}> (regions), with these results of these types
abbrev pub holding : List (List ℕ) → List ℕ → List BodyArg → List Named → List Body → List TypeText → Node
holding results name operands properties regions outs =
    operation name results (map (λ (a : BodyArg). a.name) operands) properties regions (map (λ (a : BodyArg). a.ty) operands) outs

-- properties without one of a name, and with another value for one; and so for each one in turn, a unit as its value
abbrev pub lacking : List Named → List ℕ → List Named
lacking properties name = filter (λ e. not (is_entry name e)) properties

abbrev pub changed : List Named → Named → List Named
changed properties e = lacking properties e.name ++ e ∷ []

abbrev pub each_lacking : List Named → List (List Named)
each_lacking properties = map (λ (e : Named). lacking properties e.name) properties

abbrev pub each_spoilt : List Named → List (List Named)
each_spoilt properties = map (λ (e : Named). changed properties (entry e.name attr.Unit)) properties

-- a terminator with these operands
abbrev pub ending : List ℕ → List BodyArg → Node
ending name operands = acts name operands []

-- ---- the module
abbrev pub module_with : List (List ℕ) → List (List ℕ) → List Named → List Body → Tree
module_with results operands entries regions = record { aliases = []; root = operation (codes "builtin.module") results operands entries regions [] [] }

-- one region of functions, without arguments; what a module has besides is dropped; and it is in nothing
abbrev pub Modules : Type 0
Modules =
    IsTaken (tree_of []) × IsTaken (module_with [] [] (entry (codes "any") attr.Unit ∷ []) (region [] [] ∷ []))
    × IsRefused (module_with [] (codes "%x" ∷ []) [] (region [] [] ∷ [])) 0 2 × IsRefused (module_with (codes "%x" ∷ []) [] [] (region [] [] ∷ [])) 0 3
    × IsRefused (module_with [] [] [] []) 0 13 × IsRefused (module_with [] [] [] (region [] [] ∷ region [] [] ∷ [])) 0 13
    × IsRefused (module_with [] [] [] (region (place ∷ []) [] ∷ [])) 0 13
    × IsRefused (tree_of ((tree_of []).root ∷ [])) 1 18 × IsRefused (body ((tree_of []).root ∷ [])) 2 18
    × IsRefused (tree_of (constant (codes "%y") (pos 7) i32 ∷ [])) 1 18 × IsRefused (tree_of (terminator (codes "func.return") ∷ [])) 1 12

-- ---- functions
abbrev pub returning : List BodyArg → Node
returning operands = ending (codes "func.return") operands

abbrev pub typed : List TypeText → List TypeText → Named
typed inputs results = entry (codes "function_type") (attr.«Type» (Func' (shape inputs) (row_of_types inputs) (shape results) (row_of_types results)))

abbrev pub named : List ℕ → Named
named name = entry (codes "sym_name") (attr.Quoted name)

-- a module of one function, with these properties and regions
abbrev pub of_function : List Named → List Body → Tree
of_function properties regions = tree_of (holding [] (codes "func.func") [] properties regions [] ∷ [])

-- a function that does nothing
abbrev pub idle : List Named → Tree
idle properties = of_function properties (region [] (returning [] ∷ []) ∷ [])

abbrev pub plain : List Named
plain = typed [] [] ∷ named (codes "f") ∷ []

-- a type, and a name that is spelled as a symbol; a unit may mark buffers that are apart
abbrev pub FunctionProperties : Type 0
FunctionProperties =
    AreTaken (map (λ name. idle (typed [] [] ∷ named name ∷ [])) (codes "f" ∷ codes "12" ∷ codes "a-b.c$_" ∷ []))
    × AreTaken (map (λ name. idle (entry name attr.Unit ∷ plain)) (codes "affvec.distinct" ∷ codes "sym_visibility" ∷ []))
    × AreRefused (map idle (each_lacking plain)) 1 7
    × AreRefused (map idle (each_spoilt plain ++ changed plain (entry (codes "function_type") (attr.«Type» i32)) ∷ [])) 1 8
    × AreRefused (map (λ name. idle (typed [] [] ∷ named name ∷ [])) ([] ∷ codes "1a" ∷ codes "a b" ∷ [])) 1 8
    × AreRefused (map (λ e. idle (e ∷ plain)) (entry (codes "affvec.distinct") (number (pos 1) i64) ∷ entry (codes "inline") attr.Unit ∷ [])) 1 8
    × EachRefused [] (gives (codes "arith.addi") (word ∷ word ∷ []) (entry (codes "sym_visibility") attr.Unit ∷ []) i32 ∷ []) 8

-- a function of these inputs and results, whose region has these arguments and operations
abbrev pub with_type : List TypeText → List TypeText → List BodyArg → List Node → Tree
with_type inputs results args nodes = of_function (typed inputs results ∷ named (codes "f") ∷ []) (region args nodes ∷ [])

-- and one that returns some of its arguments
abbrev pub giving_back : List BodyArg → List BodyArg → List TypeText → Tree
giving_back args operands results = with_type (map (λ (a : BodyArg). a.ty) args) results args (returning operands ∷ [])

abbrev pub returns_only : Body
returns_only = region [] (returning [] ∷ [])

-- no operand and no result; one region, with the inputs as arguments; no vectors, and no buffers as results
abbrev pub FunctionBodies : Type 0
FunctionBodies =
    AreTaken (giving_back (word ∷ cells ∷ []) [] [] ∷ giving_back (word ∷ []) (word ∷ []) (i32 ∷ []) ∷ [])
    × IsRefused (tree_of (holding [] (codes "func.func") (word ∷ []) plain (returns_only ∷ []) [] ∷ [])) 1 2
    × IsRefused (tree_of (holding (codes "%y" ∷ []) (codes "func.func") [] plain (returns_only ∷ []) [] ∷ [])) 1 3
    × IsRefused (with_type (i64 ∷ []) [] (word ∷ []) (returning [] ∷ [])) 1 6
    × AreRefused (with_type [] [] [] [] ∷ with_type [] [] [] (yield ∷ []) ∷ []) 1 12
    × AreRefused (with_type [] [] (word ∷ []) (returning [] ∷ []) ∷ with_type (i32 ∷ i32 ∷ []) [] (word ∷ []) (returning [] ∷ [])
    ∷ of_function plain [] ∷ of_function plain (returns_only ∷ returns_only ∷ []) ∷ []) 1 13
    × AreRefused (giving_back (lanes ∷ []) [] [] ∷ giving_back (cells ∷ []) (cells ∷ []) (buffer ∷ []) ∷ giving_back (word ∷ []) (word ∷ []) (four ∷ []) ∷ []) 1 18

-- the results of the function are handed on, at the end of its region
abbrev pub Returns : Type 0
Returns =
    AreRefused (giving_back (word ∷ []) [] (i32 ∷ []) ∷ giving_back (word ∷ []) (word ∷ word ∷ []) (i32 ∷ []) ∷ giving_back (word ∷ []) (word ∷ []) [] ∷ []) 2 2
    × IsRefused (with_type (i32 ∷ []) (i32 ∷ []) (word ∷ []) (gives (codes "func.return") (word ∷ []) [] i32 ∷ [])) 2 3
    × IsRefused (giving_back (word ∷ []) (word ∷ []) (i64 ∷ [])) 2 6
    × IsRefused (with_type [] [] [] (acts (codes "func.return") [] (entry (codes "value") attr.Unit ∷ []) ∷ [])) 2 8
    × EachRefused [] (returning [] ∷ []) 12 × IsRefused (body (loop (returning [] ∷ yield ∷ []) ∷ [])) 3 12
    × IsRefused (with_type [] [] [] (holding [] (codes "func.return") [] [] (region [] [] ∷ []) [] ∷ [])) 2 13

-- ---- choices
abbrev pub set_over : ExprText → Attr
set_over left = attr.Set (record { dims = codes "d0" ∷ []; syms = []; rows = record { left = left; equal = true } ∷ [] })

-- %n == 0
abbrev pub is_zero : List Named
is_zero = entry (codes "condition") (set_over d0) ∷ []

-- regions that hand on nothing, and values
abbrev pub ends_here : Body
ends_here = region [] (yield ∷ [])

abbrev pub hands_on : List BodyArg → Body
hands_on operands = region [] (ending (codes "affine.yield") operands ∷ [])

-- a choice without results, and one of a value
abbrev pub deciding : List BodyArg → List Named → List Body → Node
deciding operands properties regions = holding [] (codes "affine.if") operands properties regions []

abbrev pub choosing : TypeText → Body → Body → Node
choosing t first second = holding (codes "%r" ∷ []) (codes "affine.if") (place ∷ []) is_zero (first ∷ second ∷ []) (t ∷ [])

abbrev pub both_end : List Body
both_end = ends_here ∷ ends_here ∷ []

abbrev pub gives_word : Body
gives_word = hands_on (word ∷ [])

-- a set with a parameter for each operand, which are dimensions or symbols; and two regions without arguments, which hand on the results
abbrev pub Branching : Type 0
Branching =
    EachTaken [] (deciding (place ∷ []) is_zero both_end ∷ choosing i32 gives_word gives_word ∷ [])
    × EachRefused [] (holding [] (codes "affine.if") (place ∷ []) is_zero (gives_word ∷ gives_word ∷ []) (i32 ∷ []) ∷ []) 3
    × EachRefused [] (choosing buffer (hands_on (cells ∷ [])) (hands_on (cells ∷ [])) ∷ []) 6
    × EachRefused [] (deciding (place ∷ []) [] both_end ∷ []) 7
    × EachRefused [] (deciding (place ∷ []) (entry (codes "condition") (map_over d0) ∷ []) both_end ∷ []) 8
    × EachRefused [] (deciding [] is_zero both_end ∷ deciding (place ∷ place ∷ []) is_zero both_end ∷ []) 9
    × EachRefused [] (deciding (word ∷ []) is_zero both_end ∷ []) 10
    × EachRefused [] (map (deciding (place ∷ []) is_zero)
    ((ends_here ∷ region [] (terminator (codes "scf.yield") ∷ []) ∷ []) ∷ (region [] (returning [] ∷ []) ∷ ends_here ∷ [])
    ∷ (ends_here ∷ region [] [] ∷ []) ∷ [])) 12
    × EachRefused [] (map (deciding (place ∷ []) is_zero)
    ((ends_here ∷ []) ∷ (ends_here ∷ both_end) ∷ (region (arg (codes "%i") index ∷ []) (yield ∷ []) ∷ ends_here ∷ []) ∷ [])) 13
    × EachRefused [] (deciding (place ∷ []) (entry (codes "condition") (set_over (expr.Mul d0 d0)) ∷ []) both_end ∷ []) 15

-- what the first region hands on, and what the second does
abbrev pub BranchEnds : Type 0
BranchEnds =
    IsRefused (body (choosing i32 ends_here gives_word ∷ [])) 3 2 × IsRefused (body (choosing i32 (hands_on (place ∷ [])) gives_word ∷ [])) 3 6
    × IsRefused (body (choosing i32 gives_word ends_here ∷ [])) 4 2 × IsRefused (body (choosing i32 gives_word (hands_on (place ∷ [])) ∷ [])) 4 6

abbrev pub RegionExamples : Type 0
RegionExamples = Modules × FunctionProperties × FunctionBodies × Returns × Branching × BranchEnds
