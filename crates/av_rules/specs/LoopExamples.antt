-- Loops and what ends their regions, as they are taken and as they are refused.
use Rattle.std.specs.Prelude.{ℕ, ℤ, pos, List, [], ◌∷◌, ◌++◌, map, codes}
use Rattle.av_tree.specs.declared.attribute.Attr.{Attr}
use Rattle.av_tree.specs.declared.attribute.Attr.TheVariants as attr
use Rattle.av_tree.specs.declared.attribute.Named.{Named}
use Rattle.av_tree.specs.declared.node.BodyArg.{BodyArg}
use Rattle.av_tree.specs.declared.node.Node.{Node}
use Rattle.av_tree.specs.declared.node.Tree.{Tree}
use Rattle.av_tree.specs.declared.written.ExprText.TheVariants as expr
use Rattle.av_tree.specs.declared.written.TypeText.{TypeText}
use Rattle.av_rules.specs.BufferExamples.{no_result, three, to_results}
use Rattle.av_rules.specs.Examples.{AreRefused, EachRefused, EachTaken}
use Rattle.av_rules.specs.RegionExamples.{changed, each_lacking, each_spoilt, ending, holding}
use Rattle.av_rules.specs.RowExamples.{i64}
use Rattle.av_rules.specs.Trees.{acts, arg, body, bound, buffer, cells, d0, entry, gives, i32, index, map_over, number, place, region, terminator, word, yield}

-- ---- bounds
-- the maps of the bounds; how many operands are for each, and how many are carried
abbrev pub bounds : Attr → Attr → List ℤ → List Named
bounds lower upper segments =
    entry (codes "lowerBoundMap") lower ∷ entry (codes "operandSegmentSizes") (attr.Array i32 segments)
    ∷ entry (codes "step") (number (pos 1) index) ∷ entry (codes "upperBoundMap") upper ∷ []

abbrev pub parts : ℕ → ℕ → ℕ → List ℤ
parts lower upper carried = pos lower ∷ pos upper ∷ pos carried ∷ []

-- from 0 to 4, from what a map gives to 4, and from 0 to what a map gives
abbrev pub to_four : List ℤ → List Named
to_four segments = bounds (bound (pos 0)) (bound (pos 4)) segments

abbrev pub from_map : Attr → List ℤ → List Named
from_map lower segments = bounds lower (bound (pos 4)) segments

abbrev pub to_map : Attr → List ℤ → List Named
to_map upper segments = bounds (bound (pos 0)) upper segments

-- the arguments of a region: the number of a turn, and what is carried
abbrev pub counter : BodyArg
counter = arg (codes "%i") index

abbrev pub running : BodyArg
running = arg (codes "%t") i32

-- a loop with these operands and properties, that carries nothing
abbrev pub turning : List BodyArg → List Named → Node
turning operands properties = holding [] (codes "affine.for") operands properties (region (counter ∷ []) (yield ∷ []) ∷ []) []

-- with the mark of a loop
abbrev pub numbered : Attr → List Named → List Named
numbered value properties = entry (codes "affvec.loop") value ∷ properties

-- (d0) -> (d0, 3)
abbrev pub two_results : Attr
two_results = to_results (d0 ∷ three ∷ [])

-- at least one result for each bound, of its own operands, which are dimensions or symbols
abbrev pub LoopBounds : Type 0
LoopBounds =
    EachTaken [] (map (turning []) (to_four (parts 0 0 0) ∷ numbered (number (pos 7) i64) (to_four (parts 0 0 0)) ∷ []))
    × EachTaken [] (map (turning (place ∷ [])) (from_map (map_over d0) (parts 1 0 0) ∷ to_map (map_over d0) (parts 0 1 0)
    ∷ from_map two_results (parts 1 0 0) ∷ to_map two_results (parts 0 1 0) ∷ []))
    × EachRefused [] (map (turning []) (each_lacking (to_four (parts 0 0 0)))) 7
    × EachRefused [] (map (turning []) (each_spoilt (to_four (parts 0 0 0)) ++ numbered attr.Unit (to_four (parts 0 0 0)) ∷ [])) 8
    × EachRefused [] (map (λ e. turning [] (changed (to_four (parts 0 0 0)) e))
    (entry (codes "step") (number (pos 1) i32) ∷ entry (codes "operandSegmentSizes") (attr.Array i64 (parts 0 0 0))
    ∷ entry (codes "upperBoundMap") (number (pos 4) index) ∷ [])) 8
    × EachRefused [] (map (turning []) (from_map no_result (parts 0 0 0) ∷ to_map no_result (parts 0 0 0) ∷ to_four (pos 0 ∷ pos 0 ∷ []) ∷ [])) 9
    × EachRefused [] (map (turning (place ∷ [])) (from_map (map_over d0) (parts 0 1 0) ∷ to_map (map_over d0) (parts 1 0 0) ∷ to_four (parts 0 0 0) ∷ [])) 9
    × EachRefused [] (map (turning (word ∷ [])) (from_map (map_over d0) (parts 1 0 0) ∷ to_map (map_over d0) (parts 0 1 0) ∷ [])) 10
    × EachRefused [] (map (turning (place ∷ [])) (from_map (map_over (expr.Mul d0 d0)) (parts 1 0 0) ∷ to_map (map_over (expr.Mul d0 d0)) (parts 0 1 0) ∷ [])) 15

-- ---- what is carried
-- a kind of loop that carries one value: its name, the operands before it and the properties that it needs, and the terminator of its region
pub record Carrier : Type 0 where
  pub name : List ℕ
  pub needed : List BodyArg
  pub properties : List Named
  pub end : List ℕ

abbrev pub three_places : List BodyArg
three_places = place ∷ place ∷ place ∷ []

abbrev pub affine : Carrier
affine = record { name = codes "affine.for"; needed = []; properties = to_four (parts 0 0 1); end = codes "affine.yield" }

abbrev pub counted : Carrier
counted = record { name = codes "scf.for"; needed = three_places; properties = []; end = codes "scf.yield" }

abbrev pub carriers : List Carrier
carriers = affine ∷ counted ∷ []

-- the loop that carries a value, with these arguments and operations of its region, and a result of this type
abbrev pub carrying : BodyArg → List BodyArg → List Node → TypeText → Carrier → Node
carrying start args nodes t c = holding (codes "%r" ∷ []) c.name (c.needed ++ start ∷ []) c.properties (region args nodes ∷ []) (t ∷ [])

-- the terminator of its region
abbrev pub hands_on : List BodyArg → Carrier → Node
hands_on operands c = ending c.end operands

-- the loops that carry `start`, with these arguments; the region hands on the value of the last
abbrev pub loops : BodyArg → BodyArg → BodyArg → TypeText → List Node
loops start turn held t = map (λ c. carrying start (turn ∷ held ∷ []) (hands_on (held ∷ []) c ∷ []) t c) carriers

-- the loops that carry %x as %t, with these operations of the region of each
abbrev pub loops_of : (Carrier → List Node) → List Node
loops_of nodes = map (λ c. carrying word (counter ∷ running ∷ []) (nodes c) i32 c) carriers

-- `index` and what is carried are the arguments, and what is carried is the result; buffers aren't carried
abbrev pub Carrying : Type 0
Carrying =
    EachTaken [] (loops word counter running i32)
    × EachRefused [] (map (λ c. holding [] c.name (c.needed ++ word ∷ []) c.properties (region (counter
    ∷ running ∷ []) (hands_on (running ∷ []) c ∷ []) ∷ []) []) carriers) 3
    × EachRefused [] (loops word counter (arg (codes "%t") i64) i32 ++ loops word (arg (codes "%i") i32) running i32 ++ loops place counter running i32
    ++ loops word counter running i64 ++ loops cells counter (arg (codes "%t") buffer) buffer) 6
    × EachRefused [] (loops_of (λ c. []) ++ loops_of (λ c. ending (codes "func.return") (running ∷ []) ∷ [])
    ++ carrying word (counter ∷ running ∷ []) (hands_on (running ∷ []) counted ∷ []) i32 affine
    ∷ carrying word (counter ∷ running ∷ []) (hands_on (running ∷ []) affine ∷ []) i32 counted ∷ []) 12
    × EachRefused [] (map (λ c. carrying word (counter ∷ []) (hands_on (word ∷ []) c ∷ []) i32 c) carriers
    ++ map (λ c. holding (codes "%r" ∷ []) c.name (c.needed ++ word ∷ []) c.properties [] (i32 ∷ [])) carriers) 13

-- each in a function of its own
abbrev pub alone : List Node → List Tree
alone nodes = map (λ node. body (node ∷ [])) nodes

-- in a region that has to hand on a number: a terminator with other operands, with a result or an entry, and before the end
abbrev pub LoopEnds : Type 0
LoopEnds =
    AreRefused (alone (loops_of (λ c. hands_on [] c ∷ []) ++ loops_of (λ c. hands_on (running ∷ running ∷ []) c ∷ []))) 3 2
    × AreRefused (alone (loops_of (λ c. gives c.end (running ∷ []) [] i32 ∷ []))) 3 3
    × AreRefused (alone (loops_of (λ c. hands_on (counter ∷ []) c ∷ []))) 3 6
    × AreRefused (alone (loops_of (λ c. acts c.end (running ∷ []) (entry (codes "value") attr.Unit ∷ []) ∷ []))) 3 8
    × AreRefused (alone (loops_of (λ c. hands_on (running ∷ []) c ∷ hands_on (running ∷ []) c ∷ []))) 3 12

-- ---- counted loops
-- a loop from, to and by three values, that carries nothing
abbrev pub counting : List BodyArg → List Named → Node
counting operands properties = holding [] (codes "scf.for") operands properties (region (counter ∷ []) (terminator (codes "scf.yield") ∷ []) ∷ []) []

-- the step is a value, and no property
abbrev pub CountedLoops : Type 0
CountedLoops =
    EachTaken [] (map (counting three_places) ([] ∷ numbered (number (pos 7) i64) [] ∷ []))
    × EachRefused [] (counting (place ∷ place ∷ []) [] ∷ []) 2
    × EachRefused [] (map (λ operands. counting operands []) ((word ∷ place ∷ place ∷ []) ∷ (place ∷ word ∷ place ∷ []) ∷ (place ∷ place ∷ word ∷ []) ∷ [])) 6
    × EachRefused [] (map (counting three_places) ((entry (codes "step") (number (pos 1) index) ∷ []) ∷ numbered attr.Unit [] ∷ [])) 8

abbrev pub LoopExamples : Type 0
LoopExamples = LoopBounds × Carrying × LoopEnds × CountedLoops
