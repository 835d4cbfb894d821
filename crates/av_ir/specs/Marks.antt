-- The numbers of loops and accesses as marks, and the loops with no loop inside.
use Rattle.std.specs.Prelude.{ℕ, ◌+◌, Bool, true, false, if◌then◌else◌, List, [], ◌∷◌, ◌++◌, map, length, Option, Some, None}
use Rattle.std.specs.List.{flat_map}
use Rattle.av_ir.specs.declared.module.OpKind.{OpKind}
use Rattle.av_ir.specs.declared.module.OpKind.TheVariants.{AffineFor, AffineLoad, AffineStore, MemrefLoad, MemrefStore, ScfFor, VectorLoad, VectorStore, VectorMaskedLoad, VectorMaskedStore, VectorGather, VectorScatter}
use Rattle.av_ir.specs.declared.module.Marks.{Marks}
use Rattle.av_ir.specs.declared.module.Op.{Op, Op-F, roll-Op, fold-Op}
use Rattle.av_ir.specs.declared.module.Region.{Region, Region-F, roll-Region, fold-Region}
use Rattle.av_ir.specs.declared.module.Func.{Func}
use Rattle.av_ir.specs.declared.module.Module.{Module}
use Rattle.av_ir.specs.declared.marking.InnerLoop.{InnerLoop}

-- the kinds of loops, and of operations that touch elements of a buffer
abbrev pub is_loop : OpKind → Bool
is_loop (AffineFor lower upper step) = true
is_loop ScfFor = true
is_loop _ = false

abbrev pub is_access : OpKind → Bool
is_access (AffineLoad m) = true
is_access (AffineStore m) = true
is_access MemrefLoad = true
is_access MemrefStore = true
is_access VectorLoad = true
is_access VectorStore = true
is_access VectorMaskedLoad = true
is_access VectorMaskedStore = true
is_access VectorGather = true
is_access VectorScatter = true
is_access _ = false

-- ---- marks
-- what is made of a part of a module, and how many loops stand before the part's end
pub record Made (A : Type 0) : Type 0 where
  pub made : A
  pub loops : ℕ

-- the same from how many loops stand before the part
abbrev pub Making : Type 0 → Type 0
Making A = ℕ → Made A

-- parts one after the other
unfoldable pub in_turn : {A : Type 0} → List (Making A) → Making (List A)
in_turn [] loops = record { made = []; loops = loops }
in_turn (making ∷ makings) loops =
    let first = making loops in
    let others = in_turn makings first.loops in
    record { made = first.made ∷ others.made; loops = others.loops }

abbrev pub when : Bool → ℕ → Option ℕ
when b n = if b then Some n else None

-- a loop has its number, which is how many loops stand before it; an access has its operation's number
abbrev pub marks_of : OpKind → ℕ → ℕ → Bool → Marks
marks_of kind loops number distinct = record {
  loop_no = when (is_loop kind) loops;
  source = when (is_access kind) number;
  distinct = distinct;
}

abbrev pub own_loops : OpKind → ℕ
own_loops kind = if is_loop kind then 1 else 0

-- an operation stands before its regions
abbrev pub mark_op : Op-F (Making Op) (Making Region) → Making Op
mark_op op loops =
    let inside = in_turn op.regions (loops + own_loops op.kind) in
    record {
      made = roll-Op (record {
        number = op.number;
        kind = op.kind;
        operands = op.operands;
        results = op.results;
        regions = inside.made;
        marks = marks_of op.kind loops op.number op.marks.distinct;
      });
      loops = inside.loops;
    }

abbrev pub mark_region : Region-F (Making Op) (Making Region) → Making Region
mark_region region loops =
    let inside = in_turn region.ops loops in
    record { made = roll-Region (record { args = region.args; ops = inside.made }); loops = inside.loops }

unfoldable pub marked_op : Op → Making Op
marked_op = fold-Op (Making Op) (Making Region) mark_op mark_region

unfoldable pub marked_region : Region → Making Region
marked_region = fold-Region (Making Op) (Making Region) mark_op mark_region

abbrev pub marked_func : Func → Making Func
marked_func f loops =
    let body = marked_region f.body loops in
    record { made = record f { body = body.made }; loops = body.loops }

-- the module with each loop and each access marked, and no other marks of these two sorts
abbrev pub marked_of : Module → Module
marked_of m = record { funcs = (in_turn (map marked_func m.funcs) 0).made; owners = m.owners }

-- ---- loops with no loop inside
-- for each loop of an operation, itself first, in the order of the text: whether no loop is inside it
abbrev pub is_none : List Bool → Bool
is_none [] = true
is_none (b ∷ bs) = false

abbrev pub joined : List (List Bool) → List Bool
joined = flat_map (λ flags. flags)

abbrev pub flag_op : Op-F (List Bool) (List Bool) → List Bool
flag_op op = if is_loop op.kind then is_none (joined op.regions) ∷ joined op.regions else joined op.regions

abbrev pub flag_region : Region-F (List Bool) (List Bool) → List Bool
flag_region region = joined region.ops

unfoldable pub op_flags : Op → List Bool
op_flags = fold-Op (List Bool) (List Bool) flag_op flag_region

unfoldable pub region_flags : Region → List Bool
region_flags = fold-Region (List Bool) (List Bool) flag_op flag_region

-- of loops in a row, from this number on, those with no loop inside
abbrev pub inner_among : ℕ → ℕ → List Bool → List InnerLoop
inner_among func number [] = []
inner_among func number (b ∷ bs) =
    if b then record { func = func; number = number } ∷ inner_among func (number + 1) bs else inner_among func (number + 1) bs

-- the same for functions in a row
abbrev pub inner_from : ℕ → ℕ → List Func → List InnerLoop
inner_from place number [] = []
inner_from place number (f ∷ funcs) =
    inner_among place number (region_flags f.body) ++ inner_from (place + 1) (number + length (region_flags f.body)) funcs

-- the loops of a module with no loop inside, in the order of the text
abbrev pub inner_loops_of : Module → List InnerLoop
inner_loops_of m = inner_from 0 0 m.funcs
