-- The places of memory that operations touch: each is inside its buffer, and what no operation touches stays.
use Rattle.std.specs.Prelude.{◌≡◌, ℕ, ◌<◌, ◌&&◌, ◌==◌, ℤ, Bool, false, if◌then◌else◌, List, [], ◌∷◌, drop, slice_index_or, Option, Some, None}
use Rattle.std.specs.List.{All, list_any}
use Rattle.av_shapes.specs.Shape.{product}
use Rattle.av_ir.specs.declared.ty.Ty.{Ty}
use Rattle.av_ir.specs.declared.run.TrapKind.TheVariants.{OutOfBounds}
use Rattle.av_ir.specs.declared.module.OpKind.{OpKind}
use Rattle.av_ir.specs.declared.module.OpKind.TheVariants.{AffineLoad, AffineStore, MemrefLoad, MemrefStore, VectorLoad, VectorStore, VectorMaskedLoad, VectorMaskedStore, VectorGather, VectorScatter}
use Rattle.av_ir.specs.declared.module.Region.{Region}
use Rattle.av_ir.specs.Memory.{buffer_at}
use Rattle.av_ir.specs.Run.{Value, word_at, Memory, Run, ends, traps, Given, Ending, Body, Env, Perform, run_region}
use Rattle.av_ir.specs.ScalarRun.{Place, evaluated, subscripts}
use Rattle.av_ir.specs.Lanes.{lane_at, place_at, touches}
use Rattle.av_ir.specs.FlatRun.{at_indices, first_lanes, in_masked_row, in_row, index_width, last_lanes, perform_flat}

-- the place of one element, where its subscripts are known
abbrev pub touched_at : Memory → ℕ → Option (List ℤ) → List (Option Place)
touched_at memory k None = []
touched_at memory k (Some at) = place_at memory k at ∷ []

-- the places that an operation touches, in the order of its lanes; none stands for one outside its buffer
abbrev pub touches_of : ℕ → List Ty → List Ty → OpKind → List Value → Memory → List (Option Place)
touches_of scale operands results (AffineLoad m) values memory = touched_at memory (word_at values 0) (evaluated m (drop 1 values))
touches_of scale operands results (AffineStore m) values memory = touched_at memory (word_at values 1) (evaluated m (drop 2 values))
touches_of scale operands results MemrefLoad values memory = touched_at memory (word_at values 0) (Some (subscripts (drop 1 values)))
touches_of scale operands results MemrefStore values memory = touched_at memory (word_at values 1) (Some (subscripts (drop 2 values)))
touches_of scale operands results VectorLoad values memory =
    touches (first_lanes scale results) (lane_at memory (word_at values 0) (in_row (subscripts (drop 1 values))))
touches_of scale operands results VectorStore values memory =
    touches (first_lanes scale operands) (lane_at memory (word_at values 1) (in_row (subscripts (drop 2 values))))
touches_of scale operands results VectorMaskedLoad values memory = touches (first_lanes scale results) (lane_at memory (word_at values 0) (in_masked_row values))
touches_of scale operands results VectorMaskedStore values memory = touches (last_lanes scale operands) (lane_at memory (word_at values 0) (in_masked_row values))
touches_of scale operands results VectorGather values memory =
    touches (first_lanes scale results) (lane_at memory (word_at values 0) (at_indices (index_width operands) values))
touches_of scale operands results VectorScatter values memory =
    touches (last_lanes scale operands) (lane_at memory (word_at values 0) (at_indices (index_width operands) values))
touches_of scale operands results kind values memory = []

-- the pattern in a place
abbrev pub held_at : Memory → Place → ℕ
held_at memory place = slice_index_or (buffer_at memory.buffers place.buffer).cells place.index 0

abbrev pub is_at : Place → Option Place → Bool
is_at place None = false
is_at place (Some other) = (place.buffer == other.buffer) && (place.index == other.index)

-- the work of the flat run with a tripwire: an operation that touches this place stops the run
abbrev pub watched : Place → ℕ → Perform
watched place scale operands results kind number values bodies memory =
    if list_any (is_at place) (touches_of scale operands results kind values memory) then traps OutOfBounds number 0
    else (perform_flat scale operands results kind number values bodies memory)

-- where no operation touches the place, the tripwire changes nothing, and the place holds at the end what it held
pub record Stays {A : Type 0} (memory_of : A → Memory) (place : Place) (before : Memory) (run : Run A) (end : A) (steps : ℕ) : Type 0 where
  pub alike : run ≡ ends end steps
  pub held : held_at (memory_of end) place ≡ held_at before place

abbrev pub UntouchedLaw : Type 0
UntouchedLaw =
    (place : Place) (scale : ℕ) (types : List Ty) (region : Region) (env : Env) (values : List Value) (memory : Memory) (end : Ending) (steps : ℕ)
    → run_region (watched place scale) types region env values memory ≡ ends end steps
    → Stays (λ e. e.memory) place memory (run_region (perform_flat scale) types region env values memory) end steps

-- a place is inside its buffer
abbrev pub IsInside : Memory → Option Place → Type 0
IsInside memory None = ⊥
IsInside memory (Some place) = place.index < product (buffer_at memory.buffers place.buffer).sizes

-- an operation that doesn't trap touches places inside their buffers alone
abbrev pub InsideLaw : Type 0
InsideLaw =
    (scale : ℕ) (operands results : List Ty) (kind : OpKind) (number : ℕ) (values : List Value) (bodies : List Body) (memory : Memory) (given : Given) (steps : ℕ)
    → perform_flat scale operands results kind number values bodies memory ≡ ends given steps
    → All (IsInside memory) (touches_of scale operands results kind values memory)
