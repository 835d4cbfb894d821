-- The memory of an interpreter as that of a run.
use Rattle.std.specs.Prelude.{ℕ, ◌≤◌, ◌^◌, List, map}
use Rattle.std.specs.List.{All}
use Rattle.av_shapes.specs.Shape.{product}
use Rattle.av_ir.specs.declared.run.Buffer.{Buffer}
use Rattle.av_ir.specs.Run.{Memory}
use Rattle.av_scalar.specs.declared.memory.Standing.{Standing}

-- the memory of these buffers, for which the memref arguments stand
abbrev pub memory_of : Standing → List Buffer → Memory
memory_of standing buffers = record { buffers = buffers; stands = standing.at; kinds = standing.kinds }

-- the sizes of all buffers, which no run changes
abbrev pub sizes_of : List Buffer → List (List ℕ)
sizes_of buffers = map (λ b. b.sizes) buffers

-- each buffer has at most 2 ^ 26 elements
abbrev pub AreSmall : List Buffer → Type 0
AreSmall buffers = All (λ b. product b.sizes ≤ 2 ^ 26) buffers
