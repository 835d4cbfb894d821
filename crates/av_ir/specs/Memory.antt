-- The memory of a run, and which of its buffers each argument stands for.
use Rattle.std.specs.Prelude.{ℕ, List, [], ◌∷◌, map, length, slice_index_or}
use Rattle.std.specs.List.{range_with_len}
use Rattle.av_ir.specs.declared.run.Buffer.{Buffer}
use Rattle.av_ir.specs.declared.run.Arg.{Arg}
use Rattle.av_ir.specs.declared.run.Arg.TheVariants.{Word, Buf}
use Rattle.av_ir.specs.declared.run.Args.{Args}
use Rattle.av_ir.specs.declared.types.Ended.{Ended}
use Rattle.av_ir.specs.declared.binding.Bound.{Bound}

-- the buffers among arguments, in order
abbrev pub buffers_of : List Arg → List Buffer
buffers_of [] = []
buffers_of (Word p ∷ args) = buffers_of args
buffers_of (Buf b ∷ args) = b ∷ buffers_of args

-- the other arguments, in order
abbrev pub words_of : List Arg → List ℕ
words_of [] = []
words_of (Word p ∷ args) = p ∷ words_of args
words_of (Buf b ∷ args) = words_of args

-- each memref argument has a buffer of its own, in order
abbrev pub bound_of : Args → Bound
bound_of args = record {
  memory = buffers_of args.list;
  at = range_with_len 0 (length (buffers_of args.list));
  words = words_of args.list;
}

-- a buffer of memory; one without sizes or elements where it isn't there
abbrev pub no_buffer : Buffer
no_buffer = record { sizes = []; cells = [] }

abbrev pub buffer_at : List Buffer → ℕ → Buffer
buffer_at memory k = slice_index_or memory k no_buffer

-- the buffers that the memref arguments stand for
abbrev pub buffers_at : Bound → List Buffer
buffers_at b = map (buffer_at b.memory) b.at

-- the end of a run with memory as it is now
abbrev pub end_of : Bound → List ℕ → Ended
end_of b results = record { buffers = buffers_at b; results = results }
