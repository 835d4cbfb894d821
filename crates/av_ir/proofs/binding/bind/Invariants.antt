use Rattle.std.proofs.Common.{◌≡◌, ◌++◌, length}
use Rattle.std.specs.List.{range_with_len}
use Rattle.av_ir.specs.Memory.{buffers_of, words_of}
use Rattle.av_ir.proofs.binding.bind.Given as goal

-- what is put in memory so far and what is still to come
abbrev pub invariant-loop-arg : goal.invariant-loop-arg
invariant-loop-arg l = record {
  buffers : l.memory ++ buffers_of l.arg-iterator.rest.items ≡ buffers_of l.fn.args.list;
  words : l.words ++ words_of l.arg-iterator.rest.items ≡ words_of l.fn.args.list;
  places : l.at ≡ range_with_len 0 (length l.memory);
}
