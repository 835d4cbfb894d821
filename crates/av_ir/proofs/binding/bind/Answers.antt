use Rattle.av_ir.proofs.Memories.{buffer-put, words-left, place-put}
use Rattle.av_ir.proofs.binding.bind.Goals as goal

pub loop-arg-preserved : goal.loop-arg-preserved
loop-arg-preserved c =
    let next = c.in-Some.ensures.steps.0 in
    let pushed = c.in_ok-push-in-Buf-2.ensures.ok in
    record {
      buffers =
          buffer-put c.loop-arg.memory c.push-in-Buf-2.new.self c.in-Buf.buffer c.in-Some.arg c.in-Buf.is c.loop-arg.arg-iterator.rest.items
          c.next.new.self.rest.items next pushed _ c.loop-arg.invariant.buffers;
      words =
          words-left c.loop-arg.memory c.push-in-Buf-2.new.self c.in-Buf.buffer c.in-Some.arg c.in-Buf.is c.loop-arg.arg-iterator.rest.items
          c.next.new.self.rest.items next pushed c.loop-arg.words _ c.loop-arg.invariant.words;
      places =
          place-put c.loop-arg.memory c.push-in-Buf-2.new.self c.in-Buf.buffer c.in-Some.arg c.in-Buf.is c.loop-arg.arg-iterator.rest.items
          c.next.new.self.rest.items next pushed c.loop-arg.at c.push-in-Buf.new.self c.len.result c.in_ok-push-in-Buf.ensures.ok c.len.ensures
          c.loop-arg.invariant.places;
    }
