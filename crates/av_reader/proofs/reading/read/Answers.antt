use Rattle.std.proofs.Common.{◌≡◌, sym, ◌∙◌}
use Rattle.av_derive.specs.declared.machine.Stop.TheVariants as stop
use Rattle.av_derive.specs.ClassOf.{classes_of}
use Rattle.av_reader.proofs.Refusing.{no-tree, not-none}
use Rattle.av_reader.proofs.reading.read.Goals as goal

pub returns-in-Err-clause-none : goal.returns-in-Err-clause-none
returns-in-Err-clause-none c other tree t =
    let all : c.deref.result.now ≡ classes_of c.args.bytes.now c.args.tokens.now = c.deref.ensures.value ∙ c.in_ok-classes.ensures in
    no-tree c.args.bytes.now c.args.tokens.now c.deref.result.now c.in-Err.refused.at all
    (c.in-Err.ensures.wrong (λ (m : c.in-Err.refused.stop ≡ stop.NoMemory). other (c.refusal.ensures.memory m))) tree t

pub unreachable-requires : goal.unreachable-requires
unreachable-requires c =
    let all : c.deref.result.now ≡ classes_of c.args.bytes.now c.args.tokens.now = c.deref.ensures.value ∙ c.in_ok-classes.ensures in
    not-none c.args.bytes.now c.args.tokens.now c.deref.result.now c.in-Ok.events.items all c.in-Ok.ensures.derived.derives
    (c.in-Err-Misshapen.ensures.misshapen c.in-Err-Misshapen.field-0-is)
