use Rattle.std.proofs.Common.{◌∙◌, ◌<◌, ◌+◌, sym, arith, ap, get_or, drop, length}
use Rattle.av_affine.proofs.Pairwise.{any_default}
use Rattle.av_ir.specs.declared.module.ValueId.{ValueId}
use Rattle.av_ir.specs.Run.{bind_values}
use Rattle.av_scalar.specs.Names.{env_of, values}
use Rattle.av_scalar.proofs.Bindings.{env_bound, bind_step, since_bound, since_then, as_many_words}
use Rattle.av_scalar.proofs.names.Names.bind.Goals as goal

pub loop-place-preserved : goal.loop-place-preserved
loop-place-preserved c =
    let id : ValueId = get_or c.args.ids.now c.loop-place.place (record { 0 = 0 }) in
    let many = as_many_words c.args.self.now c.loop-place.self c.loop-place.invariant.since in
    let named : id.0 < length c.args.self.now.words = c.requires c.loop-place.place (record { 0 = 0 }) (omega arith) in
    let bound = env_bound c.loop-place.self c.bind_one.new.self id.0 c.word_at-word.result (omega arith) c.in_ok-bind_one.ensures.words in
    let step = bind_step (env_of c.loop-place.self) c.args.ids.now c.args.words.now c.loop-place.place id c.word_at-word.result (omega arith) (any_default c.args.ids.now c.loop-place.place (record { 0 = 0 }) (get_or c.args.ids.now c.loop-place.place (record { 0 = 0 })) (omega arith)) c.word_at-word.ensures in
    record {
      env = ap (λ e. bind_values e (drop (c.loop-place.place + 1) c.args.ids.now) (values (drop (c.loop-place.place + 1) c.args.words.now))) bound ∙ sym step ∙ c.loop-place.invariant.env;
      since = since_then c.args.self.now c.loop-place.self c.bind_one.new.self c.loop-place.invariant.since
          (since_bound c.loop-place.self c.bind_one.new.self id.0 c.word_at-word.result c.in_ok-bind_one.ensures.words c.in_ok-bind_one.ensures.changes);
    }
