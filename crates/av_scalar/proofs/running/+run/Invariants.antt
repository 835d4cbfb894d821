use Rattle.std.proofs.Common.{◌≡◌, ◌-◌, [], drop}
use Rattle.std.specs.Prelude.{ℤ}
use Rattle.av_bits.specs.Pattern.{pattern_of}
use Rattle.av_ir.specs.Run.{run_acts}
use Rattle.av_ir.specs.ScalarRun.{first_body, loop_from, perform}
use Rattle.av_scalar.specs.Machines.{acts_of, bodies_of, memory_in}
use Rattle.av_scalar.specs.Meeting.{Leads}
use Rattle.av_scalar.specs.Names.{Since, env_of, values}
use Rattle.av_scalar.specs.Stores.{sizes_of}
use Rattle.av_scalar.proofs.running.+run.Given as goal

-- what the operations to come meet, all of them meet
abbrev pub invariant-run_ops-loop-op : goal.invariant-run_ops-loop-op
invariant-run_ops-loop-op l = record {
  leads :
      Leads (run_acts (acts_of perform l.types (drop l.op-index l.ops)) (env_of l.machine.names) (memory_in l.standing l.machine) (values l.handed)) l.machine.left
      (run_acts (acts_of perform l.types l.ops) (env_of l.fn.machine.names) (memory_in l.standing l.fn.machine) []) l.fn.machine.left;
  since : Since l.fn.machine.names l.machine.names;
  sizes : sizes_of l.machine.memory.items ≡ sizes_of l.fn.machine.memory.items;
}

-- what the turns to come meet, all of them meet
abbrev pub invariant-run_turns-loop-turn : goal.invariant-run_turns-loop-turn
invariant-run_turns-loop-turn l = record {
  leads :
      (first : ℤ) → l.turns.first ≡ pattern_of 64 first → (z : ℤ) × (l.at ≡ pattern_of 64 z)
      × Leads (loop_from (first_body (bodies_of perform l.types l.regions (env_of l.fn.machine.names))) l.turns.step (l.turns.count - l._turn) z (values l.carried) (memory_in l.standing l.machine)) l.machine.left
      (loop_from (first_body (bodies_of perform l.types l.regions (env_of l.fn.machine.names))) l.turns.step l.turns.count first (values l.fn.carried) (memory_in l.standing l.fn.machine)) l.fn.machine.left;
  names : l.machine.names ≡ l.fn.machine.names;
  sizes : sizes_of l.machine.memory.items ≡ sizes_of l.fn.machine.memory.items;
}
