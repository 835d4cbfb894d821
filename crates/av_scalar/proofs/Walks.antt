-- Operations, regions and turns of loops, one part after the other, for any work of operations.
use Rattle.std.proofs.Common.{◌≡◌, ℕ, suc, ◌+◌, ◌%◌, ◌*◌, ◌^◌, ◌<◌, ◌≤◌, List, [], ◌∷◌, length, get_or, drop, arith, ap, sym, ◌∙◌, refl}
use Rattle.std.specs.Prelude.{ℤ, pos, negsuc, ◌+ℤ◌, ◌*ℤ◌, unsigned_abs}
use Rattle.std.specs.Int.{int_rem_euclid}
use Rattle.std.proofs.Math.Nat.{add-mul-mod_self_right}
use Rattle.std.proofs.lemmas.Int.{ints, int_rem_euclid_is}
use Rattle.std.proofs.lemmas.List.{drop_more, drop_all}
use Rattle.av_bits.specs.declared.types.Width.TheVariants.{W64}
use Rattle.av_bits.specs.Pattern.{pattern_of}
use Rattle.av_bits.proofs.Values.{wraps_by_multiples}
use Rattle.av_ir.specs.declared.ty.Ty.{Ty}
use Rattle.av_ir.specs.declared.run.RunStop.{RunStop}
use Rattle.av_ir.specs.declared.run.RunStop.TheVariants.{OutOfSteps}
use Rattle.av_ir.specs.declared.module.Op.{Op, out-Op}
use Rattle.av_ir.specs.declared.module.Region.{Region, out-Region}
use Rattle.av_ir.specs.Run.{Value, Memory, Run, ends, after, followed, Given, Ending, Body, Env, State, Perform, bind_values, values_at, handed_on, run_acts, run_op, run_region}
use Rattle.av_ir.specs.OneLevel.{behind}
use Rattle.av_ir.specs.ScalarRun.{index_value, loop_from}
use Rattle.av_scalar.specs.Machines.{acts_of, work_of}
use Rattle.av_scalar.specs.Meeting.{EndsAt, Leads, Stops}
use Rattle.av_scalar.proofs.Meetings.{leads_as, leads_on, spent, short, goes_on, breaks_off}
use Rattle.av_scalar.proofs.OneStep.{op_law, region_law}
use Rattle.av_scalar.proofs.Parts.{ends_now}

-- ---- an operation
module _ (perform : Perform) (types : List Ty) (op : Op) (env : Env) (memory : Memory) (handed : List Value) where
  abbrev whole : Run State
  whole = run_op perform types op env memory handed

  abbrev rest : List Value → Run State
  rest operands = followed (work_of perform types op operands env memory) (behind env op handed)

  is_rest : (operands : List Value) → operands ≡ values_at env (out-Op op).operands → after 1 (rest operands) ≡ whole
  is_rest operands e = ap (λ vs. after 1 (rest vs)) e ∙ sym (op_law perform types op env memory handed)

  op_leads : (operands : List Value) → operands ≡ values_at env (out-Op op).operands → (left budget : ℕ) → left + 1 ≡ budget → Leads (rest operands) left whole budget
  op_leads operands e left budget s =
      leads_on (rest operands) (after 1 (rest operands)) whole left budget budget (spent (rest operands) left budget s)
      (leads_as (after 1 (rest operands)) whole budget (is_rest operands e))

  pub op_short : (budget : ℕ) → budget ≡ 0 → Stops (run_op perform types op env memory handed) budget OutOfSteps
  op_short budget e =
      let vs = values_at env (out-Op op).operands in
      (leads_as (after 1 (rest vs)) whole budget (is_rest vs refl)).stopped OutOfSteps (short (rest vs) budget e)

  module _ (operands : List Value) (read : operands ≡ values_at env (out-Op op).operands) (left budget : ℕ) (s : left + 1 ≡ budget) where
    pub op_stops : (stop : RunStop) → Stops (work_of perform types op operands env memory) left stop → Stops (run_op perform types op env memory handed) budget stop
    op_stops stop h =
        (op_leads operands read left budget s).stopped stop (breaks_off (work_of perform types op operands env memory) (behind env op handed) left stop h)

    pub op_ends : (g : Given) (last : ℕ) → EndsAt (work_of perform types op operands env memory) left g last
        → (now : Env) → now ≡ bind_values env (out-Op op).results g.outcome
        → EndsAt (run_op perform types op env memory handed) budget (record { env = now; memory = g.memory; handed = handed_on g.handed handed }) last
    op_ends g last h now bound =
        let leads = leads_on (behind env op handed g) (rest operands) whole last left budget
        (goes_on (work_of perform types op operands env memory) (behind env op handed) left g last h) (op_leads operands read left budget s) in
        leads.ended (record { env = now; memory = g.memory; handed = handed_on g.handed handed }) last
        (ends_now (behind env op handed g) _ (ap (λ e. ends (record { env = e; memory = g.memory; handed = handed_on g.handed handed }) 0) (sym bound)) last)

-- ---- a region
module _ (perform : Perform) (types : List Ty) (region : Region) (env : Env) (vs : List Value) (memory : Memory) (ops : List Op) (now : Env) (same : ops ≡ (out-Region region).ops) (bound : now ≡ bind_values env (out-Region region).args vs) where
  close : State → Run Ending
  close s = ends (record { memory = s.memory; handed = s.handed }) 0

  region_is : followed (run_acts (acts_of perform types ops) now memory []) close ≡ run_region perform types region env vs memory
  unfolding close
  region_is =
      ap (λ os. followed (run_acts (acts_of perform types os) now memory []) close) same
      ∙ ap (λ e. followed (run_acts (acts_of perform types (out-Region region).ops) e memory []) close) bound
      ∙ sym (region_law perform types region env vs memory)

  pub region_stops : (budget : ℕ) (stop : RunStop) → Stops (run_acts (acts_of perform types ops) now memory []) budget stop
      → Stops (run_region perform types region env vs memory) budget stop
  region_stops budget stop h =
      let run = run_acts (acts_of perform types ops) now memory [] in
      (leads_as (followed run close) (run_region perform types region env vs memory) budget region_is).stopped stop (breaks_off run close budget stop h)

  pub region_ends : (budget : ℕ) (s : State) (last : ℕ) → EndsAt (run_acts (acts_of perform types ops) now memory []) budget s last
      → EndsAt (run_region perform types region env vs memory) budget (record { memory = s.memory; handed = s.handed }) last
  unfolding close
  region_ends budget s last h =
      let run = run_acts (acts_of perform types ops) now memory [] in
      (leads_as (followed run close) (run_region perform types region env vs memory) budget region_is).ended (record { memory = s.memory; handed = s.handed }) last
      ((goes_on run close budget s last h).ended (record { memory = s.memory; handed = s.handed }) last (ends_now (close s) _ refl last))

-- ---- operations in order
module _ (perform : Perform) (types : List Ty) (ops : List Op) (i : ℕ) (env : Env) (memory : Memory) (handed : List Value) where
  pub ops_end : length ops ≤ i → (left : ℕ) → EndsAt (run_acts (acts_of perform types (drop i ops)) env memory handed) left (record { env = env; memory = memory; handed = handed }) left
  ops_end h left = ends_now (run_acts (acts_of perform types (drop i ops)) env memory handed) _ (ap (λ os. run_acts (acts_of perform types os) env memory handed) (drop_all i ops h)) left

  module _ (op : Op) (below : i < length ops) (is : op ≡ get_or ops i op) where
    next : State → Run State
    next s = run_acts (acts_of perform types (drop (i + 1) ops)) s.env s.memory s.handed

    opened : followed (run_op perform types op env memory handed) next ≡ run_acts (acts_of perform types (drop i ops)) env memory handed
    unfolding next
    opened = sym (ap (λ os. run_acts (acts_of perform types os) env memory handed) (drop_more ops i op below ∙ ap (λ o. o ∷ drop (i + 1) ops) (sym is)))

    pub ops_stop : (left : ℕ) (stop : RunStop) → Stops (run_op perform types op env memory handed) left stop
        → Stops (run_acts (acts_of perform types (drop i ops)) env memory handed) left stop
    ops_stop left stop h =
        (leads_as (followed (run_op perform types op env memory handed) next) (run_acts (acts_of perform types (drop i ops)) env memory handed) left opened).stopped stop
        (breaks_off (run_op perform types op env memory handed) next left stop h)

    pub ops_go_on : (left : ℕ) (s : State) (last : ℕ) → EndsAt (run_op perform types op env memory handed) left s last
        → Leads (run_acts (acts_of perform types (drop (i + 1) ops)) s.env s.memory s.handed) last (run_acts (acts_of perform types (drop i ops)) env memory handed) left
    unfolding next
    ops_go_on left s last h =
        leads_on (next s) (followed (run_op perform types op env memory handed) next) (run_acts (acts_of perform types (drop i ops)) env memory handed) last left left
        (goes_on (run_op perform types op env memory handed) next left s last h)
        (leads_as (followed (run_op perform types op env memory handed) next) (run_acts (acts_of perform types (drop i ops)) env memory handed) left opened)

-- ---- turns of a loop
module _ (body : Body) (step : ℕ) (n : ℕ) (z : ℤ) (carried : List Value) (memory : Memory) where
  pub turns_end : n ≡ 0 → (left : ℕ) → EndsAt (loop_from body step n z carried memory) left (record { memory = memory; handed = carried }) left
  turns_end e left = ends_now (loop_from body step n z carried memory) _ (ap (λ k. loop_from body step k z carried memory) e) left

  module _ (m : ℕ) (more : n ≡ suc m) (budget : ℕ) where
    turn : List Value → Run Ending
    turn args = after 1 (body args memory)

    later : Ending → Run Ending
    later e = loop_from body step m (z +ℤ pos step) e.handed e.memory

    is_turn : followed (turn (index_value z ∷ carried)) later ≡ loop_from body step n z carried memory
    unfolding turn later
    is_turn = sym (ap (λ k. loop_from body step k z carried memory) more)

    turn_leads : (args : List Value) → args ≡ index_value z ∷ carried → Leads (followed (turn args) later) budget (loop_from body step n z carried memory) budget
    turn_leads args e = leads_as (followed (turn args) later) (loop_from body step n z carried memory) budget (ap (λ vs. followed (turn vs) later) e ∙ is_turn)

    pub turn_short : budget ≡ 0 → Stops (loop_from body step n z carried memory) budget OutOfSteps
    unfolding turn
    turn_short e =
        let args = index_value z ∷ carried in
        (turn_leads args refl).stopped OutOfSteps (breaks_off (turn args) later budget OutOfSteps (short (body args memory) budget e))

    pub turn_stops : (args : List Value) → args ≡ index_value z ∷ carried → (left : ℕ) → left + 1 ≡ budget → (stop : RunStop) → Stops (body args memory) left stop
        → Stops (loop_from body step n z carried memory) budget stop
    unfolding turn
    turn_stops args e left s stop h =
        (turn_leads args e).stopped stop (breaks_off (turn args) later budget stop ((spent (body args memory) left budget s).stopped stop h))

    pub turn_goes_on : (args : List Value) → args ≡ index_value z ∷ carried → (left : ℕ) → left + 1 ≡ budget → (e : Ending) (last : ℕ) → EndsAt (body args memory) left e last
        → Leads (loop_from body step m (z +ℤ pos step) e.handed e.memory) last (loop_from body step n z carried memory) budget
    unfolding turn later
    turn_goes_on args same left s e last h =
        leads_on (later e) (followed (turn args) later) (loop_from body step n z carried memory) last budget budget
        (goes_on (turn args) later budget e last ((spent (body args memory) left budget s).ended e last h)) (turn_leads args same)

-- the pattern of a number grows with the number
wrap_more : (n : ℕ) → 0 < n → (q z : ℤ) (p s : ℕ) → z ≡ q *ℤ pos n +ℤ pos p → unsigned_abs (int_rem_euclid (z +ℤ pos s) (pos n)) ≡ (p + s) % n
wrap_more n h (pos q) z p s e =
    ap (λ y. unsigned_abs (int_rem_euclid y (pos n))) (up q n p s z e) ∙ add-mul-mod_self_right (p + s) q n where
      up : (q n p s : ℕ) (z : ℤ) → z ≡ pos q *ℤ pos n +ℤ pos p → z +ℤ pos s ≡ pos (p + s + q * n)
      up q n p s z e = omega (arith, ints, e)
wrap_more n h (negsuc q) z p s e = ap unsigned_abs (int_rem_euclid_is (z +ℤ pos s) (pos n) n (suc q) (p + s) h refl (down q n p s z e)) where
  down : (q n p s : ℕ) (z : ℤ) → z ≡ negsuc q *ℤ pos n +ℤ pos p → z +ℤ pos s +ℤ pos (suc q * n) ≡ pos (p + s)
  down q n p s z e = omega (arith, ints, e)

pub pattern_grows : (z : ℤ) (step : ℕ) → pattern_of 64 (z +ℤ pos step) ≡ (pattern_of 64 z + step) % 2 ^ 64
pattern_grows z step = let m = (wraps_by_multiples W64 z).1 in wrap_more (2 ^ 64) (omega arith) m.0 z (pattern_of 64 z) step m.1
