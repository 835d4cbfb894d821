-- How parts of a run, one after the other, meet the whole.
use Rattle.std.proofs.Common.{◌≡◌, ℕ, ◌+◌, ◌<◌, arith, sym, subst}
use Rattle.av_ir.specs.declared.run.RunStop.{RunStop}
use Rattle.av_ir.specs.declared.run.RunStop.TheVariants.{Trap, OutOfSteps, NoMemory}
use Rattle.av_ir.specs.Run.{Run, ends, traps, after, followed}
use Rattle.av_scalar.specs.Meeting.{EndsAt, EndsWithin, Leads, Stops, steps_of}

pub leads_itself : {A : Type 0} (run : Run A) (budget : ℕ) → Leads run budget run budget
leads_itself run budget = record { ended = λ end last h. h; stopped = λ stop h. h }

pub leads_on : {A : Type 0} (a b c : Run A) (l m n : ℕ) → Leads a l b m → Leads b m c n → Leads a l c n
leads_on a b c l m n first second = record {
  ended = λ end last h. second.ended end last (first.ended end last h);
  stopped = λ stop h. second.stopped stop (first.stopped stop h);
}

-- where the runs are equal, so is what they meet
pub leads_as : {A : Type 0} (run same : Run A) (budget : ℕ) → run ≡ same → Leads run budget same budget
leads_as run same budget e = subst (λ r. Leads run budget r budget) e (leads_itself run budget)

-- ---- a step
stops_behind : {A : Type 0} (run : Run A) (left budget steps : ℕ) → steps + left ≡ budget → (stop : RunStop) → Stops run left stop → Stops (after steps run) budget stop
stops_behind (ends a n) left budget steps e (Trap kind number) h = h
stops_behind (traps k o n) left budget steps e (Trap kind number) h = (h.0, h.1, omega (arith, h.2))
stops_behind (ends a n) left budget steps e OutOfSteps h = omega (arith, h)
stops_behind (traps k o n) left budget steps e OutOfSteps h = omega (arith, h)
stops_behind (ends a n) left budget steps e NoMemory h = tt
stops_behind (traps k o n) left budget steps e NoMemory h = tt

ends_behind : {A : Type 0} (run : Run A) (left budget steps : ℕ) → steps + left ≡ budget → (end : A) (last : ℕ) → EndsAt run left end last → EndsAt (after steps run) budget end last
ends_behind (ends a n) left budget steps e end last h = (h.0, omega (arith, h.1))
ends_behind (traps k o n) left budget steps e end last h = h

-- a run behind so many steps
pub behind_steps : {A : Type 0} (run : Run A) (left budget steps : ℕ) → steps + left ≡ budget → Leads run left (after steps run) budget
behind_steps run left budget steps e = record { ended = ends_behind run left budget steps e; stopped = stops_behind run left budget steps e }

-- a run behind a spent step
pub spent : {A : Type 0} (run : Run A) (left budget : ℕ) → left + 1 ≡ budget → Leads run left (after 1 run) budget
spent run left budget e = behind_steps run left budget 1 (omega arith)

-- no step is left for it
pub short : {A : Type 0} (run : Run A) (budget : ℕ) → budget ≡ 0 → Stops (after 1 run) budget OutOfSteps
short (ends a n) budget e = omega arith
short (traps k o n) budget e = omega arith

-- ---- one part and then another
-- behind a part that ended
pub goes_on : {A B : Type 0} (run : Run A) (next : A → Run B) (budget : ℕ) (a : A) (left : ℕ) → EndsAt run budget a left
    → Leads (next a) left (followed run next) budget
goes_on (ends b n) next budget a left h =
    subst (λ x. Leads (next a) left (after n (next x)) budget) (sym h.0) (behind_steps (next a) left budget n h.1)
goes_on (traps k o n) next budget a left h = absurd h

more_steps : {A : Type 0} (run : Run A) (n budget : ℕ) → budget < n → budget < steps_of (after n run)
more_steps (ends a s) n budget h = omega arith
more_steps (traps k o s) n budget h = omega arith

-- behind a part that stopped
pub breaks_off : {A B : Type 0} (run : Run A) (next : A → Run B) (budget : ℕ) (stop : RunStop) → Stops run budget stop
    → Stops (followed run next) budget stop
breaks_off (ends a n) next budget (Trap kind number) h = absurd h
breaks_off (traps k o n) next budget (Trap kind number) h = h
breaks_off (ends a n) next budget OutOfSteps h = more_steps (next a) n budget h
breaks_off (traps k o n) next budget OutOfSteps h = h
breaks_off (ends a n) next budget NoMemory h = tt
breaks_off (traps k o n) next budget NoMemory h = tt

-- an end is one within the budget
pub within_budget : {A : Type 0} (run : Run A) (budget : ℕ) (a : A) (left : ℕ) → EndsAt run budget a left → EndsWithin run budget a
within_budget (ends b n) budget a left h = (h.0, omega (arith, h.1))
within_budget (traps k o n) budget a left h = absurd h
