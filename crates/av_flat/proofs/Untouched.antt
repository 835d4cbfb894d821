-- What no operation touches stays.
use Rattle.std.proofs.Common.{◌≡◌, ◌∙◌, ap, sym, subst, refl, ℕ, zero, suc, ◌==◌, if◌then◌else◌, Bool, true, false, List, [], ◌∷◌, length, get_or, set, map, drop, arith, inl, inr}
use Rattle.std.specs.Prelude.{ℤ, pos, ◌+ℤ◌, ◌&&◌, ◌||◌, ◌≢◌, Option, Some, None, is_some, Result, Ok, Err, int_lt, unsigned_abs}
use Rattle.std.specs.List.{list_all, list_any, range_with_len}
use Rattle.std.proofs.Math.ListN.{get_or-eq_default}
use Rattle.std.proofs.lemmas.Bool.{cases_eq, cases_lt}
use Rattle.std.proofs.lemmas.Bool.Decides.{nat_tests}
use Rattle.std.proofs.lemmas.List.{get_or-set_same, get_or-set_other, length-set}
use Rattle.av_bits.specs.declared.types.DivideTrap.{DivideTrap}
use Rattle.av_ir.specs.declared.ty.Ty.{Ty}
use Rattle.av_ir.specs.declared.run.Buffer.{Buffer}
use Rattle.av_ir.specs.declared.run.TrapKind.TheVariants.{OutOfBounds, IndexRange}
use Rattle.av_ir.specs.declared.module.OpKind.{OpKind}
use Rattle.av_ir.specs.declared.module.OpKind.TheVariants.{ArithBinary, ArithCmpi, ArithSelect, ArithCast, AffineFor, AffineIf, AffineApply, AffineMin, AffineMax, AffineLoad, AffineStore, MemrefLoad, MemrefStore, MemrefDim, ScfFor, VectorLoad, VectorStore, VectorMaskedLoad, VectorMaskedStore, VectorGather, VectorScatter}
use Rattle.av_ir.specs.declared.module.Op.{Op, Op-F, roll-Op}
use Rattle.av_ir.specs.declared.module.Region.{Region, Region-F, roll-Region, ind-Region}
use Rattle.av_ir.specs.Memory.{buffer_at, no_buffer}
use Rattle.av_ir.specs.Run.{Value, Memory, Run, ends, traps, after, followed, Given, Ending, Body, Env, State, Act, Perform, bind_values, values_at, types_at, handed_on, run_acts, op_step, region_step, run_op, run_region, gives, lanes, word_at, word_of}
use Rattle.av_ir.specs.Elements.{Form, one, many, Element, element_given, lanes_given, all_lanes, elementwise, form_of, lane_of, first_width, binary_element, compare_element, select_element, cast_element}
use Rattle.av_ir.specs.ScalarRun.{Place, element_at, evaluated, first_body, first_result, greatest, index_at, index_value, least, load_at, loop_from, loaded, mapped, operands_of, perform_branch, perform_loop, place_in, second_body, set_holds, size_at, size_given, store_at, stored, subscripts, turns, with_cell, with_pattern, buffer_of}
use Rattle.av_ir.specs.Lanes.{Lane, off, on, lane_at, lanes_loaded, lanes_stored, placed, read_lane, touched, touches, write_lane, write_lanes}
use Rattle.av_ir.specs.FlatRun.{at_indices, first_lanes, in_masked_row, in_row, index_width, last_lanes, perform_flat, value_at, value_from_end}
use Rattle.av_ir.proofs.MarkedLevels.{run_op-roll, run_region-roll}
use Rattle.av_flat.specs.Touches.{UntouchedLaw, held_at, is_at, touched_at, touches_of, watched}

-- a run that a tripwire lets end does so without it, and the place holds at the end what it held
abbrev Calm : {A : Type 0} → Place → (A → Memory) → Memory → Run A → Run A → Type 0
Calm place memory_of before (ends a n) run = (run ≡ ends a n) × (held_at (memory_of a) place ≡ held_at before place)
Calm place memory_of before (traps kind number n) run = Unit {0}

module _ (place : Place) where
  abbrev Holds : Memory → Memory → Type 0
  Holds before now = held_at now place ≡ held_at before place

  -- ---- one place written
  both_true : (a b : Bool) → a ≡ true → b ≡ true → a && b ≡ false → ⊥
  both_true true true p q h = cc
  both_true true false p q h = cc
  both_true false b p q h = cc

  neither : (a b : Bool) → a || b ≡ false → (a ≡ false) × (b ≡ false)
  neither true b h = absurd (cc)
  neither false b h = (refl, h)

  written_elsewhere : (memory : Memory) (other : Place) (p : ℕ) → is_at place (Some other) ≡ false → Holds memory (with_pattern memory other p)
  written_elsewhere memory other p not =
      let old = buffer_at memory.buffers other.buffer in
      let new = with_cell old other.index p in
      elim (cases_eq place.buffer other.buffer) [
        | inl same ↦ elim (cases_lt other.buffer (length memory.buffers)) [
          | inl there ↦
              let index : place.index ≢ other.index = λ e. both_true (place.buffer == other.buffer) (place.index == other.index) (grind (arith, nat_tests)) (grind (arith, nat_tests)) not in
              ap (λ k. get_or (get_or (set memory.buffers other.buffer new) k no_buffer).cells place.index 0) same
              ∙ ap (λ (b : Buffer). get_or b.cells place.index 0) (get_or-set_same memory.buffers other.buffer new no_buffer there)
              ∙ get_or-set_other old.cells other.index place.index p 0 index
              ∙ ap (λ k. get_or (get_or memory.buffers k no_buffer).cells place.index 0) (sym same)
          | inr behind ↦
              ap (λ (b : Buffer). get_or b.cells place.index 0)
              (get_or-eq_default (set memory.buffers other.buffer new) no_buffer (omega (arith, length-set memory.buffers other.buffer new, same, behind))
              ∙ sym (get_or-eq_default memory.buffers no_buffer (omega (arith, same, behind))))
        ]
        | inr differ ↦ ap (λ (b : Buffer). get_or b.cells place.index 0) (get_or-set_other memory.buffers other.buffer place.buffer new no_buffer differ)
      ]

  -- ---- runs one after the other
  calm_after : {A : Type 0} (memory_of : A → Memory) (before : Memory) (s : ℕ) (w r : Run A) → Calm place memory_of before w r → Calm place memory_of before (after s w) (after s r)
  calm_after memory_of before s (ends a n) r h = (ap (after s) h.0, h.1)
  calm_after memory_of before s (traps kind number n) r h = tt

  calm_before : {A : Type 0} (memory_of : A → Memory) (before now : Memory) (w r : Run A) → Holds before now → Calm place memory_of now w r → Calm place memory_of before w r
  calm_before memory_of before now (ends a n) r held h = (h.0, h.1 ∙ held)
  calm_before memory_of before now (traps kind number n) r held h = tt

  calm_followed : {A B : Type 0} (memory_of : A → Memory) (end_of : B → Memory) (before : Memory) (w r : Run A) (f g : A → Run B)
      → Calm place memory_of before w r → ((a : A) → Calm place end_of (memory_of a) (f a) (g a)) → Calm place end_of before (followed w f) (followed r g)
  calm_followed memory_of end_of before (ends a s) r f g h next =
      subst (Calm place end_of before (after s (f a))) (sym (ap (λ x. followed x g) h.0))
      (calm_after end_of before s (f a) (g a) (calm_before end_of before (memory_of a) (f a) (g a) h.1 (next a)))
  calm_followed memory_of end_of before (traps kind number n) r f g h next = tt

  calm_choice : {A : Type 0} (memory_of : A → Memory) (before : Memory) (b : Bool) (w r v q : Run A) → Calm place memory_of before w r → Calm place memory_of before v q
      → Calm place memory_of before (if b then w else v) (if b then r else q)
  calm_choice memory_of before true w r v q h k = h
  calm_choice memory_of before false w r v q h k = k

  -- ---- loops and branches
  abbrev after_region : Ending → Memory
  after_region e = e.memory

  abbrev after_work : Given → Memory
  after_work g = g.memory

  abbrev CalmBody : Body → Body → Type 0
  CalmBody b c = (values : List Value) (memory : Memory) → Calm place after_region memory (b values memory) (c values memory)

  abbrev AreCalm : List Body → List Body → Type 0
  AreCalm [] [] = Unit {0}
  AreCalm [] (c ∷ cs) = ⊥
  AreCalm (b ∷ bs) [] = ⊥
  AreCalm (b ∷ bs) (c ∷ cs) = CalmBody b c × AreCalm bs cs

  first_calm : (bs cs : List Body) → AreCalm bs cs → CalmBody (first_body bs) (first_body cs)
  first_calm [] [] h = λ values memory. (refl, refl)
  first_calm [] (c ∷ cs) h = absurd h
  first_calm (b ∷ bs) [] h = absurd h
  first_calm (b ∷ bs) (c ∷ cs) h = h.0

  second_calm : (bs cs : List Body) → AreCalm bs cs → CalmBody (second_body bs) (second_body cs)
  second_calm [] [] h = λ values memory. (refl, refl)
  second_calm [] (c ∷ cs) h = absurd h
  second_calm (b ∷ bs) [] h = absurd h
  second_calm (b ∷ bs) (c ∷ cs) h = first_calm bs cs h.1

  loop_calm : (b c : Body) → CalmBody b c → (step n : ℕ) (at : ℤ) (carried : List Value) (memory : Memory)
      → Calm place after_region memory (loop_from b step n at carried memory) (loop_from c step n at carried memory)
  loop_calm b c h step zero at carried memory = (refl, refl)
  loop_calm b c h step (suc n) at carried memory =
      calm_followed after_region after_region memory (after 1 (b (index_value at ∷ carried) memory)) (after 1 (c (index_value at ∷ carried) memory))
      (λ e. loop_from b step n (at +ℤ pos step) e.handed e.memory) (λ e. loop_from c step n (at +ℤ pos step) e.handed e.memory)
      (calm_after after_region memory 1 (b (index_value at ∷ carried) memory) (c (index_value at ∷ carried) memory) (h (index_value at ∷ carried) memory))
      (λ e. loop_calm b c h step n (at +ℤ pos step) e.handed e.memory)

  bounded_calm : (b c : Body) → CalmBody b c → (step number : ℕ) (lower upper : Option (List ℤ)) (carried : List Value) (memory : Memory)
      → Calm place after_work memory (perform_loop step b number lower upper carried memory) (perform_loop step c number lower upper carried memory)
  bounded_calm b c h step number None None carried memory = tt
  bounded_calm b c h step number None (Some high) carried memory = tt
  bounded_calm b c h step number (Some low) None carried memory = tt
  bounded_calm b c h step number (Some low) (Some high) carried memory =
      let n = turns (greatest low) (least high) step in
      calm_followed after_region after_work memory (loop_from b step n (greatest low) carried memory) (loop_from c step n (greatest low) carried memory)
      (λ e. gives e.handed e.memory) (λ e. gives e.handed e.memory) (loop_calm b c h step n (greatest low) carried memory) (λ e. (refl, refl))

  branch_calm : (b c : Body) → CalmBody b c → (memory : Memory) → Calm place after_work memory (perform_branch b memory) (perform_branch c memory)
  branch_calm b c h memory =
      calm_followed after_region after_work memory (b [] memory) (c [] memory) (λ e. gives e.handed e.memory) (λ e. gives e.handed e.memory) (h [] memory) (λ e. (refl, refl))

  -- ---- operations without regions
  abbrev Keeps : Memory → Run Given → Type 0
  Keeps memory run = Calm place after_work memory run run

  element_keeps : (number : ℕ) (memory : Memory) (r : Result ℕ DivideTrap) → Keeps memory (element_given number memory r)
  element_keeps number memory (Ok p) = (refl, refl)
  element_keeps number memory (Err trap) = tt

  lanes_keep : (number : ℕ) (memory : Memory) (r : Result (List ℕ) DivideTrap) → Keeps memory (lanes_given number memory r)
  lanes_keep number memory (Ok ps) = (refl, refl)
  lanes_keep number memory (Err trap) = tt

  elements_keep : (form : Form) (element : Element) (number : ℕ) (values : List Value) (memory : Memory) → Keeps memory (elementwise form element number values memory)
  elements_keep one element number values memory = element_keeps number memory (element (map word_of values))
  elements_keep (many count) element number values memory =
      lanes_keep number memory (all_lanes (map (λ k. element (map (λ value. lane_of value k) values)) (range_with_len 0 count)))

  mapped_keeps : (choose : List ℤ → ℤ) (number : ℕ) (results : Option (List ℤ)) (memory : Memory) → Keeps memory (mapped choose number results memory)
  mapped_keeps choose number None memory = tt
  mapped_keeps choose number (Some zs) memory = (refl, refl)

  size_keeps : (number : ℕ) (size : Option ℕ) (memory : Memory) → Keeps memory (size_given number size memory)
  size_keeps number None memory = tt
  size_keeps number (Some n) memory = (refl, refl)

  loaded_keeps : (number : ℕ) (memory : Memory) (k : ℕ) (o : Option ℕ) → Keeps memory (loaded number memory k o)
  loaded_keeps number memory k None = tt
  loaded_keeps number memory k (Some index) = (refl, refl)

  load_keeps : (number : ℕ) (memory : Memory) (k : ℕ) (at : Option (List ℤ)) → Keeps memory (load_at number memory k at)
  load_keeps number memory k None = tt
  load_keeps number memory k (Some at) = loaded_keeps number memory k (element_at memory k at)

  stored_keeps : (number : ℕ) (memory : Memory) (k p : ℕ) (o : Option ℕ) → list_any (is_at place) (placed memory k o ∷ []) ≡ false → Keeps memory (stored number memory k p o)
  stored_keeps number memory k p None not = tt
  stored_keeps number memory k p (Some index) not = (refl, written_elsewhere memory (place_in memory k index) p (neither (is_at place (Some (place_in memory k index))) false not).0)

  store_keeps : (number : ℕ) (memory : Memory) (k p : ℕ) (at : Option (List ℤ)) → list_any (is_at place) (touched_at memory k at) ≡ false → Keeps memory (store_at number memory k p at)
  store_keeps number memory k p None not = tt
  store_keeps number memory k p (Some at) not = stored_keeps number memory k p (element_at memory k at) not

  -- ---- lanes
  row_loaded : (number count : ℕ) (lane : ℕ → Lane) (other : ℕ → ℕ) (memory : Memory) → Keeps memory (lanes_loaded number count lane other memory)
  row_loaded number count lane other memory =
      let run = gives (lanes (map (λ i. read_lane memory (lane i) (other i)) (range_with_len 0 count)) ∷ []) memory in
      calm_choice after_work memory (list_all is_some (touches count lane)) run run (traps OutOfBounds number 0) (traps OutOfBounds number 0) (refl, refl) tt

  one_written : (lane : Lane) (more : List Lane) (memory : Memory) (p : ℕ) → list_any (is_at place) (touched (lane ∷ more)) ≡ false
      → (list_any (is_at place) (touched more) ≡ false) × Holds memory (write_lane memory lane p)
  one_written off more memory p not = (not, refl)
  one_written (on None) more memory p not = (not, refl)
  one_written (on (Some other)) more memory p not =
      let n = neither (is_at place (Some other)) (list_any (is_at place) (touched more)) not in (n.1, written_elsewhere memory other p n.0)

  all_written : (lane : ℕ → Lane) (pattern : ℕ → ℕ) (numbers : List ℕ) (memory : Memory) → list_any (is_at place) (touched (map lane numbers)) ≡ false
      → Holds memory (write_lanes lane pattern numbers memory)
  all_written lane pattern [] memory not = refl
  all_written lane pattern (i ∷ more) memory not =
      let first = one_written (lane i) (map lane more) memory (pattern i) not in
      all_written lane pattern more (write_lane memory (lane i) (pattern i)) first.0 ∙ first.1

  row_stored : (number count : ℕ) (lane : ℕ → Lane) (pattern : ℕ → ℕ) (memory : Memory) → list_any (is_at place) (touches count lane) ≡ false
      → Keeps memory (lanes_stored number count lane pattern memory)
  row_stored number count lane pattern memory not =
      let run = gives [] (write_lanes lane pattern (range_with_len 0 count) memory) in
      calm_choice after_work memory (list_all is_some (touches count lane)) run run (traps OutOfBounds number 0) (traps OutOfBounds number 0)
      (refl, all_written lane pattern (range_with_len 0 count) memory not) tt

  -- ---- each kind of operation
  module _ (scale : ℕ) where
    work_calm : (operands results : List Ty) (kind : OpKind) (number : ℕ) (values : List Value) (bs cs : List Body) (memory : Memory) → AreCalm bs cs
        → list_any (is_at place) (touches_of scale operands results kind values memory) ≡ false
        → Calm place after_work memory (perform_flat scale operands results kind number values bs memory) (perform_flat scale operands results kind number values cs memory)
    work_calm operands results (ArithBinary op) number values bs cs memory h not = elements_keep (form_of scale results) (binary_element op (first_width results)) number values memory
    work_calm operands results (ArithCmpi pred) number values bs cs memory h not = elements_keep (form_of scale results) (compare_element pred (first_width operands)) number values memory
    work_calm operands results ArithSelect number values bs cs memory h not = elements_keep (form_of scale results) select_element number values memory
    work_calm operands results (ArithCast op) number values bs cs memory h not =
        elements_keep (form_of scale results) (cast_element op (first_width operands) (first_width results)) number values memory
    work_calm operands results (AffineFor lower upper step) number values bs cs memory h not =
        bounded_calm (first_body bs) (first_body cs) (first_calm bs cs h) step number (evaluated lower values) (evaluated upper (drop (operands_of lower) values))
        (drop (operands_of upper) (drop (operands_of lower) values)) memory
    work_calm operands results (AffineIf set) number values bs cs memory h not = chosen (set_holds set values) where
      chosen : (b : Bool) → Calm place after_work memory (perform_branch (if b then first_body bs else second_body bs) memory) (perform_branch (if b then first_body cs else second_body cs) memory)
      chosen true = branch_calm (first_body bs) (first_body cs) (first_calm bs cs h) memory
      chosen false = branch_calm (second_body bs) (second_body cs) (second_calm bs cs h) memory
    work_calm operands results (AffineApply m) number values bs cs memory h not = mapped_keeps first_result number (evaluated m values) memory
    work_calm operands results (AffineMin m) number values bs cs memory h not = mapped_keeps least number (evaluated m values) memory
    work_calm operands results (AffineMax m) number values bs cs memory h not = mapped_keeps greatest number (evaluated m values) memory
    work_calm operands results (AffineLoad m) number values bs cs memory h not = load_keeps number memory (word_at values 0) (evaluated m (drop 1 values))
    work_calm operands results (AffineStore m) number values bs cs memory h not =
        store_keeps number memory (word_at values 1) (word_at values 0) (evaluated m (drop 2 values)) not
    work_calm operands results MemrefLoad number values bs cs memory h not = load_keeps number memory (word_at values 0) (Some (subscripts (drop 1 values)))
    work_calm operands results MemrefStore number values bs cs memory h not =
        store_keeps number memory (word_at values 1) (word_at values 0) (Some (subscripts (drop 2 values))) not
    work_calm operands results MemrefDim number values bs cs memory h not = size_keeps number (size_at (buffer_of memory (word_at values 0)).sizes (index_at values 1)) memory
    work_calm operands results ScfFor number values bs cs memory h not =
        let step = index_at values 2 in
        calm_choice after_work memory (int_lt step (pos 1)) (traps IndexRange number 0) (traps IndexRange number 0)
        (perform_loop (unsigned_abs step) (first_body bs) number (Some (index_at values 0 ∷ [])) (Some (index_at values 1 ∷ [])) (drop 3 values) memory)
        (perform_loop (unsigned_abs step) (first_body cs) number (Some (index_at values 0 ∷ [])) (Some (index_at values 1 ∷ [])) (drop 3 values) memory)
        tt
        (bounded_calm (first_body bs) (first_body cs) (first_calm bs cs h) (unsigned_abs step) number (Some (index_at values 0 ∷ [])) (Some (index_at values 1 ∷ [])) (drop 3 values) memory)
    work_calm operands results VectorLoad number values bs cs memory h not =
        row_loaded number (first_lanes scale results) (lane_at memory (word_at values 0) (in_row (subscripts (drop 1 values)))) (λ i. 0) memory
    work_calm operands results VectorStore number values bs cs memory h not =
        row_stored number (first_lanes scale operands) (lane_at memory (word_at values 1) (in_row (subscripts (drop 2 values)))) (lane_of (value_at values 0)) memory not
    work_calm operands results VectorMaskedLoad number values bs cs memory h not =
        row_loaded number (first_lanes scale results) (lane_at memory (word_at values 0) (in_masked_row values)) (lane_of (value_from_end values 0)) memory
    work_calm operands results VectorMaskedStore number values bs cs memory h not =
        row_stored number (last_lanes scale operands) (lane_at memory (word_at values 0) (in_masked_row values)) (lane_of (value_from_end values 0)) memory not
    work_calm operands results VectorGather number values bs cs memory h not =
        row_loaded number (first_lanes scale results) (lane_at memory (word_at values 0) (at_indices (index_width operands) values)) (lane_of (value_from_end values 0)) memory
    work_calm operands results VectorScatter number values bs cs memory h not =
        row_stored number (last_lanes scale operands) (lane_at memory (word_at values 0) (at_indices (index_width operands) values)) (lane_of (value_from_end values 0)) memory not
    work_calm operands results kind number values bs cs memory h not = (refl, refl)

    abbrev tripping : Perform
    tripping = watched place scale

    abbrev plain : Perform
    plain = perform_flat scale

    watched_calm : (operands results : List Ty) (kind : OpKind) (number : ℕ) (values : List Value) (bs cs : List Body) (memory : Memory) → AreCalm bs cs
        → Calm place after_work memory (tripping operands results kind number values bs memory) (plain operands results kind number values cs memory)
    watched_calm operands results kind number values bs cs memory h =
        by (list_any (is_at place) (touches_of scale operands results kind values memory)) refl where
          by : (b : Bool) → list_any (is_at place) (touches_of scale operands results kind values memory) ≡ b
              → Calm place after_work memory (if b then traps OutOfBounds number 0 else (plain operands results kind number values bs memory)) (plain operands results kind number values cs memory)
          by true e = tt
          by false e = work_calm operands results kind number values bs cs memory h e

    -- ---- operations and regions
    module _ (types : List Ty) where
      abbrev after_ops : State → Memory
      after_ops s = s.memory

      abbrev CalmOp : Op → Type 0
      CalmOp op = (env : Env) (memory : Memory) (handed : List Value)
          → Calm place after_ops memory (run_op tripping types op env memory handed) (run_op plain types op env memory handed)

      abbrev CalmRegion : Region → Type 0
      CalmRegion region = (env : Env) → CalmBody (run_region tripping types region env) (run_region plain types region env)

      abbrev in_env : Perform → Env → List Region → List Body
      in_env work env regions = map (λ region. region env) (map (run_region work types) regions)

      regions_calm : (ys : List ((region : Region) × CalmRegion region)) (env : Env)
          → AreCalm (in_env tripping env (map (λ y. y.0) ys)) (in_env plain env (map (λ y. y.0) ys))
      regions_calm [] env = tt
      regions_calm (y ∷ ys) env = (y.1 env, regions_calm ys env)

      abbrev acts : Perform → List Op → Act
      acts work ops = run_acts (map (run_op work types) ops)

      ops_calm : (ys : List ((op : Op) × CalmOp op)) (env : Env) (memory : Memory) (handed : List Value)
          → Calm place after_ops memory (acts tripping (map (λ y. y.0) ys) env memory handed) (acts plain (map (λ y. y.0) ys) env memory handed)
      ops_calm [] env memory handed = (refl, refl)
      ops_calm (y ∷ ys) env memory handed =
          calm_followed after_ops after_ops memory (run_op tripping types y.0 env memory handed) (run_op plain types y.0 env memory handed)
          (λ s. acts tripping (map (λ z. z.0) ys) s.env s.memory s.handed) (λ s. acts plain (map (λ z. z.0) ys) s.env s.memory s.handed)
          (y.1 env memory handed) (λ s. ops_calm ys s.env s.memory s.handed)

      abbrev layer : Perform → Op-F Op Region → Op-F Act (Env → Body)
      layer work x = record { number = x.number; kind = x.kind; operands = x.operands; results = x.results; regions = map (run_region work types) x.regions; marks = x.marks }

      op_case : (x : Op-F Op Region) (ys : List ((region : Region) × CalmRegion region)) → map (λ y. y.0) ys ≡ x.regions → CalmOp (roll-Op x)
      op_case x ys is env memory handed =
          let operands = types_at types x.operands in
          let results = types_at types x.results in
          let values = values_at env x.operands in
          let bound = λ (g : Given). ends (record { env = bind_values env x.results g.outcome; memory = g.memory; handed = handed_on g.handed handed }) 0 in
          let w = tripping operands results x.kind x.number values (in_env tripping env x.regions) memory in
          let r = plain operands results x.kind x.number values (in_env plain env x.regions) memory in
          let inside : AreCalm (in_env tripping env x.regions) (in_env plain env x.regions) =
          subst (λ rs. AreCalm (in_env tripping env rs) (in_env plain env rs)) is (regions_calm ys env) in
          subst (λ run. Calm place after_ops memory run (run_op plain types (roll-Op x) env memory handed)) (sym (ap (λ (act : Act). act env memory handed) (run_op-roll tripping types x)))
          (subst (λ run. Calm place after_ops memory (op_step tripping types (layer tripping x) env memory handed) run) (sym (ap (λ (act : Act). act env memory handed) (run_op-roll plain types x)))
          (calm_after after_ops memory 1 (followed w bound) (followed r bound)
          (calm_followed after_work after_ops memory w r bound bound
          (watched_calm operands results x.kind x.number values (in_env tripping env x.regions) (in_env plain env x.regions) memory inside) (λ g. (refl, refl)))))

      region_case : (x : Region-F Op Region) (ys : List ((op : Op) × CalmOp op)) → map (λ y. y.0) ys ≡ x.ops → CalmRegion (roll-Region x)
      region_case x ys is env values memory =
          let inner = bind_values env x.args values in
          let close = λ (s : State). ends (record { memory = s.memory; handed = s.handed }) 0 in
          let inside : Calm place after_ops memory (acts tripping x.ops inner memory []) (acts plain x.ops inner memory []) =
          subst (λ ops. Calm place after_ops memory (acts tripping ops inner memory []) (acts plain ops inner memory [])) is (ops_calm ys inner memory []) in
          subst (λ run. Calm place after_region memory run (run_region plain types (roll-Region x) env values memory)) (sym (ap (λ (body : Env → Body). body env values memory) (run_region-roll tripping types x)))
          (subst (λ run. Calm place after_region memory (region_step (record { args = x.args; ops = map (run_op tripping types) x.ops }) env values memory) run) (sym (ap (λ (body : Env → Body). body env values memory) (run_region-roll plain types x)))
          (calm_followed after_ops after_region memory (acts tripping x.ops inner memory []) (acts plain x.ops inner memory []) close close inside (λ s. (refl, refl))))

      all_calm : (region : Region) → CalmRegion region
      all_calm = ind-Region CalmOp CalmRegion
          (λ x y is. op_case x y.regions (ap (λ (z : Op-F Op Region). z.regions) is))
          (λ x y is. region_case x y.ops (ap (λ (z : Region-F Op Region). z.ops) is))

pub untouched : UntouchedLaw
untouched place scale types region env values memory end steps is =
    let h = subst (λ run. Calm place (λ (e : Ending). e.memory) memory run (run_region (perform_flat scale) types region env values memory)) is
    (all_calm place scale types region env values memory) in
    record { alike = h.0; held = h.1 }
