-- The run of a function from its arguments on.
use Rattle.std.proofs.Common.{◌≡◌, ℕ, ◌^◌, ◌<◌, ◌≤◌, List, [], ◌∷◌, length, get_or, map, arith, ap, sym, ◌∙◌, refl, subst}
use Rattle.std.specs.Prelude.{Option, Some, None, slice_get}
use Rattle.std.specs.List.{All, AllZip, range_with_len}
use Rattle.std.proofs.lemmas.List.{length-map}
use Rattle.std.proofs.lemmas.List.FromFn.{get_or-range_with_len, length-range_with_len}
use Rattle.std.proofs.lemmas.List.Elements.{All-nil, All-cons}
use Rattle.av_shapes.specs.Shape.{product}
use Rattle.av_ir.specs.declared.ty.Ty.{Ty}
use Rattle.av_ir.specs.declared.ty.Ty.TheVariants.{Scalar, MemRef, Vector}
use Rattle.av_ir.specs.declared.run.Buffer.{Buffer}
use Rattle.av_ir.specs.declared.run.Arg.{Arg}
use Rattle.av_ir.specs.declared.run.Arg.TheVariants.{Word, Buf}
use Rattle.av_ir.specs.declared.run.Args.{Args}
use Rattle.av_ir.specs.declared.run.RunStop.{RunStop}
use Rattle.av_ir.specs.declared.binding.Bound.{Bound}
use Rattle.av_ir.specs.declared.types.Ended.{Ended}
use Rattle.av_ir.specs.declared.module.ValueId.{ValueId}
use Rattle.av_ir.specs.declared.module.Func.{Func}
use Rattle.av_ir.specs.declared.module.Region.{out-Region}
use Rattle.av_ir.specs.Memory.{bound_of, buffer_at, buffers_of, end_of}
use Rattle.av_ir.specs.Values.{Fits, SuitsOption, SuitsValue, elements}
use Rattle.av_ir.specs.Run.{Run, word, word_of, ends, followed, Ending, Env, types_at, run_region}
use Rattle.av_ir.specs.ScalarRun.{argument_values, ended_with, first_memory, memref_types, perform, run_scalar_of}
use Rattle.av_scalar.specs.declared.memory.Standing.{Standing}
use Rattle.av_scalar.specs.Meeting.{EndsAt, EndsWithin, Stops}
use Rattle.av_scalar.specs.Names.{values}
use Rattle.av_scalar.specs.Stores.{AreSmall, memory_of, sizes_of}
use Rattle.av_scalar.proofs.Meetings.{breaks_off, goes_on, leads_as, within_budget}
use Rattle.av_scalar.proofs.Parts.{ends_now}

-- ---- buffers that fit are small
small_buffer : (b : Buffer) → (o : Option Ty) → SuitsOption o (Buf b) → length b.cells ≤ 2 ^ 26 → product b.sizes ≤ 2 ^ 26
small_buffer b None h few = absurd h
small_buffer b (Some (Scalar elem)) h few = absurd h
small_buffer b (Some (Vector shape elem)) h few = absurd h
small_buffer b (Some (MemRef extents elem)) h few = subst (λ n. n ≤ 2 ^ 26) h.as_many few

small_buffers : (types : List Ty) (ids : List ValueId) (args : List Arg) → AllZip (SuitsValue types) ids args → elements args ≤ 2 ^ 26 → AreSmall (buffers_of args)
small_buffers types [] [] h few = All-nil (λ b. product b.sizes ≤ 2 ^ 26)
small_buffers types [] (a ∷ args) h few = absurd h
small_buffers types (id ∷ ids) [] h few = absurd h
small_buffers types (id ∷ ids) (Word p ∷ args) h few = small_buffers types ids args h.1 (omega (arith, few))
small_buffers types (id ∷ ids) (Buf b ∷ args) h few =
    All-cons (λ x. product x.sizes ≤ 2 ^ 26) b (buffers_of args) (small_buffer b (slice_get types id.0) h.0 (omega (arith, few)))
    (small_buffers types ids args h.1 (omega (arith, few)))

pub small_at_first : (f : Func) (args : Args) (bound : Bound) → Fits f args → bound ≡ bound_of args → AreSmall bound.memory
small_at_first f args bound fits is = subst AreSmall (sym (ap (λ b. b.memory) is)) (small_buffers f.values (out-Region f.body).args args.list fits.suit fits.few)

-- ---- each memref argument stands for a buffer
pub all_standing : (args : Args) (bound : Bound) (now : List Buffer) → bound ≡ bound_of args → sizes_of now ≡ sizes_of bound.memory → All (λ k. k < length now) bound.at
all_standing args bound now is same = λ k d l.
    let n = length (buffers_of args.list) in
    let many : length now ≡ n = sym (length-map now (λ b. b.sizes)) ∙ ap length same ∙ length-map bound.memory (λ b. b.sizes) ∙ ap (λ b. length b.memory) is in
    let at : bound.at ≡ range_with_len 0 n = ap (λ b. b.at) is in
    let within : k < n = subst (λ m. k < m) (ap length at ∙ length-range_with_len 0 n) l in
    let here : get_or bound.at k d ≡ k = ap (λ l. get_or l k d) at ∙ get_or-range_with_len 0 n k d within ∙ omega arith in
    subst (λ x. x < length now) (sym here) (subst (λ m. k < m) (sym many) within)

-- ---- the whole run
words_back : (ps : List ℕ) → map word_of (values ps) ≡ ps
words_back [] = refl
words_back (p ∷ ps) = ap (λ l. p ∷ l) (words_back ps)

module _ (f : Func) (args : Args) (types : List Ty) (kinds : List Ty) (env : Env) (ws given : List ℕ) (bound : Bound) (buffers : List Buffer) (is_types : types ≡ f.values) (is_kinds : kinds ≡ memref_types (types_at f.values (out-Region f.body).args)) (is_env : env ≡ (λ k. word 0)) (is_words : values ws ≡ argument_values 0 args.list) (is_given : given ≡ ws) (is_bound : bound ≡ bound_of args) (is_buffers : buffers ≡ bound.memory) (steps : ℕ) where
  standing : Standing
  standing = record { at = bound.at; kinds = kinds }

  first : memory_of (record { at = bound.at; kinds = kinds }) buffers ≡ first_memory f args
  first = λ i. record {
    buffers = (is_buffers ∙ ap (λ b. b.memory) is_bound) i;
    stands = (is_bound i).at;
    kinds = is_kinds i;
  }

  abbrev body : Run Ending
  body = run_region perform types f.body env (values given) (memory_of (record { at = bound.at; kinds = kinds }) buffers)

  whole : followed body ended_with ≡ run_scalar_of f args
  whole = ap (λ r. followed r ended_with)
      (ap (λ ts. run_region perform ts f.body env (values given) (memory_of (record { at = bound.at; kinds = kinds }) buffers)) is_types
      ∙ ap (λ e. run_region perform f.values f.body e (values given) (memory_of (record { at = bound.at; kinds = kinds }) buffers)) is_env
      ∙ ap (λ vs. run_region perform f.values f.body (λ k. word 0) vs (memory_of (record { at = bound.at; kinds = kinds }) buffers)) (ap values is_given ∙ is_words)
      ∙ ap (run_region perform f.values f.body (λ k. word 0) (argument_values 0 args.list)) first)

  pub func_stops : (stop : RunStop) → Stops (run_region perform types f.body env (values given) (memory_of (record { at = bound.at; kinds = kinds }) buffers)) steps stop
      → Stops (run_scalar_of f args) steps stop
  func_stops stop h = (leads_as (followed body ended_with) (run_scalar_of f args) steps whole).stopped stop (breaks_off body ended_with steps stop h)

  pub func_ends : (now : List Buffer) (ps : List ℕ) (left : ℕ)
      → EndsAt (run_region perform types f.body env (values given) (memory_of (record { at = bound.at; kinds = kinds }) buffers)) steps (record { memory = memory_of (record { at = bound.at; kinds = kinds }) now; handed = values ps }) left
      → (b : Bound) → b.memory ≡ now → b.at ≡ bound.at → (e : Ended) → e ≡ end_of b ps → EndsWithin (run_scalar_of f args) steps e
  func_ends now ps left h b memory at e is =
      let end : Ending = record { memory = memory_of (record { at = bound.at; kinds = kinds }) now; handed = values ps } in
      let same : ended_with end ≡ ends e 0 =
      ap (λ rs. ends (record { buffers = map (buffer_at now) bound.at; results = rs }) 0) (words_back ps)
      ∙ ap (λ ks. ends (record { buffers = map (buffer_at now) ks; results = ps }) 0) (sym at)
      ∙ ap (λ ms. ends (record { buffers = map (buffer_at ms) b.at; results = ps }) 0) (sym memory)
      ∙ ap (λ x. ends x 0) (sym is) in
      let over : EndsAt (followed body ended_with) steps e left =
      (goes_on body ended_with steps end left h).ended e left (ends_now (ended_with end) e same left) in
      within_budget (run_scalar_of f args) steps e left ((leads_as (followed body ended_with) (run_scalar_of f args) steps whole).ended e left over)
