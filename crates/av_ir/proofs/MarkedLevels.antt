-- Marked operations and regions, in terms of their parts, and their runs.
use Rattle.std.proofs.Common.{◌≡◌, ap, sym, subst, ◌∙◌, refl, ℕ, ◌+◌, List, [], ◌∷◌, map}
use Rattle.av_ir.specs.declared.ty.Ty.{Ty}
use Rattle.av_ir.specs.declared.module.Op.{Op, Op-F, roll-Op, fold-roll-Op, ind-Op}
use Rattle.av_ir.specs.declared.module.Region.{Region, Region-F, out-Region, roll-Region, roll-out-Region, out-roll-Region, fold-roll-Region, ind-Region}
use Rattle.av_ir.specs.declared.module.Func.{Func}
use Rattle.av_ir.specs.declared.run.Args.{Args}
use Rattle.av_ir.specs.Memory.{bound_of}
use Rattle.av_ir.specs.Run.{word, Act, Env, Body, Perform, op_step, region_step, run_op, run_region, followed, types_at}
use Rattle.av_ir.specs.ScalarRun.{run_func_by, argument_values, memref_types, first_memory, ended_with}
use Rattle.av_ir.specs.Marks.{Made, Making, in_turn, own_loops, mark_op, mark_region, marked_op, marked_region, marked_func}

pub marked_op-roll : (x : Op-F Op Region) (loops : ℕ)
    → marked_op (roll-Op x) loops ≡ mark_op (record {
      number = x.number;
      kind = x.kind;
      operands = x.operands;
      results = x.results;
      regions = map marked_region x.regions;
      marks = x.marks;
    }) loops
unfolding marked_op marked_region
marked_op-roll x loops = ap (λ f. f loops) (fold-roll-Op (Making Op) (Making Region) mark_op mark_region x)

pub marked_region-roll : (x : Region-F Op Region) (loops : ℕ)
    → marked_region (roll-Region x) loops ≡ mark_region (record { args = x.args; ops = map marked_op x.ops }) loops
unfolding marked_op marked_region
marked_region-roll x loops = ap (λ f. f loops) (fold-roll-Region (Making Op) (Making Region) mark_op mark_region x)

module _ {A B : Type 0} (f : A → B) (marking : A → Making A) where
  abbrev Alike : A → Type 0
  Alike a = (loops : ℕ) → f (marking a loops).made ≡ f a

  pub alike_in_turn : (ys : List ((a : A) × Alike a)) (loops : ℕ)
      → map f (in_turn (map marking (map (λ y. y.0) ys)) loops).made ≡ map f (map (λ y. y.0) ys)
  unfolding in_turn
  alike_in_turn [] loops = refl
  alike_in_turn (y ∷ ys) loops =
      ap (λ b. b ∷ map f (in_turn (map marking (map (λ y. y.0) ys)) (marking y.0 loops).loops).made) (y.1 loops)
      ∙ ap (λ bs. f y.0 ∷ bs) (alike_in_turn ys (marking y.0 loops).loops)

module _ (perform : Perform) (types : List Ty) where
  pub run_op-roll : (x : Op-F Op Region) → run_op perform types (roll-Op x) ≡ op_step perform types (record {
    number = x.number;
    kind = x.kind;
    operands = x.operands;
    results = x.results;
    regions = map (run_region perform types) x.regions;
    marks = x.marks;
  })
  unfolding run_op run_region
  run_op-roll x = fold-roll-Op Act (Env → Body) (op_step perform types) region_step x

  pub run_region-roll : (x : Region-F Op Region)
      → run_region perform types (roll-Region x) ≡ region_step (record { args = x.args; ops = map (run_op perform types) x.ops })
  unfolding run_op run_region
  run_region-roll x = fold-roll-Region Act (Env → Body) (op_step perform types) region_step x

  abbrev SameOp : Op → Type 0
  SameOp = Alike (run_op perform types) marked_op

  abbrev SameRegion : Region → Type 0
  SameRegion = Alike (run_region perform types) marked_region

  abbrev with_bodies : Op-F Op Region → List (Env → Body) → Act
  with_bodies x bodies = op_step perform types (record {
    number = x.number;
    kind = x.kind;
    operands = x.operands;
    results = x.results;
    regions = bodies;
    marks = x.marks;
  })

  same_op-roll : (x : Op-F Op Region)
      → ((loops : ℕ) → map (run_region perform types) (in_turn (map marked_region x.regions) loops).made ≡ map (run_region perform types) x.regions)
      → SameOp (roll-Op x)
  same_op-roll x inside loops =
      let at = loops + own_loops x.kind in
      ap (λ (m : Made Op). run_op perform types m.made) (marked_op-roll x loops)
      ∙ run_op-roll (record {
        number = x.number;
        kind = x.kind;
        operands = x.operands;
        results = x.results;
        regions = (in_turn (map marked_region x.regions) at).made;
        marks = _;
      })
      ∙ ap (with_bodies x) (inside at)
      ∙ sym (run_op-roll x)

  same_region-roll : (x : Region-F Op Region)
      → ((loops : ℕ) → map (run_op perform types) (in_turn (map marked_op x.ops) loops).made ≡ map (run_op perform types) x.ops)
      → SameRegion (roll-Region x)
  same_region-roll x inside loops =
      ap (λ (m : Made Region). run_region perform types m.made) (marked_region-roll x loops)
      ∙ run_region-roll (record { args = x.args; ops = (in_turn (map marked_op x.ops) loops).made })
      ∙ ap (λ (acts : List Act). region_step (record { args = x.args; ops = acts })) (inside loops)
      ∙ sym (run_region-roll x)

  pub same_op : (op : Op) → SameOp op
  same_op = ind-Op SameOp SameRegion
      (λ x y is. subst (λ z. SameOp (roll-Op z)) is (same_op-roll _ (alike_in_turn (run_region perform types) marked_region y.regions)))
      (λ x y is. subst (λ z. SameRegion (roll-Region z)) is (same_region-roll _ (alike_in_turn (run_op perform types) marked_op y.ops)))

  pub same_region : (region : Region) → SameRegion region
  same_region = ind-Region SameOp SameRegion
      (λ x y is. subst (λ z. SameOp (roll-Op z)) is (same_op-roll _ (alike_in_turn (run_region perform types) marked_region y.regions)))
      (λ x y is. subst (λ z. SameRegion (roll-Region z)) is (same_region-roll _ (alike_in_turn (run_op perform types) marked_op y.ops)))

-- ---- functions
args_kept : (region : Region) (loops : ℕ) → (out-Region (marked_region region loops).made).args ≡ (out-Region region).args
args_kept region loops =
    let x = out-Region region in
    ap (λ r. (out-Region (marked_region r loops).made).args) (sym (roll-out-Region region))
    ∙ ap (λ (m : Made Region). (out-Region m.made).args) (marked_region-roll x loops)
    ∙ ap (λ (y : Region-F Op Region). y.args) (out-roll-Region (record { args = x.args; ops = (in_turn (map marked_op x.ops) loops).made }))

memory_kept : (f : Func) (loops : ℕ) (args : Args) → first_memory (marked_func f loops).made args ≡ first_memory f args
memory_kept f loops args =
    ap (λ ids. record {
      buffers = (bound_of args).memory;
      stands = (bound_of args).at;
      kinds = memref_types (types_at f.values ids);
    }) (args_kept f.body loops)

pub func_alike : (work : Perform) (f : Func) (loops : ℕ) (args : Args) → run_func_by work (marked_func f loops).made args ≡ run_func_by work f args
func_alike work f loops args =
    let first = λ (k : ℕ). word 0 in
    let values = argument_values 0 args.list in
    ap (λ memory. followed (run_region work f.values (marked_region f.body loops).made first values memory) ended_with) (memory_kept f loops args)
    ∙ ap (λ (body : Env → Body). followed (body first values (first_memory f args)) ended_with) (same_region work f.values f.body loops)

pub funcs_alike : (work : Perform) (args : Args) (fs : List Func) (loops : ℕ)
    → map (λ f. run_func_by work f args) (in_turn (map marked_func fs) loops).made ≡ map (λ f. run_func_by work f args) fs
unfolding in_turn
funcs_alike work args [] loops = refl
funcs_alike work args (f ∷ fs) loops =
    ap (λ r. r ∷ map (λ f. run_func_by work f args) (in_turn (map marked_func fs) (marked_func f loops).loops).made) (func_alike work f loops args)
    ∙ ap (λ rs. run_func_by work f args ∷ rs) (funcs_alike work args fs (marked_func f loops).loops)
