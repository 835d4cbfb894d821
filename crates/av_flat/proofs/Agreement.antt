-- On operations and types of Scalar mode both runs do the same.
use Rattle.std.proofs.Common.{◌≡◌, ◌∙◌, ℕ, suc, List, [], ◌∷◌, length, get_or, map, ap, sym, refl, inl, inr, subst, arith}
use Rattle.std.proofs.Math.Path.{fun_ext}
use Rattle.std.proofs.Math.ListN.{get_or-eq_default}
use Rattle.std.proofs.lemmas.Bool.{cases_lt}
use Rattle.std.specs.List.{All}
use Rattle.av_ir.specs.declared.ty.Elem.TheVariants.{Index}
use Rattle.av_ir.specs.declared.ty.Ty.{Ty}
use Rattle.av_ir.specs.declared.ty.Ty.TheVariants.{Scalar, MemRef, Vector}
use Rattle.av_ir.specs.declared.module.OpKind.{OpKind}
use Rattle.av_ir.specs.declared.module.OpKind.TheVariants.{ArithConstant, ArithBinary, ArithCmpi, ArithSelect, ArithCast, ScfFor, ScfYield, VectorLoad, VectorStore, VectorMaskedLoad, VectorMaskedStore, VectorGather, VectorScatter, VectorBroadcast, VectorCreateMask, VectorReduction, VectorExtract, VectorInsert, VectorShuffle, VectorStep, VectorVscale}
use Rattle.av_ir.specs.declared.module.ValueId.{ValueId}
use Rattle.av_ir.specs.declared.module.Op.{Op, Op-F, roll-Op}
use Rattle.av_ir.specs.declared.module.Region.{Region, Region-F, roll-Region, ind-Region}
use Rattle.av_ir.specs.declared.module.Func.{Func}
use Rattle.av_ir.specs.declared.run.Args.{Args}
use Rattle.av_ir.specs.Run.{word, Act, Body, Env, Memory, Value, after, bind_values, ends, followed, handed_on, op_step, region_step, run_op, run_region, types_at, values_at, gives}
use Rattle.av_ir.specs.Elements.{Element, one, form_of, first_width, binary_element, compare_element, select_element, cast_element, elementwise}
use Rattle.av_ir.specs.ScalarRun.{argument_values, ended_with, first_memory, perform, run_scalar_of}
use Rattle.av_ir.specs.FlatRun.{constant_in, perform_flat, run_flat_of}
use Rattle.av_ir.specs.WellFormed.{IsNoVector, IsScalarFunc, IsScalarKind, IsScalarOp, IsScalarRegion}
use Rattle.av_ir.proofs.MarkedLevels.{run_op-roll, run_region-roll}
use Rattle.av_flat.proofs.ScalarParts.{kind_is_scalar, regions_are_scalar, ops_are_scalar}

one_element : (scale : ℕ) (ty : Ty) (types : List Ty) → IsNoVector ty → form_of scale (ty ∷ types) ≡ one
one_element scale (Scalar elem) types h = refl
one_element scale (MemRef extents elem) types h = refl
one_element scale (Vector shape elem) types h = absurd h

no_vector_at : (types : List Ty) (k : ℕ) → All IsNoVector types → IsNoVector (get_or types k (Scalar Index))
no_vector_at types k h = elim (cases_lt k (length types)) [
  | inl l ↦ h k (Scalar Index) l
  | inr l ↦ subst IsNoVector (sym (get_or-eq_default types (Scalar Index) l)) tt
]

form_is : (scale : ℕ) (types : List Ty) (ids : List ValueId) → All IsNoVector types → form_of scale (types_at types ids) ≡ one
form_is scale types [] h = refl
form_is scale types (id ∷ ids) h = one_element scale (get_or types id.0 (Scalar Index)) (types_at types ids) (no_vector_at types id.0 h)

module _ (scale : ℕ) (types : List Ty) (none : All IsNoVector types) where
  once : (results : List ValueId) (element : Element) (number : ℕ) (values : List Value) (memory : Memory)
      → elementwise (form_of scale (types_at types results)) element number values memory ≡ elementwise one element number values memory
  once results element number values memory = ap (λ form. elementwise form element number values memory) (form_is scale types results none)

  same_work : (operands : List Ty) (results : List ValueId) (kind : OpKind) → IsScalarKind kind → (number : ℕ) (values : List Value) (bodies : List Body) (memory : Memory)
      → perform_flat scale operands (types_at types results) kind number values bodies memory ≡ perform operands (types_at types results) kind number values bodies memory
  same_work operands results (ArithConstant value) h number values bodies memory = ap (λ form. gives (constant_in form value ∷ []) memory) (form_is scale types results none)
  same_work operands results (ArithBinary op) h number values bodies memory = once results (binary_element op (first_width (types_at types results))) number values memory
  same_work operands results (ArithCmpi pred) h number values bodies memory = once results (compare_element pred (first_width operands)) number values memory
  same_work operands results ArithSelect h number values bodies memory = once results select_element number values memory
  same_work operands results (ArithCast op) h number values bodies memory =
      once results (cast_element op (first_width operands) (first_width (types_at types results))) number values memory
  same_work operands results ScfFor h number values bodies memory = absurd h
  same_work operands results ScfYield h number values bodies memory = absurd h
  same_work operands results VectorLoad h number values bodies memory = absurd h
  same_work operands results VectorStore h number values bodies memory = absurd h
  same_work operands results VectorMaskedLoad h number values bodies memory = absurd h
  same_work operands results VectorMaskedStore h number values bodies memory = absurd h
  same_work operands results VectorGather h number values bodies memory = absurd h
  same_work operands results VectorScatter h number values bodies memory = absurd h
  same_work operands results VectorBroadcast h number values bodies memory = absurd h
  same_work operands results VectorCreateMask h number values bodies memory = absurd h
  same_work operands results (VectorReduction kind) h number values bodies memory = absurd h
  same_work operands results (VectorExtract at) h number values bodies memory = absurd h
  same_work operands results (VectorInsert at) h number values bodies memory = absurd h
  same_work operands results (VectorShuffle picks) h number values bodies memory = absurd h
  same_work operands results VectorStep h number values bodies memory = absurd h
  same_work operands results VectorVscale h number values bodies memory = absurd h
  same_work operands results kind h number values bodies memory = refl

  -- ---- operations and regions
  abbrev SameOp : Op → Type 0
  SameOp op = IsScalarOp op → run_op (perform_flat scale) types op ≡ run_op perform types op

  abbrev SameRegion : Region → Type 0
  SameRegion region = IsScalarRegion region → run_region (perform_flat scale) types region ≡ run_region perform types region

  same_step : (x : Op-F Act (Env → Body)) → IsScalarKind x.kind → op_step (perform_flat scale) types x ≡ op_step perform types x
  same_step x h = fun_ext (λ env. fun_ext (λ memory. fun_ext (λ handed.
      ap (λ given. after 1 (followed given (λ g. ends (record { env = bind_values env x.results g.outcome; memory = g.memory; handed = handed_on g.handed handed }) 0)))
      (same_work (types_at types x.operands) x.results x.kind h x.number (values_at env x.operands) (map (λ region. region env) x.regions) memory))))

  all_same : {A B : Type 0} (P : A → Type 0) (f g : A → B) (ys : List ((a : A) × (P a → f a ≡ g a))) → All P (map (λ y. y.0) ys)
      → map f (map (λ y. y.0) ys) ≡ map g (map (λ y. y.0) ys)
  all_same P f g [] h = refl
  all_same P f g (y ∷ ys) h =
      ap (λ b. b ∷ map f (map (λ z. z.0) ys)) (y.1 (h 0 y.0 (omega arith)))
      ∙ ap (λ bs. g y.0 ∷ bs) (all_same P f g ys (λ k d below. h (suc k) d (omega arith)))

  same_op-roll : (x : Op-F Op Region) → map (run_region (perform_flat scale) types) x.regions ≡ map (run_region perform types) x.regions
      → IsScalarKind x.kind → run_op (perform_flat scale) types (roll-Op x) ≡ run_op perform types (roll-Op x)
  same_op-roll x inside kind =
      run_op-roll (perform_flat scale) types x
      ∙ ap (λ bodies. op_step (perform_flat scale) types (record { number = x.number; kind = x.kind; operands = x.operands; results = x.results; regions = bodies; marks = x.marks })) inside
      ∙ same_step (record { number = x.number; kind = x.kind; operands = x.operands; results = x.results; regions = map (run_region perform types) x.regions; marks = x.marks }) kind
      ∙ sym (run_op-roll perform types x)

  same_region-roll : (x : Region-F Op Region) → map (run_op (perform_flat scale) types) x.ops ≡ map (run_op perform types) x.ops
      → run_region (perform_flat scale) types (roll-Region x) ≡ run_region perform types (roll-Region x)
  same_region-roll x inside =
      run_region-roll (perform_flat scale) types x
      ∙ ap (λ (acts : List Act). region_step (record { args = x.args; ops = acts })) inside
      ∙ sym (run_region-roll perform types x)

  op_case : (x : Op-F Op Region) (ys : List ((region : Region) × SameRegion region)) → map (λ y. y.0) ys ≡ x.regions → SameOp (roll-Op x)
  op_case x ys is h =
      same_op-roll x
      (subst (λ regions. map (run_region (perform_flat scale) types) regions ≡ map (run_region perform types) regions) is
      (all_same IsScalarRegion (run_region (perform_flat scale) types) (run_region perform types) ys (subst (All IsScalarRegion) (sym is) (regions_are_scalar x h))))
      (kind_is_scalar x h)

  region_case : (x : Region-F Op Region) (ys : List ((op : Op) × SameOp op)) → map (λ y. y.0) ys ≡ x.ops → SameRegion (roll-Region x)
  region_case x ys is h =
      same_region-roll x
      (subst (λ ops. map (run_op (perform_flat scale) types) ops ≡ map (run_op perform types) ops) is
      (all_same IsScalarOp (run_op (perform_flat scale) types) (run_op perform types) ys (subst (All IsScalarOp) (sym is) (ops_are_scalar x h))))

  pub same_region : (region : Region) → SameRegion region
  same_region = ind-Region SameOp SameRegion
      (λ x y is. op_case x y.regions (ap (λ (z : Op-F Op Region). z.regions) is))
      (λ x y is. region_case x y.ops (ap (λ (z : Region-F Op Region). z.ops) is))

-- a function of Scalar mode runs alike, whatever its scale
pub flat_is_scalar : (scale : ℕ) (f : Func) (args : Args) → IsScalarFunc f → run_flat_of scale f args ≡ run_scalar_of f args
flat_is_scalar scale f args h =
    ap (λ run. followed (run (λ k. word 0) (argument_values 0 args.list) (first_memory f args)) ended_with) (same_region scale f.values h.types f.body h.ops)

pub all_alike : (scale : ℕ) (args : Args) (fs : List Func) → All IsScalarFunc fs → map (λ f. run_flat_of scale f args) fs ≡ map (λ f. run_scalar_of f args) fs
all_alike scale args [] h = refl
all_alike scale args (f ∷ fs) h =
    ap (λ r. r ∷ map (λ g. run_flat_of scale g args) fs) (flat_is_scalar scale f args (h 0 f (omega arith)))
    ∙ ap (λ rs. run_scalar_of f args ∷ rs) (all_alike scale args fs (λ k d below. h (suc k) d (omega arith)))
