-- Small pieces of work on vectors, worked out by hand.
use Rattle.std.specs.Prelude.{◌≡◌, ℕ, ◌-◌, ◌^◌, List, [], ◌∷◌, true, false, None}
use Rattle.av_bits.specs.declared.types.Width.TheVariants.{W1, W8, W32}
use Rattle.av_bits.specs.declared.types.BinOp.TheVariants.{Addi, Divui}
use Rattle.av_bits.specs.declared.types.Pred.TheVariants.{Slt}
use Rattle.av_bits.specs.declared.types.CastOp.TheVariants.{Extsi}
use Rattle.av_bits.specs.declared.types.Kind9.TheVariants.{Add, Minsi}
use Rattle.av_ir.specs.declared.ty.Elem.{Elem}
use Rattle.av_ir.specs.declared.ty.Elem.TheVariants.{Int, Index}
use Rattle.av_ir.specs.declared.ty.Ty.{Ty}
use Rattle.av_ir.specs.declared.ty.Ty.TheVariants.{Scalar, Vector}
use Rattle.av_ir.specs.declared.run.TrapKind.TheVariants.{Divide, IndexRange, OutOfBounds}
use Rattle.av_ir.specs.declared.module.Const.TheVariants.{Splat, Each}
use Rattle.av_ir.specs.declared.module.OpKind.{OpKind}
use Rattle.av_ir.specs.declared.module.OpKind.TheVariants.{ArithConstant, ArithBinary, ArithCmpi, ArithSelect, ArithCast, ScfFor, VectorLoad, VectorStore, VectorMaskedLoad, VectorMaskedStore, VectorGather, VectorScatter, VectorBroadcast, VectorCreateMask, VectorReduction, VectorExtract, VectorInsert, VectorShuffle, VectorStep, VectorVscale}
use Rattle.av_ir.specs.Run.{Value, word, lanes, Run, ends, traps, Given, gives}
use Rattle.av_ir.specs.FlatRun.{perform_flat}
use Rattle.av_ir.specs.Examples.{adding, cells_in, i8, index, three_cells}

-- the types of 3 lanes and of 2 lanes, and of 2 lanes times the scale
abbrev pub three : Elem → Ty
three elem = Vector (record { sizes = 3 ∷ []; scalable = false }) elem

abbrev pub two : Elem → Ty
two elem = Vector (record { sizes = 2 ∷ []; scalable = false }) elem

abbrev pub two_scaled : Ty
two_scaled = Vector (record { sizes = 2 ∷ []; scalable = true }) (Int W8)

-- an operation without regions, where memory has 7, 8 and 9
abbrev pub at_scale : ℕ → List Ty → List Ty → OpKind → ℕ → List Value → Run Given
at_scale scale operands results kind number values = perform_flat scale operands results kind number values [] three_cells

abbrev pub gives_lanes : List ℕ → Run Given
gives_lanes ps = gives (lanes ps ∷ []) three_cells

abbrev pub gives_word : ℕ → Run Given
gives_word p = gives (word p ∷ []) three_cells

pub record ElementExamples (number : ℕ) : Type 0 where
  pub splat : at_scale 3 [] (two_scaled ∷ []) (ArithConstant (Splat 7)) number [] ≡ gives_lanes (7 ∷ 7 ∷ 7 ∷ 7 ∷ 7 ∷ 7 ∷ [])
  pub fixed : at_scale 3 [] (three (Int W8) ∷ []) (ArithConstant (Splat 7)) number [] ≡ gives_lanes (7 ∷ 7 ∷ 7 ∷ [])
  pub each : at_scale 3 [] (three (Int W8) ∷ []) (ArithConstant (Each (1 ∷ 2 ∷ 3 ∷ []))) number [] ≡ gives_lanes (1 ∷ 2 ∷ 3 ∷ [])
  pub wraps : at_scale 1 (three (Int W8) ∷ []) (three (Int W8) ∷ []) (ArithBinary Addi) number (lanes (1 ∷ 255 ∷ 128 ∷ []) ∷ lanes (2 ∷ 1 ∷ 128 ∷ []) ∷ [])
      ≡ gives_lanes (3 ∷ 0 ∷ 0 ∷ [])
  pub one_trap : at_scale 1 (three (Int W8) ∷ []) (three (Int W8) ∷ []) (ArithBinary Divui) number (lanes (6 ∷ 6 ∷ 6 ∷ []) ∷ lanes (1 ∷ 0 ∷ 3 ∷ []) ∷ [])
      ≡ traps Divide number 0
  pub compares : at_scale 1 (three (Int W8) ∷ []) (three (Int W1) ∷ []) (ArithCmpi Slt) number (lanes (1 ∷ 255 ∷ 0 ∷ []) ∷ lanes (2 ∷ 1 ∷ 255 ∷ []) ∷ [])
      ≡ gives_lanes (1 ∷ 1 ∷ 0 ∷ [])
  pub selects : at_scale 1 (three (Int W1) ∷ []) (three (Int W8) ∷ []) ArithSelect number
      (lanes (1 ∷ 0 ∷ 1 ∷ []) ∷ lanes (1 ∷ 2 ∷ 3 ∷ []) ∷ lanes (4 ∷ 5 ∷ 6 ∷ []) ∷ []) ≡ gives_lanes (1 ∷ 5 ∷ 3 ∷ [])
  pub by_one : at_scale 1 (Scalar (Int W1) ∷ []) (three (Int W8) ∷ []) ArithSelect number (word 0 ∷ lanes (1 ∷ 2 ∷ 3 ∷ []) ∷ lanes (4 ∷ 5 ∷ 6 ∷ []) ∷ [])
      ≡ gives_lanes (4 ∷ 5 ∷ 6 ∷ [])
  pub casts : at_scale 1 (two (Int W8) ∷ []) (two (Int W32) ∷ []) (ArithCast Extsi) number (lanes (1 ∷ 255 ∷ []) ∷ [])
      ≡ gives_lanes (1 ∷ (2 ^ 32 - 1) ∷ [])

-- all lanes of a load or store have to be inside; of the masked ones, those that are on
pub record RowExamples (number : ℕ) : Type 0 where
  pub loads : at_scale 1 [] (two (Int W32) ∷ []) VectorLoad number (word 0 ∷ word 1 ∷ []) ≡ gives_lanes (8 ∷ 9 ∷ [])
  pub one_outside : at_scale 1 [] (two (Int W32) ∷ []) VectorLoad number (word 0 ∷ word 2 ∷ []) ≡ traps OutOfBounds number 0
  pub from_below : at_scale 1 [] (two (Int W32) ∷ []) VectorLoad number (word 0 ∷ word (2 ^ 64 - 1) ∷ []) ≡ traps OutOfBounds number 0
  pub stores : at_scale 1 (two (Int W32) ∷ []) [] VectorStore number (lanes (1 ∷ 2 ∷ []) ∷ word 0 ∷ word 0 ∷ []) ≡ gives [] (cells_in 1 2 9)
  pub not_stored : at_scale 1 (two (Int W32) ∷ []) [] VectorStore number (lanes (1 ∷ 2 ∷ []) ∷ word 0 ∷ word 2 ∷ []) ≡ traps OutOfBounds number 0
  pub masked : at_scale 1 [] (two (Int W32) ∷ []) VectorMaskedLoad number (word 0 ∷ word 2 ∷ lanes (1 ∷ 0 ∷ []) ∷ lanes (4 ∷ 5 ∷ []) ∷ [])
      ≡ gives_lanes (9 ∷ 5 ∷ [])
  pub on_outside : at_scale 1 [] (two (Int W32) ∷ []) VectorMaskedLoad number (word 0 ∷ word 2 ∷ lanes (0 ∷ 1 ∷ []) ∷ lanes (4 ∷ 5 ∷ []) ∷ [])
      ≡ traps OutOfBounds number 0
  pub masked_store : at_scale 1 (two (Int W32) ∷ []) [] VectorMaskedStore number (word 0 ∷ word 2 ∷ lanes (1 ∷ 0 ∷ []) ∷ lanes (4 ∷ 5 ∷ []) ∷ [])
      ≡ gives [] (cells_in 7 8 4)

-- places told by a vector of signed indices; of lanes with one place the last one stays
pub record IndexedExamples (number : ℕ) : Type 0 where
  pub gathers : at_scale 1 (Scalar Index ∷ Scalar Index ∷ two (Int W8) ∷ two (Int W1) ∷ two (Int W32) ∷ []) (two (Int W32) ∷ []) VectorGather number
      (word 0 ∷ word 2 ∷ lanes (0 ∷ 254 ∷ []) ∷ lanes (1 ∷ 1 ∷ []) ∷ lanes (4 ∷ 5 ∷ []) ∷ []) ≡ gives_lanes (9 ∷ 7 ∷ [])
  pub off : at_scale 1 (Scalar Index ∷ Scalar Index ∷ two Index ∷ two (Int W1) ∷ two (Int W32) ∷ []) (two (Int W32) ∷ []) VectorGather number
      (word 0 ∷ word 2 ∷ lanes (0 ∷ 1 ∷ []) ∷ lanes (1 ∷ 0 ∷ []) ∷ lanes (4 ∷ 5 ∷ []) ∷ []) ≡ gives_lanes (9 ∷ 5 ∷ [])
  pub outside : at_scale 1 (Scalar Index ∷ Scalar Index ∷ two Index ∷ two (Int W1) ∷ two (Int W32) ∷ []) (two (Int W32) ∷ []) VectorGather number
      (word 0 ∷ word 2 ∷ lanes (0 ∷ 1 ∷ []) ∷ lanes (1 ∷ 1 ∷ []) ∷ lanes (4 ∷ 5 ∷ []) ∷ []) ≡ traps OutOfBounds number 0
  pub scatters : at_scale 1 (Scalar Index ∷ Scalar Index ∷ two Index ∷ two (Int W1) ∷ two (Int W32) ∷ []) [] VectorScatter number
      (word 0 ∷ word 1 ∷ lanes (0 ∷ 0 ∷ []) ∷ lanes (1 ∷ 1 ∷ []) ∷ lanes (4 ∷ 5 ∷ []) ∷ []) ≡ gives [] (cells_in 7 5 9)

pub record LaneExamples (number : ℕ) : Type 0 where
  pub scalar : at_scale 2 i8 (two_scaled ∷ []) VectorBroadcast number (word 5 ∷ []) ≡ gives_lanes (5 ∷ 5 ∷ 5 ∷ 5 ∷ [])
  pub stretched : at_scale 1 [] (two (Int W8) ∷ []) VectorBroadcast number (lanes (5 ∷ []) ∷ []) ≡ gives_lanes (5 ∷ 5 ∷ [])
  pub mask : at_scale 1 index (three (Int W1) ∷ []) VectorCreateMask number (word 2 ∷ []) ≡ gives_lanes (1 ∷ 1 ∷ 0 ∷ [])
  pub no_mask : at_scale 1 index (three (Int W1) ∷ []) VectorCreateMask number (word (2 ^ 64 - 1) ∷ []) ≡ gives_lanes (0 ∷ 0 ∷ 0 ∷ [])
  pub full_mask : at_scale 1 index (three (Int W1) ∷ []) VectorCreateMask number (word 9 ∷ []) ≡ gives_lanes (1 ∷ 1 ∷ 1 ∷ [])
  pub sum : at_scale 1 (three (Int W8) ∷ []) i8 (VectorReduction Add) number (lanes (1 ∷ 2 ∷ 255 ∷ []) ∷ []) ≡ gives_word 2
  pub onto : at_scale 1 (three (Int W8) ∷ []) i8 (VectorReduction Add) number (lanes (1 ∷ 2 ∷ 255 ∷ []) ∷ word 10 ∷ []) ≡ gives_word 12
  pub least : at_scale 1 (three (Int W8) ∷ []) i8 (VectorReduction Minsi) number (lanes (1 ∷ 255 ∷ 2 ∷ []) ∷ []) ≡ gives_word 255
  pub extracts : at_scale 1 (three (Int W8) ∷ []) i8 (VectorExtract (1 ∷ [])) number (lanes (4 ∷ 5 ∷ 6 ∷ []) ∷ []) ≡ gives_word 5
  pub whole : at_scale 1 (three (Int W8) ∷ []) (three (Int W8) ∷ []) (VectorExtract []) number (lanes (4 ∷ 5 ∷ 6 ∷ []) ∷ []) ≡ gives_lanes (4 ∷ 5 ∷ 6 ∷ [])
  pub inserts : at_scale 1 i8 (three (Int W8) ∷ []) (VectorInsert (1 ∷ [])) number (word 9 ∷ lanes (4 ∷ 5 ∷ 6 ∷ []) ∷ []) ≡ gives_lanes (4 ∷ 9 ∷ 6 ∷ [])
  pub shuffles : at_scale 1 (two (Int W8) ∷ []) (three (Int W8) ∷ []) (VectorShuffle (3 ∷ 0 ∷ 3 ∷ [])) number (lanes (4 ∷ 5 ∷ []) ∷ lanes (6 ∷ 7 ∷ []) ∷ [])
      ≡ gives_lanes (7 ∷ 4 ∷ 7 ∷ [])
  pub steps : at_scale 2 [] (two_scaled ∷ []) VectorStep number [] ≡ gives_lanes (0 ∷ 1 ∷ 2 ∷ 3 ∷ [])
  pub scale : at_scale 16 [] index VectorVscale number [] ≡ gives_word 16

-- three turns over 0, 2 and 4, none from above, and a step below 1
pub record SignedLoopExamples (number : ℕ) : Type 0 where
  pub three_turns : perform_flat 1 index index ScfFor number (word 0 ∷ word 5 ∷ word 2 ∷ word 10 ∷ []) (adding ∷ []) three_cells
      ≡ ends (record { outcome = word 16 ∷ []; memory = three_cells; handed = None }) 15
  pub from_above : perform_flat 1 index index ScfFor number (word 0 ∷ word (2 ^ 64 - 1) ∷ word 2 ∷ word 10 ∷ []) (adding ∷ []) three_cells ≡ gives_word 10
  pub no_step : perform_flat 1 index index ScfFor number (word 5 ∷ word 0 ∷ word 0 ∷ word 10 ∷ []) (adding ∷ []) three_cells ≡ traps IndexRange number 0
  pub backward : perform_flat 1 index index ScfFor number (word 5 ∷ word 0 ∷ word (2 ^ 64 - 1) ∷ word 10 ∷ []) (adding ∷ []) three_cells ≡ traps IndexRange number 0
