-- The names of operations.
use Rattle.std.specs.Prelude.{ℕ, List, codes}
use Rattle.av_bits.specs.declared.types.BinOp.{BinOp}
use Rattle.av_bits.specs.declared.types.BinOp.TheVariants.{Addi, Subi, Muli, Divsi, Divui, Remsi, Remui, Floordivsi, Ceildivsi, Ceildivui, Andi, Ori, Xori, Shli, Shrsi, Shrui, Minsi, Minui, Maxsi, Maxui}
use Rattle.av_bits.specs.declared.types.CastOp.{CastOp}
use Rattle.av_bits.specs.declared.types.CastOp.TheVariants.{Extsi, Extui, Trunci, IndexCast, IndexCastui}
use Rattle.av_bits.specs.declared.types.Kind9.{Kind9}
use Rattle.av_bits.specs.declared.types.Kind9.TheVariants as kind9
use Rattle.av_ir.specs.declared.module.OpKind.{OpKind}
use Rattle.av_ir.specs.declared.module.OpKind.TheVariants.{FuncReturn, ArithConstant, ArithBinary, ArithCmpi, ArithSelect, ArithCast, AffineFor, AffineIf, AffineYield, AffineApply, AffineMin, AffineMax, AffineLoad, AffineStore, MemrefLoad, MemrefStore, MemrefDim, ScfFor, ScfYield, VectorLoad, VectorStore, VectorMaskedLoad, VectorMaskedStore, VectorGather, VectorScatter, VectorBroadcast, VectorCreateMask, VectorReduction, VectorExtract, VectorInsert, VectorShuffle, VectorStep, VectorVscale}

abbrev pub binary_name : BinOp → List ℕ
binary_name Addi = codes "arith.addi"
binary_name Subi = codes "arith.subi"
binary_name Muli = codes "arith.muli"
binary_name Divsi = codes "arith.divsi"
binary_name Divui = codes "arith.divui"
binary_name Remsi = codes "arith.remsi"
binary_name Remui = codes "arith.remui"
binary_name Floordivsi = codes "arith.floordivsi"
binary_name Ceildivsi = codes "arith.ceildivsi"
binary_name Ceildivui = codes "arith.ceildivui"
binary_name Andi = codes "arith.andi"
binary_name Ori = codes "arith.ori"
binary_name Xori = codes "arith.xori"
binary_name Shli = codes "arith.shli"
binary_name Shrsi = codes "arith.shrsi"
binary_name Shrui = codes "arith.shrui"
binary_name Minsi = codes "arith.minsi"
binary_name Minui = codes "arith.minui"
binary_name Maxsi = codes "arith.maxsi"
binary_name Maxui = codes "arith.maxui"

abbrev pub cast_name : CastOp → List ℕ
cast_name Extsi = codes "arith.extsi"
cast_name Extui = codes "arith.extui"
cast_name Trunci = codes "arith.trunci"
cast_name IndexCast = codes "arith.index_cast"
cast_name IndexCastui = codes "arith.index_castui"

-- the word of a kind by which elements are combined
abbrev pub combining_name : Kind9 → List ℕ
combining_name kind9.Add = codes "add"
combining_name kind9.Mul = codes "mul"
combining_name kind9.And = codes "and"
combining_name kind9.Or = codes "or"
combining_name kind9.Xor = codes "xor"
combining_name kind9.Minsi = codes "minsi"
combining_name kind9.Minui = codes "minui"
combining_name kind9.Maxsi = codes "maxsi"
combining_name kind9.Maxui = codes "maxui"

abbrev pub kind_name : OpKind → List ℕ
kind_name FuncReturn = codes "func.return"
kind_name (ArithConstant value) = codes "arith.constant"
kind_name (ArithBinary op) = binary_name op
kind_name (ArithCmpi pred) = codes "arith.cmpi"
kind_name ArithSelect = codes "arith.select"
kind_name (ArithCast op) = cast_name op
kind_name (AffineFor lower upper step) = codes "affine.for"
kind_name (AffineIf set) = codes "affine.if"
kind_name AffineYield = codes "affine.yield"
kind_name (AffineApply m) = codes "affine.apply"
kind_name (AffineMin m) = codes "affine.min"
kind_name (AffineMax m) = codes "affine.max"
kind_name (AffineLoad m) = codes "affine.load"
kind_name (AffineStore m) = codes "affine.store"
kind_name MemrefLoad = codes "memref.load"
kind_name MemrefStore = codes "memref.store"
kind_name MemrefDim = codes "memref.dim"
kind_name ScfFor = codes "scf.for"
kind_name ScfYield = codes "scf.yield"
kind_name VectorLoad = codes "vector.load"
kind_name VectorStore = codes "vector.store"
kind_name VectorMaskedLoad = codes "vector.maskedload"
kind_name VectorMaskedStore = codes "vector.maskedstore"
kind_name VectorGather = codes "vector.gather"
kind_name VectorScatter = codes "vector.scatter"
kind_name VectorBroadcast = codes "vector.broadcast"
kind_name VectorCreateMask = codes "vector.create_mask"
kind_name (VectorReduction kind) = codes "vector.reduction"
kind_name (VectorExtract at) = codes "vector.extract"
kind_name (VectorInsert at) = codes "vector.insert"
kind_name (VectorShuffle picks) = codes "vector.shuffle"
kind_name VectorStep = codes "vector.step"
kind_name VectorVscale = codes "vector.vscale"
