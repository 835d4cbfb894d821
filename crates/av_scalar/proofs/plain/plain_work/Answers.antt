use Rattle.std.proofs.Common.{ap, ◌∙◌}
use Rattle.std.specs.Prelude.{Ok, drop, [], ◌∷◌}
use Rattle.av_ir.specs.declared.module.Op.{out-Op}
use Rattle.av_ir.specs.declared.module.OpKind.TheVariants.{ArithConstant, ArithBinary, ArithCmpi, ArithSelect, ArithCast, AffineApply, AffineMin, AffineMax, AffineLoad, AffineStore}
use Rattle.av_ir.specs.Elements.{binary_element, cast_element, compare_element, element_given, first_width, select_element}
use Rattle.av_ir.specs.Run.{gives, types_at, word, word_at}
use Rattle.av_ir.specs.ScalarRun.{evaluated, first_result, greatest, least, load_at, mapped, store_at}
use Rattle.av_scalar.specs.Names.{values}
use Rattle.av_scalar.specs.Stores.{memory_of}
use Rattle.av_scalar.proofs.Parts.{element_once}
use Rattle.av_scalar.proofs.Plains.{first_width_of, of_kind}
use Rattle.av_scalar.proofs.plain.plain_work.Goals as goal

pub returns-in-ArithConstant-clause-meets : goal.returns-in-ArithConstant-clause-meets
returns-in-ArithConstant-clause-meets c = λ bodies budget none.
    of_kind (types_at c.args.types.now (out-Op c.args.op.now).operands) (types_at c.args.types.now (out-Op c.args.op.now).results) (out-Op c.args.op.now).kind (ArithConstant c.in-ArithConstant.value) c.in-ArithConstant.is (out-Op c.args.op.now).number c.args.operands bodies (memory_of c.args.standing.now c.args.memory.now.items)
    (gives (word c.pattern_of.result ∷ []) (memory_of c.args.standing.now c.args.memory.now.items))
    (ap (λ p. gives (word p ∷ []) (memory_of c.args.standing.now c.args.memory.now.items)) c.pattern_of.ensures)
    (memory_of c.args.standing.now c.args.memory.now.items) budget c.give_word.result (c.give_word.ensures (memory_of c.args.standing.now c.args.memory.now.items) budget)

pub returns-in-ArithBinary-clause-meets : goal.returns-in-ArithBinary-clause-meets
returns-in-ArithBinary-clause-meets c = λ bodies budget none.
    of_kind (types_at c.args.types.now (out-Op c.args.op.now).operands) (types_at c.args.types.now (out-Op c.args.op.now).results) (out-Op c.args.op.now).kind (ArithBinary c.in-ArithBinary.op) c.in-ArithBinary.is (out-Op c.args.op.now).number c.args.operands bodies (memory_of c.args.standing.now c.args.memory.now.items)
    (element_given (out-Op c.args.op.now).number (memory_of c.args.standing.now c.args.memory.now.items) c.binary_element.result)
    (ap (element_given (out-Op c.args.op.now).number (memory_of c.args.standing.now c.args.memory.now.items))
    (c.binary_element.ensures ∙ ap (λ w. binary_element c.in-ArithBinary.op w c.as_slice-words.result.now) (first_width_of c.args.types.now (out-Op c.args.op.now).results c.as_slice-2.result.now c.first_width-to.result c.first_width-to.ensures c.as_slice-2.ensures)
    ∙ ap (binary_element c.in-ArithBinary.op (first_width (types_at c.args.types.now (out-Op c.args.op.now).results))) c.as_slice-words.ensures)
    ∙ element_once (binary_element c.in-ArithBinary.op (first_width (types_at c.args.types.now (out-Op c.args.op.now).results))) (out-Op c.args.op.now).number c.args.operands (memory_of c.args.standing.now c.args.memory.now.items))
    (memory_of c.args.standing.now c.args.memory.now.items) budget c.give_element.result (c.give_element.ensures (memory_of c.args.standing.now c.args.memory.now.items) budget)

pub returns-in-ArithCmpi-clause-meets : goal.returns-in-ArithCmpi-clause-meets
returns-in-ArithCmpi-clause-meets c = λ bodies budget none.
    of_kind (types_at c.args.types.now (out-Op c.args.op.now).operands) (types_at c.args.types.now (out-Op c.args.op.now).results) (out-Op c.args.op.now).kind (ArithCmpi c.in-ArithCmpi.pred) c.in-ArithCmpi.is (out-Op c.args.op.now).number c.args.operands bodies (memory_of c.args.standing.now c.args.memory.now.items)
    (element_given (out-Op c.args.op.now).number (memory_of c.args.standing.now c.args.memory.now.items) (Ok c.compare_element.result))
    (ap (element_given (out-Op c.args.op.now).number (memory_of c.args.standing.now c.args.memory.now.items))
    (c.compare_element.ensures ∙ ap (λ w. compare_element c.in-ArithCmpi.pred w c.as_slice-words.result.now) (first_width_of c.args.types.now (out-Op c.args.op.now).operands c.as_slice.result.now c.first_width-from.result c.first_width-from.ensures c.as_slice.ensures)
    ∙ ap (compare_element c.in-ArithCmpi.pred (first_width (types_at c.args.types.now (out-Op c.args.op.now).operands))) c.as_slice-words.ensures)
    ∙ element_once (compare_element c.in-ArithCmpi.pred (first_width (types_at c.args.types.now (out-Op c.args.op.now).operands))) (out-Op c.args.op.now).number c.args.operands (memory_of c.args.standing.now c.args.memory.now.items))
    (memory_of c.args.standing.now c.args.memory.now.items) budget c.give_element-in-ArithCmpi.result (c.give_element-in-ArithCmpi.ensures (memory_of c.args.standing.now c.args.memory.now.items) budget)

pub returns-in-ArithSelect-clause-meets : goal.returns-in-ArithSelect-clause-meets
returns-in-ArithSelect-clause-meets c = λ bodies budget none.
    of_kind (types_at c.args.types.now (out-Op c.args.op.now).operands) (types_at c.args.types.now (out-Op c.args.op.now).results) (out-Op c.args.op.now).kind ArithSelect c.in-ArithSelect.is (out-Op c.args.op.now).number c.args.operands bodies (memory_of c.args.standing.now c.args.memory.now.items)
    (element_given (out-Op c.args.op.now).number (memory_of c.args.standing.now c.args.memory.now.items) (Ok c.select_element.result))
    (ap (element_given (out-Op c.args.op.now).number (memory_of c.args.standing.now c.args.memory.now.items)) (c.select_element.ensures ∙ ap select_element c.as_slice-words.ensures) ∙ element_once select_element (out-Op c.args.op.now).number c.args.operands (memory_of c.args.standing.now c.args.memory.now.items))
    (memory_of c.args.standing.now c.args.memory.now.items) budget c.give_element-in-ArithSelect.result (c.give_element-in-ArithSelect.ensures (memory_of c.args.standing.now c.args.memory.now.items) budget)

pub returns-in-ArithCast-clause-meets : goal.returns-in-ArithCast-clause-meets
returns-in-ArithCast-clause-meets c = λ bodies budget none.
    of_kind (types_at c.args.types.now (out-Op c.args.op.now).operands) (types_at c.args.types.now (out-Op c.args.op.now).results) (out-Op c.args.op.now).kind (ArithCast c.in-ArithCast.op) c.in-ArithCast.is (out-Op c.args.op.now).number c.args.operands bodies (memory_of c.args.standing.now c.args.memory.now.items)
    (element_given (out-Op c.args.op.now).number (memory_of c.args.standing.now c.args.memory.now.items) (Ok c.cast_element.result))
    (ap (element_given (out-Op c.args.op.now).number (memory_of c.args.standing.now c.args.memory.now.items))
    (c.cast_element.ensures ∙ ap (λ w. cast_element c.in-ArithCast.op w c.first_width-to.result c.as_slice-words.result.now) (first_width_of c.args.types.now (out-Op c.args.op.now).operands c.as_slice.result.now c.first_width-from.result c.first_width-from.ensures c.as_slice.ensures)
    ∙ ap (λ w. cast_element c.in-ArithCast.op (first_width (types_at c.args.types.now (out-Op c.args.op.now).operands)) w c.as_slice-words.result.now) (first_width_of c.args.types.now (out-Op c.args.op.now).results c.as_slice-2.result.now c.first_width-to.result c.first_width-to.ensures c.as_slice-2.ensures)
    ∙ ap (cast_element c.in-ArithCast.op (first_width (types_at c.args.types.now (out-Op c.args.op.now).operands)) (first_width (types_at c.args.types.now (out-Op c.args.op.now).results))) c.as_slice-words.ensures)
    ∙ element_once (cast_element c.in-ArithCast.op (first_width (types_at c.args.types.now (out-Op c.args.op.now).operands)) (first_width (types_at c.args.types.now (out-Op c.args.op.now).results))) (out-Op c.args.op.now).number c.args.operands (memory_of c.args.standing.now c.args.memory.now.items))
    (memory_of c.args.standing.now c.args.memory.now.items) budget c.give_element-in-ArithCast.result (c.give_element-in-ArithCast.ensures (memory_of c.args.standing.now c.args.memory.now.items) budget)

pub returns-in-AffineApply-clause-meets : goal.returns-in-AffineApply-clause-meets
returns-in-AffineApply-clause-meets c = λ bodies budget none.
    of_kind (types_at c.args.types.now (out-Op c.args.op.now).operands) (types_at c.args.types.now (out-Op c.args.op.now).results) (out-Op c.args.op.now).kind (AffineApply c.in-AffineApply.map) c.in-AffineApply.is (out-Op c.args.op.now).number c.args.operands bodies (memory_of c.args.standing.now c.args.memory.now.items)
    (mapped first_result (out-Op c.args.op.now).number (evaluated c.in-AffineApply.map (values c.as_slice-words.result.now)) (memory_of c.args.standing.now c.args.memory.now.items))
    (ap (λ ws. mapped first_result (out-Op c.args.op.now).number (evaluated c.in-AffineApply.map (values ws)) (memory_of c.args.standing.now c.args.memory.now.items)) c.as_slice-words.ensures)
    (memory_of c.args.standing.now c.args.memory.now.items) budget c.give_mapped.result (c.give_mapped.ensures (memory_of c.args.standing.now c.args.memory.now.items) budget)

pub returns-in-AffineMin-clause-meets : goal.returns-in-AffineMin-clause-meets
returns-in-AffineMin-clause-meets c = λ bodies budget none.
    of_kind (types_at c.args.types.now (out-Op c.args.op.now).operands) (types_at c.args.types.now (out-Op c.args.op.now).results) (out-Op c.args.op.now).kind (AffineMin c.in-AffineMin.map) c.in-AffineMin.is (out-Op c.args.op.now).number c.args.operands bodies (memory_of c.args.standing.now c.args.memory.now.items)
    (mapped least (out-Op c.args.op.now).number (evaluated c.in-AffineMin.map (values c.as_slice-words.result.now)) (memory_of c.args.standing.now c.args.memory.now.items))
    (ap (λ ws. mapped least (out-Op c.args.op.now).number (evaluated c.in-AffineMin.map (values ws)) (memory_of c.args.standing.now c.args.memory.now.items)) c.as_slice-words.ensures)
    (memory_of c.args.standing.now c.args.memory.now.items) budget c.give_mapped-in-AffineMin.result (c.give_mapped-in-AffineMin.ensures (memory_of c.args.standing.now c.args.memory.now.items) budget)

pub returns-in-AffineMax-clause-meets : goal.returns-in-AffineMax-clause-meets
returns-in-AffineMax-clause-meets c = λ bodies budget none.
    of_kind (types_at c.args.types.now (out-Op c.args.op.now).operands) (types_at c.args.types.now (out-Op c.args.op.now).results) (out-Op c.args.op.now).kind (AffineMax c.in-AffineMax.map) c.in-AffineMax.is (out-Op c.args.op.now).number c.args.operands bodies (memory_of c.args.standing.now c.args.memory.now.items)
    (mapped greatest (out-Op c.args.op.now).number (evaluated c.in-AffineMax.map (values c.as_slice-words.result.now)) (memory_of c.args.standing.now c.args.memory.now.items))
    (ap (λ ws. mapped greatest (out-Op c.args.op.now).number (evaluated c.in-AffineMax.map (values ws)) (memory_of c.args.standing.now c.args.memory.now.items)) c.as_slice-words.ensures)
    (memory_of c.args.standing.now c.args.memory.now.items) budget c.give_mapped-in-AffineMax.result (c.give_mapped-in-AffineMax.ensures (memory_of c.args.standing.now c.args.memory.now.items) budget)

pub returns-in-AffineLoad-clause-meets : goal.returns-in-AffineLoad-clause-meets
returns-in-AffineLoad-clause-meets c = λ bodies budget none.
    of_kind (types_at c.args.types.now (out-Op c.args.op.now).operands) (types_at c.args.types.now (out-Op c.args.op.now).results) (out-Op c.args.op.now).kind (AffineLoad c.in-AffineLoad.map) c.in-AffineLoad.is (out-Op c.args.op.now).number c.args.operands bodies (memory_of c.args.standing.now c.args.memory.now.items)
    (load_at (out-Op c.args.op.now).number (memory_of c.args.standing.now c.args.memory.now.items) (word_at (values c.as_slice-words.result.now) 0) (evaluated c.in-AffineLoad.map (drop 1 (values c.as_slice-words.result.now))))
    (ap (λ ws. load_at (out-Op c.args.op.now).number (memory_of c.args.standing.now c.args.memory.now.items) (word_at (values ws) 0) (evaluated c.in-AffineLoad.map (drop 1 (values ws)))) c.as_slice-words.ensures)
    (memory_of c.args.standing.now c.args.memory.now.items) budget c.load_mapped.result (c.load_mapped.ensures budget)

pub returns-in-AffineStore-clause-meets : goal.returns-in-AffineStore-clause-meets
returns-in-AffineStore-clause-meets c = λ bodies budget none.
    of_kind (types_at c.args.types.now (out-Op c.args.op.now).operands) (types_at c.args.types.now (out-Op c.args.op.now).results) (out-Op c.args.op.now).kind (AffineStore c.in-AffineStore.map) c.in-AffineStore.is (out-Op c.args.op.now).number c.args.operands bodies (memory_of c.args.standing.now c.args.memory.now.items)
    (store_at (out-Op c.args.op.now).number (memory_of c.args.standing.now c.args.memory.now.items) (word_at (values c.as_slice-words.result.now) 1) (word_at (values c.as_slice-words.result.now) 0) (evaluated c.in-AffineStore.map (drop 2 (values c.as_slice-words.result.now))))
    (ap (λ ws. store_at (out-Op c.args.op.now).number (memory_of c.args.standing.now c.args.memory.now.items) (word_at (values ws) 1) (word_at (values ws) 0) (evaluated c.in-AffineStore.map (drop 2 (values ws)))) c.as_slice-words.ensures)
    (memory_of c.args.standing.now c.store_mapped.new.memory.items) budget c.store_mapped.result (c.store_mapped.ensures.stored budget)
