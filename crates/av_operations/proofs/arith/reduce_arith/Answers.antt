use Rattle.av_operations.proofs.arith.reduce_arith.Goals as goal

pub returns-in-NumberConstant-clause-ok : goal.returns-in-NumberConstant-clause-ok
returns-in-NumberConstant-clause-ok c = rw c.in-NumberConstant.is c.number_constant.ensures.ok

pub returns-in-NumberConstant-clause-misshapen : goal.returns-in-NumberConstant-clause-misshapen
returns-in-NumberConstant-clause-misshapen c = rw c.in-NumberConstant.is c.number_constant.ensures.misshapen

pub returns-in-NoOverflow-clause-ok : goal.returns-in-NoOverflow-clause-ok
returns-in-NoOverflow-clause-ok c = rw c.in-NoOverflow.is c.no_entries.ensures.ok

pub returns-in-NoOverflow-clause-misshapen : goal.returns-in-NoOverflow-clause-misshapen
returns-in-NoOverflow-clause-misshapen c = rw c.in-NoOverflow.is c.no_entries.ensures.misshapen

pub returns-in-WrittenOverflow-clause-ok : goal.returns-in-WrittenOverflow-clause-ok
returns-in-WrittenOverflow-clause-ok c = rw c.in-WrittenOverflow.is c.overflow_flags.ensures.ok

pub returns-in-WrittenOverflow-clause-misshapen : goal.returns-in-WrittenOverflow-clause-misshapen
returns-in-WrittenOverflow-clause-misshapen c = rw c.in-WrittenOverflow.is c.overflow_flags.ensures.misshapen

pub returns-in-NoMoreOverflowFlags-clause-ok : goal.returns-in-NoMoreOverflowFlags-clause-ok
returns-in-NoMoreOverflowFlags-clause-ok c = rw c.in-NoMoreOverflowFlags.is c.no_texts.ensures.ok

pub returns-in-NoMoreOverflowFlags-clause-misshapen : goal.returns-in-NoMoreOverflowFlags-clause-misshapen
returns-in-NoMoreOverflowFlags-clause-misshapen c = rw c.in-NoMoreOverflowFlags.is c.no_texts.ensures.misshapen

pub returns-in-NextOverflowFlag-clause-ok : goal.returns-in-NextOverflowFlag-clause-ok
returns-in-NextOverflowFlag-clause-ok c = rw c.in-NextOverflowFlag.is c.text_before.ensures.ok

pub returns-in-NextOverflowFlag-clause-misshapen : goal.returns-in-NextOverflowFlag-clause-misshapen
returns-in-NextOverflowFlag-clause-misshapen c = rw c.in-NextOverflowFlag.is c.text_before.ensures.misshapen

pub returns-in-BoolConstant-clause-ok : goal.returns-in-BoolConstant-clause-ok
returns-in-BoolConstant-clause-ok c = rw c.in-BoolConstant.is c.bool_constant.ensures.ok

pub returns-in-BoolConstant-clause-misshapen : goal.returns-in-BoolConstant-clause-misshapen
returns-in-BoolConstant-clause-misshapen c = rw c.in-BoolConstant.is c.bool_constant.ensures.misshapen

pub returns-in-DenseConstant-clause-ok : goal.returns-in-DenseConstant-clause-ok
returns-in-DenseConstant-clause-ok c = rw c.in-DenseConstant.is c.dense_constant.ensures.ok

pub returns-in-DenseConstant-clause-misshapen : goal.returns-in-DenseConstant-clause-misshapen
returns-in-DenseConstant-clause-misshapen c = rw c.in-DenseConstant.is c.dense_constant.ensures.misshapen

pub returns-in-ScalarSelected-clause-ok : goal.returns-in-ScalarSelected-clause-ok
returns-in-ScalarSelected-clause-ok c = rw c.in-ScalarSelected.is c.scalar_selected.ensures.ok

pub returns-in-ScalarSelected-clause-misshapen : goal.returns-in-ScalarSelected-clause-misshapen
returns-in-ScalarSelected-clause-misshapen c = rw c.in-ScalarSelected.is c.scalar_selected.ensures.misshapen

pub returns-in-BufferSelected-clause-ok : goal.returns-in-BufferSelected-clause-ok
returns-in-BufferSelected-clause-ok c = rw c.in-BufferSelected.is c.buffer_selected.ensures.ok

pub returns-in-BufferSelected-clause-misshapen : goal.returns-in-BufferSelected-clause-misshapen
returns-in-BufferSelected-clause-misshapen c = rw c.in-BufferSelected.is c.buffer_selected.ensures.misshapen

pub returns-in-VectorThenSelected-clause-ok : goal.returns-in-VectorThenSelected-clause-ok
returns-in-VectorThenSelected-clause-ok c = rw c.in-VectorThenSelected.is c.vector_then_selected.ensures.ok

pub returns-in-VectorThenSelected-clause-misshapen : goal.returns-in-VectorThenSelected-clause-misshapen
returns-in-VectorThenSelected-clause-misshapen c = rw c.in-VectorThenSelected.is c.vector_then_selected.ensures.misshapen

pub returns-in-OnlySelected-clause-ok : goal.returns-in-OnlySelected-clause-ok
returns-in-OnlySelected-clause-ok c = rw c.in-OnlySelected.is c.no_type.ensures.ok

pub returns-in-OnlySelected-clause-misshapen : goal.returns-in-OnlySelected-clause-misshapen
returns-in-OnlySelected-clause-misshapen c = rw c.in-OnlySelected.is c.no_type.ensures.misshapen

pub returns-in-SelectedByVector-clause-ok : goal.returns-in-SelectedByVector-clause-ok
returns-in-SelectedByVector-clause-ok c = rw c.in-SelectedByVector.is c.selected_by_vector.ensures.ok

pub returns-in-SelectedByVector-clause-misshapen : goal.returns-in-SelectedByVector-clause-misshapen
returns-in-SelectedByVector-clause-misshapen c = rw c.in-SelectedByVector.is c.selected_by_vector.ensures.misshapen
