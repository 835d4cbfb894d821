use Rattle.std.proofs.Common.{refl, rules}
use Rattle.av_operations.proofs.Making.{behind-missing, first-made, first-missing, nothing-made, through_fault}
use Rattle.av_operations.proofs.operation.+made_of.Goals as goal

pub returns-in_ok-node-in-empty-clause-ok : goal.returns-in_ok-node-in-empty-clause-ok
returns-in_ok-node-in-empty-clause-ok t c =
    nothing-made c.args.number c.args.place c.args.parts.now c.args.types c.args.stack.now c.in_ok-node-in-empty.node c.in-empty.len_below c.in_ok-node-in-empty.ensures.ok

pub returns-in_ok-give-in-len1-up-clause-ok : goal.returns-in_ok-give-in-len1-up-clause-ok
returns-in_ok-give-in-len1-up-clause-ok t c =
    first-made _ _ c.first_item.result c.args.types c.append.new.self _ c.as_slice.result.now _ _ _
    c.args.parts.now c.behind.result.now _ _ _ (c.in-len1-up.len_at_least, c.first_item.ensures, c.behind.ensures)
    (c.in_ok-append-in-len1-up.ensures.ok, c.in_ok-unwritten-in-len1-up.ensures.ok, c.as_slice.ensures)
    c.in_ok-gift-in-len1-up.ensures.ok c.in_ok-node-in-len1-up.ensures.ok c.in_ok-give-in-len1-up.ensures.ok

pub returns-in_err-gift-in-len1-up-clause-misshapen : goal.returns-in_err-gift-in-len1-up-clause-misshapen
returns-in_err-gift-in-len1-up-clause-misshapen t c =
    through_fault _ c.from_residual-in_err-gift-in-len1-up.result c.in_err-gift-in-len1-up.field-0.0 _ _ (search rules) c.in_err-gift-in-len1-up.ensures.misshapen
    (λ missing. first-missing _ _ c.first_item.result c.args.types c.args.stack.now c.args.parts.now _
    (c.in-len1-up.len_at_least, c.first_item.ensures, refl) missing)

pub returns-in_err-node-in-len1-up-clause-misshapen : goal.returns-in_err-node-in-len1-up-clause-misshapen
returns-in_err-node-in-len1-up-clause-misshapen t c =
    through_fault _ c.from_residual-in_err-node-in-len1-up.result c.in_err-node-in-len1-up.field-0.0 _ _ (search rules) c.in_err-node-in-len1-up.ensures.misshapen
    (λ missing. behind-missing _ _ c.first_item.result c.args.types c.append.new.self _ c.as_slice.result.now _ _ _
    c.args.parts.now c.behind.result.now (c.in-len1-up.len_at_least, c.first_item.ensures, c.behind.ensures)
    (c.in_ok-append-in-len1-up.ensures.ok, c.in_ok-unwritten-in-len1-up.ensures.ok, c.as_slice.ensures)
    c.in_ok-gift-in-len1-up.ensures.ok missing)
