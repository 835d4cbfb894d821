use Rattle.std.proofs.Common.{ap, ◌∙◌, sym}
use Rattle.av_printer.specs.Expressions.{Part, part_of}
use Rattle.av_printer.proofs.ExpressionSteps.{of-name, of-const, of-neg, of-add, of-sub, of-mul, of-mod, of-floor, of-ceil}
use Rattle.av_printer.proofs.expressions.strength.Goals as goal

pub returns-in-Name : goal.returns-in-Name
returns-in-Name c = λ names. sym (ap (λ (p : Part). p.strength) (ap (part_of names) c.in-Name.is ∙ of-name names c.in-Name.field-0))

pub returns-in-Const : goal.returns-in-Const
returns-in-Const c = λ names. sym (ap (λ (p : Part). p.strength) (ap (part_of names) c.in-Const.is ∙ of-const names c.in-Const.field-0))

pub returns-in-Neg : goal.returns-in-Neg
returns-in-Neg c = λ names. sym (ap (λ (p : Part). p.strength) (ap (part_of names) c.in-Neg.is ∙ of-neg names c.in-Neg.field-0))

pub returns-in-Add : goal.returns-in-Add
returns-in-Add c = λ names. sym (ap (λ (p : Part). p.strength) (ap (part_of names) c.in-Add.is ∙ of-add names c.in-Add.field-0 c.in-Add.field-1))

pub returns-in-Sub : goal.returns-in-Sub
returns-in-Sub c = λ names. sym (ap (λ (p : Part). p.strength) (ap (part_of names) c.in-Sub.is ∙ of-sub names c.in-Sub.field-0 c.in-Sub.field-1))

pub returns-in-Mul : goal.returns-in-Mul
returns-in-Mul c = λ names. sym (ap (λ (p : Part). p.strength) (ap (part_of names) c.in-Mul.is ∙ of-mul names c.in-Mul.field-0 c.in-Mul.field-1))

pub returns-in-Mod : goal.returns-in-Mod
returns-in-Mod c = λ names. sym (ap (λ (p : Part). p.strength) (ap (part_of names) c.in-Mod.is ∙ of-mod names c.in-Mod.field-0 c.in-Mod.field-1))

pub returns-in-Floor : goal.returns-in-Floor
returns-in-Floor c = λ names. sym (ap (λ (p : Part). p.strength) (ap (part_of names) c.in-Floor.is ∙ of-floor names c.in-Floor.field-0 c.in-Floor.field-1))

pub returns-in-Ceil : goal.returns-in-Ceil
returns-in-Ceil c = λ names. sym (ap (λ (p : Part). p.strength) (ap (part_of names) c.in-Ceil.is ∙ of-ceil names c.in-Ceil.field-0 c.in-Ceil.field-1))
