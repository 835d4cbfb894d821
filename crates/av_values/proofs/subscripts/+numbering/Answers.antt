-- Each variant is numbered by what its sides are numbered to.
use Rattle.std.proofs.Common.{rules, sym, ap, ◌∙◌}
use Rattle.std.specs.Prelude.{FitsSigned}
use Rattle.std.proofs.lemmas.Int.{to_z-of_z}
use mir.Syntax.{w128}
use Rattle.av_tree.specs.declared.written.ExprText.TheVariants as expr
use Rattle.av_values.specs.Accesses.{turned}
use Rattle.av_values.proofs.Numbered.{name_given, constant_given, negation_given, sides_given, numbered-Add, numbered-Sub, numbered-Mul, numbered-Mod, numbered-Floor, numbered-Ceil}
use Rattle.av_values.proofs.subscripts.+numbering.Goals as goal

pub number-returns-in_ok-name-in-Name-clause-ok : goal.number-returns-in_ok-name-in-Name-clause-ok
number-returns-in_ok-name-in-Name-clause-ok t c =
    name_given c.args.expr.now (turned c.args.leaves.now) c.in-Name.value c.in-Name.is c.in_ok-name-in-Name.name (turned c.parameter.new.leaves) c.in_ok-name-in-Name.ensures.ok

pub number-returns-in-Const-clause-ok : goal.number-returns-in-Const-clause-ok
number-returns-in-Const-clause-ok t c =
    let fits : FitsSigned w128 c.in-Const.value = search rules in
    constant_given c.args.expr.now (turned c.args.leaves.now) c.in-Const.value c.in-Const.is
    ∙ ap (λ z. (expr.Const z, turned c.args.leaves.now)) (sym (to_z-of_z w128 c.in-Const.value fits))

pub number-returns-in_ok-a-in-Neg-clause-ok : goal.number-returns-in_ok-a-in-Neg-clause-ok
number-returns-in_ok-a-in-Neg-clause-ok t c =
    negation_given c.args.expr.now (turned c.args.leaves.now) c.in-Neg.a c.in-Neg.is c.in_ok-a-in-Neg.a (turned c.side.new.leaves) c.in_ok-a-in-Neg.ensures.ok

pub number-returns-in_ok-b-in-Add-clause-ok : goal.number-returns-in_ok-b-in-Add-clause-ok
number-returns-in_ok-b-in-Add-clause-ok t c =
    sides_given expr.Add numbered-Add c.args.expr.now (turned c.args.leaves.now) c.in-Add.a c.in-Add.b c.in-Add.is
    c.in_ok-a-in-Add.a c.in_ok-b-in-Add.b (turned c.side-in-Add.new.leaves) (turned c.side-in-Add-2.new.leaves) c.in_ok-a-in-Add.ensures.ok c.in_ok-b-in-Add.ensures.ok

pub number-returns-in_ok-b-in-Sub-clause-ok : goal.number-returns-in_ok-b-in-Sub-clause-ok
number-returns-in_ok-b-in-Sub-clause-ok t c =
    sides_given expr.Sub numbered-Sub c.args.expr.now (turned c.args.leaves.now) c.in-Sub.a c.in-Sub.b c.in-Sub.is
    c.in_ok-a-in-Sub.a c.in_ok-b-in-Sub.b (turned c.side-in-Sub.new.leaves) (turned c.side-in-Sub-2.new.leaves) c.in_ok-a-in-Sub.ensures.ok c.in_ok-b-in-Sub.ensures.ok

pub number-returns-in_ok-b-in-Mul-clause-ok : goal.number-returns-in_ok-b-in-Mul-clause-ok
number-returns-in_ok-b-in-Mul-clause-ok t c =
    sides_given expr.Mul numbered-Mul c.args.expr.now (turned c.args.leaves.now) c.in-Mul.a c.in-Mul.b c.in-Mul.is
    c.in_ok-a-in-Mul.a c.in_ok-b-in-Mul.b (turned c.side-in-Mul.new.leaves) (turned c.side-in-Mul-2.new.leaves) c.in_ok-a-in-Mul.ensures.ok c.in_ok-b-in-Mul.ensures.ok

pub number-returns-in_ok-b-in-Mod-clause-ok : goal.number-returns-in_ok-b-in-Mod-clause-ok
number-returns-in_ok-b-in-Mod-clause-ok t c =
    sides_given expr.Mod numbered-Mod c.args.expr.now (turned c.args.leaves.now) c.in-Mod.a c.in-Mod.b c.in-Mod.is
    c.in_ok-a-in-Mod.a c.in_ok-b-in-Mod.b (turned c.side-in-Mod.new.leaves) (turned c.side-in-Mod-2.new.leaves) c.in_ok-a-in-Mod.ensures.ok c.in_ok-b-in-Mod.ensures.ok

pub number-returns-in_ok-b-in-Floor-clause-ok : goal.number-returns-in_ok-b-in-Floor-clause-ok
number-returns-in_ok-b-in-Floor-clause-ok t c =
    sides_given expr.Floor numbered-Floor c.args.expr.now (turned c.args.leaves.now) c.in-Floor.a c.in-Floor.b c.in-Floor.is
    c.in_ok-a-in-Floor.a c.in_ok-b-in-Floor.b (turned c.side-in-Floor.new.leaves) (turned c.side-in-Floor-2.new.leaves) c.in_ok-a-in-Floor.ensures.ok c.in_ok-b-in-Floor.ensures.ok

pub number-returns-in_ok-b-in-Ceil-clause-ok : goal.number-returns-in_ok-b-in-Ceil-clause-ok
number-returns-in_ok-b-in-Ceil-clause-ok t c =
    sides_given expr.Ceil numbered-Ceil c.args.expr.now (turned c.args.leaves.now) c.in-Ceil.a c.in-Ceil.b c.in-Ceil.is
    c.in_ok-a-in-Ceil.a c.in_ok-b-in-Ceil.b (turned c.side-in-Ceil.new.leaves) (turned c.side-in-Ceil-2.new.leaves) c.in_ok-a-in-Ceil.ensures.ok c.in_ok-b-in-Ceil.ensures.ok
