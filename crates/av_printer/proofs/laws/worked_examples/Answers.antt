use Rattle.std.proofs.Common.{◌≡◌, ℕ, List, ◌++◌, refl, ap, ◌∙◌}
use Rattle.std.specs.Fmt.{digits}
use Rattle.av_lex.specs.declared.token.Sign.TheVariants.{Plus, Minus, Star}
use Rattle.av_tree.specs.declared.written.ExprText.{ExprText, Name, Neg, Add, Sub, Mul}
use Rattle.av_printer.specs.Pieces.{spelt, sign, token, plain}
use Rattle.av_printer.specs.Expressions.{number, Part, side, sum, product, part_of}
use Rattle.av_printer.proofs.Steps.{steps}
use Rattle.av_printer.proofs.ExpressionSteps.{of-name, of-neg, of-add, of-sub, of-mul}
use Rattle.av_printer.proofs.laws.worked_examples.Goals as goal

pub returns-clause-number : goal.returns-clause-number
unfolding spelt number sign token digits
returns-clause-number c = refl

a_name : (a : List ℕ) → part_of plain (Name a) ≡ record { strength = 4; pieces = plain a }
a_name a = of-name plain a

a_sum : (x y : ExprText) (p q : Part) → part_of plain x ≡ p → part_of plain y ≡ q → part_of plain (Add x y) ≡ sum (sign Plus) p q
a_sum x y p q e f = of-add plain x y ∙ ap (λ (r : Part). sum (sign Plus) r (part_of plain y)) e ∙ ap (λ (r : Part). sum (sign Plus) p r) f

a_difference : (x y : ExprText) (p q : Part) → part_of plain x ≡ p → part_of plain y ≡ q → part_of plain (Sub x y) ≡ sum (sign Minus) p q
a_difference x y p q e f = of-sub plain x y ∙ ap (λ (r : Part). sum (sign Minus) r (part_of plain y)) e ∙ ap (λ (r : Part). sum (sign Minus) p r) f

a_product : (x y : ExprText) (p q : Part) → part_of plain x ≡ p → part_of plain y ≡ q → part_of plain (Mul x y) ≡ product (sign Star) p q
a_product x y p q e f = of-mul plain x y ∙ ap (λ (r : Part). product (sign Star) r (part_of plain y)) e ∙ ap (λ (r : Part). product (sign Star) p r) f

a_negation : (x : ExprText) (p : Part) → part_of plain x ≡ p → part_of plain (Neg x) ≡ record { strength = 3; pieces = sign Minus ++ side 4 p }
a_negation x p e = of-neg plain x ∙ ap (λ (r : Part). record { strength = 3; pieces = sign Minus ++ side 4 r }) e

unfoldable text : Part → List ℕ
text p = spelt p.pieces

pub returns-clause-brackets : goal.returns-clause-brackets
unfolding side text
returns-clause-brackets c = λ x y z. record {
  from_the_left = ap text (a_difference _ _ _ _ (a_difference _ _ _ _ (a_name x) (a_name y)) (a_name z)) ∙ simp steps;
  on_the_right = ap text (a_difference _ _ _ _ (a_name x) (a_difference _ _ _ _ (a_name y) (a_name z))) ∙ simp steps;
  tighter = ap text (a_sum _ _ _ _ (a_name x) (a_product _ _ _ _ (a_name y) (a_name z))) ∙ simp steps;
  looser = ap text (a_product _ _ _ _ (a_sum _ _ _ _ (a_name x) (a_name y)) (a_name z)) ∙ simp steps;
  negated = ap text (a_difference _ _ _ _ (a_name x) (a_negation _ _ (a_product _ _ _ _ (a_name y) (a_name z)))) ∙ simp steps;
}
