-- Spellings of small expressions and a type, worked out by hand.
use Rattle.std.specs.Prelude.{◌≡◌, List, ℕ, negsuc, ◌++◌, codes}
use Rattle.av_tree.specs.declared.written.ExprText.{Name, Neg, Add, Sub, Mul}
use Rattle.av_printer.specs.Pieces.{spelt, plain}
use Rattle.av_printer.specs.Expressions.{number, expression}

abbrev pub NumberExample : Type 0
NumberExample = spelt (number (negsuc 4)) ≡ codes "-5"

-- brackets stand exactly where without them another expression would be read
pub record BracketExamples (a b c : List ℕ) : Type 0 where
  pub from_the_left : spelt (expression plain (Sub (Sub (Name a) (Name b)) (Name c))) ≡ a ++ codes " - " ++ b ++ codes " - " ++ c
  pub on_the_right : spelt (expression plain (Sub (Name a) (Sub (Name b) (Name c)))) ≡ a ++ codes " - (" ++ b ++ codes " - " ++ c ++ codes ")"
  pub tighter : spelt (expression plain (Add (Name a) (Mul (Name b) (Name c)))) ≡ a ++ codes " + " ++ b ++ codes " * " ++ c
  pub looser : spelt (expression plain (Mul (Add (Name a) (Name b)) (Name c))) ≡ codes "(" ++ a ++ codes " + " ++ b ++ codes ") * " ++ c
  pub negated : spelt (expression plain (Sub (Name a) (Neg (Mul (Name b) (Name c))))) ≡ a ++ codes " - -(" ++ b ++ codes " * " ++ c ++ codes ")"
