-- The expressions of maps and sets are read as they are printed.
use Rattle.std.proofs.Common.{◌≡◌, ℕ, suc, ℤ, pos, negsuc, List, [], ◌∷◌, ◌++◌, refl, ap, arith, IsTrue, Some, inl, inr}
use Rattle.std.specs.Prelude.{◌⊎◌, decimal, reverse}
use Rattle.av_lex.specs.declared.token.Kind.TheVariants as kinds
use Rattle.av_lex.specs.declared.token.Sign.TheVariants as signs
use Rattle.av_tree.specs.declared.class.Class.{Class}
use Rattle.av_tree.specs.declared.class.Class.TheVariants as class
use Rattle.av_tree.specs.declared.class.Keyword.TheVariants as key
use Rattle.av_tree.specs.declared.table.Symbol.{Symbol}
use Rattle.av_tree.specs.declared.table.Symbol.TheVariants as symbol
use Rattle.av_tree.specs.declared.table.Test.TheVariants as test
use Rattle.av_tree.specs.declared.table.Name.TheVariants as name
use Rattle.av_tree.specs.declared.table.Rule.TheVariants as rule
use Rattle.av_tree.specs.declared.table.maps.MapName.{MapName}
use Rattle.av_tree.specs.declared.table.maps.MapName.TheVariants as maps_name
use Rattle.av_tree.specs.declared.table.maps.MapRule.TheVariants as maps_rule
use Rattle.av_tree.specs.declared.written.ExprText.{ExprText, Name, Const, Neg}
use Rattle.av_tree.specs.Classes.{is_word, fits_of}
use Rattle.av_derive.specs.ClassOf.{keyword_of}
use Rattle.av_derive.proofs.Keywords.{by-keyword}
use Rattle.av_printer.specs.Pieces.{Piece, sign, plain, spaced, in_round}
use Rattle.av_printer.specs.Expressions.{number, expression}
use Rattle.av_values.specs.Sorts.{on_top, replaced}
use Rattle.av_values.specs.declared.value.Value.TheVariants as value
use Rattle.av_values.specs.declared.value.Expression.{Expression}
use Rattle.av_values.specs.declared.value.Operator.{Operator}
use Rattle.av_values.specs.declared.value.Operator.TheVariants as operator
use Rattle.av_values.specs.declared.value.Part.{Part}
use Rattle.av_values.specs.Expressions.{calculation, division_of, with_part, joined_left}
use Rattle.av_print_laws.specs.ReadExpressions.{IsShortInteger}
use Rattle.av_read_laws.specs.Making.{class_of_word}
use Rattle.av_round_trip.specs.Expressions.{IsExpression, ExpressionsLaw}
use Rattle.av_round_trip.proofs.Decimals.{integer-positive, integer-negative}
use Rattle.av_round_trip.proofs.Types.{number-fits}
use Rattle.av_round_trip.proofs.Giving.{none, join, given_row, given_space, given_sign, given_token, given_spaced, given_round}
use Rattle.av_round_trip.proofs.Binding.{One, Others, Several, closed, ExpressionRows, leads_sum, binds}

abbrev pub rows : MapName → Symbol
rows x = symbol.Rows (name.Map x)

-- an expression of a map, in which no value stands
abbrev pub whole : ExprText → Expression
whole e = record { expr = e; leaves = [] }

calculated : (o : Operator) (a b : ExprText) → with_part (whole a) (record { operator = o; right = whole b }) ≡ whole (calculation o a b)
calculated o a b = refl

-- ---- names and numbers
-- a word is that of a division, or stands for a parameter
either_name : (c : Class) → IsTrue (is_word c) → IsTrue (fits_of test.Parameter c) ⊎ IsTrue (fits_of test.Division c)
either_name (class.Word key.Division) h = inr refl
either_name c h = inl h

pub word-fits : (text : List ℕ) → IsTrue (fits_of test.Word (class_of_word (kinds.Word, text)))
word-fits text = by-keyword (λ c. IsTrue (is_word c)) (λ k. refl) refl refl (keyword_of text) text

module _ {most : ℕ} where
  given_name_of : (text : List ℕ) → IsTrue (fits_of test.Parameter (class_of_word (kinds.Word, text))) ⊎ IsTrue (fits_of test.Division (class_of_word (kinds.Word, text)))
      → One most (rows maps_name.Base) (plain text) (whole (Name text))
  unfolding replaced on_top
  given_name_of text (inl fits) = given_row (rule.Map maps_rule.ParameterName) refl tt (given_token test.Parameter kinds.Word text fits) refl
  given_name_of text (inr fits) = given_row (rule.Map maps_rule.DivisionName) refl tt (given_token test.Division kinds.Word text fits) refl

  given_name : (text : List ℕ) → One most (rows maps_name.Base) (plain text) (whole (Name text))
  given_name text = given_name_of text (either_name (class_of_word (kinds.Word, text)) (word-fits text))

  given_constant : (z : ℤ) → IsShortInteger z → One most (rows maps_name.Factor) (number z) (whole (Const z))
  unfolding number replaced on_top
  given_constant (pos n) h =
      given_row (rule.Map maps_rule.NumberFactor) refl tt (given_token test.Number kinds.Number (decimal n) (number-fits (decimal n)))
      (ap (λ (z : ℤ). Some (value.Expression (whole (Const z)) ∷ [])) (integer-positive n (omega arith)))
  given_constant (negsuc n) h =
      given_row (rule.Map maps_rule.MinusFactor) refl tt
      (join (given_sign signs.Minus)
      (given_row (rule.Map maps_rule.NegativeNumber) refl tt (given_token test.Number kinds.Number (decimal (suc n)) (number-fits (decimal (suc n))))
      (ap (λ (z : ℤ). Some (value.Expression (whole (Const z)) ∷ [])) (integer-negative n (omega arith)))))
      refl

  -- ---- rows
  given_tight : {ps : List Piece} {e : Expression} → One most (rows maps_name.Base) ps e → One most (rows maps_name.Factor) ps e
  unfolding replaced on_top
  given_tight one = given_row (rule.Map maps_rule.PlainFactor) refl tt one refl

  given_negated : {ps : List Piece} (a : ExprText) → One most (rows maps_name.Base) ps (whole a) → One most (rows maps_name.Factor) (sign signs.Minus ++ ps) (whole (Neg a))
  unfolding replaced on_top
  given_negated a one =
      given_row (rule.Map maps_rule.MinusFactor) refl tt (join (given_sign signs.Minus) (given_row (rule.Map maps_rule.NegatedBase) refl tt one refl)) refl

  no_factor : Others most (rows maps_name.Product) [] []
  unfolding replaced on_top
  no_factor = given_row (rule.Map maps_rule.NoMoreFactors) refl tt none refl

  no_term : Others most (rows maps_name.Sum) [] []
  unfolding replaced on_top
  no_term = given_row (rule.Map maps_rule.NoMoreTerms) refl tt none refl

  module _ {ps : List Piece} {first : Expression} {parts : List Part} where
    given_times : Several most (rows maps_name.Factor) (rows maps_name.Product) ps first parts
        → Others most (rows maps_name.Product) (spaced (sign signs.Star) ++ ps) (parts ++ record { operator = operator.Mul; right = first } ∷ [])
    unfolding replaced on_top
    given_times several = given_row (rule.Map maps_rule.TimesFactor) refl tt (join (given_spaced signs.Star) several) refl

    given_divided : (word : List ℕ) → IsTrue (fits_of test.Division (class_of_word (kinds.Word, word)))
        → Several most (rows maps_name.Factor) (rows maps_name.Product) ps first parts
        → Others most (rows maps_name.Product) (spaced (plain word) ++ ps) (parts ++ record { operator = division_of word; right = first } ∷ [])
    unfolding replaced on_top
    given_divided word fits several =
        given_row (rule.Map maps_rule.DivisionFactor) refl tt
        (join (join (join given_space (given_token test.Division kinds.Word word fits)) given_space) several) refl

    given_term : Several most (rows maps_name.Factor) (rows maps_name.Product) ps first parts → One most (rows maps_name.Term) ps (joined_left first (reverse parts))
    unfolding replaced on_top
    given_term several = given_row (rule.Map maps_rule.WholeTerm) refl tt several refl

    given_plus : Several most (rows maps_name.Term) (rows maps_name.Sum) ps first parts
        → Others most (rows maps_name.Sum) (spaced (sign signs.Plus) ++ ps) (parts ++ record { operator = operator.Add; right = first } ∷ [])
    unfolding replaced on_top
    given_plus several = given_row (rule.Map maps_rule.PlusTerm) refl tt (join (given_spaced signs.Plus) several) refl

    given_minus : Several most (rows maps_name.Term) (rows maps_name.Sum) ps first parts
        → Others most (rows maps_name.Sum) (spaced (sign signs.Minus) ++ ps) (parts ++ record { operator = operator.Sub; right = first } ∷ [])
    unfolding replaced on_top
    given_minus several = given_row (rule.Map maps_rule.MinusTerm) refl tt (join (given_spaced signs.Minus) several) refl

    given_brackets : Several most (rows maps_name.Term) (rows maps_name.Sum) ps first parts
        → One most (rows maps_name.Base) (in_round ps) (joined_left first (reverse parts))
    unfolding replaced on_top
    given_brackets several = given_row (rule.Map maps_rule.InBrackets) refl tt (given_round several) refl

  map_rows : ExpressionRows most (λ text. Unit {0}) plain whole
  map_rows = record {
    base = rows maps_name.Base;
    factor = rows maps_name.Factor;
    more_factors = rows maps_name.Product;
    term = rows maps_name.Term;
    more_terms = rows maps_name.Sum;
    parameter = λ text is. given_name text;
    in_brackets = given_brackets;
    constant = given_constant;
    tight = given_tight;
    negated = given_negated;
    no_factor = no_factor;
    times = given_times;
    divided = given_divided;
    whole_term = given_term;
    no_term = no_term;
    plus = given_plus;
    minus = given_minus;
    calculated = calculated;
  }

  pub given_expression : (e : ExprText) → IsExpression most e → One most (rows maps_name.Expression) (expression plain e) (whole e)
  unfolding replaced on_top map_rows
  given_expression e h =
      closed (leads_sum map_rows (binds map_rows e h.numbers)) no_term
      (λ first parts several. given_row (rule.Map maps_rule.WholeExpression) refl h.few several refl)

pub expressions-law : ExpressionsLaw
expressions-law most e h = given_expression e h
