-- The subscript of an access, and the map that it is read as.
use Rattle.std.proofs.Common.{◌≡◌, ℕ, suc, ◌+◌, ◌^◌, ◌<◌, ◌≤◌, Bool, true, false, List, [], ◌∷◌, refl, ap, arith, cond}
use Rattle.std.specs.Prelude.{◌==◌, ℤ, pos, negsuc, unsigned_abs, count_by, if◌then◌else◌, Some, decimal}
use Rattle.std.specs.List.{list_all}
use Rattle.av_lex.specs.declared.token.Kind.TheVariants as kinds
use Rattle.av_lex.specs.declared.token.Sign.TheVariants as sign
use Rattle.av_tree.specs.declared.class.Class.TheVariants as class
use Rattle.av_tree.specs.declared.written.ExprText.TheVariants as expr
use Rattle.av_tree.specs.declared.table.Symbol.TheVariants as symbol
use Rattle.av_tree.specs.declared.table.Name.TheVariants as name
use Rattle.av_tree.specs.declared.table.Rule.TheVariants as rule
use Rattle.av_tree.specs.declared.table.subscripts.SubscriptName.TheVariants as subscripts_name
use Rattle.av_tree.specs.declared.table.subscripts.SubscriptRule.TheVariants as subscripts_rule
use Rattle.av_values.specs.Sorts.{on_top, replaced}
use Rattle.av_values.specs.Expressions.{joined_left}
use Rattle.av_values.specs.declared.value.Value.TheVariants as value
use Rattle.av_values.specs.declared.value.Expression.{Expression}
use Rattle.av_values.specs.declared.value.LeafKind.TheVariants.{Dimension}
use Rattle.av_program_laws.specs.Programs.{Subscript, fixed, variable, plus, minus}
use Rattle.av_read_laws.specs.Making.{Word, class_of_word, is_calculation, Makes, nothing, by_sign, by_token}
use Rattle.av_round_trip.proofs.Decimals.{integer-positive, integer-negative}
use Rattle.av_output_laws.proofs.Parts.{sign_word, number_words, number_fits, made_value}
use Rattle.av_round_trip.proofs.Following.{followed, row, closed}

abbrev pub subscript_words : List ℕ → Subscript → List Word
subscript_words name (fixed z) = number_words z
subscript_words name variable = (kinds.ValId, name) ∷ []
subscript_words name (plus z) = (kinds.ValId, name) ∷ sign_word sign.Plus ∷ number_words z
subscript_words name (minus z) = (kinds.ValId, name) ∷ sign_word sign.Minus ∷ number_words z

abbrev pub constant_value : ℤ → Expression
constant_value z = record { expr = expr.Const z; leaves = [] }

abbrev pub name_value : List ℕ → Expression
name_value text = record { expr = expr.Name text; leaves = Dimension ∷ [] }

abbrev pub subscript_value : List ℕ → Subscript → Expression
subscript_value text (fixed z) = constant_value z
subscript_value text variable = name_value text
subscript_value text (plus z) = record { expr = expr.Add (expr.Name text) (expr.Const z); leaves = Dimension ∷ [] }
subscript_value text (minus z) = record { expr = expr.Sub (expr.Name text) (expr.Const z); leaves = Dimension ∷ [] }

-- its numbers can be read
abbrev pub IsReadSubscript : Subscript → Type 0
IsReadSubscript (fixed z) = unsigned_abs z < 2 ^ 127
IsReadSubscript variable = Unit {0}
IsReadSubscript (plus z) = unsigned_abs z < 2 ^ 127
IsReadSubscript (minus z) = unsigned_abs z < 2 ^ 127

-- ---- how many signs
abbrev signs : List Word → ℕ
signs words = count_by (λ (word : Word). is_calculation (class_of_word word)) words

either_none : (b : Bool) (n : ℕ) → n + cond (is_calculation (if b then class.Zero else class.Positive)) 1 0 ≡ n
either_none true n = omega arith
either_none false n = omega arith

pub digits_none : (digits : List ℕ) (n : ℕ) → n + cond (is_calculation (class_of_word (kinds.Number, digits))) 1 0 ≡ n
digits_none digits n = either_none (list_all (λ digit. digit == 48) digits) n

few_signs : (text : List ℕ) (at : Subscript) → signs (subscript_words text at) ≤ 2
few_signs text (fixed (pos n)) = let e : signs (subscript_words text (fixed (pos n))) ≡ 0 = digits_none (decimal n) 0 in omega arith
few_signs text (fixed (negsuc n)) = let e : signs (subscript_words text (fixed (negsuc n))) ≡ 1 = digits_none (decimal (suc n)) 1 in omega arith
few_signs text variable = omega arith
few_signs text (plus (pos n)) = let e : signs (subscript_words text (plus (pos n))) ≡ 1 = digits_none (decimal n) 1 in omega arith
few_signs text (plus (negsuc n)) = let e : signs (subscript_words text (plus (negsuc n))) ≡ 2 = digits_none (decimal (suc n)) 2 in omega arith
few_signs text (minus (pos n)) = let e : signs (subscript_words text (minus (pos n))) ≡ 1 = digits_none (decimal n) 1 in omega arith
few_signs text (minus (negsuc n)) = let e : signs (subscript_words text (minus (negsuc n))) ≡ 2 = digits_none (decimal (suc n)) 2 in omega arith

-- ---- terms
module _ {most : ℕ} where
  number_factor : (z : ℤ) → unsigned_abs z < 2 ^ 127
      → Makes most (symbol.Rows (name.Subscript subscripts_name.SubscriptFactor) ∷ []) (number_words z) (value.Expression (constant_value z) ∷ [])
  unfolding replaced on_top
  number_factor (pos n) h =
      row (rule.Subscript subscripts_rule.NumberSubscriptFactor) refl tt (by_token (number_fits (decimal n)) nothing)
      (ap (λ z. Some (value.Expression (constant_value z) ∷ [])) (integer-positive n h))
  number_factor (negsuc n) h =
      row (rule.Subscript subscripts_rule.MinusSubscriptFactor) refl tt
      (by_sign refl (row (rule.Subscript subscripts_rule.NegativeSubscriptNumber) refl tt (by_token (number_fits (decimal (suc n))) nothing)
      (ap (λ z. Some (value.Expression (constant_value z) ∷ [])) (integer-negative n h))))
      refl

  name_factor : (text : List ℕ)
      → Makes most (symbol.Rows (name.Subscript subscripts_name.SubscriptFactor) ∷ []) ((kinds.ValId, text) ∷ []) (value.Expression (name_value text) ∷ [])
  unfolding replaced on_top
  name_factor text =
      row (rule.Subscript subscripts_rule.PlainSubscriptFactor) refl tt
      (row (rule.Subscript subscripts_rule.DimensionValue) refl tt (made_value text nothing) refl)
      refl

  term : {ws : List Word} {e : Expression} → Makes most (symbol.Rows (name.Subscript subscripts_name.SubscriptFactor) ∷ []) ws (value.Expression e ∷ [])
      → Makes most (symbol.Rows (name.Subscript subscripts_name.SubscriptTerm) ∷ []) ws (value.Expression e ∷ [])
  unfolding replaced on_top joined_left
  term factor =
      row (rule.Subscript subscripts_rule.WholeSubscriptTerm) refl tt
      (closed (followed factor (row (rule.Subscript subscripts_rule.NoMoreSubscriptFactors) refl tt nothing refl)))
      refl

  no_sum : Makes most (symbol.Rows (name.Subscript subscripts_name.SubscriptSum) ∷ []) [] (value.Parts [] ∷ [])
  unfolding replaced on_top
  no_sum = row (rule.Subscript subscripts_rule.NoMoreSubscriptTerms) refl tt nothing refl

  alone : {ws : List Word} {e : Expression} → signs ws ≤ most
      → Makes most (symbol.Rows (name.Subscript subscripts_name.SubscriptFactor) ∷ []) ws (value.Expression e ∷ [])
      → Makes most (symbol.Rows (name.Subscript subscripts_name.Subscript) ∷ []) ws (value.Expression e ∷ [])
  unfolding replaced on_top joined_left
  alone few factor = row (rule.Subscript subscripts_rule.WholeSubscript) refl few (closed (followed (term factor) no_sum)) refl

  pub made_subscript : (text : List ℕ) (at : Subscript) → 2 ≤ most → IsReadSubscript at
      → Makes most (symbol.Rows (name.Subscript subscripts_name.Subscript) ∷ []) (subscript_words text at) (value.Expression (subscript_value text at) ∷ [])
  unfolding replaced on_top joined_left
  made_subscript text (fixed z) two read = alone (omega (arith, few_signs text (fixed z))) (number_factor z read)
  made_subscript text variable two read = alone (omega (arith, few_signs text variable)) (name_factor text)
  made_subscript text (plus z) two read =
      row (rule.Subscript subscripts_rule.WholeSubscript) refl (omega (arith, few_signs text (plus z)))
      (followed (term (name_factor text))
      (row (rule.Subscript subscripts_rule.PlusSubscriptTerm) refl tt (by_sign refl (closed (followed (term (number_factor z read)) no_sum))) refl))
      refl
  made_subscript text (minus z) two read =
      row (rule.Subscript subscripts_rule.WholeSubscript) refl (omega (arith, few_signs text (minus z)))
      (followed (term (name_factor text))
      (row (rule.Subscript subscripts_rule.MinusSubscriptTerm) refl tt (by_sign refl (closed (followed (term (number_factor z read)) no_sum))) refl))
      refl

  pub made_subscripts : (text : List ℕ) (at : Subscript) → 2 ≤ most → IsReadSubscript at
      → Makes most (symbol.Rows (name.Subscript subscripts_name.Subscripts) ∷ []) (subscript_words text at) (value.Expressions (subscript_value text at ∷ []) ∷ [])
  unfolding replaced on_top
  made_subscripts text at two read =
      row (rule.Subscript subscripts_rule.FirstSubscript) refl tt
      (closed (followed (made_subscript text at two read) (row (rule.Subscript subscripts_rule.NoMoreSubscripts) refl tt nothing refl)))
      refl

-- the values in a subscript with this variable
abbrev pub dims_in : List ℕ → Subscript → List (List ℕ)
dims_in text (fixed z) = []
dims_in text variable = text ∷ []
dims_in text (plus z) = text ∷ []
dims_in text (minus z) = text ∷ []
