-- An expression is read from its pieces as the whole that it is, by rows that join sums and products from the left.
use Rattle.std.proofs.Common.{◌≡◌, ℕ, ℤ, List, [], ◌∷◌, ◌++◌, append_assoc, refl, sym, ap, subst, ◌∙◌, IsTrue, codes}
use Rattle.std.proofs.lemmas.List.{reverse-append}
use Rattle.std.specs.Prelude.{reverse}
use Rattle.av_lex.specs.declared.token.Kind.TheVariants as kinds
use Rattle.av_lex.specs.declared.token.Sign.TheVariants as signs
use Rattle.av_tree.specs.declared.table.Symbol.{Symbol}
use Rattle.av_tree.specs.declared.table.Test.TheVariants as test
use Rattle.av_tree.specs.declared.written.ExprText.{ExprText, Name, Const, Neg}
use Rattle.av_tree.specs.Classes.{fits_of}
use Rattle.av_derive.specs.ClassOf.{keywords}
use Rattle.av_printer.specs.Pieces.{Piece, sign, plain, spaced, in_round}
use Rattle.av_printer.specs.Expressions.{Part as Printed, number, side, sum as sum_of, product as product_of, part_of}
use Rattle.av_printer.proofs.ExpressionSteps.{of-name, of-const, of-neg, of-add, of-sub, of-mul, of-mod, of-floor, of-ceil}
use Rattle.av_values.specs.declared.value.Value.TheVariants as value
use Rattle.av_values.specs.declared.value.Expression.{Expression}
use Rattle.av_values.specs.declared.value.Operator.{Operator}
use Rattle.av_values.specs.declared.value.Operator.TheVariants as operator
use Rattle.av_values.specs.declared.value.Part.{Part}
use Rattle.av_values.specs.Expressions.{calculation, division_of, with_part, joined_left}
use Rattle.av_print_laws.specs.ReadExpressions.{IsShortInteger}
use Rattle.av_read_laws.specs.Making.{class_of_word}
use Rattle.av_round_trip.specs.Giving.{Gives}
use Rattle.av_round_trip.specs.Expressions.{IsLegible, named, number as numbered, negation, sum, difference, product, remainder, floored, ceiled}
use Rattle.av_round_trip.proofs.Giving.{join, given_as, ended}

-- ---- a first item and parts behind it
-- the symbol gives the pieces, and the expression is made of them
abbrev pub One : ℕ → Symbol → List Piece → Expression → Type 0
One most item ps e = Gives most (item ∷ []) ps (value.Expression e ∷ [])

-- the parts that stand behind a first item
abbrev pub Others : ℕ → Symbol → List Piece → List Part → Type 0
Others most more ps parts = Gives most (more ∷ []) ps (value.Parts parts ∷ [])

abbrev pub Several : ℕ → Symbol → Symbol → List Piece → Expression → List Part → Type 0
Several most item more ps first parts = Gives most (item ∷ more ∷ []) ps (value.Expression first ∷ value.Parts parts ∷ [])

-- the pieces are those of a first item and of parts, and both together are the whole with the last ones of the parts behind it
pub record Joined (most : ℕ) (item more : Symbol) (ps : List Piece) (whole : Expression) (last : List Part) : Type 0 where
  pub first : Expression
  pub parts : List Part
  pub given : Several most item more ps first parts
  pub is : joined_left first (reverse parts) ≡ joined_left whole (reverse last)

-- the pieces are those of the whole, whatever parts stand behind them
abbrev pub Leads : ℕ → Symbol → Symbol → List Piece → Expression → Type 0
Leads most item more ps whole = (behind : List Piece) (last : List Part) → Others most more behind last → Joined most item more (ps ++ behind) whole last

-- a part of a sign or word may stand before others
abbrev pub Next : ℕ → Symbol → Symbol → List Piece → Part → Type 0
Next most item more word part = (behind : List Piece) (last : List Part) → Several most item more behind part.right last → Others most more (word ++ behind) (last ++ part ∷ [])

-- a symbol gives these pieces where an item and parts behind it give those, and makes the whole of them
abbrev pub Wholes : ℕ → Symbol → Symbol → Symbol → List Piece → List Piece → Type 0
Wholes most item more outer ps qs = (first : Expression) (parts : List Part) → Several most item more ps first parts → One most outer qs (joined_left first (reverse parts))

reversed : (last : List Part) (part : Part) → reverse (last ++ part ∷ []) ≡ part ∷ reverse last
reversed last part = reverse-append last (part ∷ [])

module _ {most : ℕ} {item more : Symbol} where
  pub alone : {ps : List Piece} {e : Expression} → One most item ps e → Leads most item more ps e
  alone {ps} {e} one behind last h = record { first = e; parts = last; given = join one h; is = refl }

  -- a part more
  pub longer : (ps word : List Piece) {qs : List Piece} {left : Expression} {part : Part} → Leads most item more ps left → One most item qs part.right
      → Next most item more word part → Leads most item more (ps ++ word ++ qs) (with_part left part)
  unfolding joined_left
  longer ps word {qs} {left} {part} leads one next behind last h =
      let inner : Joined most item more (ps ++ (word ++ (qs ++ behind))) left (last ++ part ∷ []) =
      leads (word ++ (qs ++ behind)) (last ++ part ∷ []) (next (qs ++ behind) last (join one h)) in
      record {
        first = inner.first;
        parts = inner.parts;
        given = given_as (append_assoc (ps ++ word) qs behind ∙ append_assoc ps word (qs ++ behind)) inner.given;
        is = inner.is ∙ ap (joined_left left) (reversed last part);
      }

  -- no part behind them
  pub closed : {outer : Symbol} {ps qs : List Piece} {whole : Expression} → Leads most item more ps whole → Others most more [] []
      → Wholes most item more outer ps qs → One most outer qs whole
  unfolding joined_left
  closed {outer} {ps} {qs} {whole} leads no_more row =
      let inner : Joined most item more (ps ++ []) whole [] = leads [] [] no_more in
      subst (One most outer qs) inner.is (row inner.first inner.parts (ended inner.given))

-- ---- rows of expressions
-- names of rows of expressions, and what the rows make; an expression that is printed is read as another value, as names may stand for values
pub record ExpressionRows (most : ℕ) (IsName : List ℕ → Type 0) (spell : List ℕ → List Piece) (read : ExprText → Expression) : Type 0 where
  pub base : Symbol
  pub factor : Symbol
  pub more_factors : Symbol
  pub term : Symbol
  pub more_terms : Symbol
  pub parameter : (text : List ℕ) → IsName text → One most base (spell text) (read (Name text))
  pub in_brackets : {ps : List Piece} {first : Expression} {parts : List Part} → Several most term more_terms ps first parts
      → One most base (in_round ps) (joined_left first (reverse parts))
  pub constant : (z : ℤ) → IsShortInteger z → One most factor (number z) (read (Const z))
  pub tight : {ps : List Piece} {e : Expression} → One most base ps e → One most factor ps e
  pub negated : {ps : List Piece} (a : ExprText) → One most base ps (read a) → One most factor (sign signs.Minus ++ ps) (read (Neg a))
  pub no_factor : Others most more_factors [] []
  pub times : {ps : List Piece} {right : Expression} {parts : List Part} → Several most factor more_factors ps right parts
      → Others most more_factors (spaced (sign signs.Star) ++ ps) (parts ++ record { operator = operator.Mul; right = right } ∷ [])
  pub divided : {ps : List Piece} {right : Expression} {parts : List Part} (word : List ℕ) → IsTrue (fits_of test.Division (class_of_word (kinds.Word, word)))
      → Several most factor more_factors ps right parts
      → Others most more_factors (spaced (plain word) ++ ps) (parts ++ record { operator = division_of word; right = right } ∷ [])
  pub whole_term : {ps : List Piece} {first : Expression} {parts : List Part} → Several most factor more_factors ps first parts
      → One most term ps (joined_left first (reverse parts))
  pub no_term : Others most more_terms [] []
  pub plus : {ps : List Piece} {right : Expression} {parts : List Part} → Several most term more_terms ps right parts
      → Others most more_terms (spaced (sign signs.Plus) ++ ps) (parts ++ record { operator = operator.Add; right = right } ∷ [])
  pub minus : {ps : List Piece} {right : Expression} {parts : List Part} → Several most term more_terms ps right parts
      → Others most more_terms (spaced (sign signs.Minus) ++ ps) (parts ++ record { operator = operator.Sub; right = right } ∷ [])
  pub calculated : (o : Operator) (a b : ExprText) → with_part (read a) (record { operator = o; right = read b }) ≡ read (calculation o a b)

module _ {most : ℕ} {IsName : List ℕ → Type 0} {spell : List ℕ → List Piece} {read : ExprText → Expression} (rows : ExpressionRows most IsName spell read) where
  -- pieces that bind so tightly are read as the expression
  pub data Binds : Printed → Expression → Type 0 where
    as_base : {ps : List Piece} {e : Expression} → One most rows.base ps e → Binds (record { strength = 4; pieces = ps }) e
    as_factor : {ps : List Piece} {e : Expression} → One most rows.factor ps e → Binds (record { strength = 3; pieces = ps }) e
    as_product : {ps : List Piece} {e : Expression} → Leads most rows.factor rows.more_factors ps e → Binds (record { strength = 2; pieces = ps }) e
    as_sum : {ps : List Piece} {e : Expression} → Leads most rows.term rows.more_terms ps e → Binds (record { strength = 1; pieces = ps }) e

  term_of : {ps : List Piece} {e : Expression} → Leads most rows.factor rows.more_factors ps e → One most rows.term ps e
  term_of leads = closed leads rows.no_factor (λ first parts several. rows.whole_term several)

  factor_term : {ps : List Piece} {e : Expression} → One most rows.factor ps e → One most rows.term ps e
  factor_term one = term_of (alone one)

  -- any expression, where parts of a sum may stand behind it
  pub leads_sum : {p : Printed} {e : Expression} → Binds p e → Leads most rows.term rows.more_terms p.pieces e
  leads_sum (as_base one) = alone (factor_term (rows.tight one))
  leads_sum (as_factor one) = alone (factor_term one)
  leads_sum (as_product leads) = alone (term_of leads)
  leads_sum (as_sum leads) = leads

  bracketed : (ps : List Piece) {e : Expression} → Leads most rows.term rows.more_terms ps e → One most rows.base (in_round ps) e
  bracketed ps leads = closed leads rows.no_term (λ first parts several. rows.in_brackets several)

  -- ---- the sides of a sign or word
  left_of_sum : {p : Printed} {e : Expression} → Binds p e → Leads most rows.term rows.more_terms (side 1 p) e
  unfolding side
  left_of_sum (as_base one) = alone (factor_term (rows.tight one))
  left_of_sum (as_factor one) = alone (factor_term one)
  left_of_sum (as_product leads) = alone (term_of leads)
  left_of_sum (as_sum leads) = leads

  right_of_sum : {p : Printed} {e : Expression} → Binds p e → One most rows.term (side 2 p) e
  unfolding side
  right_of_sum (as_base one) = factor_term (rows.tight one)
  right_of_sum (as_factor one) = factor_term one
  right_of_sum (as_product leads) = term_of leads
  right_of_sum (as_sum leads) = factor_term (rows.tight (bracketed _ leads))

  left_of_product : {p : Printed} {e : Expression} → Binds p e → Leads most rows.factor rows.more_factors (side 2 p) e
  unfolding side
  left_of_product (as_base one) = alone (rows.tight one)
  left_of_product (as_factor one) = alone one
  left_of_product (as_product leads) = leads
  left_of_product (as_sum leads) = alone (rows.tight (bracketed _ leads))

  right_of_product : {p : Printed} {e : Expression} → Binds p e → One most rows.factor (side 3 p) e
  unfolding side
  right_of_product (as_base one) = rows.tight one
  right_of_product (as_factor one) = one
  right_of_product (as_product leads) = rows.tight (bracketed _ (alone (term_of leads)))
  right_of_product (as_sum leads) = rows.tight (bracketed _ leads)

  behind_minus : {p : Printed} {e : Expression} → Binds p e → One most rows.base (side 4 p) e
  unfolding side
  behind_minus (as_base one) = one
  behind_minus (as_factor one) = bracketed _ (alone (factor_term one))
  behind_minus (as_product leads) = bracketed _ (alone (term_of leads))
  behind_minus (as_sum leads) = bracketed _ leads

  -- ---- expressions
  sum_binds : {p q : Printed} (word : List Piece) {left : Expression} {part : Part} → Binds p left → Binds q part.right
      → Next most rows.term rows.more_terms (spaced word) part → Binds (sum_of word p q) (with_part left part)
  sum_binds {p} {q} word {left} {part} a b next =
      as_sum (longer (side 1 p) (spaced word) {qs = side 2 q} {part = part} (left_of_sum a) (right_of_sum b) next)

  product_binds : {p q : Printed} (word : List Piece) {left : Expression} {part : Part} → Binds p left → Binds q part.right
      → Next most rows.factor rows.more_factors (spaced word) part → Binds (product_of word p q) (with_part left part)
  product_binds {p} {q} word {left} {part} a b next =
      as_product (longer (side 2 p) (spaced word) {qs = side 3 q} {part = part} (left_of_product a) (right_of_product b) next)

  binds_as : {p q : Printed} {e f : Expression} → p ≡ q → e ≡ f → Binds q e → Binds p f
  binds_as {p} {q} {e} {f} is same b = subst (λ (r : Printed). Binds r f) (sym is) (subst (Binds q) same b)

  divided_binds : {p q : Printed} (a b : ExprText) (word : List ℕ) → IsTrue (fits_of test.Division (class_of_word (kinds.Word, word)))
      → Binds p (read a) → Binds q (read b)
      → Binds (product_of (plain word) p q) (with_part (read a) (record { operator = division_of word; right = read b }))
  divided_binds a b word fits h k = product_binds (plain word) {part = record { operator = division_of word; right = read b }} h k
      (λ behind last several. rows.divided word fits several)

  pub binds : (e : ExprText) → IsLegible IsName e → Binds (part_of spell e) (read e)
  unfolding keywords
  binds _ (named text is) = binds_as (of-name spell text) refl (as_base (rows.parameter text is))
  binds _ (numbered z h) = binds_as (of-const spell z) refl (as_factor (rows.constant z h))
  binds _ (negation a h) = binds_as (of-neg spell a) refl (as_factor (rows.negated a (behind_minus (binds a h))))
  binds _ (sum a b h k) =
      binds_as (of-add spell a b) (rows.calculated operator.Add a b)
      (sum_binds (sign signs.Plus) {part = record { operator = operator.Add; right = read b }} (binds a h) (binds b k) (λ behind last several. rows.plus several))
  binds _ (difference a b h k) =
      binds_as (of-sub spell a b) (rows.calculated operator.Sub a b)
      (sum_binds (sign signs.Minus) {part = record { operator = operator.Sub; right = read b }} (binds a h) (binds b k) (λ behind last several. rows.minus several))
  binds _ (product a b h k) =
      binds_as (of-mul spell a b) (rows.calculated operator.Mul a b)
      (product_binds (sign signs.Star) {part = record { operator = operator.Mul; right = read b }} (binds a h) (binds b k) (λ behind last several. rows.times several))
  binds _ (remainder a b h k) =
      binds_as (of-mod spell a b) (rows.calculated operator.Mod a b) (divided_binds a b (codes "mod") refl (binds a h) (binds b k))
  binds _ (floored a b h k) =
      binds_as (of-floor spell a b) (rows.calculated operator.Floor a b) (divided_binds a b (codes "floordiv") refl (binds a h) (binds b k))
  binds _ (ceiled a b h k) =
      binds_as (of-ceil spell a b) (rows.calculated operator.Ceil a b) (divided_binds a b (codes "ceildiv") refl (binds a h) (binds b k))
