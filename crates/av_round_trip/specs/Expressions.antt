-- Affine expressions, maps and sets that are printed and read again as themselves.
use Rattle.std.specs.Prelude.{ℕ, ℤ, ◌≡◌, ◌≤◌, Bool, true, false, List, [], ◌∷◌, ◌++◌, count_by}
use Rattle.std.specs.List.{All}
use Rattle.av_lex.specs.Spellings.{sign_text}
use Rattle.av_lex.specs.declared.token.Kind.TheVariants as kinds
use Rattle.av_lex.specs.declared.token.Sign.{Sign}
use Rattle.av_lex.specs.declared.token.Sign.TheVariants as signs
use Rattle.av_tree.specs.declared.class.Class.{Class}
use Rattle.av_tree.specs.declared.class.Class.TheVariants as class
use Rattle.av_tree.specs.declared.table.Symbol.TheVariants as symbol
use Rattle.av_tree.specs.declared.table.Name.TheVariants as name
use Rattle.av_tree.specs.declared.table.maps.MapName.TheVariants as maps_name
use Rattle.av_tree.specs.declared.attribute.Attr.TheVariants as attr
use Rattle.av_tree.specs.declared.written.ExprText.{ExprText, Name, Const, Neg, Add, Sub, Mul, Mod, Floor, Ceil}
use Rattle.av_tree.specs.declared.written.MapText.{MapText}
use Rattle.av_tree.specs.declared.written.RowText.{RowText}
use Rattle.av_tree.specs.declared.written.SetText.{SetText}
use Rattle.av_printer.specs.Pieces.{Piece, plain}
use Rattle.av_printer.specs.Expressions.{expression, map_pieces, set_pieces}
use Rattle.av_values.specs.declared.value.Expression.{Expression}
use Rattle.av_values.specs.declared.value.Value.TheVariants as value
use Rattle.av_print_laws.specs.Spacing.{words_of}
use Rattle.av_print_laws.specs.ReadExpressions.{IsShortInteger}
use Rattle.av_read_laws.specs.Making.{Word, class_of_word, is_calculation, Makes}
use Rattle.av_round_trip.specs.Giving.{Gives}

-- the names in an expression can be read, and its numbers have at most 38 digits
pub data IsLegible (IsName : List ℕ → Type 0) : ExprText → Type 0 where
  named : (text : List ℕ) → IsName text → IsLegible IsName (Name text)
  number : (z : ℤ) → IsShortInteger z → IsLegible IsName (Const z)
  negation : (a : ExprText) → IsLegible IsName a → IsLegible IsName (Neg a)
  sum : (a b : ExprText) → IsLegible IsName a → IsLegible IsName b → IsLegible IsName (Add a b)
  difference : (a b : ExprText) → IsLegible IsName a → IsLegible IsName b → IsLegible IsName (Sub a b)
  product : (a b : ExprText) → IsLegible IsName a → IsLegible IsName b → IsLegible IsName (Mul a b)
  remainder : (a b : ExprText) → IsLegible IsName a → IsLegible IsName b → IsLegible IsName (Mod a b)
  floored : (a b : ExprText) → IsLegible IsName a → IsLegible IsName b → IsLegible IsName (Floor a b)
  ceiled : (a b : ExprText) → IsLegible IsName a → IsLegible IsName b → IsLegible IsName (Ceil a b)

-- any word stands for a parameter of a map
abbrev pub HasShortNumbers : ExprText → Type 0
HasShortNumbers = IsLegible (λ text. Unit {0})

-- how many signs and words of calculation are written in an expression, whose names are spelled so
abbrev pub signs_of : (List ℕ → List Piece) → ExprText → ℕ
signs_of spell e = count_by (λ (word : Word). is_calculation (class_of_word word)) (words_of (expression spell e))

abbrev pub signs_in : ExprText → ℕ
signs_in = signs_of plain

-- an expression that can be read where it may have so many signs
pub record IsExpression (most : ℕ) (e : ExprText) : Type 0 where
  pub numbers : HasShortNumbers e
  pub few : signs_in e ≤ most

abbrev pub ExpressionsLaw : Type 0
ExpressionsLaw = (most : ℕ) (e : ExprText) → IsExpression most e
    → Gives most (symbol.Rows (name.Map maps_name.Expression) ∷ []) (expression plain e) (value.Expression (record { expr = e; leaves = [] }) ∷ [])

-- how many pairs of brackets are written in words that have them in pairs: the round brackets that open
abbrev pub opens_round : Class → Bool
opens_round (class.Sign signs.OpenRound) = true
opens_round _ = false

abbrev pub brackets_in : List Word → ℕ
brackets_in words = count_by (λ (word : Word). opens_round (class_of_word word)) words

-- No words that the rows make an expression of have fewer brackets than are printed.
abbrev pub FewestBracketsLaw : Type 0
FewestBracketsLaw = (most : ℕ) (e : Expression) (ws : List Word)
    → Makes most (symbol.Rows (name.Map maps_name.Expression) ∷ []) ws (value.Expression e ∷ [])
    → brackets_in (words_of (expression plain e.expr)) ≤ brackets_in ws

-- a bracket as a word
abbrev pub bracket : Sign → Word
bracket s = (kinds.Sign s, sign_text s)

-- Each pair of brackets is needed: the words without them aren't read as the same expression.
abbrev pub NeededBracketsLaw : Type 0
NeededBracketsLaw = (most : ℕ) (e : Expression) (before inside behind : List Word)
    → words_of (expression plain e.expr) ≡ before ++ bracket signs.OpenRound ∷ inside ++ bracket signs.CloseRound ∷ behind
    → ¬ Makes most (symbol.Rows (name.Map maps_name.Expression) ∷ []) (before ++ inside ++ behind) (value.Expression e ∷ [])

abbrev pub IsMap : ℕ → MapText → Type 0
IsMap most m = All (IsExpression most) m.results

abbrev pub IsRow : ℕ → RowText → Type 0
IsRow most r = IsExpression most r.left

abbrev pub IsSet : ℕ → SetText → Type 0
IsSet most s = All (IsRow most) s.rows

abbrev pub MapsLaw : Type 0
MapsLaw = (most : ℕ) (m : MapText) → IsMap most m
    → Gives most (symbol.Rows (name.Map maps_name.AffineMap) ∷ []) (map_pieces m) (value.Attr (attr.Map m) ∷ [])

abbrev pub SetsLaw : Type 0
SetsLaw = (most : ℕ) (s : SetText) → IsSet most s
    → Gives most (symbol.Rows (name.Map maps_name.AffineSet) ∷ []) (set_pieces s) (value.Attr (attr.Set s) ∷ [])
