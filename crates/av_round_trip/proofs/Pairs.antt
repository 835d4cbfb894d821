-- How many pairs of brackets are printed in an expression, by its parts.
use Rattle.std.proofs.Common.{◌≡◌, ℕ, ◌+◌, ◌≤◌, ℤ, pos, negsuc, suc, Bool, true, false, cond, List, [], ◌∷◌, ◌++◌, refl, ap, ◌∙◌, arith, codes}
use Rattle.std.proofs.lemmas.List.Sums.{sum_by-append}
use Rattle.std.proofs.lemmas.Bool.Decides.{nat_tests}
use Rattle.std.specs.Prelude.{nat_lt, nat_eq, decimal, ◌==◌, if◌then◌else◌}
use Rattle.std.specs.List.{list_all}
use Rattle.av_lex.specs.declared.token.Kind.{Kind}
use Rattle.av_lex.specs.declared.token.Kind.TheVariants as kinds
use Rattle.av_lex.specs.declared.token.Sign.{Sign}
use Rattle.av_lex.specs.declared.token.Sign.TheVariants as signs
use Rattle.av_tree.specs.declared.class.Class.TheVariants as class
use Rattle.av_tree.specs.declared.written.ExprText.{ExprText, Name, Const, Neg}
use Rattle.av_derive.specs.ClassOf.{keyword_of}
use Rattle.av_derive.proofs.Keywords.{by-keyword}
use Rattle.av_printer.specs.Pieces.{Piece, space, sign, token, plain, spaced, in_round}
use Rattle.av_printer.specs.Expressions.{Part as Printed, number, side, part_of, expression}
use Rattle.av_printer.proofs.ExpressionSteps.{of-name, of-const, of-neg, of-add, of-sub, of-mul, of-mod, of-floor, of-ceil}
use Rattle.av_values.specs.declared.value.Expression.{Expression}
use Rattle.av_values.specs.declared.value.Operator.{Operator}
use Rattle.av_values.specs.declared.value.Operator.TheVariants as operator
use Rattle.av_values.specs.declared.value.Part.{Part}
use Rattle.av_values.specs.Expressions.{calculation, with_part, joined_left}
use Rattle.av_print_laws.specs.Spacing.{words_of}
use Rattle.av_read_laws.specs.Making.{Word, class_of_word}
use Rattle.av_round_trip.specs.Expressions.{opens_round, brackets_in}
use Rattle.av_round_trip.proofs.Giving.{words-append}

-- ---- pieces
abbrev pub brackets_of : List Piece → ℕ
brackets_of ps = brackets_in (words_of ps)

brackets-append : (ps qs : List Piece) → brackets_of (ps ++ qs) ≡ brackets_of ps + brackets_of qs
brackets-append ps qs = ap brackets_in (words-append ps qs) ∙ sum_by-append (λ (w : Word). cond (opens_round (class_of_word w)) 1 0) (words_of ps) (words_of qs)

brackets-three : (ps qs rs : List Piece) → brackets_of (ps ++ qs ++ rs) ≡ brackets_of ps + brackets_of qs + brackets_of rs
brackets-three ps qs rs = brackets-append (ps ++ qs) rs ∙ ap (λ n. n + brackets_of rs) (brackets-append ps qs)

none-space : brackets_of space ≡ 0
unfolding words_of space
none-space = refl

none-token : (k : Kind) (text : List ℕ) → opens_round (class_of_word (k, text)) ≡ false → brackets_of (token k text) ≡ 0
unfolding words_of token
none-token k text other = ap (λ (b : Bool). 0 + cond b 1 0) other

none-sign : (s : Sign) → opens_round (class.Sign s) ≡ false → brackets_of (sign s) ≡ 0
unfolding words_of sign
none-sign s other = ap (λ (b : Bool). 0 + cond b 1 0) other

none-word : (text : List ℕ) → brackets_of (plain text) ≡ 0
none-word text = none-token kinds.Word text (by-keyword (λ c. opens_round c ≡ false) (λ k. refl) refl refl (keyword_of text) text)

none-of_zero : (zero : Bool) → opens_round (if zero then class.Zero else class.Positive) ≡ false
none-of_zero true = refl
none-of_zero false = refl

none-digits : (digits : List ℕ) → brackets_of (token kinds.Number digits) ≡ 0
none-digits digits = none-token kinds.Number digits (none-of_zero (list_all (λ digit. digit == 48) digits))

none-number : (z : ℤ) → brackets_of (number z) ≡ 0
unfolding number
none-number (pos n) = none-digits (decimal n)
none-number (negsuc n) =
    let both = brackets-append (sign signs.Minus) (token kinds.Number (decimal (suc n))) in
    let minus = none-sign signs.Minus refl in
    let digits = none-digits (decimal (suc n)) in
    omega arith

none-spaced : (word : List Piece) → brackets_of word ≡ 0 → brackets_of (spaced word) ≡ 0
none-spaced word none =
    let three = brackets-three space word space in
    let blank = none-space in
    omega arith

one-round : (ps : List Piece) → brackets_of (in_round ps) ≡ 1 + brackets_of ps
unfolding words_of sign
one-round ps =
    let three = brackets-three (sign signs.OpenRound) ps (sign signs.CloseRound) in
    let opening : brackets_of (sign signs.OpenRound) ≡ 1 = refl in
    let closing = none-sign signs.CloseRound refl in
    omega arith

-- ---- sides
-- one pair where what binds so tightly stands in such a place
abbrev loose : ℕ → ℕ → ℕ
loose strength asked = cond (nat_lt strength asked) 1 0

either_side : (b : Bool) (ps : List Piece) → brackets_of (if b then in_round ps else ps) ≡ cond b 1 0 + brackets_of ps
either_side true ps = one-round ps
either_side false ps = omega arith

side-brackets : (asked : ℕ) (p : Printed) → brackets_of (side asked p) ≡ loose p.strength asked + brackets_of p.pieces
unfolding side
side-brackets asked p = either_side (nat_lt p.strength asked) p.pieces

-- the pairs in and around an expression in a place
pub pairs : ℕ → ExprText → ℕ
pairs asked e = brackets_of (side asked (part_of plain e))

pairs-are : (asked : ℕ) (e : ExprText) (p : Printed) → part_of plain e ≡ p → pairs asked e ≡ loose p.strength asked + brackets_of p.pieces
unfolding pairs
pairs-are asked e p is = ap (λ (q : Printed). brackets_of (side asked q)) is ∙ side-brackets asked p

looser : (strength low high : ℕ) → low ≤ high → loose strength low ≤ loose strength high
looser strength low high h = grind (arith, nat_tests)

one_at_most : (b : Bool) → cond b 1 0 ≤ 1
one_at_most true = omega arith
one_at_most false = omega arith

pub pairs-own : (asked : ℕ) (e : ExprText) → brackets_of (expression plain e) ≤ pairs asked e
pairs-own asked e = let is = pairs-are asked e (part_of plain e) refl in omega arith

pub pairs-grow : (low high : ℕ) (e : ExprText) → low ≤ high → pairs low e ≤ pairs high e
pairs-grow low high e h =
    let a = pairs-are low e (part_of plain e) refl in
    let b = pairs-are high e (part_of plain e) refl in
    let more = looser (part_of plain e).strength low high h in
    omega arith

pub pairs-one : (low high : ℕ) (e : ExprText) → pairs high e ≤ 1 + pairs low e
pairs-one low high e =
    let a = pairs-are low e (part_of plain e) refl in
    let b = pairs-are high e (part_of plain e) refl in
    let one = one_at_most (nat_lt (part_of plain e).strength high) in
    omega arith

pub pairs-name : (text : List ℕ) → pairs 4 (Name text) ≡ 0
pairs-name text = pairs-are 4 (Name text) _ (of-name plain text) ∙ ap (λ n. 0 + n) (none-word text)

pub pairs-const : (z : ℤ) → pairs 3 (Const z) ≡ 0
pairs-const z = pairs-are 3 (Const z) _ (of-const plain z) ∙ ap (λ n. 0 + n) (none-number z)

pub pairs-neg : (a : ExprText) → pairs 3 (Neg a) ≡ pairs 4 a
unfolding pairs
pairs-neg a =
    let is = pairs-are 3 (Neg a) (record { strength = 3; pieces = sign signs.Minus ++ side 4 (part_of plain a) }) (of-neg plain a) in
    let both = brackets-append (sign signs.Minus) (side 4 (part_of plain a)) in
    let minus = none-sign signs.Minus refl in
    let tight : loose 3 3 ≡ 0 = refl in
    omega arith

-- ---- signs and words
abbrev strength_of : Operator → ℕ
strength_of operator.Add = 1
strength_of operator.Sub = 1
strength_of _ = 2

-- what a sign or word asks of its right side
abbrev right_of : Operator → ℕ
right_of operator.Add = 2
right_of operator.Sub = 2
right_of _ = 3

word_of : Operator → List Piece
word_of operator.Add = sign signs.Plus
word_of operator.Sub = sign signs.Minus
word_of operator.Mul = sign signs.Star
word_of operator.Mod = plain (codes "mod")
word_of operator.Floor = plain (codes "floordiv")
word_of operator.Ceil = plain (codes "ceildiv")

none-word_of : (o : Operator) → brackets_of (word_of o) ≡ 0
unfolding word_of
none-word_of operator.Add = none-sign signs.Plus refl
none-word_of operator.Sub = none-sign signs.Minus refl
none-word_of operator.Mul = none-sign signs.Star refl
none-word_of operator.Mod = none-word (codes "mod")
none-word_of operator.Floor = none-word (codes "floordiv")
none-word_of operator.Ceil = none-word (codes "ceildiv")

abbrev between : Operator → Printed → Printed → Printed
between o p q = record { strength = strength_of o; pieces = side (strength_of o) p ++ spaced (word_of o) ++ side (right_of o) q }

of-calculation : (o : Operator) (a b : ExprText) → part_of plain (calculation o a b) ≡ between o (part_of plain a) (part_of plain b)
unfolding word_of
of-calculation operator.Add a b = of-add plain a b
of-calculation operator.Sub a b = of-sub plain a b
of-calculation operator.Mul a b = of-mul plain a b
of-calculation operator.Mod a b = of-mod plain a b
of-calculation operator.Floor a b = of-floor plain a b
of-calculation operator.Ceil a b = of-ceil plain a b

pairs-calculation : (asked : ℕ) (o : Operator) (a b : ExprText)
    → pairs asked (calculation o a b) ≡ loose (strength_of o) asked + (pairs (strength_of o) a + pairs (right_of o) b)
unfolding pairs
pairs-calculation asked o a b =
    let is = pairs-are asked (calculation o a b) (between o (part_of plain a) (part_of plain b)) (of-calculation o a b) in
    let three = brackets-three (side (strength_of o) (part_of plain a)) (spaced (word_of o)) (side (right_of o) (part_of plain b)) in
    let none = none-spaced (word_of o) (none-word_of o) in
    omega arith

-- ---- a first item and parts behind it
-- the pairs that a part adds behind an item in a place that asks for so much: one more where its sign or word binds otherwise
abbrev pub weight : ℕ → Part → ℕ
weight asked p = cond (nat_eq (strength_of p.operator) asked) 0 1 + pairs (right_of p.operator) p.right.expr

unfoldable pub weights : ℕ → List Part → ℕ
weights asked [] = 0
weights asked (p ∷ ps) = weight asked p + weights asked ps

-- the left side of a sign or word, in a place that asks for so much
abbrev pub Left : ℕ → Type 0
Left asked = (o : Operator) (a : ExprText)
    → loose (strength_of o) asked + pairs (strength_of o) a ≤ pairs asked a + cond (nat_eq (strength_of o) asked) 0 1

pub left-in_sum : Left 1
left-in_sum operator.Add a = omega arith
left-in_sum operator.Sub a = omega arith
left-in_sum o a = let one = pairs-one 1 2 a in omega arith

pub left-in_product : Left 2
left-in_product operator.Add a = let less = pairs-grow 1 2 a (omega arith) in omega arith
left-in_product operator.Sub a = let less = pairs-grow 1 2 a (omega arith) in omega arith
left-in_product o a = omega arith

with_part-pairs : (asked : ℕ) → Left asked → (f : Expression) (p : Part) → pairs asked (with_part f p).expr ≤ pairs asked f.expr + weight asked p
with_part-pairs asked left f p =
    let is = pairs-calculation asked p.operator f.expr p.right.expr in
    let side = left p.operator f.expr in
    omega arith

pub joined-pairs : (asked : ℕ) → Left asked → (f : Expression) (ps : List Part) → pairs asked (joined_left f ps).expr ≤ pairs asked f.expr + weights asked ps
unfolding joined_left weights
joined-pairs asked left f [] = omega arith
joined-pairs asked left f (p ∷ ps) =
    let whole : pairs asked (joined_left f (p ∷ ps)).expr ≤ pairs asked (with_part f p).expr + weights asked ps = joined-pairs asked left (with_part f p) ps in
    let first = with_part-pairs asked left f p in
    omega arith
