-- The kind of a token is told by its first byte, its last byte and its length.
use Rattle.std.proofs.Common.{◌≡◌, ℕ, ◌+◌, ◌-◌, ◌<◌, ◌≤◌, ◌==◌, inl, inr, List, Bool, length, true, false, cond, refl, sym, ◌∙◌, ap, arith}
use Rattle.std.specs.Prelude.{slice_index}
use Rattle.std.proofs.lemmas.Bool.Decides.{nat_tests}
use Rattle.av_lex.specs.declared.token.Kind.{Kind}
use Rattle.av_lex.specs.declared.token.Kind.TheVariants as kinds
use Rattle.av_lex.specs.declared.token.Sign.{Sign}
use Rattle.av_lex.specs.declared.token.Sign.TheVariants.{OpenRound, CloseRound, OpenCurly, CloseCurly, OpenSquare, CloseSquare, OpenAngle, CloseAngle, Comma, Colon, Equal, Plus, Star, Minus, Question, Arrow, AtLeast, EqualEqual}
use Rattle.av_lex.specs.declared.class.Class.TheVariants as classes
use Rattle.av_lex.specs.Bytes.{in_class}
use Rattle.av_lex.specs.Spellings.{sign_text, Spelling, Spells}
use Rattle.av_lex.proofs.Runs.{digit_no_word, digit_no_x}

unfoldable pub single_kind : ℕ → Kind
single_kind c =
    cond (c == 40) (kinds.Sign OpenRound) (cond (c == 41) (kinds.Sign CloseRound)
    (cond (c == 123) (kinds.Sign OpenCurly) (cond (c == 125) (kinds.Sign CloseCurly)
    (cond (c == 93) (kinds.Sign CloseSquare) (cond (c == 60) (kinds.Sign OpenAngle)
    (cond (c == 44) (kinds.Sign Comma) (cond (c == 58) (kinds.Sign Colon)
    (cond (c == 43) (kinds.Sign Plus) (cond (c == 42) (kinds.Sign Star) kinds.Word)))))))))

unfoldable pub mark_kind : ℕ → Bool → Kind
mark_kind c one =
    cond (c == 37) kinds.ValId (cond (c == 64) kinds.SymId (cond (c == 35) kinds.HashId
    (cond (c == 94) kinds.CaretId (cond (c == 34) kinds.Quoted
    (cond (c == 63) (cond one (kinds.Sign Question) kinds.DimX)
    (cond (c == 91) (cond one (kinds.Sign OpenSquare) kinds.ScalX)
    (cond (c == 45) (cond one (kinds.Sign Minus) (kinds.Sign Arrow))
    (cond (c == 62) (cond one (kinds.Sign CloseAngle) (kinds.Sign AtLeast))
    (cond (c == 61) (cond one (kinds.Sign Equal) (kinds.Sign EqualEqual)) (single_kind c))))))))))

unfoldable pub kind_of : ℕ → ℕ → ℕ → Kind
kind_of c z n = cond (in_class classes.WordStart c) kinds.Word
    (cond (in_class classes.Digit c) (cond (z == 120) kinds.DimX kinds.Number) (mark_kind c (n == 1)))

word_kind : (c z n : ℕ) → in_class classes.WordStart c ≡ true → kinds.Word ≡ kind_of c z n
unfolding kind_of
word_kind c z n h = rw h

number_kind : (c z n : ℕ) → in_class classes.Digit c ≡ true → in_class classes.Digit z ≡ true → kinds.Number ≡ kind_of c z n
unfolding kind_of
number_kind c z n h hz = let w = digit_no_word c h in let x = digit_no_x z hz in rw (w, h, x)

size_kind : (c z n : ℕ) → in_class classes.Digit c ≡ true → z ≡ 120 → kinds.DimX ≡ kind_of c z n
unfolding kind_of
size_kind c z n h hz = let w = digit_no_word c h in rw (w, h, hz)

-- a kind at numerals
at_marks : (k : Kind) (c c' z n n' : ℕ) → c ≡ c' → n ≡ n' → k ≡ kind_of c' z n' → k ≡ kind_of c z n
at_marks k c c' z n n' hc hn h = rw (hc, hn) h

at_mark : (k : Kind) (c c' z n : ℕ) → c ≡ c' → k ≡ kind_of c' z n → k ≡ kind_of c z n
at_mark k c c' z n hc h = rw hc h

more_than_one : (n : ℕ) → 2 ≤ n → (n == 1) ≡ false
more_than_one n h = grind (arith, nat_tests)

open_kind : (z n : ℕ) → 2 ≤ n → kinds.ScalX ≡ kind_of 91 z n
unfolding kind_of mark_kind in_class
open_kind z n h = let f = more_than_one n h in rw f

sign_kind : (s : Sign) (z : ℕ) → kinds.Sign s ≡ kind_of (slice_index (sign_text s) 0) z (length (sign_text s))
unfolding kind_of mark_kind single_kind in_class
sign_kind OpenRound z = refl
sign_kind CloseRound z = refl
sign_kind OpenCurly z = refl
sign_kind CloseCurly z = refl
sign_kind OpenSquare z = refl
sign_kind CloseSquare z = refl
sign_kind OpenAngle z = refl
sign_kind CloseAngle z = refl
sign_kind Comma z = refl
sign_kind Colon z = refl
sign_kind Equal z = refl
sign_kind Plus z = refl
sign_kind Star z = refl
sign_kind Minus z = refl
sign_kind Question z = refl
sign_kind Arrow z = refl
sign_kind AtLeast z = refl
sign_kind EqualEqual z = refl

sign_long : (s : Sign) → 1 ≤ length (sign_text s)
sign_long OpenRound = omega arith
sign_long CloseRound = omega arith
sign_long OpenCurly = omega arith
sign_long CloseCurly = omega arith
sign_long OpenSquare = omega arith
sign_long CloseSquare = omega arith
sign_long OpenAngle = omega arith
sign_long CloseAngle = omega arith
sign_long Comma = omega arith
sign_long Colon = omega arith
sign_long Equal = omega arith
sign_long Plus = omega arith
sign_long Star = omega arith
sign_long Minus = omega arith
sign_long Question = omega arith
sign_long Arrow = omega arith
sign_long AtLeast = omega arith
sign_long EqualEqual = omega arith

val_kind : (z n : ℕ) → kinds.ValId ≡ kind_of 37 z n
unfolding kind_of mark_kind in_class
val_kind z n = refl

sym_kind : (z n : ℕ) → kinds.SymId ≡ kind_of 64 z n
unfolding kind_of mark_kind in_class
sym_kind z n = refl

hash_kind : (z n : ℕ) → kinds.HashId ≡ kind_of 35 z n
unfolding kind_of mark_kind in_class
hash_kind z n = refl

caret_kind : (z n : ℕ) → kinds.CaretId ≡ kind_of 94 z n
unfolding kind_of mark_kind in_class
caret_kind z n = refl

quoted_kind : (z n : ℕ) → kinds.Quoted ≡ kind_of 34 z n
unfolding kind_of mark_kind in_class
quoted_kind z n = refl

any_kind : (z : ℕ) → kinds.DimX ≡ kind_of 63 z 2
unfolding kind_of mark_kind in_class
any_kind z = refl

pub at_least_one : (k : Kind) (r : List ℕ) (n : ℕ) → Spelling k r n → 1 ≤ n
at_least_one kinds.Word r n h = h.0
at_least_one kinds.Number r n h = h.0
at_least_one kinds.DimX r n (inl h) = let e : n ≡ h.0 + 1 = h.1 in omega arith
at_least_one kinds.DimX r n (inr h) = let e : n ≡ 2 = h.0 in omega arith
at_least_one kinds.ScalX r n h = let e : n ≡ h.0 + 2 = h.1 in omega arith
at_least_one kinds.ValId r n h = let e : 2 ≤ n = h.1 in omega arith
at_least_one kinds.SymId r n h = let e : 2 ≤ n = h.1 in omega arith
at_least_one kinds.HashId r n h = let e : 2 ≤ n = h.1 in omega arith
at_least_one kinds.CaretId r n h = let e : 2 ≤ n = h.1 in omega arith
at_least_one kinds.Quoted r n h = let e : n ≡ h.0 + 1 = h.1 in omega arith
at_least_one (kinds.Sign s) r n h = let e : n ≡ length (sign_text s) = h.0 in let l = sign_long s in omega arith

last_is : (r : List ℕ) (z n d : ℕ) → z ≡ slice_index r (n - 1) → n ≡ d + 1 → z ≡ slice_index r d
last_is r z n d h e = let same : n - 1 ≡ d = omega arith in h ∙ ap (λ k. slice_index r k) same

pub kind_is : (k : Kind) (r : List ℕ) (n z : ℕ) → z ≡ slice_index r (n - 1) → Spelling k r n → k ≡ kind_of (slice_index r 0) z n
kind_is kinds.Word r n z hz h = word_kind _ z n h.1
kind_is kinds.Number r n z hz h =
    let some : 1 ≤ n = h.0 in
    let last : n - 1 < n = omega arith in
    let none : 0 ≤ n - 1 = omega arith in
    number_kind _ z n (h.1 0 (omega arith) (omega arith)) (ap (in_class classes.Digit) hz ∙ h.1 (n - 1) none last)
kind_is kinds.DimX r n z hz (inl h) =
    let some : 1 ≤ h.0 = h.2 in
    size_kind _ z n (h.3 0 (omega arith) (omega arith)) (last_is r z n h.0 hz h.1 ∙ h.4)
kind_is kinds.DimX r n z hz (inr h) = at_marks kinds.DimX _ 63 z n 2 h.1 h.0 (any_kind z)
kind_is kinds.ScalX r n z hz h = let e : n ≡ h.0 + 2 = h.1 in at_mark kinds.ScalX _ 91 z n h.3 (open_kind z n (omega arith))
kind_is kinds.ValId r n z hz h = at_mark kinds.ValId _ 37 z n h.0 (val_kind z n)
kind_is kinds.SymId r n z hz h = at_mark kinds.SymId _ 64 z n h.0 (sym_kind z n)
kind_is kinds.HashId r n z hz h = at_mark kinds.HashId _ 35 z n h.0 (hash_kind z n)
kind_is kinds.CaretId r n z hz h = at_mark kinds.CaretId _ 94 z n h.0 (caret_kind z n)
kind_is kinds.Quoted r n z hz h = at_mark kinds.Quoted _ 34 z n h.3 (quoted_kind z n)
kind_is (kinds.Sign s) r n z hz h =
    let some : 1 ≤ n = at_least_one (kinds.Sign s) r n h in
    at_marks (kinds.Sign s) _ (slice_index (sign_text s) 0) z n (length (sign_text s)) (h.1 0 some) h.0 (sign_kind s z)

-- at one length one kind is spelled
pub one_kind : (k k' : Kind) (r : List ℕ) (n : ℕ) → Spells k r n → Spells k' r n → k ≡ k'
one_kind k k' r n h h' = kind_is k r n _ refl h.spelled ∙ sym (kind_is k' r n _ refl h'.spelled)

-- what the first byte says of the kind
pub kind_at : (c : ℕ) (k : Kind) (r : List ℕ) (n : ℕ) → slice_index r 0 ≡ c → Spells k r n → k ≡ kind_of c (slice_index r (n - 1)) n
kind_at c k r n here h = kind_is k r n _ refl h.spelled ∙ ap (λ b. kind_of b (slice_index r (n - 1)) n) here
