-- The pieces of expressions, maps and sets that were read are spaced.
use Rattle.std.proofs.Common.{◌≡◌, ℕ, suc, ℤ, pos, negsuc, Bool, true, false, cond, List, [], ◌∷◌, ◌++◌, length, map, Option, Some, None, refl, sym, ◌∙◌, ap, subst, codes, arith, take, drop}
use Rattle.std.specs.Prelude.{nat_lt, nat_eq, decimal}
use Rattle.std.specs.List.{All}
use Rattle.std.proofs.lemmas.Bool.{false≢true}
use Rattle.std.proofs.lemmas.Fmt.{decimal_digit}
use Rattle.std.proofs.lemmas.List.Elements.{All-head, All-tail, All-take, All-drop}
use Rattle.av_lex.specs.declared.token.Kind.TheVariants as kinds
use Rattle.av_lex.specs.declared.token.Sign.TheVariants.{OpenAngle, CloseAngle, Arrow, Colon, Plus, Star, Minus, AtLeast, EqualEqual}
use Rattle.av_lex.specs.Bytes.{in_class}
use Rattle.av_tree.specs.declared.written.ExprText.{ExprText, ExprText-F, Name, Const, Neg, Add, Sub, Mul, Mod, Floor, Ceil, fold-ExprText, fold-roll-ExprText, out-ExprText, out-roll-ExprText}
use Rattle.av_tree.specs.declared.written.ExprText.TheVariants.{rolls-Name, rolls-Const, rolls-Neg, rolls-Add, rolls-Sub, rolls-Mul, rolls-Mod, rolls-Floor, rolls-Ceil}
use Rattle.av_tree.specs.declared.written.ExprText.TheOpen as open_expr
use Rattle.av_tree.specs.declared.written.MapText.{MapText}
use Rattle.av_tree.specs.declared.written.RowText.{RowText}
use Rattle.av_tree.specs.declared.written.SetText.{SetText}
use Rattle.av_printer.specs.Pieces.{Piece, spelt, space, token, sign, plain, spaced, commas, in_round}
use Rattle.av_printer.specs.Expressions as e
use Rattle.av_printer.specs.Expressions.{Part}
use Rattle.av_print_laws.specs.Spacing.{begins_apart, lengthens_sign, IsWord}
use Rattle.av_print_laws.specs.ReadExpressions.{IsShortInteger, IsReadExpr, name, number, negation, sum, difference, product, remainder, floored, ceiled, IsReadMap, IsReadRow, IsReadSet, IsWhich, IsValue}
use Rattle.av_print_laws.specs.WrittenLaws.{MapsLaw, SetsLaw, MapUsesLaw}
use Rattle.av_print_laws.proofs.Parts.{parts-law, sign_before, Free, Sound, Divides, Keeps, Opens, AllOf, free-append, free-sound, sound-append, sound-free, sound-divides, sound-of_free, divides-append, sound-none, opens-append, free-sign, free-open_angle, divides-open_angle, sound-close_angle, free-arrow, free-space, divides-space, free-spaced, free-in_round, sound-in_square, sound-word, sound-number, sound-token, all_mapped, sound-commas, opens-commas, Tame}
use Rattle.av_print_laws.proofs.Words.{is_word, number_word, opens-number}
use Rattle.av_print_laws.proofs.Firsts.{Shuts, NoAngle, shuts-append, no_angle-append, opens-shuts, shuts-word, no_angle-word, no_angle-number, shuts-value, no_angle-value, shuts-minus, shuts-in_round, no_angle-in_round, divides-in_round, shuts-spaced, divides-spaced}

-- ---- words and signs
mod_word : IsWord kinds.Word (codes "mod")
unfolding in_class
mod_word = is_word (codes "mod") refl

floordiv_word : IsWord kinds.Word (codes "floordiv")
unfolding in_class
floordiv_word = is_word (codes "floordiv") refl

ceildiv_word : IsWord kinds.Word (codes "ceildiv")
unfolding in_class
ceildiv_word = is_word (codes "ceildiv") refl

symbol_word : IsWord kinds.Word (codes "symbol")
unfolding in_class
symbol_word = is_word (codes "symbol") refl

pub map_word : IsWord kinds.Word (codes "affine_map")
unfolding in_class
map_word = is_word (codes "affine_map") refl

pub set_word : IsWord kinds.Word (codes "affine_set")
unfolding in_class
set_word = is_word (codes "affine_set") refl

max_word : IsWord kinds.Word (codes "max")
unfolding in_class
max_word = is_word (codes "max") refl

min_word : IsWord kinds.Word (codes "min")
unfolding in_class
min_word = is_word (codes "min") refl

zero_word : IsWord kinds.Number (codes "0")
zero_word = subst (IsWord kinds.Number) (decimal_digit 0 (omega arith)) (number_word 0 (omega arith))

free-plus : Free (sign Plus)
unfolding lengthens_sign
free-plus = free-sign Plus (λ rest. refl)

free-star : Free (sign Star)
unfolding lengthens_sign
free-star = free-sign Star (λ rest. refl)

pub free-colon_alone : Free (sign Colon)
unfolding lengthens_sign
free-colon_alone = free-sign Colon (λ rest. refl)

free-at_least : Free (sign AtLeast)
unfolding lengthens_sign
free-at_least = free-sign AtLeast (λ rest. refl)

free-equal_equal : Free (sign EqualEqual)
unfolding lengthens_sign
free-equal_equal = free-sign EqualEqual (λ rest. refl)

no_angle-space : NoAngle space
unfolding spelt space
no_angle-space rest = refl

minus_before : (ps : List Piece) → Free ps → NoAngle ps → Free (sign Minus ++ ps)
unfolding lengthens_sign
minus_before ps h n rest = parts-law (sign Minus) ps rest (sign_before Minus (spelt ps ++ rest) (n rest)) (h rest)

minus_sound : (ps : List Piece) → Sound ps → NoAngle ps → Sound (sign Minus ++ ps)
unfolding lengthens_sign
minus_sound ps h n rest a = parts-law (sign Minus) ps rest (sign_before Minus (spelt ps ++ rest) (n rest)) (h rest a)

free-spaced_sign : (ps : List Piece) → Free ps → Free (spaced ps)
free-spaced_sign ps h = free-spaced ps (sound-of_free ps h)

free-spaced_minus : Free (spaced (sign Minus))
unfolding space
free-spaced_minus = free-append space (sign Minus ++ space) free-space (minus_before space free-space no_angle-space)

-- ---- numbers
pub sound-integer : (z : ℤ) → IsShortInteger z → Sound (e.number z)
unfolding e.number
sound-integer (pos n) h = sound-number _ (number_word n h)
sound-integer (negsuc n) h =
    minus_sound (token kinds.Number (decimal (suc n))) (sound-number _ (number_word (suc n) h)) (no_angle-number _ (number_word (suc n) h))

pub opens-integer : (z : ℤ) → IsShortInteger z → Opens (e.number z)
unfolding e.number
opens-integer (pos n) h = opens-number n h
opens-integer (negsuc n) h =
    opens-shuts (sign Minus ++ token kinds.Number (decimal (suc n))) (shuts-append (sign Minus) (token kinds.Number (decimal (suc n))) shuts-minus)

-- ---- what stands for a name
pub record Named (ps : List Piece) : Type 0 where
  pub sound : Sound ps
  pub shuts : Shuts ps
  pub no_angle : NoAngle ps

named-word : (text : List ℕ) → IsWord kinds.Word text → Named (plain text)
named-word text w = record { sound = sound-word text w; shuts = shuts-word text w; no_angle = no_angle-word text w }

hash_apart : (c : ℕ) → c ≡ 35 → (rest : List ℕ) → begins_apart (c ∷ rest) ≡ true
unfolding in_class
hash_apart c h rest = rw h

sound-which : (text : List ℕ) → IsWhich text → Sound (e.which text)
unfolding e.which Tame
sound-which [] h = sound-none
sound-which (c ∷ cs) h = sound-token kinds.HashId (c ∷ cs) tt h

keeps-which : (text : List ℕ) → IsWhich text → Keeps (e.which text)
unfolding e.which spelt token
keeps-which [] h rest a = a
keeps-which (c ∷ cs) h rest a = hash_apart c (h.spells.spelled.0) ((cs ++ []) ++ rest)

named-value : (text : List ℕ) → IsValue text → Named (e.value text)
unfolding Tame
named-value text h = record {
  sound =
      sound-append (token kinds.ValId (e.before 35 text)) (e.which (e.from 35 text))
      (sound-token kinds.ValId (e.before 35 text) tt h.0) (sound-which (e.from 35 text) h.1) (keeps-which (e.from 35 text) h.1);
  shuts = shuts-append (token kinds.ValId (e.before 35 text)) (e.which (e.from 35 text)) (shuts-value (e.before 35 text) h.0);
  no_angle = no_angle-append (token kinds.ValId (e.before 35 text)) (e.which (e.from 35 text)) (no_angle-value (e.before 35 text) h.0);
}

pub sound-value : (text : List ℕ) → IsValue text → Sound (e.value text)
sound-value text h = (named-value text h).sound

pub opens-value : (text : List ℕ) → IsValue text → Opens (e.value text)
opens-value text h = opens-shuts (e.value text) (named-value text h).shuts

abbrev IsPlaced : Option (List ℕ) → Type 0
IsPlaced None = Unit {0}
IsPlaced (Some v) = IsValue v

pub either : {A : Type 0} (P : A → Type 0) (b : Bool) (x y : A) → (b ≡ true → P x) → (b ≡ false → P y) → P (cond b x y)
either P true x y h k = h refl
either P false x y h k = k refl

placed-values : (ps vs : List (List ℕ)) (text : List ℕ) → All IsValue vs → IsPlaced (e.placed ps vs text)
unfolding e.placed
placed-values [] vs text h = tt
placed-values (p ∷ ps) [] text h = tt
placed-values (p ∷ ps) (v ∷ vs) text h =
    either IsPlaced (e.same p text) (Some v) (e.placed ps vs text)
    (λ b. All-head IsValue v vs h) (λ b. placed-values ps vs text (All-tail IsValue v vs h))

symbol_of : (v : List ℕ) → IsValue v → Named (plain (codes "symbol") ++ in_round (e.value v))
symbol_of v h = record {
  sound =
      sound-divides (plain (codes "symbol")) (in_round (e.value v)) (sound-word (codes "symbol") symbol_word)
      (sound-of_free (in_round (e.value v)) (free-in_round (e.value v) (sound-value v h))) (divides-in_round (e.value v));
  shuts = shuts-append (plain (codes "symbol")) (in_round (e.value v)) (shuts-word (codes "symbol") symbol_word);
  no_angle = no_angle-append (plain (codes "symbol")) (in_round (e.value v)) (no_angle-word (codes "symbol") symbol_word);
}

named-leaf_of : (dim sym : Option (List ℕ)) (text : List ℕ) → IsPlaced dim → IsPlaced sym → IsWord kinds.Word text → Named (e.leaf_of dim sym text)
unfolding e.leaf_of
named-leaf_of (Some v) sym text h k w = named-value v h
named-leaf_of None (Some v) text h k w = symbol_of v k
named-leaf_of None None text h k w = named-word text w

-- ---- expressions
part-name : (f : List ℕ → List Piece) (text : List ℕ) → e.part_of f (Name text) ≡ record { strength = 4; pieces = f text }
unfolding e.part_of
part-name f text =
    ap (fold-ExprText Part (e.part_step f)) (sym (rolls-Name text)) ∙ fold-roll-ExprText Part (e.part_step f) (open_expr.Name text)

part-const : (f : List ℕ → List Piece) (c : ℤ) → e.part_of f (Const c) ≡ record { strength = 3; pieces = e.number c }
unfolding e.part_of
part-const f c =
    ap (fold-ExprText Part (e.part_step f)) (sym (rolls-Const c)) ∙ fold-roll-ExprText Part (e.part_step f) (open_expr.Const c)

part-neg : (f : List ℕ → List Piece) (a : ExprText) → e.part_of f (Neg a) ≡ record { strength = 3; pieces = sign Minus ++ e.side 4 (e.part_of f a) }
unfolding e.part_of
part-neg f a =
    ap (fold-ExprText Part (e.part_step f)) (sym (rolls-Neg a)) ∙ fold-roll-ExprText Part (e.part_step f) (open_expr.Neg a)

part-add : (f : List ℕ → List Piece) (a b : ExprText) → e.part_of f (Add a b) ≡ e.sum (sign Plus) (e.part_of f a) (e.part_of f b)
unfolding e.part_of
part-add f a b =
    ap (fold-ExprText Part (e.part_step f)) (sym (rolls-Add a b)) ∙ fold-roll-ExprText Part (e.part_step f) (open_expr.Add a b)

part-sub : (f : List ℕ → List Piece) (a b : ExprText) → e.part_of f (Sub a b) ≡ e.sum (sign Minus) (e.part_of f a) (e.part_of f b)
unfolding e.part_of
part-sub f a b =
    ap (fold-ExprText Part (e.part_step f)) (sym (rolls-Sub a b)) ∙ fold-roll-ExprText Part (e.part_step f) (open_expr.Sub a b)

part-mul : (f : List ℕ → List Piece) (a b : ExprText) → e.part_of f (Mul a b) ≡ e.product (sign Star) (e.part_of f a) (e.part_of f b)
unfolding e.part_of
part-mul f a b =
    ap (fold-ExprText Part (e.part_step f)) (sym (rolls-Mul a b)) ∙ fold-roll-ExprText Part (e.part_step f) (open_expr.Mul a b)

part-mod : (f : List ℕ → List Piece) (a b : ExprText) → e.part_of f (Mod a b) ≡ e.product (plain (codes "mod")) (e.part_of f a) (e.part_of f b)
unfolding e.part_of
part-mod f a b =
    ap (fold-ExprText Part (e.part_step f)) (sym (rolls-Mod a b)) ∙ fold-roll-ExprText Part (e.part_step f) (open_expr.Mod a b)

part-floor : (f : List ℕ → List Piece) (a b : ExprText) → e.part_of f (Floor a b) ≡ e.product (plain (codes "floordiv")) (e.part_of f a) (e.part_of f b)
unfolding e.part_of
part-floor f a b =
    ap (fold-ExprText Part (e.part_step f)) (sym (rolls-Floor a b)) ∙ fold-roll-ExprText Part (e.part_step f) (open_expr.Floor a b)

part-ceil : (f : List ℕ → List Piece) (a b : ExprText) → e.part_of f (Ceil a b) ≡ e.product (plain (codes "ceildiv")) (e.part_of f a) (e.part_of f b)
unfolding e.part_of
part-ceil f a b =
    ap (fold-ExprText Part (e.part_step f)) (sym (rolls-Ceil a b)) ∙ fold-roll-ExprText Part (e.part_step f) (open_expr.Ceil a b)

pub record Good (p : Part) : Type 0 where
  pub sound : Sound p.pieces
  pub opens : Opens p.pieces
  pub no_angle : nat_lt p.strength 4 ≡ false → NoAngle p.pieces

sound-side : (asked : ℕ) (p : Part) → Good p → Sound (e.side asked p)
unfolding e.side
sound-side asked p g =
    either Sound (nat_lt p.strength asked) (in_round p.pieces) p.pieces
    (λ b. sound-of_free (in_round p.pieces) (free-in_round p.pieces g.sound)) (λ b. g.sound)

opens-side : (asked : ℕ) (p : Part) → Good p → Opens (e.side asked p)
unfolding e.side
opens-side asked p g =
    either Opens (nat_lt p.strength asked) (in_round p.pieces) p.pieces
    (λ b. opens-shuts (in_round p.pieces) (shuts-in_round p.pieces)) (λ b. g.opens)

no_angle-side : (p : Part) → Good p → NoAngle (e.side 4 p)
unfolding e.side
no_angle-side p g =
    either NoAngle (nat_lt p.strength 4) (in_round p.pieces) p.pieces (λ b. no_angle-in_round p.pieces) g.no_angle

-- two sides and what stands between them
sound-between : (a word b : List Piece) → Sound a → Free (spaced word) → Sound b → Sound (a ++ spaced word ++ b)
sound-between a word b h w k =
    free-sound (a ++ spaced word) b (sound-free a (spaced word) h w (divides-spaced word)) k

opens-between : (a word b : List Piece) → Opens a → Opens b → Opens (a ++ spaced word ++ b)
opens-between a word b h k =
    opens-append (a ++ spaced word) b (opens-append a (spaced word) h (opens-shuts (spaced word) (shuts-spaced word))) k

good-sum : (word : List Piece) (a b : Part) → Free (spaced word) → Good a → Good b → Good (e.sum word a b)
good-sum word a b w g h = record {
  sound = sound-between (e.side 1 a) word (e.side 2 b) (sound-side 1 a g) w (sound-side 2 b h);
  opens = opens-between (e.side 1 a) word (e.side 2 b) (opens-side 1 a g) (opens-side 2 b h);
  no_angle = λ weak. absurd (false≢true (sym weak));
}

good-product : (word : List Piece) (a b : Part) → Free (spaced word) → Good a → Good b → Good (e.product word a b)
good-product word a b w g h = record {
  sound = sound-between (e.side 2 a) word (e.side 3 b) (sound-side 2 a g) w (sound-side 3 b h);
  opens = opens-between (e.side 2 a) word (e.side 3 b) (opens-side 2 a g) (opens-side 3 b h);
  no_angle = λ weak. absurd (false≢true (sym weak));
}

good-name : (ps : List Piece) → Named ps → Good (record { strength = 4; pieces = ps })
good-name ps n = record { sound = n.sound; opens = opens-shuts ps n.shuts; no_angle = λ strong. n.no_angle }

good-const : (z : ℤ) → IsShortInteger z → Good (record { strength = 3; pieces = e.number z })
good-const z h = record { sound = sound-integer z h; opens = opens-integer z h; no_angle = λ weak. absurd (false≢true (sym weak)) }

good-neg : (p : Part) → Good p → Good (record { strength = 3; pieces = sign Minus ++ e.side 4 p })
good-neg p g = record {
  sound = minus_sound (e.side 4 p) (sound-side 4 p g) (no_angle-side p g);
  opens = opens-shuts (sign Minus ++ e.side 4 p) (shuts-append (sign Minus) (e.side 4 p) shuts-minus);
  no_angle = λ weak. absurd (false≢true (sym weak));
}

free-mod : Free (spaced (plain (codes "mod")))
free-mod = free-spaced (plain (codes "mod")) (sound-word (codes "mod") mod_word)

free-floordiv : Free (spaced (plain (codes "floordiv")))
free-floordiv = free-spaced (plain (codes "floordiv")) (sound-word (codes "floordiv") floordiv_word)

free-ceildiv : Free (spaced (plain (codes "ceildiv")))
free-ceildiv = free-spaced (plain (codes "ceildiv")) (sound-word (codes "ceildiv") ceildiv_word)

-- with names that are spelled so
good-expr : (f : List ℕ → List Piece) → ((text : List ℕ) → IsWord kinds.Word text → Named (f text)) → (x : ExprText) → IsReadExpr x → Good (e.part_of f x)
good-expr f n _ (name text w) = subst Good (sym (part-name f text)) (good-name (f text) (n text w))
good-expr f n _ (number z h) = subst Good (sym (part-const f z)) (good-const z h)
good-expr f n _ (negation a h) = subst Good (sym (part-neg f a)) (good-neg (e.part_of f a) (good-expr f n a h))
good-expr f n _ (sum a b h k) =
    subst Good (sym (part-add f a b)) (good-sum (sign Plus) (e.part_of f a) (e.part_of f b) (free-spaced_sign (sign Plus) free-plus) (good-expr f n a h) (good-expr f n b k))
good-expr f n _ (difference a b h k) =
    subst Good (sym (part-sub f a b)) (good-sum (sign Minus) (e.part_of f a) (e.part_of f b) free-spaced_minus (good-expr f n a h) (good-expr f n b k))
good-expr f n _ (product a b h k) =
    subst Good (sym (part-mul f a b)) (good-product (sign Star) (e.part_of f a) (e.part_of f b) (free-spaced_sign (sign Star) free-star) (good-expr f n a h) (good-expr f n b k))
good-expr f n _ (remainder a b h k) =
    subst Good (sym (part-mod f a b)) (good-product (plain (codes "mod")) (e.part_of f a) (e.part_of f b) free-mod (good-expr f n a h) (good-expr f n b k))
good-expr f n _ (floored a b h k) =
    subst Good (sym (part-floor f a b)) (good-product (plain (codes "floordiv")) (e.part_of f a) (e.part_of f b) free-floordiv (good-expr f n a h) (good-expr f n b k))
good-expr f n _ (ceiled a b h k) =
    subst Good (sym (part-ceil f a b)) (good-product (plain (codes "ceildiv")) (e.part_of f a) (e.part_of f b) free-ceildiv (good-expr f n a h) (good-expr f n b k))

sound-own : (x : ExprText) → IsReadExpr x → Sound (e.expression plain x)
sound-own x h = (good-expr plain named-word x h).sound

-- ---- maps and sets
sound-square : (several : List (List Piece)) → AllOf Sound several → AllOf Opens several → Sound (e.square_if_any several)
unfolding e.square_if_any
sound-square [] h k = sound-none
sound-square (first ∷ others) h k =
    sound-in_square (commas (first ∷ others)) (sound-commas (first ∷ others) h) (opens-commas (first ∷ others) k)

opens-plain : (text : List ℕ) → IsWord kinds.Word text → Opens (plain text)
opens-plain text w = opens-shuts (plain text) (shuts-word text w)

sound-parameters : (dims syms : List (List ℕ)) → All (IsWord kinds.Word) dims → All (IsWord kinds.Word) syms → Sound (e.parameters dims syms)
unfolding e.parameters
sound-parameters dims syms h k =
    free-sound (in_round (commas (map plain dims))) (e.square_if_any (map plain syms))
    (free-in_round (commas (map plain dims)) (sound-commas (map plain dims) (all_mapped (IsWord kinds.Word) Sound plain sound-word dims h)))
    (sound-square (map plain syms) (all_mapped (IsWord kinds.Word) Sound plain sound-word syms k)
    (all_mapped (IsWord kinds.Word) Opens plain opens-plain syms k))

-- a word, `<`, parameters, a sign, a list in brackets, `>`
sound-form : (text : List ℕ) (dims syms : List (List ℕ)) (mark : List Piece) (several : List (List Piece)) → IsWord kinds.Word text
    → All (IsWord kinds.Word) dims → All (IsWord kinds.Word) syms → Free mark → AllOf Sound several
    → Sound (plain text ++ sign OpenAngle ++ e.parameters dims syms ++ spaced mark ++ in_round (commas several) ++ sign CloseAngle)
sound-form text dims syms mark several w h k m s =
    let head : List Piece = plain text ++ sign OpenAngle in
    free-sound (head ++ e.parameters dims syms ++ spaced mark ++ in_round (commas several)) (sign CloseAngle)
    (free-append (head ++ e.parameters dims syms ++ spaced mark) (in_round (commas several))
    (sound-free (head ++ e.parameters dims syms) (spaced mark)
    (free-sound head (e.parameters dims syms)
    (sound-free (plain text) (sign OpenAngle) (sound-word text w) free-open_angle divides-open_angle)
    (sound-parameters dims syms h k))
    (free-spaced_sign mark m) (divides-spaced mark))
    (free-in_round (commas several) (sound-commas several s)))
    sound-close_angle

pub sound-map : (m : MapText) → IsReadMap m → Sound (e.map_pieces m)
unfolding e.map_pieces
sound-map m h =
    sound-form (codes "affine_map") m.dims m.syms (sign Arrow) (map (e.expression plain) m.results) map_word h.dims h.syms free-arrow
    (all_mapped IsReadExpr Sound (e.expression plain) sound-own m.results h.results)

sound-comparison : (equal : Bool) → Sound (e.comparison equal)
sound-comparison true =
    free-sound (spaced (sign EqualEqual)) (token kinds.Number (codes "0")) (free-spaced_sign (sign EqualEqual) free-equal_equal) (sound-number (codes "0") zero_word)
sound-comparison false =
    free-sound (spaced (sign AtLeast)) (token kinds.Number (codes "0")) (free-spaced_sign (sign AtLeast) free-at_least) (sound-number (codes "0") zero_word)

divides-comparison : (equal : Bool) → Divides (e.comparison equal)
divides-comparison true = divides-append (spaced (sign EqualEqual)) (token kinds.Number (codes "0")) (divides-spaced (sign EqualEqual))
divides-comparison false = divides-append (spaced (sign AtLeast)) (token kinds.Number (codes "0")) (divides-spaced (sign AtLeast))

sound-row : (r : RowText) → IsReadRow r → Sound (e.row_pieces r)
unfolding e.row_pieces
sound-row r h =
    sound-divides (e.expression plain r.left) (e.comparison r.equal) (sound-own r.left h) (sound-comparison r.equal) (divides-comparison r.equal)

pub sound-set : (s : SetText) → IsReadSet s → Sound (e.set_pieces s)
unfolding e.set_pieces
sound-set s h =
    sound-form (codes "affine_set") s.dims s.syms (sign Colon) (map e.row_pieces s.rows) set_word h.dims h.syms free-colon_alone
    (all_mapped IsReadRow Sound e.row_pieces sound-row s.rows h.rows)

-- ---- maps with their operands
-- so many operands of dimensions and those of symbols, behind pieces
sound-applied_to : (first : List Piece) (dims : ℕ) (operands : List (List ℕ)) → Sound first → All IsValue operands
    → Sound (first ++ in_round (commas (map e.value (take dims operands))) ++ e.square_if_any (map e.value (drop dims operands)))
sound-applied_to first dims operands h v =
    let ds : List (List ℕ) = take dims operands in
    let ss : List (List ℕ) = drop dims operands in
    let of_ds = All-take IsValue dims operands v in
    let of_ss = All-drop IsValue dims operands v in
    free-sound (first ++ in_round (commas (map e.value ds))) (e.square_if_any (map e.value ss))
    (sound-free first (in_round (commas (map e.value ds))) h
    (free-in_round (commas (map e.value ds)) (sound-commas (map e.value ds) (all_mapped IsValue Sound e.value sound-value ds of_ds)))
    (divides-in_round (commas (map e.value ds))))
    (sound-square (map e.value ss) (all_mapped IsValue Sound e.value sound-value ss of_ss) (all_mapped IsValue Opens e.value opens-value ss of_ss))

pub sound-map_use : (m : MapText) (operands : List (List ℕ)) → IsReadMap m → All IsValue operands → Sound (e.map_use m operands)
unfolding e.map_use
sound-map_use m operands h v = sound-applied_to (e.map_pieces m) (length m.dims) operands (sound-map m h) v

pub sound-set_use : (s : SetText) (operands : List (List ℕ)) → IsReadSet s → All IsValue operands → Sound (e.set_use s operands)
unfolding e.set_use
sound-set_use s operands h v = sound-applied_to (e.set_pieces s) (length s.dims) operands (sound-set s h) v

pub sound-subscripts : (m : MapText) (operands : List (List ℕ)) → IsReadMap m → All IsValue operands → Sound (e.subscripts m operands)
unfolding e.subscripts
sound-subscripts m operands h v =
    let ds : List (List ℕ) = e.dim_values m operands in
    let ss : List (List ℕ) = e.sym_values m operands in
    let spell : List ℕ → List Piece = e.leaf m.dims ds m.syms ss in
    let named = λ (text : List ℕ) (w : IsWord kinds.Word text).
    named-leaf_of (e.placed m.dims ds text) (e.placed m.syms ss text) text
    (placed-values m.dims ds text (All-take IsValue (length m.dims) operands v))
    (placed-values m.syms ss text (All-drop IsValue (length m.dims) operands v)) w in
    sound-in_square (commas (map (e.expression spell) m.results))
    (sound-commas (map (e.expression spell) m.results)
    (all_mapped IsReadExpr Sound (e.expression spell) (λ x r. (good-expr spell named x r).sound) m.results h.results))
    (opens-commas (map (e.expression spell) m.results)
    (all_mapped IsReadExpr Opens (e.expression spell) (λ x r. (good-expr spell named x r).opens) m.results h.results))

-- ---- bounds
-- a constant at the top has at most 38 digits
abbrev HasShort : ExprText-F ExprText → Type 0
HasShort (open_expr.Const c) = IsShortInteger c
HasShort other = Unit {0}

short-top : (x : ExprText) → IsReadExpr x → HasShort (out-ExprText x)
short-top _ (name text w) = subst HasShort (sym (ap out-ExprText (sym (rolls-Name text)) ∙ out-roll-ExprText (open_expr.Name text))) tt
short-top _ (number z h) = subst HasShort (sym (ap out-ExprText (sym (rolls-Const z)) ∙ out-roll-ExprText (open_expr.Const z))) h
short-top _ (negation a h) = subst HasShort (sym (ap out-ExprText (sym (rolls-Neg a)) ∙ out-roll-ExprText (open_expr.Neg a))) tt
short-top _ (sum a b h k) = subst HasShort (sym (ap out-ExprText (sym (rolls-Add a b)) ∙ out-roll-ExprText (open_expr.Add a b))) tt
short-top _ (difference a b h k) = subst HasShort (sym (ap out-ExprText (sym (rolls-Sub a b)) ∙ out-roll-ExprText (open_expr.Sub a b))) tt
short-top _ (product a b h k) = subst HasShort (sym (ap out-ExprText (sym (rolls-Mul a b)) ∙ out-roll-ExprText (open_expr.Mul a b))) tt
short-top _ (remainder a b h k) = subst HasShort (sym (ap out-ExprText (sym (rolls-Mod a b)) ∙ out-roll-ExprText (open_expr.Mod a b))) tt
short-top _ (floored a b h k) = subst HasShort (sym (ap out-ExprText (sym (rolls-Floor a b)) ∙ out-roll-ExprText (open_expr.Floor a b))) tt
short-top _ (ceiled a b h k) = subst HasShort (sym (ap out-ExprText (sym (rolls-Ceil a b)) ∙ out-roll-ExprText (open_expr.Ceil a b))) tt

pub sound-first : (operands : List (List ℕ)) → All IsValue operands → Sound (e.first_value operands)
unfolding e.first_value
sound-first [] v = sound-none
sound-first (o ∷ operands) v = sound-value o (All-head IsValue o operands v)

module _ (m : MapText) (operands : List (List ℕ)) (h : IsReadMap m) (v : All IsValue operands) where
  sound-constant_bound : (c : ℤ) → IsShortInteger c → Sound (e.constant_bound m operands c)
  unfolding e.constant_bound
  sound-constant_bound c s =
      either Sound (nat_eq (length operands) 0) (e.number c) (e.map_use m operands)
      (λ b. sound-integer c s) (λ b. sound-map_use m operands h v)

  sound-named_bound : (text : List ℕ) → Sound (e.named_bound m operands text)
  unfolding e.named_bound
  sound-named_bound text =
      either Sound (e.lone_symbol m.dims m.syms text) (e.first_value operands) (e.map_use m operands)
      (λ b. sound-first operands v) (λ b. sound-map_use m operands h v)

  sound-single_of : (x : ExprText-F ExprText) → HasShort x → Sound (e.single_bound_of m operands x)
  sound-single_of (open_expr.Const c) s = sound-constant_bound c s
  sound-single_of (open_expr.Name text) s = sound-named_bound text
  sound-single_of (open_expr.Neg a) s = sound-map_use m operands h v
  sound-single_of (open_expr.Add a b) s = sound-map_use m operands h v
  sound-single_of (open_expr.Sub a b) s = sound-map_use m operands h v
  sound-single_of (open_expr.Mul a b) s = sound-map_use m operands h v
  sound-single_of (open_expr.Mod a b) s = sound-map_use m operands h v
  sound-single_of (open_expr.Floor a b) s = sound-map_use m operands h v
  sound-single_of (open_expr.Ceil a b) s = sound-map_use m operands h v

  sound-single : (x : ExprText) → IsReadExpr x → Sound (e.single_bound m operands x)
  unfolding e.single_bound
  sound-single x r = sound-single_of (out-ExprText x) (short-top x r)

  sound-several : (lower : Bool) → Sound (e.several_bound lower m operands)
  unfolding e.several_bound
  sound-several true =
      free-sound (plain (codes "max") ++ space) (e.map_use m operands)
      (sound-free (plain (codes "max")) space (sound-word (codes "max") max_word) free-space divides-space) (sound-map_use m operands h v)
  sound-several false =
      free-sound (plain (codes "min") ++ space) (e.map_use m operands)
      (sound-free (plain (codes "min")) space (sound-word (codes "min") min_word) free-space divides-space) (sound-map_use m operands h v)

  sound-bound_by : (lower : Bool) (results : List ExprText) → All IsReadExpr results → Sound (e.bound_by lower m operands results)
  unfolding e.bound_by
  sound-bound_by lower [] r = sound-several lower
  sound-bound_by lower (only ∷ []) r = sound-single only (All-head IsReadExpr only [] r)
  sound-bound_by lower (first ∷ second ∷ others) r = sound-several lower

pub maps-law : MapsLaw
maps-law = sound-map

pub sets-law : SetsLaw
sets-law = sound-set

pub map-uses-law : MapUsesLaw
map-uses-law m operands h v rest a = (
  sound-map_use m operands h v rest a,
  sound-subscripts m operands h v rest a,
  λ lower. sound-bound_by m operands h v lower m.results h.results rest a,
)
