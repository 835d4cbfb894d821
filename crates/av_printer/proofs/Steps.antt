-- What pieces spell, part by part.
use Rattle.std.proofs.Common.{◌≡◌, ℕ, zero, suc, ◌+◌, ◌<◌, ◌≤◌, List, [], ◌∷◌, ◌++◌, length, get_or, take, map, refl, sym, ap, ◌∙◌, append_assoc, codes, arith}
use Rattle.std.proofs.lemmas.List.{append-nil, map-append, take_more, take_all, length-take-le, length-map}
use Rattle.av_lex.specs.declared.token.Kind.{Kind}
use Rattle.av_lex.specs.declared.token.Sign.{Sign}
use Rattle.av_lex.specs.declared.token.Sign.TheVariants.{Arrow, Colon, OpenAngle, CloseAngle}
use Rattle.av_lex.specs.declared.token.Kind.TheVariants.{Word}
use Rattle.av_lex.specs.Spellings.{sign_text}
use Rattle.av_printer.specs.Pieces.{Piece, piece_text, spelt, space, new_line, token, sign, margin, comma, comma_after, commas, behind, joined, spaced}

pub spelt-append : (ps qs : List Piece) → spelt (ps ++ qs) ≡ spelt ps ++ spelt qs
unfolding spelt
spelt-append [] qs = refl
spelt-append (p ∷ ps) qs =
    ap (λ t. piece_text p ++ t) (spelt-append ps qs) ∙ sym (append_assoc (piece_text p) (spelt ps) (spelt qs))

pub spelt-none : spelt [] ≡ []
unfolding spelt
spelt-none = refl

pub spelt-space : spelt space ≡ 32 ∷ []
unfolding spelt space
spelt-space = refl

pub spelt-sign : (s : Sign) → spelt (sign s) ≡ sign_text s
unfolding spelt sign
spelt-sign s = append-nil (sign_text s)

pub spelt-token : (kind : Kind) (text : List ℕ) → spelt (token kind text) ≡ text
unfolding spelt token
spelt-token kind text = append-nil text

pub spelt-new_line : (depth : ℕ) → spelt (new_line depth) ≡ 10 ∷ margin depth
unfolding spelt new_line
spelt-new_line depth = ap (λ t. 10 ∷ t) (append-nil (margin depth))

pub spelt-first : (n : ℕ) → n ≤ 0 → spelt (comma_after n) ≡ []
unfolding spelt comma_after
spelt-first zero h = refl
spelt-first (suc n) h = absurd (omega arith)

pub spelt-later : (n : ℕ) → 0 < n → spelt (comma_after n) ≡ 44 ∷ 32 ∷ []
unfolding spelt comma_after sign space
spelt-later zero h = absurd (omega arith)
spelt-later (suc n) h = refl

pub margin-none : margin 0 ≡ []
unfolding margin
margin-none = refl

suc_of : (n : ℕ) → n + 1 ≡ suc n
suc_of n = omega arith

pub margin-more : (n : ℕ) → margin (n + 1) ≡ margin n ++ 32 ∷ 32 ∷ []
unfolding margin
margin-more n = ap margin (suc_of n)

behind-push : (ps : List (List Piece)) (p : List Piece) → behind (ps ++ p ∷ []) ≡ behind ps ++ (comma ++ p)
unfolding behind
behind-push [] p = append-nil (comma ++ p)
behind-push (q ∷ qs) p = ap (λ t. comma ++ q ++ t) (behind-push qs p) ∙ sym (append_assoc (comma ++ q) (behind qs) (comma ++ p))

pub commas-push : (ps : List (List Piece)) (p : List Piece) → commas (ps ++ p ∷ []) ≡ commas ps ++ (comma_after (length ps) ++ p)
unfolding commas behind comma_after
commas-push [] p = append-nil p
commas-push (q ∷ qs) p = ap (λ t. q ++ t) (behind-push qs p) ∙ sym (append_assoc q (behind qs) (comma ++ p))

joined-push : (ps : List (List Piece)) (p : List Piece) → joined (ps ++ p ∷ []) ≡ joined ps ++ p
unfolding joined
joined-push [] p = append-nil p
joined-push (q ∷ qs) p = ap (λ t. q ++ t) (joined-push qs p) ∙ sym (append_assoc q (joined qs) p)

mapped-more : {A B : Type 0} (f : A → B) (xs : List A) (i : ℕ) (d x : A) → i < length xs → x ≡ get_or xs i d
    → map f (take (i + 1) xs) ≡ map f (take i xs) ++ f x ∷ []
mapped-more f xs i d x h e =
    ap (map f) (take_more xs i d h ∙ ap (λ y. take i xs ++ y ∷ []) (sym e)) ∙ map-append f (take i xs) (x ∷ [])

length-mapped : {A B : Type 0} (f : A → B) (xs : List A) (i : ℕ) → i < length xs → length (map f (take i xs)) ≡ i
length-mapped f xs i h = length-map (take i xs) f ∙ length-take-le i xs (omega arith)

-- one more of several
pub commas-more : {A : Type 0} (f : A → List Piece) (xs : List A) (i : ℕ) (d x : A) → i < length xs → x ≡ get_or xs i d
    → spelt (commas (map f (take (i + 1) xs))) ≡ spelt (commas (map f (take i xs))) ++ (spelt (comma_after i) ++ spelt (f x))
commas-more f xs i d x h e =
    ap (λ ps. spelt (commas ps)) (mapped-more f xs i d x h e)
    ∙ ap spelt (commas-push (map f (take i xs)) (f x))
    ∙ spelt-append (commas (map f (take i xs))) (comma_after (length (map f (take i xs))) ++ f x)
    ∙ ap (λ t. spelt (commas (map f (take i xs))) ++ t)
    (spelt-append (comma_after (length (map f (take i xs)))) (f x) ∙ ap (λ n. spelt (comma_after n) ++ spelt (f x)) (length-mapped f xs i h))

pub joined-more : {A : Type 0} (f : A → List Piece) (xs : List A) (i : ℕ) (d x : A) → i < length xs → x ≡ get_or xs i d
    → spelt (joined (map f (take (i + 1) xs))) ≡ spelt (joined (map f (take i xs))) ++ spelt (f x)
joined-more f xs i d x h e =
    ap (λ ps. spelt (joined ps)) (mapped-more f xs i d x h e)
    ∙ ap spelt (joined-push (map f (take i xs)) (f x))
    ∙ spelt-append (joined (map f (take i xs))) (f x)

-- a turn of a loop over several with commas, which began at w
pub commas-turn : {A : Type 0} (f : A → List Piece) (xs : List A) (i : ℕ) (d x : A) (w a b c : List ℕ) → i < length xs → x ≡ get_or xs i d
    → a ≡ w ++ spelt (commas (map f (take i xs))) → b ≡ a ++ spelt (comma_after i) → c ≡ b ++ spelt (f x)
    → c ≡ w ++ spelt (commas (map f (take (i + 1) xs)))
commas-turn f xs i d x w a b c h e ea eb ec =
    ec ∙ ap (λ t. t ++ spelt (f x)) (eb ∙ ap (λ t. t ++ spelt (comma_after i)) ea)
    ∙ append_assoc (w ++ spelt (commas (map f (take i xs)))) (spelt (comma_after i)) (spelt (f x))
    ∙ append_assoc w (spelt (commas (map f (take i xs)))) (spelt (comma_after i) ++ spelt (f x))
    ∙ sym (ap (λ t. w ++ t) (commas-more f xs i d x h e))

-- the same without commas
pub joined-turn : {A : Type 0} (f : A → List Piece) (xs : List A) (i : ℕ) (d x : A) (w a b : List ℕ) → i < length xs → x ≡ get_or xs i d
    → a ≡ w ++ spelt (joined (map f (take i xs))) → b ≡ a ++ spelt (f x)
    → b ≡ w ++ spelt (joined (map f (take (i + 1) xs)))
joined-turn f xs i d x w a b h e ea eb =
    eb ∙ ap (λ t. t ++ spelt (f x)) ea
    ∙ append_assoc w (spelt (joined (map f (take i xs)))) (spelt (f x))
    ∙ sym (ap (λ t. w ++ t) (joined-more f xs i d x h e))

-- none yet, and all
pub commas-begun : {A : Type 0} (f : A → List Piece) (xs : List A) (w : List ℕ) → w ≡ w ++ spelt (commas (map f (take 0 xs)))
unfolding spelt commas
commas-begun f xs w = sym (append-nil w)

pub joined-begun : {A : Type 0} (f : A → List Piece) (xs : List A) (w : List ℕ) → w ≡ w ++ spelt (joined (map f (take 0 xs)))
unfolding spelt joined
joined-begun f xs w = sym (append-nil w)

pub commas-done : {A : Type 0} (f : A → List Piece) (xs : List A) (i : ℕ) (w a : List ℕ) → length xs ≤ i
    → a ≡ w ++ spelt (commas (map f (take i xs))) → a ≡ w ++ spelt (commas (map f xs))
commas-done f xs i w a h e = e ∙ ap (λ ys. w ++ spelt (commas (map f ys))) (take_all i xs h)

pub joined-done : {A : Type 0} (f : A → List Piece) (xs : List A) (i : ℕ) (w a : List ℕ) → length xs ≤ i
    → a ≡ w ++ spelt (joined (map f (take i xs))) → a ≡ w ++ spelt (joined (map f xs))
joined-done f xs i w a h e = e ∙ ap (λ ys. w ++ spelt (joined (map f ys))) (take_all i xs h)

-- one step and then another
pub then : (w a b : List ℕ) (p q : List Piece) → a ≡ w ++ spelt p → b ≡ a ++ spelt q → b ≡ w ++ spelt (p ++ q)
then w a b p q ea eb =
    eb ∙ ap (λ t. t ++ spelt q) ea ∙ append_assoc w (spelt p) (spelt q) ∙ sym (ap (λ t. w ++ t) (spelt-append p q))

-- the same where the second spells a text
pub then_text : (w a b : List ℕ) (p q : List Piece) (text : List ℕ) → spelt q ≡ text → a ≡ w ++ spelt p → b ≡ a ++ text → b ≡ w ++ spelt (p ++ q)
then_text w a b p q text s ea eb = then w a b p q ea (eb ∙ ap (λ t. a ++ t) (sym s))

-- a first text
pub from_text : (w a : List ℕ) (p : List Piece) (text : List ℕ) → spelt p ≡ text → a ≡ w ++ text → a ≡ w ++ spelt p
from_text w a p text s e = e ∙ ap (λ t. w ++ t) (sym s)

-- two parts in angle brackets, with a text between them
pub in_angles : (w a b c d e : List ℕ) (opening p middle q : List Piece) (before between : List ℕ) → spelt opening ≡ before → spelt middle ≡ between
    → a ≡ w ++ before → b ≡ a ++ spelt p → c ≡ b ++ between → d ≡ c ++ spelt q → e ≡ d ++ codes ">"
    → e ≡ w ++ spelt (opening ++ p ++ middle ++ q ++ sign CloseAngle)
in_angles w a b c d e opening p middle q before between so sm ea eb ec ed ee =
    then_text w d e (opening ++ p ++ middle ++ q) (sign CloseAngle) (codes ">") (spelt-sign CloseAngle)
    (then w c d (opening ++ p ++ middle) q
    (then_text w b c (opening ++ p) middle between sm (then w a b opening p (from_text w a opening before so ea) eb) ec) ed) ee

pub spelt-arrow : spelt (spaced (sign Arrow)) ≡ codes " -> "
unfolding spelt sign space
spelt-arrow = refl

pub spelt-colon : spelt (spaced (sign Colon)) ≡ codes " : "
unfolding spelt sign space
spelt-colon = refl

pub spelt-opened : (text : List ℕ) → spelt (token Word text ++ sign OpenAngle) ≡ text ++ codes "<"
unfolding spelt token sign
spelt-opened text = refl

pub spelt-worded : (text : List ℕ) → spelt (token Word text ++ space) ≡ text ++ codes " "
unfolding spelt token space
spelt-worded text = refl

pub spelt-commas-none : spelt (commas []) ≡ []
unfolding spelt commas
spelt-commas-none = refl

pub spelt-joined-none : spelt (joined []) ≡ []
unfolding spelt joined
spelt-joined-none = refl

pub ruleset steps = (spelt-append, spelt-none, spelt-space, spelt-sign, spelt-token, spelt-new_line, append_assoc, append-nil, spelt-first, spelt-later, margin-none, margin-more, take_all, spelt-commas-none, spelt-joined-none)

-- signs between blanks
pub ruleset signs_between = (spelt-arrow, spelt-colon)
