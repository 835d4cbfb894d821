-- The texts of the tokens of what pieces spell.
use Rattle.std.proofs.Common.{◌≡◌, ℕ, ◌+◌, ◌≤◌, List, [], ◌∷◌, ◌++◌, Bool, true, length, take, drop, map, refl, sym, ◌∙◌, ap, arith, length-drop}
use Rattle.std.specs.Prelude.{nat_le, if◌then◌else◌}
use Rattle.std.proofs.lemmas.Bool.Decides.{nat_tests}
use Rattle.std.proofs.lemmas.List.{append-nil, length-append, take_at}
use Rattle.av_lex.specs.declared.token.Kind.{Kind}
use Rattle.av_lex.specs.declared.token.Token.{Token}
use Rattle.av_derive.specs.ClassOf.{class_of, spelling_of}
use Rattle.av_printer.specs.Pieces.{Piece, blank, line, word, piece_text, spelt}
use Rattle.av_print_laws.specs.Spacing.{tokens_of, words_of}
use Rattle.av_print_laws.specs.WrittenLaws.{SpellingsLaw, ClassesLaw}
use Rattle.av_print_laws.proofs.Lexing.{behind_it, spelt-first}

ends_within : (b : List ℕ) (place : ℕ) (text rest : List ℕ) → place ≤ length b → drop place b ≡ text ++ rest → place + length text ≤ length b
ends_within b place text rest h e =
    let left : length (drop place b) ≡ length (text ++ rest) = ap length e in
    omega (arith, length-drop place b, length-append text rest)

is_within : (n m : ℕ) → n ≤ m → nat_le n m ≡ true
is_within n m h = grind (arith, nat_tests)

spelling-at : (b : List ℕ) (kind : Kind) (place : ℕ) (text rest : List ℕ) → place ≤ length b → drop place b ≡ text ++ rest
    → spelling_of b (record { kind = kind; place = place; length = length text }) ≡ text
spelling-at b kind place text rest h e =
    ap (λ (t : Bool). if t then take (length text) (drop place b) else [])
    (is_within (place + length text) (length b) (ends_within b place text rest h e))
    ∙ ap (take (length text)) e ∙ take_at text rest (length text) refl

-- what is said of each token by its kind and its text
pub texts-at : {A : Type 0} (f : Kind → List ℕ → A) (b : List ℕ) (place : ℕ) (ps : List Piece) (rest : List ℕ) → place ≤ length b
    → drop place b ≡ spelt ps ++ rest
    → map (λ (t : Token). f t.kind (spelling_of b t)) (tokens_of ps place) ≡ map (λ w. f w.0 w.1) (words_of ps)
unfolding tokens_of words_of
texts-at f b place [] rest h e = refl
texts-at f b place (blank ∷ ps) rest h e =
    let here = e ∙ spelt-first blank ps rest in
    texts-at f b (place + 1) ps rest (ends_within b place (32 ∷ []) (spelt ps ++ rest) h here)
    (behind_it b place (32 ∷ []) (spelt ps ++ rest) here)
texts-at f b place (line depth ∷ ps) rest h e =
    let here = e ∙ spelt-first (line depth) ps rest in
    texts-at f b (place + length (piece_text (line depth))) ps rest
    (ends_within b place (piece_text (line depth)) (spelt ps ++ rest) h here)
    (behind_it b place (piece_text (line depth)) (spelt ps ++ rest) here)
texts-at f b place (word kind text ∷ ps) rest h e =
    let here = e ∙ spelt-first (word kind text) ps rest in
    let first = ap (f kind) (spelling-at b kind place text (spelt ps ++ rest) h here) in
    let others = texts-at f b (place + length text) ps rest (ends_within b place text (spelt ps ++ rest) h here)
    (behind_it b place text (spelt ps ++ rest) here) in
    both _ _ _ _ first others
  where
    both : {A : Type 0} (x y : A) (xs ys : List A) → x ≡ y → xs ≡ ys → x ∷ xs ≡ y ∷ ys
    both x y xs ys e h = cc

whole_text : {A : Type 0} (f : Kind → List ℕ → A) (ps : List Piece)
    → map (λ (t : Token). f t.kind (spelling_of (spelt ps) t)) (tokens_of ps 0) ≡ map (λ w. f w.0 w.1) (words_of ps)
whole_text f ps = texts-at f (spelt ps) 0 ps [] (omega arith) (sym (append-nil (spelt ps)))

map-same : (ws : List (Kind × List ℕ)) → map (λ (w : Kind × List ℕ). (w.0, w.1)) ws ≡ ws
map-same [] = refl
map-same (w ∷ ws) = ap (λ vs. w ∷ vs) (map-same ws)

pub spellings-law : SpellingsLaw
spellings-law ps = whole_text {A = Kind × List ℕ} (λ kind text. (kind, text)) ps ∙ map-same (words_of ps)

pub classes-law : ClassesLaw
classes-law ps = whole_text class_of ps
