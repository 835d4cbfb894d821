-- The reading of what pieces spell, piece by piece.
use Rattle.std.proofs.Common.{◌≡◌, ℕ, zero, suc, ◌+◌, inl, inr, List, [], ◌∷◌, ◌++◌, length, drop, refl, sym, ◌∙◌, ap, subst, arith, append_assoc}
use Rattle.std.proofs.lemmas.List.{append-nil, length-append, drop-drop, drop_at}
use Rattle.av_lex.specs.declared.token.Token.{Token}
use Rattle.av_lex.specs.Spellings.{Longest, IsBlank, Separates}
use Rattle.av_lex.specs.Tokens.{Lexed, start, separator, token}
use Rattle.av_lex.proofs.OneReading.{one_list}
use Rattle.av_printer.specs.Pieces.{Piece, blank, line, word, piece_text, margin, spelt}
use Rattle.av_print_laws.specs.Spacing.{tokens_of, SpacedBefore}
use Rattle.av_print_laws.specs.WrittenLaws.{TokensLaw, NoOtherTokensLaw}
use Rattle.av_print_laws.proofs.Longest.{longest}

-- what stands behind a text that stands at a place
pub behind_it : (b : List ℕ) (place : ℕ) (text rest : List ℕ) → drop place b ≡ text ++ rest → drop (place + length text) b ≡ rest
behind_it b place text rest e = sym (drop-drop (length text) place b) ∙ ap (drop (length text)) e ∙ drop_at text rest (length text) refl

-- ---- gaps
data Blanks : List ℕ → Type 0 where
  none : Blanks []
  more : {byte : ℕ} {rest : List ℕ} → IsBlank byte → Blanks rest → Blanks (byte ∷ rest)

and_blanks : {a b : List ℕ} → Blanks a → Blanks b → Blanks (a ++ b)
and_blanks none h = h
and_blanks (more i g) h = more i (and_blanks g h)

margin_blanks : (depth : ℕ) → Blanks (margin depth)
unfolding margin
margin_blanks zero = none
margin_blanks (suc depth) = and_blanks (margin_blanks depth) (more (inl refl) (more (inl refl) none))

line_blanks : (depth : ℕ) → Blanks (piece_text (line depth))
line_blanks depth = more (inr (inr (inr refl))) (margin_blanks depth)

one_blank : (b : List ℕ) (place byte : ℕ) (rest : List ℕ) → IsBlank byte → drop place b ≡ byte ∷ rest → Separates (drop place b) 1
one_blank b place byte rest h e =
    subst (λ (r : List ℕ). Separates r 1) (sym e) (record { within = omega arith; is = inl (refl, h) })

gap : (b : List ℕ) (ts : List Token) (place : ℕ) {text : List ℕ} (rest : List ℕ) → Blanks text → drop place b ≡ text ++ rest
    → Lexed b ts place → Lexed b ts (place + length text)
gap b ts place rest none e l = subst (Lexed b ts) (omega arith) l
gap b ts place rest (more {byte = byte} {rest = text} h g) e l =
    let here : Lexed b ts (place + 1) = separator 1 l (one_blank b place byte (text ++ rest) h e) in
    let then : drop (place + 1) b ≡ text ++ rest = behind_it b place (byte ∷ []) (text ++ rest) e in
    subst (Lexed b ts) (omega arith) (gap b ts (place + 1) rest g then here)

-- ---- pieces
pub spelt-first : (p : Piece) (ps : List Piece) (rest : List ℕ) → spelt (p ∷ ps) ++ rest ≡ piece_text p ++ (spelt ps ++ rest)
unfolding spelt
spelt-first p ps rest = append_assoc (piece_text p) (spelt ps) rest

spelt-length : (p : Piece) (ps : List Piece) → length (spelt (p ∷ ps)) ≡ length (piece_text p) + length (spelt ps)
unfolding spelt
spelt-length p ps = length-append (piece_text p) (spelt ps)

moved : (b : List ℕ) (ts us : List Token) (place : ℕ) (p : Piece) (ps : List Piece) → ts ≡ us
    → Lexed b ts (place + length (piece_text p) + length (spelt ps)) → Lexed b us (place + length (spelt (p ∷ ps)))
moved b ts us place p ps e l =
    subst (λ (vs : List Token). Lexed b vs (place + length (spelt (p ∷ ps)))) e
    (subst (Lexed b ts) (omega (arith, spelt-length p ps)) l)

none_read : (b : List ℕ) (ts : List Token) (place : ℕ) → Lexed b ts place → Lexed b (ts ++ []) (place + length (spelt []))
unfolding spelt
none_read b ts place l = subst (λ (us : List Token). Lexed b us (place + 0)) (sym (append-nil ts)) (subst (Lexed b ts) (omega arith) l)

pub pieces_read : (b : List ℕ) (ts : List Token) (place : ℕ) (ps : List Piece) (rest : List ℕ) → drop place b ≡ spelt ps ++ rest
    → SpacedBefore ps rest → Lexed b ts place → Lexed b (ts ++ tokens_of ps place) (place + length (spelt ps))
unfolding SpacedBefore tokens_of
pieces_read b ts place [] rest e s l = none_read b ts place l
pieces_read b ts place (blank ∷ ps) rest e s l =
    let here = e ∙ spelt-first blank ps rest in
    moved b _ _ place blank ps refl
    (pieces_read b ts (place + 1) ps rest (behind_it b place (32 ∷ []) (spelt ps ++ rest) here) s
    (gap b ts place (spelt ps ++ rest) (more {byte = 32} (inl refl) none) here l))
pieces_read b ts place (line depth ∷ ps) rest e s l =
    let here = e ∙ spelt-first (line depth) ps rest in
    moved b _ _ place (line depth) ps refl
    (pieces_read b ts (place + length (piece_text (line depth))) ps rest (behind_it b place (piece_text (line depth)) (spelt ps ++ rest) here) s
    (gap b ts place (spelt ps ++ rest) (line_blanks depth) here l))
pieces_read b ts place (word kind text ∷ ps) rest e s l =
    let here = e ∙ spelt-first (word kind text) ps rest in
    let t : Token = record { kind = kind; place = place; length = length text } in
    moved b _ _ place (word kind text) ps (append_assoc ts (t ∷ []) (tokens_of ps (place + length text)))
    (pieces_read b (ts ++ t ∷ []) (place + length text) ps rest (behind_it b place text (spelt ps ++ rest) here) s.2
    (token kind (length text) l
    (subst (λ (r : List ℕ). Longest kind r (length text)) (sym here) (longest kind text (spelt ps ++ rest) s.0.spells.spelled s.1))
    s.0.short))

pub tokens-law : TokensLaw
tokens-law ps s =
    subst (Lexed (spelt ps) (tokens_of ps 0)) (omega arith)
    (pieces_read (spelt ps) [] 0 ps [] (sym (append-nil (spelt ps))) s start)

pub no-other-law : NoOtherTokensLaw
no-other-law ps s ts h = one_list (spelt ps) (tokens_of ps 0) ts (tokens-law ps s) h
