-- Pieces by their brackets: how many they open, and how deep they stand.
use Rattle.std.proofs.Common.{◌≡◌, ℕ, ◌+◌, ◌-◌, ◌≤◌, cond, List, [], ◌∷◌, ◌++◌, map, refl, ◌∙◌, ap, subst, sym, arith}
use Rattle.std.specs.Prelude.{nat_eq}
use Rattle.std.specs.List.{list_all}
use Rattle.std.specs.Char.{is_ascii_digit}
use Rattle.av_lex.specs.declared.token.Kind.{Kind}
use Rattle.av_lex.specs.declared.token.Kind.TheVariants as kinds
use Rattle.av_lex.specs.declared.token.Sign.{Sign}
use Rattle.av_lex.specs.declared.token.Sign.TheVariants.{OpenRound, CloseRound, OpenSquare, CloseSquare, Comma, Colon}
use Rattle.av_lex.specs.Spellings.{sign_text}
use Rattle.av_tree.specs.declared.class.Class.{Class}
use Rattle.av_tree.specs.declared.class.Class.TheVariants as class
use Rattle.av_tree.specs.declared.class.Bracket.{Bracket}
use Rattle.av_tree.specs.declared.class.Bracket.TheVariants as bracket
use Rattle.av_tree.specs.Classes.{bracket_of}
use Rattle.av_derive.specs.ClassOf.{class_of, class_of_hash, keyword_of, spells_word}
use Rattle.av_derive.proofs.Keywords.{by-keyword}
use Rattle.av_derive.specs.Derivation.{opened, WithinBrackets}
use Rattle.av_printer.specs.Pieces.{Piece, blank, line, word, space, new_line, token, sign, plain, spaced, comma, colon, commas, behind, joined, in_round, in_square}
use Rattle.av_print_laws.specs.Spacing.{words_of}
use Rattle.av_print_laws.proofs.ExprParts.{either}

-- ---- depths
abbrev turn : Kind → List ℕ → ℕ → ℕ
turn kind text d = opened (bracket_of (class_of kind text)) d

unfoldable pub depth_after : List Piece → ℕ → ℕ
depth_after [] d = d
depth_after (blank ∷ ps) d = depth_after ps d
depth_after (line n ∷ ps) d = depth_after ps d
depth_after (word kind text ∷ ps) d = depth_after ps (turn kind text d)

unfoldable pub Keeps : List Piece → ℕ → Type 0
Keeps [] d = Unit {0}
Keeps (blank ∷ ps) d = Keeps ps d
Keeps (line n ∷ ps) d = Keeps ps d
Keeps (word kind text ∷ ps) d = (turn kind text d ≤ 192) × Keeps ps (turn kind text d)

abbrev pub classes_in : List Piece → List Class
classes_in ps = map (λ (w : Kind × List ℕ). class_of w.0 w.1) (words_of ps)

pub within : (ps : List Piece) (d : ℕ) → Keeps ps d → WithinBrackets 192 d (classes_in ps)
unfolding Keeps words_of
within [] d h = tt
within (blank ∷ ps) d h = within ps d h
within (line n ∷ ps) d h = within ps d h
within (word kind text ∷ ps) d h = (h.0, within ps (turn kind text d) h.1)

keeps-append : (ps qs : List Piece) (d : ℕ) → Keeps ps d → Keeps qs (depth_after ps d) → Keeps (ps ++ qs) d
unfolding Keeps depth_after
keeps-append [] qs d h k = k
keeps-append (blank ∷ ps) qs d h k = keeps-append ps qs d h k
keeps-append (line n ∷ ps) qs d h k = keeps-append ps qs d h k
keeps-append (word kind text ∷ ps) qs d h k = (h.0, keeps-append ps qs (turn kind text d) h.1 k)

after-append : (ps qs : List Piece) (d : ℕ) → depth_after (ps ++ qs) d ≡ depth_after qs (depth_after ps d)
unfolding depth_after
after-append [] qs d = refl
after-append (blank ∷ ps) qs d = after-append ps qs d
after-append (line n ∷ ps) qs d = after-append ps qs d
after-append (word kind text ∷ ps) qs d = after-append ps qs (turn kind text d)

-- pieces open u brackets more than they close, and at most k at once
pub record Moves (k u : ℕ) (ps : List Piece) : Type 0 where
  pub keeps : (d : ℕ) → d + k ≤ 192 → Keeps ps d
  pub ends : (d : ℕ) → depth_after ps d ≡ d + u

pub whole_within : (k : ℕ) (ps : List Piece) → k ≤ 192 → Moves k 0 ps → WithinBrackets 192 0 (classes_in ps)
whole_within k ps h m = within ps 0 (m.keeps 0 (omega arith))

-- ---- parts
with_of : (k u j : ℕ) (ps qs : List Piece) → Moves k u ps → Moves j 0 qs → u + j ≤ k → Moves k u (ps ++ qs)
with_of k u j ps qs a b h = record {
  keeps = λ d below. keeps-append ps qs d (a.keeps d below) (subst (Keeps qs) (sym (a.ends d)) (b.keeps (d + u) (room d below)));
  ends = λ d. omega (arith, after-append ps qs d, ap (depth_after qs) (a.ends d), b.ends (d + u));
}
  where
    room : (d : ℕ) → d + k ≤ 192 → (d + u) + j ≤ 192
    room d below = omega arith

pub with : {k u j : ℕ} {ps qs : List Piece} → Moves k u ps → Moves j 0 qs → u + j ≤ k → Moves k u (ps ++ qs)
with {k} {u} {j} {ps} {qs} a b h = with_of k u j ps qs a b h

pub widen : {j u : ℕ} {ps : List Piece} (k : ℕ) → Moves j u ps → j ≤ k → Moves k u ps
widen k m h = record { keeps = λ d below. m.keeps d (omega arith); ends = m.ends }

pub nothing : (k : ℕ) → Moves k 0 []
unfolding Keeps depth_after
nothing k = record { keeps = λ d below. tt; ends = λ d. omega arith }

turned : (b c : Bracket) (d e : ℕ) → b ≡ c → opened c d ≡ e → opened b d ≡ e
turned b c d e same h = ap (λ (x : Bracket). opened x d) same ∙ h

one_of : (kind : Kind) (text : List ℕ) (d e : ℕ) → turn kind text d ≡ e → e ≤ 192 → Keeps (word kind text ∷ []) d
unfolding Keeps
one_of kind text d e h k = (omega arith, tt)

pub one : (k : ℕ) (kind : Kind) (text : List ℕ) → bracket_of (class_of kind text) ≡ bracket.None → Moves k 0 (token kind text)
unfolding token depth_after
one k kind text flat = record {
  keeps = λ d below. one_of kind text d d (turned (bracket_of (class_of kind text)) bracket.None d d flat refl) (omega arith);
  ends = λ d. turned (bracket_of (class_of kind text)) bracket.None d (d + 0) flat (omega arith);
}

pub open_one : (k : ℕ) (s : Sign) → bracket_of (class.Sign s) ≡ bracket.Opens → 1 ≤ k → Moves k 1 (sign s)
unfolding sign depth_after
open_one k s opens h = record {
  keeps = λ d below. one_of (kinds.Sign s) (sign_text s) d (d + 1) (turned (bracket_of (class.Sign s)) bracket.Opens d (d + 1) opens refl) (omega arith);
  ends = λ d. turned (bracket_of (class.Sign s)) bracket.Opens d (d + 1) opens refl;
}

opening_of : (k u : ℕ) (ps : List Piece) (s : Sign) → Moves k u ps → bracket_of (class.Sign s) ≡ bracket.Opens → u + 1 ≤ k → Moves k (u + 1) (ps ++ sign s)
opening_of k u ps s a opens h =
    let m : Moves 1 1 (sign s) = open_one 1 s opens (omega arith) in
    record {
      keeps = λ d below. keeps-append ps (sign s) d (a.keeps d below) (subst (Keeps (sign s)) (sym (a.ends d)) (m.keeps (d + u) (omega arith)));
      ends = λ d. omega (arith, after-append ps (sign s) d, ap (depth_after (sign s)) (a.ends d), m.ends (d + u));
    }

pub opening : {k u : ℕ} {ps : List Piece} (s : Sign) → Moves k u ps → bracket_of (class.Sign s) ≡ bracket.Opens → u + 1 ≤ k → Moves k (u + 1) (ps ++ sign s)
opening {k} {u} {ps} s a opens h = opening_of k u ps s a opens h

shut_keeps : (s : Sign) (d : ℕ) → bracket_of (class.Sign s) ≡ bracket.Closes → d ≤ 192 → Keeps (sign s) d
unfolding sign
shut_keeps s d closes h =
    one_of (kinds.Sign s) (sign_text s) d (d - 1) (turned (bracket_of (class.Sign s)) bracket.Closes d (d - 1) closes refl) (omega arith)

shut_ends : (s : Sign) (d : ℕ) → bracket_of (class.Sign s) ≡ bracket.Closes → depth_after (sign s) d ≡ d - 1
unfolding sign depth_after
shut_ends s d closes = turned (bracket_of (class.Sign s)) bracket.Closes d (d - 1) closes refl

closing_of : (k v : ℕ) (ps : List Piece) (s : Sign) → Moves k v ps → bracket_of (class.Sign s) ≡ bracket.Closes → 1 ≤ v → v ≤ k
    → Moves k (v - 1) (ps ++ sign s)
closing_of k v ps s a closes h low = record {
  keeps = λ d below. keeps-append ps (sign s) d (a.keeps d below) (subst (Keeps (sign s)) (sym (a.ends d)) (shut_keeps s (d + v) closes (omega arith)));
  ends = λ d. omega (arith, after-append ps (sign s) d, ap (depth_after (sign s)) (a.ends d), shut_ends s (d + v) closes);
}

pub closing : {k v : ℕ} {ps : List Piece} (s : Sign) → Moves k v ps → bracket_of (class.Sign s) ≡ bracket.Closes → 1 ≤ v → v ≤ k
    → Moves k (v - 1) (ps ++ sign s)
closing {k} {v} {ps} s a closes h low = closing_of k v ps s a closes h low

pair_of : (j : ℕ) (ps : List Piece) (first last : Sign) → bracket_of (class.Sign first) ≡ bracket.Opens → bracket_of (class.Sign last) ≡ bracket.Closes
    → Moves j 0 ps → Moves (j + 1) 0 (sign first ++ ps ++ sign last)
pair_of j ps first last opens closes m =
    closing_of (j + 1) 1 (sign first ++ ps) last (with_of (j + 1) 1 j (sign first) ps (open_one (j + 1) first opens (omega arith)) m (omega arith))
    closes (omega arith) (omega arith)

pub round : {j : ℕ} {ps : List Piece} → Moves j 0 ps → Moves (j + 1) 0 (in_round ps)
round {j} {ps} m = pair_of j ps OpenRound CloseRound refl refl m

pub square : {j : ℕ} {ps : List Piece} → Moves j 0 ps → Moves (j + 1) 0 (in_square ps)
square {j} {ps} m = pair_of j ps OpenSquare CloseSquare refl refl m

-- ---- words without a bracket
pub plain_moves : (k : ℕ) (text : List ℕ) → Moves k 0 (plain text)
plain_moves k text = one k kinds.Word text (by-keyword (λ c. bracket_of c ≡ bracket.None) (λ keyword. refl) refl refl (keyword_of text) text)

pub digits_moves : (k : ℕ) (text : List ℕ) → Moves k 0 (token kinds.Number text)
digits_moves k text =
    one k kinds.Number text
    (either (λ (c : Class). bracket_of c ≡ bracket.None) (list_all (λ digit. nat_eq digit 48) text) class.Zero class.Positive (λ b. refl) (λ b. refl))

hash-none : (text : List ℕ) → bracket_of (class_of_hash text) ≡ bracket.None
hash-none [] = refl
hash-none (mark ∷ name) =
    either (λ (c : Class). bracket_of c ≡ bracket.None) (list_all is_ascii_digit name) class.HashDigits (cond (spells_word name) class.HashWord class.HashOther)
    (λ b. refl)
    (λ b. either (λ (c : Class). bracket_of c ≡ bracket.None) (spells_word name) class.HashWord class.HashOther (λ b. refl) (λ b. refl))

pub hash_moves : (k : ℕ) (text : List ℕ) → Moves k 0 (token kinds.HashId text)
hash_moves k text = one k kinds.HashId text (hash-none text)

pub sign_moves : (k : ℕ) (s : Sign) → bracket_of (class.Sign s) ≡ bracket.None → Moves k 0 (sign s)
unfolding sign depth_after
sign_moves k s flat = record {
  keeps = λ d below. one_of (kinds.Sign s) (sign_text s) d d (turned (bracket_of (class.Sign s)) bracket.None d d flat refl) (omega arith);
  ends = λ d. turned (bracket_of (class.Sign s)) bracket.None d (d + 0) flat (omega arith);
}

pub space_moves : (k : ℕ) → Moves k 0 space
unfolding space Keeps depth_after
space_moves k = record { keeps = λ d below. tt; ends = λ d. omega arith }

pub new_line_moves : (k depth : ℕ) → Moves k 0 (new_line depth)
unfolding new_line Keeps depth_after
new_line_moves k depth = record { keeps = λ d below. tt; ends = λ d. omega arith }

-- ---- several
pub spaced_moves : {k : ℕ} {ps : List Piece} → Moves k 0 ps → Moves k 0 (spaced ps)
spaced_moves {k} {ps} m = with_of k 0 0 (space ++ ps) space (with_of k 0 k space ps (space_moves k) m (omega arith)) (space_moves 0) (omega arith)

pub comma_moves : (k : ℕ) → Moves k 0 comma
comma_moves k = with_of k 0 0 (sign Comma) space (sign_moves k Comma refl) (space_moves 0) (omega arith)

pub colon_moves : (k : ℕ) → Moves k 0 colon
colon_moves k = with_of k 0 0 (sign Colon) space (sign_moves k Colon refl) (space_moves 0) (omega arith)

abbrev pub Each : ℕ → List (List Piece) → Type 0
Each k [] = Unit {0}
Each k (ps ∷ others) = Moves k 0 ps × Each k others

behind_moves : (k : ℕ) (several : List (List Piece)) → Each k several → Moves k 0 (behind several)
unfolding behind
behind_moves k [] h = nothing k
behind_moves k (next ∷ others) h =
    with_of k 0 k (comma ++ next) (behind others) (with_of k 0 k comma next (comma_moves k) h.0 (omega arith)) (behind_moves k others h.1) (omega arith)

pub commas_moves : (k : ℕ) (several : List (List Piece)) → Each k several → Moves k 0 (commas several)
unfolding commas
commas_moves k [] h = nothing k
commas_moves k (first ∷ others) h = with_of k 0 k first (behind others) h.0 (behind_moves k others h.1) (omega arith)

pub joined_moves : (k : ℕ) (several : List (List Piece)) → Each k several → Moves k 0 (joined several)
unfolding joined
joined_moves k [] h = nothing k
joined_moves k (first ∷ others) h = with_of k 0 k first (joined others) h.0 (joined_moves k others h.1) (omega arith)

pub each_mapped : {A : Type 0} (k : ℕ) (f : A → List Piece) (xs : List A) → ((x : A) → Moves k 0 (f x)) → Each k (map f xs)
each_mapped k f [] h = tt
each_mapped k f (x ∷ xs) h = (h x, each_mapped k f xs h)

pub moves_as : {k : ℕ} {qs : List Piece} (ps : List Piece) → ps ≡ qs → Moves k 0 qs → Moves k 0 ps
moves_as {k} {qs} ps e m = subst (Moves k 0) (sym e) m
