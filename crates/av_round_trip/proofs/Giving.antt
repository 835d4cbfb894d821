-- Symbols give the words of pieces, and the values that the rows make of them: a calculus that follows the pieces.
use Rattle.std.proofs.Common.{◌≡◌, ℕ, List, [], ◌∷◌, ◌++◌, map, append-nil, append_assoc, refl, sym, ap}
use Rattle.std.specs.List.{All}
use Rattle.std.proofs.lemmas.List.{reverse-append}
use Rattle.std.proofs.lemmas.List.Elements.{All-head, All-tail}
use Rattle.std.specs.Prelude.{reverse, IsTrue, Some}
use Rattle.av_lex.specs.declared.token.Kind.{Kind}
use Rattle.av_lex.specs.declared.token.Kind.TheVariants as kinds
use Rattle.av_lex.specs.declared.token.Sign.{Sign}
use Rattle.av_lex.specs.declared.token.Sign.TheVariants as signs
use Rattle.av_tree.specs.declared.class.Class.TheVariants as class
use Rattle.av_tree.specs.declared.class.Keyword.{Keyword}
use Rattle.av_tree.specs.declared.table.Symbol.{Symbol}
use Rattle.av_tree.specs.declared.table.Symbol.TheVariants as symbol
use Rattle.av_tree.specs.declared.table.Test.{Test}
use Rattle.av_tree.specs.declared.table.Name.{Name}
use Rattle.av_tree.specs.declared.table.Rule.{Rule}
use Rattle.av_tree.specs.Classes.{fits_of}
use Rattle.av_tree.specs.Signs.{begins_expression}
use Rattle.av_tree.specs.Table.{symbols_of, name_of}
use Rattle.av_printer.specs.Pieces.{Piece, blank, line, word, space, new_line, token, sign, plain, spaced, comma, colon, commas, behind, in_round, in_square, in_curly}
use Rattle.av_reader.specs.Building as building
use Rattle.av_values.specs.declared.value.Value.{Value}
use Rattle.av_values.specs.declared.value.Value.TheVariants as value
use Rattle.av_print_laws.specs.Spacing.{words_of}
use Rattle.av_read_laws.specs.Making.{class_of_word, FewSigns, nothing, by_sign, by_word, by_token}
use Rattle.av_round_trip.proofs.Following.{followed, row, respelled, revalued}
use Rattle.av_round_trip.specs.Giving.{Gives}

pub words-append : (ps qs : List Piece) → words_of (ps ++ qs) ≡ words_of ps ++ words_of qs
unfolding words_of
words-append [] qs = refl
words-append (blank ∷ ps) qs = words-append ps qs
words-append (line depth ∷ ps) qs = words-append ps qs
words-append (word kind text ∷ ps) qs = ap (λ ws. (kind, text) ∷ ws) (words-append ps qs)

-- ---- one piece
module _ {most : ℕ} where
  pub none : Gives most [] [] []
  unfolding words_of
  none = record { makes = nothing }

  pub given_space : Gives most [] space []
  unfolding words_of space
  given_space = record { makes = nothing }

  pub given_line : (depth : ℕ) → Gives most [] (new_line depth) []
  unfolding words_of new_line
  given_line depth = record { makes = nothing }

  pub given_sign : (s : Sign) → Gives most (symbol.Sign s ∷ []) (sign s) []
  unfolding words_of sign
  given_sign s = record { makes = by_sign refl nothing }

  pub given_word : (k : Keyword) (text : List ℕ) → class_of_word (kinds.Word, text) ≡ class.Word k → Gives most (symbol.Word k ∷ []) (plain text) []
  unfolding words_of token
  given_word k text is = record { makes = by_word is nothing }

  pub given_token : (t : Test) (kind : Kind) (text : List ℕ) → IsTrue (fits_of t (class_of_word (kind, text)))
      → Gives most (symbol.Token t ∷ []) (token kind text) (value.Text text ∷ [])
  unfolding words_of token
  given_token t kind text fits = record { makes = by_token fits nothing }

-- ---- several
pub join : {most : ℕ} {ss others : List Symbol} {ps qs : List Piece} {vs under : List Value}
    → Gives most ss ps vs → Gives most others qs under → Gives most (ss ++ others) (ps ++ qs) (vs ++ under)
join {most} {ss} {others} {ps} {qs} {vs} {under} a b = record { makes = respelled (sym (words-append ps qs)) (followed a.makes b.makes) }

-- the same pieces, and the same values
pub given_as : {most : ℕ} {ss : List Symbol} {ps qs : List Piece} {vs : List Value} → ps ≡ qs → Gives most ss qs vs → Gives most ss ps vs
given_as is a = record { makes = respelled (sym (ap words_of is)) a.makes }

pub given_revalued : {most : ℕ} {ss : List Symbol} {ps : List Piece} {v w : Value} → v ≡ w → Gives most ss ps (v ∷ []) → Gives most ss ps (w ∷ [])
given_revalued is a = record { makes = revalued (ap (λ u. u ∷ []) is) a.makes }

pub ended : {most : ℕ} {ss : List Symbol} {ps : List Piece} {vs : List Value} → Gives most ss (ps ++ []) vs → Gives most ss ps vs
ended {most} {ss} {ps} a = given_as (sym (append-nil ps)) a

-- one row
pub given_row : {most : ℕ} {x : Name} {ps : List Piece} {v : Value} {parts : List Value} (r : Rule) → name_of r ≡ x
    → FewSigns (begins_expression r) most (words_of ps)
    → Gives most (symbols_of r) ps parts → building.by_row r 0 parts ≡ Some (v ∷ []) → Gives most (symbol.Rows x ∷ []) ps (v ∷ [])
given_row r is few inner made = record { makes = row r is few inner.makes made }

module _ {most : ℕ} where
  pub given_spaced : (s : Sign) → Gives most (symbol.Sign s ∷ []) (spaced (sign s)) []
  given_spaced s = join (join given_space (given_sign s)) given_space

  pub given_comma : Gives most (symbol.Sign signs.Comma ∷ []) comma []
  given_comma = join (given_sign signs.Comma) given_space

  pub given_colon : Gives most (symbol.Sign signs.Colon ∷ []) colon []
  given_colon = join (given_sign signs.Colon) given_space

  pub given_round : {ss : List Symbol} {ps : List Piece} {vs : List Value} → Gives most ss ps vs
      → Gives most (symbol.Sign signs.OpenRound ∷ (ss ++ symbol.Sign signs.CloseRound ∷ [])) (in_round ps) (vs ++ [])
  given_round inner = join (join (given_sign signs.OpenRound) inner) (given_sign signs.CloseRound)

  pub given_square : {ss : List Symbol} {ps : List Piece} {vs : List Value} → Gives most ss ps vs
      → Gives most (symbol.Sign signs.OpenSquare ∷ (ss ++ symbol.Sign signs.CloseSquare ∷ [])) (in_square ps) (vs ++ [])
  given_square inner = join (join (given_sign signs.OpenSquare) inner) (given_sign signs.CloseSquare)

  pub given_curly : {ss : List Symbol} {ps : List Piece} {vs : List Value} → Gives most ss ps vs
      → Gives most (symbol.Sign signs.OpenCurly ∷ (ss ++ symbol.Sign signs.CloseCurly ∷ [])) (in_curly ps) (vs ++ [])
  given_curly inner = join (join (given_sign signs.OpenCurly) inner) (given_sign signs.CloseCurly)

-- ---- lists from the last item to the first
pub reverse-first : {A : Type 0} (x : A) (xs : List A) → reverse xs ++ x ∷ [] ≡ reverse (x ∷ xs)
reverse-first x xs = sym (reverse-append (x ∷ []) xs)

-- each item gives its values
abbrev pub Every : {A : Type 0} → ℕ → List Symbol → (A → List Piece) → (A → List Value) → List A → Type 0
Every most items pieces values [] = Unit {0}
Every most items pieces values (x ∷ xs) = Gives most items (pieces x) (values x) × Every most items pieces values xs

pub every-all : {A : Type 0} {most : ℕ} {items : List Symbol} {pieces : A → List Piece} {values : A → List Value} {P : A → Type 0}
    → ((x : A) → P x → Gives most items (pieces x) (values x)) → (xs : List A) → All P xs → Every most items pieces values xs
every-all gives [] all = tt
every-all {P = P} gives (x ∷ xs) all = (gives x (All-head P x xs all), every-all gives xs (All-tail P x xs all))

-- the rows of items that each stand behind a comma
pub record MoreRows {A : Type 0} (most : ℕ) (items : List Symbol) (more : Name) (values : A → List Value) (list : List A → Value) : Type 0 where
  pub no_more : Gives most (symbol.Rows more ∷ []) [] (list [] ∷ [])
  pub next : {ps : List Piece} (x : A) (xs : List A) → Gives most (symbol.Sign signs.Comma ∷ (items ++ symbol.Rows more ∷ [])) ps (values x ++ list xs ∷ [])
      → Gives most (symbol.Rows more ∷ []) ps (list (xs ++ x ∷ []) ∷ [])

-- the rows of a list of items with commas between them
pub record ListRows {A : Type 0} (most : ℕ) (items : List Symbol) (front more : Name) (values : A → List Value) (list : List A → Value) : Type 0 where
  pub no_front : Gives most (symbol.Rows front ∷ []) [] (list [] ∷ [])
  pub no_more : Gives most (symbol.Rows more ∷ []) [] (list [] ∷ [])
  pub first : {ps : List Piece} (x : A) (xs : List A) → Gives most (items ++ symbol.Rows more ∷ []) ps (values x ++ list xs ∷ [])
      → Gives most (symbol.Rows front ∷ []) ps (list (xs ++ x ∷ []) ∷ [])
  pub next : {ps : List Piece} (x : A) (xs : List A) → Gives most (symbol.Sign signs.Comma ∷ (items ++ symbol.Rows more ∷ [])) ps (values x ++ list xs ∷ [])
      → Gives most (symbol.Rows more ∷ []) ps (list (xs ++ x ∷ []) ∷ [])

module _ {A : Type 0} {most : ℕ} {items : List Symbol} {more : Name} {values : A → List Value} {list : List A → Value}
    (rows : MoreRows most items more values list) (pieces : A → List Piece) where
  pub given_more : (xs : List A) → Every most items pieces values xs → Gives most (symbol.Rows more ∷ []) (behind (map pieces xs)) (list (reverse xs) ∷ [])
  unfolding behind
  given_more [] h = rows.no_more
  given_more (x ∷ xs) h =
      given_revalued (ap list (reverse-first x xs))
      (rows.next x (reverse xs) (given_as (append_assoc comma (pieces x) (behind (map pieces xs))) (join given_comma (join h.0 (given_more xs h.1)))))

module _ {A : Type 0} {most : ℕ} {items : List Symbol} {front more : Name} {values : A → List Value} {list : List A → Value}
    (rows : ListRows most items front more values list) (pieces : A → List Piece) where
  pub given_behind : (xs : List A) → Every most items pieces values xs → Gives most (symbol.Rows more ∷ []) (behind (map pieces xs)) (list (reverse xs) ∷ [])
  given_behind xs h = given_more (record { no_more = rows.no_more; next = rows.next }) pieces xs h

  pub given_commas : (xs : List A) → Every most items pieces values xs → Gives most (symbol.Rows front ∷ []) (commas (map pieces xs)) (list (reverse xs) ∷ [])
  unfolding commas
  given_commas [] h = rows.no_front
  given_commas (x ∷ xs) h = given_revalued (ap list (reverse-first x xs)) (rows.first x (reverse xs) (join h.0 (given_behind xs h.1)))

  -- the same from what each item is
  pub given_all : {P : A → Type 0} → ((x : A) → P x → Gives most items (pieces x) (values x)) → (xs : List A) → All P xs
      → Gives most (symbol.Rows front ∷ []) (commas (map pieces xs)) (list (reverse xs) ∷ [])
  given_all gives xs all = given_commas xs (every-all gives xs all)
