-- The words of pieces, where those of others stand behind them.
use Rattle.std.proofs.Common.{◌≡◌, ℕ, List, [], ◌∷◌, ◌++◌, append_assoc, refl, ap, ◌∙◌}
use Rattle.std.specs.Prelude.{ℤ, pos, negsuc}
use Rattle.av_lex.specs.declared.token.Kind.{Kind}
use Rattle.av_lex.specs.declared.token.Kind.TheVariants as kinds
use Rattle.av_lex.specs.declared.token.Sign.{Sign}
use Rattle.av_printer.specs.Pieces.{Piece, blank, line, word, space, token, sign, new_line}
use Rattle.av_printer.specs.Expressions.{number, value, result_name}
use Rattle.av_print_laws.specs.Spacing.{words_of}
use Rattle.av_read_laws.specs.Making.{Word}
use Rattle.av_output_laws.proofs.Parts.{sign_word, number_words}
use Rattle.av_output_laws.proofs.PlainNames.{IsPlainName, value_is, result_is}

pub record Says (ps : List Piece) (f : List Word → List Word) : Type 0 where
  pub is : (rest : List Piece) → words_of (ps ++ rest) ≡ f (words_of rest)

pub none : Says [] (λ ws. ws)
none = record { is = λ rest. refl }

pub also : {ps qs : List Piece} {f g : List Word → List Word} → Says ps f → Says qs g → Says (ps ++ qs) (λ ws. f (g ws))
also {ps} {qs} {f} {g} a b = record { is = λ rest. ap words_of (append_assoc ps qs rest) ∙ a.is (qs ++ rest) ∙ ap f (b.is rest) }

pub said_as : {ps qs : List Piece} {f : List Word → List Word} → ps ≡ qs → Says qs f → Says ps f
said_as e h = record { is = λ rest. ap (λ l. words_of (l ++ rest)) e ∙ h.is rest }

pub saying : {ps : List Piece} {f g : List Word → List Word} → ((ws : List Word) → f ws ≡ g ws) → Says ps f → Says ps g
saying e h = record { is = λ rest. h.is rest ∙ e (words_of rest) }

pub words-append : (ps qs : List Piece) → words_of (ps ++ qs) ≡ words_of ps ++ words_of qs
unfolding words_of
words-append [] qs = refl
words-append (blank ∷ ps) qs = words-append ps qs
words-append (line depth ∷ ps) qs = words-append ps qs
words-append (word kind text ∷ ps) qs = ap (λ ws. (kind, text) ∷ ws) (words-append ps qs)

pub all_said : (ps : List Piece) → Says ps (λ ws. words_of ps ++ ws)
all_said ps = record { is = λ rest. words-append ps rest }

pub token_said : (kind : Kind) (text : List ℕ) → Says (token kind text) (λ ws. (kind, text) ∷ ws)
unfolding words_of token
token_said kind text = record { is = λ rest. refl }

pub sign_said : (s : Sign) → Says (sign s) (λ ws. sign_word s ∷ ws)
unfolding words_of sign
sign_said s = record { is = λ rest. refl }

pub space_said : Says space (λ ws. ws)
unfolding words_of space
space_said = record { is = λ rest. refl }

pub new_line_said : (depth : ℕ) → Says (new_line depth) (λ ws. ws)
unfolding words_of new_line
new_line_said depth = record { is = λ rest. refl }

pub spaced_said : (s : Sign) → Says (space ++ sign s ++ space) (λ ws. sign_word s ∷ ws)
spaced_said s = also (also space_said (sign_said s)) space_said

pub number_said : (z : ℤ) → Says (number z) (λ ws. number_words z ++ ws)
unfolding words_of number sign token
number_said (pos n) = record { is = λ rest. refl }
number_said (negsuc n) = record { is = λ rest. refl }

pub value_said : (text : List ℕ) → IsPlainName text → Says (value text) (λ ws. (kinds.ValId, text) ∷ ws)
value_said text h = said_as (value_is text h) (token_said kinds.ValId text)

pub result_said : (text : List ℕ) → IsPlainName text → Says (result_name text) (λ ws. (kinds.ValId, text) ∷ ws)
result_said text h = said_as (result_is text h) (token_said kinds.ValId text)
