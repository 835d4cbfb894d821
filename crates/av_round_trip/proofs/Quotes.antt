-- Texts in quotes.
use Rattle.std.proofs.Common.{◌≡◌, ℕ, ◌-◌, List, [], ◌∷◌, ◌++◌, length, refl, arith}
use Rattle.std.specs.Prelude.{IsTrue, codes}
use Rattle.std.specs.Str.{bytes_eq}
use Rattle.std.proofs.lemmas.List.{take_at, length-append}
use Rattle.av_lex.specs.declared.token.Kind.TheVariants as kinds
use Rattle.av_tree.specs.declared.class.Class.{Class}
use Rattle.av_tree.specs.declared.class.Class.TheVariants as class
use Rattle.av_tree.specs.declared.table.Test.TheVariants as test
use Rattle.av_tree.specs.Classes.{fits_of}
use Rattle.av_values.specs.Spellings.{unquoted}
use Rattle.av_print_laws.proofs.ExprParts.{either}
use Rattle.av_read_laws.specs.Making.{class_of_word}

abbrev pub in_quotes : List ℕ → List ℕ
in_quotes text = codes "\"" ++ text ++ codes "\""

pub unquoted-is : (text : List ℕ) → unquoted (in_quotes text) ≡ text
unquoted-is text = take_at text (codes "\"") (length (text ++ codes "\"") - 1) (omega (arith, length-append text (codes "\"")))

pub quoted_fits : (text : List ℕ) → IsTrue (fits_of test.String (class_of_word (kinds.Quoted, text)))
quoted_fits text =
    either (λ (c : Class). IsTrue (fits_of test.String c)) (bytes_eq text (34 ∷ codes "builtin.module" ++ 34 ∷ [])) class.QuotedModule _ (λ b. refl)
    (λ b. either (λ (c : Class). IsTrue (fits_of test.String c)) (bytes_eq text (34 ∷ codes "func.func" ++ 34 ∷ [])) class.QuotedFunc class.Quoted (λ b. refl) (λ b. refl))
