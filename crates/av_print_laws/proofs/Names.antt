-- Which names have which form of their own, and that the names in the table of operations are words.
use Rattle.std.proofs.Common.{◌≡◌, ℕ, suc, ◌&&◌, Bool, true, false, cond, List, [], ◌∷◌, Option, Some, None, refl, ap, subst, codes}
use Rattle.std.specs.Prelude.{nat_eq, option_map}
use Rattle.std.specs.List.{list_all}
use Rattle.std.specs.Str.{bytes_eq}
use Rattle.std.proofs.lemmas.Bool.{false≢true, eqb-true}
use Rattle.std.proofs.lemmas.Slice.Eq.{bytes_eq-Decides}
use Rattle.av_lex.specs.declared.token.Kind.TheVariants as kinds
use Rattle.av_lex.specs.Bytes.{in_class}
use Rattle.av_derive.specs.ClassOf.{spells_word}
use Rattle.av_dialects.specs.Rows.{names, place_in, number_of}
use Rattle.av_printer.specs.declared.named.NamedForm.{NamedForm}
use Rattle.av_printer.specs.declared.named.NamedForm.TheVariants as own
use Rattle.av_printer.specs.Expressions.{same}
use Rattle.av_printer.specs.OwnForms.{by_row, own_form}
use Rattle.av_printer.specs.Parts.{first_word}
use Rattle.av_print_laws.specs.Spacing.{IsWord}
use Rattle.av_print_laws.proofs.Words.{is_word}
use Rattle.av_print_laws.proofs.ExprParts.{either}

-- ---- equal texts
both_true : (a b : Bool) → a && b ≡ true → (a ≡ true) × (b ≡ true)
both_true true b h = (refl, h)
both_true false b h = absurd (false≢true h)

first_and_others : (c d : ℕ) (cs ds : List ℕ) → c ≡ d → cs ≡ ds → c ∷ cs ≡ d ∷ ds
first_and_others c d cs ds e h = cc

same-is : (a b : List ℕ) → same a b ≡ true → a ≡ b
same-is [] [] h = refl
same-is [] (d ∷ ds) h = absurd (false≢true h)
same-is (c ∷ cs) [] h = absurd (false≢true h)
same-is (c ∷ cs) (d ∷ ds) h =
    let both = both_true (nat_eq c d) (same cs ds) h in
    first_and_others c d cs ds (eqb-true c d both.0) (same-is cs ds both.1)

-- ---- which form
is_function : Option NamedForm → Bool
is_function (Some own.Function) = true
is_function other = false

-- the row of a form
row_in : Option NamedForm → Option ℕ
row_in (Some (own.Row number)) = Some number
row_in other = None

function-chosen : (m f : Bool) (found : Option ℕ) → is_function (cond m (Some own.Module) (cond f (Some own.Function) (by_row found))) ≡ true → f ≡ true
unfolding is_function
function-chosen true f found h = absurd (false≢true h)
function-chosen false true found h = refl
function-chosen false false None h = absurd (false≢true h)
function-chosen false false (Some number) h = absurd (false≢true h)

row-chosen : (m f : Bool) (found : Option ℕ) (number : ℕ)
    → row_in (cond m (Some own.Module) (cond f (Some own.Function) (by_row found))) ≡ Some number → found ≡ Some number
unfolding row_in
row-chosen true f found number h = cc
row-chosen false true found number h = cc
row-chosen false false None number h = cc
row-chosen false false (Some k) number h = h

pub function-name : (name : List ℕ) → own_form name ≡ Some own.Function → name ≡ codes "func.func"
unfolding own_form is_function
function-name name e =
    same-is name (codes "func.func")
    (function-chosen (same name (codes "builtin.module")) (same name (codes "func.func")) (number_of name) (ap is_function e))

row-number : (name : List ℕ) (number : ℕ) → own_form name ≡ Some (own.Row number) → number_of name ≡ Some number
unfolding own_form row_in
row-number name number e =
    row-chosen (same name (codes "builtin.module")) (same name (codes "func.func")) (number_of name) number (ap row_in e)

-- ---- names of rows are words
place-behind : (found : Option ℕ) (number : ℕ) → option_map suc found ≡ Some number → (k : ℕ) × (found ≡ Some k)
place-behind None number h = cc
place-behind (Some k) number h = (k, refl)

word-among : (several : List (List ℕ)) → list_all spells_word several ≡ true → (name : List ℕ) (number : ℕ)
    → place_in several name ≡ Some number → IsWord kinds.Word name
word-among [] h name number e = cc
word-among (n ∷ several) h name number e =
    let both = both_true (spells_word n) (list_all spells_word several) h in
    either (λ found. found ≡ Some number → IsWord kinds.Word name) (bytes_eq n name) (Some 0) (option_map suc (place_in several name))
    (λ b e. subst (IsWord kinds.Word) ((bytes_eq-Decides n name).0 b) (is_word n both.0))
    (λ b e. let found = place-behind (place_in several name) number e in word-among several both.1 name found.0 found.1) e

return_word : IsWord kinds.Word (codes "return")
unfolding in_class
return_word = is_word (codes "return") refl

pub row-word : (name : List ℕ) (number : ℕ) → own_form name ≡ Some (own.Row number) → IsWord kinds.Word (first_word name)
unfolding first_word names in_class
row-word name number e =
    either (IsWord kinds.Word) (same name (codes "func.return")) (codes "return") name (λ b. return_word)
    (λ b. word-among names refl name number (row-number name number e))
