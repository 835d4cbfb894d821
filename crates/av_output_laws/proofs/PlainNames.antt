-- Names of values are one word, where they are used and where they are made.
use Rattle.std.proofs.Common.{◌≡◌, ℕ, zero, suc, ◌+◌, ◌-◌, ◌<◌, Bool, true, false, List, [], ◌∷◌, ◌++◌, length, get_or, refl, sym, ap, ◌∙◌, subst, inl, inr, arith}
use Rattle.std.specs.Prelude.{◌/◌, ◌%◌, ◌==◌, if◌then◌else◌, codes}
use Rattle.std.specs.Fmt.{digits, digits_onto, digit_glyph}
use Rattle.std.proofs.lemmas.Bool.{cases_lt}
use Rattle.std.proofs.lemmas.Bool.Decides.{nat_tests}
use Rattle.std.proofs.lemmas.List.{get_or_append_left, get_or-append_right}
use Rattle.av_lex.specs.declared.token.Kind.TheVariants as kinds
use Rattle.av_printer.specs.Pieces.{token}
use Rattle.av_printer.specs.Expressions.{before, from, which, how_many, value, result_name}
use Rattle.av_ir.specs.declared.ty.Ty.{Ty}
use Rattle.av_totree.specs.Names.{argument_name, operation_name}
use Rattle.av_program_laws.specs.Programs.{Line, constant, sum, load, store, Step, single, counted}
use Rattle.av_program_laws.specs.Walks.{Place, name_at, passed, with_result, with_argument, after_line, after_lines, inside, after_step, after_buffers, element, buffer, type_at}
use Rattle.av_ir.specs.declared.ty.Elem.TheVariants.{Index}
use Rattle.av_ir.specs.declared.ty.Ty.TheVariants.{Scalar}
use Rattle.av_round_trip.specs.Types.{IsResultNumber, IsNameOfValue}
use Rattle.av_round_trip.specs.Trees.{IsResultCount, IsNameOfResults}

-- none of the bytes is this mark
abbrev IsWithout : ℕ → List ℕ → Type 0
IsWithout mark [] = Unit {0}
IsWithout mark (c ∷ cs) = ((c == mark) ≡ false) × IsWithout mark cs

before_none : (mark : ℕ) (cs : List ℕ) → IsWithout mark cs → before mark cs ≡ cs
unfolding before
before_none mark [] h = refl
before_none mark (c ∷ cs) h =
    ap (λ (b : Bool). if b then [] else c ∷ before mark cs) h.0 ∙ ap (λ l. c ∷ l) (before_none mark cs h.1)

from_none : (mark : ℕ) (cs : List ℕ) → IsWithout mark cs → from mark cs ≡ []
unfolding from
from_none mark [] h = refl
from_none mark (c ∷ cs) h = ap (λ (b : Bool). if b then c ∷ cs else from mark cs) h.0 ∙ from_none mark cs h.1

-- ---- digits
-- a mark that is no digit
abbrev IsOther : ℕ → Type 0
IsOther mark = (d : ℕ) → d < 10 → ((48 + d) == mark) ≡ false

hash_other : IsOther 35
hash_other d h = grind (arith, nat_tests)

colon_other : IsOther 58
colon_other d h = grind (arith, nat_tests)

glyph_is : (n : ℕ) → digit_glyph false (n % 10) ≡ 48 + n % 10
glyph_is n = grind (arith, nat_tests)

either : (mark : ℕ) (b : Bool) (xs ys : List ℕ) → IsWithout mark xs → IsWithout mark ys → IsWithout mark (if b then xs else ys)
either mark true xs ys h k = h
either mark false xs ys h k = k

digits_without : (mark k n : ℕ) (acc : List ℕ) → IsOther mark → IsWithout mark acc → IsWithout mark (digits_onto k 10 false n acc)
digits_without mark zero n acc other h = h
digits_without mark (suc k) n acc other h =
    let here : (digit_glyph false (n % 10) == mark) ≡ false = ap (λ c. c == mark) (glyph_is n) ∙ other (n % 10) (omega arith) in
    let more : IsWithout mark (digit_glyph false (n % 10) ∷ acc) = (here, h) in
    either mark ((n / 10) == 0) (digit_glyph false (n % 10) ∷ acc) (digits_onto k 10 false (n / 10) (digit_glyph false (n % 10) ∷ acc)) more
    (digits_without mark k (n / 10) (digit_glyph false (n % 10) ∷ acc) other more)

-- ---- names
pub record IsPlainName (text : List ℕ) : Type 0 where
  pub no_hash : IsWithout 35 text
  pub no_colon : IsWithout 58 text

pub plain_operation : (k : ℕ) → IsPlainName (operation_name k)
unfolding digits
plain_operation k = record {
  no_hash = (refl, digits_without 35 64 k [] hash_other tt);
  no_colon = (refl, digits_without 58 64 k [] colon_other tt);
}

pub plain_argument : (k : ℕ) → IsPlainName (argument_name k)
unfolding digits
plain_argument k = record {
  no_hash = (refl, (refl, (refl, (refl, digits_without 35 64 k [] hash_other tt))));
  no_colon = (refl, (refl, (refl, (refl, digits_without 58 64 k [] colon_other tt))));
}

pub value_is : (text : List ℕ) → IsPlainName text → value text ≡ token kinds.ValId text
unfolding which token
value_is text h =
    ap (λ b. token kinds.ValId b ++ which (from 35 text)) (before_none 35 text h.no_hash) ∙ ap (λ f. token kinds.ValId text ++ which f) (from_none 35 text h.no_hash)

pub result_is : (text : List ℕ) → IsPlainName text → result_name text ≡ token kinds.ValId text
unfolding how_many token
result_is text h =
    ap (λ b. token kinds.ValId b ++ how_many (from 58 text)) (before_none 58 text h.no_colon)
    ∙ ap (λ f. token kinds.ValId text ++ how_many f) (from_none 58 text h.no_colon)

-- where they are used and where they are made, nothing stands behind them
pub plain_use : (text : List ℕ) → IsPlainName text → IsNameOfValue text
plain_use text h = subst (λ (behind : List ℕ). IsResultNumber behind) (sym (from_none 35 text h.no_hash)) tt

pub plain_result : (text : List ℕ) → IsPlainName text → IsNameOfResults text
plain_result text h = subst (λ (behind : List ℕ). IsResultCount behind) (sym (from_none 58 text h.no_colon)) tt

-- ---- names of places
abbrev pub HasPlain : Place → Type 0
HasPlain place = (v : ℕ) → IsPlainName (name_at place v)

none_yet : IsPlainName (codes "%")
none_yet = record { no_hash = (refl, tt); no_colon = (refl, tt) }

plain_last : (text : List ℕ) → IsPlainName text → (i : ℕ) → IsPlainName (get_or (text ∷ []) i (codes "%"))
plain_last text h zero = h
plain_last text h (suc i) = none_yet

plain_push : (names : List (List ℕ)) (text : List ℕ) → ((v : ℕ) → IsPlainName (get_or names v (codes "%"))) → IsPlainName text
    → (v : ℕ) → IsPlainName (get_or (names ++ text ∷ []) v (codes "%"))
plain_push names text all one v = elim (cases_lt v (length names)) [
  | inl less ↦ subst IsPlainName (sym (get_or_append_left names (text ∷ []) (codes "%") v less)) (all v)
  | inr le ↦ subst IsPlainName (sym (get_or-append_right names (text ∷ []) (length names) v (codes "%") refl le)) (plain_last text one (v - length names))
]

plain-result : (ty : Ty) (place : Place) → HasPlain place → HasPlain (with_result ty place)
unfolding with_result
plain-result ty place all = plain_push place.names (operation_name place.operations) all (plain_operation place.operations)

plain-argument : (ty : Ty) (place : Place) → HasPlain place → HasPlain (with_argument ty place)
unfolding with_argument
plain-argument ty place all = plain_push place.names (argument_name place.arguments) all (plain_argument place.arguments)

plain-passed : (place : Place) → HasPlain place → HasPlain (passed place)
unfolding passed
plain-passed place all = all

pub plain-line : (line : Line) (place : Place) → HasPlain place → HasPlain (after_line line place)
unfolding after_line
plain-line (constant pattern) place all = plain-result element place all
plain-line (sum left right) place all = plain-result (type_at place left) place all
plain-line (load from at) place all = plain-result element place all
plain-line (store stored into at) place all = plain-passed place all

plain-lines : (lines : List Line) (place : Place) → HasPlain place → HasPlain (after_lines lines place)
unfolding after_lines
plain-lines [] place all = all
plain-lines (line ∷ lines) place all = plain-lines lines (after_line line place) (plain-line line place all)

pub plain-inside : (place : Place) → HasPlain place → HasPlain (inside place)
unfolding inside
plain-inside place all = plain-argument (Scalar Index) (record place { number = place.number + 1; loops = place.loops + 1 }) all

pub plain-step : (step : Step) (place : Place) → HasPlain place → HasPlain (after_step step place)
unfolding after_step
plain-step (single pattern) place all = plain-result element place all
plain-step (counted lower upper lines) place all = plain-passed (after_lines lines (inside place)) (plain-lines lines (inside place) (plain-inside place all))

pub plain-buffers : (sizes : List ℕ) (place : Place) → HasPlain place → HasPlain (after_buffers sizes place)
unfolding after_buffers
plain-buffers [] place all = all
plain-buffers (size ∷ sizes) place all = plain-buffers sizes (with_argument (buffer size) place) (plain-argument (buffer size) place all)

pub no_names : (place : Place) → place.names ≡ [] → HasPlain place
no_names place none v = subst (λ names. IsPlainName (get_or names v (codes "%"))) (sym none) none_yet
