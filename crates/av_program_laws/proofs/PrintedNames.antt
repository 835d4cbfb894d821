-- Names of values and of functions are words.
use Rattle.std.proofs.Common.{◌≡◌, ℕ, zero, suc, ◌<◌, ◌≤◌, ◌&&◌, inl, inr, Bool, List, [], ◌∷◌, ◌++◌, length, true, false, cond, refl, ◌∙◌, ap, subst, sym, arith, codes, length-append}
use Rattle.std.specs.Prelude.{slice_index, nat_eq, ◌==◌, ◌/◌, ◌%◌}
use Rattle.std.specs.List.{list_all}
use Rattle.std.specs.Char.{is_ascii_digit}
use Rattle.std.specs.Fmt.{decimal, digits, digits_onto, digit_glyph}
use Rattle.std.proofs.lemmas.Bool.{false≢true}
use Rattle.std.proofs.lemmas.Bool.Decides.{nat_tests}
use Rattle.av_lex.specs.declared.token.Kind.TheVariants as kinds
use Rattle.av_lex.specs.declared.class.Class.TheVariants as classes
use Rattle.av_lex.specs.Bytes.{in_class, Run}
use Rattle.av_printer.specs.Expressions.{before, from}
use Rattle.av_totree.specs.Names.{argument_name, operation_name}
use Rattle.av_verify.specs.Modules.{is_symbol_byte, goes_on, is_symbol}
use Rattle.av_print_laws.specs.Spacing.{IsWord}
use Rattle.av_print_laws.specs.ReadExpressions.{IsValue, IsWhich}
use Rattle.av_print_laws.specs.ReadNodes.{IsResult, IsCount}
use Rattle.av_print_laws.proofs.ExprParts.{either}
use Rattle.av_print_laws.proofs.Longest.{next, run_front}

-- ---- digits, of any number
abbrev IsDigit : ℕ → Type 0
IsDigit c = (48 ≤ c) × (c ≤ 57)

abbrev Digits : List ℕ → Type 0
Digits [] = Unit {0}
Digits (c ∷ cs) = IsDigit c × Digits cs

abbrev Some : List ℕ → Type 0
Some ds = Digits ds × (1 ≤ length ds)

glyph_is : (d : ℕ) → d < 10 → IsDigit (digit_glyph false d)
glyph_is d h = (grind (arith, nat_tests), grind (arith, nat_tests))

some_first : (c : ℕ) (cs : List ℕ) → IsDigit c → Digits cs → Some (c ∷ cs)
some_first c cs d more = ((d, more), omega arith)

last_of : (n : ℕ) → n % 10 < 10
last_of n = omega arith

onto_digits : (k n c : ℕ) (cs : List ℕ) → Some (c ∷ cs) → Some (digits_onto k 10 false n (c ∷ cs))
onto_digits zero n c cs h = h
onto_digits (suc k) n c cs h =
    let more : Some (digit_glyph false (n % 10) ∷ c ∷ cs) = some_first (digit_glyph false (n % 10)) (c ∷ cs) (glyph_is (n % 10) (last_of n)) h.0 in
    either Some ((n / 10) == 0) (digit_glyph false (n % 10) ∷ c ∷ cs) (digits_onto k 10 false (n / 10) (digit_glyph false (n % 10) ∷ c ∷ cs))
    (λ b. more) (λ b. onto_digits k (n / 10) (digit_glyph false (n % 10)) (c ∷ cs) more)

all_digits : (k n : ℕ) → Some (digits_onto (suc k) 10 false n [])
all_digits k n =
    let first : Some (digit_glyph false (n % 10) ∷ []) = some_first (digit_glyph false (n % 10)) [] (glyph_is (n % 10) (last_of n)) tt in
    either Some ((n / 10) == 0) (digit_glyph false (n % 10) ∷ []) (digits_onto k 10 false (n / 10) (digit_glyph false (n % 10) ∷ []))
    (λ b. first) (λ b. onto_digits k (n / 10) (digit_glyph false (n % 10)) [] first)

decimal_some : (n : ℕ) → Some (decimal n)
unfolding digits
decimal_some n = all_digits 63 n

digit_at : (ds : List ℕ) → Digits ds → (i : ℕ) → i < length ds → IsDigit (slice_index ds i)
digit_at [] d i below = absurd (omega arith)
digit_at (c ∷ cs) d zero below = d.0
digit_at (c ∷ cs) d (suc i) below = digit_at cs d.1 i (omega arith)

digit_class : (c : ℕ) → 48 ≤ c → c ≤ 57 → in_class classes.Digit c ≡ true
unfolding in_class
digit_class c low high = grind (arith, nat_tests)

name_class : (c : ℕ) → 48 ≤ c → c ≤ 57 → in_class classes.Name c ≡ true
unfolding in_class
name_class c low high = grind (arith, nat_tests)

-- ---- names of values
argument_run : (ds : List ℕ) → Digits ds → Run classes.Name (37 ∷ 97 ∷ 114 ∷ 103 ∷ ds) 2 (length (37 ∷ 97 ∷ 114 ∷ 103 ∷ ds))
unfolding in_class
argument_run ds d zero above below = absurd (omega arith)
argument_run ds d (suc zero) above below = absurd (omega arith)
argument_run ds d (suc (suc zero)) above below = refl
argument_run ds d (suc (suc (suc zero))) above below = refl
argument_run ds d (suc (suc (suc (suc i)))) above below =
    let here : IsDigit (slice_index ds i) = digit_at ds d i (omega arith) in
    name_class (slice_index ds i) here.0 here.1

letter_a : in_class classes.NameStart 97 ≡ true
unfolding in_class
letter_a = refl

argument_word : (ds : List ℕ) → Digits ds → IsWord kinds.ValId (37 ∷ 97 ∷ 114 ∷ 103 ∷ ds)
argument_word ds d = record {
  spells = record { within = omega arith; spelled = (refl, omega arith, inr (letter_a, argument_run ds d)) };
  short = tt;
}

behind_mark : (mark : ℕ) (ds : List ℕ) → Digits ds → Run classes.Digit (mark ∷ ds) 1 (length (mark ∷ ds))
behind_mark mark ds d zero above below = absurd (omega arith)
behind_mark mark ds d (suc i) above below =
    let here : IsDigit (slice_index ds i) = digit_at ds d i (omega arith) in
    digit_class (slice_index ds i) here.0 here.1

operation_word : (ds : List ℕ) → Some ds → IsWord kinds.ValId (37 ∷ ds)
operation_word ds d =
    let long : 1 ≤ length ds = d.1 in
    record {
      spells = record { within = omega arith; spelled = (refl, omega arith, inl (behind_mark 37 ds d.0)) };
      short = tt;
    }

-- a mark that is no digit
abbrev Other : ℕ → Type 0
Other mark = (c : ℕ) → 48 ≤ c → c ≤ 57 → nat_eq c mark ≡ false

hash_other : Other 35
hash_other c low high = grind (arith, nat_tests)

colon_other : Other 58
colon_other c low high = grind (arith, nat_tests)

before_digits : (mark : ℕ) (ds : List ℕ) → Other mark → Digits ds → before mark ds ≡ ds
unfolding before
before_digits mark [] other d = refl
before_digits mark (c ∷ cs) other d =
    ap (λ (t : Bool). cond t [] (c ∷ before mark cs)) (other c d.0.0 d.0.1) ∙ ap (λ (rest : List ℕ). c ∷ rest) (before_digits mark cs other d.1)

from_digits : (mark : ℕ) (ds : List ℕ) → Other mark → Digits ds → from mark ds ≡ []
unfolding from
from_digits mark [] other d = refl
from_digits mark (c ∷ cs) other d =
    ap (λ (t : Bool). cond t (c ∷ cs) (from mark cs)) (other c d.0.0 d.0.1) ∙ from_digits mark cs other d.1

-- a name is one word, where it is used and where it is made
pub record IsName (text : List ℕ) : Type 0 where
  pub word : IsWord kinds.ValId text
  pub used : IsValue text
  pub made : IsResult text

name_of_parts : (text : List ℕ) → IsWord kinds.ValId text → before 35 text ≡ text → from 35 text ≡ [] → before 58 text ≡ text → from 58 text ≡ []
    → IsName text
name_of_parts text w h none k no_count = record {
  word = w;
  used = (subst (IsWord kinds.ValId) (sym h) w, subst IsWhich (sym none) tt);
  made = (subst (IsWord kinds.ValId) (sym k) w, subst IsCount (sym no_count) tt);
}

argument_of : (ds : List ℕ) → Digits ds → IsName (37 ∷ 97 ∷ 114 ∷ 103 ∷ ds)
unfolding before from
argument_of ds d =
    name_of_parts (37 ∷ 97 ∷ 114 ∷ 103 ∷ ds) (argument_word ds d)
    (ap (λ (rest : List ℕ). 37 ∷ 97 ∷ 114 ∷ 103 ∷ rest) (before_digits 35 ds hash_other d)) (from_digits 35 ds hash_other d)
    (ap (λ (rest : List ℕ). 37 ∷ 97 ∷ 114 ∷ 103 ∷ rest) (before_digits 58 ds colon_other d)) (from_digits 58 ds colon_other d)

operation_of : (ds : List ℕ) → Some ds → IsName (37 ∷ ds)
unfolding before from
operation_of ds d =
    name_of_parts (37 ∷ ds) (operation_word ds d)
    (ap (λ (rest : List ℕ). 37 ∷ rest) (before_digits 35 ds hash_other d.0)) (from_digits 35 ds hash_other d.0)
    (ap (λ (rest : List ℕ). 37 ∷ rest) (before_digits 58 ds colon_other d.0)) (from_digits 58 ds colon_other d.0)

pub argument_is : (k : ℕ) → IsName (argument_name k)
argument_is k = argument_of (decimal k) (decimal_some k).0

pub operation_is : (k : ℕ) → IsName (operation_name k)
operation_is k = operation_of (decimal k) (decimal_some k)

-- ---- names of functions
both_true : (a b : Bool) → a && b ≡ true → (a ≡ true) × (b ≡ true)
both_true true b h = (refl, h)
both_true false b h = absurd (false≢true h)

symbol_name : (c : ℕ) → is_symbol_byte c ≡ true → in_class classes.Name c ≡ true
unfolding in_class
symbol_name c h = grind (arith, nat_tests)

symbol_start : (c : ℕ) → is_symbol_byte c ≡ true → is_ascii_digit c ≡ false → in_class classes.NameStart c ≡ true
unfolding in_class
symbol_start c h k = grind (arith, nat_tests)

symbol_quoted : (c : ℕ) → is_symbol_byte c ≡ true → in_class classes.Quoted c ≡ true
unfolding in_class
symbol_quoted c h = grind (arith, nat_tests)

digit_symbol : (c : ℕ) → is_ascii_digit c ≡ true → is_symbol_byte c ≡ true
digit_symbol c h = grind (arith, nat_tests)

digit_is : (c : ℕ) → is_ascii_digit c ≡ true → in_class classes.Digit c ≡ true
unfolding in_class
digit_is c h = h

all_at : (is : ℕ → Bool) (cs : List ℕ) → list_all is cs ≡ true → (i : ℕ) → i < length cs → is (slice_index cs i) ≡ true
all_at is [] h i below = absurd (omega arith)
all_at is (c ∷ cs) h zero below = (both_true (is c) (list_all is cs) h).0
all_at is (c ∷ cs) h (suc i) below = all_at is cs (both_true (is c) (list_all is cs) h).1 i (omega arith)

abbrev rest_by : Bool → ℕ → Bool
rest_by t c = cond t (is_ascii_digit c) (is_symbol_byte c)

rest_symbol : (t : Bool) (c : ℕ) → rest_by t c ≡ true → is_symbol_byte c ≡ true
rest_symbol true c h = digit_symbol c h
rest_symbol false c h = h

symbol_at : (name : List ℕ) → is_symbol name ≡ true → (i : ℕ) → i < length name → is_symbol_byte (slice_index name i) ≡ true
symbol_at [] h i below = absurd (omega arith)
symbol_at (c ∷ cs) h zero below = (both_true (is_symbol_byte c) (list_all (goes_on c) cs) h).0
symbol_at (c ∷ cs) h (suc i) below =
    rest_symbol (is_ascii_digit c) (slice_index cs i)
    (all_at (goes_on c) cs (both_true (is_symbol_byte c) (list_all (goes_on c) cs) h).1 i (omega arith))

digits_symbol : (c : ℕ) (cs : List ℕ) → is_ascii_digit c ≡ true → list_all (rest_by true) cs ≡ true
    → Run classes.Digit (64 ∷ c ∷ cs) 1 (length (64 ∷ c ∷ cs))
digits_symbol c cs first h zero above below = absurd (omega arith)
digits_symbol c cs first h (suc zero) above below = digit_is c first
digits_symbol c cs first h (suc (suc i)) above below = digit_is (slice_index cs i) (all_at (rest_by true) cs h i (omega arith))

names_symbol : (c : ℕ) (cs : List ℕ) → list_all (rest_by false) cs ≡ true → Run classes.Name (64 ∷ c ∷ cs) 2 (length (64 ∷ c ∷ cs))
names_symbol c cs h zero above below = absurd (omega arith)
names_symbol c cs h (suc zero) above below = absurd (omega arith)
names_symbol c cs h (suc (suc i)) above below = symbol_name (slice_index cs i) (all_at (rest_by false) cs h i (omega arith))

symbol_by : (t : Bool) (c : ℕ) (cs : List ℕ) → is_ascii_digit c ≡ t → is_symbol_byte c ≡ true → list_all (rest_by t) cs ≡ true
    → IsWord kinds.SymId (64 ∷ c ∷ cs)
symbol_by true c cs t first h = record {
  spells = record { within = omega arith; spelled = (refl, omega arith, inl (digits_symbol c cs t h)) };
  short = tt;
}
symbol_by false c cs t first h = record {
  spells = record { within = omega arith; spelled = (refl, omega arith, inr (symbol_start c first t, names_symbol c cs h)) };
  short = tt;
}

pub symbol_word : (name : List ℕ) → is_symbol name ≡ true → IsWord kinds.SymId (codes "@" ++ name)
symbol_word [] h = absurd (false≢true h)
symbol_word (c ∷ cs) h =
    let both = both_true (is_symbol_byte c) (list_all (goes_on c) cs) h in
    symbol_by (is_ascii_digit c) c cs refl both.0 both.1

-- ---- and in quotes
behind_quote : (name : List ℕ) → is_symbol name ≡ true → Run classes.Quoted (34 ∷ name) 1 (length (34 ∷ name))
behind_quote name h zero above below = absurd (omega arith)
behind_quote name h (suc i) above below = symbol_quoted (slice_index name i) (symbol_at name h i (omega arith))

pub quoted_word : (name : List ℕ) → is_symbol name ≡ true → IsWord kinds.Quoted (codes "\"" ++ name ++ codes "\"")
quoted_word name h =
    let long = length-append (34 ∷ name) (34 ∷ []) in
    record {
      spells = record {
        within = omega arith;
        spelled = (
          length (34 ∷ name),
          long,
          omega arith,
          refl,
          run_front classes.Quoted (34 ∷ name) (34 ∷ []) 1 (length (34 ∷ name)) (omega arith) (behind_quote name h),
          next (34 ∷ name) (34 ∷ []),
        );
      };
      short = tt;
    }

-- a text in quotes whose bytes may all stand there
quotes_at : (cs : List ℕ) → list_all (in_class classes.Quoted) cs ≡ true → Run classes.Quoted (34 ∷ cs) 1 (length (34 ∷ cs))
quotes_at cs h zero above below = absurd (omega arith)
quotes_at cs h (suc i) above below = all_at (in_class classes.Quoted) cs h i (omega arith)

pub quotes_word : (cs : List ℕ) → list_all (in_class classes.Quoted) cs ≡ true → IsWord kinds.Quoted (codes "\"" ++ cs ++ codes "\"")
quotes_word cs h =
    let long = length-append (34 ∷ cs) (34 ∷ []) in
    record {
      spells = record {
        within = omega arith;
        spelled = (
          length (34 ∷ cs),
          long,
          omega arith,
          refl,
          run_front classes.Quoted (34 ∷ cs) (34 ∷ []) 1 (length (34 ∷ cs)) (omega arith) (quotes_at cs h),
          next (34 ∷ cs) (34 ∷ []),
        );
      };
      short = tt;
    }
