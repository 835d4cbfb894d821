-- Lists of so many words, and the digits of a size.
use Rattle.std.proofs.Common.{◌≡◌, ℕ, ◌+◌, ◌/◌, ◌%◌, ◌<◌, ◌≤◌, List, [], ◌∷◌, length, get_or, refl, arith, codes, Option, None, Some, MatchOption, ◌⊎◌, inl, inr}
use Rattle.std.proofs.lemmas.Grind.{common_steps}
use Rattle.std.specs.Prelude.{string_bytes}
use Rattle.std.specs.declared.string.String.{String}
use Rattle.std.specs.declared.alloc.Global.{Global}
use Rattle.av_printer.specs.declared.form.Form.{Form}
use Rattle.av_printer.specs.declared.form.Form.TheVariants.{Named, Generic}
use Rattle.av_top.specs.declared.request.Request.{Request}
use Rattle.av_top.specs.Request.{IsSized, IsVectorize, form_words, number, texts}

-- what follows from what a clause says of an option, in both its cases
pub option_then : {A : Type 0} (r : Option A) {P P' : Type 0} {Q Q' : A → Type 0} → MatchOption r P Q → (P → P') → ((x : A) → Q x → Q' x) → MatchOption r P' Q'
option_then None h f g = f h
option_then (Some x) h f g = g x h

one_item : (xs : List ℕ) → 1 ≤ length xs → length xs < 2 → xs ≡ get_or xs 0 0 ∷ []
one_item [] low high = grind (arith, common_steps)
one_item (x ∷ []) low high = refl
one_item (x ∷ y ∷ zs) low high = grind (arith, common_steps)

pub number_cases : (n : ℕ) → ((n ≤ 9) × (number n ≡ (48 + n) ∷ [])) ⊎ ((10 ≤ n) × (number n ≡ (48 + n / 10) ∷ (48 + n % 10) ∷ []))
number_cases n = grind arith

-- a text of one byte that spells a number has its digit
one_digit_spelled : (xs : List ℕ) (n : ℕ) → length xs < 2 → xs ≡ number n → ((n ≤ 9) × (number n ≡ (48 + n) ∷ [])) ⊎ ((10 ≤ n) × (number n ≡ (48 + n / 10) ∷ (48 + n % 10) ∷ [])) → (n ≤ 9) × (get_or xs 0 0 ≡ 48 + n)
one_digit_spelled xs n short e (inl h) = grind (arith, common_steps)
one_digit_spelled xs n short e (inr h) = absurd (grind (arith, common_steps))

pub one_digit_of : (xs : List ℕ) (n : ℕ) → length xs < 2 → xs ≡ number n → (n ≤ 9) × (get_or xs 0 0 ≡ 48 + n)
one_digit_of xs n short e = one_digit_spelled xs n short e (number_cases n)

-- and the other way round
pub one_digit_spells : (xs : List ℕ) (n : ℕ) → 1 ≤ length xs → length xs < 2 → (1 ≤ n) × (n ≤ 9) × (get_or xs 0 0 ≡ 48 + n) → (1 ≤ n) × (n ≤ 64) × (xs ≡ number n)
one_digit_spells xs n low high h =
    let only = one_item xs low high in
    let spelled = number_cases n in
    grind (arith, common_steps, only, spelled)

-- ---- the words of a request
-- the first three ask for its size
pub sized_of : (command option size : List ℕ) (rest : List (List ℕ)) (r : Request) → IsVectorize (command ∷ option ∷ size ∷ rest) r → IsSized command option size r.size
sized_of command option size rest r v =
    let w = v.words in
    record { command_is = cc; option_is = cc; size_is = cc; low = v.low; high = v.high }

-- and three of them for the named form
pub named_words : (command option size : List ℕ) (lanes : ℕ) → IsSized command option size lanes → IsVectorize (command ∷ option ∷ size ∷ []) (record { size = lanes; form = Named })
named_words command option size lanes s =
    let c = s.command_is in
    let o = s.option_is in
    let n = s.size_is in
    record { words = cc; low = s.low; high = s.high }

-- four for the generic form, where the last is `--generic`
pub generic_words : (command option size last : List ℕ) (lanes : ℕ) → last ≡ codes "--generic" → IsSized command option size lanes
    → IsVectorize (command ∷ option ∷ size ∷ last ∷ []) (record { size = lanes; form = Generic })
generic_words command option size last lanes l s =
    let c = s.command_is in
    let o = s.option_is in
    let n = s.size_is in
    record { words = cc; low = s.low; high = s.high }

last_of : (last : List ℕ) (f : Form) → last ∷ [] ≡ form_words f → last ≡ codes "--generic"
last_of last Named e = cc
last_of last Generic e = cc

pub last_word : (command option size last : List ℕ) (r : Request) → IsVectorize (command ∷ option ∷ size ∷ last ∷ []) r → last ≡ codes "--generic"
last_word command option size last r v =
    let w = v.words in
    let e : last ∷ [] ≡ form_words r.form = cc in
    last_of last r.form e

-- four words and their texts
pub four_texts : (words : List (String Global)) (x y z w : String Global) (a b c d : List ℕ) → 4 ≤ length words → length words < 5
    → x ≡ get_or words 0 x → y ≡ get_or words 1 y → z ≡ get_or words 2 z → w ≡ get_or words 3 w → a ≡ string_bytes x → b ≡ string_bytes y → c ≡ string_bytes z → d ≡ string_bytes w
    → a ∷ b ∷ c ∷ d ∷ [] ≡ texts words
four_texts [] x y z w a b c d low high x' y' z' w' a' b' c' d' = absurd (omega arith)
four_texts (p ∷ []) x y z w a b c d low high x' y' z' w' a' b' c' d' = absurd (omega arith)
four_texts (p ∷ q ∷ []) x y z w a b c d low high x' y' z' w' a' b' c' d' = absurd (omega arith)
four_texts (p ∷ q ∷ r ∷ []) x y z w a b c d low high x' y' z' w' a' b' c' d' = absurd (omega arith)
four_texts (p ∷ q ∷ r ∷ s ∷ []) x y z w a b c d low high x' y' z' w' a' b' c' d' =
    let x'' : x ≡ p = x' in
    let y'' : y ≡ q = y' in
    let z'' : z ≡ r = z' in
    let w'' : w ≡ s = w' in
    cc
four_texts (p ∷ q ∷ r ∷ s ∷ t ∷ us) x y z w a b c d low high x' y' z' w' a' b' c' d' = absurd (omega arith)
