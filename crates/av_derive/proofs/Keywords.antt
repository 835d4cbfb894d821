-- A word is looked up among the keywords of about its length alone, and what holds of each class of a word holds of its class.
use Rattle.std.proofs.Common.{◌≡◌, ℕ, ◌≤◌, Bool, true, false, ◌&&◌, nat_le, List, [], ◌∷◌, length, Option, Some, None, bytes_eq, refl, ap, arith, if◌then◌else◌}
use Rattle.std.proofs.lemmas.Bool.{false≢true}
use Rattle.std.proofs.lemmas.Bool.Decides.{nat_tests}
use Rattle.std.proofs.lemmas.Slice.Eq.{bytes_eq-Decides}
use Rattle.av_dialects.specs.Rows.{form_of, number_of}
use Rattle.av_tree.specs.declared.class.Class.{Class}
use Rattle.av_tree.specs.declared.class.Class.TheVariants as class
use Rattle.av_tree.specs.declared.class.Keyword.{Keyword}
use Rattle.av_tree.specs.declared.class.Keyword.TheVariants as key
use Rattle.av_tree.specs.Forms.{is_by_hand}
use Rattle.av_derive.specs.ClassOf.{class_of_keyword, class_of_number, found_in, is_scalar, keywords}
use Rattle.av_derive.specs.WordLengths.{of_lengths}

kept : (found : Bool) (keep : Bool) (k : Keyword) (same : found ≡ true → keep ≡ true) (word : List ℕ) (entry : List ℕ × Keyword) (few rest : List (List ℕ × Keyword))
    → found ≡ bytes_eq word entry.0 → found_in few word ≡ found_in rest word
    → found_in (if keep then entry ∷ few else few) word ≡ (if found then Some entry.1 else found_in rest word)
kept true true k same word entry few rest e h = rw (← e) refl
kept true false k same word entry few rest e h = absurd (false≢true (same refl))
kept false true k same word entry few rest e h = rw (← e) h
kept false false k same word entry few rest e h = h

between : (least most n : ℕ) → least ≤ n → n ≤ most → (nat_le least n && nat_le n most) ≡ true
between least most n h k = grind (arith, nat_tests)

pub found-within : (least most : ℕ) (entries : List (List ℕ × Keyword)) (word : List ℕ) → least ≤ length word → length word ≤ most
    → found_in (of_lengths least most entries) word ≡ found_in entries word
found-within least most [] word h k = refl
found-within least most (entry ∷ rest) word h k =
    kept (bytes_eq word entry.0) (nat_le least (length entry.0) && nat_le (length entry.0) most) entry.1
    (λ e. rw (ap length ((bytes_eq-Decides word entry.0).0 e)) at (between least most (length word) h k)) word entry (of_lengths least most rest) rest refl
    (found-within least most rest word h k)

pub none-longer : (word : List ℕ) → 14 ≤ length word → None ≡ found_in keywords word
unfolding keywords
none-longer word h = found-within 14 (length word) keywords word h (omega arith)

-- ---- classes of words
by-choice : (P : Class → Type 0) (choice : Bool) (c d : Class) → P c → P d → P (if choice then c else d)
by-choice P true c d h k = h
by-choice P false c d h k = k

by-number : (P : Class → Type 0) → P class.OtherWord → ((number : ℕ) → P (class.Word (key.Operation number))) → (found : Option ℕ) → P (class_of_number found)
by-number P other named None = other
by-number P other named (Some number) = by-choice P (is_by_hand (form_of number)) class.OtherWord (class.Word (key.Operation number)) other (named number)

-- where no keyword is found
pub by-no-keyword : (P : Class → Type 0) → ((number : ℕ) → P (class.Word (key.Operation number))) → P class.Scalar → P class.OtherWord
    → (word : List ℕ) → P (class_of_keyword None word)
by-no-keyword P named scalar other word =
    by-choice P (is_scalar word) class.Scalar (class_of_number (number_of word)) scalar (by-number P other named (number_of word))

pub by-keyword : (P : Class → Type 0) → ((k : Keyword) → P (class.Word k)) → P class.Scalar → P class.OtherWord
    → (found : Option Keyword) (word : List ℕ) → P (class_of_keyword found word)
by-keyword P each scalar other (Some k) word = each k
by-keyword P each scalar other None word = by-no-keyword P (λ number. each (key.Operation number)) scalar other word
