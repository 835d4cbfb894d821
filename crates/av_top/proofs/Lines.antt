-- The line of a loop, put together piece by piece.
use Rattle.std.proofs.Common.{◌≡◌, ℕ, List, ◌++◌, append_assoc, codes, ◌∙◌, ap}
use Rattle.std.specs.Fmt.{decimal}
use Rattle.av_top.specs.Report.{line_of}

pieces : (r a b c d e f g : List ℕ) → r ++ a ++ b ++ c ++ d ++ e ++ f ++ g ≡ r ++ (a ++ b ++ c ++ d ++ e ++ f ++ g)
pieces r a b c d e f g = simp append_assoc

-- a list after one piece more
more : (r r' x a : List ℕ) → r' ≡ r ++ a → r ≡ x → r' ≡ x ++ a
more r r' x a e h = e ∙ ap (λ l. l ++ a) h

pub put : (r r1 r2 r3 r4 r5 r6 r7 name d d' : List ℕ) (number : ℕ) → d ≡ decimal number → d' ≡ decimal number
    → r1 ≡ r ++ codes "@" → r2 ≡ r1 ++ name → r3 ≡ r2 ++ codes " loop " → r4 ≡ r3 ++ d → r5 ≡ r4 ++ codes ": kept not-built " → r6 ≡ r5 ++ d' → r7 ≡ r6 ++ codes "\n"
    → r7 ≡ r ++ line_of name number
put r r1 r2 r3 r4 r5 r6 r7 name d d' number n n' e1 e2 e3 e4 e5 e6 e7 =
    more r6 r7 _ _ e7 (more r5 r6 _ _ (e6 ∙ ap (λ l. r5 ++ l) n') (more r4 r5 _ _ e5 (more r3 r4 _ _ (e4 ∙ ap (λ l. r3 ++ l) n) (more r2 r3 _ _ e3 (more r1 r2 _ _ e2 e1)))))
    ∙ pieces r (codes "@") name (codes " loop ") (decimal number) (codes ": kept not-built ") (decimal number) (codes "\n")
