-- What holds of each form of the table of operations, and where there are no parts, holds of the form of every number.
use Rattle.std.proofs.Common.{ℕ, zero, suc, Bool, true, false, ◌&&◌, IsTrue, List, [], ◌∷◌, get_or, refl}
use Rattle.std.specs.List.{list_all}
use Rattle.av_dialects.specs.Rows.{Part, form_of, forms}

each : (a b : Bool) → IsTrue (a && b) → IsTrue a × IsTrue b
each true b t = (refl, t)
each false b t = absurd (cc)

in-list : (p : List Part → Bool) (xs : List (List Part)) (n : ℕ) → IsTrue (p []) → IsTrue (list_all p xs) → IsTrue (p (get_or xs n []))
in-list p [] n e h = e
in-list p (x ∷ xs) zero e h = (each (p x) (list_all p xs) h).0
in-list p (x ∷ xs) (suc n) e h = in-list p xs n e (each (p x) (list_all p xs) h).1

pub of-form : (p : List Part → Bool) → IsTrue (p []) → IsTrue (list_all p forms) → (n : ℕ) → IsTrue (p (form_of n))
of-form p e h n = in-list p forms n e h
