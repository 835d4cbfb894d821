-- Lemmas on several calls of a source or a sink, one after another.
use Rattle.std.proofs.Common.{◌≡◌, ℕ, ◌+◌, ◌-◌, ◌≤◌, List, [], ◌++◌, length, take, drop, Option, None, Some, refl, sym, ap, ◌∙◌, subst, arith, length-append, length-drop, length-take-le}
use Rattle.std.specs.Prelude.{option_map}
use Rattle.std.specs.Io.KnownBytes.{Appends, Consumes}
use Rattle.std.proofs.KnownBytes.{Appends-nil, Appends-trans, Consumes-trans}
use borrow.Rule.Slice.PartMut.{put_mid, post_of}
use Rattle.std.proofs.Math.Seq.{take-add, take-append-add}
use Rattle.std.proofs.lemmas.List.{take_rest, take-append-le}
use Rattle.av_io.specs.Devices.{HasRoom, Takes}

pub HasRoom-less : (room : Option ℕ) (n m : ℕ) → HasRoom room n → m ≤ n → HasRoom room m
HasRoom-less room n m has less free is = omega (arith, has free is)

-- what is left of the room once n bytes were taken
pub HasRoom-used : (before now : Option ℕ) (n m : ℕ) → now ≡ option_map (λ free. free - n) before → HasRoom before (n + m) → HasRoom now m
HasRoom-used None now n m used has free is = cc
HasRoom-used (Some x) now n m used has free is =
    let enough : n + m ≤ x = has x refl in
    let same : x - n ≡ free = cc in
    omega arith

used-nil : (room : Option ℕ) → room ≡ option_map (λ free. free - 0) room
used-nil None = refl
used-nil (Some x) = let same : x ≡ x - 0 = omega arith in ap Some same

used-add : (room : Option ℕ) (n m : ℕ) → option_map (λ free. free - m) (option_map (λ free. free - n) room) ≡ option_map (λ free. free - (n + m)) room
used-add None n m = refl
used-add (Some x) n m = let same : (x - n) - m ≡ x - (n + m) = omega arith in ap Some same

pub Takes-nil : (held : Option (List ℕ)) (room : Option ℕ) → Takes held held room room []
Takes-nil held room = record { appended = Appends-nil held; used = used-nil room }

pub Takes-trans : (a b c : Option (List ℕ)) (p q r : Option ℕ) (bs cs : List ℕ) → Takes a b p q bs → Takes b c q r cs → Takes a c p r (bs ++ cs)
Takes-trans a b c p q r bs cs first second =
    let both = used-add p (length bs) (length cs) in
    let at = λ (n : ℕ). option_map (λ free. free - n) p in
    record {
      appended = Appends-trans a b c bs cs first.appended second.appended;
      used = second.used ∙ ap (option_map (λ free. free - length cs)) first.used ∙ both ∙ ap at (sym (length-append bs cs));
    }

-- a sink took the first `done` bytes, and then n of the rest
pub Takes-more : (a b c : Option (List ℕ)) (p q r : Option ℕ) (xs : List ℕ) (done n : ℕ) → n ≤ length xs - done → Takes a b p q (take done xs)
    → Appends b c (take n (take (length xs - done) (drop done xs))) → r ≡ option_map (λ free. free - n) q → Takes a c p r (take (done + n) xs)
Takes-more a b c p q r xs done n within first appended used =
    let rest = drop done xs in
    let whole : take (length xs - done) rest ≡ rest = take_rest xs done in
    let long : length (take n rest) ≡ n = length-take-le n rest (omega (arith, length-drop done xs)) in
    let second : Takes b c q r (take n rest) = record {
      appended = subst (λ l. Appends b c (take n l)) whole appended;
      used = used ∙ ap (λ k. option_map (λ free. free - k) q) (sym long);
    } in
    subst (Takes a c p r) (sym (take-add done n xs)) (Takes-trans a b c p q r _ _ first second)

-- the first n bytes were read to the places from `done` on
pub Consumes-more : (a b c : Option (List ℕ)) (xs ys : List ℕ) (done k n : ℕ) → done ≤ length xs → n ≤ length ys → Consumes a b (take done xs) → Consumes b c (take n ys)
    → Consumes a c (take (done + n) (put_mid done k xs ys))
Consumes-more a b c xs ys done k n within short first second =
    let front = take done xs in
    let after = ys ++ post_of done k xs in
    let long : length front ≡ done = length-take-le done xs within in
    let split : take (length front + n) (front ++ after) ≡ front ++ take n after = take-append-add front after n in
    let same : take (done + n) (front ++ after) ≡ front ++ take n ys =
    ap (λ m. take (m + n) (front ++ after)) (sym long) ∙ split ∙ ap (λ l. front ++ l) (take-append-le n ys _ short) in
    subst (Consumes a c) (sym same) (Consumes-trans a b c _ _ first second)

pub places_within : (xs ys : List ℕ) (done k n : ℕ) → done ≤ length xs → n ≤ length ys → done + n ≤ length (put_mid done k xs ys)
places_within xs ys done k n within short =
    omega (arith, length-append (take done xs) (ys ++ post_of done k xs), length-append ys (post_of done k xs), length-take-le done xs within)
