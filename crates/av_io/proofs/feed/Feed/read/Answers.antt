-- What was copied to the front of the buffer is a range of the bytes, and the rest of them is still to come.
use Rattle.std.proofs.Common.{◌≡◌, ℕ, ◌+◌, List, ◌++◌, length, take, drop, sym, ap, ◌∙◌, arith, rules}
use Rattle.std.proofs.Math.Seq.{take-append_seam}
use Rattle.std.proofs.lemmas.List.Folds.{drop_split}
use Rattle.std.specs.List.{slice_range}
use Rattle.av_io.proofs.feed.Feed.read.Goals as goal

piece_then_rest : (xs ys piece : List ℕ) (at n : ℕ) → piece ≡ slice_range xs at (at + n) → length piece ≡ n → drop at xs ≡ take n (piece ++ ys) ++ drop (at + n) xs
piece_then_rest xs ys piece at n same long =
    let front : take n (piece ++ ys) ≡ piece = ap (λ k. take k (piece ++ ys)) (sym long) ∙ take-append_seam piece ys in
    drop_split xs at (at + n) (omega arith) ∙ ap (λ l. l ++ drop (at + n) xs) (sym (front ∙ same))

pub returns-clause-bytes : goal.returns-clause-bytes
returns-clause-bytes c =
    let copied = c.copy_from_slice.new.self in
    let n = c.min-count.result in
    piece_then_rest c.args.self.now.bytes.items (drop n c.args.into.now) copied c.args.self.now.at n (search rules) (search rules)
