-- No function has more values than the greatest number of them.
use Rattle.std.proofs.Common.{ℕ, ◌<◌, ◌^◌, List, [], ◌∷◌, length, nat_lt, fold, if◌then◌else◌, arith}
use Rattle.std.proofs.lemmas.List.Elements.{All-nil, All-cons}
use Rattle.std.specs.List.{All}
use Rattle.av_ir.specs.declared.module.Func.{Func}
use Rattle.av_output_laws.specs.ReturnLaws.{HasFewValues}
use Rattle.av_top.specs.Values.{greater, most_of}

both_below : (m l n : ℕ) → (if nat_lt m l then l else m) < n → (m < n) × (l < n)
both_below m l n h = grind arith

below : (fs : List Func) (m : ℕ) → fold greater m fs < 2 ^ 64 → (m < 2 ^ 64) × All HasFewValues fs
below [] m h = (h, All-nil HasFewValues)
below (f ∷ fs) m h =
    let rest = below fs (greater m f) h in
    let both = both_below m (length f.values) (2 ^ 64) rest.0 in
    (both.0, All-cons HasFewValues f fs both.1 rest.1)

pub few_values : (fs : List Func) → most_of fs < 2 ^ 64 → All HasFewValues fs
few_values fs h = (below fs 0 h).1
