-- The loops with no loop inside, function after function.
use Rattle.std.proofs.Common.{◌≡◌, ap, sym, ◌∙◌, ℕ, ◌+◌, ◌<◌, Bool, List, ◌∷◌, ◌++◌, append_assoc, length, length-append, get_or, drop}
use Rattle.std.specs.List.{flat_map}
use Rattle.std.proofs.lemmas.List.{drop_more}
use Rattle.std.proofs.Math.Seq.{drop-append_seam}
use Rattle.av_ir.specs.declared.module.Func.{Func}
use Rattle.av_ir.specs.declared.module.Op.{Op}
use Rattle.av_ir.specs.declared.module.Region.{out-Region}
use Rattle.av_ir.specs.declared.marking.InnerLoop.{InnerLoop}
use Rattle.av_ir.specs.Marks.{op_flags, region_flags, inner_among, inner_from}
use Rattle.av_ir.proofs.Flags.{region_flags-out}

module _ (funcs : List Func) (i : ℕ) (f : Func) (flags more : List Bool) (ops : List Op) (inner pushed : List InnerLoop) (number : ℕ) where
  pub one_more_func : i < length funcs → f ≡ get_or funcs i f → ops ≡ (out-Region f.body).ops → more ≡ flags ++ flat_map op_flags ops
      → number ≡ length flags → pushed ≡ inner ++ inner_among i number (drop number more)
      → inner ++ inner_from i (length flags) (drop i funcs) ≡ inner_from 0 0 funcs
      → pushed ++ inner_from (i + 1) (length more) (drop (i + 1) funcs) ≡ inner_from 0 0 funcs
  one_more_func below item here flagged from push h =
      let own = region_flags f.body in
      let later = λ (n : ℕ). inner_from (i + 1) n (drop (i + 1) funcs) in
      let rest : drop i funcs ≡ f ∷ drop (i + 1) funcs = drop_more funcs i f below ∙ ap (λ y. y ∷ drop (i + 1) funcs) (sym item) in
      let whole : more ≡ flags ++ own = flagged ∙ ap (λ l. flags ++ flat_map op_flags l) here ∙ ap (λ l. flags ++ l) (sym (region_flags-out f.body)) in
      let behind : drop number more ≡ own = ap (λ n. drop n more) from ∙ ap (drop (length flags)) whole ∙ drop-append_seam flags own in
      ap (λ l. l ++ later (length more)) (push ∙ ap (λ l. inner ++ inner_among i number l) behind ∙ ap (λ n. inner ++ inner_among i n own) from)
      ∙ append_assoc inner (inner_among i (length flags) own) (later (length more))
      ∙ ap (λ n. inner ++ (inner_among i (length flags) own ++ later n)) (ap length whole ∙ length-append flags own)
      ∙ ap (λ l. inner ++ inner_from i (length flags) l) (sym rest)
      ∙ h
