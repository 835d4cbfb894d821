-- Arguments in memory, one after the other.
use Rattle.std.proofs.Common.{◌≡◌, ℕ, ◌+◌, List, [], ◌∷◌, ◌++◌, length, map, arith, ap, sym, ◌∙◌, refl, append_assoc}
use Rattle.std.specs.List.{range_with_len}
use Rattle.std.proofs.lemmas.List.{map-id, length_push}
use Rattle.std.proofs.lemmas.List.FromFn.{map-range_with_len_more, fill_by_all}
use Rattle.av_ir.specs.declared.run.Buffer.{Buffer}
use Rattle.av_ir.specs.declared.run.Arg.{Arg}
use Rattle.av_ir.specs.declared.run.Arg.TheVariants.{Buf}
use Rattle.av_ir.specs.Memory.{buffers_of, words_of, buffer_at, no_buffer}

one_place : (n : ℕ) → range_with_len 0 (n + 1) ≡ range_with_len 0 n ++ n ∷ []
one_place n =
    sym (map-id (range_with_len 0 (n + 1))) ∙ map-range_with_len_more (λ k. k) 0 n n (omega arith)
    ∙ ap (λ l. l ++ n ∷ []) (map-id (range_with_len 0 n))

-- a buffer is put at the end of memory
module _ (memory new : List Buffer) (b : Buffer) (arg : Arg) (is : arg ≡ Buf b) (rest more : List Arg) (next : rest ≡ arg ∷ more) (pushed : new ≡ memory ++ b ∷ []) where
  pub buffer-put : (all : List Buffer) → memory ++ buffers_of rest ≡ all → new ++ buffers_of more ≡ all
  buffer-put all h =
      ap (λ l. l ++ buffers_of more) pushed ∙ append_assoc memory (b ∷ []) (buffers_of more)
      ∙ ap (λ l. memory ++ l) (sym (ap buffers_of next ∙ ap (λ x. buffers_of (x ∷ more)) is)) ∙ h

  pub words-left : (words all : List ℕ) → words ++ words_of rest ≡ all → words ++ words_of more ≡ all
  words-left words all h = ap (λ l. words ++ l) (sym (ap words_of next ∙ ap (λ x. words_of (x ∷ more)) is)) ∙ h

  pub place-put : (at now : List ℕ) (n : ℕ) → now ≡ at ++ n ∷ [] → n ≡ length memory → at ≡ range_with_len 0 (length memory)
      → now ≡ range_with_len 0 (length new)
  place-put at now n put count h =
      put ∙ ap (λ l. l ++ n ∷ []) h ∙ ap (λ k. range_with_len 0 (length memory) ++ k ∷ []) count ∙ sym (one_place (length memory))
      ∙ ap (range_with_len 0) (sym (length_push memory b) ∙ ap length (sym pushed))

-- where each argument has a buffer of its own, in order, their buffers are the memory
pub all-in_order : (memory : List Buffer) (at : List ℕ) → at ≡ range_with_len 0 (length memory) → memory ≡ map (buffer_at memory) at
all-in_order memory at h =
    fill_by_all (buffer_at memory) memory (length memory) no_buffer refl (λ k l. refl) ∙ ap (map (buffer_at memory)) (sym h)
