-- Flags of loops, one operation or region after the other.
use Rattle.std.proofs.Common.{◌≡◌, ap, sym, ◌∙◌, refl, ℕ, ◌+◌, ◌<◌, ◌≤◌, Bool, true, false, if◌then◌else◌, List, [], ◌∷◌, ◌++◌, append_assoc, length, length-append, get_or, set, take, arith}
use Rattle.std.specs.List.{flat_map}
use Rattle.std.proofs.lemmas.List.{take_more, flat_map_more, set_at}
use Rattle.std.proofs.lemmas.List.Folds.{flat_map-map}
use Rattle.av_ir.specs.declared.module.Op.{Op, out-Op, fold_out-Op}
use Rattle.av_ir.specs.declared.module.Region.{Region, out-Region, fold_out-Region}
use Rattle.av_ir.specs.Marks.{is_loop, is_none, flag_op, flag_region, op_flags, region_flags}

abbrev pub with_inner : Bool → List Bool → List Bool
with_inner looped inner = if looped then is_none inner ∷ inner else inner

pub op_flags-out : (op : Op) → op_flags op ≡ with_inner (is_loop (out-Op op).kind) (flat_map region_flags (out-Op op).regions)
unfolding op_flags region_flags
op_flags-out op =
    fold_out-Op (List Bool) (List Bool) flag_op flag_region op
    ∙ ap (with_inner (is_loop (out-Op op).kind)) (flat_map-map (λ flags. flags) region_flags (out-Op op).regions)

pub region_flags-out : (region : Region) → region_flags region ≡ flat_map op_flags (out-Region region).ops
unfolding op_flags region_flags
region_flags-out region =
    fold_out-Region (List Bool) (List Bool) flag_op flag_region region ∙ flat_map-map (λ flags. flags) op_flags (out-Region region).ops

-- the flags of one more of a list
pub flags_more : {A : Type 0} (f : A → List Bool) (xs : List A) (i : ℕ) (x : A) (first before now more : List Bool)
    → i < length xs → x ≡ get_or xs i x → now ≡ before ++ more → more ≡ f x → before ≡ first ++ flat_map f (take i xs)
    → now ≡ first ++ flat_map f (take (i + 1) xs)
flags_more f xs i x first before now more below item added is h =
    added ∙ ap (λ l. before ++ l) is ∙ ap (λ l. l ++ f x) h ∙ flat_map_more f first (take i xs) x
    ∙ ap (λ y. first ++ flat_map f (take i xs ++ y ∷ [])) item ∙ ap (λ l. first ++ flat_map f l) (sym (take_more xs i x below))

module _ (op : Op) (regions : List Region) (is : regions ≡ (out-Op op).regions) where
  inside : flat_map region_flags regions ≡ flat_map region_flags (out-Op op).regions
  inside = ap (flat_map region_flags) is

  pub flat_flags : (b : Bool) (old new : List Bool) → b ≡ is_loop (out-Op op).kind → b ≡ false
      → new ≡ old ++ flat_map region_flags regions → new ≡ old ++ op_flags op
  flat_flags b old new tested not h =
      h ∙ ap (λ l. old ++ l) (inside ∙ sym (op_flags-out op ∙ ap (λ t. with_inner t (flat_map region_flags (out-Op op).regions)) (sym tested ∙ not)))

  module _ (b : Bool) (old pushed new : List Bool) (tested : b ≡ is_loop (out-Op op).kind) (looped : b ≡ true)
      (push : pushed ≡ old ++ true ∷ []) (h : new ≡ pushed ++ flat_map region_flags regions) where
    whole : new ≡ old ++ true ∷ flat_map region_flags (out-Op op).regions
    whole = h ∙ ap (λ l. l ++ flat_map region_flags regions) push ∙ append_assoc old (true ∷ []) (flat_map region_flags regions)
        ∙ ap (λ l. old ++ true ∷ l) inside

    own_flags : op_flags op ≡ with_inner true (flat_map region_flags (out-Op op).regions)
    own_flags = op_flags-out op ∙ ap (λ t. with_inner t (flat_map region_flags (out-Op op).regions)) (sym tested ∙ looped)

    long : length new ≡ length old + 1 + length (flat_map region_flags (out-Op op).regions)
    long = omega (arith, ap length whole, length-append old (true ∷ flat_map region_flags (out-Op op).regions))

    none_inside : (inner : List Bool) → length inner ≡ 0 → with_inner true inner ≡ true ∷ inner
    none_inside [] e = refl
    none_inside (x ∷ xs) e = absurd (omega arith)

    some_inside : (inner : List Bool) → 0 < length inner → with_inner true inner ≡ false ∷ inner
    some_inside [] e = absurd (omega arith)
    some_inside (x ∷ xs) e = refl

    pub inner_flags : length new ≤ length old + 1 → new ≡ old ++ op_flags op
    inner_flags short =
        whole ∙ ap (λ l. old ++ l) (sym (own_flags ∙ none_inside (flat_map region_flags (out-Op op).regions) (omega (arith, long))))

    pub outer_flags : (own : ℕ) → own ≡ length old → own + 1 < length new → set new own false ≡ old ++ op_flags op
    outer_flags own at more =
        ap (λ l. set l own false) whole
        ∙ set_at old true (flat_map region_flags (out-Op op).regions) false own (sym at)
        ∙ ap (λ l. old ++ l) (sym (own_flags ∙ some_inside (flat_map region_flags (out-Op op).regions) (omega (arith, long))))
