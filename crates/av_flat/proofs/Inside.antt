-- What an operation touches is inside its buffer.
use Rattle.std.proofs.Common.{◌≡◌, subst, refl, ℕ, ◌<◌, if◌then◌else◌, Bool, true, false, List, [], ◌∷◌, map, drop}
use Rattle.std.specs.Prelude.{ℤ, ◌&&◌, unsigned_abs, Option, Some, None, is_some}
use Rattle.std.specs.List.{All, list_all, range_with_len}
use Rattle.std.proofs.lemmas.List.Elements.{All-nil, All-cons}
use Rattle.av_shapes.specs.Shape.{product}
use Rattle.av_shapes.specs.Places.{place}
use Rattle.av_shapes.proofs.PlaceLemmas.{place-below}
use Rattle.av_ir.specs.declared.run.TrapKind.TheVariants.{OutOfBounds}
use Rattle.av_ir.specs.declared.module.OpKind.TheVariants.{AffineLoad, AffineStore, MemrefLoad, MemrefStore, VectorLoad, VectorStore, VectorMaskedLoad, VectorMaskedStore, VectorGather, VectorScatter}
use Rattle.av_ir.specs.Places.{are_inside}
use Rattle.av_ir.specs.Run.{Memory, Run, ends, traps, Given, word_at}
use Rattle.av_ir.specs.ScalarRun.{buffer_of, element_at, evaluated, load_at, loaded, store_at, stored, subscripts}
use Rattle.av_ir.specs.Lanes.{Lane, lane_at, lane_with, place_at, placed, touched, touches, where_inside}
use Rattle.av_ir.specs.FlatRun.{at_indices, first_lanes, in_masked_row, in_row, index_width, last_lanes}
use Rattle.av_ir.proofs.Insides.{inside-within}
use Rattle.av_flat.specs.Touches.{InsideLaw, IsInside, touched_at}

both : (a b : Bool) → a && b ≡ true → (a ≡ true) × (b ≡ true)
both true b h = (refl, h)
both false b h = absurd (cc)

found_inside : (ns : List ℕ) (zs : List ℤ) (index : ℕ) → (if are_inside ns zs then Some (place ns (map unsigned_abs zs)) else None) ≡ Some index → index < product ns
found_inside ns zs index = by (are_inside ns zs) refl where
  by : (b : Bool) → are_inside ns zs ≡ b → (if b then Some (place ns (map unsigned_abs zs)) else None) ≡ Some index → index < product ns
  by true e h =
      let same : place ns (map unsigned_abs zs) ≡ index = cc in
      subst (λ i. i < product ns) same (place-below ns (map unsigned_abs zs) (inside-within ns zs e))
  by false e h = absurd (cc)

module _ (memory : Memory) (k : ℕ) where
  placed_inside : (o : Option ℕ) → ((index : ℕ) → o ≡ Some index → index < product (buffer_of memory k).sizes) → is_some (placed memory k o) ≡ true
      → IsInside memory (placed memory k o)
  placed_inside None h found = absurd (cc)
  placed_inside (Some index) h found = h index refl

  element_inside : (at : List ℤ) → is_some (place_at memory k at) ≡ true → IsInside memory (place_at memory k at)
  element_inside at = placed_inside (element_at memory k at) (found_inside (buffer_of memory k).sizes at)

  -- ---- one element
  loaded_found : (number : ℕ) (o : Option ℕ) (g : Given) (n : ℕ) → loaded number memory k o ≡ ends g n → is_some (placed memory k o) ≡ true
  loaded_found number None g n h = absurd (cc)
  loaded_found number (Some index) g n h = refl

  stored_found : (number p : ℕ) (o : Option ℕ) (g : Given) (n : ℕ) → stored number memory k p o ≡ ends g n → is_some (placed memory k o) ≡ true
  stored_found number p None g n h = absurd (cc)
  stored_found number p (Some index) g n h = refl

  alone : (at : List ℤ) → is_some (place_at memory k at) ≡ true → All (IsInside memory) (place_at memory k at ∷ [])
  alone at found = All-cons (IsInside memory) (place_at memory k at) [] (element_inside at found) (All-nil (IsInside memory))

  load_inside : (number : ℕ) (at : Option (List ℤ)) (g : Given) (n : ℕ) → load_at number memory k at ≡ ends g n → All (IsInside memory) (touched_at memory k at)
  load_inside number None g n h = absurd (cc)
  load_inside number (Some at) g n h = alone at (loaded_found number (element_at memory k at) g n h)

  store_inside : (number p : ℕ) (at : Option (List ℤ)) (g : Given) (n : ℕ) → store_at number memory k p at ≡ ends g n → All (IsInside memory) (touched_at memory k at)
  store_inside number p None g n h = absurd (cc)
  store_inside number p (Some at) g n h = alone at (stored_found number p (element_at memory k at) g n h)

  -- ---- lanes
  one_inside : (at : Option (List ℤ)) (more : List Lane) → (list_all is_some (touched more) ≡ true → All (IsInside memory) (touched more))
      → list_all is_some (touched (lane_with memory k at ∷ more)) ≡ true → All (IsInside memory) (touched (lane_with memory k at ∷ more))
  one_inside None more next h = next h
  one_inside (Some at) more next h =
      let p = both (is_some (place_at memory k at)) (list_all is_some (touched more)) h in
      All-cons (IsInside memory) (place_at memory k at) (touched more) (element_inside at p.0) (next p.1)

  lanes_inside : (at : ℕ → Option (List ℤ)) (numbers : List ℕ) → list_all is_some (touched (map (lane_at memory k at) numbers)) ≡ true
      → All (IsInside memory) (touched (map (lane_at memory k at) numbers))
  lanes_inside at [] h = All-nil (IsInside memory)
  lanes_inside at (i ∷ more) h = one_inside (at i) (map (lane_at memory k at) more) (lanes_inside at more) h

  row_inside : (number count : ℕ) (at : ℕ → Option (List ℤ)) (run : Run Given) (g : Given) (n : ℕ) → where_inside number (touches count (lane_at memory k at)) run ≡ ends g n
      → All (IsInside memory) (touches count (lane_at memory k at))
  row_inside number count at run g n = by (list_all is_some (touches count (lane_at memory k at))) refl where
    by : (b : Bool) → list_all is_some (touches count (lane_at memory k at)) ≡ b → (if b then run else traps OutOfBounds number 0) ≡ ends g n
        → All (IsInside memory) (touches count (lane_at memory k at))
    by true e h = lanes_inside at (range_with_len 0 count) e
    by false e h = absurd (cc)

pub inside : InsideLaw
inside scale operands results (AffineLoad m) number values bodies memory g n h = load_inside memory (word_at values 0) number (evaluated m (drop 1 values)) g n h
inside scale operands results (AffineStore m) number values bodies memory g n h =
    store_inside memory (word_at values 1) number (word_at values 0) (evaluated m (drop 2 values)) g n h
inside scale operands results MemrefLoad number values bodies memory g n h = load_inside memory (word_at values 0) number (Some (subscripts (drop 1 values))) g n h
inside scale operands results MemrefStore number values bodies memory g n h =
    store_inside memory (word_at values 1) number (word_at values 0) (Some (subscripts (drop 2 values))) g n h
inside scale operands results VectorLoad number values bodies memory g n h =
    row_inside memory (word_at values 0) number (first_lanes scale results) (in_row (subscripts (drop 1 values))) _ g n h
inside scale operands results VectorStore number values bodies memory g n h =
    row_inside memory (word_at values 1) number (first_lanes scale operands) (in_row (subscripts (drop 2 values))) _ g n h
inside scale operands results VectorMaskedLoad number values bodies memory g n h =
    row_inside memory (word_at values 0) number (first_lanes scale results) (in_masked_row values) _ g n h
inside scale operands results VectorMaskedStore number values bodies memory g n h =
    row_inside memory (word_at values 0) number (last_lanes scale operands) (in_masked_row values) _ g n h
inside scale operands results VectorGather number values bodies memory g n h =
    row_inside memory (word_at values 0) number (first_lanes scale results) (at_indices (index_width operands) values) _ g n h
inside scale operands results VectorScatter number values bodies memory g n h =
    row_inside memory (word_at values 0) number (last_lanes scale operands) (at_indices (index_width operands) values) _ g n h
inside scale operands results kind number values bodies memory g n h = All-nil (IsInside memory)
