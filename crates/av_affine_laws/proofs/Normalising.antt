-- What is normalised is normal and gives the same values, and what is normal stays.
use Rattle.std.proofs.Common.{◌≡◌, ℕ, ◌+◌, ◌<◌, List, [], ◌∷◌, ◌++◌, length, get_or, slice_index, map, take, drop, All, Contains, flat_map, refl, sym, ap, ap₂, subst, ◌∙◌, arith, length-append, length-drop, take-append-drop, take_at, drop_at}
use Rattle.std.specs.Prelude.{ℤ, pos}
use Rattle.std.specs.List.{AllByRecursion}
use Rattle.std.proofs.lemmas.List.{get_or-map, length-take-le, map-append}
use Rattle.std.proofs.lemmas.List.Elements.{All-from_recursion, All-map, All-nil, All-weaker, Contains-get_or, recursion_from_All}
use Rattle.av_affine.specs.declared.expression.AffMap.{AffMap}
use Rattle.av_affine.specs.declared.expression.Leaf.{Leaf}
use Rattle.av_affine.specs.declared.expression.Leaf.TheVariants.{Dim, Sym}
use Rattle.av_affine.specs.declared.expression.Expr.{Expr, Param, Const, Neg', Add', Sub', Mul', Mod', Floor', Ceil', end_of-Expr, more_of-Expr}
use Rattle.av_affine.specs.Results.{values_of}
use Rattle.av_affine_laws.specs.Normalised.{Applied, Operands, by_kind, place_among, with_parameter, occur, occur_in, occurring, parameter_for, renamed, over_values, normalised, parameters, parameters_of, dimensions, symbols, IsNumbered, IsNormal, IsParameterOf, at_operands}
use Rattle.av_affine_laws.specs.NormalisedLaws.{NormalisedValuesLaw, NormalisedIsNormalLaw, NormalIsAppliedLaw, NormalisedOperandsLaw, NormalStaysLaw, NormalisedTwiceLaw}
use Rattle.av_affine_laws.proofs.Distinct.{Distinct, with_values, with_values-all, at_place, place_of_place, with_values-there}
use Rattle.av_affine_laws.proofs.Numbered.{once, once-distinct, once-numbered, numbered, numbered-below}
use Rattle.av_affine_laws.proofs.Renamed.{each_left, each_right, value_of-renamed, value_of-same, parameters-renamed, renamed-same}

-- ---- facts of each parameter, by kind
each_of_kinds : (P : Leaf → Type 0) (ls : List Leaf) → AllByRecursion (λ k. P (Dim k)) (dimensions ls)
    → AllByRecursion (λ k. P (Sym k)) (symbols ls) → AllByRecursion P ls
each_of_kinds P [] h g = tt
each_of_kinds P (Dim k ∷ ls) h g = (h.0, each_of_kinds P ls h.1 g)
each_of_kinds P (Sym k ∷ ls) h g = (g.0, each_of_kinds P ls h g.1)

each_dimension : (P : Leaf → Type 0) (ls : List Leaf) → AllByRecursion P ls → AllByRecursion (λ k. P (Dim k)) (dimensions ls)
each_dimension P [] h = tt
each_dimension P (Dim k ∷ ls) h = (h.0, each_dimension P ls h.1)
each_dimension P (Sym k ∷ ls) h = each_dimension P ls h.1

each_symbol : (P : Leaf → Type 0) (ls : List Leaf) → AllByRecursion P ls → AllByRecursion (λ k. P (Sym k)) (symbols ls)
each_symbol P [] h = tt
each_symbol P (Dim k ∷ ls) h = each_symbol P ls h.1
each_symbol P (Sym k ∷ ls) h = (h.0, each_symbol P ls h.1)

each_both : (P Q R : ℕ → Type 0) → ((k : ℕ) → P k → Q k → R k) → (ks : List ℕ) → AllByRecursion P ks → AllByRecursion Q ks → AllByRecursion R ks
each_both P Q R f [] h g = tt
each_both P Q R f (k ∷ ks) h g = (f k h.0 g.0, each_both P Q R f ks h.1 g.1)

each_mapped : (P : ℕ → Type 0) (f : ℕ → ℕ) (ks : List ℕ) → AllByRecursion P (map f ks) → AllByRecursion (λ k. P (f k)) ks
each_mapped P f [] h = tt
each_mapped P f (k ∷ ks) h = (h.0, each_mapped P f ks h.1)

-- ---- the values that occur, from the list of parameters
abbrev collect : Operands → Operands → List Leaf → Operands
collect given used [] = used
collect given used (l ∷ ls) = collect given (with_parameter given used l) ls

collect-append : (given used : Operands) (ks ls : List Leaf) → collect given used (ks ++ ls) ≡ collect given (collect given used ks) ls
collect-append given used [] ls = refl
collect-append given used (k ∷ ks) ls = collect-append given (with_parameter given used k) ks ls

collect-two : (given used next : Operands) (ks ls : List Leaf) → next ≡ collect given used ks → collect given next ls ≡ collect given used (ks ++ ls)
collect-two given used next ks ls h = ap (λ u. collect given u ls) h ∙ sym (collect-append given used ks ls)

occur-collect : (given used : Operands) (e : Expr) → occur given used e ≡ collect given used (parameters e)
unfolding occur parameters
occur-collect given used (Param leaf) = refl
occur-collect given used (Const z) = refl
occur-collect given used (Neg' s (more_of-Expr a end_of-Expr)) = occur-collect given used a
occur-collect given used (Add' s (more_of-Expr a end_of-Expr) t (more_of-Expr b end_of-Expr)) =
    occur-collect given (occur given used a) b ∙ collect-two given used (occur given used a) (parameters a) (parameters b) (occur-collect given used a)
occur-collect given used (Sub' s (more_of-Expr a end_of-Expr) t (more_of-Expr b end_of-Expr)) =
    occur-collect given (occur given used a) b ∙ collect-two given used (occur given used a) (parameters a) (parameters b) (occur-collect given used a)
occur-collect given used (Mul' s (more_of-Expr a end_of-Expr) t (more_of-Expr b end_of-Expr)) =
    occur-collect given (occur given used a) b ∙ collect-two given used (occur given used a) (parameters a) (parameters b) (occur-collect given used a)
occur-collect given used (Mod' s (more_of-Expr a end_of-Expr) t (more_of-Expr b end_of-Expr)) =
    occur-collect given (occur given used a) b ∙ collect-two given used (occur given used a) (parameters a) (parameters b) (occur-collect given used a)
occur-collect given used (Floor' s (more_of-Expr a end_of-Expr) t (more_of-Expr b end_of-Expr)) =
    occur-collect given (occur given used a) b ∙ collect-two given used (occur given used a) (parameters a) (parameters b) (occur-collect given used a)
occur-collect given used (Ceil' s (more_of-Expr a end_of-Expr) t (more_of-Expr b end_of-Expr)) =
    occur-collect given (occur given used a) b ∙ collect-two given used (occur given used a) (parameters a) (parameters b) (occur-collect given used a)

occur_in-collect : (given used : Operands) (es : List Expr) → occur_in given used es ≡ collect given used (flat_map parameters es)
occur_in-collect given used [] = refl
occur_in-collect given used (e ∷ es) =
    occur_in-collect given (occur given used e) es
    ∙ collect-two given used (occur given used e) (parameters e) (flat_map parameters es) (occur-collect given used e)

collect-dims : (given used : Operands) (ls : List Leaf)
    → (collect given used ls).dims ≡ with_values used.dims (map (slice_index given.dims) (dimensions ls))
collect-dims given used [] = refl
collect-dims given used (Dim k ∷ ls) = collect-dims given (with_parameter given used (Dim k)) ls
collect-dims given used (Sym k ∷ ls) = collect-dims given (with_parameter given used (Sym k)) ls

collect-syms : (given used : Operands) (ls : List Leaf)
    → (collect given used ls).syms ≡ with_values used.syms (map (slice_index given.syms) (symbols ls))
collect-syms given used [] = refl
collect-syms given used (Dim k ∷ ls) = collect-syms given (with_parameter given used (Dim k)) ls
collect-syms given used (Sym k ∷ ls) = collect-syms given (with_parameter given used (Sym k)) ls

-- the values of the dimensions that occur, and of the symbols
abbrev dimension_values : Operands → List Expr → List ℕ
dimension_values given es = map (slice_index given.dims) (dimensions (flat_map parameters es))

abbrev symbol_values : Operands → List Expr → List ℕ
symbol_values given es = map (slice_index given.syms) (symbols (flat_map parameters es))

occurring-dims : (given : Operands) (es : List Expr) → (occurring given es).dims ≡ once (dimension_values given es)
occurring-dims given es =
    ap (λ u. u.dims) (occur_in-collect given (record { dims = []; syms = [] }) es)
    ∙ collect-dims given (record { dims = []; syms = [] }) (flat_map parameters es)

occurring-syms : (given : Operands) (es : List Expr) → (occurring given es).syms ≡ once (symbol_values given es)
occurring-syms given es =
    ap (λ u. u.syms) (occur_in-collect given (record { dims = []; syms = [] }) es)
    ∙ collect-syms given (record { dims = []; syms = [] }) (flat_map parameters es)

-- ---- what is normalised is normal
all_parameters-renamed : (f : Leaf → Leaf) (es : List Expr) → flat_map parameters (map (renamed f) es) ≡ map f (flat_map parameters es)
all_parameters-renamed f [] = refl
all_parameters-renamed f (e ∷ es) =
    ap₂ ◌++◌ (parameters-renamed f e) (all_parameters-renamed f es) ∙ sym (map-append f (parameters e) (flat_map parameters es))

dimensions-renamed : (given used : Operands) (ls : List Leaf)
    → dimensions (map (parameter_for given used) ls) ≡ map (place_among used.dims) (map (slice_index given.dims) (dimensions ls))
dimensions-renamed given used [] = refl
dimensions-renamed given used (Dim k ∷ ls) = ap (λ ks. place_among used.dims (slice_index given.dims k) ∷ ks) (dimensions-renamed given used ls)
dimensions-renamed given used (Sym k ∷ ls) = dimensions-renamed given used ls

symbols-renamed : (given used : Operands) (ls : List Leaf)
    → symbols (map (parameter_for given used) ls) ≡ map (place_among used.syms) (map (slice_index given.syms) (symbols ls))
symbols-renamed given used [] = refl
symbols-renamed given used (Dim k ∷ ls) = symbols-renamed given used ls
symbols-renamed given used (Sym k ∷ ls) = ap (λ ks. place_among used.syms (slice_index given.syms k) ∷ ks) (symbols-renamed given used ls)

numbered_by : (us xs : List ℕ) → us ≡ once xs → IsNumbered (length us) (map (place_among us) xs)
numbered_by us xs h = subst (λ vs. IsNumbered (length vs) (map (place_among vs) xs)) (sym h) (numbered xs)

distinct_by : (us xs vs : List ℕ) → us ≡ once xs → vs ≡ us → Distinct vs
distinct_by us xs vs h g = subst Distinct (sym (g ∙ h)) (once-distinct xs)

over_values-normal : (given used : Operands) (es : List Expr) → used.dims ≡ once (dimension_values given es)
    → used.syms ≡ once (symbol_values given es) → (let n = over_values given used es in IsNormal n.map n.operands)
over_values-normal given used es h g =
    let f = parameter_for given used in
    let ls = flat_map parameters es in
    record {
      counts = length-append used.dims used.syms;
      dims_numbered =
          subst (IsNumbered (length used.dims)) (sym (ap dimensions (all_parameters-renamed f es) ∙ dimensions-renamed given used ls))
          (numbered_by used.dims (dimension_values given es) h);
      syms_numbered =
          subst (IsNumbered (length used.syms)) (sym (ap symbols (all_parameters-renamed f es) ∙ symbols-renamed given used ls))
          (numbered_by used.syms (symbol_values given es) g);
      dims_differ = distinct_by used.dims (dimension_values given es) _ h (take_at used.dims used.syms (length used.dims) refl);
      syms_differ = distinct_by used.syms (symbol_values given es) _ g (drop_at used.dims used.syms (length used.dims) refl);
    }

pub normalised-is-normal-law : NormalisedIsNormalLaw
normalised-is-normal-law m operands =
    let given = by_kind m operands in
    over_values-normal given (occurring given m.results) m.results (occurring-dims given m.results) (occurring-syms given m.results)

-- ---- what is normal stays
all_renamed-same : (f : Leaf → Leaf) (es : List Expr) → AllByRecursion (λ l. f l ≡ l) (flat_map parameters es) → map (renamed f) es ≡ es
all_renamed-same f [] h = refl
all_renamed-same f (e ∷ es) h =
    ap₂ ◌∷◌ (renamed-same f e (each_left (λ l. f l ≡ l) (parameters e) (flat_map parameters es) h))
    (all_renamed-same f es (each_right (λ l. f l ≡ l) (parameters e) (flat_map parameters es) h))

abbrev operands_of : List ℕ → List ℕ → Operands
operands_of ds ss = record { dims = ds; syms = ss }

abbrev map_of : ℕ → ℕ → List Expr → AffMap
map_of d s es = record { dims = d; syms = s; results = es }

abbrev applied : AffMap → List ℕ → Applied
applied m operands = record { map = m; operands = operands }

module _ (m : AffMap) (operands : List ℕ) (h : length operands ≡ m.dims + m.syms) where
  dims-length : length (take m.dims operands) ≡ m.dims
  dims-length = length-take-le m.dims operands (omega (arith, h))

  syms-length : length (drop m.dims operands) ≡ m.syms
  syms-length = length-drop m.dims operands ∙ omega (arith, h)

module _ (m : AffMap) (operands : List ℕ) (h : IsNormal m operands) where
  dims-kept : IsNumbered (length (take m.dims operands)) (dimensions (parameters_of m))
  dims-kept = subst (λ n. IsNumbered n (dimensions (parameters_of m))) (sym (dims-length m operands h.counts)) h.dims_numbered

  syms-kept : IsNumbered (length (drop m.dims operands)) (symbols (parameters_of m))
  syms-kept = subst (λ n. IsNumbered n (symbols (parameters_of m))) (sym (syms-length m operands h.counts)) h.syms_numbered

  occurring-kept : occurring (by_kind m operands) m.results ≡ by_kind m operands
  occurring-kept =
      ap₂ operands_of
      (occurring-dims (by_kind m operands) m.results ∙ once-numbered (take m.dims operands) (dimensions (parameters_of m)) h.dims_differ dims-kept)
      (occurring-syms (by_kind m operands) m.results ∙ once-numbered (drop m.dims operands) (symbols (parameters_of m)) h.syms_differ syms-kept)

  parameters-kept : AllByRecursion (λ l. parameter_for (by_kind m operands) (by_kind m operands) l ≡ l) (parameters_of m)
  parameters-kept =
      let ds = take m.dims operands in
      let ss = drop m.dims operands in
      each_of_kinds (λ l. parameter_for (by_kind m operands) (by_kind m operands) l ≡ l) (parameters_of m)
      (recursion_from_All (λ k. Dim (place_among ds (slice_index ds k)) ≡ Dim k) (dimensions (parameters_of m))
      (All-weaker (λ k. k < length ds) (λ k. Dim (place_among ds (slice_index ds k)) ≡ Dim k)
      (λ k l. ap Dim (place_of_place ds k h.dims_differ l)) (dimensions (parameters_of m))
      (numbered-below (length ds) (dimensions (parameters_of m)) dims-kept)))
      (recursion_from_All (λ k. Sym (place_among ss (slice_index ss k)) ≡ Sym k) (symbols (parameters_of m))
      (All-weaker (λ k. k < length ss) (λ k. Sym (place_among ss (slice_index ss k)) ≡ Sym k)
      (λ k l. ap Sym (place_of_place ss k h.syms_differ l)) (symbols (parameters_of m))
      (numbered-below (length ss) (symbols (parameters_of m)) syms-kept)))

  stays : normalised m operands ≡ applied m operands
  stays =
      ap (λ used. over_values (by_kind m operands) used m.results) occurring-kept
      ∙ ap₂ applied
      (ap (λ d. map_of d (length (drop m.dims operands)) (map (renamed (parameter_for (by_kind m operands) (by_kind m operands))) m.results)) (dims-length m operands h.counts)
      ∙ ap₂ (map_of m.dims) (syms-length m operands h.counts) (all_renamed-same _ m.results parameters-kept))
      (take-append-drop m.dims operands)

pub normal-stays-law : NormalStaysLaw
normal-stays-law m operands h = stays m operands h

pub normalised-twice-law : NormalisedTwiceLaw
normalised-twice-law m operands =
    let n = normalised m operands in normal-stays-law n.map n.operands (normalised-is-normal-law m operands)

-- ---- operands
pub normal-is-applied-law : NormalIsAppliedLaw
normal-is-applied-law m operands h = record {
  counts = h.counts;
  parameters =
      All-from_recursion (IsParameterOf m) (parameters_of m)
      (each_of_kinds (IsParameterOf m) (parameters_of m)
      (recursion_from_All (λ k. k < m.dims) (dimensions (parameters_of m)) (numbered-below m.dims (dimensions (parameters_of m)) h.dims_numbered))
      (recursion_from_All (λ k. k < m.syms) (symbols (parameters_of m)) (numbered-below m.syms (symbols (parameters_of m)) h.syms_numbered)));
}

-- what stands for numbers below the length is of the list
once-among : (ws us vs ks : List ℕ) (n : ℕ) → ws ≡ us → us ≡ once (map (slice_index vs) ks) → length vs ≡ n
    → AllByRecursion (λ k. k < n) ks → All (Contains vs) ws
once-among ws us vs ks n e h q a =
    subst (All (Contains vs)) (sym (e ∙ h))
    (with_values-all (Contains vs) [] (map (slice_index vs) ks) (All-nil (Contains vs))
    (recursion_from_All (Contains vs) (map (slice_index vs) ks)
    (All-map (Contains vs) (slice_index vs) ks
    (All-weaker (λ k. k < n) (λ k. Contains vs (slice_index vs k)) (λ k l. Contains-get_or vs k 0 (subst (λ i. k < i) (sym q) l)) ks
    (All-from_recursion (λ k. k < n) ks a)))))

pub normalised-operands-law : NormalisedOperandsLaw
normalised-operands-law m operands h =
    let given = by_kind m operands in
    let used = occurring given m.results in
    let ls = parameters_of m in
    let here = recursion_from_All (IsParameterOf m) ls h.parameters in (
      once-among _ used.dims given.dims (dimensions ls) m.dims (take_at used.dims used.syms (length used.dims) refl)
          (occurring-dims given m.results) (dims-length m operands h.counts) (each_dimension (IsParameterOf m) ls here),
      once-among _ used.syms given.syms (symbols ls) m.syms (drop_at used.dims used.syms (length used.dims) refl)
          (occurring-syms given m.results) (syms-length m operands h.counts) (each_symbol (IsParameterOf m) ls here),
    )

-- ---- values
all_values-renamed : (f g : Leaf → ℤ) (h : Leaf → Leaf) (es : List Expr) → AllByRecursion (λ l. f (h l) ≡ g l) (flat_map parameters es)
    → values_of f (map (renamed h) es) ≡ values_of g es
all_values-renamed f g h [] a = refl
all_values-renamed f g h (e ∷ es) a =
    ap₂ ◌∷◌
    (value_of-renamed f h e ∙ value_of-same (λ l. f (h l)) g e (each_left (λ l. f (h l) ≡ g l) (parameters e) (flat_map parameters es) a))
    (all_values-renamed f g h es (each_right (λ l. f (h l) ≡ g l) (parameters e) (flat_map parameters es) a))

-- the value of a parameter is that of the one that stands for it
same_value : (environment : ℕ → ℤ) (ws us vs : List ℕ) (k : ℕ) → ws ≡ us → k < length vs → place_among us (slice_index vs k) < length us
    → get_or (map environment ws) (place_among us (slice_index vs k)) (pos 0) ≡ get_or (map environment vs) k (pos 0)
same_value environment ws us vs k e l h =
    ap (λ ys. get_or (map environment ys) (place_among us (slice_index vs k)) (pos 0)) e
    ∙ get_or-map environment us (place_among us (slice_index vs k)) 0 (pos 0) h
    ∙ ap environment (at_place us (slice_index vs k) h)
    ∙ sym (get_or-map environment vs k 0 (pos 0) l)

-- and there is one for each that occurs
there : (us vs ks : List ℕ) → us ≡ once (map (slice_index vs) ks) → AllByRecursion (λ k. place_among us (slice_index vs k) < length us) ks
there us vs ks h =
    each_mapped (λ v. place_among us v < length us) (slice_index vs) ks
    (subst (λ ws. AllByRecursion (λ v. place_among ws v < length ws) (map (slice_index vs) ks)) (sym h)
    (with_values-there [] (map (slice_index vs) ks)))

same_values : (environment : ℕ → ℤ) (ws us vs ks : List ℕ) (n : ℕ) → ws ≡ us → us ≡ once (map (slice_index vs) ks) → length vs ≡ n
    → AllByRecursion (λ k. k < n) ks
    → AllByRecursion (λ k. get_or (map environment ws) (place_among us (slice_index vs k)) (pos 0) ≡ get_or (map environment vs) k (pos 0)) ks
same_values environment ws us vs ks n e h q a =
    each_both (λ k. k < n) (λ k. place_among us (slice_index vs k) < length us)
    (λ k. get_or (map environment ws) (place_among us (slice_index vs k)) (pos 0) ≡ get_or (map environment vs) k (pos 0))
    (λ k l. same_value environment ws us vs k e (subst (λ i. k < i) (sym q) l)) ks a (there us vs ks h)

pub normalised-values-law : NormalisedValuesLaw
normalised-values-law environment m operands h =
    let given = by_kind m operands in
    let used = occurring given m.results in
    let n = normalised m operands in
    let ls = parameters_of m in
    let here = recursion_from_All (IsParameterOf m) ls h.parameters in
    all_values-renamed (at_operands environment n.map n.operands) (at_operands environment m operands) (parameter_for given used) m.results
    (each_of_kinds (λ l. at_operands environment n.map n.operands (parameter_for given used l) ≡ at_operands environment m operands l) ls
    (same_values environment _ used.dims given.dims (dimensions ls) m.dims (take_at used.dims used.syms (length used.dims) refl)
    (occurring-dims given m.results) (dims-length m operands h.counts) (each_dimension (IsParameterOf m) ls here))
    (same_values environment _ used.syms given.syms (symbols ls) m.syms (drop_at used.dims used.syms (length used.dims) refl)
    (occurring-syms given m.results) (syms-length m operands h.counts) (each_symbol (IsParameterOf m) ls here)))
