-- Types, entries and maps of the trees that are printed for sound programs.
use Rattle.std.proofs.Common.{ℕ, zero, suc, ◌-◌, ◌<◌, ◌≤◌, ◌^◌, inl, inr, List, [], ◌∷◌, map, refl, subst, sym, arith, codes}
use Rattle.std.specs.Prelude.{ℤ, pos, negsuc, unsigned_abs, ◌%◌, None}
use Rattle.std.specs.List.{All}
use Rattle.std.proofs.lemmas.List.Elements.{All-nil}
use Rattle.av_lex.specs.declared.token.Kind.TheVariants as kinds
use Rattle.av_lex.specs.Bytes.{in_class}
use Rattle.av_bits.specs.declared.types.Width.TheVariants.{W32}
use Rattle.av_bits.specs.Pattern.{signed_value}
use Rattle.av_bits.proofs.Values.{signed_value-cases}
use Rattle.av_ir.specs.declared.ty.Elem.TheVariants.{Index}
use Rattle.av_ir.specs.declared.ty.Ty.TheVariants.{Scalar}
use Rattle.av_tree.specs.declared.attribute.Attr.{Attr}
use Rattle.av_tree.specs.declared.attribute.Attr.TheVariants as attr
use Rattle.av_tree.specs.declared.attribute.Named.{Named, Named-F, out-roll-Named}
use Rattle.av_tree.specs.declared.written.ExprText.{ExprText}
use Rattle.av_tree.specs.declared.written.ExprText.TheVariants as expr
use Rattle.av_tree.specs.declared.written.MapText.{MapText}
use Rattle.av_tree.specs.declared.written.SizeText.TheVariants as sizes
use Rattle.av_tree.specs.declared.written.TypeText.TheVariants as text
use Rattle.av_totree.specs.Types.{type_of}
use Rattle.av_totree.specs.Constants.{signed_low}
use Rattle.av_program_laws.specs.Programs.{Subscript, fixed, variable, plus, minus}
use Rattle.av_program_laws.specs.Walks.{element, buffer}
use Rattle.av_program_laws.specs.WrittenTrees.{entry, number_of, mark, constant_attr, dimension, over, bound_map, subscript_map, map_entry, loop_properties}
use Rattle.av_program_laws.specs.Sound.{IsBound, IsOffset, IsSoundSubscript}
use Rattle.av_print_laws.specs.Spacing.{IsWord}
use Rattle.av_print_laws.specs.ReadTypes as types
use Rattle.av_print_laws.specs.ReadTypes.{IsShortNumber, IsShortSize, IsReadType, AreReadTypes}
use Rattle.av_print_laws.specs.ReadExpressions as expressions
use Rattle.av_print_laws.specs.ReadExpressions.{IsShortInteger, IsReadExpr, IsReadMap}
use Rattle.av_print_laws.specs.ReadAttributes as read
use Rattle.av_print_laws.specs.ReadAttributes.{IsReadAttr, AreReadEntries, no_entries, one_entry_more}
use Rattle.av_print_laws.proofs.Words.{is_word}

pub all_cons : {X : Type 0} (P : X → Type 0) (x : X) (xs : List X) → P x → All P xs → All P (x ∷ xs)
all_cons P x xs h more zero d below = h
all_cons P x xs h more (suc k) d below = more k d (omega arith)

pub all_tail : {X : Type 0} (P : X → Type 0) (x : X) (xs : List X) → All P (x ∷ xs) → All P xs
all_tail P x xs h k d below = h (suc k) d (omega arith)

-- ---- numbers
pub short-bound : (z : ℤ) → unsigned_abs z ≤ 2 ^ 110 → IsShortInteger z
short-bound (pos n) h = omega arith
short-bound (negsuc n) h = omega arith

short-offset : (z : ℤ) → IsOffset z → IsShortInteger z
short-offset z h = short-bound z (omega arith)

pub short-few : (n : ℕ) → n < 2 ^ 64 → IsShortInteger (pos n)
short-few n h = omega arith

short-pattern : (q : ℕ) → q < 2 ^ 32 → IsShortInteger (signed_value 32 q)
short-pattern q below =
    elim (signed_value-cases 32 q below) [
      | inl c ↦ subst IsShortInteger (sym c.1) (low q below)
      | inr c ↦ subst IsShortInteger (sym c.1) (high q below)
    ]
  where
    low : (q : ℕ) → q < 2 ^ 32 → IsShortInteger (pos q)
    low q below = omega arith

    high : (q : ℕ) → q < 2 ^ 32 → IsShortInteger (negsuc (2 ^ 32 - suc q))
    high q below = omega arith

short-constant : (pattern : ℕ) → IsShortInteger (signed_low W32 pattern)
short-constant pattern = short-pattern (pattern % 2 ^ 32) (omega arith)

-- ---- types
i32_word : IsWord kinds.Word (codes "i32")
unfolding in_class
i32_word = is_word (codes "i32") refl

i32_type : IsReadType (text.Scalar (codes "i32"))
i32_type = types.scalar (codes "i32") i32_word

i64_type : IsReadType (text.Scalar (codes "i64"))
unfolding in_class
i64_type = types.scalar (codes "i64") (is_word (codes "i64") refl)

index_text : IsReadType (text.Scalar (codes "index"))
unfolding in_class
index_text = types.scalar (codes "index") (is_word (codes "index") refl)

pub index_type : IsReadType (type_of (Scalar Index))
index_type = index_text

pub element_type : IsReadType (type_of element)
element_type = i32_type

short-size : (size : ℕ) → size < 2 ^ 31 → IsShortNumber size
short-size size h = omega arith

pub buffer_type : (size : ℕ) → size < 2 ^ 31 → IsReadType (type_of (buffer size))
buffer_type size h =
    types.mem_ref (sizes.Fixed size ∷ []) (codes "i32") None (all_cons IsShortSize (sizes.Fixed size) [] (short-size size h) (All-nil IsShortSize)) i32_word tt

pub buffer_types : (buffers : List ℕ) → All (λ size. size < 2 ^ 31) buffers → AreReadTypes (map (λ size. type_of (buffer size)) buffers)
buffer_types [] h = types.none
buffer_types (size ∷ buffers) h =
    types.more (type_of (buffer size)) (map (λ size. type_of (buffer size)) buffers) (buffer_type size (h 0 0 (omega arith)))
    (buffer_types buffers (all_tail (λ size. size < 2 ^ 31) size buffers h))

pub function_type : (buffers : List ℕ) → All (λ size. size < 2 ^ 31) buffers
    → IsReadAttr (attr.Type (text.Func (map (λ size. type_of (buffer size)) buffers) []))
function_type buffers h = read.typed _ (types.func (map (λ size. type_of (buffer size)) buffers) [] (buffer_types buffers h) types.none)

-- ---- maps
d0_word : IsWord kinds.Word dimension
unfolding in_class
d0_word = is_word dimension refl

over_none : (e : ExprText) → IsReadExpr e → IsReadMap (over [] e)
over_none e h = record { dims = All-nil (IsWord kinds.Word); syms = All-nil (IsWord kinds.Word); results = all_cons IsReadExpr e [] h (All-nil IsReadExpr) }

over_one : (e : ExprText) → IsReadExpr e → IsReadMap (over (dimension ∷ []) e)
over_one e h = record {
  dims = all_cons (IsWord kinds.Word) dimension [] d0_word (All-nil (IsWord kinds.Word));
  syms = All-nil (IsWord kinds.Word);
  results = all_cons IsReadExpr e [] h (All-nil IsReadExpr);
}

bound_read : (z : ℤ) → IsBound z → IsReadMap (bound_map z)
bound_read z h = over_none (expr.Const z) (expressions.number z (short-bound z h))

counter_read : IsReadExpr (expr.Name dimension)
counter_read = expressions.name dimension d0_word

subscript_read : (at : Subscript) → IsSoundSubscript at → IsReadMap (subscript_map at)
subscript_read (fixed z) h = bound_read z h
subscript_read variable h = over_one (expr.Name dimension) counter_read
subscript_read (plus z) h =
    over_one (expr.Add (expr.Name dimension) (expr.Const z)) (expressions.sum (expr.Name dimension) (expr.Const z) counter_read (expressions.number z (short-offset z h)))
subscript_read (minus z) h =
    over_one (expr.Sub (expr.Name dimension) (expr.Const z)) (expressions.difference (expr.Name dimension) (expr.Const z) counter_read (expressions.number z (short-offset z h)))

-- ---- entries
pub entry_more : (name : List ℕ) (value : Attr) (rest : List Named) → IsWord kinds.Word name → IsReadAttr value → AreReadEntries rest
    → AreReadEntries (entry name value ∷ rest)
entry_more name value rest w h others =
    let e : Named-F Attr Named = record { name = name; value = value } in
    one_entry_more (entry name value) rest (subst (λ (x : Named-F Attr Named). IsWord kinds.Word x.name) (sym (out-roll-Named e)) w)
    (subst (λ (x : Named-F Attr Named). IsReadAttr x.value) (sym (out-roll-Named e)) h) others

pub mark_read : (name : List ℕ) (number : ℕ) → IsWord kinds.Word name → number < 2 ^ 64 → AreReadEntries (mark name number)
mark_read name number w h =
    entry_more name (number_of (codes "i64") (pos number)) [] w (read.number (pos number) (text.Scalar (codes "i64")) (short-few number h) i64_type) no_entries

pub constant_read : (pattern : ℕ) → AreReadEntries (entry (codes "value") (constant_attr pattern) ∷ [])
unfolding in_class
constant_read pattern =
    entry_more (codes "value") (constant_attr pattern) [] (is_word (codes "value") refl)
    (read.number (signed_low W32 pattern) (text.Scalar (codes "i32")) (short-constant pattern) i32_type) no_entries

map_more : (name : List ℕ) (m : MapText) (rest : List Named) → IsWord kinds.Word name → IsReadMap m → AreReadEntries rest
    → AreReadEntries (map_entry name m ∷ rest)
map_more name m rest w h others = entry_more name (attr.Map m) rest w (read.mapped m h) others

pub access_read : (at : Subscript) → IsSoundSubscript at → AreReadEntries (map_entry (codes "map") (subscript_map at) ∷ [])
unfolding in_class
access_read at h = map_more (codes "map") (subscript_map at) [] (is_word (codes "map") refl) (subscript_read at h) no_entries

zeros_read : All IsShortInteger (pos 0 ∷ pos 0 ∷ pos 0 ∷ [])
zeros_read =
    all_cons IsShortInteger (pos 0) (pos 0 ∷ pos 0 ∷ []) zero_short
    (all_cons IsShortInteger (pos 0) (pos 0 ∷ []) zero_short (all_cons IsShortInteger (pos 0) [] zero_short (All-nil IsShortInteger)))
  where
    zero_short : IsShortInteger (pos 0)
    zero_short = short-few 0 (omega arith)

bounds_read : (lower upper : ℤ) → IsBound lower → IsBound upper
    → AreReadEntries (map_entry (codes "lowerBoundMap") (bound_map lower) ∷ map_entry (codes "upperBoundMap") (bound_map upper) ∷ [])
unfolding in_class
bounds_read lower upper h k =
    map_more (codes "lowerBoundMap") (bound_map lower) (map_entry (codes "upperBoundMap") (bound_map upper) ∷ [])
    (is_word (codes "lowerBoundMap") refl) (bound_read lower h)
    (map_more (codes "upperBoundMap") (bound_map upper) [] (is_word (codes "upperBoundMap") refl) (bound_read upper k) no_entries)

pub loop_read : (lower upper : ℤ) → IsBound lower → IsBound upper → AreReadEntries (loop_properties lower upper)
unfolding in_class
loop_read lower upper h k =
    entry_more (codes "operandSegmentSizes") (attr.Array (text.Scalar (codes "i32")) (pos 0 ∷ pos 0 ∷ pos 0 ∷ []))
    (entry (codes "step") (number_of (codes "index") (pos 1))
    ∷ map_entry (codes "lowerBoundMap") (bound_map lower) ∷ map_entry (codes "upperBoundMap") (bound_map upper) ∷ [])
    (is_word (codes "operandSegmentSizes") refl)
    (read.array (text.Scalar (codes "i32")) (pos 0 ∷ pos 0 ∷ pos 0 ∷ []) i32_type zeros_read)
    (entry_more (codes "step") (number_of (codes "index") (pos 1))
    (map_entry (codes "lowerBoundMap") (bound_map lower) ∷ map_entry (codes "upperBoundMap") (bound_map upper) ∷ [])
    (is_word (codes "step") refl)
    (read.number (pos 1) (text.Scalar (codes "index")) (short-few 1 (omega arith)) index_text)
    (bounds_read lower upper h k))
