-- What the spellings of words, strings and sizes stand for.
use Rattle.std.specs.Prelude.{ℕ, ◌-◌, ◌==◌, ℤ, pos, Bool, true, if◌then◌else◌, List, [], ◌∷◌, length, take, codes}
use Rattle.std.specs.Str.{bytes_eq}
use Rattle.av_tree.specs.declared.attribute.Attr.{Attr}
use Rattle.av_tree.specs.declared.attribute.Attr.TheVariants as attr
use Rattle.av_tree.specs.declared.written.DimText.{DimText}
use Rattle.av_tree.specs.declared.written.DimText.TheVariants as dim
use Rattle.av_tree.specs.declared.written.SizeText.{SizeText}
use Rattle.av_tree.specs.declared.written.SizeText.TheVariants as size
use Rattle.av_tree.specs.declared.written.TypeText.TheVariants as ty
use Rattle.av_values.specs.Numbers.{spelled_number}

-- the bytes but for the first one and so many of the last
abbrev pub without_ends : List ℕ → ℕ → List ℕ
without_ends [] behind = []
without_ends (first ∷ bytes) behind = take (length bytes - behind) bytes

-- the bytes between the quotes
abbrev pub unquoted : List ℕ → List ℕ
unquoted string = without_ends string 1

-- of `true` and `false`
abbrev pub is_true : List ℕ → Bool
is_true word = bytes_eq word (codes "true")

-- whether a size is written as `?`, which is the byte 63
abbrev pub is_dynamic : List ℕ → Bool
is_dynamic [] = true
is_dynamic (first ∷ bytes) = first == 63

-- the bytes before the `x` of a token
abbrev pub before_x : List ℕ → List ℕ
before_x token = take (length token - 1) token

-- the size that stands before an `x`, as in `4x` and `?x`
abbrev pub size_of : List ℕ → SizeText
size_of token = if is_dynamic token then size.Dynamic else size.Fixed (spelled_number (before_x token))

-- the same as a dimension of a vector
abbrev pub dim_of : List ℕ → DimText
dim_of token = if is_dynamic token then dim.Dynamic else dim.Fixed (spelled_number (before_x token))

-- the dimension of a token as `[8]x`
abbrev pub scalable_of : List ℕ → DimText
scalable_of token = dim.Scalable (spelled_number (without_ends token 2))

-- the numbers of predicates in the order eq, ne, slt, sle, sgt, sge, ult, ule, ugt, uge
abbrev pub predicate_of : List ℕ → ℕ
predicate_of word =
    if bytes_eq word (codes "eq") then 0
    else (if bytes_eq word (codes "ne") then 1
    else (if bytes_eq word (codes "slt") then 2
    else (if bytes_eq word (codes "sle") then 3
    else (if bytes_eq word (codes "sgt") then 4
    else (if bytes_eq word (codes "sge") then 5
    else (if bytes_eq word (codes "ult") then 6
    else (if bytes_eq word (codes "ule") then 7
    else (if bytes_eq word (codes "ugt") then 8 else 9))))))))

-- the same as a number with a sign
abbrev pub predicate_number : List ℕ → ℤ
predicate_number word = pos (predicate_of word)

-- a predicate as an attribute
abbrev pub predicate : List ℕ → Attr
predicate word = attr.Number (predicate_number word) (ty.Scalar (codes "i64"))

-- the way in which a reduction combines, as an attribute
abbrev pub kind : List ℕ → Attr
kind word = attr.Hash (codes "#vector.kind") (word ∷ [])

-- numbers of places or lanes, as an attribute
abbrev pub positions : List ℤ → Attr
positions numbers = attr.Array (ty.Scalar (codes "i64")) numbers
