-- What holds of types that were read.
use Rattle.std.specs.Prelude.{ℕ, ◌<◌, ◌^◌, List, [], ◌∷◌, Option, Some, None}
use Rattle.std.specs.List.{All}
use Rattle.av_lex.specs.declared.token.Kind.TheVariants as kinds
use Rattle.av_tree.specs.declared.written.SizeText.{SizeText}
use Rattle.av_tree.specs.declared.written.SizeText.TheVariants as sizes
use Rattle.av_tree.specs.declared.written.DimText.{DimText}
use Rattle.av_tree.specs.declared.written.DimText.TheVariants as dims
use Rattle.av_tree.specs.declared.written.LayoutText.{LayoutText}
use Rattle.av_tree.specs.declared.written.TypeText.{TypeText, Scalar, MemRef, Vector, Func}
use Rattle.av_print_laws.specs.Spacing.{IsWord}

-- a number has at most 38 digits
abbrev pub IsShortNumber : ℕ → Type 0
IsShortNumber n = n < 10 ^ 38

abbrev pub IsShortSize : SizeText → Type 0
IsShortSize (sizes.Fixed n) = IsShortNumber n
IsShortSize sizes.Dynamic = Unit {0}

abbrev pub IsShortDim : DimText → Type 0
IsShortDim (dims.Fixed n) = IsShortNumber n
IsShortDim dims.Dynamic = Unit {0}
IsShortDim (dims.Scalable n) = IsShortNumber n

abbrev pub IsShortLayout : Option LayoutText → Type 0
IsShortLayout None = Unit {0}
IsShortLayout (Some l) = All IsShortSize l.strides × IsShortSize l.offset

mutual
  -- the names in a type are words, and its numbers have at most 38 digits
  pub data IsReadType : TypeText → Type 0 where
    scalar : (name : List ℕ) → IsWord kinds.Word name → IsReadType (Scalar name)
    mem_ref : (sizes : List SizeText) (elem : List ℕ) (at : Option LayoutText)
        → All IsShortSize sizes → IsWord kinds.Word elem → IsShortLayout at → IsReadType (MemRef sizes elem at)
    vector : (dims : List DimText) (elem : List ℕ) → All IsShortDim dims → IsWord kinds.Word elem → IsReadType (Vector dims elem)
    func : (inputs results : List TypeText) → AreReadTypes inputs → AreReadTypes results → IsReadType (Func inputs results)

  -- of several
  pub data AreReadTypes : List TypeText → Type 0 where
    none : AreReadTypes []
    more : (ty : TypeText) (types : List TypeText) → IsReadType ty → AreReadTypes types → AreReadTypes (ty ∷ types)
