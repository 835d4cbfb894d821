-- The operations that are known, by name, and the marks and properties of each.
use Rattle.std.specs.Prelude.{ℕ, List, [], ◌∷◌, codes, Option, Some, None, if◌then◌else◌}
use Rattle.std.specs.Str.{bytes_eq}
use Rattle.av_bits.specs.declared.types.BinOp.TheVariants.{Addi}
use Rattle.av_verify.specs.declared.rows.Row.{Row}
use Rattle.av_verify.specs.declared.rows.Row.TheVariants.{Module, Function, Return, Constant, Binary, Loop, Yield, Load, Store}

-- the operation of a name
abbrev pub row_of : List ℕ → Option Row
row_of name =
    if bytes_eq name (codes "builtin.module") then Some Module
    else (if bytes_eq name (codes "func.func") then Some Function
    else (if bytes_eq name (codes "func.return") then Some Return
    else (if bytes_eq name (codes "arith.constant") then Some Constant
    else (if bytes_eq name (codes "arith.addi") then Some (Binary Addi)
    else (if bytes_eq name (codes "affine.for") then Some Loop
    else (if bytes_eq name (codes "affine.yield") then Some Yield
    else (if bytes_eq name (codes "affine.load") then Some Load
    else (if bytes_eq name (codes "affine.store") then Some Store
    else None))))))))

-- the mark that may stand on an operation; no name where there is none
abbrev pub mark_name : Row → List ℕ
mark_name Loop = codes "affvec.loop"
mark_name Load = codes "affvec.of"
mark_name Store = codes "affvec.of"
mark_name _ = []

-- the properties that an operation has, all of which it needs
abbrev pub property_names : Row → List (List ℕ)
property_names Function = codes "sym_name" ∷ codes "function_type" ∷ []
property_names Constant = codes "value" ∷ []
property_names Loop = codes "lowerBoundMap" ∷ codes "upperBoundMap" ∷ codes "step" ∷ codes "operandSegmentSizes" ∷ []
property_names Load = codes "map" ∷ []
property_names Store = codes "map" ∷ []
property_names _ = []
