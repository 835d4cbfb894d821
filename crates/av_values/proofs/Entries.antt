-- What is in an entry that is made.
use Rattle.std.proofs.Common.{◌≡◌, ℕ, List, ◌∷◌, ap, sym, ◌∙◌}
use Rattle.std.specs.Prelude.{ℤ, codes}
use Rattle.av_tree.specs.declared.attribute.Attr.{Attr, out-Attr, out-roll-Attr}
use Rattle.av_tree.specs.declared.attribute.Attr.TheVariants as attr
use Rattle.av_tree.specs.declared.attribute.Attr.TheOpen as open_attr
use Rattle.av_tree.specs.declared.attribute.Named.{Named, Named-F, out-Named, out-roll-Named}
use Rattle.av_tree.specs.declared.written.TypeText.{TypeText}
use Rattle.av_tree.specs.declared.written.TypeText.TheVariants as types
use Rattle.av_values.specs.Gifts.{first_numbers, numbers_in, sizes_entry}
use Rattle.av_values.specs.Nodes.{entry}

pub value-of : (name : List ℕ) (x : Attr) → (out-Named (entry name x)).value ≡ x
value-of name x = ap (λ (e : Named-F Attr Named). e.value) (out-roll-Named (record { name = name; value = x }))

pub out-array : (t : TypeText) (numbers : List ℤ) → out-Attr (attr.Array t numbers) ≡ open_attr.Array t numbers
out-array t numbers = ap out-Attr (sym (attr.rolls-Array t numbers)) ∙ out-roll-Attr (open_attr.Array t numbers)

pub sizes-first : (numbers : List ℤ) (es : List Named) → first_numbers (sizes_entry numbers ∷ es) ≡ numbers
sizes-first numbers es =
    ap (λ x. numbers_in (out-Attr x)) (value-of (codes "operandSegmentSizes") (attr.Array (types.Scalar (codes "i32")) numbers))
    ∙ ap numbers_in (out-array (types.Scalar (codes "i32")) numbers)
