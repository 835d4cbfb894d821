-- What is in an entry that is made.
use Rattle.std.proofs.Common.{◌≡◌, ℕ, List, ◌∷◌, ap, sym, ◌∙◌}
use Rattle.std.specs.Prelude.{ℤ, pos}
use Rattle.av_tree.specs.declared.attribute.Attr.{out-Attr, out-roll-Attr}
use Rattle.av_tree.specs.declared.attribute.Attr.TheVariants as attr
use Rattle.av_tree.specs.declared.attribute.Attr.TheOpen as open_attr
use Rattle.av_tree.specs.declared.attribute.Named.{Named}
use Rattle.av_tree.specs.declared.written.MapText.{MapText}
use Rattle.av_tree.specs.declared.written.SetText.{SetText}
use Rattle.av_tree.specs.declared.written.TypeText.{TypeText}
use Rattle.std.specs.Prelude.{codes}
use Rattle.av_values.specs.Loops.{index_type, step}
use Rattle.av_values.proofs.Entries.{value-of}
use Rattle.av_form_laws.specs.Attributes.{Applied, alias, applied_attr, applied_in, first_applied, written_map, written_set}
use Rattle.av_form_laws.specs.Items.{applied_entry}
use Rattle.av_form_laws.specs.Loops.{first_step, step_entry, step_in}

pub out-number : (z : ℤ) (t : TypeText) → out-Attr (attr.Number z t) ≡ open_attr.Number z t
out-number z t = ap out-Attr (sym (attr.rolls-Number z t)) ∙ out-roll-Attr (open_attr.Number z t)

pub out-hash : (name : List ℕ) (words : List (List ℕ)) → out-Attr (attr.Hash name words) ≡ open_attr.Hash name words
out-hash name words = ap out-Attr (sym (attr.rolls-Hash name words)) ∙ out-roll-Attr (open_attr.Hash name words)

pub out-map : (m : MapText) → out-Attr (attr.Map m) ≡ open_attr.Map m
out-map m = ap out-Attr (sym (attr.rolls-Map m)) ∙ out-roll-Attr (open_attr.Map m)

pub out-set : (s : SetText) → out-Attr (attr.Set s) ≡ open_attr.Set s
out-set s = ap out-Attr (sym (attr.rolls-Set s)) ∙ out-roll-Attr (open_attr.Set s)

pub out-alias : (name : List ℕ) → out-Attr (attr.AliasUse name) ≡ open_attr.AliasUse name
out-alias name = ap out-Attr (sym (attr.rolls-AliasUse name)) ∙ out-roll-Attr (open_attr.AliasUse name)

applied-is : (a : Applied) → applied_in (out-Attr (applied_attr a)) ≡ a
applied-is (written_map m) = ap applied_in (out-map m)
applied-is (written_set s) = ap applied_in (out-set s)
applied-is (alias name) = ap applied_in (out-alias name)

pub first-applied : (name : List ℕ) (a : Applied) (es : List Named) → first_applied (applied_entry name a ∷ es) ≡ a
first-applied name a es = ap (λ x. applied_in (out-Attr x)) (value-of name (applied_attr a)) ∙ applied-is a

pub step-first : (s : ℕ) (es : List Named) → first_step (step_entry s ∷ es) ≡ s
step-first s es = ap (λ x. step_in (out-Attr x)) (value-of (codes "step") (step (pos s))) ∙ ap step_in (out-number (pos s) index_type)
