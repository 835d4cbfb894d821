-- What holds of written maps and sets that are taken, with the values of their operands.
use Rattle.std.specs.Prelude.{◌≡◌, true, List}
use Rattle.av_affine.specs.declared.expression.AffMap.{AffMap}
use Rattle.av_affine_laws.specs.Normalised.{IsNormal}
use Rattle.av_ir.specs.declared.module.ValueId.{ValueId}
use Rattle.av_ir.specs.WellFormed.{IsUsable, IsUsableSet}
use Rattle.av_tree.specs.declared.written.MapText.{MapText}
use Rattle.av_tree.specs.declared.written.SetText.{SetText}
use Rattle.av_maps.specs.Applying.{normal_use, numbers}
use Rattle.av_maps.specs.Asked.{has_few_results, has_few_rows, is_affine_map, is_affine_set}
use Rattle.av_maps.specs.Written.{map_of, set_of}

-- a run can evaluate the normal form of a map, where all that is asked of the map holds
abbrev pub UsableMapLaw : Type 0
UsableMapLaw =
    (m : MapText) (operands : List ValueId) → is_affine_map m ≡ true → has_few_results (map_of m) ≡ true
    → IsUsable (normal_use (map_of m) operands).map

-- and a set
abbrev pub UsableSetLaw : Type 0
UsableSetLaw = (s : SetText) → is_affine_set s ≡ true → has_few_rows (set_of s) ≡ true → IsUsableSet (set_of s)

-- the normal form is normal
abbrev pub NormalUseLaw : Type 0
NormalUseLaw =
    (m : AffMap) (operands : List ValueId)
    → IsNormal (normal_use m operands).map (numbers (normal_use m operands).operands)
