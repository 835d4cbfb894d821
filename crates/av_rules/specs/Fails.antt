-- Which codes fail at which operations of a tree, and the least of these pairs.
use Rattle.std.specs.Prelude.{ℕ, zero, suc, ◌<◌, ◌≤◌, ◌≡◌, ◌⊎◌, Bool, true, false, not, ◌||◌, List, [], ◌∷◌, Option, MatchOption}
use Rattle.std.specs.Option.{option_map, option_map_or}
use Rattle.av_tree.specs.declared.node.Tree.{Tree}
use Rattle.av_rules.specs.declared.mode.Mode.{Mode}
use Rattle.av_rules.specs.Agreement.{types_agree}
use Rattle.av_rules.specs.Constants.{values_fit}
use Rattle.av_rules.specs.Counts.{has_operands, has_results, names_new, sees_operands}
use Rattle.av_rules.specs.Least.{Places, fails_at, least_places}
use Rattle.av_rules.specs.Limits.{is_new_function, is_small, is_trailed, is_within, may_stand}
use Rattle.av_rules.specs.Places.{Site, site_row}
use Rattle.av_rules.specs.Properties.{has_arity, has_good_entries, has_needed, has_roles, is_affine, steps}
use Rattle.av_rules.specs.Regions.{ends_well, has_regions}
use Rattle.av_rules.specs.Rows.{Row, is_module}
use Rattle.av_rules.specs.Sites.{sites}

-- what can be wrong with an operation, in the order of its number
pub data Code : Type 0 where
  -- V1: the operation's name is unknown
  name : Code
  -- V2, V3: it has another number of operands, of results
  operands results : Code
  -- V4: an operand isn't visible
  visible : Code
  -- V5: a name is defined that is visible already, or twice
  new : Code
  -- V6: types don't agree with the operation, with its regions or with what is handed on
  types : Code
  -- V7: a property lacks
  needed : Code
  -- V8: an entry is of another kind, isn't known or stands twice, or an alias isn't defined once
  property : Code
  -- V9: the arity of a map, a set or a list disagrees
  arity : Code
  -- V10: an operand of a map is no dimension or no symbol, where one is needed
  dimension : Code
  -- V11: the step of a loop isn't from 1 to 2 ^ 31 - 1
  step : Code
  -- V12: a terminator lacks, is of another kind, or stands elsewhere
  terminator : Code
  -- V13: the number of regions, or of their arguments
  regions : Code
  -- V14: a constant doesn't fit its type, or a position its vector
  constant : Code
  -- V15: an expression isn't affine, or over its limits
  expression : Code
  -- V16: a function before has the same name
  function : Code
  -- V17: a rank, a size, the lanes, the results of a map or the nesting of regions are over a limit
  limit : Code
  -- V18: the mode doesn't take the operation or a type, or the operation may not stand here
  place : Code
  -- V19: a scalable dimension isn't the last
  scaling : Code
  -- V20: the operations times the lanes are too many
  size : Code

-- all codes, from V1 on
abbrev pub all_codes : List Code
all_codes =
    name ∷ operands ∷ results ∷ visible ∷ new ∷ types ∷ needed ∷ property ∷ arity ∷ dimension ∷ step ∷ terminator ∷ regions ∷ constant
    ∷ expression ∷ function ∷ limit ∷ place ∷ scaling ∷ size ∷ []

-- whether a code's rule holds at a known operation, of these in the tree
abbrev pub holds : List Site → Row → Site → Code → Bool
holds all row site name = true
holds all row site operands = has_operands row site
holds all row site results = has_results row site
holds all row site visible = sees_operands site
holds all row site new = names_new site
holds all row site types = types_agree row site
holds all row site needed = has_needed row site
holds all row site property = has_good_entries row site
holds all row site arity = has_arity row site
holds all row site dimension = has_roles row site
holds all row site step = steps row site
holds all row site terminator = ends_well row site
holds all row site regions = has_regions row site
holds all row site constant = values_fit row site
holds all row site expression = is_affine row site
holds all row site function = is_new_function row site
holds all row site limit = is_within row site
holds all row site place = may_stand row site
holds all row site scaling = is_trailed row site
holds all row site size = not (is_module row.role) || is_small all site.mode

-- an operation whose name isn't known breaks V1, and nothing else is asked of it
abbrev pub is_name : Code → Bool
is_name name = true
is_name _ = false

abbrev pub breaks : List Site → Site → Code → Bool
breaks all site code = option_map_or (λ row. not (holds all row site code)) (site_row site) (is_name code)

-- V1 is the first of the codes
abbrev pub fails_as : Tree → Mode → ℕ → ℕ → Bool
fails_as tree mode k zero = false
fails_as tree mode k (suc j) = fails_at (breaks (sites tree mode)) (sites tree mode) all_codes k j

-- V c fails at operation k of the tree
abbrev pub Fails : Tree → Mode → ℕ → ℕ → Type 0
Fails tree mode k c = fails_as tree mode k c ≡ true

-- an operation and a code
pub record Failing : Type 0 where
  pub operation : ℕ
  pub code : ℕ

abbrev pub failing : Places → Failing
failing q = record { operation = q.thing; code = suc q.question }

-- the first operation at which a code fails, with the smallest code that fails there
abbrev pub least : Tree → Mode → Option Failing
least tree mode = option_map failing (least_places (breaks (sites tree mode)) (sites tree mode) all_codes)

-- a pair isn't after another: its operation is before, or is the same and its code isn't greater
abbrev pub IsFirst : Failing → ℕ → ℕ → Type 0
IsFirst f k c = (f.operation < k) ⊎ ((f.operation ≡ k) × (f.code ≤ c))

-- The least pair fails, and none that fails is before it; there is none exactly where none fails. So a code is answered only where all
-- smaller ones hold at that operation, and all hold at the operations before.
abbrev pub LeastLaw : Type 0
LeastLaw =
    (tree : Tree) (mode : Mode)
    → MatchOption (least tree mode) ((k c : ℕ) → ¬ (Fails tree mode k c))
    (λ f. Fails tree mode f.operation f.code × ((k c : ℕ) → Fails tree mode k c → IsFirst f k c))
