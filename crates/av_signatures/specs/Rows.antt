-- The table of signatures as definitions read it: a column for each field, in the order of the operations' numbers.
use Rattle.std.specs.Prelude.{ℕ, ◌≡◌, List, map, length, Some, slice_get}
use Rattle.av_signatures.specs.declared.rows.TheConstants.{DROPPED, DROPPED_OF_FUNCTIONS, SIGNATURES}
use Rattle.av_signatures.specs.declared.signature.Count.{Count}
use Rattle.av_signatures.specs.declared.signature.Source.{Source}
use Rattle.av_signatures.specs.declared.signature.Form.{Form}
use Rattle.av_signatures.specs.declared.signature.Demand.{Demand}
use Rattle.av_signatures.specs.declared.signature.Role.{Role}
use Rattle.av_signatures.specs.declared.signature.Mark.{Mark}

unfoldable pub names : List (List ℕ)
names = map (λ row. row.0.now) SIGNATURES.now

unfoldable pub operands : List Count
operands = map (λ row. row.1) SIGNATURES.now

unfoldable pub sources : List Source
sources = map (λ row. row.2) SIGNATURES.now

-- a property's name and its form
pub record Property : Type 0 where
  pub name : List ℕ
  pub form : Form

abbrev pub property : List ℕ → Form → Property
property n f = record { name = n; form = f }

unfoldable pub properties : List (List Property)
properties = map (λ row. map (λ p. property p.0.now p.1) row.3.now) SIGNATURES.now

unfoldable pub demands : List (List Demand)
demands = map (λ row. row.4.now) SIGNATURES.now

unfoldable pub roles : List Role
roles = map (λ row. row.5) SIGNATURES.now

unfoldable pub marks : List Mark
marks = map (λ row. row.6) SIGNATURES.now

unfoldable pub row_count : ℕ
row_count = length SIGNATURES.now

-- the names that are dropped on every operation, and those that are dropped on functions too
unfoldable pub dropped : List (List ℕ)
dropped = map (λ word. word.now) DROPPED.now

unfoldable pub dropped_of_functions : List (List ℕ)
dropped_of_functions = map (λ word. word.now) DROPPED_OF_FUNCTIONS.now

-- the operation of this number has this field
abbrev pub HasOperands : ℕ → Count → Type 0
HasOperands number count = slice_get operands number ≡ Some count

abbrev pub HasSource : ℕ → Source → Type 0
HasSource number source = slice_get sources number ≡ Some source

abbrev pub HasProperties : ℕ → List Property → Type 0
HasProperties number ps = slice_get properties number ≡ Some ps

abbrev pub HasDemands : ℕ → List Demand → Type 0
HasDemands number ds = slice_get demands number ≡ Some ds

abbrev pub HasRole : ℕ → Role → Type 0
HasRole number role = slice_get roles number ≡ Some role

abbrev pub HasMark : ℕ → Mark → Type 0
HasMark number mark = slice_get marks number ≡ Some mark
