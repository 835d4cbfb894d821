-- Programs that break no rule of the verifier.
use Rattle.std.specs.Prelude.{ℕ, ◌<◌, ◌≤◌, ◌^◌, ◌≡◌, ◌⊎◌, true, ℤ, unsigned_abs, ◌+◌, List, [], ◌∷◌, ◌++◌, length}
use Rattle.std.specs.List.{All, range_with_len}
use Rattle.av_ir.specs.declared.ty.Elem.{Elem}
use Rattle.av_ir.specs.declared.ty.Ty.{Ty}
use Rattle.av_ir.specs.declared.ty.Ty.TheVariants.{Scalar}
use Rattle.av_verify.specs.Modules.{is_symbol}
use Rattle.av_program_laws.specs.Programs.{Subscript, fixed, variable, plus, minus, Line, constant, sum, load, store, Step, single, counted, Program}
use Rattle.av_program_laws.specs.Walks.{Place, element, buffer, type_at, next, after_line, inside, after_step, body_place, last_place}

-- a number within the bound of expressions, by itself and beside a variable
abbrev pub IsBound : ℤ → Type 0
IsBound z = unsigned_abs z ≤ 2 ^ 110

abbrev pub IsOffset : ℤ → Type 0
IsOffset z = 2 ^ 63 + unsigned_abs z ≤ 2 ^ 110

abbrev pub IsSoundSubscript : Subscript → Type 0
IsSoundSubscript (fixed z) = IsBound z
IsSoundSubscript variable = Unit {0}
IsSoundSubscript (plus z) = IsOffset z
IsSoundSubscript (minus z) = IsOffset z

abbrev pub IsAmong : List ℕ → ℕ → Type 0
IsAmong [] value = ⊥
IsAmong (one ∷ more) value = (one ≡ value) ⊎ IsAmong more value

-- a visible value of a type; the visible values are all of the function before the place, but those of loops that ended
abbrev pub Stands : List ℕ → Place → ℕ → Ty → Type 0
Stands visible place value ty = IsAmong visible value × (value < next place) × (type_at place value ≡ ty)

abbrev pub IsBuffer : List ℕ → Place → ℕ → Type 0
IsBuffer visible place value = (size : ℕ) × Stands visible place value (buffer size)

-- two scalars of one type
abbrev pub AreAlike : List ℕ → Place → ℕ → ℕ → Type 0
AreAlike visible place left right = (elem : Elem) × Stands visible place left (Scalar elem) × Stands visible place right (Scalar elem)

abbrev pub IsPattern : ℕ → Type 0
IsPattern pattern = pattern < 2 ^ 32

-- ---- operations in a loop
unfoldable pub IsSoundLine : List ℕ → Place → Line → Type 0
IsSoundLine visible place (constant pattern) = IsPattern pattern
IsSoundLine visible place (sum left right) = AreAlike visible place left right
IsSoundLine visible place (load from at) = IsBuffer visible place from × IsSoundSubscript at
IsSoundLine visible place (store stored into at) =
    Stands visible place stored element × IsBuffer visible place into × IsSoundSubscript at

-- the values that are visible behind it
abbrev pub visible_after : Line → Place → List ℕ → List ℕ
visible_after (constant pattern) place visible = visible ++ next place ∷ []
visible_after (sum left right) place visible = visible ++ next place ∷ []
visible_after (load from at) place visible = visible ++ next place ∷ []
visible_after (store stored into at) place visible = visible

unfoldable pub AreSoundLines : List ℕ → Place → List Line → Type 0
AreSoundLines visible place [] = Unit {0}
AreSoundLines visible place (line ∷ lines) =
    IsSoundLine visible place line × AreSoundLines (visible_after line place visible) (after_line line place) lines

-- ---- operations of the function
unfoldable pub IsSoundStep : List ℕ → Place → Step → Type 0
IsSoundStep visible place (single pattern) = IsPattern pattern
IsSoundStep visible place (counted lower upper lines) =
    IsBound lower × IsBound upper × AreSoundLines (visible ++ next place ∷ []) (inside place) lines

abbrev pub visible_behind : Step → Place → List ℕ → List ℕ
visible_behind (single pattern) place visible = visible ++ next place ∷ []
visible_behind (counted lower upper lines) place visible = visible

unfoldable pub AreSoundSteps : List ℕ → Place → List Step → Type 0
AreSoundSteps visible place [] = Unit {0}
AreSoundSteps visible place (step ∷ steps) =
    IsSoundStep visible place step × AreSoundSteps (visible_behind step place visible) (after_step step place) steps

-- ---- programs
-- the name is one that a symbol has, sizes are below 2 ^ 31, operations are fewer than 2 ^ 64, and each operation is sound
pub record IsSound (p : Program) : Type 0 where
  pub name : is_symbol p.name ≡ true
  pub sizes : All (λ size. size < 2 ^ 31) p.sizes
  pub few : (last_place p).number < 2 ^ 64
  pub steps : AreSoundSteps (range_with_len 0 (length p.sizes)) (body_place p) p.steps
