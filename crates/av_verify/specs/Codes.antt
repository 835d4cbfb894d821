-- The rules that are asked of an operation, each with its code, and the first that fails.
use Rattle.std.specs.Prelude.{◌≡◌, ℕ, Bool, not, List, Option, Some, None, find, Result, MatchResult}
use Rattle.std.specs.Option.{option_map}
use Rattle.av_verify.specs.declared.refusal.Code.{Code}
use Rattle.av_verify.specs.declared.refusal.Code.TheVariants as code
use Rattle.av_verify.specs.declared.refusal.Rule.{Rule}
use Rattle.av_verify.specs.declared.refusal.VerifyRefusal.{VerifyRefusal}
use Rattle.av_verify.specs.declared.refusal.VerifyRefusal.TheVariants.{Bad, NoMemory}

-- the number of a code, as in V4
abbrev pub number_of_code : Code → ℕ
number_of_code code.Name = 1
number_of_code code.Operands = 2
number_of_code code.Results = 3
number_of_code code.Visible = 4
number_of_code code.New = 5
number_of_code code.Types = 6
number_of_code code.Needed = 7
number_of_code code.Property = 8
number_of_code code.Arity = 9
number_of_code code.Dimension = 10
number_of_code code.Step = 11
number_of_code code.Terminator = 12
number_of_code code.Regions = 13
number_of_code code.Constant = 14
number_of_code code.Expression = 15
number_of_code code.Function = 16
number_of_code code.Limit = 17
number_of_code code.Place = 18
number_of_code code.Size = 20

-- a rule of this code, and whether it holds
abbrev pub asks : Code → Bool → Rule
asks c holds = record { code = c; holds = holds }

-- the code of the first rule that doesn't hold; each is asked only where those before it hold
abbrev pub first_failing : List Rule → Option Code
first_failing rules = option_map (λ rule. rule.code) (find (λ rule. not rule.holds) rules)

-- a refusal names the operation of this number and this code, if there is one; or memory lacks
abbrev pub Refuses : ℕ → Option Code → VerifyRefusal → Type 0
Refuses number None (Bad k c) = ⊥
Refuses number (Some code) (Bad k c) = (k ≡ number) × (c ≡ number_of_code code)
Refuses number failing NoMemory = Unit {0}

-- a value is given exactly where no code fails; memory may lack in any case
abbrev pub Asked : {A : Type 0} → ℕ → Option Code → Result A VerifyRefusal → (A → Type 0) → Type 0
Asked number failing result Gives = MatchResult result (λ value. (failing ≡ None) × Gives value) (λ refusal. Refuses number failing refusal)
