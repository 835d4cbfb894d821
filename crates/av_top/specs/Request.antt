-- What the words of the command ask for.
use Rattle.std.specs.Prelude.{◌≡◌, ℕ, ◌+◌, ◌/◌, ◌%◌, ◌≤◌, List, [], ◌∷◌, map, codes, nat_lt, if◌then◌else◌, string_bytes}
use Rattle.std.specs.declared.string.String.{String}
use Rattle.std.specs.declared.alloc.Global.{Global}
use Rattle.av_printer.specs.declared.form.Form.{Form}
use Rattle.av_printer.specs.declared.form.Form.TheVariants.{Named, Generic}
use Rattle.av_top.specs.declared.request.Request.{Request}

-- a number below 100 in decimal digits, without leading zeros
abbrev pub number : ℕ → List ℕ
number n = if nat_lt n 10 then (48 + n) ∷ [] else ((48 + n / 10) ∷ (48 + n % 10) ∷ [])

-- the words that ask for a form: none for the named one, `--generic` for the generic one
abbrev pub form_words : Form → List (List ℕ)
form_words Named = []
form_words Generic = codes "--generic" ∷ []

-- the texts are exactly `vectorize`, `--sizes`, one size, from 1 to 64, and what asks for the form
pub record IsVectorize (texts : List (List ℕ)) (request : Request) : Type 0 where
  pub words : texts ≡ codes "vectorize" ∷ codes "--sizes" ∷ number request.size ∷ form_words request.form
  pub low : 1 ≤ request.size
  pub high : request.size ≤ 64

-- three texts are `vectorize`, `--sizes` and a size, from 1 to 64
pub record IsSized (command option size : List ℕ) (lanes : ℕ) : Type 0 where
  pub command_is : command ≡ codes "vectorize"
  pub option_is : option ≡ codes "--sizes"
  pub size_is : size ≡ number lanes
  pub low : 1 ≤ lanes
  pub high : lanes ≤ 64

-- the texts of the words
abbrev pub texts : List (String Global) → List (List ℕ)
texts words = map string_bytes words

-- the texts ask for nothing that the command does
abbrev pub AsksNothing : List (List ℕ) → Type 0
AsksNothing words = (request : Request) → IsVectorize words request → ⊥
