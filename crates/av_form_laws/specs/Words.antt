-- The words of a form. A type, a map, a set, a subscript, a region, a dictionary, elements with their type, and a number with its sign
-- stand each as one word: how these are spelled is the matter of other laws.
use Rattle.std.specs.Prelude.{ℕ, ℤ, List, [], ◌∷◌, ◌++◌, codes}
use Rattle.av_lex.specs.declared.token.Sign.{Sign}
use Rattle.av_lex.specs.declared.token.Sign.TheVariants as signs
use Rattle.av_tree.specs.declared.written.TypeText.{TypeText}
use Rattle.av_tree.specs.declared.written.MapText.{MapText}
use Rattle.av_tree.specs.declared.written.SetText.{SetText}
use Rattle.av_tree.specs.declared.attribute.Element.{Element}
use Rattle.av_tree.specs.declared.attribute.Named.{Named}
use Rattle.av_tree.specs.declared.node.Node.{Node}
use Rattle.av_values.specs.declared.value.Expression.{Expression}
use Rattle.av_dialects.specs.declared.item.Lead.{Lead}
use Rattle.av_dialects.specs.declared.item.Lead.TheVariants as lead

pub data Word : Type 0 where
  sign : Sign → Word
  -- a word of the format, or of a property
  plain : List ℕ → Word
  -- `%a`, `%r#0`
  value : List ℕ → Word
  -- `%a`, where it begins to be a value
  variable : List ℕ → Word
  number : ℤ → Word
  of_type : TypeText → Word
  -- `{affvec.of = 3 : i64}`
  entries : List Named → Word
  -- `dense<[1, 2]> : vector<2xi32>`
  dense : Element → TypeText → Word
  a_map : MapText → Word
  a_set : SetText → Word
  -- `#name`
  hash : List ℕ → Word
  subscript : Expression → Word
  -- `{ .. }`, with the operations that are written in it
  region : List Node → Word

abbrev pub comma : Word
comma = sign signs.Comma

-- what stands before a part
abbrev pub lead_words : Lead → List Word
lead_words lead.Nothing = []
lead_words lead.Blank = []
lead_words lead.Comma = comma ∷ []
lead_words lead.Colon = sign signs.Colon ∷ []
lead_words lead.Equal = sign signs.Equal ∷ []
lead_words lead.To = plain (codes "to") ∷ []
lead_words lead.Step = plain (codes "step") ∷ []
lead_words lead.Into = plain (codes "into") ∷ []
lead_words lead.From = plain (codes "from") ∷ []

-- with a comma before each
abbrev pub behind_commas : {A : Type 0} → (A → Word) → List A → List Word
behind_commas w [] = []
behind_commas w (a ∷ others) = comma ∷ w a ∷ behind_commas w others

-- with commas between them
abbrev pub between_commas : {A : Type 0} → (A → List Word) → List A → List Word
between_commas ws [] = []
between_commas ws (a ∷ []) = ws a
between_commas ws (a ∷ b ∷ others) = ws a ++ comma ∷ between_commas ws (b ∷ others)

-- one word for each
abbrev pub single : {A : Type 0} → (A → Word) → A → List Word
single w a = w a ∷ []
