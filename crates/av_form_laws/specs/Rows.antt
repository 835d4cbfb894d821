-- Operations by the parts of their form: the values of these, the words that are printed, and what reading makes of values.
use Rattle.std.specs.Prelude.{ℕ, ◌≡◌, List, [], ◌∷◌, ◌++◌, Option, None}
use Rattle.av_tree.specs.declared.written.TypeText.{TypeText}
use Rattle.av_dialects.specs.declared.item.Results.{Results}
use Rattle.av_dialects.specs.declared.item.Results.TheVariants as results
use Rattle.av_dialects.specs.Rows.{Part}
use Rattle.av_dialects.specs.Types.{needs}
use Rattle.av_form_laws.specs.Grammar.{spell}
use Rattle.av_form_laws.specs.Items.{Fits, give, opened, rest, taken}
use Rattle.av_form_laws.specs.Values.{Values}
use Rattle.av_form_laws.specs.Words.{Word, lead_words}
use Rattle.av_values.specs.Gifts.{Line, unwritten}

abbrev pub values_of : (ps : List Part) → Line → Values ps
values_of [] n = tt
values_of (p ∷ ps) n = (taken p.1 (needs ps) n, values_of ps (rest p.1 (needs ps) n))

-- the words that are printed behind the name
abbrev pub words_of : List Part → Line → List Word
words_of [] n = []
words_of (p ∷ ps) n = lead_words p.0 ++ (spell p.1 (taken p.1 (needs ps) n) ++ words_of ps (rest p.1 (needs ps) n))

-- what stands before a form: the name, the place and the names of results
pub record Head : Type 0 where
  pub name : List ℕ
  pub place : ℕ
  pub results : List (List ℕ)

abbrev pub head_of : Line → Head
head_of n = record { name = n.name; place = n.place; results = n.results }

abbrev pub unwritten_results : Results → List (Option TypeText)
unwritten_results (results.One _) = None ∷ []
unwritten_results _ = []

-- an operation of which nothing is read yet but its head, with a type that isn't written for each operand to come
abbrev pub blank : Head → Results → List (Option TypeText) → Line
blank head r ts = record {
  name = head.name;
  place = head.place;
  results = head.results;
  operands = [];
  properties = [];
  attrs = [];
  regions = [];
  in_types = ts;
  out_types = unwritten_results r;
}

abbrev pub given : (ps : List Part) → Values ps → Line → Line
given [] vs n = n
given (p ∷ ps) (v, vs) n = give p.1 v (given ps vs n)

abbrev pub all_opened : (ps : List Part) → Values ps → List (Option TypeText)
all_opened [] vs = []
all_opened (p ∷ ps) (v, vs) = opened p.1 v ++ all_opened ps vs

-- what reading makes of the values of the parts
abbrev pub made : Head → Results → (ps : List Part) → Values ps → Line
made head r ps vs = given ps vs (blank head r (all_opened ps vs))

-- each part is there, and without them nothing more is left than this
abbrev pub Whole : List Part → Line → Line → Type 0
Whole [] empty n = n ≡ empty
Whole (p ∷ ps) empty n = Fits p.1 (needs ps) n × Whole ps empty (rest p.1 (needs ps) n)

-- the operation has what the parts are, and nothing besides: so it is as if it had been read from this form
abbrev pub FitsRow : Results → List Part → Line → Type 0
FitsRow r ps n = Whole ps (blank (head_of n) r (unwritten n.operands)) n
