-- The texts that answer: a module with its marks, in the form that is asked for, and the report on it.
use Rattle.std.specs.Prelude.{◌≡◌, ℕ, List}
use Rattle.av_printer.specs.declared.form.Form.{Form}
use Rattle.av_printer.specs.Spelling.{spelling}
use Rattle.av_totree.specs.Trees.{tree_of}
use Rattle.av_ir.specs.declared.module.Module.{Module}
use Rattle.av_ir.specs.Marks.{marked_of}
use Rattle.av_kept.specs.Headline.{EndsAlike}
use Rattle.av_output_laws.specs.Returns.{ReadsAgain}
use Rattle.av_top.specs.declared.request.Request.{Request}
use Rattle.av_top.specs.FirstPathText.{IsFirstPathText}
use Rattle.av_top.specs.Report.{reported}

-- what is written for a module: it with its marks, in this form
abbrev pub printed : Form → Module → List ℕ
printed form m = spelling form (tree_of (marked_of m))

-- The input is a text that is taken, what is written is its module with its marks, in the form that is asked for, and the
-- report is that on it. The module with its marks ends at each scale, with good arguments, as the module of the input does;
-- and what is written reads again as it.
pub record Answers (request : Request) (bytes text report : List ℕ) : Type 0 where
  pub input : IsFirstPathText request.size bytes
  pub written : text ≡ printed request.form input.result
  pub reports : report ≡ reported (marked_of input.result)
  pub again : ReadsAgain text (marked_of input.result)
  pub meaning : EndsAlike input.result (marked_of input.result)
