-- What holds of the trees that are printed for sound programs.
use Rattle.std.specs.Prelude.{ℕ, List, map}
use Rattle.av_lex.specs.declared.token.Kind.{Kind}
use Rattle.av_derive.specs.ClassOf.{class_of}
use Rattle.av_derive.specs.Derivation.{WithinBrackets}
use Rattle.av_printer.specs.declared.form.Form.{Form}
use Rattle.av_printer.specs.Spelling.{pieces_of}
use Rattle.av_print_laws.specs.Spacing.{words_of}
use Rattle.av_print_laws.specs.ReadNodes.{IsReadNode}
use Rattle.av_program_laws.specs.Programs.{Program}
use Rattle.av_program_laws.specs.Sound.{IsSound}
use Rattle.av_program_laws.specs.WrittenTrees.{written_tree}

-- in either form, the tree can be spelled so that its text is read again
abbrev pub PrintedLaw : Type 0
PrintedLaw = (form : Form) (p : Program) → IsSound p → IsReadNode form (written_tree p).root

-- in either form, the words of a program's tree open at most 192 brackets at once
abbrev pub BracketsLaw : Type 0
BracketsLaw =
    (form : Form) (p : Program)
    → WithinBrackets 192 0 (map (λ (word : Kind × List ℕ). class_of word.0 word.1) (words_of (pieces_of form (written_tree p).root)))
