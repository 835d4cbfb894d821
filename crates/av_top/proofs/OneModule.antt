-- The bytes of a text have one list of tokens, one tree and one module at most, and so one answer.
use Rattle.std.proofs.Common.{◌≡◌, ℕ, List, subst, sym, ◌∙◌, ap}
use Rattle.av_lex.proofs.OneReading.{one_list}
use Rattle.av_lex.specs.declared.token.Token.{Token}
use Rattle.av_tree.specs.declared.node.Tree.{Tree}
use Rattle.av_reader.specs.Reading.{IsTree}
use Rattle.av_verify.specs.Elaboration.{Outcome, gives}
use Rattle.av_ir.specs.declared.module.Module.{Module}
use Rattle.av_ir.specs.Marks.{marked_of}
use Rattle.av_top.specs.declared.request.Request.{Request}
use Rattle.av_top.specs.Answer.{Answers, printed}
use Rattle.av_top.specs.FirstPathText.{IsFirstPathText, IsModuleOf, IsText}
use Rattle.av_top.specs.Report.{reported}

-- no other tree is that of the tokens of a text
abbrev pub IsOnlyTree : (bytes : List ℕ) → IsText bytes → Type 0
IsOnlyTree bytes text = (other : Tree) → IsTree bytes text.tokens other → other ≡ text.tree

-- the module of a text is one of the one tree
pub module_of_text : (size : ℕ) (bytes : List ℕ) (text : IsText bytes) → IsOnlyTree bytes text → (other : IsFirstPathText size bytes) → IsModuleOf size text.tree other.result
module_of_text size bytes text only other =
    let Reads : List Token → Type 0 = λ ts. IsTree bytes ts other.text.tree in
    let Is : Tree → Type 0 = λ t. IsModuleOf size t other.result in
    let tree : IsTree bytes text.tokens other.text.tree = subst Reads (one_list bytes text.tokens other.text.tokens text.lexed other.text.lexed) other.text.is_tree in
    subst Is (only other.text.tree tree) other.is

same_given : (outcome : Outcome Module) (m m' : Module) → outcome ≡ gives m → outcome ≡ gives m' → m ≡ m'
same_given outcome m m' e e' = cc

-- the texts of the module of the tree are the only ones that answer
pub one_answer : (request : Request) (bytes : List ℕ) (read : IsText bytes) (m : Module) (text report : List ℕ) → IsOnlyTree bytes read → IsModuleOf request.size read.tree m
    → text ≡ printed request.form m → report ≡ reported (marked_of m) → (text' report' : List ℕ) → Answers request bytes text' report' → (text' ≡ text) × (report' ≡ report)
one_answer request bytes read m text report only is written reports text' report' other =
    let same : other.input.result ≡ m = same_given _ other.input.result m (module_of_text request.size bytes read only other.input).elaborates is.elaborates in
    (other.written ∙ ap (printed request.form) same ∙ sym written, other.reports ∙ ap (λ x. reported (marked_of x)) same ∙ sym reports)
