-- What the refusals of the layers below are for the command, and what its own say of the input.
use Rattle.std.specs.Prelude.{ℕ, List}
use Rattle.av_lex.specs.declared.token.LexFault.{LexFault}
use Rattle.av_lex.specs.declared.token.LexFault.TheVariants as lex
use Rattle.av_reader.specs.declared.reading.ReadRefusal.{ReadRefusal}
use Rattle.av_reader.specs.declared.reading.ReadRefusal.TheVariants as reader
use Rattle.av_verify.specs.declared.refusal.VerifyRefusal.{VerifyRefusal}
use Rattle.av_verify.specs.declared.refusal.VerifyRefusal.TheVariants as verify
use Rattle.av_top.specs.declared.status.TextFault.TheVariants as fault
use Rattle.av_top.specs.declared.answer.Refusal.{Refusal}
use Rattle.av_top.specs.declared.answer.Refusal.TheVariants.{BadText, NotBuilt, NoMemory}
use Rattle.av_tree.specs.declared.node.Tree.{Tree}
use Rattle.av_ir.specs.declared.module.Module.{Module}
use Rattle.av_top.specs.FirstPathText.{IsModuleOf, IsUnbuilt}
use Rattle.av_top.specs.TextFault.{IsTextFault}

abbrev pub lex_refused : LexFault → Refusal
lex_refused (lex.BadByte place) = BadText place fault.BadByte
lex_refused (lex.LongNumber place) = BadText place fault.LongNumber
lex_refused lex.NoMemory = NoMemory

abbrev pub read_refused : ReadRefusal → Refusal
read_refused (reader.NotAModule place) = BadText place fault.NotAModule
read_refused (reader.TooDeep place) = BadText place fault.TooDeep
read_refused reader.NoMemory = NoMemory

abbrev pub verify_refused : VerifyRefusal → Refusal
verify_refused (verify.Bad number code) = NotBuilt
verify_refused verify.NoMemory = NoMemory

-- what a refusal says of the bytes
abbrev pub Refuses : Refusal → ℕ → List ℕ → Type 0
Refuses (BadText place fault) size bytes = IsTextFault bytes place fault
Refuses NotBuilt size bytes = IsUnbuilt size bytes
Refuses NoMemory size bytes = Unit {0}

-- what a refusal says of the tree of a text
abbrev pub RefusesTree : Refusal → ℕ → Tree → Type 0
RefusesTree (BadText place fault) size tree = ⊥
RefusesTree NotBuilt size tree = (m : Module) → IsModuleOf size tree m → ⊥
RefusesTree NoMemory size tree = Unit {0}
