-- Texts that read again as a module.
use Rattle.std.specs.Prelude.{◌≡◌, ℕ, List}
use Rattle.av_lex.specs.declared.token.Token.{Token}
use Rattle.av_lex.specs.Tokens.{Tokens}
use Rattle.av_tree.specs.declared.node.Tree.{Tree}
use Rattle.av_reader.specs.Reading.{IsTree}
use Rattle.av_ir.specs.declared.module.Module.{Module}
use Rattle.av_verify.specs.declared.module.Mode.TheVariants.{Run}
use Rattle.av_verify.specs.Elaboration.{elaborated, gives}

-- The text has tokens, and these a tree, in which no rule fails that is asked of a module to be run, and which is this module.
pub record ReadsAgain (text : List ℕ) (m : Module) : Type 0 where
  pub tokens : List Token
  pub lexed : Tokens text tokens
  pub tree : Tree
  pub is_tree : IsTree text tokens tree
  pub elaborates : elaborated tree Run ≡ gives m
