-- The texts that are taken.
use Rattle.std.specs.Prelude.{◌≡◌, ℕ, ◌<◌, ◌≤◌, List, [], ◌∷◌, length, true, false}
use Rattle.av_lex.specs.declared.token.Token.{Token}
use Rattle.av_lex.specs.Tokens.{Tokens}
use Rattle.av_tree.specs.declared.node.Tree.{Tree}
use Rattle.av_reader.specs.Reading.{IsTree}
use Rattle.av_verify.specs.declared.module.Mode.TheVariants.{Scalar}
use Rattle.av_verify.specs.FirstPath.{is_first_path_of}
use Rattle.av_verify.specs.Elaboration.{gives, elaborated}
use Rattle.av_ir.specs.declared.module.Module.{Module}

-- The bytes are at most a megabyte and have tokens, and these a tree.
pub record IsText (bytes : List ℕ) : Type 0 where
  pub few : length bytes ≤ 1048576
  pub tokens : List Token
  pub lexed : Tokens bytes tokens
  pub tree : Tree
  pub is_tree : IsTree bytes tokens tree

-- the bytes are at most a megabyte, and have no tokens or these no tree
pub record IsNoText (bytes : List ℕ) : Type 0 where
  pub few : length bytes ≤ 1048576
  pub none : IsText bytes → ⊥

-- the bytes are more than a megabyte
abbrev pub IsTooLarge : List ℕ → Type 0
IsTooLarge bytes = 1048576 < length bytes

-- The tree has the forms that are taken, no rule fails in it for so many lanes, and it is this module.
pub record IsModuleOf (size : ℕ) (tree : Tree) (m : Module) : Type 0 where
  pub forms : is_first_path_of tree ≡ true
  pub elaborates : elaborated tree (Scalar (record { sizes = size ∷ []; scalable = false })) ≡ gives m

-- The bytes are a text, whose tree is a module for so many lanes.
pub record IsFirstPathText (size : ℕ) (bytes : List ℕ) : Type 0 where
  pub text : IsText bytes
  pub result : Module
  pub is : IsModuleOf size text.tree result

-- The bytes are a text, but not of the forms that are taken, or a rule fails in it for so many lanes.
pub record IsUnbuilt (size : ℕ) (bytes : List ℕ) : Type 0 where
  pub text : IsText bytes
  pub other : IsFirstPathText size bytes → ⊥
