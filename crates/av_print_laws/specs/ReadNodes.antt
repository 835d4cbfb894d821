-- What holds of operations that were read or made of a module, where they are spelled in a form.
use Rattle.std.specs.Prelude.{ℕ, ◌≡◌, List, [], ◌∷◌, ◌++◌, Option, Some, None, codes}
use Rattle.std.specs.List.{All}
use Rattle.av_lex.specs.declared.token.Kind.TheVariants as kinds
use Rattle.av_lex.specs.declared.token.Sign.TheVariants.{Colon}
use Rattle.av_tree.specs.declared.written.TypeText.{TypeText}
use Rattle.av_tree.specs.declared.attribute.Named.{Named}
use Rattle.av_tree.specs.declared.node.BodyArg.{BodyArg}
use Rattle.av_tree.specs.declared.node.Node.{Node, Node-F, out-Node}
use Rattle.av_tree.specs.declared.node.Body.{Body, out-Body}
use Rattle.av_printer.specs.declared.form.Form.{Form}
use Rattle.av_printer.specs.declared.form.Form.TheVariants as forms
use Rattle.av_printer.specs.Expressions.{before, from}
use Rattle.av_printer.specs.Operations.{property, text_of}
use Rattle.av_print_laws.specs.Spacing.{IsWord}
use Rattle.av_print_laws.specs.ReadTypes.{IsReadType}
use Rattle.av_print_laws.specs.ReadExpressions.{IsValue}
use Rattle.av_print_laws.specs.ReadAttributes.{AreReadEntries}

-- nothing, or `:` and a number
abbrev pub IsCount : List ℕ → Type 0
IsCount [] = Unit {0}
IsCount (c ∷ cs) = IsWord (kinds.Sign Colon) (c ∷ []) × IsWord kinds.Number cs

-- a text names the results that an operation makes, as `%a` or `%r:2`
abbrev pub IsResult : List ℕ → Type 0
IsResult text = IsWord kinds.ValId (before 58 text) × IsCount (from 58 text)

-- an argument of a region has a name and a type that was read
abbrev pub IsReadArg : BodyArg → Type 0
IsReadArg a = IsWord kinds.ValId a.name × IsReadType a.ty

-- a type that was read, if the tree has one
abbrev pub IsReadTypeIf : Option TypeText → Type 0
IsReadTypeIf None = Unit {0}
IsReadTypeIf (Some ty) = IsReadType ty

-- where operations have forms of their own, the name of a function is a symbol with `@` before it
abbrev pub HasSymbol : Form → List ℕ → List Named → Type 0
HasSymbol forms.Named name properties =
    name ≡ codes "func.func" → IsWord kinds.SymId (codes "@" ++ text_of (property properties (codes "sym_name")))
HasSymbol forms.Generic name properties = Unit {0}

-- an operation beside its regions
pub record IsReadLine (form : Form) (n : Node-F Body Node) : Type 0 where
  pub named : IsWord kinds.Quoted (codes "\"" ++ n.name ++ codes "\"")
  pub makes : All IsResult n.results
  pub uses : All IsValue n.operands
  pub says : AreReadEntries n.properties
  pub marked : AreReadEntries n.attrs
  pub takes : All IsReadTypeIf n.in_types
  pub gives : All IsReadTypeIf n.out_types
  pub symbol : HasSymbol form n.name n.properties

mutual
  -- an operation: itself and its regions
  pub data IsReadNode (form : Form) : Node → Type 0 where
    node : (n : Node) → IsReadLine form (out-Node n) → AreReadBodies form (out-Node n).regions → IsReadNode form n

  -- regions, each with its arguments and its operations
  pub data AreReadBodies (form : Form) : List Body → Type 0 where
    no_bodies : AreReadBodies form []
    one_body_more : (b : Body) (rest : List Body) → All IsReadArg (out-Body b).args → AreReadNodes form (out-Body b).nodes
        → AreReadBodies form rest → AreReadBodies form (b ∷ rest)

  -- several operations
  pub data AreReadNodes (form : Form) : List Node → Type 0 where
    no_nodes : AreReadNodes form []
    one_node_more : (n : Node) (rest : List Node) → IsReadNode form n → AreReadNodes form rest → AreReadNodes form (n ∷ rest)
