-- What holds of operations that were read, beside their regions.
use Rattle.std.proofs.Common.{◌++◌, codes}
use Rattle.std.specs.List.{All}
use Rattle.av_lex.specs.declared.token.Kind.TheVariants as kinds
use Rattle.av_printer.specs.Operations.{Head}
use Rattle.av_print_laws.specs.Spacing.{IsWord}
use Rattle.av_print_laws.specs.ReadExpressions.{IsValue}
use Rattle.av_print_laws.specs.ReadAttributes.{AreReadEntries}
use Rattle.av_print_laws.specs.ReadNodes.{IsReadArg, IsReadTypeIf}

pub record ReadHead (h : Head) : Type 0 where
  pub named : IsWord kinds.Quoted (codes "\"" ++ h.name ++ codes "\"")
  pub uses : All IsValue h.operands
  pub says : AreReadEntries h.properties
  pub marked : AreReadEntries h.attrs
  pub takes : All IsReadTypeIf h.in_types
  pub gives : All IsReadTypeIf h.out_types
  pub within : All IsReadArg h.arguments
