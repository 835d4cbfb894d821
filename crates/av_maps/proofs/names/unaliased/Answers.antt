use Rattle.std.proofs.Common.{◌∙◌, ap, sym, List, ℕ}
use Rattle.av_tree.specs.declared.attribute.Attr.{Attr}
use Rattle.av_maps.specs.Names.{aliased, unaliased}
use Rattle.av_maps.proofs.names.unaliased.Goals as goal

pub returns-in-AliasUse : goal.returns-in-AliasUse
returns-in-AliasUse c =
    c.aliased.ensures ∙ ap (λ (n : List ℕ). aliased c.args.aliases.now n) c.as_slice.ensures
    ∙ ap (λ (v : Attr). unaliased c.args.aliases.now v) (sym c.in-AliasUse.is)
