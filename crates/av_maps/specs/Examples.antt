-- Some written maps, and what is asked of them.
use Rattle.std.specs.Prelude.{◌≡◌, ℕ, pos, true, false, List, [], ◌∷◌, codes, Some, None}
use Rattle.av_affine.specs.declared.expression.Expr.TheVariants as expr
use Rattle.av_affine.specs.declared.expression.Leaf.TheVariants.{Dim, Sym}
use Rattle.av_tree.specs.declared.attribute.Alias.{Alias}
use Rattle.av_tree.specs.declared.attribute.Attr.TheVariants.{Map, AliasUse, Unit}
use Rattle.av_tree.specs.declared.written.ExprText.{ExprText}
use Rattle.av_tree.specs.declared.written.ExprText.TheVariants as text
use Rattle.av_tree.specs.declared.written.MapText.{MapText}
use Rattle.av_maps.specs.declared.roles.Role.TheVariants as role
use Rattle.av_maps.specs.Applying.{normal_use}
use Rattle.av_maps.specs.Asked.{is_affine_map}
use Rattle.av_maps.specs.Names.{map_in}
use Rattle.av_maps.specs.Roles.{are_in_place}
use Rattle.av_maps.specs.Written.{map_of}

-- the map (i, j)[n] -> (left, right), where the right result is n
abbrev over : List ℕ → ExprText → MapText
over second left = record {
  dims = codes "i" ∷ second ∷ [];
  syms = codes "n" ∷ [];
  results = left ∷ text.Name (codes "n") ∷ [];
}

-- j mod 2 + n
abbrev sum : ExprText
sum = text.Add (text.Mod (text.Name (codes "j")) (text.Const (pos 2))) (text.Name (codes "n"))

-- (i, j)[n] -> (j mod 2 + n, n), with numbers in place of names
abbrev Numbered : Type 0
Numbered =
    map_of (over (codes "j") sum)
    ≡ record {
      dims = 2;
      syms = 1;
      results =
          expr.Add (expr.Mod (expr.Param (Dim 1)) (expr.Const (pos 2))) (expr.Param (Sym 0)) ∷ expr.Param (Sym 0) ∷ [];
    }

-- it is affine; with k in place of j an unknown name occurs; with i there a parameter stands twice; and i * j is no affine expression
abbrev Affine : Type 0
Affine =
    (is_affine_map (over (codes "j") sum) ≡ true) × (is_affine_map (over (codes "k") sum) ≡ false)
    × (is_affine_map (over (codes "i") (text.Name (codes "i"))) ≡ false)
    × (is_affine_map (over (codes "j") (text.Mul (text.Name (codes "i")) (text.Name (codes "j")))) ≡ false)

-- at the values 7 and 8 and the symbol 7 it is (d0)[s0] -> (d0 mod 2 + s0, s0) at 8 and the symbol 7
abbrev Normal : Type 0
Normal =
    normal_use (map_of (over (codes "j") sum)) (record { 0 = 7 } ∷ record { 0 = 8 } ∷ record { 0 = 7 } ∷ [])
    ≡ record {
      map = record {
        dims = 1;
        syms = 1;
        results =
            expr.Add (expr.Mod (expr.Param (Dim 0)) (expr.Const (pos 2))) (expr.Param (Sym 0)) ∷ expr.Param (Sym 0) ∷ [];
      };
      operands = record { 0 = 8 } ∷ record { 0 = 7 } ∷ [];
    }

-- the variable of a loop may be a dimension and no symbol
abbrev InPlace : Type 0
InPlace =
    (are_in_place 1 (role.Dimension ∷ role.Symbol ∷ []) ≡ true) × (are_in_place 0 (role.Dimension ∷ []) ≡ false)
    × (are_in_place 1 (role.Symbol ∷ []) ≡ true) × (are_in_place 1 (role.Plain ∷ []) ≡ false)

-- a map by an alias that is defined once, twice, and as something else
abbrev alias : List ℕ → Alias
alias name = record { name = name; value = Map (over (codes "j") sum) }

abbrev Aliased : Type 0
Aliased =
    (map_in (alias (codes "#n") ∷ alias (codes "#m") ∷ []) (AliasUse (codes "#m")) ≡ Some (over (codes "j") sum))
    × (map_in (alias (codes "#m") ∷ alias (codes "#m") ∷ []) (AliasUse (codes "#m")) ≡ None)
    × (map_in [] (AliasUse (codes "#m")) ≡ None) × (map_in [] Unit ≡ None)

abbrev pub MapExamples : Type 0
MapExamples = Numbered × Affine × Normal × InPlace × Aliased
