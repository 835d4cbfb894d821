-- What holds of linear forms.
use Rattle.std.specs.Prelude.{◌≡◌}
use Rattle.av_affine.specs.declared.expression.Expr.{Expr}
use Rattle.av_affine.specs.Forms.{linear_form}
use Rattle.av_affine.specs.Spelling.{spelled}
use Rattle.av_affine_laws.specs.Normal.{Normal}

-- the spelling of an expression's linear form has that same form
abbrev pub SpellingFormLaw : Type 0
SpellingFormLaw = (e : Expr) → linear_form (spelled (linear_form e)) ≡ linear_form e

-- the terms of an expression's linear form are in order and different, no factor in it is zero, and so inside its opaque terms
abbrev pub NormalFormLaw : Type 0
NormalFormLaw = (e : Expr) → Normal (linear_form e)
