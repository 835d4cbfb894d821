-- Where a term or an opaque term is added.
use Rattle.std.specs.Prelude.{ℕ, suc, ℤ, ◌+ℤ◌, List, ◌++◌, take, drop, slice_index_or}
use Rattle.av_affine.specs.declared.linear.Term.{Term}
use Rattle.av_affine.specs.declared.linear.Opaque.{Opaque}
use Rattle.av_affine.specs.Forms.{term_unless_zero, opaque_unless_zero, factor_of}

-- the list with more added to the factor of the term at place i; d is read only past the end
abbrev pub term_raised : List Term → ℕ → Term → ℤ → List Term
term_raised ts i d f =
    let t = slice_index_or ts i d in take i ts ++ term_unless_zero t.leaf (t.factor +ℤ f) (drop (suc i) ts)

-- the same of opaque terms
abbrev pub opaque_raised : List Opaque → ℕ → Opaque → ℤ → List Opaque
opaque_raised os i d f =
    let o = slice_index_or os i d in take i os ++ opaque_unless_zero o (factor_of o +ℤ f) (drop (suc i) os)
