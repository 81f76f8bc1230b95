-- Kinds are in the order of their numbers. Assumes nothing.
use Rattle.std.proofs.Common.{◌≡◌, ltb, refl}
use Rattle.std.specs.Ordering.{partial_lt}
use Rattle.mesh.specs.declared.kind.Kind.{Kind}
use Rattle.mesh.specs.declared.kind.Kind.TheVariants.{Triangle, Quadrangle, Larger}
use Rattle.mesh.specs.contracts.kind.KindPartialOrd.TheImpl.{partial_cmp-value}
use Rattle.mesh.specs.Kinds.{kind_number}

pub kind_before : (a b : Kind) → partial_lt partial_cmp-value.it a b ≡ ltb (kind_number a) (kind_number b)
kind_before Triangle Triangle = refl
kind_before Triangle Quadrangle = refl
kind_before Triangle Larger = refl
kind_before Quadrangle Triangle = refl
kind_before Quadrangle Quadrangle = refl
kind_before Quadrangle Larger = refl
kind_before Larger Triangle = refl
kind_before Larger Quadrangle = refl
kind_before Larger Larger = refl
