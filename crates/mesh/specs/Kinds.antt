-- The kinds of faces by name, numbered as row 4 compares them. Assumes nothing.
use Rattle.std.specs.Prelude.{ℕ}
use Rattle.mesh.specs.declared.kind.Kind.{Kind}
use Rattle.mesh.specs.declared.kind.Kind.TheVariants.{Triangle, Quadrangle, Larger}

abbrev pub kind_number : Kind → ℕ
kind_number Triangle = 0
kind_number Quadrangle = 1
kind_number Larger = 2
