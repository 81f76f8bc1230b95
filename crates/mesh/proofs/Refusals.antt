-- A refusal has a number that is not 0, so that what is answered is a refusal exactly where its number is not 0. Assumes nothing.
use Rattle.std.proofs.Common.{◌≡◌, true, false, refl, arith}
use Rattle.std.specs.Prelude.{Result, Ok, Err, is_err}
use Rattle.mesh.specs.declared.refusal.Refusal.{Refusal}
use Rattle.mesh.specs.declared.refusal.Refusal.TheVariants.{OverLimit, Misfit, FaceSize, Ungrouped, Index, Tolerance, Coordinate, Quotient, Room, NoHouseWires, FileCut, Record, AfterEnd, NotFinite, NotTriangle, FoldedOrUnused, UnfitCosines, Triples, TooFar}
use Rattle.mesh.specs.Refusals.{number_of, refused_number}

pub number_not_0 : (r : Refusal) → number_of r ≡ 0 → ⊥
number_not_0 OverLimit e = omega arith
number_not_0 Misfit e = omega arith
number_not_0 FaceSize e = omega arith
number_not_0 Ungrouped e = omega arith
number_not_0 Index e = omega arith
number_not_0 Tolerance e = omega arith
number_not_0 Coordinate e = omega arith
number_not_0 Quotient e = omega arith
number_not_0 Room e = omega arith
number_not_0 NoHouseWires e = omega arith
number_not_0 FileCut e = omega arith
number_not_0 Record e = omega arith
number_not_0 AfterEnd e = omega arith
number_not_0 NotFinite e = omega arith
number_not_0 NotTriangle e = omega arith
number_not_0 FoldedOrUnused e = omega arith
number_not_0 UnfitCosines e = omega arith
number_not_0 Triples e = omega arith
number_not_0 TooFar e = omega arith

module _ {A : Type 0} where
  pub refused_not_0 : (r : Result A Refusal) → is_err r ≡ true → refused_number r ≡ 0 → ⊥
  refused_not_0 (Ok a) e z = absurd cc
  refused_not_0 (Err r) e z = number_not_0 r z

  pub done_0 : (r : Result A Refusal) → is_err r ≡ false → refused_number r ≡ 0
  done_0 (Ok a) e = refl
  done_0 (Err r) e = absurd cc
