-- The cast is the cut, and its sum with 2^53 the place. Assumes nothing.
use Rattle.std.proofs.Common.{◌≡◌, ℤ, pos, ◌+ℤ◌, ◌^◌, ◌<◌, nat_abs, FitsSigned, ◌∙◌, ap, arith, rules}
use Rattle.std.proofs.lemmas.Int.{to_z-of_z}
use Rattle.floating.specs.Cells.{cut, place}
use Rattle.floating.proofs.Cut.{cast_cut, place_is_sum, place_small}
use Rattle.floating.proofs.Places.{cut_small}
use Rattle.floating.proofs.cell_of.Goals as goal
use mir.Val.{to_z, of_z}
use mir.Syntax.{w64}

abbrev sum : ℤ → ℤ
sum z = pos (2 ^ 53) +ℤ to_z w64 (of_z w64 z)

-- what the cast gives is a cell, and the sum its place
sum_is : (c : goal.After-saturating_f64_to_i64) → sum c.saturating_f64_to_i64.result ≡ pos (place (cut c.args.q))
sum_is c =
    let s : FitsSigned w64 c.saturating_f64_to_i64.result = search rules in
    let b : nat_abs (cut c.args.q) < 2 ^ 53 = cut_small _ c.requires in
    ap (λ (z : ℤ). pos (2 ^ 53) +ℤ z) (to_z-of_z w64 _ s ∙ c.saturating_f64_to_i64.ensures ∙ cast_cut _ c.requires) ∙ place_is_sum (cut c.args.q) (omega arith)

small : (c : goal.After-saturating_f64_to_i64) → place (cut c.args.q) < 2 ^ 63
small c = let b : nat_abs (cut c.args.q) < 2 ^ 53 = cut_small _ c.requires in place_small (cut c.args.q) (omega arith)

fits : (c : goal.After-saturating_f64_to_i64) → FitsSigned w64 (pos (place (cut c.args.q)))
fits c = let p = small c in search rules

pub overflow_add-result : goal.overflow_add-result
overflow_add-result c = rw (sum_is c) (fits c)

pub overflow_cast-result : goal.overflow_cast-result
overflow_cast-result c = let p = small c in rw (sum_is c, to_z-of_z w64 _ (fits c)) (tt, search rules)

pub returns : goal.returns
returns c = rw (sum_is c, to_z-of_z w64 _ (fits c))
