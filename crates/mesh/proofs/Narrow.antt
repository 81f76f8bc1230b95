-- Row 5 in 32 bits: an index is beyond a count exactly where it is beyond the count in 32 bits. Assumes nothing.
use Rattle.std.proofs.Common.{◌≡◌, ℕ, ◌+◌, ◌-◌, ◌%◌, ◌<◌, ◌≤◌, eqb, ltb, leb, sym, ◌∙◌, arith, ltb-false, le-ltb, lt-ltb, eqb-true, leb-false, leb-true}
use borrow.Author.Tests.{eqb-false, lt-leb}
use Rattle.lists.proofs.Bools.{by_cases}
use Rattle.mesh.specs.Mesh.{missing}
use Rattle.mesh.specs.Table.{beyond_unless_missing, astray_by}
use Rattle.mesh.specs.Working.{narrow, strays}

-- an index is past n exactly where it is past n in 32 bits
past_narrow : (n i : ℕ) → i ≤ missing → ltb (narrow n) i ≡ ltb n i
past_narrow n i h =
    by_cases (ltb n missing)
    (λ e. rw e)
    (λ e. rw (e, le-ltb missing i h, le-ltb n i (omega (arith, h, ltb-false n missing e))))

beyond_narrow : (n i : ℕ) → i ≤ missing → beyond_unless_missing (narrow n) i ≡ beyond_unless_missing n i
beyond_narrow n i h =
    by_cases (ltb n missing)
    (λ e. rw e)
    (λ e.
    by_cases (eqb i missing)
    (λ q. rw q)
    (λ q.
    let f : i ≡ missing → ⊥ = eqb-false i missing q in
    let b : missing ≤ n = ltb-false n missing e in
    rw (e, q, lt-leb missing i (omega (arith, h, f)), lt-leb n i (omega (arith, h, f, b)))))

-- an index is past the last place exactly where it is not below the count; and so one more than an index is past the count
not_below : (p q x y : ℕ) → (p ≤ x → q < y) → (x < p → y ≤ q) → ltb q y ≡ leb p x
not_below p q x y f g =
    by_cases (leb p x)
    (λ e. lt-ltb q y (f (leb-true p x e)) ∙ sym e)
    (λ e. le-ltb q y (g (leb-false p x e)) ∙ sym e)

-- a corner is astray by the counts exactly where it is by the counts in 32 bits
pub strays_astray : (p t n x y z : ℕ) → 0 < p → x ≤ missing → y ≤ missing → z ≤ missing → strays (narrow (p - 1)) (narrow t) (narrow n) x y z ≡ astray_by p t n x y z
strays_astray p t n x y z h a b c =
    rw (past_narrow (p - 1) x a, beyond_narrow t y b, beyond_narrow n z c, not_below p (p - 1) x x (λ e. omega (arith, e, h)) (λ e. omega (arith, e, h)))
