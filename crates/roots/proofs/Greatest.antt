-- Every number has a root, and one only. Assumes nothing.
use mathlib.Core.Path.{◌≡◌, refl}
use mathlib.Core.Bool.{Bool, true, false, cond}
use Prim.Native.Nat.{ℕ, zero, suc, ◌+◌, ◌*◌, ◌≤◌, ◌<◌}
use native.Mathlib.Nat.{mul-le-mul, suc-mul}
use native.Mathlib.Omega.{arith}
use lib.Dec.{leb}
use borrow.Author.Tests.{leb-true, leb-false}
use Rattle.roots.specs.Roots.{Root, grown, root_of}

-- a greater number has a greater square
pub square_grows : (a b : ℕ) → a < b → a * a < b * b
square_grows a b h =
    let k : suc a * suc a ≤ b * b = mul-le-mul h h in
    let e : suc a * suc a ≡ a * suc a + suc a = suc-mul a (suc a) in
    let m : a * a ≤ a * suc a = mul-le-mul (let z : a ≤ a = omega arith in z) (let z : a ≤ suc a = omega arith in z) in
    omega arith

-- no two roots
not_less : (x r s : ℕ) → Root x r → Root x s → r < s → ⊥
not_less x r s p q h =
    let z : r + 1 ≤ s = omega arith in
    let k : (r + 1) * (r + 1) ≤ s * s = mul-le-mul z z in
    let l : x < (r + 1) * (r + 1) = p.greatest in
    let m : s * s ≤ x = q.at_most in
    omega arith

pub one_root : (x r s : ℕ) → Root x r → Root x s → r ≡ s
one_root x r s p q =
    let a : r < s → ⊥ = not_less x r s p q in let b : s < r → ⊥ = not_less x s r q p in omega arith

-- and the one that is counted up to
grown_root : (n r : ℕ) → Root n r → Root (suc n) (grown (suc n) r)
grown_root n r p = go (leb ((r + 1) * (r + 1)) (suc n)) refl
  where
    go : (b : Bool) → leb ((r + 1) * (r + 1)) (suc n) ≡ b → Root (suc n) (cond b (r + 1) r)
    go true q =
        let l : n < (r + 1) * (r + 1) = p.greatest in
        let k : (r + 1) * (r + 1) < (r + 1 + 1) * (r + 1 + 1) = square_grows (r + 1) (r + 1 + 1) (omega arith) in
        record { at_most = leb-true ((r + 1) * (r + 1)) (suc n) q; greatest = omega arith }
    go false q =
        let l : r * r ≤ n = p.at_most in
        let k : suc n < (r + 1) * (r + 1) = leb-false ((r + 1) * (r + 1)) (suc n) q in
        record { at_most = omega arith; greatest = k }

pub root_is : (n : ℕ) → Root n (root_of n)
unfolding root_of
root_is zero = record { at_most = omega arith; greatest = omega arith }
root_is (suc n) = grown_root n (root_of n) (root_is n)

pub root_of_lem : (x r : ℕ) → Root x r → r ≡ root_of x
root_of_lem x r p = one_root x r (root_of x) p (root_is x)

-- a square's bound bounds the root
pub root_most : (x b : ℕ) → x < (b + 1) * (b + 1) → root_of x ≤ b
root_most x b h =
    go (leb (root_of x) b) refl
  where
    go : (t : Bool) → leb (root_of x) b ≡ t → root_of x ≤ b
    go true q = leb-true (root_of x) b q
    go false q =
        let l : b < root_of x = leb-false (root_of x) b q in
        let z : b + 1 ≤ root_of x = omega arith in
        let k : (b + 1) * (b + 1) ≤ root_of x * root_of x = mul-le-mul z z in
        let m : root_of x * root_of x ≤ x = (root_is x).at_most in
        absurd (omega arith)
