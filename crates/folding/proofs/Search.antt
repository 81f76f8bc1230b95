-- The search for the first place whose position comes again behind it, as the code has it. Assumes nothing.
use Rattle.std.proofs.Common.{◌≡◌, ℕ, zero, suc, ◌+◌, ◌-◌, ◌<◌, Bool, true, false, List, length, get_or, take, drop, length-drop, sym, ap, ◌∙◌, arith, eqb, ltb}
use Rattle.std.proofs.Math.Seq.{drop-cons, drop-length, take_all}
use Rattle.std.specs.List.{list_any}
use native.Mathlib.Nat.{sub-zero}
use borrow.Author.Tests.{lt-ltb, le-ltb}
use Rattle.lists.specs.Numbers.{seek}
use Rattle.lists.proofs.Bools.{by_cases}
use Rattle.lists.proofs.Numbers.{seek_here, seek_on, seek_none}
use Rattle.lists.proofs.Others.{eqb_flip}
use Rattle.splitting.specs.Splitting.{mate_of, first_mated}

-- the first i, as a search that has begun
pub first_seeks : (ps : List ℕ) → seek (λ (i : ℕ). ltb (mate_of ps i) (length ps)) (length ps - 0) 0 ≡ first_mated ps
unfolding first_mated
first_seeks ps = rw (sub-zero (length ps))

-- a search from k on finds something where some element from k on passes
seek_any : (p q : ℕ → Bool) (ps : List ℕ) → ((j : ℕ) → p j ≡ q (get_or ps j 0)) → (c k : ℕ) → k + c ≡ length ps → ltb (seek p c k) (length ps) ≡ list_any q (drop k ps)
seek_any p q ps e zero k h =
    let n : k ≡ length ps = omega arith in
    rw (seek_none p k, n, drop-length) (le-ltb (length ps) (length ps) (omega arith))
seek_any p q ps e (suc c) k h =
    let l : k < length ps = (let z : k + suc c ≡ length ps = h in omega arith) in
    rw (drop-cons ps k 0 l)
    (by_cases (p k)
    (λ y. let g : q (get_or ps k 0) ≡ true = sym (e k) ∙ y in rw (seek_here p c k y, g) (lt-ltb k (length ps) l))
    (λ y.
    let g : q (get_or ps k 0) ≡ false = sym (e k) ∙ y in
    rw (seek_on p c k y, g) (seek_any p q ps e c (suc k) (let z : k + suc c ≡ length ps = h in omega arith))))

-- i has a mate where its number stands again in the part behind it
pub mate_seen : (ps : List ℕ) (i : ℕ) → i < length ps
    → ltb (mate_of ps i) (length ps) ≡ list_any (λ y. eqb y (get_or ps i 0)) (take (length ps - (i + 1)) (drop (i + 1) ps))
unfolding mate_of
mate_seen ps i h =
    let q : ℕ → Bool = λ y. eqb y (get_or ps i 0) in
    seek_any _ q ps (λ j. eqb_flip (get_or ps i 0) (get_or ps j 0)) (length ps - (i + 1)) (i + 1) (omega arith)
    ∙ ap (list_any q) (sym (take_all (length ps - (i + 1)) (drop (i + 1) ps) (omega (arith, length-drop (i + 1) ps))))
