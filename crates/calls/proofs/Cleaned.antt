-- Where no face is folded removal leaves the faces as they are, and so what demand 3 says of the calls it says of the calls after
-- removal too. It is enough to look at one of the two meshes: whether a ring is folded does not depend on where it begins.
-- Assumes nothing.
use mathlib.Core.Path.{◌≡◌, refl, sym, ap, ◌∙◌}
use mathlib.Core.Logic.{⊎_elim}
use mathlib.Core.Bool.{true, false, ◌||◌}
use mathlib.Core.List.{List, [], ◌∷◌, map}
use Prim.Native.Nat.{ℕ, ◌+◌, ◌≤◌, ◌<◌}
use native.Mathlib.Omega.{arith}
use lib.Dec.{eqb}
use Rattle.lists.specs.Lists.{count, has, some}
use Rattle.lists.proofs.Bools.{by_cases, or_left, or_right}
use Rattle.lists.proofs.Cases.{iff, or_swap}
use Rattle.lists.proofs.Counting.{clash, or_either, count_append, count_some, some_counted, bump_plus}
use Rattle.lists.proofs.Alike.{some_map}
use Rattle.lists.proofs.Others.{eqb_self}
use borrow.Author.Tests.{eqb-true}
use Rattle.mesh.specs.Mesh.{Mesh, Ring, position, faces}
use Rattle.mesh.specs.Table.{mesh_number}
use Rattle.splitting.specs.Splitting.{twice, folded_by}
use Rattle.folding.specs.Folding.{folded}
use Rattle.removal.specs.Folded.{unfolded_mesh}
use Rattle.removal.proofs.Accepted.{removed_accepted, faces_stay}
use Rattle.order.specs.Same.{Turned, Same, none, face, swap, then}
use Rattle.order.specs.Demand.{by_position}
use Rattle.order.proofs.Turning.{Halves, halves}
use Rattle.order.proofs.Matched.{same_map}
use Rattle.calls.specs.Order.{CallsAgreeByPosition}
use Rattle.calls.specs.Promises.{UnfoldedCallsAgree}
use Rattle.calls.proofs.Order.{demand3_of_the_calls, positions_enough_for_the_calls}

-- ---- a number that stands in a list twice

twice_count : (l : List ℕ) → twice l ≡ true → (x : ℕ) × (2 ≤ count (eqb x) l)
twice_count [] h = clash h refl
twice_count (p ∷ ps) h =
    ⊎_elim
    (λ e. (p, let c : 0 < count (eqb p) ps = count_some (eqb p) ps e in rw (eqb_self p) (omega arith)))
    (λ e. let t : (x : ℕ) × (2 ≤ count (eqb x) ps) = twice_count ps e in (t.0, omega (arith, t.1, bump_plus (eqb t.0 p) (count (eqb t.0) ps))))
    (or_either (has p ps) (twice ps) h)

count_twice : (x : ℕ) (l : List ℕ) → 2 ≤ count (eqb x) l → twice l ≡ true
count_twice x [] h = absurd (omega arith)
count_twice x (p ∷ ps) h =
    by_cases
    (eqb x p)
    (λ e.
    let k : 2 ≤ 1 + count (eqb x) ps = omega (arith, rw e at h) in
    or_left (has p ps) (twice ps) (ap (λ (y : ℕ). has y ps) (sym (eqb-true x p e)) ∙ some_counted (eqb x) ps (omega arith)))
    (λ e. or_right (has p ps) (twice ps) (count_twice x ps (rw e at h)))

-- a ring begun elsewhere
twice_turned : {f g : List ℕ} → Turned f g → twice f ≡ twice g
twice_turned {f} {g} t = iff (twice f) (twice g) (λ h. over f g same h) (λ h. over g f (λ x. sym (same x)) h)
  where
    same : (x : ℕ) → count (eqb x) f ≡ count (eqb x) g
    same x =
        let h : Halves f g = halves t in
        let a : count (eqb x) f ≡ count (eqb x) h.front + count (eqb x) h.rear =
        ap (count (eqb x)) h.was ∙ count_append (eqb x) h.front h.rear in
        let b : count (eqb x) g ≡ count (eqb x) h.rear + count (eqb x) h.front =
        ap (count (eqb x)) h.is ∙ count_append (eqb x) h.rear h.front in
        omega arith

    over : (s l : List ℕ) → ((x : ℕ) → count (eqb x) s ≡ count (eqb x) l) → twice s ≡ true → twice l ≡ true
    over s l e h = let t : (x : ℕ) × (2 ≤ count (eqb x) s) = twice_count s h in count_twice t.0 l (omega (arith, t.1, e t.0))

twice_same : {m n : List (List ℕ)} → Same m n → some twice m ≡ some twice n
twice_same none = refl
twice_same (face t s) = λ i. twice_turned t i || twice_same s i
twice_same (swap {f = f} {g = g} {m = m}) = or_swap (twice f) (twice g) (some twice m)
twice_same (then s t) = twice_same s ∙ twice_same t

-- the same positions, and so the same faces
pub folded_by_position : (m n : List Ring) → Same (by_position m) (by_position n) → some folded m ≡ some folded n
unfolding folded_by
folded_by_position m n s = sym (some_map twice (map position) m) ∙ twice_same s ∙ some_map twice (map position) n

pub folded_same : {m n : List Ring} → Same m n → some folded m ≡ some folded n
folded_same {m} {n} s = folded_by_position m n (same_map position s)

-- ---- after removal

pub unfolded_calls : UnfoldedCallsAgree
unfolded_calls m n a b s h =
    demand3_of_the_calls (unfolded_mesh m) (unfolded_mesh n) (removed_accepted m a) (removed_accepted n b)
    (rw (faces_stay m a h, faces_stay n b (sym (folded_same s) ∙ h)) s)

pub unfolded_calls_by_position :
    (m n : Mesh) → mesh_number m ≡ 0 → mesh_number n ≡ 0 → Same (by_position (faces m)) (by_position (faces n)) → some folded (faces m) ≡ false
    → CallsAgreeByPosition (unfolded_mesh m) (unfolded_mesh n)
unfolded_calls_by_position m n a b s h =
    positions_enough_for_the_calls (unfolded_mesh m) (unfolded_mesh n) (removed_accepted m a) (removed_accepted n b)
    (rw (faces_stay m a h, faces_stay n b (sym (folded_by_position (faces m) (faces n) s) ∙ h)) s)
