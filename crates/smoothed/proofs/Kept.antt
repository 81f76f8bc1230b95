-- The verdict of the smoothed faces is that of the faces, where no two of these have the same positions. Assumes nothing.
use mathlib.Core.Path.{◌≡◌, refl, sym, ap, ◌∙◌}
use mathlib.Core.Bool.{Bool, true, false, cond}
use mathlib.Core.List.{List, ◌++◌}
use Prim.Native.Nat.{ℕ, ◌+◌, ◌≤◌, ◌<◌}
use native.Mathlib.Omega.{arith}
use lib.Dec.{leb, ltb}
use borrow.Author.Tests.{lt-ltb, le-ltb}
use Rattle.lists.specs.Lists.{each, count, bump}
use Rattle.lists.proofs.Counting.{bump_plus, count_append}
use Rattle.lists.proofs.Alike.{Alike}
use Rattle.mesh.specs.Mesh.{Ring, position}
use Rattle.verdicts.specs.Edges.{Edge, flip, key, edges_of, verdict}
use Rattle.verdicts.proofs.Reordered.{verdict_alike}
use Rattle.smoothed.specs.Smoothed.{four, middle, edges_by_use, smoothed_faces, Smoothable, repeated}
use Rattle.smoothed.proofs.All.{All, none, more, all_map, all_each}
use Rattle.smoothed.proofs.Verdicts.{key_flip, pair, verdict_beside}
use Rattle.smoothed.proofs.Places.{middle_above}
use Rattle.smoothed.proofs.Halves.{key_up, key_down, Numbered, half, verdict_halves}
use Rattle.smoothed.proofs.Proper.{Proper, proper, all_proper}
use Rattle.smoothed.proofs.Cuts.{cuts, cuts_closed}

-- ---- the edges of the four triangles are the halves of the old ones and the inner ones, there and back

unroll : (a b c : Bool) (m : ℕ) → bump a (bump b (bump c m)) ≡ m + bump a 0 + bump b 0 + bump c 0
unroll a b c m =
    let x : _ = bump_plus a (bump b (bump c m)) in
    let y : _ = bump_plus b (bump c m) in
    let z : _ = bump_plus c m in
    omega arith

twelve :
    (x1 x2 x3 y1 y2 y3 z1 z2 z3 w1 w2 w3 : Bool) (m h c : ℕ) → m ≡ h + c
    → bump x1 (bump x2 (bump x3 (bump y1 (bump y2 (bump y3 (bump z1 (bump z2 (bump z3 (bump w1 (bump w2 (bump w3 m)))))))))))
    ≡ bump x1 (bump z2 (bump z3 (bump y1 (bump y2 (bump x3 h))))) + bump w1 (bump y3 (bump w2 (bump x2 (bump w3 (bump z1 c)))))
twelve x1 x2 x3 y1 y2 y3 z1 z2 z3 w1 w2 w3 m h c e = simp unroll (omega arith)

module _ (n : ℕ) (ks : List Edge) where
  counted :
      (p : Edge → Bool) {fs : List Ring} → All (Proper n ks) fs
      → count p (edges_of (each (four n ks) fs)) ≡ count p (each (half n ks) (edges_of fs)) + count p (each pair (each (cuts n ks) fs))
  counted p none = refl
  counted p (more (proper {x = x} {y = y} {z = z} t) a) =
      let i : ℕ = middle n ks (position y, position z) in
      let j : ℕ = middle n ks (position z, position x) in
      let k : ℕ = middle n ks (position x, position y) in
      twelve
      (p (position x, k)) (p (k, j)) (p (j, position x))
      (p (i, position z)) (p (position z, j)) (p (j, i))
      (p (i, k)) (p (k, position y)) (p (position y, i))
      (p (i, j)) (p (j, k)) (p (k, i))
      _ _ _ (counted p a)

  pub parts_alike :
      {fs : List Ring} → All (Proper n ks) fs
      → Alike (edges_of (each (four n ks) fs)) (each (half n ks) (edges_of fs) ++ each pair (each (cuts n ks) fs))
  parts_alike {fs} a = record {
    agree = λ p. counted p a ∙ sym (count_append p (each (half n ks) (edges_of fs)) (each pair (each (cuts n ks) fs)));
  }

  -- ---- halves have an old end, inner edges have none

  all_numbered : {fs : List Ring} → All (Proper n ks) fs → All (Numbered n ks) (edges_of fs)
  all_numbered none = none
  all_numbered (more (proper t) a) = more t.ab (more t.bc (more t.ca (all_numbered a)))

  abbrev old : Edge → Bool
  old k = ltb k.0 n

  half_old : (e : Edge) → Numbered n ks e → All (λ h. old (key h) ≡ true) (half n ks e)
  half_old e o =
      let m : n ≤ middle n ks e = middle_above n ks e in
      let a : e.0 < n = o.start_below in
      let b : e.1 < n = o.end_below in
      more
      (ap old (key_up e.0 (middle n ks e) (omega arith)) ∙ lt-ltb e.0 n a)
      (more (ap old (key_down (middle n ks e) e.1 (omega arith)) ∙ lt-ltb e.1 n b) none)

  key_new : (e : Edge) → n ≤ e.0 → n ≤ e.1 → old (key e) ≡ false
  unfolding key
  key_new e a b = go (leb e.0 e.1)
    where
      go : (c : Bool) → ltb (cond c e (flip e)).0 n ≡ false
      go true = le-ltb e.0 n a
      go false = le-ltb e.1 n b

  cut_new : (d e : Edge) → All (λ h. old (key h) ≡ false) (pair (middle n ks d, middle n ks e))
  cut_new d e =
      let m : old (key (middle n ks d, middle n ks e)) ≡ false =
      key_new (middle n ks d, middle n ks e) (middle_above n ks d) (middle_above n ks e) in
      more m (more (ap old (key_flip (middle n ks d, middle n ks e)) ∙ m) none)

  cuts_new : {fs : List Ring} → All (Proper n ks) fs → All (λ h. old (key h) ≡ false) (each pair (each (cuts n ks) fs))
  cuts_new a = all_each pair (all_each (cuts n ks) (all_map (λ f h. more (cut_new _ _) (more (cut_new _ _) (more (cut_new _ _) none))) a))

  pub verdict_kept :
      {fs : List Ring} → All (Proper n ks) fs → repeated fs ≡ false → verdict (edges_of (each (four n ks) fs)) ≡ verdict (edges_of fs)
  verdict_kept {fs} a r =
      verdict_alike (parts_alike a)
      ∙ verdict_beside old (each (half n ks) (edges_of fs)) (each pair (each (cuts n ks) fs))
      (all_each (half n ks) (all_map half_old (all_numbered a)))
      (cuts_new a)
      (cuts_closed n ks a r)
      ∙ verdict_halves n ks (all_numbered a)

-- where no two faces have the same positions, the result's verdict is the input's verdict
pub smoothed_verdict :
    (n : ℕ) (fs : List Ring) → Smoothable n fs → repeated fs ≡ false
    → verdict (edges_of (smoothed_faces n fs)) ≡ verdict (edges_of fs)
unfolding smoothed_faces
smoothed_verdict n fs s r = verdict_kept n (edges_by_use fs) (all_proper n fs s) r
