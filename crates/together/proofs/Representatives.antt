-- The promise on representatives, of every group of a mesh that is merged: each group has a point, and 2,048 at most. Assumes nothing.
use mathlib.Core.Path.{◌≡◌, sym}
use mathlib.Core.Bool.{true}
use mathlib.Core.List.{List, [], ◌∷◌}
use Prim.Native.Nat.{ℕ, zero, suc, ◌/◌, ◌≤◌}
use native.Mathlib.Omega.{arith}
use lib.Dec.{eqb, ltb, lit≤}
use lib.ListN.{length, get_or, length-append}
use lib.Ieee.{Float}
use borrow.Author.Tests.{lt-ltb}
use Rattle.lists.specs.Lists.{has, joined, count}
use Rattle.lists.proofs.Bools.{by_cases, true_false}
use Rattle.lists.proofs.Counting.{count_none}
use Rattle.lists.proofs.Members.{Once}
use Rattle.lists.proofs.Others.{has_every, once_few}
use Rattle.lists.proofs.Parts.{every_at}
use Rattle.mesh.specs.Limits.{entry_limit}
use Rattle.mesh.proofs.Accepted.{Accepted, accepted}
use Rattle.floating.specs.Scaling.{scaled_list}
use Rattle.floating.proofs.InBox.{All, scaled_upto, list_upto}
use Rattle.nearby.specs.Pairs.{near_at}
use Rattle.nearby.specs.Walk.{groups}
use Rattle.nearby.specs.Promises.{ConnectedSets, lowest_first}
use Rattle.nearby.proofs.Connected.{groups_connected}
use Rattle.together.specs.Nearest.{NearestFirst, InEachGroup, RepresentativesAreNearest}
use Rattle.together.proofs.Numbers.{clear, positions_bounded, textures_bounded, normals_bounded}
use Rattle.together.proofs.Scaling.{scaled_length}
use Rattle.together.proofs.Nearest.{Small, nearest_first}

-- a part of a list is no longer than the whole
part_length : (gs : List (List ℕ)) (k : ℕ) → length (get_or gs k []) ≤ length (joined gs)
part_length [] k = omega arith
part_length (g ∷ gs) zero = let e = length-append g (joined gs) in omega arith
part_length (g ∷ gs) (suc k) = let e = length-append g (joined gs) in let h = part_length gs k in omega arith

module _ (t : Float) (w : ℕ) (s : List Float) where
  abbrev n : ℕ
  n = length s / w

  abbrev gs : List (List ℕ)
  gs = groups (near_at t w s) n

  sets : ConnectedSets (near_at t w s) n gs
  sets = groups_connected t w s

  once : Once (joined gs)
  once x =
      by_cases (has x (joined gs))
      (λ e. let z : count (eqb x) (joined gs) ≡ 1 = sets.once x (sets.inside x e) in omega arith)
      (λ e. let z : count (eqb x) (joined gs) ≡ 0 = count_none (eqb x) (joined gs) e in omega arith)

  group_few : (k : ℕ) → length (get_or gs k []) ≤ n
  group_few k =
      let a = part_length gs k in
      let b : length (joined gs) ≤ n = once_few n (joined gs) once (has_every (λ (x : ℕ). ltb x n) (joined gs) (λ x e. lt-ltb x n (sets.inside x e))) in
      omega arith

  pub nearest_each : w ≤ 3 → n ≤ entry_limit → All Small s → InEachGroup t w s
  nearest_each narrow few a k h = go (get_or gs k []) (every_at lowest_first [] gs k sets.lowest h) (group_few k)
    where
      go : (g : List ℕ) → lowest_first g ≡ true → length g ≤ n → NearestFirst w s g
      go [] e l = true_false (sym e)
      go (j ∷ g) e l = nearest_first w s narrow a j g (let z : suc (length g) ≤ n = l in omega arith)

pub representatives_are_nearest : RepresentativesAreNearest
representatives_are_nearest m t room earns dp dt dn =
    let a : Accepted m = accepted m (clear m t room earns).mesh in
    record {
      positions =
          nearest_each t 3 (scaled_list m.positions) (lit≤ tt) (omega (arith, a.limits.positions, scaled_length m.positions a.whole.positions))
          (scaled_upto m.positions dp (positions_bounded m t room earns));
      textures = nearest_each t 2 m.textures (lit≤ tt) (omega (arith, a.limits.textures)) (list_upto m.textures dt (textures_bounded m t room earns));
      normals = nearest_each t 3 m.normals (lit≤ tt) (omega (arith, a.limits.normals)) (list_upto m.normals dn (normals_bounded m t room earns));
    }
