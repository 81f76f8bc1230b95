-- The number of a merge, row by row. Assumes nothing.
use mathlib.Core.Path.{◌≡◌, refl, ◌∙◌}
use mathlib.Core.Bool.{Bool, true, false, ◌||◌}
use Prim.Native.Nat.{ℕ, zero, suc, ◌≤◌, ◌<◌}
use native.Mathlib.Omega.{arith}
use lib.Dec.{eqb, ltb}
use lib.ListN.{length}
use lib.Ieee.{Float}
use borrow.Author.Tests.{eqb-true, eqb-false, lt-ltb, le-ltb, ltb-true, ltb-false}
use Rattle.lists.specs.Lists.{some}
use Rattle.lists.proofs.Bools.{by_cases, or_false_left, or_false_right}
use Rattle.mesh.specs.Mesh.{Mesh}
use Rattle.mesh.specs.Table.{mesh_number, short}
use Rattle.floating.specs.Limits.{unfit, boundless, distant}
use Rattle.together.specs.Merging.{any_boundless, any_distant, merge_number}

module _ (m : Mesh) (t : Float) (room : ℕ) where
  own_row : (n : ℕ) → mesh_number m ≡ suc n → suc n ≡ merge_number m t room
  unfolding merge_number
  own_row n e = rw e

  pub by_mesh : (mesh_number m ≡ 0 → ⊥) → mesh_number m ≡ merge_number m t room
  by_mesh h = go (mesh_number m) refl
    where
      go : (n : ℕ) → mesh_number m ≡ n → n ≡ merge_number m t room
      go zero e = absurd (h e)
      go (suc n) e = own_row n e

  module _ (mesh-0 : mesh_number m ≡ 0) where
    pub by_6 : unfit t ≡ true → 6 ≡ merge_number m t room
    unfolding merge_number
    by_6 e = rw (mesh-0, e)

    module _ (fit : unfit t ≡ false) where
      pub by_7 : any_boundless m ≡ true → 7 ≡ merge_number m t room
      unfolding merge_number
      by_7 e = rw (mesh-0, fit, e)

      module _ (bounded : any_boundless m ≡ false) where
        pub by_8 : any_distant m t ≡ true → 8 ≡ merge_number m t room
        unfolding merge_number
        by_8 e = rw (mesh-0, fit, bounded, e)

        module _ (near : any_distant m t ≡ false) where
          pub by_9 : room < length m.corners → 9 ≡ merge_number m t room
          unfolding merge_number short
          by_9 l = rw (mesh-0, fit, bounded, near, lt-ltb room (length m.corners) l)

          pub by_0 : length m.corners ≤ room → 0 ≡ merge_number m t room
          unfolding merge_number short
          by_0 l = rw (mesh-0, fit, bounded, near, le-ltb room (length m.corners) l)

-- what a mesh, a tolerance and a room that earn 0 promise
pub record Clear (m : Mesh) (t : Float) (room : ℕ) : Type 0 where
  pub mesh : mesh_number m ≡ 0
  pub fit : unfit t ≡ false
  pub bounded : any_boundless m ≡ false
  pub near : any_distant m t ≡ false
  pub long : length m.corners ≤ room

module _ (m : Mesh) (t : Float) (room : ℕ) (zero : merge_number m t room ≡ 0) where
  -- a row that holds would have given its number
  not_given : (b : Bool) (n : ℕ) → (b ≡ true → suc n ≡ merge_number m t room) → b ≡ false
  not_given b n h = by_cases b (λ e. absurd (let z : suc n ≡ 0 = h e ∙ zero in omega arith)) (λ e. e)

  pub clear : Clear m t room
  clear =
      let mesh-0 : mesh_number m ≡ 0 =
      by_cases (eqb (mesh_number m) 0)
      (λ e. eqb-true (mesh_number m) 0 e)
      (λ e. by_mesh m t room (eqb-false (mesh_number m) 0 e) ∙ zero) in
      let fit : unfit t ≡ false = not_given (unfit t) 5 (by_6 m t room mesh-0) in
      let bounded : any_boundless m ≡ false = not_given (any_boundless m) 6 (by_7 m t room mesh-0 fit) in
      let near : any_distant m t ≡ false = not_given (any_distant m t) 7 (by_8 m t room mesh-0 fit bounded) in
      let l : ltb room (length m.corners) ≡ false =
      not_given (ltb room (length m.corners)) 8 (λ e. by_9 m t room mesh-0 fit bounded near (ltb-true room (length m.corners) e)) in
      record { mesh = mesh-0; fit = fit; bounded = bounded; near = near; long = ltb-false room (length m.corners) l }

  -- rows 7 and 8, list by list
  first_two : (some boundless m.positions || some boundless m.textures) ≡ false
  unfolding any_boundless
  first_two = or_false_left (some boundless m.positions || some boundless m.textures) (some boundless m.normals) clear.bounded

  pub positions_bounded : some boundless m.positions ≡ false
  positions_bounded = or_false_left (some boundless m.positions) (some boundless m.textures) first_two

  pub textures_bounded : some boundless m.textures ≡ false
  textures_bounded = or_false_right (some boundless m.positions) (some boundless m.textures) first_two

  pub normals_bounded : some boundless m.normals ≡ false
  unfolding any_boundless
  normals_bounded = or_false_right (some boundless m.positions || some boundless m.textures) (some boundless m.normals) clear.bounded

  pub textures_near : some (distant t) m.textures ≡ false
  unfolding any_distant
  textures_near = or_false_left (some (distant t) m.textures) (some (distant t) m.normals) clear.near

  pub normals_near : some (distant t) m.normals ≡ false
  unfolding any_distant
  normals_near = or_false_right (some (distant t) m.textures) (some (distant t) m.normals) clear.near
