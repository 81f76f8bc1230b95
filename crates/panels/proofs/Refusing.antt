-- The number of the call, row by row, and its refusals: nothing is written and nothing counted. Assumes nothing.
use mathlib.Core.Path.{◌≡◌, sym, ◌∙◌}
use mathlib.Core.Bool.{Bool, true}
use mathlib.Core.List.{List, [], ◌∷◌}
use Prim.Native.Nat.{ℕ, ◌/◌, ◌≤◌, ◌<◌}
use native.Mathlib.Omega.{arith}
use lib.ListN.{length}
use Rattle.mesh.specs.Limits.{width}
use Rattle.mesh.specs.Mesh.{Mesh}
use Rattle.mesh.specs.Listed.{listed_of}
use Rattle.mesh.specs.Table.{when, lent, short, mesh_number}
use Rattle.mesh.proofs.After.{after_refused, two_roomy, first_short, second_short}
use Rattle.mesh.proofs.Numbers.{first_is, first_on, row_given, row_passed}
use Rattle.panels.specs.declared.Answer.{Answer}
use Rattle.panels.specs.Contract.{components_number, PanelsAnswer, refused_by}

module _ (m : Mesh) (normals : Bool) (flat lengths : List ℕ) where
  -- the stated room of each list, and whether one of them is shorter
  abbrev room : ℕ
  room = length m.corners / width

  abbrev tight : Bool
  tight = short (lent (length flat) room ∷ lent (length lengths) room ∷ [])

  -- room for all
  pub number_0 : mesh_number m ≡ 0 → room ≤ length flat → room ≤ length lengths → 0 ≡ components_number m (length flat) (length lengths)
  unfolding components_number
  number_0 z g h =
      sym
      (first_on (mesh_number m) (when tight 9 ∷ []) z
      ∙ row_passed tight 8 [] (two_roomy (length flat) room (length lengths) room g h))

  module _ (answer : Answer) where
    -- a refusal: its number, no counts, and nothing written
    refusal :
        (k : ℕ) → k ≡ components_number m (length flat) (length lengths) → (k ≡ 0 → ⊥) → answer ≡ refused_by k
        → PanelsAnswer m normals (listed_of flat lengths) (listed_of flat lengths) answer
    refusal k e h r = rw r (record {
      number = e;
      face_count = sym (after_refused k _ 0 h);
      panel_count = sym (after_refused k _ 0 h);
      flat = sym (after_refused k _ flat h);
      lengths = sym (after_refused k _ lengths h);
    })

    -- 1 to 5
    pub refused_mesh :
        (k : ℕ) → k ≡ mesh_number m → (k ≡ 0 → ⊥) → answer ≡ refused_by k
        → PanelsAnswer m normals (listed_of flat lengths) (listed_of flat lengths) answer
    unfolding components_number
    refused_mesh k e h r = refusal k (e ∙ sym (first_is (mesh_number m) (when tight 9 ∷ []) (λ q. h (e ∙ q)))) h r

    -- 9
    refused_room :
        mesh_number m ≡ 0 → tight ≡ true → answer ≡ refused_by 9 → PanelsAnswer m normals (listed_of flat lengths) (listed_of flat lengths) answer
    unfolding components_number
    refused_room z t r =
        refusal 9 (sym (first_on (mesh_number m) (when tight 9 ∷ []) z ∙ row_given tight 8 [] t)) (λ q. omega arith) r

    pub refused_flat :
        (k : ℕ) → k ≡ mesh_number m → k ≡ 0 → length flat < room → answer ≡ refused_by 9
        → PanelsAnswer m normals (listed_of flat lengths) (listed_of flat lengths) answer
    refused_flat k e z h r = refused_room (sym e ∙ z) (first_short (length flat) room (length lengths) room h) r

    pub refused_lengths :
        (k : ℕ) → k ≡ mesh_number m → k ≡ 0 → room ≤ length flat → length lengths < room → answer ≡ refused_by 9
        → PanelsAnswer m normals (listed_of flat lengths) (listed_of flat lengths) answer
    refused_lengths k e z g h r = refused_room (sym e ∙ z) (second_short (length flat) room (length lengths) room g h) r
