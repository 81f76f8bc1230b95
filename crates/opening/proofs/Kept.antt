-- What every coordinate of a mesh passes, those of the mesh that cleaning leaves pass: it keeps entries and makes none. So what is left is
-- finite, and f64, where the mesh was. Assumes nothing.
use mathlib.Core.Path.{◌≡◌, refl, ◌∙◌}
use mathlib.Core.Bool.{Bool, true}
use mathlib.Core.List.{List, [], ◌∷◌}
use Prim.Native.Nat.{ℕ, ◌*◌}
use lib.ListN.{drop}
use lib.Ieee.{Float}
use Rattle.lists.specs.Lists.{every, each}
use Rattle.lists.proofs.Bools.{and_both}
use Rattle.lists.proofs.Parts.{every_append, every_take, every_drop}
use Rattle.mesh.specs.Mesh.{Mesh}
use Rattle.removal.specs.Folded.{unfolded_mesh}
use Rattle.unused.specs.Compaction.{entry_at, entries, used_positions, used_textures, used_normals, compacted}
use Rattle.cleaning.specs.Cleaning.{cleaned}

-- every coordinate of a mesh passes a test
pub record Passes (p : Float → Bool) (m : Mesh) : Type 0 where
  pub positions : every p m.positions ≡ true
  pub textures : every p m.textures ≡ true
  pub normals : every p m.normals ≡ true

module _ (p : Float → Bool) where
  pub every_each : {A : Type 0} (f : A → List Float) → ((a : A) → every p (f a) ≡ true) → (us : List A) → every p (each f us) ≡ true
  every_each f h [] = refl
  every_each f h (u ∷ us) = every_append p (f u) (each f us) ∙ and_both (every p (f u)) (every p (each f us)) (h u) (every_each f h us)

  entries_pass : (w : ℕ) (l : List Float) (us : List ℕ) → every p l ≡ true → every p (entries w l us) ≡ true
  unfolding entries
  entries_pass w l us h = every_each (entry_at w l) (λ i. every_take p w (drop (i * w) l) (every_drop p (i * w) l h)) us

  pub cleaned_passes : (m : Mesh) → Passes p m → Passes p (cleaned m)
  unfolding cleaned compacted unfolded_mesh
  cleaned_passes m h = record {
    positions = entries_pass 3 m.positions (used_positions (unfolded_mesh m)) h.positions;
    textures = entries_pass 2 m.textures (used_textures (unfolded_mesh m)) h.textures;
    normals = entries_pass 3 m.normals (used_normals (unfolded_mesh m)) h.normals;
  }
