-- What the corners carry after smoothing: old ones their marks, new ones none. Assumes nothing.
use mathlib.Core.Path.{◌≡◌, refl, ◌∙◌}
use mathlib.Core.List.{List, map}
use Prim.Native.Nat.{ℕ}
use Rattle.lists.specs.Lists.{each}
use Rattle.lists.proofs.Buckets.{each_cong}
use Rattle.lists.proofs.Mapping.{map_each}
use Rattle.mesh.specs.Mesh.{Ring, mark}
use Rattle.verdicts.specs.Edges.{Edge}
use Rattle.smoothed.specs.Smoothed.{four, edges_by_use, smoothed_faces}
use Rattle.smoothed.specs.Promise.{four_marks}

four_marked : (n : ℕ) (ks : List Edge) (f : Ring) → map (map mark) (four n ks f) ≡ four_marks f
four_marked n ks f = refl

pub smoothed_marks : (n : ℕ) (fs : List Ring) → map (map mark) (smoothed_faces n fs) ≡ each four_marks fs
unfolding smoothed_faces
smoothed_marks n fs =
    map_each (map mark) (four n (edges_by_use fs)) fs
    ∙ each_cong (λ (f : Ring). map (map mark) (four n (edges_by_use fs) f)) four_marks (four_marked n (edges_by_use fs)) fs
