-- What is known of the panels of a mesh: two faces stand in one panel exactly where a chain of faces, each sharing an edge key
-- with the next, leads from the one to the other; and each face stands in exactly one panel, once. Assumes nothing.
use mathlib.Core.Path.{◌≡◌}
use mathlib.Core.Bool.{Bool}
use mathlib.Core.List.{List, []}
use Prim.Native.Nat.{ℕ, ◌≤◌, ◌<◌}
use native.Mathlib.Omega.{arith}
use lib.ListN.{length}
use Rattle.lists.specs.Lists.{joined}
use Rattle.lists.proofs.Chains.{reach_one, reach_bind}
use Rattle.lists.proofs.Classes.{Parted, together_reach, reach_together}
use Rattle.lists.proofs.Members.{In, once_in, once_length}
use Rattle.mesh.specs.Mesh.{Ring}
use Rattle.panels.specs.Panels.{joins, panels}
use Rattle.panels.specs.Promises.{EachFaceOnce, OnlyByChains, WhereverChains}
use Rattle.searching.proofs.Parting.{parted, panels_few}
use Rattle.searching.proofs.Looking.{Beside}
use Rattle.panels.proofs.Sharing.{beside_share, share_beside, beside_below}

module _ (normals : Bool) (fs : List Ring) where
  panels_parted : Parted (Beside (joins normals fs)) (length fs) (length fs) (panels normals fs)
  unfolding panels
  panels_parted = parted (joins normals fs) (length fs) (beside_below normals fs)

  pub together_share : OnlyByChains normals fs
  together_share a b t =
      reach_bind
      (λ x y h. reach_one (beside_share normals fs x y h))
      (together_reach (Beside (joins normals fs)) (panels normals fs) panels_parted.classes a b t)

  pub share_together : WhereverChains normals fs
  share_together a b l t =
      reach_together
      (Beside (joins normals fs))
      (panels normals fs)
      panels_parted.classes
      a
      b
      (panels_parted.placed a l)
      (reach_bind (share_beside normals fs) t)

  -- a face stands in the panels once; nothing else stands there; so they have as many numbers as there are faces
  pub panels_once : EachFaceOnce normals fs
  panels_once x l = once_in (joined (panels normals fs)) panels_parted.once x (panels_parted.placed x l)

  pub panels_inside : (x : ℕ) → In x (joined (panels normals fs)) → x < length fs
  panels_inside = panels_parted.inside

  pub panels_length : length (joined (panels normals fs)) ≡ length fs
  panels_length =
      once_length (length fs) (joined (panels normals fs)) panels_parted.once panels_parted.inside panels_parted.placed

  -- and there are no more panels than faces
  pub panels_count : length (panels normals fs) ≤ length fs
  unfolding panels
  panels_count = let h : _ = panels_few (length fs) 0 (length fs) (joins normals fs) [] in omega arith
