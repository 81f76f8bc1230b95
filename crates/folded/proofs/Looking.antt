-- Whether some face is folded: they are looked at one by one, and none of the first k is. Assumes nothing.
use mathlib.Core.Path.{◌≡◌, sym, ap, ◌∙◌}
use mathlib.Core.Bool.{Bool, true, false}
use mathlib.Core.List.{List, []}
use Prim.Native.Nat.{ℕ, ◌+◌, ◌≤◌, ◌<◌}
use lib.ListN.{length, get_or}
use Rattle.lists.specs.Lists.{some}
use Rattle.lists.proofs.Parts.{Searching, search_turns, search_finds, search_ends}
use Rattle.mesh.specs.Mesh.{corners_in, rings}
use Rattle.mesh.specs.Face.{face_of}
use Rattle.mesh.proofs.Faces.{length_rings, get_or-rings, face_length}
use Rattle.mesh.proofs.Walking.{Walking, walk_turns}
use Rattle.folding.specs.Folding.{folded}
use Rattle.oneface.specs.Working.{Corners}
use Rattle.removal.specs.Working.{Fit}

pub record Looking (cs s : List ℕ) (from k : ℕ) : Type 0 where
  pub walk : Walking s from k
  pub search : Searching folded (rings s cs) k

pub looking_face : (cs s face : List ℕ) (k : ℕ) → Fit cs s → k < length s → face ≡ face_of cs s k → Corners face (get_or s k 0)
looking_face cs s face k y h e = record { small = y.most k h; wide = ap length e ∙ face_length cs s y.sound k h }

face_is : (cs s face : List ℕ) (k : ℕ) (b : Bool) → k < length s → face ≡ face_of cs s k → b ≡ folded (corners_in face) → folded (get_or (rings s cs) k []) ≡ b
face_is cs s face k b h e f = ap folded (get_or-rings s cs k h ∙ ap corners_in (sym e)) ∙ sym f

pub looking_turns : (cs s face : List ℕ) (from k : ℕ) (b : Bool) → k < length s → face ≡ face_of cs s k → b ≡ folded (corners_in face) → b ≡ false
    → Looking cs s from k → Looking cs s (from + get_or s k 0) (k + 1)
looking_turns cs s face from k b h e f z l = record {
  walk = walk_turns s from k h l.walk;
  search = search_turns folded [] (rings s cs) k (rw (length_rings s cs) h) (face_is cs s face k b h e f ∙ z) l.search;
}

pub looking_finds : (cs s face : List ℕ) (k : ℕ) (b : Bool) → k < length s → face ≡ face_of cs s k → b ≡ folded (corners_in face) → b ≡ true → true ≡ some folded (rings s cs)
looking_finds cs s face k b h e f z = search_finds folded [] (rings s cs) k (rw (length_rings s cs) h) (face_is cs s face k b h e f ∙ z)

pub looking_ends : (cs s : List ℕ) (from k : ℕ) → length s ≤ k → Looking cs s from k → false ≡ some folded (rings s cs)
looking_ends cs s from k h l = search_ends folded [] (rings s cs) k (rw (length_rings s cs) h) l.search
