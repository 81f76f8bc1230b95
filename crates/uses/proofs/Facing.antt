-- The two loops that write the uses: over the corners of a face, and over the faces. Assumes nothing.
use mathlib.Core.Path.{◌≡◌, sym, ap, ◌∙◌, subst}
use mathlib.Core.List.{List, [], ◌∷◌, ◌++◌}
use Prim.Native.Nat.{ℕ, ◌+◌, ◌*◌, ◌/◌, ◌≤◌, ◌<◌}
use native.Mathlib.Nat.{add-zero, add_assoc}
use native.Mathlib.Omega.{arith}
use lib.ListN.{length, get_or, drop}
use Rattle.lists.specs.Lists.{sum}
use Rattle.lists.proofs.Parts.{sum_at}
use Rattle.mesh.specs.Limits.{width}
use Rattle.mesh.specs.Mesh.{rings}
use Rattle.mesh.specs.Face.{Sound, offset_of, face_of}
use Rattle.mesh.proofs.Faces.{face_length, offset_step}
use Rattle.mesh.specs.Edges.{Edge, edges_of}
use Rattle.lists.specs.Numbers.{next_of}
use Rattle.uses.specs.Uses.{Written, Columned, face_edges}
use Rattle.uses.proofs.Sides.{edges_from, edges_begin, edges_step, edges_end, length_face_edges, uses_step}
use Rattle.uses.proofs.Filling.{Filling, fill_begins, fill_left, fill_part, fill_ends}

-- lists that keep their lengths keep their room
pub still_columned : (n : ℕ) (l₀ h₀ d₀ l h d : List ℕ) (b at : ℕ) (all left : List Edge) → Columned n l₀ h₀ d₀ → Filling l₀ h₀ d₀ l h d b at all left → Columned n l h d
still_columned n l₀ h₀ d₀ l h d b at all left c f = record {
  lower = omega (arith, c.lower, f.lower.long);
  higher = omega (arith, c.higher, f.higher.long);
  down = omega (arith, c.down, f.down.long);
}

-- ---- over the corners of a face

pub record Cornering (face l₀ h₀ d₀ l h d : List ℕ) (at i : ℕ) : Type 0 where
  pub within : i ≤ length face / width
  pub filling : Filling l₀ h₀ d₀ l h d at (at + i) (face_edges face) (edges_from face i)

module _ (face l₀ h₀ d₀ : List ℕ) (at : ℕ) where
  pub corner_begins : Cornering face l₀ h₀ d₀ l₀ h₀ d₀ at 0
  corner_begins = record {
    within = omega arith;
    filling =
        subst (λ (n : ℕ). Filling l₀ h₀ d₀ l₀ h₀ d₀ at n (face_edges face) (edges_from face 0)) (sym (add-zero at))
        (fill_left l₀ h₀ d₀ l₀ h₀ d₀ at at (face_edges face) (face_edges face) (edges_from face 0) (edges_begin face) (fill_begins l₀ h₀ d₀ at (face_edges face)));
  }

  pub corner_turns :
      (l h d l' h' d' : List ℕ) (i j : ℕ) → i < length face / width → j ≡ next_of i (length face / width)
      → Written ((get_or face (width * i) 0, get_or face (width * j) 0) ∷ []) (at + i) l h d l' h' d'
      → Cornering face l₀ h₀ d₀ l h d at i → Cornering face l₀ h₀ d₀ l' h' d' at (i + 1)
  corner_turns l h d l' h' d' i j lt e w c =
      let one : List Edge = (get_or face (width * i) 0, get_or face (width * j) 0) ∷ [] in
      let s : edges_from face i ≡ one ++ edges_from face (i + 1) =
      edges_step face i lt ∙ ap (λ (n : ℕ). (get_or face (width * i) 0, get_or face (width * n) 0) ∷ edges_from face (i + 1)) (sym e) in
      record {
        within = omega arith;
        filling =
            subst (λ (n : ℕ). Filling l₀ h₀ d₀ l' h' d' at n (face_edges face) (edges_from face (i + 1))) (add_assoc at i 1)
            (fill_part l₀ h₀ d₀ l h d at (at + i) (face_edges face) l' h' d' one (edges_from face (i + 1)) w
            (fill_left l₀ h₀ d₀ l h d at (at + i) (face_edges face) (edges_from face i) (one ++ edges_from face (i + 1)) s c.filling));
      }

  pub corner_ends : (l h d : List ℕ) (i : ℕ) → length face / width ≤ i → Cornering face l₀ h₀ d₀ l h d at i → Written (face_edges face) at l₀ h₀ d₀ l h d
  corner_ends l h d i ge c = fill_ends l₀ h₀ d₀ l h d at (at + i) (face_edges face) (edges_from face i) (edges_end face i ge) c.filling

-- ---- over the faces

pub record Facing (cs s l₀ h₀ d₀ l h d : List ℕ) (at k : ℕ) : Type 0 where
  pub within : k ≤ length s
  pub offset : at ≡ offset_of s k
  pub filling : Filling l₀ h₀ d₀ l h d 0 at (edges_of (rings s cs)) (edges_of (rings (drop k s) (drop (width * offset_of s k) cs)))

module _ (cs s l₀ h₀ d₀ : List ℕ) where
  pub face_turns :
      (l h d l' h' d' : List ℕ) (at k n : ℕ) (face : List ℕ) → Sound cs s → k < length s → n ≡ get_or s k 0 → face ≡ face_of cs s k
      → Written (face_edges face) at l h d l' h' d' → Facing cs s l₀ h₀ d₀ l h d at k → Facing cs s l₀ h₀ d₀ l' h' d' (at + n) (k + 1)
  face_turns l h d l' h' d' at k n face sound lt size is v f =
      let w : Written (face_edges (face_of cs s k)) at l h d l' h' d' = subst (λ (t : List ℕ). Written (face_edges t) at l h d l' h' d') is v in
      let new : List Edge = face_edges (face_of cs s k) in
      let left : List Edge = edges_of (rings (drop (k + 1) s) (drop (width * offset_of s (k + 1)) cs)) in
      let long : length (face_edges (face_of cs s k)) ≡ get_or s k 0 =
      let a : length (face_edges (face_of cs s k)) ≡ length (face_of cs s k) / width = length_face_edges (face_of cs s k) in
      let b : length (face_of cs s k) ≡ width * get_or s k 0 = face_length cs s sound k lt in
      omega arith in
      record {
        within = omega arith;
        offset = let o : offset_of s (k + 1) ≡ offset_of s k + get_or s k 0 = offset_step s k lt in omega (arith, f.offset);
        filling =
            subst (λ (m : ℕ). Filling l₀ h₀ d₀ l' h' d' 0 m (edges_of (rings s cs)) left) (ap (λ (m : ℕ). at + m) (long ∙ sym size))
            (fill_part l₀ h₀ d₀ l h d 0 at (edges_of (rings s cs)) l' h' d' new left w
            (fill_left l₀ h₀ d₀ l h d 0 at (edges_of (rings s cs)) (edges_of (rings (drop k s) (drop (width * offset_of s k) cs))) (new ++ left) (uses_step s cs k lt) f.filling));
      }

  -- face k ends within the corners, and there is room for its uses
  pub face_within : (l h d : List ℕ) (at k : ℕ) → Sound cs s → k < length s → Facing cs s l₀ h₀ d₀ l h d at k → at + get_or s k 0 ≤ length cs / width
  face_within l h d at k sound lt f =
      let b : offset_of s k + get_or s k 0 ≤ sum s = sum_at s k lt in
      let e : width * sum s ≡ length cs = sound.adds in
      omega (arith, f.offset)

  pub face_room :
      (l h d : List ℕ) (at k : ℕ) (face : List ℕ) → Sound cs s → k < length s → face ≡ face_of cs s k → Columned (length cs / width) l₀ h₀ d₀
      → Facing cs s l₀ h₀ d₀ l h d at k → Columned (at + length face / width) l h d
  face_room l h d at k face sound lt is c f =
      let a : length face ≡ width * get_or s k 0 = ap length is ∙ face_length cs s sound k lt in
      let b : at + get_or s k 0 ≤ length cs / width = face_within l h d at k sound lt f in
      let left : List Edge = edges_of (rings (drop k s) (drop (width * offset_of s k) cs)) in
      let r : Columned (length cs / width) l h d = still_columned (length cs / width) l₀ h₀ d₀ l h d 0 at (edges_of (rings s cs)) left c f.filling in
      record { lower = omega (arith, r.lower); higher = omega (arith, r.higher); down = omega (arith, r.down) }
