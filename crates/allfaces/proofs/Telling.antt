-- The numbers of the faces as they are written: beside the pieces of the first k faces, and grouped as the pieces are. Assumes nothing.
use mathlib.Core.Path.{◌≡◌, refl, sym, ap, ap₂, ◌∙◌}
use mathlib.Core.List.{List, [], ◌∷◌, ◌++◌, map, append-nil}
use Prim.Native.Nat.{ℕ, ◌+◌, ◌-◌, ◌*◌, ◌≤◌, ◌<◌}
use native.Mathlib.Nat.{zero-add}
use native.Mathlib.Numerals.{add-one}
use native.Mathlib.Omega.{arith}
use lib.ListN.{length, get_or, take, replicate, length-map}
use lib.Seq.{sets, take-suc, take_all, length-take-le, length-sets}
use Rattle.lists.specs.Lists.{each, sum}
use Rattle.lists.proofs.Copies.{take_written}
use Rattle.lists.proofs.Parts.{sum_at}
use Rattle.lists.proofs.Writing.{sets_append}
use Rattle.mesh.specs.Limits.{width, least_ring}
use Rattle.mesh.specs.Full.{FacesAtLimits}
use Rattle.mesh.specs.Mesh.{Ring, corners_in, rings}
use Rattle.mesh.specs.Face.{face_of, offset_of}
use Rattle.mesh.proofs.Faces.{length_rings, get_or-rings}
use Rattle.grouping.specs.Push.{Placed, pushed}
use Rattle.grouping.specs.Tags.{pushed_tags, Tagged}
use Rattle.grouping.proofs.Placing.{placed_as}
use Rattle.grouping.proofs.Tags.{tags_by_size}
use Rattle.folding.specs.Folding.{pieces}
use Rattle.removal.specs.Origins.{numbered}
use Rattle.removal.specs.Folded.{removed}
use Rattle.removal.specs.Working.{Ready, Left, origins_from}
use Rattle.removal.proofs.Origins.{numbered_append, numbered_count}
use Rattle.allfaces.proofs.Passing.{pieces_to, Removing, removing_turns, removing_ends}
use Rattle.allfaces.proofs.Scratch.{few_faces, pieces_front, pieces_grouped}

-- ---- the pass over the faces: the numbers of the first k stand beside their pieces

pub record Telling (a : ℕ) (cs s u u' : List ℕ) (k : ℕ) : Type 0 where
  pub told : u' ≡ sets u 0 (numbered a (take k (rings s cs)))
  pub long : length u' ≡ length u

pub telling_begins : (a : ℕ) (cs s u : List ℕ) → Telling a cs s u u 0
unfolding numbered
telling_begins a cs s u = record { told = refl; long = refl }

next_numbers : (a : ℕ) (cs s : List ℕ) (k : ℕ) → k < length s
    → numbered a (take (k + 1) (rings s cs)) ≡ numbered a (take k (rings s cs)) ++ replicate (length (pieces (corners_in (face_of cs s k)))) (a + k)
unfolding numbered
next_numbers a cs s k h =
    let fs = rings s cs in
    let l : k < length fs = rw (length_rings s cs) h in
    let n : length (take k fs) ≡ k = length-take-le k fs (omega arith) in
    ap (numbered a) (ap (λ (j : ℕ). take j fs) (add-one k) ∙ take-suc fs k [] l)
    ∙ numbered_append a (take k fs) (get_or fs k [] ∷ [])
    ∙ ap (λ (t : List ℕ). numbered a (take k fs) ++ t) (append-nil (replicate (length (pieces (get_or fs k []))) (a + length (take k fs))))
    ∙ ap₂ (λ (r : Ring) (j : ℕ). numbered a (take k fs) ++ replicate (length (pieces r)) (a + j)) (get_or-rings s cs k h) n

pub telling_turns : (a : ℕ) (cs s face u u' u'' : List ℕ) (f f' k : ℕ) → k < length s → face ≡ face_of cs s k
    → f ≡ length (pieces_to cs s k) → f' ≡ f + length (pieces (corners_in face)) → Telling a cs s u u' k → u'' ≡ sets u' f (replicate (f' - f) (a + k))
    → Telling a cs s u u'' (k + 1)
telling_turns a cs s face u u' u'' f f' k h e m n t w =
    let before = numbered a (take k (rings s cs)) in
    let g : Ring = corners_in (face_of cs s k) in
    let p : f' - f ≡ length (pieces g) = (let q : f' ≡ f + length (pieces g) = rw e at n in omega arith) in
    let b : f ≡ 0 + length before = (let z : length before ≡ length (pieces_to cs s k) = numbered_count a (take k (rings s cs)) in omega arith) in
    record {
      told =
          w
          ∙ ap₂ (λ (j i : ℕ). sets u' j (replicate i (a + k))) b p
          ∙ ap (λ (x : List ℕ). sets x (0 + length before) (replicate (length (pieces g)) (a + k))) t.told
          ∙ sym (sets_append u 0 before (replicate (length (pieces g)) (a + k)))
          ∙ ap (sets u 0) (sym (next_numbers a cs s k h));
      long = ap length w ∙ length-sets u' f (replicate (f' - f) (a + k)) ∙ t.long;
    }

pub telling_ends : (a : ℕ) (cs s u u' : List ℕ) (k : ℕ) → length s ≤ k → Telling a cs s u u' k → u' ≡ sets u 0 (numbered a (rings s cs))
telling_ends a cs s u u' k h t =
    t.told ∙ ap (λ (fs : List Ring). sets u 0 (numbered a fs)) (take_all k (rings s cs) (rw (length_rings s cs) h))

-- pieces and numbers together
pub record Going (a : ℕ) (cs s o o' l l' u u' : List ℕ) (c f from k : ℕ) : Type 0 where
  pub pieces : Removing cs s o o' l l' c f from k
  pub numbers : Telling a cs s u u' k

-- room for the numbers of the next face's pieces
pub going_room : (cs s face o o' o'' l l' l'' u u' : List ℕ) (c f c' f' from k : ℕ) → k < length s → face ≡ face_of cs s k → Ready cs s o l u
    → Removing cs s o o' l l' c f from k → Placed (pieces (corners_in face)) o' o'' l' l'' c f c' f' → length o'' ≡ length o' → length l'' ≡ length l'
    → length u' ≡ length u → (f ≤ f') × (f' ≤ length u')
going_room cs s face o o' o'' l l' l'' u u' c f c' f' from k h e y r p x z n =
    let next : least_ring * f' ≤ from + get_or s k 0 = (removing_turns cs s face o o' o'' l l' l'' u c f c' f' from k h e y r p x z).faces in
    let inside : offset_of s k + get_or s k 0 ≤ sum s = sum_at s k h in
    (omega (arith, p.most), omega (arith, r.walk.offset, y.fit.sound.adds, y.origins))

pub going_ends : (a : ℕ) (cs s o o' l l' u u' : List ℕ) (c f from k : ℕ) → length s ≤ k → Going a cs s o o' l l' u u' c f from k
    → Left (each pieces (rings s cs)) (numbered a (rings s cs)) o o' l l' u u' 0 0 c f
going_ends a cs s o o' l l' u u' c f from k h g = record {
  placed = removing_ends cs s o o' l l' c f from k h g.pieces;
  origins = telling_ends a cs s u u' k h g.numbers;
}

-- ---- the numbers of all pieces, in a list of their own before they are grouped

module _ (a : ℕ) (cs s o l u p p' q q' v v' : List ℕ) (c f : ℕ) (y : Ready cs s o l u) (x : FacesAtLimits p q) (w : FacesAtLimits p v)
    (t : Left (each pieces (rings s cs)) (numbered a (rings s cs)) p p' q q' v v' 0 0 c f) where
  abbrev fs : List Ring
  fs = rings s cs

  many : length (numbered a fs) ≡ f
  many = numbered_count a fs ∙ sym (t.placed.most ∙ zero-add (length (each pieces fs)))

  numbers_front : take f v' ≡ numbered a fs
  numbers_front =
      ap (take f) t.origins
      ∙ take_written v (numbered a fs) f many (omega (arith, few_faces cs s o l u p p' q q' c f y x t.placed, w.sizes, y.fit.sound.fits))

  sizes_front : take f q' ≡ map length (each pieces fs)
  sizes_front = pieces_front cs s o l u p p' q q' c f y x t.placed

  pub one_each : length (take f v') ≡ length (take f q')
  one_each = ap length numbers_front ∙ numbered_count a fs ∙ sym (ap length sizes_front ∙ length-map (each pieces fs) length)

  pub numbers_room : length (take f q') ≤ length u
  numbers_room =
      omega (arith, ap length sizes_front, length-map (each pieces fs) length, t.placed.most, few_faces cs s o l u p p' q q' c f y x t.placed, y.origins)

  -- grouped, they are the origins
  numbers_grouped : origins_from a fs ≡ pushed_tags (take f q') (take f v')
  unfolding origins_from
  numbers_grouped = tags_by_size (each pieces fs) (numbered a fs) ∙ sym (ap₂ pushed_tags sizes_front numbers_front)

  pub left_grouped : (o' l' u' : List ℕ) (c' f' n : ℕ) → Tagged (pushed_tags (take f q') (take f v')) u u' 0 n
      → Placed (pushed (rings (take f q') (take (width * c) p'))) o o' l l' 0 0 c' f' → Left (removed fs) (origins_from a fs) o o' l l' u u' 0 0 c' f'
  left_grouped o' l' u' c' f' n g h = record {
    placed = placed_as (pieces_grouped cs s o l u p p' q q' c f y x t.placed) h;
    origins = g.tags ∙ ap (sets u 0) (sym numbers_grouped);
  }
