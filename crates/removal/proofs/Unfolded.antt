-- A mesh in which no face is folded: all its faces stay as they stand. Assumes nothing.
use mathlib.Core.Path.{◌≡◌, refl, ap, ap₂, ◌∙◌}
use mathlib.Core.Bool.{true, false}
use mathlib.Core.List.{List, [], ◌∷◌, map}
use Prim.Native.Nat.{ℕ, suc, ◌≤◌, ◌<◌}
use native.Mathlib.Nat.{le_of_eq}
use native.Mathlib.Omega.{arith}
use lib.ListN.{length, get_or}
use borrow.Author.Tests.{le-leb, leb-true}
use Rattle.lists.specs.Lists.{every, some, each, span}
use Rattle.lists.proofs.Buckets.{length_span}
use Rattle.lists.proofs.Bools.{and_both, and_left, and_right, or_false_left, or_false_right}
use Rattle.mesh.specs.Mesh.{Ring, rings}
use Rattle.mesh.specs.Table.{kind, falls}
use Rattle.mesh.proofs.Faces.{length_rings, sizes_back}
use Rattle.grouping.specs.Push.{pushed}
use Rattle.grouping.specs.Tags.{pushed_beside}
use Rattle.grouping.proofs.Pushed.{pushed_same}
use Rattle.grouping.proofs.Beside.{tags_same}
use Rattle.folding.specs.Folding.{folded, pieces}
use Rattle.folding.proofs.Pieces.{is_face, pieces_same}
use Rattle.removal.specs.Origins.{numbered, origins_of}
use Rattle.removal.specs.Folded.{removed}
use Rattle.removal.specs.Working.{Fit, Left}

each_same : (fs : List Ring) → every is_face fs ≡ true → some folded fs ≡ false → each pieces fs ≡ fs
each_same [] e h = refl
each_same (r ∷ fs) e h =
    rw (pieces_same r (leb-true 3 (length r) (and_left (is_face r) (every is_face fs) e)) (or_false_left (folded r) (some folded fs) h))
    (ap (λ (l : List Ring). r ∷ l) (each_same fs (and_right (is_face r) (every is_face fs) e) (or_false_right (folded r) (some folded fs) h)))

-- faces of three corners or more, by their sizes
faces_of : (fs : List Ring) → ((k : ℕ) → k < length (map length fs) → 3 ≤ get_or (map length fs) k 0) → every is_face fs ≡ true
faces_of [] f = refl
faces_of (r ∷ fs) f =
    and_both (is_face r) (every is_face fs)
    (le-leb 3 (length r) (f 0 (omega arith)))
    (faces_of fs (λ k h. f (suc k) (let g : k < length (map length fs) = h in omega arith)))

pub removed_same :
    (cs s : List ℕ) → Fit cs s → falls (map kind s) ≡ false → some folded (rings s cs) ≡ false
    → removed (rings s cs) ≡ rings s cs
unfolding removed
removed_same cs s y g h =
    let b : map length (rings s cs) ≡ s = sizes_back s cs (le_of_eq y.sound.adds) in
    let e : every is_face (rings s cs) ≡ true = faces_of (rings s cs) (rw b y.least) in
    ap pushed (each_same (rings s cs) e h)
    ∙ pushed_same (rings s cs) e (ap (λ (t : List ℕ). falls (map kind t)) b ∙ g)

-- and each keeps its number
numbered_same : (a : ℕ) (fs : List Ring) → every is_face fs ≡ true → some folded fs ≡ false → numbered a fs ≡ span a (length fs)
unfolding numbered
numbered_same a [] e h = refl
numbered_same a (r ∷ fs) e h =
    rw (pieces_same r (leb-true 3 (length r) (and_left (is_face r) (every is_face fs) e)) (or_false_left (folded r) (some folded fs) h))
    (ap (λ (l : List ℕ). a ∷ l) (numbered_same (suc a) fs (and_right (is_face r) (every is_face fs) e) (or_false_right (folded r) (some folded fs) h)))

pub origins_same :
    (cs s : List ℕ) → Fit cs s → falls (map kind s) ≡ false → some folded (rings s cs) ≡ false
    → origins_of (rings s cs) ≡ span 0 (length s)
unfolding origins_of
origins_same cs s y g h =
    let fs = rings s cs in
    let b : map length fs ≡ s = sizes_back s cs (le_of_eq y.sound.adds) in
    let e : every is_face fs ≡ true = faces_of fs (rw b y.least) in
    ap₂ pushed_beside (each_same fs e h) (numbered_same 0 fs e h)
    ∙ tags_same fs (span 0 (length fs)) (length_span 0 (length fs)) e (ap (λ (t : List ℕ). falls (map kind t)) b ∙ g)
    ∙ ap (span 0) (length_rings s cs)

-- so what keeps all is what is left
pub left_same : (cs s o o' l l' u u' : List ℕ) (c f : ℕ) → Fit cs s → falls (map kind s) ≡ false → some folded (rings s cs) ≡ false
    → Left (rings s cs) (span 0 (length s)) o o' l l' u u' 0 0 c f → Left (removed (rings s cs)) (origins_of (rings s cs)) o o' l l' u u' 0 0 c f
left_same cs s o o' l l' u u' c f y g h p = rw (removed_same cs s y g h, origins_same cs s y g h) p
