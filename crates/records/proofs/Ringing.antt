-- The corners of a face, one after the other out of the file; and the search for a mark among them. Assumes nothing.
use mathlib.Core.Path.{◌≡◌, refl, sym, ap, ◌∙◌}
use mathlib.Core.Bool.{Bool, true, false, not}
use mathlib.Core.List.{List, [], ◌∷◌, ◌++◌, append-nil}
use Prim.Native.Nat.{ℕ, zero, suc, ◌+◌, ◌*◌, ◌≤◌, ◌<◌}
use native.Mathlib.Numerals.{add-one}
use native.Mathlib.Omega.{arith}
use lib.ListN.{length, get_or}
use lib.Seq.{sets, length-sets}
use lib.Dec.{eqb}
use borrow.Author.Tests.{eq-eqb, ne_eqb}
use Rattle.lists.specs.Lists.{joined, every}
use Rattle.lists.proofs.Parts.{joined_append, Searching, search_turns, search_finds, search_ends}
use Rattle.lists.proofs.Writing.{sets_append}
use Rattle.mesh.specs.Limits.{width}
use Rattle.mesh.specs.Mesh.{Ring}
use Rattle.mesh.proofs.Corners.{is_corner, length_corners}
use Rattle.little.specs.Little.{word}
use Rattle.records.specs.Lengths.{corner_length, marked_length, corner_size}
use Rattle.records.specs.Records.{corner_from, ring_from, has_mark, any_mark}

-- ---- how long corners are

-- a corner of either kind is no longer than one with a mark
pub size_most : (m : Bool) (k : ℕ) → corner_size m * k ≤ marked_length * k
size_most false k = omega arith
size_most true k = omega arith

next_place : (m : Bool) (a k : ℕ) → a + corner_size m + corner_size m * k ≡ a + corner_size m * suc k
next_place false a k = omega arith
next_place true a k = omega arith

module _ (m : Bool) (s : List ℕ) where
  -- one corner more
  pub ring_more : (k a : ℕ) → ring_from m s (k + 1) a ≡ ring_from m s k a ++ (corner_from m s (a + corner_size m * k) ∷ [])
  ring_more k a = rw (add-one k) (go k a)
    where
      go : (k a : ℕ) → ring_from m s (suc k) a ≡ ring_from m s k a ++ (corner_from m s (a + corner_size m * k) ∷ [])
      go zero a = let e : a ≡ a + corner_size m * 0 = omega arith in ap (λ (i : ℕ). corner_from m s i ∷ []) e
      go (suc k) a =
          ap (λ (r : Ring). corner_from m s a ∷ r)
          (go k (a + corner_size m) ∙ ap (λ (i : ℕ). ring_from m s k (a + corner_size m) ++ (corner_from m s i ∷ [])) (next_place m a k))

  pub ring_length : (k a : ℕ) → length (ring_from m s k a) ≡ k
  ring_length zero a = refl
  ring_length (suc k) a = ap suc (ring_length k (a + corner_size m))

  pub ring_corners : (k a : ℕ) → every is_corner (ring_from m s k a) ≡ true
  ring_corners zero a = refl
  ring_corners (suc k) a = ring_corners k (a + corner_size m)

  pub ring_flat : (k a : ℕ) → length (joined (ring_from m s k a)) ≡ width * k
  ring_flat k a = length_corners (ring_from m s k a) (ring_corners k a) ∙ ap (λ (n : ℕ). width * n) (ring_length k a)

  -- corner k of n
  pub ring_at : (k n a : ℕ) → k < n → get_or (ring_from m s n a) k [] ≡ corner_from m s (a + corner_size m * k)
  ring_at k zero a h = absurd (omega arith)
  ring_at zero (suc n) a h = let e : a ≡ a + corner_size m * 0 = omega arith in ap (corner_from m s) e
  ring_at (suc k) (suc n) a h = ring_at k n (a + corner_size m) (omega arith) ∙ ap (corner_from m s) (next_place m a k)

-- ---- the first k corners are written behind `at` corners

pub record Ringing (m : Bool) (s : List ℕ) (a n : ℕ) (o o' : List ℕ) (at k : ℕ) : Type 0 where
  pub within : k ≤ n
  pub written : o' ≡ sets o (width * at) (joined (ring_from m s k a))
  pub long : length o' ≡ length o

module _ (m : Bool) (s : List ℕ) (a n : ℕ) (o : List ℕ) (at : ℕ) where
  pub ringing_turns :
      (o' o'' : List ℕ) (k i : ℕ) → k < n → i ≡ a + corner_size m * k → o'' ≡ sets o' (width * (at + k)) (corner_from m s i)
      → Ringing m s a n o o' at k → Ringing m s a n o o'' at (k + 1)
  ringing_turns o' o'' k i h e w r =
      let done = ring_from m s k a in
      let c = corner_from m s (a + corner_size m * k) in
      let j : width * (at + k) ≡ width * at + length (joined done) = omega (arith, ring_flat m s k a) in
      record {
        within = omega arith;
        written =
            w
            ∙ ap (λ (i : ℕ). sets o' (width * (at + k)) (corner_from m s i)) e
            ∙ ap (λ (j : ℕ). sets o' j c) j
            ∙ ap (λ (l : List ℕ). sets l (width * at + length (joined done)) c) r.written
            ∙ sym (sets_append o (width * at) (joined done) c)
            ∙ ap (λ (l : List ℕ). sets o (width * at) (joined done ++ l)) (sym (append-nil c))
            ∙ ap (sets o (width * at)) (sym (joined_append done (c ∷ [])) ∙ ap joined (sym (ring_more m s k a)));
        long = ap length w ∙ length-sets o' (width * (at + k)) (corner_from m s i) ∙ r.long;
      }

-- ---- the search for a mark

module _ (s : List ℕ) (a n k x : ℕ) (h : k < n) (e : x ≡ word s (a + marked_length * k + corner_length)) where
  -- what is looked at is the mark of corner k
  marks_at : has_mark (get_or (ring_from true s n a) k []) ≡ not (eqb x 0)
  marks_at = ap has_mark (ring_at true s k n a h) ∙ ap (λ (i : ℕ). not (eqb i 0)) (sym e)

  here : k < length (ring_from true s n a)
  here = omega (arith, ring_length true s n a)

  pub mark_found : (x ≡ 0 → ⊥) → true ≡ any_mark (ring_from true s n a)
  unfolding any_mark
  mark_found u = search_finds has_mark [] (ring_from true s n a) k here (marks_at ∙ ap not (ne_eqb x 0 u))

  pub mark_passed : x ≡ 0 → Searching has_mark (ring_from true s n a) k → Searching has_mark (ring_from true s n a) (k + 1)
  mark_passed u = search_turns has_mark [] (ring_from true s n a) k here (marks_at ∙ ap not (eq-eqb x 0 u))

pub no_mark : (s : List ℕ) (a n k : ℕ) → n ≤ k → Searching has_mark (ring_from true s n a) k → false ≡ any_mark (ring_from true s n a)
unfolding any_mark
no_mark s a n k h = search_ends has_mark [] (ring_from true s n a) k (omega (arith, ring_length true s n a))
