-- Positions get a mark, corner by corner; and where each has one, each is in some face. Assumes nothing.
use mathlib.Core.Path.{◌≡◌, refl, sym, ap, ◌∙◌}
use mathlib.Core.Bool.{Bool, true, false, not, ◌&&◌, ◌||◌, or-false}
use mathlib.Core.List.{List, [], ◌∷◌, ◌++◌, map, map-append}
use Prim.Native.Nat.{ℕ, ◌+◌, ◌*◌, ◌/◌, ◌%◌, ◌≤◌, ◌<◌}
use native.Mathlib.Numerals.{add-one}
use native.Mathlib.Omega.{arith}
use lib.ListN.{length, get_or, take, set, replicate, length-set, length-map, length-replicate, get_or-replicate, get_or-eq_default}
use lib.Seq.{take-suc, take_all, get_or-set_same, get_or-set_other, get_or-take}
use lib.Dec.{ltb, eqb}
use borrow.Author.Tests.{eqb-true, eqb-false, ltb-true, ltb-false}
use Rattle.lists.specs.Lists.{some, every, joined, has, span}
use Rattle.lists.proofs.Bools.{by_cases, or_right}
use Rattle.lists.proofs.Buckets.{length_front}
use Rattle.lists.proofs.Changing.{map_at}
use Rattle.lists.proofs.Counting.{clash}
use Rattle.lists.proofs.Mapping.{every_all}
use Rattle.lists.proofs.Parts.{some_append, every_at}
use Rattle.mesh.specs.Limits.{width, least_ring}
use Rattle.mesh.specs.Mesh.{Ring, position, corners_in}
use Rattle.mesh.proofs.Corners.{length-corners_in, get_or-corners_in}
use Rattle.smoothed.specs.Smoothed.{used_in, all_used}
use Rattle.smoothed.specs.Columns.{triangles, Triangular}
use Rattle.smoothed.proofs.Spans.{every_span_at, every_span_all}
use Rattle.smoothed.proofs.Triangles.{joined_triangles}
use Rattle.smoothable.specs.Working.{Markable, Marked}

-- the positions of the corners
abbrev at : List ℕ → List ℕ
at cs = map position (corners_in cs)

-- those of the first k corners are marked
pub record Marking (cs used used' : List ℕ) (k : ℕ) : Type 0 where
  pub within : k ≤ length cs / width
  pub long : length used' ≡ length used
  pub marks : (p : ℕ) → p < length used → eqb (get_or used' p 0) 1 ≡ has p (take k (at cs))

length_at : (cs : List ℕ) → length (at cs) ≡ length cs / width
length_at cs = length-map (corners_in cs) position ∙ length-corners_in cs

at_place : (cs : List ℕ) (k : ℕ) → k < length cs / width → get_or (at cs) k 0 ≡ get_or cs (width * k) 0
at_place cs k h =
    map_at position [] 0 (corners_in cs) k (omega (arith, length-corners_in cs)) ∙ ap position (get_or-corners_in cs k h)

one_more : (p i : ℕ) (l : List ℕ) → has p (l ++ (i ∷ [])) ≡ (has p l || eqb p i)
one_more p i l = some_append (eqb p) l (i ∷ []) ∙ ap (λ (b : Bool). has p l || b) (or-false (eqb p i))

pub marking_turns :
    (cs used used' : List ℕ) (k i : ℕ) → Markable cs used → i ≡ get_or cs (width * k) 0 → k < length cs / width → Marking cs used used' k
    → Marking cs used (set used' i 1) (k + 1)
marking_turns cs used used' k i m e h g =
    let next : take (k + 1) (at cs) ≡ take k (at cs) ++ (i ∷ []) =
    ap (λ (n : ℕ). take n (at cs)) (add-one k)
    ∙ take-suc (at cs) k 0 (omega (arith, length_at cs))
    ∙ ap (λ (n : ℕ). take k (at cs) ++ (n ∷ [])) (at_place cs k h ∙ sym e) in
    record {
      within = omega arith;
      long = length-set used' i 1 ∙ g.long;
      marks = λ p l.
          by_cases (eqb p i)
          (λ t.
          let same : p ≡ i = eqb-true p i t in
          ap (λ (n : ℕ). eqb (get_or (set used' i 1) n 0) 1) same
          ∙ ap (λ (n : ℕ). eqb n 1) (get_or-set_same used' i 1 0 (omega (arith, g.long)))
          ∙ sym (ap (has p) next ∙ one_more p i (take k (at cs)) ∙ or_right (has p (take k (at cs))) (eqb p i) t))
          (λ t.
          ap (λ (n : ℕ). eqb n 1) (get_or-set_other used' i p 1 0 (eqb-false p i t))
          ∙ g.marks p l
          ∙ sym (ap (has p) next ∙ one_more p i (take k (at cs)) ∙ rw t (or-false (has p (take k (at cs))))));
    }

pub marking_ends : (cs used used' : List ℕ) (k : ℕ) → length cs / width ≤ k → Marking cs used used' k → Marked cs used used'
marking_ends cs used used' k h g = record {
  long = g.long;
  marks = λ p l. g.marks p l ∙ ap (has p) (take_all k (at cs) (omega (arith, length_at cs)));
}

-- ---- a position that has no mark is in no face

used_in_lem : (p : ℕ) (fs : List Ring) → has p (map position (joined fs)) ≡ used_in fs p
used_in_lem p [] = refl
used_in_lem p (f ∷ fs) =
    ap (has p) (map-append position f (joined fs))
    ∙ some_append (eqb p) (map position f) (map position (joined fs))
    ∙ ap (λ (b : Bool). has p (map position f) || b) (used_in_lem p fs)

some_not : {A : Type 0} (t : A → Bool) (l : List A) → some (λ x. not (t x)) l ≡ not (every t l)
some_not t [] = refl
some_not t (x ∷ l) = go (t x) (some_not t l)
  where
    go : (b : Bool) → some (λ x. not (t x)) l ≡ not (every t l) → (not b || some (λ x. not (t x)) l) ≡ not (b && every t l)
    go true h = h
    go false h = refl

pub idle_found :
    (cs used used' : List ℕ) → length cs % (width * least_ring) ≡ 0 → Marked cs used used'
    → some (λ k. not (eqb k 1)) used' ≡ not (all_used (length used) (triangles cs))
unfolding all_used
idle_found cs used used' w m = some_not (λ k. eqb k 1) used' ∙ ap not agree
  where
    here : (p : ℕ) → p < length used → eqb (get_or used' p 0) 1 ≡ used_in (triangles cs) p
    here p h =
        m.marks p h
        ∙ ap (λ r. has p (map position r)) (sym (joined_triangles cs w))
        ∙ used_in_lem p (triangles cs)

    agree : every (λ k. eqb k 1) used' ≡ every (used_in (triangles cs)) (span 0 (length used))
    agree =
        by_cases (every (used_in (triangles cs)) (span 0 (length used)))
        (λ t.
        every_all (λ k. eqb k 1) 0 used'
        (λ p h.
        let b : p < length used = omega (arith, m.long) in
        here p b ∙ every_span_at (used_in (triangles cs)) (length used) p t b)
        ∙ sym t)
        (λ f.
        by_cases (every (λ k. eqb k 1) used')
        (λ t.
        clash
        (every_span_all (used_in (triangles cs)) (length used)
        (λ p h. sym (here p h) ∙ every_at (λ k. eqb k 1) 0 used' p t (omega (arith, m.long))))
        f)
        (λ t. t ∙ sym f))

-- a row that is cut from one that is all 0
zero_at : (m p : ℕ) → ◌≡◌ {A = ℕ} (get_or (replicate m 0) p 0) 0
zero_at m p =
    by_cases (ltb p m)
    (λ h. get_or-replicate m p 0 0 (ltb-true p m h))
    (λ h. get_or-eq_default (replicate m 0) 0 (omega (arith, length-replicate {A = ℕ} m 0, ltb-false p m h)))

pub fresh_row : (cs : List ℕ) (n m : ℕ) → n ≤ m → Triangular cs n → Markable cs (take n (replicate m 0))
fresh_row cs n m h t =
    let row : List ℕ = replicate m 0 in
    let long : length (take n row) ≡ n = length_front 0 n m h in
    record {
      whole = t.whole;
      few = t.few;
      below = λ k l. omega (arith, t.below k l, long);
      fresh = λ p l. get_or-take n row p 0 (omega (arith, long)) ∙ zero_at m p;
    }
