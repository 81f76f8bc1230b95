-- Faces whose corners are changed so that equal positions stay equal and different ones different: their pieces are the pieces that
-- were, changed; so is what the removal leaves of them, with the same origins. What else becomes of a corner does not matter. Assumes nothing.
use mathlib.Core.Path.{◌≡◌, refl, sym, ap, ap₂, ◌∙◌, fun_ext}
use mathlib.Core.Bool.{Bool, true}
use mathlib.Core.List.{List, [], ◌∷◌, ◌++◌, map, map-append}
use Prim.Native.Nat.{ℕ, suc}
use native.Mathlib.Omega.{arith}
use lib.ListN.{length, replicate, length-map}
use lib.Dec.{leb, eqb}
use borrow.Author.Tests.{eqb-true, eqb-false}
use Rattle.lists.specs.Lists.{every, only, each}
use Rattle.lists.proofs.Bools.{by_cases, and_left, and_right}
use Rattle.lists.proofs.Mapping.{only_map}
use Rattle.mesh.specs.Mesh.{Corner, Ring, position}
use Rattle.grouping.specs.Push.{pushed, is_triangle, is_quadrangle, is_larger}
use Rattle.grouping.specs.Tags.{pushed_tags}
use Rattle.splitting.proofs.Mapped as splitting
use Rattle.folding.specs.Folding.{folded, fold_of, left, triangle_pieces, quadrangle_pieces, ring_pieces, pieces}
use Rattle.folding.specs.declared.Fold.{Fold}
use Rattle.folding.specs.declared.Fold.TheVariants.{Goes, WithoutQ1, WithoutQ3, Stays}
use Rattle.folding.proofs.Pieces.{triangle_goes, triangle_stays, pieces_triangle, pieces_quadrangle, pieces_ring}
use Rattle.removal.specs.Folded.{removed}
use Rattle.removal.specs.Origins.{numbered, origins_of}
use Rattle.removal.proofs.Origins.{origins_by_size}
use Rattle.unused.proofs.Columns.{lengths_map}

-- ---- grouping looks at the sizes only

module _ (f : Corner → Corner) where
  only_sized : (q : ℕ → Bool) (fs : List Ring) → only (λ (r : Ring). q (length r)) (map (map f) fs) ≡ map (map f) (only (λ (r : Ring). q (length r)) fs)
  only_sized q fs =
      only_map (map f) (λ (r : Ring). q (length r)) fs
      ∙ ap (λ (t : Ring → Bool). map (map f) (only t fs)) (fun_ext (λ (r : Ring). ap q (length-map r f)))

  pub pushed_changed : (fs : List Ring) → pushed (map (map f) fs) ≡ map (map f) (pushed fs)
  unfolding pushed
  pushed_changed fs =
      let t = only is_triangle fs in
      let q = only is_quadrangle fs in
      let l = only is_larger fs in
      ap₂ (λ (a b : List Ring). a ++ b)
      (ap₂ (λ (a b : List Ring). a ++ b) (only_sized (λ n. eqb n 3) fs) (only_sized (λ n. eqb n 4) fs) ∙ sym (map-append (map f) t q))
      (only_sized (leb 5) fs)
      ∙ sym (map-append (map f) (t ++ q) l)

-- ---- the pieces

-- f changes corners; of two corners that pass the test p the positions are equal afterwards just where they were before
module _ (f : Corner → Corner) (p : Corner → Bool)
    (agree : (a b : Corner) → p a ≡ true → p b ≡ true → eqb (position (f a)) (position (f b)) ≡ eqb (position a) (position b)) where
  folded_changed : (r : Ring) → every p r ≡ true → folded (map f r) ≡ folded r
  folded_changed r h = splitting.folded_map f position r ∙ splitting.folded_same (λ c. position (f c)) position p agree r h

  ring_changed : (r : Ring) → every p r ≡ true → ring_pieces (map f r) ≡ map (map f) (ring_pieces r)
  ring_changed r h =
      splitting.pieces_map f position r ∙ ap (map (map f)) (splitting.pieces_same (λ c. position (f c)) position p agree r h)

  triangle_changed : (r : Ring) → every p r ≡ true → triangle_pieces (map f r) ≡ map (map f) (triangle_pieces r)
  triangle_changed r h =
      by_cases (folded r)
      (λ e. triangle_goes (map f r) (folded_changed r h ∙ e) ∙ ap (map (map f)) (sym (triangle_goes r e)))
      (λ e. triangle_stays (map f r) (folded_changed r h ∙ e) ∙ ap (map (map f)) (sym (triangle_stays r e)))

  left_changed : (g : Fold) (a b c d : Corner) → left g (map f (a ∷ b ∷ c ∷ d ∷ [])) ≡ map (map f) (left g (a ∷ b ∷ c ∷ d ∷ []))
  left_changed Goes a b c d = refl
  left_changed WithoutQ1 a b c d = refl
  left_changed WithoutQ3 a b c d = refl
  left_changed Stays a b c d = refl

  fold_changed : (a b c d : Corner) → p a ≡ true → p b ≡ true → p c ≡ true → p d ≡ true
      → fold_of (map f (a ∷ b ∷ c ∷ d ∷ [])) ≡ fold_of (a ∷ b ∷ c ∷ d ∷ [])
  unfolding fold_of
  fold_changed a b c d ha hb hc hd =
      rw (agree a c ha hc, agree b d hb hd, agree a b ha hb, agree c d hc hd, agree b c hb hc, agree d a hd ha)

  quadrangle_changed : (r : Ring) → length r ≡ 4 → every p r ≡ true → quadrangle_pieces (map f r) ≡ map (map f) (quadrangle_pieces r)
  unfolding quadrangle_pieces
  quadrangle_changed [] n h = absurd (let z : ◌≡◌ {A = ℕ} 0 4 = n in omega arith)
  quadrangle_changed (a ∷ []) n h = absurd (let z : ◌≡◌ {A = ℕ} 1 4 = n in omega arith)
  quadrangle_changed (a ∷ b ∷ []) n h = absurd (let z : ◌≡◌ {A = ℕ} 2 4 = n in omega arith)
  quadrangle_changed (a ∷ b ∷ c ∷ []) n h = absurd (let z : ◌≡◌ {A = ℕ} 3 4 = n in omega arith)
  quadrangle_changed (a ∷ b ∷ c ∷ d ∷ []) n h =
      let hb = and_right (p a) (every p (b ∷ c ∷ d ∷ [])) h in
      let hc = and_right (p b) (every p (c ∷ d ∷ [])) hb in
      let hd = and_right (p c) (every p (d ∷ [])) hc in
      ap (λ (g : Fold). left g (map f (a ∷ b ∷ c ∷ d ∷ [])))
      (fold_changed a b c d (and_left (p a) (every p (b ∷ c ∷ d ∷ [])) h) (and_left (p b) (every p (c ∷ d ∷ [])) hb)
      (and_left (p c) (every p (d ∷ [])) hc) (and_left (p d) true hd))
      ∙ left_changed (fold_of (a ∷ b ∷ c ∷ d ∷ [])) a b c d
  quadrangle_changed (a ∷ b ∷ c ∷ d ∷ x ∷ r) n h = absurd (let z : suc (suc (suc (suc (suc (length r))))) ≡ 4 = n in omega arith)

  pieces_changed : (r : Ring) → every p r ≡ true → pieces (map f r) ≡ map (map f) (pieces r)
  pieces_changed r h =
      let l : length (map f r) ≡ length r = length-map r f in
      by_cases (eqb (length r) 3)
      (λ t.
      let n = eqb-true _ _ t in
      pieces_triangle (map f r) (l ∙ n) ∙ triangle_changed r h ∙ ap (map (map f)) (sym (pieces_triangle r n)))
      (λ t.
      by_cases (eqb (length r) 4)
      (λ q.
      let n = eqb-true _ _ q in
      pieces_quadrangle (map f r) (l ∙ n) ∙ quadrangle_changed r n h ∙ ap (map (map f)) (sym (pieces_quadrangle r n)))
      (λ q.
      let a = eqb-false _ _ t in
      let b = eqb-false _ _ q in
      pieces_ring (map f r) (λ e. a (sym l ∙ e)) (λ e. b (sym l ∙ e)) ∙ ring_changed r h ∙ ap (map (map f)) (sym (pieces_ring r a b))))

  each_changed : (fs : List Ring) → every (every p) fs ≡ true → each pieces (map (map f) fs) ≡ map (map f) (each pieces fs)
  each_changed [] h = refl
  each_changed (r ∷ fs) h =
      ap₂ (λ (a b : List Ring). a ++ b)
      (pieces_changed r (and_left (every p r) (every (every p) fs) h))
      (each_changed fs (and_right (every p r) (every (every p) fs) h))
      ∙ sym (map-append (map f) (pieces r) (each pieces fs))

  -- what the removal leaves of the changed faces is what it leaves of the faces, changed
  pub removed_changed : (fs : List Ring) → every (every p) fs ≡ true → removed (map (map f) fs) ≡ map (map f) (removed fs)
  unfolding removed
  removed_changed fs h = ap pushed (each_changed fs h) ∙ pushed_changed f (each pieces fs)

  -- ---- the origins: each face falls into as many pieces as before, of the same sizes

  as_many : (r : Ring) → every p r ≡ true → length (pieces (map f r)) ≡ length (pieces r)
  as_many r h = ap length (pieces_changed r h) ∙ length-map (pieces r) (map f)

  numbered_changed : (a : ℕ) (fs : List Ring) → every (every p) fs ≡ true → numbered a (map (map f) fs) ≡ numbered a fs
  unfolding numbered
  numbered_changed a [] h = refl
  numbered_changed a (r ∷ fs) h =
      ap₂ (λ (n : ℕ) (l : List ℕ). replicate n a ++ l)
      (as_many r (and_left (every p r) (every (every p) fs) h))
      (numbered_changed (suc a) fs (and_right (every p r) (every (every p) fs) h))

  pub origins_changed : (fs : List Ring) → every (every p) fs ≡ true → origins_of (map (map f) fs) ≡ origins_of fs
  origins_changed fs h =
      origins_by_size (map (map f) fs)
      ∙ ap₂ pushed_tags (ap (map length) (each_changed fs h) ∙ lengths_map f (each pieces fs)) (numbered_changed 0 fs h)
      ∙ sym (origins_by_size fs)
