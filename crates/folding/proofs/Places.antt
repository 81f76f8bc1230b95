-- The places of a face's pieces: the ring read there, none outside it, none twice, and all of a face that is not folded. Assumes nothing.
use mathlib.Core.Path.{◌≡◌, refl, sym, ap, ◌∙◌}
use mathlib.Core.Bool.{Bool, true, false}
use mathlib.Core.List.{List, [], ◌∷◌, map}
use Prim.Native.Nat.{ℕ, zero, suc, ◌≤◌, ◌<◌}
use native.Mathlib.Omega.{arith}
use lib.ListN.{length, get_or}
use lib.Dec.{eqb}
use borrow.Author.Tests.{eqb-true, eqb-false, eq-eqb, ne_eqb}
use Rattle.lists.specs.Lists.{every, bump, count, joined, span}
use Rattle.lists.proofs.Bools.{by_cases}
use Rattle.lists.proofs.Buckets.{length_span}
use Rattle.lists.proofs.Mapping.{map_span}
use Rattle.mesh.specs.Mesh.{Ring, position}
use Rattle.splitting.specs.Splitting.{folded_by}
use Rattle.splitting.proofs.Mapped.{folded_map, pieces_places}
use Rattle.splitting.proofs.Pieces.{pieces_stay, pieces_every, pieces_count}
use Rattle.places.proofs.Corners.{under, every_span}
use Rattle.folding.specs.Folding.{folded, triangle_pieces, fold_of, left, quadrangle_pieces, pieces}
use Rattle.folding.specs.declared.Fold.{Fold}
use Rattle.folding.specs.declared.Fold.TheVariants.{Goes, WithoutQ1, WithoutQ3, Stays}
use Rattle.folding.specs.Places.{triangle_places, left_places, quadrangle_places, position_in, ring_places, places}
use Rattle.folding.proofs.Pieces.{three_corners, triangle_goes, triangle_stays, quadrangle_left, quadrangle_stays, pieces_triangle, pieces_quadrangle, pieces_ring}

-- ---- by the size, and a triangle by whether it is folded

places_triangle : (r : Ring) → length r ≡ 3 → places r ≡ triangle_places r
unfolding places
places_triangle r h = rw (eq-eqb (length r) 3 h, places)

places_quadrangle : (r : Ring) → length r ≡ 4 → places r ≡ quadrangle_places r
unfolding places
places_quadrangle r h = rw (ne_eqb (length r) 3 (λ e. omega arith), eq-eqb (length r) 4 h, places)

places_ring : (r : Ring) → (length r ≡ 3 → ⊥) → (length r ≡ 4 → ⊥) → places r ≡ ring_places r
unfolding places
places_ring r h k = rw (ne_eqb (length r) 3 h, ne_eqb (length r) 4 k, places)

-- what holds of each kind holds of every face
pub places_all : (P : Ring → List (List ℕ) → Type 0)
    → ((r : Ring) → length r ≡ 3 → P r (triangle_places r))
    → ((r : Ring) → length r ≡ 4 → P r (quadrangle_places r))
    → ((r : Ring) → (length r ≡ 3 → ⊥) → (length r ≡ 4 → ⊥) → P r (ring_places r))
    → (r : Ring) → P r (places r)
places_all P three four more r =
    by_cases (eqb (length r) 3)
    (λ e. let h = eqb-true _ _ e in rw (places_triangle r h) (three r h))
    (λ e.
    by_cases (eqb (length r) 4)
    (λ f. let h = eqb-true _ _ f in rw (places_quadrangle r h) (four r h))
    (λ f. rw (places_ring r (eqb-false _ _ e) (eqb-false _ _ f)) (more r (eqb-false _ _ e) (eqb-false _ _ f))))

all_go : (t : Ring) → folded t ≡ true → triangle_places t ≡ []
unfolding triangle_places
all_go t e = rw (e, triangle_places)

all_stay : (t : Ring) → folded t ≡ false → triangle_places t ≡ (0 ∷ 1 ∷ 2 ∷ []) ∷ []
unfolding triangle_places
all_stay t e = rw (e, triangle_places)

quadrangle_places_lem : (q : Ring) (f : Fold) → fold_of q ≡ f → quadrangle_places q ≡ left_places f
unfolding quadrangle_places
quadrangle_places_lem q f e = rw e

-- ---- the ring read at the places

abbrev reading : Ring → List (List ℕ) → List Ring
reading r ps = map (map (λ k. get_or r k [])) ps

four_corners : (q : Ring) → length q ≡ 4 → q ≡ get_or q 0 [] ∷ get_or q 1 [] ∷ get_or q 2 [] ∷ get_or q 3 [] ∷ []
four_corners [] h = absurd (let z : ◌≡◌ {A = ℕ} 0 4 = h in omega arith)
four_corners (a ∷ q) h = ap (λ (s : Ring). a ∷ s) (three_corners q (let z : suc (length q) ≡ 4 = h in omega arith))

triangle_read : (t : Ring) → length t ≡ 3 → triangle_pieces t ≡ reading t (triangle_places t)
triangle_read t h =
    by_cases (folded t)
    (λ e. triangle_goes t e ∙ sym (ap (reading t) (all_go t e)))
    (λ e. triangle_stays t e ∙ ap (λ (r : Ring). r ∷ []) (three_corners t h) ∙ sym (ap (reading t) (all_stay t e)))

left_read : (q : Ring) → length q ≡ 4 → (f : Fold) → left f q ≡ reading q (left_places f)
left_read q h Goes = refl
left_read q h WithoutQ1 = refl
left_read q h WithoutQ3 = refl
left_read q h Stays = ap (λ (r : Ring). r ∷ []) (four_corners q h)

quadrangle_read : (q : Ring) → length q ≡ 4 → quadrangle_pieces q ≡ reading q (quadrangle_places q)
quadrangle_read q h = quadrangle_left q (fold_of q) refl ∙ left_read q h (fold_of q) ∙ sym (ap (reading q) (quadrangle_places_lem q (fold_of q) refl))

pub places_read : (r : Ring) → pieces r ≡ reading r (places r)
places_read =
    places_all
    (λ r ps. pieces r ≡ reading r ps)
    (λ r h. pieces_triangle r h ∙ triangle_read r h)
    (λ r h. pieces_quadrangle r h ∙ quadrangle_read r h)
    (λ r h k. pieces_ring r h k ∙ pieces_places position [] r)

-- ---- none outside the ring

left_within : (f : Fold) → every (every (under 4)) (left_places f) ≡ true
left_within Goes = refl
left_within WithoutQ1 = refl
left_within WithoutQ3 = refl
left_within Stays = refl

pub places_within : (r : Ring) → every (every (under (length r))) (places r) ≡ true
places_within =
    places_all
    (λ r ps. every (every (under (length r))) ps ≡ true)
    (λ r h. by_cases (folded r) (λ e. rw (all_go r e)) (λ e. rw (all_stay r e, h)))
    (λ r h. rw (quadrangle_places_lem r (fold_of r) refl, h) (left_within (fold_of r)))
    (λ r h k. pieces_every (position_in r) (under (length r)) (span 0 (length r)) (every_span (length r)))

-- ---- none twice

-- a number stands in 0, 1, .. at most once, and not before they begin
span_before : (k a n : ℕ) → k < a → count (eqb k) (span a n) ≡ 0
span_before k a zero h = refl
span_before k a (suc n) h = rw (ne_eqb k a (λ e. omega arith)) (span_before k (suc a) n (omega arith))

span_once : (k a n : ℕ) → count (eqb k) (span a n) ≤ 1
span_once k a zero = omega arith
span_once k a (suc n) =
    by_cases (eqb k a)
    (λ e. let h : k ≡ a = eqb-true k a e in rw (e, span_before k (suc a) n (omega arith)) (omega arith))
    (λ e. rw e (span_once k (suc a) n))

bump_less : (a b : Bool) (n : ℕ) → bump a n ≤ bump a (bump b n)
bump_less true true n = omega arith
bump_less true false n = omega arith
bump_less false true n = omega arith
bump_less false false n = omega arith

left_once : (f : Fold) (k : ℕ) → count (eqb k) (joined (left_places f)) ≤ 1
left_once Goes k = omega arith
left_once WithoutQ1 k =
    let a : count (eqb k) (0 ∷ 2 ∷ 3 ∷ []) ≤ count (eqb k) (span 0 4) = bump_less (eqb k 0) (eqb k 1) (count (eqb k) (2 ∷ 3 ∷ [])) in
    let b : count (eqb k) (span 0 4) ≤ 1 = span_once k 0 4 in
    omega (arith, a, b)
left_once WithoutQ3 k = span_once k 0 3
left_once Stays k = span_once k 0 4

pub places_once : (r : Ring) (k : ℕ) → count (eqb k) (joined (places r)) ≤ 1
places_once r k =
    places_all
    (λ r ps. count (eqb k) (joined ps) ≤ 1)
    (λ r h. by_cases (folded r) (λ e. rw (all_go r e) (omega arith)) (λ e. rw (all_stay r e) (span_once k 0 3)))
    (λ r h. rw (quadrangle_places_lem r (fold_of r) refl) (left_once (fold_of r) k))
    (λ r h g. let a = pieces_count (position_in r) (eqb k) (span 0 (length r)) in let b = span_once k 0 (length r) in omega (arith, a, b))
    r

-- ---- all of a face that is not folded

ring_whole : (r : Ring) → 3 ≤ length r → folded r ≡ false → ring_places r ≡ span 0 (length r) ∷ []
ring_whole r h e =
    let n = length_span 0 (length r) in
    pieces_stay (position_in r) (span 0 (length r))
    (sym (folded_map (λ k. get_or r k []) position (span 0 (length r))) ∙ ap (folded_by position) (map_span [] r) ∙ e)
    (omega (arith, n))

pub places_whole : (r : Ring) → 3 ≤ length r → folded r ≡ false → places r ≡ span 0 (length r) ∷ []
places_whole =
    places_all
    (λ r ps. 3 ≤ length r → folded r ≡ false → ps ≡ span 0 (length r) ∷ [])
    (λ r h l e. all_stay r e ∙ ap (λ (n : ℕ). span 0 n ∷ []) (sym h))
    (λ r h l e. quadrangle_places_lem r Stays (quadrangle_stays r h e) ∙ ap (λ (n : ℕ). span 0 n ∷ []) (sym h))
    (λ r h k l e. ring_whole r l e)
