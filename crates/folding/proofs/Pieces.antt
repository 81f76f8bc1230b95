-- What is known of the pieces of a face: none is folded, each has three corners or more, there are no more corners than the face has,
-- and each is a corner of the face. Assumes nothing.
use mathlib.Core.Path.{◌≡◌, refl, sym, ap, ◌∙◌}
use mathlib.Core.Bool.{Bool, true, false, not, ◌||◌}
use mathlib.Core.List.{List, [], ◌∷◌, map}
use Prim.Native.Nat.{ℕ, suc, ◌≤◌}
use native.Mathlib.Omega.{arith}
use lib.ListN.{length, get_or}
use lib.Dec.{eqb}
use Rattle.std.proofs.lemmas.Bool.Decides.{nat_tests}
use borrow.Author.Tests.{le-leb, eqb-true, eqb-false, ne_eqb, eq-eqb}
use Rattle.lists.specs.Lists.{every, sum}
use Rattle.lists.proofs.Bools.{by_cases, true_false, and_both, and_left, and_right, or_false_left, or_false_right}
use Rattle.lists.proofs.Parts.{every_append}
use Rattle.lists.proofs.Only.{every_only}
use Rattle.mesh.specs.Mesh.{Corner, Ring, position}
use Rattle.splitting.specs.Splitting.{folded_by, split_by, is_piece, pieces_by}
use Rattle.splitting.proofs.Splitting.{split_all}
use Rattle.splitting.proofs.Pieces.{pieces_stay, pieces_all, pieces_fewer, pieces_every}
use Rattle.folding.specs.Folding.{folded, triangle_pieces, fold_of, left, quadrangle_pieces, ring_pieces, pieces}
use Rattle.folding.specs.declared.Fold.{Fold}
use Rattle.folding.specs.declared.Fold.TheVariants.{Goes, WithoutQ1, WithoutQ3, Stays}

abbrev pub is_unfolded : Ring → Bool
is_unfolded r = not (folded r)

-- three corners or more
abbrev pub is_face : Ring → Bool
is_face r = is_piece r

pub record Sane (r : Ring) (ps : List Ring) : Type 0 where
  pub unfolded : every is_unfolded ps ≡ true
  pub faces : every is_face ps ≡ true
  pub fewer : sum (map length ps) ≤ length r
  pub corners : (p : Corner → Bool) → every p r ≡ true → every (every p) ps ≡ true

-- nothing, and a face that is not folded
pub sane_none : (r : Ring) → Sane r []
sane_none r = record { unfolded = refl; faces = refl; fewer = omega arith; corners = λ p e. refl }

pub sane_same : (r : Ring) → folded r ≡ false → 3 ≤ length r → Sane r (r ∷ [])
sane_same r e h = record {
  unfolded = rw e;
  faces = rw (le-leb 3 (length r) h);
  fewer = omega arith;
  corners = λ p c. and_both (every p r) true c refl;
}

-- ---- a triangle

pub triangle_goes : (t : Ring) → folded t ≡ true → triangle_pieces t ≡ []
unfolding triangle_pieces
triangle_goes t e = rw (e, triangle_pieces)

pub triangle_stays : (t : Ring) → folded t ≡ false → triangle_pieces t ≡ t ∷ []
unfolding triangle_pieces
triangle_stays t e = rw (e, triangle_pieces)

pub triangle_sane : (t : Ring) → 3 ≤ length t → Sane t (triangle_pieces t)
triangle_sane t h =
    by_cases (folded t)
    (λ e. rw (triangle_goes t e) (sane_none t))
    (λ e. rw (triangle_stays t e) (sane_same t e h))

-- three corners, and what the tests on their positions say, in the order of the code
pub three_corners : (t : Ring) → length t ≡ 3 → t ≡ get_or t 0 [] ∷ get_or t 1 [] ∷ get_or t 2 [] ∷ []
three_corners [] h = absurd (let z : ◌≡◌ {A = ℕ} 0 3 = h in omega arith)
three_corners (a ∷ []) h = absurd (let z : ◌≡◌ {A = ℕ} 1 3 = h in omega arith)
three_corners (a ∷ b ∷ []) h = absurd (let z : ◌≡◌ {A = ℕ} 2 3 = h in omega arith)
three_corners (a ∷ b ∷ c ∷ []) h = refl
three_corners (a ∷ b ∷ c ∷ d ∷ t) h = absurd (let z : suc (suc (suc (suc (length t)))) ≡ 3 = h in omega arith)

abbrev at : Ring → ℕ → ℕ
at t k = position (get_or t k [])

pub folded_three : (t : Ring) → length t ≡ 3 → folded t ≡ (eqb (at t 0) (at t 1) || eqb (at t 1) (at t 2) || eqb (at t 2) (at t 0))
unfolding folded_by
folded_three t h = ap folded (three_corners t h) ∙ grind (arith, nat_tests)

-- ---- a larger face

pub split_unfolded : (r : Ring) → every is_unfolded (split_by position r) ≡ true
split_unfolded =
    split_all position
    (λ r ps. every is_unfolded ps ≡ true)
    (λ r e. rw e)
    (λ r e a b h k. every_append is_unfolded a b ∙ and_both (every is_unfolded a) (every is_unfolded b) h k)

pub ring_sane : (r : Ring) → Sane r (ring_pieces r)
unfolding pieces_by
ring_sane r = record {
  unfolded = every_only is_face is_unfolded (split_by position r) (split_unfolded r);
  faces = pieces_all position r;
  fewer = pieces_fewer position r;
  corners = λ p c. pieces_every position p r c;
}

-- ---- a quadrangle

-- by the answer on it
pub quadrangle_left : (q : Ring) (f : Fold) → f ≡ fold_of q → quadrangle_pieces q ≡ left f q
unfolding quadrangle_pieces
quadrangle_left q f e = rw e

-- two corners have positions of their own
abbrev Apart : Corner → Corner → Type 0
Apart a b = position a ≡ position b → ⊥

triangle_unfolded : (a b c : Corner) → Apart a b → Apart a c → Apart b c → folded (a ∷ b ∷ c ∷ []) ≡ false
unfolding folded_by
triangle_unfolded a b c ab ac bc = rw (ne_eqb _ _ ab, ne_eqb _ _ ac, ne_eqb _ _ bc)

module _ (a b c d : Corner) where
  abbrev quad : Ring
  quad = a ∷ b ∷ c ∷ d ∷ []

  -- a test of all four, one by one
  module _ (p : Corner → Bool) (h : every p quad ≡ true) where
    at_a : p a ≡ true
    at_a = and_left (p a) (every p (b ∷ c ∷ d ∷ [])) h

    from_b : every p (b ∷ c ∷ d ∷ []) ≡ true
    from_b = and_right (p a) (every p (b ∷ c ∷ d ∷ [])) h

    at_b : p b ≡ true
    at_b = and_left (p b) (every p (c ∷ d ∷ [])) from_b

    from_c : every p (c ∷ d ∷ []) ≡ true
    from_c = and_right (p b) (every p (c ∷ d ∷ [])) from_b

    at_c : p c ≡ true
    at_c = and_left (p c) (every p (d ∷ [])) from_c

  -- each answer, with what it says of the corners that are left
  goes : fold_of quad ≡ Goes → Sane quad (quadrangle_pieces quad)
  unfolding quadrangle_pieces
  goes e = rw e (sane_none quad)

  less_q1 : fold_of quad ≡ WithoutQ1 → Apart a c → Apart a d → Apart c d → Sane quad (quadrangle_pieces quad)
  unfolding quadrangle_pieces
  less_q1 e ac ad cd = rw e (record {
    unfolded = rw (triangle_unfolded a c d ac ad cd);
    faces = refl;
    fewer = omega arith;
    corners = λ p h. and_both (every p (a ∷ c ∷ d ∷ [])) true (and_both (p a) (every p (c ∷ d ∷ [])) (at_a p h) (from_c p h)) refl;
  })

  less_q3 : fold_of quad ≡ WithoutQ3 → Apart a b → Apart a c → Apart b c → Sane quad (quadrangle_pieces quad)
  unfolding quadrangle_pieces
  less_q3 e ab ac bc = rw e (record {
    unfolded = rw (triangle_unfolded a b c ab ac bc);
    faces = refl;
    fewer = omega arith;
    corners = λ p h. rw (at_a p h, at_b p h, at_c p h);
  })

  stays : fold_of quad ≡ Stays → folded quad ≡ false → Sane quad (quadrangle_pieces quad)
  unfolding quadrangle_pieces
  stays e f = rw e (sane_same quad f (omega arith))

  quad_sane : Sane quad (quadrangle_pieces quad)
  unfolding fold_of folded_by
  quad_sane =
      by_cases (eqb (position a) (position c)) (λ ac. goes (rw ac)) (λ ac.
      by_cases (eqb (position b) (position d)) (λ bd. goes (rw (ac, bd))) (λ bd.
      by_cases (eqb (position a) (position b)) (λ ab.
      by_cases (eqb (position c) (position d)) (λ cd. goes (rw (ac, bd, ab, cd))) (λ cd.
      let e : position a ≡ position b = eqb-true _ _ ab in
      let bc = ne_eqb (position b) (position c) (λ f. eqb-false (position a) (position c) ac (e ∙ f)) in
      less_q1 (simp (ac, bd, ab, cd, bc)) (eqb-false _ _ ac) (λ f. eqb-false _ _ bd (sym e ∙ f)) (eqb-false _ _ cd))) (λ ab.
      by_cases (eqb (position b) (position c)) (λ bc.
      by_cases (eqb (position d) (position a)) (λ da. goes (rw (ac, bd, ab, bc, da))) (λ da.
      let e : position b ≡ position c = eqb-true _ _ bc in
      less_q1 (rw (ac, bd, ab, bc, da)) (eqb-false _ _ ac) (λ f. eqb-false _ _ da (sym f)) (λ f. eqb-false _ _ bd (e ∙ f)))) (λ bc.
      by_cases (eqb (position c) (position d)) (λ cd. less_q3 (rw (ac, bd, ab, bc, cd)) (eqb-false _ _ ab) (eqb-false _ _ ac) (eqb-false _ _ bc)) (λ cd.
      by_cases (eqb (position d) (position a)) (λ da. less_q3 (rw (ac, bd, ab, bc, cd, da)) (eqb-false _ _ ab) (eqb-false _ _ ac) (eqb-false _ _ bc)) (λ da.
      stays (rw (ac, bd, ab, bc, cd, da)) (rw (ab, ac, ne_eqb (position a) (position d) (λ f. eqb-false _ _ da (sym f)), bc, bd, cd))))))))

  -- a quadrangle that is not folded stays
  quad_same : folded quad ≡ false → fold_of quad ≡ Stays
  unfolding folded_by fold_of
  quad_same e =
      let from-a = eqb (position a) (position b) || (eqb (position a) (position c) || (eqb (position a) (position d) || false)) in
      let from_b = eqb (position b) (position c) || (eqb (position b) (position d) || false) in
      let from_c = eqb (position c) (position d) || false in
      let l : from-a ≡ false = or_false_left from-a (from_b || (from_c || (false || false))) e in
      let m : (from_b || (from_c || (false || false))) ≡ false = or_false_right from-a (from_b || (from_c || (false || false))) e in
      let n : from_b ≡ false = or_false_left from_b (from_c || (false || false)) m in
      let o : from_c ≡ false = or_false_left from_c (false || false) (or_false_right from_b (from_c || (false || false)) m) in
      let ab = or_false_left (eqb (position a) (position b)) (eqb (position a) (position c) || (eqb (position a) (position d) || false)) l in
      let acd = or_false_right (eqb (position a) (position b)) (eqb (position a) (position c) || (eqb (position a) (position d) || false)) l in
      let ac = or_false_left (eqb (position a) (position c)) (eqb (position a) (position d) || false) acd in
      let ad = or_false_left (eqb (position a) (position d)) false (or_false_right (eqb (position a) (position c)) (eqb (position a) (position d) || false) acd) in
      let bc = or_false_left (eqb (position b) (position c)) (eqb (position b) (position d) || false) n in
      let bd = or_false_left (eqb (position b) (position d)) false (or_false_right (eqb (position b) (position c)) (eqb (position b) (position d) || false) n) in
      let cd = or_false_left (eqb (position c) (position d)) false o in
      let da = ne_eqb (position d) (position a) (λ f. eqb-false (position a) (position d) ad (sym f)) in
      rw (ac, bd, ab, bc, cd, da)

pub quadrangle_stays : (q : Ring) → length q ≡ 4 → folded q ≡ false → fold_of q ≡ Stays
quadrangle_stays [] h e = absurd (let z : ◌≡◌ {A = ℕ} 0 4 = h in omega arith)
quadrangle_stays (a ∷ []) h e = absurd (let z : ◌≡◌ {A = ℕ} 1 4 = h in omega arith)
quadrangle_stays (a ∷ b ∷ []) h e = absurd (let z : ◌≡◌ {A = ℕ} 2 4 = h in omega arith)
quadrangle_stays (a ∷ b ∷ c ∷ []) h e = absurd (let z : ◌≡◌ {A = ℕ} 3 4 = h in omega arith)
quadrangle_stays (a ∷ b ∷ c ∷ d ∷ []) h e = quad_same a b c d e
quadrangle_stays (a ∷ b ∷ c ∷ d ∷ x ∷ q) h e = absurd (let z : suc (suc (suc (suc (suc (length q))))) ≡ 4 = h in omega arith)

pub quadrangle_same : (q : Ring) → length q ≡ 4 → folded q ≡ false → quadrangle_pieces q ≡ q ∷ []
quadrangle_same q h e = quadrangle_left q Stays (sym (quadrangle_stays q h e))

pub quadrangle_sane : (q : Ring) → length q ≡ 4 → Sane q (quadrangle_pieces q)
quadrangle_sane [] h = absurd (let z : ◌≡◌ {A = ℕ} 0 4 = h in omega arith)
quadrangle_sane (a ∷ []) h = absurd (let z : ◌≡◌ {A = ℕ} 1 4 = h in omega arith)
quadrangle_sane (a ∷ b ∷ []) h = absurd (let z : ◌≡◌ {A = ℕ} 2 4 = h in omega arith)
quadrangle_sane (a ∷ b ∷ c ∷ []) h = absurd (let z : ◌≡◌ {A = ℕ} 3 4 = h in omega arith)
quadrangle_sane (a ∷ b ∷ c ∷ d ∷ []) h = quad_sane a b c d
quadrangle_sane (a ∷ b ∷ c ∷ d ∷ e ∷ q) h = absurd (let z : suc (suc (suc (suc (suc (length q))))) ≡ 4 = h in omega arith)

-- so the answer on it tells whether it is folded
abbrev pub changes : Fold → Bool
changes Goes = true
changes WithoutQ1 = true
changes WithoutQ3 = true
changes Stays = false

pub quadrangle_tells : (q : Ring) → length q ≡ 4 → changes (fold_of q) ≡ folded q
quadrangle_tells q h = by_cases (folded q) (λ e. when_folded (fold_of q) refl e ∙ sym e) (λ e. ap changes (quadrangle_stays q h e) ∙ sym e)
  where
    when_folded : (f : Fold) → fold_of q ≡ f → folded q ≡ true → changes f ≡ true
    when_folded Goes e t = refl
    when_folded WithoutQ1 e t = refl
    when_folded WithoutQ3 e t = refl
    when_folded Stays e t =
        let s : every is_unfolded (q ∷ []) ≡ true = rw (quadrangle_left q Stays (sym e)) at (quadrangle_sane q h).unfolded in
        true_false (sym (and_left (is_unfolded q) true s) ∙ ap not t)

-- ---- any face, by its size

pub pieces_triangle : (r : Ring) → length r ≡ 3 → pieces r ≡ triangle_pieces r
unfolding pieces
pieces_triangle r h = rw (eq-eqb (length r) 3 h, pieces)

pub pieces_quadrangle : (r : Ring) → length r ≡ 4 → pieces r ≡ quadrangle_pieces r
unfolding pieces
pieces_quadrangle r h = rw (ne_eqb (length r) 3 (λ e. omega arith), eq-eqb (length r) 4 h, pieces)

pub pieces_ring : (r : Ring) → (length r ≡ 3 → ⊥) → (length r ≡ 4 → ⊥) → pieces r ≡ ring_pieces r
unfolding pieces
pieces_ring r h k = rw (ne_eqb (length r) 3 h, ne_eqb (length r) 4 k, pieces)

pub pieces_sane : (r : Ring) → Sane r (pieces r)
pieces_sane r =
    by_cases (eqb (length r) 3)
    (λ e. let h = eqb-true _ _ e in rw (pieces_triangle r h) (triangle_sane r (omega arith)))
    (λ e.
    by_cases (eqb (length r) 4)
    (λ f. let h = eqb-true _ _ f in rw (pieces_quadrangle r h) (quadrangle_sane r h))
    (λ f. rw (pieces_ring r (eqb-false _ _ e) (eqb-false _ _ f)) (ring_sane r)))

-- a face that is not folded stays as it is
pub pieces_same : (r : Ring) → 3 ≤ length r → folded r ≡ false → pieces r ≡ r ∷ []
pieces_same r h e =
    by_cases (eqb (length r) 3)
    (λ t. pieces_triangle r (eqb-true _ _ t) ∙ triangle_stays r e)
    (λ t.
    by_cases (eqb (length r) 4)
    (λ f. pieces_quadrangle r (eqb-true _ _ f) ∙ quadrangle_same r (eqb-true _ _ f) e)
    (λ f. pieces_ring r (eqb-false _ _ t) (eqb-false _ _ f) ∙ pieces_stay position r e h))

-- a triangle leaves triangles only
pub triangle_triangles : (r : Ring) → length r ≡ 3 → every (λ (p : Ring). eqb (length p) 3) (pieces r) ≡ true
triangle_triangles r h =
    by_cases (folded r)
    (λ e. rw (pieces_triangle r h, triangle_goes r e))
    (λ e. rw (pieces_triangle r h, triangle_stays r e) (rw (eq-eqb (length r) 3 h)))
