-- Points written one behind the other into a flat list. Assumes nothing.
use Rattle.std.proofs.Common.{◌≡◌, ℕ, zero, suc, ◌+◌, ◌*◌, ◌<◌, ◌≤◌, List, length, sym, ap, ◌∙◌, arith, Float}
use lib.Seq.{sets, length-sets}
use Rattle.lists.specs.Lists.{each, span}
use Rattle.lists.proofs.Buckets.{start, start_zero, start_next, each_span_snoc}
use Rattle.lists.proofs.Writing.{sets_append}
use Rattle.floating.specs.Points.{coordinates}
use Rattle.floating.specs.declared.Point.{Point}
use Rattle.smoothed.specs.Positions.{axes}

-- of n points, of which f gives the coordinates, the first k stand in a list behind `at` others
pub record Filling (f : ℕ → ℕ → Float) (l l' : List Float) (at n k : ℕ) : Type 0 where
  pub within : k ≤ n
  pub written : l' ≡ sets l (3 * at) (each (λ v. axes (λ a. f a v)) (span 0 k))
  pub long : length l' ≡ length l

module _ (f : ℕ → ℕ → Float) where
  abbrev points : ℕ → List Float
  points v = axes (λ a. f a v)

  -- point k begins at number 3k
  pub begins_at : (k : ℕ) → start points k ≡ 3 * k
  begins_at zero = start_zero points
  begins_at (suc k) =
      let e : start points (k + 1) ≡ start points k + 3 = start_next points k in
      let i : start points k ≡ 3 * k = begins_at k in
      let s : suc k ≡ k + 1 = omega arith in
      rw s (omega arith)

  module _ (l : List Float) (at n : ℕ) where
    pub fill_turns :
        (l' l'' : List Float) (k j : ℕ) (p : Point) → k < n → j ≡ at + k → coordinates p ≡ points k → l'' ≡ sets l' (3 * j) (coordinates p)
        → Filling f l l' at n k → Filling f l l'' at n (k + 1)
    unfolding start
    fill_turns l' l'' k j p h i e w g =
        let done = each points (span 0 k) in
        let b : length done ≡ 3 * k = begins_at k in
        let q : 3 * j ≡ 3 * at + length done = omega arith in
        record {
          within = omega arith;
          written =
              w
              ∙ ap (sets l' (3 * j)) e
              ∙ ap (λ (t : List Float). sets t (3 * j) (points k)) g.written
              ∙ ap (λ (j : ℕ). sets (sets l (3 * at) done) j (points k)) q
              ∙ sym (sets_append l (3 * at) done (points k))
              ∙ ap (sets l (3 * at)) (sym (each_span_snoc points k));
          long = ap length w ∙ length-sets l' (3 * j) (coordinates p) ∙ g.long;
        }

    pub fill_ends : (l' : List Float) (k : ℕ) → n ≤ k → Filling f l l' at n k → l' ≡ sets l (3 * at) (each points (span 0 n))
    fill_ends l' k h g =
        let e : k ≡ n = omega (arith, g.within) in
        g.written ∙ ap (λ (m : ℕ). sets l (3 * at) (each points (span 0 m))) e
