-- How many neighbours each position has, one edge more at a time. Assumes nothing.
use Rattle.std.proofs.Common.{◌≡◌, sym, ap, ap₂, ◌∙◌, subst, List, [], ◌∷◌, ℕ, ◌+◌, ◌≤◌, ◌<◌, add-zero, arith, length, get_or, replicate}
use lib.ListN.{length-replicate}
use Rattle.lists.proofs.Buckets.{table_ext}
use Rattle.mesh.specs.Limits.{corner_limit, largest}
use Rattle.verdicts.specs.Edges.{Edge}
use Rattle.around.specs.Rows.{edge_at, edges_to, edges_in, neighbours_in, degrees_in, EdgeRows}
use Rattle.around.specs.Steps.{both, one_more, CountAt}
use Rattle.around.proofs.Gathering.{steps, Gathered, both_long, both_gathers, filled_begins, Joins}
use Rattle.around.proofs.Edges.{edges_more, length_edges, joins, neighbours_few}

-- the first e edges are counted
pub record Counted (n : ℕ) (ls hs l : List ℕ) (e : ℕ) : Type 0 where
  pub within : e ≤ length ls
  pub long : length l ≡ n
  pub gathered : Gathered one_more 0 n (edges_to ls hs e) (λ u. get_or l u 0)

-- one more for each
steps_length : (v t : ℕ) (ws : List ℕ) → steps (one_more v) t ws ≡ t + length ws
steps_length v t [] = sym (add-zero t)
steps_length v t (w ∷ ws) = let r : steps (one_more v) (t + 1) ws ≡ t + 1 + length ws = steps_length v (t + 1) ws in omega arith

module _ (n : ℕ) (ls hs : List ℕ) where
  counted_at : (l : List ℕ) (e v : ℕ) → v < n → Counted n ls hs l e → get_or l v 0 ≡ length (neighbours_in (edges_to ls hs e) v)
  counted_at l e v h c =
      let a : get_or l v 0 ≡ steps (one_more v) 0 (neighbours_in (edges_to ls hs e) v) = c.gathered.at v h in
      let b : _ = steps_length v 0 (neighbours_in (edges_to ls hs e) v) in
      omega arith

  pub count_begins : (l : List ℕ) → l ≡ replicate n 0 → Counted n ls hs l 0
  unfolding edges_to
  count_begins l q = record {
    within = omega arith;
    long = ap length q ∙ length-replicate n 0;
    gathered = filled_begins 0 one_more 0 l n q;
  }

  -- no entry is above the number of edges that are passed
  few_at : (l : List ℕ) (e v : ℕ) → EdgeRows n ls hs → v < n → Counted n ls hs l e → get_or l v 0 < largest
  few_at l e v r h c =
      let a : get_or l v 0 ≡ length (neighbours_in (edges_to ls hs e) v) = counted_at l e v h c in
      let b : length (neighbours_in (edges_to ls hs e) v) ≤ length (edges_to ls hs e) = neighbours_few (edges_to ls hs e) v in
      let d : length (edges_to ls hs e) ≡ e = length_edges ls hs e in
      let f : length ls ≤ corner_limit = r.few in
      let w : e ≤ length ls = c.within in
      omega arith

  pub count_ready :
      (l : List ℕ) (e a b : ℕ) → EdgeRows n ls hs → e < length ls → a ≡ get_or ls e 0 → b ≡ get_or hs e 0 → Counted n ls hs l e → CountAt a b l
  count_ready l e a b r h p q c =
      let j : Joins n (edge_at ls hs e) = joins ls hs n e r h in
      let o : get_or ls e 0 < get_or hs e 0 = r.ordered e h in
      let la : a < n = omega (arith, j.lower_below) in
      let lb : b < n = omega (arith, j.higher_below) in
      record {
        ordered = omega arith;
        below = omega (arith, c.long);
        lower_fits = few_at l e a r la c;
        higher_fits = few_at l e b r lb c;
      }

  pub count_turns :
      (l l' : List ℕ) (e a b : ℕ) → EdgeRows n ls hs → e < length ls → a ≡ get_or ls e 0 → b ≡ get_or hs e 0 → l' ≡ both 0 one_more (a, b) l
      → Counted n ls hs l e → Counted n ls hs l' (e + 1)
  count_turns l l' e a b r h p q t c =
      let k : Edge = edge_at ls hs e in
      let z : l' ≡ both 0 one_more k l = t ∙ ap₂ (λ (x y : ℕ). both 0 one_more (x, y) l) p q in
      let j : Joins (length l) k = subst (λ (m : ℕ). Joins m k) (sym c.long) (joins ls hs n e r h) in
      record {
        within = omega arith;
        long = ap length z ∙ both_long 0 one_more k l ∙ c.long;
        gathered =
            subst (λ (s : List ℕ). Gathered one_more 0 n (edges_to ls hs (e + 1)) (λ u. get_or s u 0)) (sym z)
            (subst (λ (es : List Edge). Gathered one_more 0 n es (λ u. get_or (both 0 one_more k l) u 0)) (sym (edges_more ls hs e))
            (both_gathers 0 one_more 0 n k l j c.gathered));
      }

  pub count_ends : (l : List ℕ) (e : ℕ) → length ls ≤ e → Counted n ls hs l e → l ≡ degrees_in (edges_in ls hs) n
  unfolding degrees_in
  count_ends l e h c =
      let z : e ≡ length ls = omega (arith, c.within) in
      table_ext (λ v. length (neighbours_in (edges_in ls hs) v)) n 0 l c.long
      (λ v u. counted_at l e v u c ∙ ap (λ (m : ℕ). length (neighbours_in (edges_to ls hs m) v)) z)
