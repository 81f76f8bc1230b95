-- All uses of triangles: the rows are those of the rules, and so is what the call asks. Assumes nothing.
use Rattle.std.proofs.Common.{◌≡◌, sym, ap, ◌∙◌, subst, List, map, ℕ, ◌*◌, ◌/◌, ◌<◌, arith, length, get_or, take, replicate}
use mathlib.Core.List.{map-map}
use lib.ListN.{length-map, get_or-map}
use lib.Seq.{sets}
use Rattle.lists.specs.Lists.{each}
use Rattle.lists.proofs.Buckets.{length_front, table_ext}
use Rattle.lists.proofs.Copies.{sets_whole}
use Rattle.lists.proofs.Mapping.{map_each}
use Rattle.mesh.specs.Limits.{width, entry_limit, corner_limit}
use Rattle.mesh.specs.Mesh.{Ring}
use Rattle.verdicts.specs.Edges.{Edge}
use Rattle.smoothed.specs.Smoothed.{first_uses, edges_by_use, place}
use Rattle.smoothed.specs.Around.{Use, uses_of, wings}
use Rattle.smoothed.specs.Columns.{Triangular, triangles, edge_numbers, edge_lowers, edge_highers, edge_firsts, edge_seconds, edge_wings}
use Rattle.sides.specs.Sides.{lower_of, higher_of, wing_of, SideRoom, Sides, EdgeColumns, Marked}
use Rattle.sides.proofs.Marks.{columns_ready}
use Rattle.numbering.specs.Numbering.{Rows, rows, Long, Numberable, Numbered}
use Rattle.numbering.specs.Steps.{edges_in, wings_in, each_edge, first_of, last_of, numbers_in, lowers_in, highers_in, Laid, use_at, uses_in, Marks}
use Rattle.numbering.proofs.Laying.{numbers_long}

-- the uses come back from their columns
uses_back : (us : List Use) → uses_in (map lower_of us) (map higher_of us) (map wing_of us) ≡ us
unfolding uses_in
uses_back us =
    let n : length (map lower_of us) ≡ length us = length-map us lower_of in
    sym (table_ext (use_at (map lower_of us) (map higher_of us) (map wing_of us)) (length (map lower_of us)) ((0, 0), 0) us (sym n)
    (λ x h.
    λ i. (
      (sym (get_or-map lower_of us x ((0, 0), 0)) i, sym (get_or-map higher_of us x ((0, 0), 0)) i),
      sym (get_or-map wing_of us x ((0, 0), 0)) i,
    )))

-- rows of one number for each use, to work in
pub record WorkRoom (cs lower higher wing : List ℕ) (r : Rows) : Type 0 where
  pub room : SideRoom cs lower higher wing
  pub long : Long r (length cs / width)

module _ (fs : List Ring) where
  edges_all : edges_in (each uses_of fs) ≡ edges_by_use fs
  unfolding edges_in edges_by_use
  edges_all = ap first_uses (map_each (λ (u : Use). u.0) uses_of fs)

  numbers_all : numbers_in (each uses_of fs) ≡ edge_numbers fs
  unfolding numbers_in edge_numbers
  numbers_all =
      ap (λ (ks : List Edge). map (λ (u : Use). place ks u.0) (each uses_of fs)) edges_all
      ∙ sym (map-map (place (edges_by_use fs)) (λ (u : Use). u.0) (each uses_of fs))
      ∙ ap (map (place (edges_by_use fs))) (map_each (λ (u : Use). u.0) uses_of fs)

  lowers_all : lowers_in (each uses_of fs) ≡ edge_lowers fs
  unfolding lowers_in edge_lowers
  lowers_all = ap (map (λ (k : Edge). k.0)) edges_all

  highers_all : highers_in (each uses_of fs) ≡ edge_highers fs
  unfolding highers_in edge_highers
  highers_all = ap (map (λ (k : Edge). k.1)) edges_all

  each_all : (f : List ℕ → ℕ) → each_edge f (each uses_of fs) ≡ map (λ k. f (wings fs k)) (edges_by_use fs)
  unfolding wings_in wings
  each_all f = ap (map (λ k. f (wings_in (each uses_of fs) k))) edges_all

  -- so the rows of all uses are the rows of the rules
  laid_all : (b a : Rows) (k : ℕ) → length b.numbers ≡ length (each uses_of fs) → Laid (each uses_of fs) b a k → Numbered fs b a k
  unfolding edge_firsts edge_seconds edge_wings
  laid_all b a k n l = record {
    count = l.count ∙ ap length edges_all;
    numbers = l.numbers ∙ sets_whole b.numbers (numbers_in (each uses_of fs)) (long ∙ sym n) ∙ numbers_all;
    lowers = l.lowers ∙ ap (sets b.lowers 0) lowers_all;
    highers = l.highers ∙ ap (sets b.highers 0) highers_all;
    firsts = l.firsts ∙ ap (sets b.firsts 0) (each_all first_of);
    seconds = l.seconds ∙ ap (sets b.seconds 0) (each_all last_of);
    wings = l.wings ∙ ap (sets b.wings 0) (each_all length);
  }
    where
      long : length (numbers_in (each uses_of fs)) ≡ length (each uses_of fs)
      long = numbers_long (each uses_of fs)

-- ---- the call

module _
    (cs lower₀ higher₀ wing₀ : List ℕ)
    (b : Rows)
    (w : WorkRoom cs lower₀ higher₀ wing₀ b)
    (lower higher wing : List ℕ)
    (s : Sides (triangles cs) lower higher wing)
  where
    abbrev us : List Use
    us = each uses_of (triangles cs)

    pub mark_ready : EdgeColumns lower higher b.numbers
    mark_ready = columns_ready cs w.room.triangular lower higher wing b.numbers s w.long.numbers

    column_long : length lower ≡ length cs / width
    column_long = sym mark_ready.firsts_long ∙ w.long.numbers

    lower_long : length lower ≡ length us
    lower_long = ap length s.lower_is ∙ length-map us lower_of

    module _ (marks : List ℕ) (m : Marked lower higher marks) where
      -- the rows as the pass over the uses finds them
      abbrev marked : Rows
      marked = rows marks b.lowers b.highers b.firsts b.seconds b.wings

      pub marks_ready : Marks lower higher wing marked
      marks_ready = record {
        few = mark_ready.few;
        higher_long = mark_ready.higher_long;
        wing_long = ap length s.wing_is ∙ length-map us wing_of ∙ sym lower_long;
        long = record {
          numbers = m.long;
          lowers = w.long.lowers ∙ sym column_long;
          highers = w.long.highers ∙ sym column_long;
          firsts = w.long.firsts ∙ sym column_long;
          seconds = w.long.seconds ∙ sym column_long;
          wings = w.long.wings ∙ sym column_long;
        };
        marked = m;
      }

      pub all_numbered : (a : Rows) (k : ℕ) → Laid (uses_in lower higher wing) marked a k → Numbered (triangles cs) b a k
      all_numbered a k l =
          let e : uses_in lower higher wing ≡ us = (λ i. uses_in (s.lower_is i) (s.higher_is i) (s.wing_is i)) ∙ uses_back us in
          let r : Numbered (triangles cs) marked a k =
          laid_all (triangles cs) marked a k (m.long ∙ lower_long) (subst (λ (vs : List Use). Laid vs marked a k) e l) in
          record {
            count = r.count;
            numbers = r.numbers;
            lowers = r.lowers;
            highers = r.highers;
            firsts = r.firsts;
            seconds = r.seconds;
            wings = r.wings;
          }

-- ---- what the call asks

-- triangles over n positions are triangles over as many as there may be
pub triangular_any : {cs : List ℕ} {n : ℕ} → Triangular cs n → Triangular cs entry_limit
triangular_any {cs} {n} t = record {
  whole = t.whole;
  few = t.few;
  entries = omega arith;
  below = λ k h. (let b : get_or cs (width * k) 0 < n = t.below k h in omega (arith, t.entries));
}

-- the fronts of rows of fixed length

module _ (cs : List ℕ) (b : Rows) (n : Numberable cs b) where
  pub row_long : length (take {A = ℕ} (length cs / width) (replicate corner_limit 0)) ≡ length cs / width
  row_long = length_front 0 (length cs / width) corner_limit (omega (arith, n.triangular.few))

  abbrev row : List ℕ
  row = take (length cs / width) (replicate corner_limit 0)

  pub work_ready : WorkRoom cs row row row b
  work_ready = record {
    room = record { triangular = n.triangular; lower_long = row_long; higher_long = row_long; wing_long = row_long };
    long = n.long;
  }
