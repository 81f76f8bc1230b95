-- The pass over the uses: after x of them the rows hold them. Assumes nothing.
use Rattle.std.proofs.Common.{◌≡◌, refl, sym, ap, ap₂, ◌∙◌, subst, Bool, true, false, cond, List, [], ◌∷◌, ◌++◌, ℕ, ◌+◌, ◌≤◌, ◌<◌, zero-add, add-one, arith, eqb, eqb-true, length, get_or}
use Rattle.std.proofs.Common.{take, drop, set, length-append, take-suc, length-take-le, get_or-take, get_or-drop, get_or-append-add}
use borrow.Author.Tests.{eqb-false}
use lib.ListN.{length-map, get_or-append}
use lib.Seq.{sets, length-sets, take-length, set-append_left}
use Rattle.lists.specs.Lists.{some}
use Rattle.lists.proofs.Buckets.{length_table, table_at}
use Rattle.lists.proofs.Changing.{map_at}
use Rattle.lists.proofs.Parts.{some_none, some_true_at}
use Rattle.lists.proofs.Writing.{sets_snoc, sets_front}
use Rattle.mesh.specs.Limits.{corner_limit}
use Rattle.verdicts.specs.Edges.{Edge, same}
use Rattle.verdicts.proofs.SameEdge.{same_true}
use Rattle.smoothed.specs.Smoothed.{place}
use Rattle.smoothed.specs.Around.{Use}
use Rattle.smoothed.proofs.Places.{place_below}
use Rattle.sides.specs.Sides.{edge_at, FirstUse}
use Rattle.numbering.specs.Numbering.{Rows, Long}
use Rattle.numbering.specs.Steps.{edges_in, wings_in, each_edge, first_of, last_of, numbers_in, lowers_in, highers_in, Laid, use_at, uses_in, Marks, is_first, number_at, begun, met, Takeable, Taken}
use Rattle.numbering.proofs.OneUse.{edges_few, edge_used, wings_few, edges_new}
use Rattle.numbering.proofs.OneUse.{numbers_new, lowers_new, highers_new, each_new, edges_old, numbers_old, lowers_old, highers_old, each_at, firsts_old, lasts_old, counts_old}

-- ---- what is written from the front on

-- one number more behind
written_behind : (l₀ l a a' : List ℕ) (i v : ℕ) → l ≡ sets l₀ 0 a → i ≡ length a → a' ≡ a ++ (v ∷ []) → set l i v ≡ sets l₀ 0 a'
written_behind l₀ l a a' i v e n q =
    ap₂ (λ (t : List ℕ) (j : ℕ). set t j v) e (n ∙ sym (zero-add (length a))) ∙ sym (sets_snoc l₀ 0 a v) ∙ ap (sets l₀ 0) (sym q)

-- one number changed
written_at :
    (l₀ l a a' : List ℕ) (i v : ℕ) → l ≡ sets l₀ 0 a → length a ≤ length l₀ → i < length a → a' ≡ set a i v → length a' ≡ length a
    → set l i v ≡ sets l₀ 0 a'
written_at l₀ l a a' i v e f h q m =
    ap (λ (t : List ℕ). set t i v) (e ∙ sets_front l₀ a f)
    ∙ set-append_left a (drop (length a) l₀) i v h
    ∙ ap₂ (λ (t : List ℕ) (n : ℕ). t ++ drop n l₀) (sym q) (sym m)
    ∙ sym (sets_front l₀ a' (omega arith))

-- what stands there, and behind
written_in : (l₀ l a : List ℕ) (i : ℕ) → l ≡ sets l₀ 0 a → length a ≤ length l₀ → i < length a → get_or l i 0 ≡ get_or a i 0
written_in l₀ l a i e f h =
    ap (λ (t : List ℕ). get_or t i 0) (e ∙ sets_front l₀ a f) ∙ get_or-append a (drop (length a) l₀) 0 i h

written_past : (l₀ l a : List ℕ) → l ≡ sets l₀ 0 a → length a ≤ length l₀ → get_or l (length a) 0 ≡ get_or l₀ (length a) 0
written_past l₀ l a e f =
    let z : length a ≡ length a + 0 = omega arith in
    ap (λ (t : List ℕ). get_or t (length a) 0) (e ∙ sets_front l₀ a f)
    ∙ ap (λ (i : ℕ). get_or (a ++ drop (length a) l₀) i 0) z
    ∙ get_or-append-add a (drop (length a) l₀) 0 0
    ∙ get_or-drop (length a) l₀ 0 0
    ∙ ap (λ (i : ℕ). get_or l₀ i 0) (sym z)

-- ---- how long the rows are that the uses have

module _ (us : List Use) where
  pub numbers_long : length (numbers_in us) ≡ length us
  unfolding numbers_in
  numbers_long = length-map us (λ (u : Use). place (edges_in us) u.0)

  lowers_long : length (lowers_in us) ≡ length (edges_in us)
  unfolding lowers_in
  lowers_long = length-map (edges_in us) (λ (k : Edge). k.0)

  highers_long : length (highers_in us) ≡ length (edges_in us)
  unfolding highers_in
  highers_long = length-map (edges_in us) (λ (k : Edge). k.1)

  each_long : (f : List ℕ → ℕ) → length (each_edge f us) ≡ length (edges_in us)
  each_long f = length-map (edges_in us) (λ k. f (wings_in us k))

-- ---- one use more

module _ (us : List Use) (u : Use) (b₀ b : Rows) (k n : ℕ) (l : Laid us b₀ b k) where
  laid_new : some (same u.0) (edges_in us) ≡ false → Laid (us ++ (u ∷ [])) b₀ (begun b (length us) k u) (k + 1)
  laid_new h = record {
    count = (let e : length (edges_in us ++ (u.0 ∷ [])) ≡ length (edges_in us) + 1 = length-append (edges_in us) (u.0 ∷ []) in
        ap (λ (m : ℕ). m + 1) l.count ∙ sym e ∙ ap length (sym (edges_new us u h)));
    numbers = written_behind _ _ (numbers_in us) _ _ _ l.numbers (sym (numbers_long us)) (numbers_new us u h ∙ ap (λ (m : ℕ). numbers_in us ++ (m ∷ [])) (sym l.count));
    lowers = written_behind _ _ (lowers_in us) _ _ _ l.lowers (l.count ∙ sym (lowers_long us)) (lowers_new us u h);
    highers = written_behind _ _ (highers_in us) _ _ _ l.highers (l.count ∙ sym (highers_long us)) (highers_new us u h);
    firsts = written_behind _ _ (each_edge first_of us) _ _ _ l.firsts (l.count ∙ sym (each_long us first_of)) (each_new us u h first_of);
    seconds = written_behind _ _ (each_edge last_of us) _ _ _ l.seconds (l.count ∙ sym (each_long us last_of)) (each_new us u h last_of);
    wings = written_behind _ _ (each_edge length us) _ _ _ l.wings (l.count ∙ sym (each_long us length)) (each_new us u h length);
  }

  laid_old :
      some (same u.0) (edges_in us) ≡ true → n ≡ place (edges_in us) u.0 → Long b₀ (length b₀.numbers) → length us < length b₀.numbers
      → Laid (us ++ (u ∷ [])) b₀ (met b (length us) n u) k
  laid_old h e g s = record {
    count = l.count ∙ ap length (sym (edges_old us u h));
    numbers = written_behind _ _ (numbers_in us) _ _ _ l.numbers (sym (numbers_long us)) (numbers_old us u h ∙ ap (λ (m : ℕ). numbers_in us ++ (m ∷ [])) (sym e));
    lowers = l.lowers ∙ ap (sets b₀.lowers 0) (sym (lowers_old us u h));
    highers = l.highers ∙ ap (sets b₀.highers 0) (sym (highers_old us u h));
    firsts = l.firsts ∙ ap (sets b₀.firsts 0) (sym (firsts_old us u h));
    seconds = at_place last_of b₀.seconds b.seconds u.1 l.seconds g.seconds (lasts_old us u h);
    wings = at_place length b₀.wings b.wings (get_or b.wings n 0 + 1) l.wings g.wings (counts_old us u h ∙ ap (set (each_edge length us) (place (edges_in us) u.0)) counted);
  }
    where
      below : place (edges_in us) u.0 < length (edges_in us)
      below = place_below (edges_in us) u.0 h

      few : length (edges_in us) ≤ length us
      few = edges_few us

      fits : (f : List ℕ → ℕ) (r : List ℕ) → length r ≡ length b₀.numbers → length (each_edge f us) ≤ length r
      fits f r q = let m : length (each_edge f us) ≡ length (edges_in us) = each_long us f in omega (arith, few, s)

      inside : (f : List ℕ → ℕ) → n < length (each_edge f us)
      inside f = let m : length (each_edge f us) ≡ length (edges_in us) = each_long us f in omega (arith, below, e)

      counted : get_or (each_edge length us) (place (edges_in us) u.0) 0 + 1 ≡ get_or b.wings n 0 + 1
      counted =
          ap (λ (m : ℕ). m + 1)
          (ap (λ (i : ℕ). get_or (each_edge length us) i 0) (sym e)
          ∙ sym (written_in b₀.wings b.wings (each_edge length us) n l.wings (fits length b₀.wings g.wings) (inside length)))

      at_place :
          (f : List ℕ → ℕ) (r₀ r : List ℕ) (v : ℕ) → r ≡ sets r₀ 0 (each_edge f us) → length r₀ ≡ length b₀.numbers
          → each_edge f (us ++ (u ∷ [])) ≡ set (each_edge f us) (place (edges_in us) u.0) v → set r n v ≡ sets r₀ 0 (each_edge f (us ++ (u ∷ [])))
      at_place f r₀ r v w q c =
          written_at r₀ r (each_edge f us) (each_edge f (us ++ (u ∷ []))) n v w (fits f r₀ q) (inside f)
          (c ∙ ap (λ (i : ℕ). set (each_edge f us) i v) (sym e))
          (each_long (us ++ (u ∷ [])) f ∙ ap length (edges_old us u h) ∙ sym (each_long us f))

-- ---- the uses by their columns

module _ (lower higher wing : List ℕ) where
  pub uses_long : length (uses_in lower higher wing) ≡ length lower
  unfolding uses_in
  uses_long = length_table (use_at lower higher wing) (length lower)

  pub use_at_lem : (x : ℕ) → x < length lower → get_or (uses_in lower higher wing) x ((0, 0), 0) ≡ use_at lower higher wing x
  unfolding uses_in
  use_at_lem x h = table_at (use_at lower higher wing) (length lower) x ((0, 0), 0) h

  -- the first x of them
  abbrev upto : ℕ → List Use
  upto x = take x (uses_in lower higher wing)

  upto_long : (x : ℕ) → x ≤ length lower → length (upto x) ≡ x
  upto_long x h = length-take-le x (uses_in lower higher wing) (omega (arith, uses_long))

  upto_more : (x : ℕ) → x < length lower → upto (x + 1) ≡ upto x ++ (use_at lower higher wing x ∷ [])
  upto_more x h =
      ap upto (add-one x)
      ∙ take-suc (uses_in lower higher wing) x ((0, 0), 0) (omega (arith, uses_long))
      ∙ ap (λ (u : Use). upto x ++ (u ∷ [])) (use_at_lem x h)

  upto_at : (x y : ℕ) → x ≤ length lower → y < x → (get_or (upto x) y ((0, 0), 0)).0 ≡ edge_at lower higher y
  upto_at x y h l =
      ap (λ (u : Use). u.0) (get_or-take x (uses_in lower higher wing) y ((0, 0), 0) l ∙ use_at_lem y (omega arith))

  -- the edge of use x is new where it is its first use, and else it is there
  module _ (x f : ℕ) (h : x < length lower) (m : FirstUse lower higher x f) where
    edge_new : f ≡ x → some (same (edge_at lower higher x)) (edges_in (upto x)) ≡ false
    edge_new e =
        edge_used (upto x) (edge_at lower higher x)
        ∙ some_none (λ (u : Use). same (edge_at lower higher x) u.0) ((0, 0), 0) (upto x)
        (λ y l.
        let n : length (upto x) ≡ x = upto_long x (omega arith) in
        ap (same (edge_at lower higher x)) (upto_at x y (omega arith) (omega arith)) ∙ m.none y (omega arith))

    edge_old : f < x → some (same (edge_at lower higher x)) (edges_in (upto x)) ≡ true
    edge_old l =
        let n : length (upto x) ≡ x = upto_long x (omega arith) in
        edge_used (upto x) (edge_at lower higher x)
        ∙ some_true_at (λ (u : Use). same (edge_at lower higher x) u.0) ((0, 0), 0) (upto x) f (omega arith)
        (ap (same (edge_at lower higher x)) (upto_at x f (omega arith) l) ∙ m.again)

    -- the first use has its number
    number_old : f < x → get_or (numbers_in (upto x)) f 0 ≡ place (edges_in (upto x)) (edge_at lower higher x)
    unfolding numbers_in
    number_old l =
        let n : length (upto x) ≡ x = upto_long x (omega arith) in
        map_at (λ (u : Use). place (edges_in (upto x)) u.0) ((0, 0), 0) 0 (upto x) f (omega arith)
        ∙ ap (place (edges_in (upto x))) (upto_at x f (omega arith) l ∙ sym (same_true (edge_at lower higher x) (edge_at lower higher f) m.again))

-- ---- the loop

-- the first x uses are laid
pub record Laying (lower higher wing : List ℕ) (b₀ b : Rows) (x k : ℕ) : Type 0 where
  pub within : x ≤ length lower
  pub laid : Laid (take x (uses_in lower higher wing)) b₀ b k

module _ {us : List Use} {b₀ b : Rows} {k : ℕ} (l : Laid us b₀ b k) where
  -- no row changes its length
  pub laid_long : (u : ℕ) → Long b₀ u → Long b u
  laid_long u g = record {
    numbers = ap length l.numbers ∙ length-sets b₀.numbers 0 (numbers_in us) ∙ g.numbers;
    lowers = ap length l.lowers ∙ length-sets b₀.lowers 0 (lowers_in us) ∙ g.lowers;
    highers = ap length l.highers ∙ length-sets b₀.highers 0 (highers_in us) ∙ g.highers;
    firsts = ap length l.firsts ∙ length-sets b₀.firsts 0 (each_edge first_of us) ∙ g.firsts;
    seconds = ap length l.seconds ∙ length-sets b₀.seconds 0 (each_edge last_of us) ∙ g.seconds;
    wings = ap length l.wings ∙ length-sets b₀.wings 0 (each_edge length us) ∙ g.wings;
  }

module _ (lower higher wing : List ℕ) (b₀ : Rows) where
  pub lay_begins : Laying lower higher wing b₀ b₀ 0 0
  unfolding edges_in numbers_in lowers_in highers_in
  lay_begins = record {
    within = omega arith;
    laid = record { count = refl; numbers = refl; lowers = refl; highers = refl; firsts = refl; seconds = refl; wings = refl };
  }

  module _ (m : Marks lower higher wing b₀) (b : Rows) (x k : ℕ) (r : Laying lower higher wing b₀ b x k) where
    pub lay_ends : length lower ≤ x → Laid (uses_in lower higher wing) b₀ b k
    lay_ends h =
        let e : x ≡ length (uses_in lower higher wing) = omega (arith, r.within, uses_long lower higher wing) in
        subst (λ (us : List Use). Laid us b₀ b k)
        (ap (λ (n : ℕ). take n (uses_in lower higher wing)) e ∙ take-length (uses_in lower higher wing))
        r.laid

    -- the uses that are laid, and the next one
    abbrev seen : List Use
    seen = take x (uses_in lower higher wing)

    abbrev next : Use
    next = use_at lower higher wing x

    module _ (h : x < length lower) where
      n_long : length (numbers_in seen) ≡ x
      n_long = numbers_long seen ∙ upto_long lower higher wing x r.within

      n_fits : length (numbers_in seen) ≤ length b₀.numbers
      n_fits = omega (arith, n_long, m.long.numbers)

      -- use x has its mark still
      mark_is : get_or b.numbers x 0 ≡ get_or b₀.numbers x 0
      mark_is =
          ap (λ (i : ℕ). get_or b.numbers i 0) (sym n_long)
          ∙ written_past b₀.numbers b.numbers (numbers_in seen) r.laid.numbers n_fits
          ∙ ap (λ (i : ℕ). get_or b₀.numbers i 0) n_long

      first : FirstUse lower higher x (get_or b.numbers x 0)
      first = subst (FirstUse lower higher x) (sym mark_is) (m.marked.first x h)

      -- and the number of its edge, where it has one
      number_is : get_or b.numbers x 0 < x → number_at b x ≡ place (edges_in seen) (edge_at lower higher x)
      number_is l =
          written_in b₀.numbers b.numbers (numbers_in seen) (get_or b.numbers x 0) r.laid.numbers n_fits
          (omega (arith, n_long))
          ∙ number_old lower higher wing x (get_or b.numbers x 0) h first l

      count_few : k ≤ x
      count_few =
          omega (arith, r.laid.count, edges_few seen, upto_long lower higher wing x r.within)

      earlier : (get_or b.numbers x 0 ≡ x → ⊥) → get_or b.numbers x 0 < x
      earlier ne = omega (arith, first.upto)

      pub lay_takes : Takeable x k lower higher wing b
      lay_takes = record {
        inside = h;
        few = m.few;
        higher_long = m.higher_long;
        wing_long = m.wing_long;
        long = laid_long r.laid (length lower) m.long;
        counted = count_few;
        upto = first.upto;
        known = λ ne. known (earlier ne);
        fewer = λ ne. fewer (earlier ne);
      }
        where
          there : get_or b.numbers x 0 < x → some (same (edge_at lower higher x)) (edges_in seen) ≡ true
          there l = edge_old lower higher wing x (get_or b.numbers x 0) h first l

          known : get_or b.numbers x 0 < x → number_at b x < length lower
          known l =
              omega (
                arith,
                number_is l,
                place_below (edges_in seen) (edge_at lower higher x) (there l),
                r.laid.count,
                count_few,
              )

          fewer : get_or b.numbers x 0 < x → get_or b.wings (number_at b x) 0 ≤ corner_limit
          fewer l =
              let c : length (each_edge length seen) ≡ length (edges_in seen) = each_long seen length in
              let p : place (edges_in seen) (edge_at lower higher x) < length (edges_in seen) = place_below (edges_in seen) (edge_at lower higher x) (there l) in
              let e : get_or b.wings (number_at b x) 0 ≡ length (wings_in seen (edge_at lower higher x)) =
              ap (λ (i : ℕ). get_or b.wings i 0) (number_is l)
              ∙ written_in b₀.wings b.wings (each_edge length seen) (place (edges_in seen) (edge_at lower higher x)) r.laid.wings
              (omega (arith, edges_few seen, upto_long lower higher wing x r.within, m.long.wings)) (omega arith)
              ∙ each_at seen (edge_at lower higher x, 0) (there l) length in
              omega (arith, wings_few seen (edge_at lower higher x), upto_long lower higher wing x r.within, m.few)

      -- one use more
      pub lay_turns : (b' : Rows) (k' : ℕ) → Taken x k next b b' k' → Laying lower higher wing b₀ b' (x + 1) k'
      lay_turns b' k' t = record {
        within = omega arith;
        laid =
            subst (λ (us : List Use). Laid us b₀ b' k') (sym (upto_more lower higher wing x h))
            (go (is_first b x) refl t.is t.count);
      }
        where
          long : length seen ≡ x
          long = upto_long lower higher wing x r.within

          go :
              (c : Bool) → eqb (get_or b.numbers x 0) x ≡ c
              → b' ≡ cond c (begun b x k next) (met b x (number_at b x) next) → k' ≡ cond c (k + 1) k
              → Laid (seen ++ (next ∷ [])) b₀ b' k'
          go true e p q =
              rw (p, q)
              (subst (λ (i : ℕ). Laid (seen ++ (next ∷ [])) b₀ (begun b i k next) (k + 1)) long
              (laid_new seen next b₀ b k 0 r.laid
              (edge_new lower higher wing x (get_or b.numbers x 0) h first (eqb-true (get_or b.numbers x 0) x e))))
          go false e p q =
              let l : get_or b.numbers x 0 < x = earlier (eqb-false (get_or b.numbers x 0) x e) in
              rw (p, q)
              (subst (λ (i : ℕ). Laid (seen ++ (next ∷ [])) b₀ (met b i (number_at b x) next) k) long
              (laid_old seen next b₀ b k (number_at b x) r.laid
              (edge_old lower higher wing x (get_or b.numbers x 0) h first l) (number_is l)
              (subst (Long b₀) (sym m.long.numbers) m.long)
              (omega (arith, long, m.long.numbers))))
