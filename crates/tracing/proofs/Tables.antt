-- The two tables stand for what is left of the hem edges: the first at a position is its entry, and with its next in its place the
-- rest is what is left without it. Assumes nothing.
use mathlib.Core.Path.{◌≡◌, refl, sym, ap, ap₂, ◌∙◌, subst}
use mathlib.Core.Bool.{Bool, true, false}
use mathlib.Core.Option.{Option, none, some}
use mathlib.Core.List.{List, [], ◌∷◌, map}
use Prim.Native.Nat.{ℕ, zero, suc, ◌+◌, ◌≤◌, ◌<◌}
use native.Mathlib.Nat.{zero-add}
use native.Mathlib.Omega.{arith}
use lib.Dec.{leb, eqb}
use lib.ListN.{length, get_or, set, length-set}
use lib.Seq.{get_or-set_same, get_or-set_other}
use borrow.Author.Tests.{leb-true, le-leb, lt-leb, eqb-true, eqb-false, eq-eqb, ne_eqb}
use Rattle.lists.specs.Lists.{keep_if}
use Rattle.lists.proofs.Bools.{by_cases}
use Rattle.edges.specs.Edges.{Edge}
use Rattle.edges.proofs.SameEdge.{same_refl}
use Rattle.tracing.specs.Hems.{EdgeLists, outs, pairs}
use Rattle.tracing.specs.Following.{least_start_lem, without, entry}
use Rattle.tracing.specs.Tables.{left_from, left, Next, Linked}
use Rattle.tracing.proofs.Starts.{start_none, start_some}
use Rattle.tracing.proofs.Entries.{entry_none, entry_outs, start_le}

-- ---- hem edges as two lists

abbrev pub edge_at : List Edge → ℕ → Edge
edge_at h k = get_or h k (0, 0)

pub length_pairs : (ss es : List ℕ) → length ss ≡ length es → length (pairs ss es) ≡ length ss
length_pairs [] es l = refl
length_pairs (s ∷ ss) [] l = absurd (omega arith)
length_pairs (s ∷ ss) (e ∷ es) l = ap suc (length_pairs ss es (omega arith))

pub pairs_at : (ss es : List ℕ) (k : ℕ) → length ss ≡ length es → k < length ss → edge_at (pairs ss es) k ≡ (get_or ss k 0, get_or es k 0)
pairs_at [] es k l h = absurd (omega arith)
pairs_at (s ∷ ss) [] k l h = absurd (omega arith)
pairs_at (s ∷ ss) (e ∷ es) zero l h = refl
pairs_at (s ∷ ss) (e ∷ es) (suc k) l h = pairs_at ss es k (omega arith) (omega arith)

-- where each edge starts and where each ends
abbrev pub starts_of : List Edge → List ℕ
starts_of h = map (λ (e : Edge). e.0) h

abbrev pub ends_of : List Edge → List ℕ
ends_of h = map (λ (e : Edge). e.1) h

pub pairs_of : (h : List Edge) → pairs (starts_of h) (ends_of h) ≡ h
pairs_of [] = refl
pairs_of (e ∷ h) = ap (λ (g : List Edge). e ∷ g) (pairs_of h)

pub starts_of_lem : (ss es : List ℕ) → length ss ≡ length es → starts_of (pairs ss es) ≡ ss
starts_of_lem [] es l = refl
starts_of_lem (s ∷ ss) [] l = absurd (omega arith)
starts_of_lem (s ∷ ss) (e ∷ es) l = ap (λ (t : List ℕ). s ∷ t) (starts_of_lem ss es (omega arith))

-- ---- what a new first at c changes

module _ (firsts : List ℕ) (c x : ℕ) (inside : c < length firsts) where
  -- an edge that starts at c is left where x is not above its number, any other as before
  test_at : (s i : ℕ) → s ≡ c → leb (get_or (set firsts c x) s 0) i ≡ leb x i
  test_at s i e = ap (λ (n : ℕ). leb n i) (ap (λ (t : ℕ). get_or (set firsts c x) t 0) e ∙ get_or-set_same firsts c x 0 inside)

  test_off : (s i : ℕ) → (s ≡ c → ⊥) → leb (get_or (set firsts c x) s 0) i ≡ leb (get_or firsts s 0) i
  test_off s i n = ap (λ (n : ℕ). leb n i) (get_or-set_other firsts c s x 0 n)

  -- past both firsts, old and new, nothing changes
  same_later :
      (i : ℕ) (h : List Edge) → ((j : ℕ) → j < length h → (edge_at h j).0 ≡ c → (get_or firsts c 0 ≤ i + j) × (x ≤ i + j))
      → left_from (set firsts c x) i h ≡ left_from firsts i h
  same_later i [] f = refl
  same_later i (e ∷ h) f =
      ap₂ (λ (b : Bool) (l : List Edge). keep_if b e l)
      (by_cases (eqb e.0 c)
      (λ q.
      let z : e.0 ≡ c = eqb-true e.0 c q in
      let r : (get_or firsts c 0 ≤ i + 0) × (x ≤ i + 0) = f 0 (omega arith) z in
      test_at e.0 i z ∙ le-leb x i (omega (arith, r.1))
      ∙ sym (ap (λ (s : ℕ). leb (get_or firsts s 0) i) z ∙ le-leb (get_or firsts c 0) i (omega (arith, r.0))))
      (λ q. test_off e.0 i (eqb-false e.0 c q)))
      (same_later (suc i) h
      (λ j l q. let r : (get_or firsts c 0 ≤ i + suc j) × (x ≤ i + suc j) = f (suc j) (omega arith) q in (omega (arith, r.0), omega (arith, r.1))))

  -- the edge at place d of the list is the first at c, and x its next
  record First (i d : ℕ) (h : List Edge) : Type 0 where
    number : get_or firsts c 0 ≡ i + d
    within : d < length h
    starts : (edge_at h d).0 ≡ c
    later : i + d < x
    least : (j : ℕ) → d < j → j < length h → (edge_at h j).0 ≡ c → x ≤ i + j

  -- then it is the entry of c, and with x in its place it is gone
  record Took (i d : ℕ) (h : List Edge) : Type 0 where
    entered : entry c (left_from firsts i h) ≡ some (edge_at h d)
    gone : left_from (set firsts c x) i h ≡ without (edge_at h d) (left_from firsts i h)

  took_here : (i : ℕ) (e : Edge) (h : List Edge) → First i 0 (e ∷ h) → Took i 0 (e ∷ h)
  took_here i e h r =
      let s : e.0 ≡ c = r.starts in
      let old : leb (get_or firsts e.0 0) i ≡ true = ap (λ (t : ℕ). leb (get_or firsts t 0) i) s ∙ le-leb (get_or firsts c 0) i (omega (arith, r.number)) in
      let new : leb (get_or (set firsts c x) e.0 0) i ≡ false = test_at e.0 i s ∙ lt-leb x i (omega (arith, r.later)) in
      record {
        entered = rw (old, eq-eqb c e.0 (sym s));
        gone =
            rw (old, new, same_refl e)
            (same_later (suc i) h
            (λ j l q. let m : x ≤ i + suc j = r.least (suc j) (omega arith) (omega arith) q in (omega (arith, r.number), omega arith)));
      }

  took_keep : (d : Edge) (e : Edge) (b : Bool) (l l' : List Edge) → (e.0 ≡ c → ⊥) → d.0 ≡ c → entry c l ≡ some d → l' ≡ without d l
      → (entry c (keep_if b e l) ≡ some d) × (keep_if b e l' ≡ without d (keep_if b e l))
  took_keep d e true l l' n s p q =
      let a : eqb c e.0 ≡ false = ne_eqb c e.0 (λ z. n (sym z)) in
      let b : eqb d.0 e.0 ≡ false = ne_eqb d.0 e.0 (λ z. n (sym z ∙ s)) in
      (rw a p, rw (b, q))
  took_keep d e false l l' n s p q = (p, q)

  took : (i d : ℕ) (h : List Edge) → First i d h → Took i d h
  took i d [] r = absurd (omega (arith, r.within))
  took i zero (e ∷ h) r = took_here i e h r
  took i (suc d) (e ∷ h) r =
      let ih : Took (suc i) d h = took (suc i) d h (record {
        number = omega (arith, r.number);
        within = omega (arith, r.within);
        starts = r.starts;
        later = omega (arith, r.later);
        least = λ j a b q. let m : x ≤ i + suc j = r.least (suc j) (omega arith) (omega arith) q in omega arith;
      }) in
      by_cases (eqb e.0 c)
      (λ q.
      let z : e.0 ≡ c = eqb-true e.0 c q in
      let old : leb (get_or firsts e.0 0) i ≡ false = ap (λ (t : ℕ). leb (get_or firsts t 0) i) z ∙ lt-leb (get_or firsts c 0) i (omega (arith, r.number)) in
      let new : leb (get_or (set firsts c x) e.0 0) i ≡ false = test_at e.0 i z ∙ lt-leb x i (omega (arith, r.later)) in
      record { entered = rw old ih.entered; gone = rw (old, new) ih.gone })
      (λ q.
      let n : e.0 ≡ c → ⊥ = eqb-false e.0 c q in
      let t : leb (get_or (set firsts c x) e.0 0) i ≡ leb (get_or firsts e.0 0) i = test_off e.0 i n in
      let k =
      took_keep (edge_at h d) e (leb (get_or firsts e.0 0) i) (left_from firsts (suc i) h) (left_from (set firsts c x) (suc i) h)
      n r.starts ih.entered ih.gone in
      record { entered = k.0; gone = rw t k.1 })

-- ---- where no edge is left

none_from : (firsts : List ℕ) (c i : ℕ) (h : List Edge) → i + length h ≤ get_or firsts c 0 → entry c (left_from firsts i h) ≡ none
none_from firsts c i [] l = refl
none_from firsts c i (e ∷ h) l =
    go (leb (get_or firsts e.0 0) i) refl (none_from firsts c (suc i) h (omega arith))
  where
    go : (b : Bool) → leb (get_or firsts e.0 0) i ≡ b → entry c (left_from firsts (suc i) h) ≡ none → entry c (keep_if b e (left_from firsts (suc i) h)) ≡ none
    go true q ih =
        let n : eqb c e.0 ≡ false = ne_eqb c e.0 (λ z.
        let a : get_or firsts e.0 0 ≤ i = leb-true (get_or firsts e.0 0) i q in
        let b : get_or firsts c 0 ≡ get_or firsts e.0 0 = ap (λ (t : ℕ). get_or firsts t 0) z in
        omega arith) in
        rw n ih
    go false q ih = ih

empty_from : (firsts : List ℕ) (i : ℕ) (h : List Edge) → ((j : ℕ) → j < length h → i + j < get_or firsts (edge_at h j).0 0) → left_from firsts i h ≡ []
empty_from firsts i [] f = refl
empty_from firsts i (e ∷ h) f =
    let q : leb (get_or firsts e.0 0) i ≡ false = lt-leb (get_or firsts e.0 0) i (let l : i + 0 < get_or firsts e.0 0 = f 0 (omega arith) in omega arith) in
    rw q (empty_from firsts (suc i) h (λ j l. let m : i + suc j < get_or firsts (edge_at h j).0 0 = f (suc j) (omega arith) in omega arith))

-- ---- the tables as the functions have them

module _ (starts ends nexts firsts : List ℕ) (edges : EdgeLists starts ends (length firsts)) (linked : Linked starts nexts firsts) where
  count : length (pairs starts ends) ≡ length starts
  count = length_pairs starts ends edges.paired

  edge_at_lem : (k : ℕ) → k < length starts → edge_at (pairs starts ends) k ≡ (get_or starts k 0, get_or ends k 0)
  edge_at_lem k h = pairs_at starts ends k edges.paired h

  start_at : (k : ℕ) → k < length starts → (edge_at (pairs starts ends) k).0 ≡ get_or starts k 0
  start_at k h = ap (λ (e : Edge). e.0) (edge_at_lem k h)

  module _ (c : ℕ) (inside : c < length firsts) where
    -- the number of the first edge at c, and that of its next
    abbrev k : ℕ
    k = get_or firsts c 0

    abbrev x : ℕ
    x = get_or nexts k 0

    abbrev firsts' : List ℕ
    firsts' = set firsts c x

    -- none where the first is no edge's number
    pub none_left : length starts ≤ k → entry c (left starts ends firsts) ≡ none
    unfolding left
    none_left h = none_from firsts c 0 (pairs starts ends) (let l : length (pairs starts ends) ≡ length starts = count in omega arith)

    module _ (h : k < length starts) where
      its_start : get_or starts k 0 ≡ c
      its_start = linked.first c inside h

      its_next : Next starts k x
      its_next = linked.next k h (let e : get_or firsts (get_or starts k 0) 0 ≡ k = ap (λ (s : ℕ). get_or firsts s 0) its_start in omega arith)

      its_edge : edge_at (pairs starts ends) k ≡ (c, get_or ends k 0)
      its_edge = edge_at_lem k h ∙ ap (λ (s : ℕ). (s, get_or ends k 0)) its_start

      its_place : First firsts c x inside 0 k (pairs starts ends)
      its_place =
          let n : length (pairs starts ends) ≡ length starts = count in
          record {
            number = sym (zero-add k);
            within = omega arith;
            starts = start_at k h ∙ its_start;
            later = let l : k < x = its_next.later in omega arith;
            least =
                λ j a b q.
                let m : x ≤ j = its_next.least j a (omega arith) (sym (start_at j (omega arith)) ∙ q ∙ sym its_start) in
                omega arith;
          }

      -- the entry of c
      pub entry_left : entry c (left starts ends firsts) ≡ some (c, get_or ends k 0)
      unfolding left
      entry_left = (took firsts c x inside 0 k (pairs starts ends) its_place).entered ∙ ap some its_edge

      -- what is left without it
      pub gone_left : left starts ends firsts' ≡ without (c, get_or ends k 0) (left starts ends firsts)
      unfolding left
      gone_left =
          (took firsts c x inside 0 k (pairs starts ends) its_place).gone
          ∙ ap (λ (e : Edge). without e (left_from firsts 0 (pairs starts ends))) its_edge

      -- and the tables fit on
      here : (s : ℕ) → s ≡ c → get_or firsts' s 0 ≡ x
      here s e = ap (λ (t : ℕ). get_or firsts' t 0) e ∙ get_or-set_same firsts c x 0 inside

      there : (s : ℕ) → (s ≡ c → ⊥) → get_or firsts' s 0 ≡ get_or firsts s 0
      there s n = get_or-set_other firsts c s x 0 n

      first_on : (s : ℕ) → s < length firsts' → get_or firsts' s 0 < length starts → get_or starts (get_or firsts' s 0) 0 ≡ s
      first_on s a b =
          by_cases (eqb s c)
          (λ q.
          let e : s ≡ c = eqb-true s c q in
          let l : x < length starts = rw (here s e) at b in
          rw (here s e) (its_next.there l ∙ its_start ∙ sym e))
          (λ q.
          let e : get_or firsts' s 0 ≡ get_or firsts s 0 = there s (eqb-false s c q) in
          rw e (linked.first s (subst (λ (n : ℕ). s < n) (length-set firsts c x) a) (rw e at b)))

      still_left : (j : ℕ) → get_or firsts' (get_or starts j 0) 0 ≤ j → get_or firsts (get_or starts j 0) 0 ≤ j
      still_left j b =
          by_cases (eqb (get_or starts j 0) c)
          (λ q.
          let e : get_or starts j 0 ≡ c = eqb-true (get_or starts j 0) c q in
          let l : x ≤ j = rw (here (get_or starts j 0) e) at b in
          let m : k < x = its_next.later in
          let z : get_or firsts (get_or starts j 0) 0 ≡ k = ap (λ (s : ℕ). get_or firsts s 0) e in
          omega arith)
          (λ q. rw (there (get_or starts j 0) (eqb-false (get_or starts j 0) c q)) at b)

      pub linked_on : Linked starts nexts firsts'
      linked_on = record { room = linked.room; first = first_on; next = λ j a b. linked.next j a (still_left j b) }

  -- ---- the smallest start is the first position with an edge left; with none anywhere nothing is left

  pub least_left :
      (p : ℕ) → p < length firsts → ((s : ℕ) → s < p → length starts ≤ get_or firsts s 0) → get_or firsts p 0 < length starts
      → least_start_lem (left starts ends firsts) ≡ some p
  least_left p a f h = go (least_start_lem (left starts ends firsts)) refl
    where
      some_there : 0 < outs p (left starts ends firsts)
      some_there = entry_outs p (left starts ends firsts) (p, get_or ends (get_or firsts p 0) 0) (entry_left p a h)

      go : (o : Option ℕ) → least_start_lem (left starts ends firsts) ≡ o → least_start_lem (left starts ends firsts) ≡ some p
      go none q =
          absurd
          (let z : outs p (left starts ends firsts) ≡ 0 = ap (outs p) (start_none (left starts ends firsts) q) in
          let y : 0 < outs p (left starts ends firsts) = some_there in
          omega arith)
      go (some s) q =
          let l : s ≤ p = start_le (left starts ends firsts) s p q some_there in
          let y : 0 < outs s (left starts ends firsts) = start_some (left starts ends firsts) s q in
          q ∙ ap some (by_cases (eqb s p) (λ e. eqb-true s p e) (λ e.
          let n : s ≡ p → ⊥ = eqb-false s p e in
          let i : entry s (left starts ends firsts) ≡ none = none_left s (omega arith) (f s (omega arith)) in
          let z : outs s (left starts ends firsts) ≡ 0 = entry_none s (left starts ends firsts) i in
          absurd (omega arith)))

  pub left_none : ((s : ℕ) → s < length firsts → length starts ≤ get_or firsts s 0) → left starts ends firsts ≡ []
  unfolding left
  left_none f =
      empty_from firsts 0 (pairs starts ends) (λ j l.
      let n : length (pairs starts ends) ≡ length starts = count in
      let s : (edge_at (pairs starts ends) j).0 ≡ get_or starts j 0 = start_at j (omega arith) in
      let m : length starts ≤ get_or firsts (get_or starts j 0) 0 = f (get_or starts j 0) (edges.from j (omega arith)) in
      rw s (omega arith))
