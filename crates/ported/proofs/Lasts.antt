-- Ported wires by the first table: with the last hem edge at each position it stands for the map from start to end, in which a later
-- edge has replaced an earlier with the same start. Assumes nothing.
use mathlib.Core.Path.{◌≡◌, refl, sym, ap, ap₂, ◌∙◌, subst}
use mathlib.Core.Bool.{true}
use mathlib.Core.Logic.{⊎_elim}
use mathlib.Core.List.{List, [], ◌∷◌, ◌++◌, append_assoc, append-nil}
use Prim.Native.Nat.{ℕ, suc, ◌+◌, ◌≤◌, ◌<◌}
use native.Mathlib.Nat.{eq-or-lt_of_le}
use native.Mathlib.Numerals.{add-one}
use native.Mathlib.Omega.{arith}
use lib.Dec.{leb, eqb}
use lib.ListN.{length, get_or, set, replicate, length-set, length-append, length-replicate, get_or-replicate, get_or-append}
use lib.Seq.{get_or-set_same, get_or-set_other, get_or_at}
use borrow.Author.Tests.{le-leb, eqb-true, eqb-false}
use Rattle.lists.proofs.Bools.{by_cases}
use Rattle.lists.proofs.Only.{only_append}
use Rattle.mesh.specs.Limits.{entry_limit}
use Rattle.edges.specs.Edges.{Edge}
use Rattle.tracing.specs.Hems.{EdgeLists, pairs}
use Rattle.ported.specs.Ported.{fill, ported_wires}
use Rattle.tracing.specs.Tables.{left_from, left, Stands, nobody}
use Rattle.ported.specs.Keeping.{numbered}
use Rattle.tracing.specs.Tracing.{traces}
use Rattle.tracing.proofs.Entries.{traces_enough}
use Rattle.tracing.proofs.Tables.{edge_at, length_pairs, pairs_at, starts_of, starts_of_lem}
use Rattle.tracing.proofs.AllWires.{left_few}
use Rattle.tracing.proofs.Twins.{from, Twin, twin_traces}
use Rattle.ported.proofs.Replacing.{put_at, put_off, fill_snoc, fill_climbs, left_append, set_off, set_at}

-- ---- the table with the last edge at each position, and the map, after the edges d

pub record Lasts (n : ℕ) (d : List Edge) (firsts : List ℕ) : Type 0 where
  pub long : length firsts ≡ n
  pub highest : (j : ℕ) → j < length d → j ≤ get_or firsts (edge_at d j).0 0
  pub named : (s : ℕ) → s < n → get_or firsts s 0 < nobody → (get_or firsts s 0 < length d) × ((edge_at d (get_or firsts s 0)).0 ≡ s)
  pub twin : Twin (fill [] d) (left_from firsts 0 d)

pub lasts_begin : (n : ℕ) → Lasts n [] (replicate n nobody)
lasts_begin n =
    record {
      long = length-replicate n nobody;
      highest = λ j h. absurd (omega arith);
      named = λ s h l. absurd (let e : get_or (replicate n nobody) s 0 ≡ nobody = get_or-replicate n s nobody 0 h in omega arith);
      twin = record { at = λ s. refl };
    }

module _ (n : ℕ) (d : List Edge) (firsts : List ℕ) (r : Lasts n d firsts) (e : Edge) (inside : e.0 < n) where
  -- the edges and the table with e
  abbrev d' : List Edge
  d' = d ++ (e ∷ [])

  abbrev firsts' : List ℕ
  firsts' = set firsts e.0 (length d)

  within : e.0 < length firsts
  within = rw r.long inside

  longer_by : length d' ≡ length d + 1
  longer_by = length-append d (e ∷ [])

  old : (j : ℕ) → j < length d → edge_at d' j ≡ edge_at d j
  old j h = get_or-append d (e ∷ []) (0, 0) j h

  new : edge_at d' (length d) ≡ e
  new = get_or_at d e [] (0, 0) (length d) refl

  at_start : get_or firsts' e.0 0 ≡ length d
  at_start = get_or-set_same firsts e.0 (length d) 0 within

  off_start : (s : ℕ) → (s ≡ e.0 → ⊥) → get_or firsts' s 0 ≡ get_or firsts s 0
  off_start s q = get_or-set_other firsts e.0 s (length d) 0 q

  higher_old : (j : ℕ) → j < length d → j ≤ get_or firsts' (edge_at d' j).0 0
  higher_old j l =
      rw (old j l)
      (by_cases (eqb (edge_at d j).0 e.0)
      (λ q. rw (eqb-true (edge_at d j).0 e.0 q, at_start) (omega arith))
      (λ q. rw (off_start (edge_at d j).0 (eqb-false (edge_at d j).0 e.0 q)) (r.highest j l)))

  higher : (j : ℕ) → j < length d' → j ≤ get_or firsts' (edge_at d' j).0 0
  higher j h =
      ⊎_elim
      (λ q.
      let z : get_or firsts' (edge_at d' j).0 0 ≡ length d =
      ap (λ (i : ℕ). get_or firsts' (edge_at d' i).0 0) q
      ∙ ap (λ (x : Edge). get_or firsts' x.0 0) new ∙ at_start in
      omega arith)
      (λ q. higher_old j q)
      (eq-or-lt_of_le (let l : length d' ≡ length d + 1 = longer_by in let k : j ≤ length d = omega arith in k))

  naming :
      (s : ℕ) → s < n → get_or firsts' s 0 < nobody
      → (get_or firsts' s 0 < length d') × ((edge_at d' (get_or firsts' s 0)).0 ≡ s)
  naming s h l =
      by_cases (eqb s e.0)
      (λ q.
      let z : s ≡ e.0 = eqb-true s e.0 q in
      let g : get_or firsts' s 0 ≡ length d = ap (λ (i : ℕ). get_or firsts' i 0) z ∙ at_start in
      (rw (g, longer_by) (omega arith), rw (g, new) (sym z)))
      (λ q.
      let g : get_or firsts' s 0 ≡ get_or firsts s 0 = off_start s (eqb-false s e.0 q) in
      let k : (get_or firsts s 0 < length d) × ((edge_at d (get_or firsts s 0)).0 ≡ s) = r.named s h (rw g at l) in
      (rw (g, longer_by) (omega (arith, k.0)), rw (g, old (get_or firsts s 0) k.0) k.1))

  last_one : left_from firsts' (0 + length d) (e ∷ []) ≡ e ∷ []
  last_one =
      let t : leb (get_or firsts' e.0 0) (0 + length d) ≡ true = rw at_start (le-leb (length d) (0 + length d) (omega arith)) in
      rw t

  twins : (s : ℕ) → from s (fill [] d') ≡ from s (left_from firsts' 0 d')
  twins s =
      ap (from s) (fill_snoc [] d e)
      ∙ by_cases (eqb s e.0)
      (λ q.
      let z : s ≡ e.0 = eqb-true s e.0 q in
      put_at s e (fill [] d) z (fill_climbs [] d tt)
      ∙ sym (split s ∙ ap₂ ◌++◌ (ap (λ (i : ℕ). from i (left_from firsts' 0 d)) z ∙ set_at firsts e.0 (length d) within 0 d (omega arith)) (rw q)))
      (λ q.
      let n : s ≡ e.0 → ⊥ = eqb-false s e.0 q in
      put_off s e (fill [] d) n ∙ r.twin.at s
      ∙ sym (split s ∙ ap₂ ◌++◌ (set_off firsts e.0 (length d) within s 0 d n) (rw q) ∙ append-nil (from s (left_from firsts 0 d))))
    where
      split :
          (s : ℕ) → from s (left_from firsts' 0 d')
          ≡ from s (left_from firsts' 0 d) ++ from s (e ∷ [])
      split s =
          ap (from s) (left_append firsts' 0 d (e ∷ []) ∙ ap (λ (l : List Edge). left_from firsts' 0 d ++ l) last_one)
          ∙ only_append (λ x. eqb s x.0) (left_from firsts' 0 d) (e ∷ [])

  lasts_more : Lasts n d' firsts'
  lasts_more = record { long = length-set firsts e.0 (length d) ∙ r.long; highest = higher; named = naming; twin = record { at = twins } }

lasts_all :
    (n : ℕ) (d h : List Edge) (firsts : List ℕ) → Lasts n d firsts → ((j : ℕ) → j < length h → (edge_at h j).0 < n)
    → Lasts n (d ++ h) (numbered (length d) firsts (starts_of h))
lasts_all n d [] firsts r f = rw append-nil r
lasts_all n d (e ∷ h) firsts r f =
    let m : Lasts n (d ++ (e ∷ [])) (set firsts e.0 (length d)) = lasts_more n d firsts r e (f 0 (omega arith)) in
    let k : _ = lasts_all n (d ++ (e ∷ [])) h (set firsts e.0 (length d)) m (λ j l. f (suc j) (omega arith)) in
    let l : length (d ++ (e ∷ [])) ≡ suc (length d) = length-append d (e ∷ []) ∙ add-one (length d) in
    subst (λ (g : List Edge). Lasts n g (numbered (suc (length d)) (set firsts e.0 (length d)) (starts_of h))) (append_assoc d (e ∷ []) h)
    (subst (λ (i : ℕ). Lasts n ((d ++ (e ∷ [])) ++ h) (numbered i (set firsts e.0 (length d)) (starts_of h))) l k)

-- ---- ported wires are the wires of what the table stands for

module _
    (starts ends nexts : List ℕ) (n : ℕ) (small : n ≤ entry_limit) (h : EdgeLists starts ends n) (room : length starts ≤ length nexts)
    (free : (k : ℕ) → k < length starts → get_or nexts k 0 ≡ nobody) where
  abbrev edges : List Edge
  edges = pairs starts ends

  abbrev table : List ℕ
  table = numbered 0 (replicate n nobody) starts

  count : length edges ≡ length starts
  count = length_pairs starts ends h.paired

  edge_at_lem : (k : ℕ) → k < length starts → (edge_at edges k).0 ≡ get_or starts k 0
  edge_at_lem k l = ap (λ (e : Edge). e.0) (pairs_at starts ends k h.paired l)

  filled : Lasts n edges table
  filled =
      subst (λ (l : List ℕ). Lasts n edges (numbered 0 (replicate n nobody) l)) (starts_of_lem starts ends h.paired)
      (lasts_all n [] edges (replicate n nobody) (lasts_begin n)
      (λ j l. let c : length edges ≡ length starts = count in rw (edge_at_lem j (omega arith)) (h.from j (omega arith))))

  pub last_stands : Stands starts ends nexts table
  last_stands =
      let r : Lasts n edges table = filled in
      let c : length edges ≡ length starts = count in
      record {
        low = rw r.long small;
        edges = subst (λ (m : ℕ). EdgeLists starts ends m) (sym r.long) h;
        linked = record {
          room = room;
          first = λ s a b. sym (edge_at_lem (get_or table s 0) b) ∙ (r.named s (rw r.long at a) (omega (arith, h.few))).1;
          next =
              λ k a b.
              rw (free k a)
              (record {
                later = omega (arith, h.few);
                there = λ l. absurd (omega (arith, h.few));
                least =
                    λ j p q z.
                    absurd
                    (let m : j ≤ get_or table (edge_at edges j).0 0 = r.highest j (omega arith) in
                    let y : get_or table (edge_at edges j).0 0 ≡ get_or table (get_or starts k 0) 0 = ap (λ (s : ℕ). get_or table s 0) (edge_at_lem j q ∙ z) in
                    omega arith);
              });
        };
      }

  pub ported_are : ported_wires edges ≡ traces (left starts ends table)
  unfolding ported_wires traces left
  ported_are =
      let l : length (left_from table 0 edges) ≤ length edges = left_few table 0 edges in
      twin_traces (length edges) (suc (length edges)) filled.twin
      ∙ traces_enough (length edges) (length (left_from table 0 edges)) (length edges) (length (left_from table 0 edges)) (left_from table 0 edges)
      l (omega arith) l (omega arith)
