-- Wires by rows are wires by the rule: what follows a place has the edge that follows its edge, an edge that is left stands at a place
-- that is left, and the first place of the order that is left has the smallest edge. Assumes nothing.
use mathlib.Core.Path.{◌≡◌, refl, sym, ap, ap₂, ◌∙◌, subst}
use mathlib.Core.Logic.{⊎_elim}
use mathlib.Core.Bool.{Bool, true, false, cond}
use mathlib.Core.List.{List, [], ◌∷◌, ◌++◌, map}
use Prim.Native.Nat.{ℕ, zero, suc, ◌+◌, ◌≤◌, ◌<◌}
use native.Mathlib.Omega.{arith}
use lib.Dec.{eqb}
use lib.ListN.{length, get_or, length-set}
use borrow.Author.Tests.{eqb-true, eqb-false}
use Rattle.lists.specs.Lists.{keep_if, only, some, count}
use Rattle.lists.proofs.Bools.{by_cases, or_left, or_right}
use Rattle.lists.proofs.Counting.{clash, or_either, count_all}
use Rattle.lists.proofs.Members.{In, in_cases, in_head, in_tail}
use Rattle.lists.proofs.Changing.{only_same}
use Rattle.lists.proofs.Mapping.{every_map}
use Rattle.lists.proofs.Only.{some_only, every_only}
use Rattle.lists.proofs.Others.{has_every}
use Rattle.mesh.specs.Limits.{corner_limit}
use Rattle.edges.specs.Edges.{Edge, same, before, mesh_edges, thrice, alike}
use Rattle.edges.proofs.SameEdge.{same_true, same_of, before_true, before_asym}
use Rattle.tracing.specs.Tables.{nobody}
use Rattle.tracing.specs.Following.{without, Walk}
use Rattle.tracing.proofs.Starts.{taken_length}
use Rattle.turning.specs.Rows.{edge_at, place_count}
use Rattle.turning.specs.Turning.{onward, least, trail, trails_in}
use Rattle.turning.proofs.Rounds.{Round, Left, left_home, left_taken, left_on}
use Rattle.turning.proofs.Closing.{Joint, Trailed, trailed, fewer_in}
use Rattle.turning.proofs.Listed.{least_ascending}
use Rattle.turning.proofs.Crossing.{edges_once}
use Rattle.turning.proofs.Places.{place_one}
use Rattle.crossing.specs.Turned.{Turned}
use Rattle.trailing.specs.Trailing.{is_left, used, left_count, Wire, walk, wire_from, new_wire, wires_by}
use Rattle.trailing.proofs.Walks.{
  used_other,
  used_self,
  used_fewer,
  left_fewer,
  walk_used,
  walk_closed,
  wire_closed,
  wire_row,
  wire_fewer,
  wire_uses,
  new_one,
  new_none,
  wires_none,
  wires_on,
}

-- ---- the rule step by step

module _ (on : Edge → Edge) where
  trail_closes : (m : ℕ) (f e : Edge) (h : List Edge) → same f (on e) ≡ true → trail on (suc m) f e h ≡ (e.0 ∷ [], without e h)
  unfolding trail
  trail_closes m f e h q = rw (q, trail)

  trail_goes :
      (m : ℕ) (f e : Edge) (h : List Edge) → same f (on e) ≡ false
      → trail on (suc m) f e h ≡ Rattle.tracing.specs.Following.longer e.0 (trail on m f (on e) (without e h))
  unfolding trail
  trail_goes m f e h q = rw (q, trail)

  trails_none : (n m : ℕ) → trails_in on n m [] ≡ []
  unfolding trails_in
  trails_none zero m = refl
  trails_none (suc n) m = refl

  trails_go :
      (n m : ℕ) (e : Edge) (h : List Edge) → least e h ≡ e
      → trails_in on (suc n) m (e ∷ h) ≡ (trail on m e e (e ∷ h)).0 ∷ trails_in on n m (trail on m e e (e ∷ h)).1
  unfolding trails_in
  trails_go n m e h q = ap (λ (x : Edge). (trail on m x x (e ∷ h)).0 ∷ trails_in on n m (trail on m x x (e ∷ h)).1) q

  -- enough steps for all wires of h, which go round
  pub record Goes (n m : ℕ) (h : List Edge) : Type 0 where
    pub wires : length h ≤ n
    pub steps : length h ≤ m
    pub round : Round on h
    pub joint : Joint on h

  -- so it is of what a wire leaves
  goes_on :
      (n m : ℕ) (e : Edge) (h : List Edge) → some (same e) h ≡ true → Goes (suc n) m h → Goes n m (trail on m e e h).1
  goes_on n m e h i g =
      let t : Trailed on e e h (trail on m e e h) = trailed on m e e h g.steps (left_home on e h g.round) i g.joint in
      let u : suc (count (λ y. true) t.edges) + count (λ y. true) (trail on m e e h).1 ≡ count (λ y. true) h = t.used (λ y. true) in
      let a : count (λ y. true) (trail on m e e h).1 ≡ length (trail on m e e h).1 = count_all (trail on m e e h).1 in
      let b : count (λ y. true) h ≡ length h = count_all h in
      let w : length h ≤ suc n = g.wires in
      let s : length h ≤ m = g.steps in
      record {
        wires = omega arith;
        steps = omega arith;
        round = t.left;
        joint = λ d k. g.joint d (fewer_in on (trail on m e e h).1 h (λ p. let v : _ = t.used p in omega arith) d k);
      }

-- ---- places that ascend by their edges

abbrev pub Rising : (ℕ → Edge) → List ℕ → Type 0
Rising edge [] = Unit {0}
Rising edge (u ∷ us) = ((x : ℕ) → In x us → before (edge u) (edge x) ≡ true) × Rising edge us

-- so do some of them
in_only : (p : ℕ → Bool) (l : List ℕ) (x : ℕ) → In x (only p l) → In x l
in_only p l x i = some_only p (eqb x) l i

pub rising_only : (edge : ℕ → Edge) (p : ℕ → Bool) (l : List ℕ) → Rising edge l → Rising edge (only p l)
rising_only edge p [] r = tt
rising_only edge p (u ∷ us) r = go (p u) (rising_only edge p us r.1)
  where
    go : (b : Bool) → Rising edge (only p us) → Rising edge (keep_if b u (only p us))
    go true ih = (λ x i. r.0 x (in_only p us x i), ih)
    go false ih = ih

-- a place stands not behind itself
apart : (edge : ℕ → Edge) (u : ℕ) (us : List ℕ) → Rising edge (u ∷ us) → In u us → ⊥
apart edge u us r i =
    let b : _ = before_true (edge u) (edge u) (r.0 u i) in before_asym (edge u) (edge u) b b

-- the edges that are left at the places l
abbrev pub left_at : (ℕ → Edge) → List ℕ → List ℕ → List Edge
left_at edge left l = map edge (only (is_left left) l)

-- a row of n places on the way: what is left there was left at the beginning
pub record Marks (n : ℕ) (twins left : List ℕ) : Type 0 where
  pub long : length left ≡ n
  pub fewer : (u : ℕ) → u < n → is_left left u ≡ true → is_left twins u ≡ true

-- places below n
abbrev pub Below : ℕ → List ℕ → Type 0
Below n l = (x : ℕ) → In x l → x < n

pub below_only : (n : ℕ) (p : ℕ → Bool) (l : List ℕ) → Below n l → Below n (only p l)
below_only n p l b x i = b x (in_only p l x i)

module _
    (fs : List (List ℕ)) (ni : thrice (mesh_edges fs) ≡ false) (nr : alike (mesh_edges fs) ≡ false) (starts follows twins : List ℕ)
    (turned : Turned fs twins follows) (few : place_count fs ≤ corner_limit)
    (begins : (u : ℕ) → u < place_count fs → is_left twins u ≡ true → (edge_at fs u).0 ≡ get_or starts u 0) where
  abbrev N : ℕ
  N = place_count fs

  abbrev edge : ℕ → Edge
  edge u = edge_at fs u

  abbrev on : Edge → Edge
  on = onward fs

  -- an edge stands at one place
  one : (u v : ℕ) → u < place_count fs → v < place_count fs → edge u ≡ edge v → u ≡ v
  one u v h k q = place_one (mesh_edges fs) (edges_once (mesh_edges fs) ni nr) u v h k q

  below_tail : (x : ℕ) (l : List ℕ) → Below (place_count fs) (x ∷ l) → Below (place_count fs) l
  below_tail x l b k i = b k (in_tail k x l i)

  module _ (left : List ℕ) (marks : Marks (place_count fs) twins left) where
    short : length left ≤ corner_limit
    short = omega (arith, marks.long)

    room : (u : ℕ) → u < place_count fs → u < length left
    room u h = omega (arith, marks.long)

    marks_used : (u : ℕ) → u < place_count fs → Marks (place_count fs) twins (used left u)
    marks_used u h = record {
      long = length-set left u nobody ∙ marks.long;
      fewer = λ k l q. marks.fewer k l (used_fewer left u k short (room u h) q);
    }

    goes_inside : (u : ℕ) → u < length left → get_or follows u 0 < length left
    goes_inside u h =
        let k : get_or follows u 0 < place_count fs = turned.inside u (omega (arith, marks.long)) in omega (arith, marks.long)

    marks_wire : (u : ℕ) → u < place_count fs → Marks (place_count fs) twins (wire_from starts follows u left).1
    marks_wire u h = record {
      long = wire_row starts follows u left ∙ marks.long;
      fewer = λ k l q. marks.fewer k l (wire_fewer starts follows u left short goes_inside (room u h) k q);
    }

    -- its edge used, a place is left out
    left_used :
        (u : ℕ) → u < place_count fs → is_left left u ≡ true → (l : List ℕ) → Rising edge l → Below (place_count fs) l
        → left_at edge (used left u) l ≡ without (edge u) (left_at edge left l)
    left_used u h is [] r b = refl
    left_used u h is (x ∷ l) r b =
        by_cases (eqb x u)
        (λ q.
        let z : x ≡ u = eqb-true x u q in
        ap (λ (t : Bool). map edge (keep_if t x (only (is_left (used left u)) l))) (ap (is_left (used left u)) z ∙ used_self left u short (room u h))
        ∙ ap (map edge) (only_same (is_left (used left u)) (is_left left) l (λ k i. used_other left u k (λ y. apart edge x l r (subst (λ j. In j l) (y ∙ sym z) i))))
        ∙ sym
        (ap (λ (t : Bool). cond t (left_at edge left l) (edge x ∷ without (edge u) (left_at edge left l))) (same_of (edge u) (edge x) (ap edge (sym z))))
        ∙ sym (ap (λ (t : Bool). without (edge u) (map edge (keep_if t x (only (is_left left) l)))) (ap (is_left left) z ∙ is)))
        (λ q.
        ap (λ (t : Bool). map edge (keep_if t x (only (is_left (used left u)) l))) (used_other left u x (eqb-false x u q))
        ∙ other (is_left left x) (λ y. eqb-false x u q (sym (one u x h (b x (in_head x l)) y))) (left_used u h is l r.1 (below_tail x l b)))
      where
        other :
            (t : Bool) → (edge u ≡ edge x → ⊥) → left_at edge (used left u) l ≡ without (edge u) (left_at edge left l)
            → map edge (keep_if t x (only (is_left (used left u)) l)) ≡ without (edge u) (map edge (keep_if t x (only (is_left left) l)))
        other true ne ih =
            let c : same (edge u) (edge x) ≡ false = by_cases (same (edge u) (edge x)) (λ y. absurd (ne (same_true (edge u) (edge x) y))) (λ y. y) in
            ap (λ (g : List Edge). edge x ∷ g) ih
            ∙ sym (ap (λ (s : Bool). cond s (left_at edge left l) (edge x ∷ without (edge u) (left_at edge left l))) c)
        other false ne ih = ih

  -- an edge that is left stands at a place that is left
  left_place :
      (left : List ℕ) (v : ℕ) → v < place_count fs → (l : List ℕ) → Below (place_count fs) l → some (same (edge v)) (left_at edge left l) ≡ true → (is_left left v ≡ true) × In v l
  left_place left v h [] b m = clash m refl
  left_place left v h (x ∷ l) b m = go (is_left left x) refl m (left_place left v h l (below_tail x l b))
    where
      go :
          (t : Bool) → is_left left x ≡ t → some (same (edge v)) (map edge (keep_if t x (only (is_left left) l))) ≡ true
          → (some (same (edge v)) (left_at edge left l) ≡ true → (is_left left v ≡ true) × In v l) → (is_left left v ≡ true) × In v (x ∷ l)
      go true q m ih =
          ⊎_elim
          (λ p.
          let z : v ≡ x = one v x h (b x (in_head x l)) (same_true (edge v) (edge x) p) in
          (ap (is_left left) z ∙ q, subst (λ k. In k (x ∷ l)) (sym z) (in_head x l)))
          (λ p. let r : _ = ih p in (r.0, in_tail v x l r.1))
          (or_either (same (edge v) (edge x)) (some (same (edge v)) (left_at edge left l)) m)
      go false q m ih = let r : _ = ih m in (r.0, in_tail v x l r.1)

  place_left : (left : List ℕ) (u : ℕ) → is_left left u ≡ true → (l : List ℕ) → In u l → some (same (edge u)) (left_at edge left l) ≡ true
  place_left left u is [] i = clash i refl
  place_left left u is (x ∷ l) i =
      ⊎_elim
      (λ z.
      ap (λ (t : Bool). some (same (edge u)) (map edge (keep_if t x (only (is_left left) l)))) (ap (is_left left) (sym z) ∙ is)
      ∙ or_left (same (edge u) (edge x)) (some (same (edge u)) (left_at edge left l)) (same_of (edge u) (edge x) (ap edge z)))
      (λ k. behind (is_left left x) (place_left left u is l k))
      (in_cases u x l i)
    where
      behind : (t : Bool) → some (same (edge u)) (left_at edge left l) ≡ true → some (same (edge u)) (map edge (keep_if t x (only (is_left left) l))) ≡ true
      behind true m = or_right (same (edge u) (edge x)) (some (same (edge u)) (left_at edge left l)) m
      behind false m = m

  -- ---- one wire

  -- the wire w by the rows is the wire v by the rule, and leaves the same edges at the places l
  record Trails (w : Wire) (l : List ℕ) (v : Walk) : Type 0 where
    passed : w.0 ≡ v.0
    rest : left_at edge w.1 l ≡ v.1

  module _ (l : List ℕ) (rises : Rising edge l) (below : Below (place_count fs) l) (f : ℕ) (hf : f < place_count fs) where
    -- begun with the edge at f, it has come to the place u
    walk_trail :
        (n m u : ℕ) (left : List ℕ) → Marks (place_count fs) twins left → u < place_count fs → In u l → is_left left u ≡ true → is_left (used left u) f ≡ false
        → left_count left ≤ n → length (left_at edge left l) ≤ m → Left on (edge f) (edge u) (left_at edge left l)
        → Trails (walk starts follows n u left) l (trail on m (edge f) (edge u) (left_at edge left l))
    walk_trail zero m u left marks h i is shut a b lf =
        absurd (let c : _ = left_fewer left u (short left marks) (room left marks u h) is in omega arith)
    walk_trail (suc n) zero u left marks h i is shut a b lf =
        absurd (let c : _ = taken_length (edge u) (left_at edge left l) (place_left left u is l i) in omega arith)
    walk_trail (suc n) (suc m) u left marks h i is shut a b lf =
        let v : ℕ = get_or follows u 0 in
        let e : Edge = edge u in
        let g : List Edge = left_at edge left l in
        let o : edge (get_or follows u 0) ≡ on (edge u) = turned.onward_is u h (marks.fewer u h is) in
        let hv : get_or follows u 0 < place_count fs = turned.inside u h in
        let me : some (same (edge u)) (left_at edge left l) ≡ true = place_left left u is l i in
        let tk : left_at edge (used left u) l ≡ without (edge u) (left_at edge left l) = left_used left marks u h is l rises below in
        let ws : walk starts follows (suc n) u left ≡ Rattle.trailing.specs.Trailing.longer (get_or starts u 0) (walk starts follows n (get_or follows u 0) (used left u)) =
        walk_used starts follows n u left is in
        by_cases (same (edge f) (on (edge u)))
        (λ q.
        let z : f ≡ get_or follows u 0 = one f (get_or follows u 0) hf hv (same_true (edge f) (on (edge u)) q ∙ sym o) in
        let wc : walk starts follows n (get_or follows u 0) (used left u) ≡ ([], used left u) =
        walk_closed starts follows n (get_or follows u 0) (used left u) (ap (is_left (used left u)) (sym z) ∙ shut) in
        let wt : walk starts follows (suc n) u left ≡ (get_or starts u 0 ∷ [], used left u) =
        ws ∙ ap (Rattle.trailing.specs.Trailing.longer (get_or starts u 0)) wc in
        let tr : _ = trail_closes on m (edge f) (edge u) (left_at edge left l) q in
        record {
          passed = ap (λ (w : Wire). w.0) wt ∙ ap (λ (p : ℕ). p ∷ []) (sym (begins u h (marks.fewer u h is))) ∙ sym (ap (λ (w : Walk). w.0) tr);
          rest = ap (λ (w : Wire). left_at edge w.1 l) wt ∙ tk ∙ sym (ap (λ (w : Walk). w.1) tr);
        })
        (λ q.
        let lt : Left on (edge f) (on (edge u)) (without (edge u) (left_at edge left l)) = left_taken on (edge f) (edge u) (left_at edge left l) me lf in
        let lo : some (same (on (edge u))) (without (edge u) (left_at edge left l)) ≡ true =
        left_on on (edge f) (on (edge u)) (without (edge u) (left_at edge left l)) q lt in
        let r : (is_left (used left u) (get_or follows u 0) ≡ true) × In (get_or follows u 0) l =
        left_place (used left u) (get_or follows u 0) hv l below (ap₂ (λ (x : Edge) (y : List Edge). some (same x) y) o tk ∙ lo) in
        let lf' : Left on (edge f) (edge (get_or follows u 0)) (left_at edge (used left u) l) =
        subst (λ (x : Edge). Left on (edge f) x (left_at edge (used left u) l)) (sym o)
        (subst (λ (y : List Edge). Left on (edge f) (on (edge u)) y) (sym tk) lt) in
        let marks' : Marks (place_count fs) twins (used left u) = marks_used left marks u h in
        let shut' : is_left (used (used left u) (get_or follows u 0)) f ≡ false =
        by_cases (is_left (used (used left u) (get_or follows u 0)) f)
        (λ y.
        clash (used_fewer (used left u) (get_or follows u 0) f (short (used left u) marks') (room (used left u) marks' (get_or follows u 0) hv) y) shut)
        (λ y. y) in
        let lc : left_count left ≡ suc (left_count (used left u)) = left_fewer left u (short left marks) (room left marks u h) is in
        let ll : length (left_at edge left l) ≡ suc (length (without (edge u) (left_at edge left l))) = taken_length (edge u) (left_at edge left l) me in
        let lk : length (left_at edge (used left u) l) ≡ length (without (edge u) (left_at edge left l)) = ap length tk in
        let ih : Trails (walk starts follows n (get_or follows u 0) (used left u)) l (trail on m (edge f) (edge (get_or follows u 0)) (left_at edge (used left u) l)) =
        walk_trail n m (get_or follows u 0) (used left u) marks' hv r.1 r.0 shut' (omega arith) (omega arith) lf' in
        let tr : _ = trail_goes on m (edge f) (edge u) (left_at edge left l) q in
        let tw : trail on m (edge f) (edge (get_or follows u 0)) (left_at edge (used left u) l) ≡ trail on m (edge f) (on (edge u)) (without (edge u) (left_at edge left l)) =
        ap₂ (λ (x : Edge) (y : List Edge). trail on m (edge f) x y) o tk in
        record {
          passed =
              ap (λ (w : Wire). w.0) ws
              ∙ ap₂ (λ (p : ℕ) (t : List ℕ). p ∷ t) (sym (begins u h (marks.fewer u h is))) (ih.passed ∙ ap (λ (w : Walk). w.0) tw)
              ∙ sym (ap (λ (w : Walk). w.0) tr);
          rest = ap (λ (w : Wire). left_at edge w.1 l) ws ∙ ih.rest ∙ ap (λ (w : Walk). w.1) tw ∙ sym (ap (λ (w : Walk). w.1) tr);
        })

  -- ---- all wires

  module _ (u : ℕ) (us : List ℕ) (rises : Rising edge (u ∷ us)) (below : Below (place_count fs) (u ∷ us)) (left : List ℕ) (marks : Marks (place_count fs) twins left) where
    abbrev h₀ : List Edge
    h₀ = left_at edge left (u ∷ us)

    -- the place is used already
    module _ (shut : is_left left u ≡ false) where
      skip_left : left_at edge left (u ∷ us) ≡ left_at edge left us
      skip_left = ap (λ (t : Bool). map edge (keep_if t u (only (is_left left) us))) shut

      skip_wires : wires_by starts follows (u ∷ us) left ≡ wires_by starts follows us left
      skip_wires =
          wires_on starts follows u us left
          ∙ ap₂ (λ (a : List (List ℕ)) (w : Wire). a ++ wires_by starts follows us w.1) (new_none starts follows u left shut) (wire_closed starts follows u left shut)

    -- it is not: its edge is the smallest that is left
    module _ (is : is_left left u ≡ true) where
      hu : u < place_count fs
      hu = below u (in_head u us)

      here : some (same (edge u)) (left_at edge left (u ∷ us)) ≡ true
      here = place_left left u is (u ∷ us) (in_head u us)

      first_left : left_at edge left (u ∷ us) ≡ edge u ∷ left_at edge left us
      first_left = ap (λ (t : Bool). map edge (keep_if t u (only (is_left left) us))) is

      smallest : least (edge u) (left_at edge left us) ≡ edge u
      smallest =
          least_ascending (edge u) (left_at edge left us)
          (every_map edge (before (edge u)) (only (is_left left) us)
          ∙ every_only (is_left left) (λ x. before (edge u) (edge x)) us (has_every (λ x. before (edge u) (edge x)) us rises.0))

      opened :
          (n m : ℕ) → trails_in on (suc n) m (left_at edge left (u ∷ us))
          ≡ (trail on m (edge u) (edge u) (left_at edge left (u ∷ us))).0 ∷ trails_in on n m (trail on m (edge u) (edge u) (left_at edge left (u ∷ us))).1
      opened n m =
          ap (trails_in on (suc n) m) first_left
          ∙ trails_go on n m (edge u) (left_at edge left us) smallest
          ∙ sym
          (ap (λ (g : List Edge). (trail on m (edge u) (edge u) g).0 ∷ trails_in on n m (trail on m (edge u) (edge u) g).1) first_left)

      module _ (m : ℕ) (steps : length (left_at edge left (u ∷ us)) ≤ m) (round : Round on (left_at edge left (u ∷ us))) where
        wire : Trails (wire_from starts follows u left) (u ∷ us) (trail on m (edge u) (edge u) (left_at edge left (u ∷ us)))
        unfolding wire_from
        wire =
            walk_trail (u ∷ us) rises below u hu (left_count left) m u left marks hu (in_head u us) is
            (used_self left u (short left marks) (room left marks u hu)) (omega arith) steps (left_home on (edge u) (left_at edge left (u ∷ us)) round)

        rest_left : left_at edge (wire_from starts follows u left).1 us ≡ (trail on m (edge u) (edge u) (left_at edge left (u ∷ us))).1
        rest_left =
            sym
            (ap (λ (t : Bool). map edge (keep_if t u (only (is_left (wire_from starts follows u left).1) us)))
            (wire_uses starts follows u left (short left marks) (goes_inside left marks) (room left marks u hu) is))
            ∙ wire.rest

        wires_open :
            wires_by starts follows (u ∷ us) left
            ≡ (trail on m (edge u) (edge u) (left_at edge left (u ∷ us))).0 ∷ wires_by starts follows us (wire_from starts follows u left).1
        wires_open =
            wires_on starts follows u us left
            ∙ ap (λ (a : List (List ℕ)). a ++ wires_by starts follows us (wire_from starts follows u left).1) (new_one starts follows u left is)
            ∙ ap (λ (p : List ℕ). p ∷ wires_by starts follows us (wire_from starts follows u left).1) wire.passed

  pub wires_are :
      (l : List ℕ) → Rising edge l → Below (place_count fs) l → (n m : ℕ) (left : List ℕ) → Marks (place_count fs) twins left → Goes on n m (left_at edge left l)
      → wires_by starts follows l left ≡ trails_in on n m (left_at edge left l)
  wires_are [] rises below n m left marks g = wires_none starts follows left ∙ sym (trails_none on n m)
  wires_are (u ∷ us) rises below zero m left marks g =
      by_cases (is_left left u)
      (λ is. absurd (let c : _ = taken_length (edge u) (left_at edge left (u ∷ us)) (here u us rises below left marks is) in omega (arith, g.wires)))
      (λ shut.
      skip_wires u us rises below left marks shut
      ∙ wires_are us rises.1 (below_tail u us below) zero m left marks (subst (Goes on zero m) (skip_left u us rises below left marks shut) g)
      ∙ sym (ap (trails_in on zero m) (skip_left u us rises below left marks shut)))
  wires_are (u ∷ us) rises below (suc n) m left marks g =
      by_cases (is_left left u)
      (λ is.
      let rest : _ = rest_left u us rises below left marks is m g.steps g.round in
      let left' : List ℕ = (wire_from starts follows u left).1 in
      let ih : wires_by starts follows us (wire_from starts follows u left).1 ≡ trails_in on n m (left_at edge (wire_from starts follows u left).1 us) =
      wires_are us rises.1 (below_tail u us below) n m (wire_from starts follows u left).1 (marks_wire left marks u (below u (in_head u us)))
      (subst (Goes on n m) (sym rest) (goes_on on n m (edge u) (left_at edge left (u ∷ us)) (here u us rises below left marks is) g)) in
      wires_open u us rises below left marks is m g.steps g.round
      ∙ ap (λ (ws : List (List ℕ)). (trail on m (edge u) (edge u) (left_at edge left (u ∷ us))).0 ∷ ws) (ih ∙ ap (trails_in on n m) rest)
      ∙ sym (opened u us rises below left marks is n m))
      (λ shut.
      skip_wires u us rises below left marks shut
      ∙ wires_are us rises.1 (below_tail u us below) (suc n) m left marks (subst (Goes on (suc n) m) (skip_left u us rises below left marks shut) g)
      ∙ sym (ap (trails_in on (suc n) m) (skip_left u us rises below left marks shut)))
