-- A function that goes round the hem edges, each of which starts where the one before ends, cuts them into wires: each wire closes,
-- and every hem edge is used exactly once. Where the verdict is Oriented or Closed, turning through the cloth is such a function.
-- Assumes nothing.
use mathlib.Core.Path.{◌≡◌, refl, sym, ap, ◌∙◌, subst}
use mathlib.Core.Logic.{⊎_elim}
use mathlib.Core.Bool.{Bool, true, false, cond}
use mathlib.Core.List.{List, [], ◌∷◌, ◌++◌}
use Prim.Native.Nat.{ℕ, zero, suc, ◌+◌, ◌≤◌, ◌<◌}
use native.Mathlib.Omega.{arith}
use lib.ListN.{length, length-append}
use Rattle.lists.specs.Lists.{bump, count, some, every, joined}
use Rattle.lists.proofs.Bools.{and_both, or_left, or_right}
use Rattle.lists.proofs.Counting.{or_either, bump_plus, count_append, count_all, count_some, some_counted}
use Rattle.lists.proofs.Parts.{every_append}
use Rattle.edges.specs.Edges.{Edge, same, before, runs, run_edges, ring_edges, mesh_edges, Irregular, Regular, verdict, hems}
use Rattle.edges.proofs.SameEdge.{same_true, same_refl, same_of}
use Rattle.edges.proofs.HemUses.{not_irregular, not_regular}
use Rattle.mesh.proofs.Edges.{length_run}
use Rattle.tracing.specs.Following.{without, Walk, longer}
use Rattle.tracing.proofs.Balance.{without_count}
use Rattle.tracing.proofs.Starts.{taken_length}
use Rattle.turning.specs.Turning.{Turn, turns, onward, least, trail, trails_in, house_wires}
use Rattle.turning.proofs.Rounds.{In, Round, Left, left_home, left_closed, left_taken, left_on}
use Rattle.turning.proofs.Onward.{onward_round, onward_start}

-- the smallest of some edges is one of them
pub least_in : (e : Edge) (h : List Edge) → In (least e h) (e ∷ h)
least_in e [] = or_left (same e e) false (same_refl e)
least_in e (x ∷ h) = go (before x e) (least_in (cond (before x e) x e) h)
  where
    go : (b : Bool) → In (least (cond b x e) h) (cond b x e ∷ h) → In (least (cond b x e) h) (e ∷ x ∷ h)
    go true m = or_right (same (least x h) e) (some (same (least x h)) (x ∷ h)) m
    go false m =
        ⊎_elim
        (or_left (same (least e h) e) (some (same (least e h)) (x ∷ h)))
        (λ p. or_right (same (least e h) e) (some (same (least e h)) (x ∷ h)) (or_right (same (least e h) x) (some (same (least e h)) h) p))
        (or_either (same (least e h) e) (some (same (least e h)) h) m)

module _ (on : Edge → Edge) where
  -- each edge of h is followed by one that starts where it ends
  abbrev pub Joint : List Edge → Type 0
  Joint h = (e : Edge) → In e h → (on e).0 ≡ e.1

  -- whether the second is what follows the first
  abbrev pub follows : Turn → Bool
  follows t = same (on t.0) t.1

  -- ---- one wire

  -- a wire that began with f, from its edge e on: its positions are the starts of its edges, each of which follows the one before, and
  -- f the last; these edges and those that are left are h; what is left goes round
  pub record Trailed (f e : Edge) (h : List Edge) (w : Walk) : Type 0 where
    pub rest : List ℕ
    pub edges : List Edge
    pub shape : w.0 ≡ e.0 ∷ rest
    pub are : run_edges e.0 rest f.0 ≡ e ∷ edges
    pub follow : every follows (run_edges e edges f) ≡ true
    pub used : (p : Edge → Bool) → count p (e ∷ edges) + count p w.1 ≡ count p h
    pub left : Round on w.1

  -- fewer edges of each
  pub fewer_in : (s t : List Edge) → ((p : Edge → Bool) → count p s ≤ count p t) → (d : Edge) → In d s → In d t
  fewer_in s t l d m = let a : runs d s ≤ runs d t = l (same d) in let b : 0 < runs d s = count_some (same d) s m in some_counted (same d) t (omega arith)

  pub without_in : (d e : Edge) (h : List Edge) → In e h → In d (without e h) → In d h
  without_in d e h m =
      fewer_in (without e h) h
      (λ p.
      let a : count p h ≡ bump (p e) (count p (without e h)) = without_count p e h m in
      let b : _ = bump_plus (p e) (count p (without e h)) in
      omega arith)
      d

  pub trailed :
      (n : ℕ) (f e : Edge) (h : List Edge) → length h ≤ n → Left on f e h → In e h → Joint h → Trailed f e h (trail on n f e h)
  unfolding trail
  trailed zero f e h l w m j = absurd (let k : _ = taken_length e h m in omega arith)
  trailed (suc n) f e h l w m j = go (same f (on e)) refl (trailed n f (on e) (without e h))
    where
      t : Left on f (on e) (without e h)
      t = left_taken on f e h m w

      taken : (p : Edge → Bool) → count p h ≡ bump (p e) (count p (without e h))
      taken p = without_count p e h m

      go :
          (b : Bool) → same f (on e) ≡ b
          → (length (without e h) ≤ n → Left on f (on e) (without e h) → In (on e) (without e h) → Joint (without e h)
          → Trailed f (on e) (without e h) (trail on n f (on e) (without e h)))
          → Trailed f e h
          (elim b [ true ↦ (e.0 ∷ [], without e h) | false ↦ longer e.0 (trail on n f (on e) (without e h)) ])
      go true q ih =
          let z : f ≡ on e = same_true f (on e) q in
          record {
            rest = [];
            edges = [];
            shape = refl;
            are = λ i. (e.0, (ap (λ (x : Edge). x.0) z ∙ j e m) i) ∷ [];
            follow = rw (same_of (on e) f (sym z));
            used = λ p. let y : _ = bump_plus (p e) (count p (without e h)) in let k : _ = taken p in omega arith;
            left = left_closed on f (without e h) (subst (λ x. Left on f x (without e h)) (sym z) t);
          }
      go false q ih =
          let k : length h ≡ suc (length (without e h)) = taken_length e h m in
          let r : Trailed f (on e) (without e h) (trail on n f (on e) (without e h)) =
          ih (omega arith) t (left_on on f (on e) (without e h) q t) (λ d i. j d (without_in d e h m i)) in
          record {
            rest = (on e).0 ∷ r.rest;
            edges = on e ∷ r.edges;
            shape = ap (λ y. e.0 ∷ y) r.shape;
            are = λ i. (e.0, j e m i) ∷ r.are i;
            follow = rw (same_refl (on e)) r.follow;
            used =
                λ p.
                let u : count p (on e ∷ r.edges) + count p (trail on n f (on e) (without e h)).1 ≡ count p (without e h) = r.used p in
                let y : _ = bump_plus (p e) (count p (without e h)) in
                let y' : _ = bump_plus (p e) (count p (on e ∷ r.edges)) in
                let k : _ = taken p in
                omega arith;
            left = r.left;
          }

  -- ---- all wires

  -- the wires use h, each edge once; as many numbers as edges, and no wire without one; and in each wire, taken as a ring, every edge
  -- is what follows the one before
  pub record Used (h : List Edge) (ws : List (List ℕ)) : Type 0 where
    pub all : (p : Edge → Bool) → count p (mesh_edges ws) ≡ count p h
    pub numbers : length (joined ws) ≡ length h
    pub wires : length ws ≤ length h
    pub follow : every follows (turns ws) ≡ true

  used_none : Used [] []
  used_none = record { all = λ p. refl; numbers = refl; wires = omega arith; follow = refl }

  used_one : (f : Edge) (h : List Edge) (w : Walk) (ws : List (List ℕ)) → Trailed f f h w → Used w.1 ws → Used h (w.0 ∷ ws)
  used_one f h w ws r u =
      let e : ring_edges w.0 ≡ f ∷ r.edges = ap ring_edges r.shape ∙ r.are in
      let k : count (λ x. true) (f ∷ r.edges) + count (λ x. true) w.1 ≡ count (λ x. true) h = r.used (λ x. true) in
      let i : length (run_edges f.0 r.rest f.0) ≡ suc (length r.rest) = length_run f.0 r.rest f.0 in
      let i' : length (run_edges f.0 r.rest f.0) ≡ suc (length r.edges) = ap length r.are in
      let a : _ = count_all r.edges in
      let b : _ = count_all w.1 in
      let c : _ = count_all h in
      let q : length w.0 ≡ suc (length r.rest) = ap length r.shape in
      let l : length (w.0 ++ joined ws) ≡ length w.0 + length (joined ws) = length-append w.0 (joined ws) in
      let n : length (joined ws) ≡ length w.1 = u.numbers in
      let o : length ws ≤ length w.1 = u.wires in
      record {
        all = λ p. count_append p (ring_edges w.0) (mesh_edges ws) ∙ rw (e, u.all p) (r.used p);
        numbers = omega arith;
        wires = omega arith;
        follow =
            every_append follows (ring_edges (ring_edges w.0)) (turns ws)
            ∙ and_both (every follows (ring_edges (ring_edges w.0))) (every follows (turns ws)) (rw e r.follow) u.follow;
      }

  pub trails_used : (n m : ℕ) (h : List Edge) → length h ≤ n → length h ≤ m → Round on h → Joint h → Used h (trails_in on n m h)
  unfolding trails_in
  trails_used zero m [] l k r j = used_none
  trails_used zero m (x ∷ h) l k r j = absurd (omega arith)
  trails_used (suc n) m [] l k r j = used_none
  trails_used (suc n) m (x ∷ h) l k r j =
      let f : Edge = least x h in
      let w : Walk = trail on m (least x h) (least x h) (x ∷ h) in
      let t : Trailed (least x h) (least x h) (x ∷ h) (trail on m (least x h) (least x h) (x ∷ h)) =
      trailed m (least x h) (least x h) (x ∷ h) k (left_home on (least x h) (x ∷ h) r) (least_in x h) j in
      let u : suc (count (λ y. true) t.edges) + count (λ y. true) w.1 ≡ count (λ y. true) (x ∷ h) = t.used (λ y. true) in
      let a : count (λ y. true) w.1 ≡ length w.1 = count_all w.1 in
      let b : count (λ y. true) (x ∷ h) ≡ length (x ∷ h) = count_all (x ∷ h) in
      used_one (least x h) (x ∷ h) w (trails_in on n m w.1) t
      (trails_used n m w.1 (omega arith) (omega arith) t.left
      (λ d i. j d (fewer_in w.1 (x ∷ h) (λ p. let v : _ = t.used p in omega arith) d i)))

-- ---- hems

module _ (fs : List (List ℕ)) (n : verdict (mesh_edges fs) ≡ Irregular → ⊥) (r : verdict (mesh_edges fs) ≡ Regular → ⊥) where
  pub turned_used : Used (onward fs) (hems (mesh_edges fs)) (house_wires fs)
  unfolding house_wires
  turned_used =
      let ni : _ = not_irregular (mesh_edges fs) n in
      let nr : _ = not_regular (mesh_edges fs) n r in
      trails_used (onward fs) (length (hems (mesh_edges fs))) (length (hems (mesh_edges fs))) (hems (mesh_edges fs))
      (omega arith) (omega arith) (onward_round fs ni nr) (onward_start fs ni nr)

  -- where the verdict is Oriented or Closed every hem edge is used exactly once by the wires, and nothing else is
  pub every_hem_once : (p : Edge → Bool) → count p (mesh_edges (house_wires fs)) ≡ count p (hems (mesh_edges fs))
  every_hem_once = turned_used.all

  -- and in each wire every edge is the one that turning through the cloth leads to from the edge before; the first from the last
  pub every_hem_follows : every (follows (onward fs)) (turns (house_wires fs)) ≡ true
  every_hem_follows = turned_used.follow
