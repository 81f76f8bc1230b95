-- Where no edge is used three times, nor twice in one direction, turning through the cloth from a hem edge reaches a hem edge, and no
-- hem edge is reached from two. One step of the turning, to the next edge after crossing, goes round all edges. So from a hem edge
-- the steps would come back to it, and on the way they find a hem edge; and they can be gone back, where no hem edge stands between.
-- Assumes nothing.
use mathlib.Core.Path.{◌≡◌, refl, sym, ap, ◌∙◌, subst}
use mathlib.Core.Logic.{◌⊎◌, inl, inr, ⊎_elim}
use mathlib.Core.Bool.{Bool, true, false, cond}
use mathlib.Core.List.{List}
use Prim.Native.Nat.{ℕ, zero, suc, ◌≤◌}
use native.Mathlib.Omega.{arith}
use lib.ListN.{length}
use Rattle.lists.proofs.Bools.{by_cases}
use Rattle.lists.proofs.Counting.{clash}
use Rattle.edges.specs.Edges.{Edge, same, flip, mesh_edges, thrice, alike, hems}
use Rattle.edges.proofs.SameEdge.{same_true}
use Rattle.tracing.specs.Following.{without}
use Rattle.tracing.proofs.Starts.{taken_length}
use Rattle.turning.specs.Turning.{turns, next_in, is_hem, turn_from, onward_in, onward}
use Rattle.turning.proofs.Rounds.{In, Round, Left, left_home, left_taken, left_on, round_in, round_one, one_round, round_then, OneToOne}
use Rattle.turning.proofs.Next.{next_start, next_round}
use Rattle.turning.proofs.Crossing.{cross_in, edges_once, hems_once, hem_edge, twin, cross_round}

-- ---- reaching a hem edge

-- one step: cross, unless the edge is a hem edge, and take the next edge there
abbrev pub step_in : (Edge → Edge) → List Edge → Edge → Edge
step_in next h e = next (cross_in h e)

-- two edges are not the same where the one is a hem edge and the other is not
apart : (h : List Edge) (f e : Edge) → is_hem h f ≡ true → is_hem h e ≡ false → same f e ≡ false
apart h f e p q = by_cases (same f e) (λ s. clash (subst (λ x. is_hem h x ≡ true) (same_true f e s) p) q) (λ s. s)

module _ (next : Edge → Edge) (h : List Edge) where
  -- the turning began at the hem edge f and stands at e, and r are the edges not passed: there are steps enough
  turn_reaches :
      (n : ℕ) (f e : Edge) (r : List Edge) → is_hem h f ≡ true → length r ≤ n → Left (step_in next h) f e r
      → is_hem h (turn_from next h n e) ≡ true
  unfolding turn_from
  turn_reaches zero f e r p l w =
      by_cases (is_hem h e) (λ q. q)
      (λ q. absurd (let k : _ = taken_length e r (left_on (step_in next h) f e r (apart h f e p q) w) in omega arith))
  turn_reaches (suc n) f e r p l w = go (is_hem h e) refl (turn_reaches n f (next (flip e)) (without e r) p)
    where
      go :
          (b : Bool) → is_hem h e ≡ b
          → (length (without e r) ≤ n → Left (step_in next h) f (next (flip e)) (without e r) → is_hem h (turn_from next h n (next (flip e))) ≡ true)
          → is_hem h (elim b [ true ↦ e | false ↦ turn_from next h n (next (flip e)) ]) ≡ true
      go true q ih = q
      go false q ih =
          let m : In e r = left_on (step_in next h) f e r (apart h f e p q) w in
          let k : length r ≡ suc (length (without e r)) = taken_length e r m in
          let w' : Left (step_in next h) f (next (cond (is_hem h e) e (flip e))) (without e r) = left_taken (step_in next h) f e r m w in
          ih (omega arith) (rw q at w')

  -- from a hem edge on
  pub onward_reaches : (es : List Edge) → Round (step_in next h) es → (f : Edge) → In f es → is_hem h f ≡ true → is_hem h (onward_in next h (length es) f) ≡ true
  unfolding onward_in
  onward_reaches es r f m p =
      let k : length es ≡ suc (length (without f es)) = taken_length f es m in
      let w : Left (step_in next h) f (next (cond (is_hem h f) f (flip f))) (without f es) =
      left_taken (step_in next h) f f es m (left_home (step_in next h) f es r) in
      turn_reaches (length es) f (next f) (without f es) p (omega arith) (rw p at w)

-- ---- from edge to edge by crossing

-- from a to c by crossing edges of es that are no hem edges, the last one told first
pub data Crossed (next : Edge → Edge) (h es : List Edge) : Edge → Edge → Type 0 where
  here : {a c : Edge} → a ≡ c → Crossed next h es a c
  cross : {a b c : Edge} → Crossed next h es a b → is_hem h b ≡ false → In b es → next (flip b) ≡ c → Crossed next h es a c

module _ (next : Edge → Edge) (h es : List Edge) where
  crossed_first : {a v c : Edge} → next (flip a) ≡ v → is_hem h a ≡ false → In a es → Crossed next h es v c → Crossed next h es a c
  crossed_first e q m (here p) = cross (here refl) q m (e ∙ p)
  crossed_first e q m (cross r q' m' p) = cross (crossed_first e q m r) q' m' p

  pub turn_crossed :
      ((e : Edge) → In e es → is_hem h e ≡ false → In (next (flip e)) es)
      → (n : ℕ) (e : Edge) → In e es → Crossed next h es e (turn_from next h n e)
  unfolding turn_from
  turn_crossed i zero e m = here refl
  turn_crossed i (suc n) e m = go (is_hem h e) refl (turn_crossed i n (next (flip e)))
    where
      go :
          (b : Bool) → is_hem h e ≡ b → (In (next (flip e)) es → Crossed next h es (next (flip e)) (turn_from next h n (next (flip e))))
          → Crossed next h es e (elim b [ true ↦ e | false ↦ turn_from next h n (next (flip e)) ])
      go true q ih = here refl
      go false q ih = crossed_first refl q m (ih (i e m q))

  step_inner : (e : Edge) → is_hem h e ≡ false → step_in next h e ≡ next (flip e)
  step_inner e q = rw q

  step_hem : (e : Edge) → is_hem h e ≡ true → step_in next h e ≡ next e
  step_hem e q = rw q

  module _ (u : OneToOne (step_in next h) es) where
    -- two ways that meet: the one is the end of the other
    crossed_meet : {a b c : Edge} → Crossed next h es a c → Crossed next h es b c → Crossed next h es a b ⊎ Crossed next h es b a
    crossed_meet {b = b} (here p) s = inr (subst (Crossed next h es b) (sym p) s)
    crossed_meet {a = a} (cross r q m w) (here p) = inl (subst (Crossed next h es a) (sym p) (cross r q m w))
    crossed_meet {b = b} (cross {b = x} r q m p) (cross {b = y} s q' m' p') =
        let e : x ≡ y = u x y m m' (step_inner x q ∙ p ∙ sym p' ∙ sym (step_inner y q')) in
        crossed_meet r (subst (Crossed next h es b) (sym e) s)

    -- no crossing leads to where a hem edge leads
    crossed_hem :
        {a : Edge} (d e : Edge) → is_hem h d ≡ true → is_hem h e ≡ true → In d es → In e es → a ≡ next d → Crossed next h es a (next e) → d ≡ e
    crossed_hem d e p q m k z (here w) = u d e m k (step_hem d p ∙ sym z ∙ w ∙ sym (step_hem e q))
    crossed_hem d e p q m k z (cross {b = b} r n i w) =
        clash q (subst (λ x. is_hem h x ≡ false) (u b e i k (step_inner b n ∙ w ∙ sym (step_hem e q))) n)

    pub onward_apart :
        ((e : Edge) → In e es → is_hem h e ≡ false → In (next (flip e)) es) → ((e : Edge) → In e es → In (next e) es)
        → (n : ℕ) (d e : Edge) → is_hem h d ≡ true → is_hem h e ≡ true → In d es → In e es
        → onward_in next h n d ≡ onward_in next h n e → d ≡ e
    unfolding onward_in
    onward_apart i j n d e p q m k z =
        ⊎_elim
        (crossed_hem d e p q m k refl)
        (λ w. sym (crossed_hem e d q p k m refl w))
        (crossed_meet
        (turn_crossed i n (next d) (j d m))
        (subst (Crossed next h es (next e)) (sym z) (turn_crossed i n (next e) (j e k))))

-- ---- of faces

module _ (fs : List (List ℕ)) (ni : thrice (mesh_edges fs) ≡ false) (nr : alike (mesh_edges fs) ≡ false) where
  abbrev es : List Edge
  es = mesh_edges fs

  abbrev H : List Edge
  H = hems es

  abbrev next : Edge → Edge
  next = next_in (turns fs)

  next_goes : Round next es
  next_goes = next_round fs (edges_once es ni nr)

  pub next_in_lem : (e : Edge) → In e es → In (next e) es
  next_in_lem = round_in next es next_goes

  pub cross_next_in : (e : Edge) → In e es → is_hem H e ≡ false → In (next (flip e)) es
  cross_next_in e m q = next_in_lem (flip e) (twin es ni nr e m q)

  step_goes : Round (step_in next H) es
  step_goes = round_then (cross_in H) next es (cross_round es ni nr) next_goes

  -- the turning reaches a hem edge within as many steps as there are uses
  pub onward_hem : (e : Edge) → In e H → In (onward fs e) H
  unfolding onward
  onward_hem e m = onward_reaches next H es step_goes e (hem_edge es ni nr e m) m

  -- what follows a hem edge is one-to-one on hem edges
  pub onward_one : OneToOne (onward fs) H
  unfolding onward
  onward_one d e m k =
      onward_apart next H es (round_one (step_in next H) es step_goes (edges_once es ni nr)) cross_next_in next_in_lem (length es) d e m k
      (hem_edge es ni nr d m) (hem_edge es ni nr e k)

  -- so it goes round the hem edges
  pub onward_round : Round (onward fs) H
  onward_round = one_round (onward fs) H (hems_once es ni nr) onward_hem onward_one

  pub onward_crossed : (e : Edge) → In e H → Crossed next H es (next e) (onward fs e)
  unfolding onward onward_in
  onward_crossed e m = turn_crossed next H es cross_next_in (length es) (next e) (next_in_lem e (hem_edge es ni nr e m))

  -- crossing stays at the position that it turns about
  crossed_start : {a c : Edge} → Crossed next H es a c → c.0 ≡ a.0
  crossed_start (here p) = sym (ap (λ x. x.0) p)
  crossed_start (cross {b = b} r q m p) =
      sym (ap (λ x. x.0) p) ∙ next_start fs (flip b) (twin es ni nr b m q) ∙ crossed_start r

  -- and a hem edge starts where the one before it ends
  pub onward_start : (e : Edge) → In e H → (onward fs e).0 ≡ e.1
  onward_start e m = crossed_start (onward_crossed e m) ∙ next_start fs e (hem_edge es ni nr e m)
