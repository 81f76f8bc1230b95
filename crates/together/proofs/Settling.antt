-- The groups, one after the other: where each point of the first k groups is sent. Assumes nothing.
use mathlib.Core.Path.{◌≡◌, refl, sym, ap, ◌∙◌, subst}
use mathlib.Core.Bool.{Bool, true, false, ◌||◌}
use mathlib.Core.List.{List, [], ◌∷◌, ◌++◌}
use Prim.Native.Nat.{ℕ, ◌+◌, ◌≤◌, ◌<◌}
use native.Mathlib.Omega.{arith}
use native.Mathlib.Numerals.{add-one}
use lib.Dec.{eqb}
use lib.ListN.{length, get_or}
use lib.Seq.{slice}
use lib.Ieee.{Float}
use Rattle.lists.specs.Lists.{has, joined}
use Rattle.lists.proofs.Bools.{by_cases, true_false, or_false_left, or_false_right}
use Rattle.lists.proofs.Parts.{some_append, joined_snoc}
use Rattle.nearby.specs.Engine.{start_of, group_at, laid_out}
use Rattle.nearby.proofs.Laying.{laid_more}
use Rattle.together.specs.Centre.{representative, sent_to}
use Rattle.together.specs.Working.{Grouped, InGroups, Sent, Settled}

-- ---- where a point is sent

module _ (w : ℕ) (s : List Float) (k : ℕ) where
  -- a point that a group has is sent by it, whatever groups come after
  sent_earlier : (gs hs : List (List ℕ)) → has k (joined gs) ≡ true → sent_to w s (gs ++ hs) k ≡ sent_to w s gs k
  unfolding sent_to
  sent_earlier [] hs e = true_false (sym e)
  sent_earlier (g ∷ gs) hs e =
      by_cases (has k g)
      (λ t. rw t)
      (λ t. rw t (sent_earlier gs hs (sym (some_append (eqb k) g (joined gs) ∙ ap (λ (b : Bool). b || has k (joined gs)) t) ∙ e)))

  -- one that no earlier group has is sent by the last
  sent_last : (gs : List (List ℕ)) (g : List ℕ) → has k (joined gs) ≡ false → has k g ≡ true → sent_to w s (gs ++ (g ∷ [])) k ≡ representative w s g
  unfolding sent_to
  sent_last [] g e f = rw f
  sent_last (h ∷ gs) g e f =
      let both : (has k h || has k (joined gs)) ≡ false = sym (some_append (eqb k) h (joined gs)) ∙ e in
      rw (or_false_left (has k h) (has k (joined gs)) both) (sent_last gs g (or_false_right (has k h) (has k (joined gs)) both) f)

-- ---- the first k groups are settled

pub record Settling (w n : ℕ) (s : List Float) (order ends map₀ map : List ℕ) (c from k : ℕ) : Type 0 where
  pub upto : k ≤ c
  pub start : from ≡ start_of ends k
  pub long : length map ≡ length map₀
  pub sent : (j : ℕ) → j < n → has j (joined (laid_out order ends k)) ≡ true → get_or map j 0 ≡ sent_to w s (laid_out order ends k) j
  pub small : (j : ℕ) → j < n → has j (joined (laid_out order ends k)) ≡ true → get_or map j 0 < n

pub settle_begins : (w n : ℕ) (s : List Float) (order ends map : List ℕ) (c : ℕ) → Settling w n s order ends map map c 0 0
unfolding laid_out
settle_begins w n s order ends map c = record { upto = omega arith; start = refl; long = refl; sent = λ j l e. true_false (sym e); small = λ j l e. true_false (sym e) }

module _ {w n : ℕ} {s : List Float} {order ends map₀ map : List ℕ} {c from k : ℕ} (p : InGroups w n s order ends c) (g : Settling w n s order ends map₀ map c from k) where
  -- group k is one of points
  module _ (l : k < c) where
    pub grouped : Grouped w n s order from (get_or ends k 0)
    grouped = record {
      least = p.least;
      most = p.most;
      few = p.few;
      long = p.long;
      some = omega (arith, g.start, p.laid.rising k l);
      room = omega (arith, p.order_room, p.laid.upto k l);
      within = λ j h. p.laid.within j (let z : j < get_or ends k 0 = h in omega (arith, p.laid.upto k l));
    }

    abbrev group : List ℕ
    group = group_at order ends k

    abbrev old : List (List ℕ)
    old = laid_out order ends k

    more : laid_out order ends (k + 1) ≡ old ++ (group ∷ [])
    more = laid_more order ends k

    has_more : (j : ℕ) → has j (joined (laid_out order ends (k + 1))) ≡ (has j (joined old) || has j group)
    has_more j = ap (λ (x : List (List ℕ)). has j (joined x)) more ∙ ap (has j) (joined_snoc old group) ∙ some_append (eqb j) (joined old) group

    own : (j : ℕ) → has j (joined (laid_out order ends (k + 1))) ≡ true → has j (joined old) ≡ false → has j group ≡ true
    own j e f = sym (ap (λ (q : Bool). q || has j group) f) ∙ sym (has_more j) ∙ e

    pub settle_turns : {map' : List ℕ} → Sent w n s (slice from (get_or ends k 0) order) map map' → Settling w n s order ends map₀ map' c (get_or ends k 0) (k + 1)
    settle_turns {map'} x =
        let y : Sent w n s group map map' = subst (λ (q : ℕ). Sent w n s (slice q (get_or ends k 0) order) map map') g.start x in
        record {
          upto = omega arith;
          start = ap (start_of ends) (sym (add-one k));
          long = y.long ∙ g.long;
          sent = λ j h e. sent_more y j h e ∙ ap (λ (q : List (List ℕ)). sent_to w s q j) (sym more);
          small = small_more y;
        }
      where
        sent_more : Sent w n s group map map' → (j : ℕ) → j < n → has j (joined (laid_out order ends (k + 1))) ≡ true → get_or map' j 0 ≡ sent_to w s (old ++ (group ∷ [])) j
        sent_more y j h e =
            by_cases (has j (joined old))
            (λ t. y.others j (p.laid.apart k j l t) ∙ g.sent j h t ∙ sym (sent_earlier w s j old (group ∷ []) t))
            (λ t. y.own j h (own j e t) ∙ sym (sent_last w s j old group t (own j e t)))

        small_more : Sent w n s group map map' → (j : ℕ) → j < n → has j (joined (laid_out order ends (k + 1))) ≡ true → get_or map' j 0 < n
        small_more y j h e =
            by_cases (has j (joined old))
            (λ t. let z : get_or map' j 0 ≡ get_or map j 0 = y.others j (p.laid.apart k j l t) in let q : get_or map j 0 < n = g.small j h t in omega arith)
            (λ t. let z : get_or map' j 0 ≡ representative w s group = y.own j h (own j e t) in omega (arith, y.small))

  -- all are settled
  pub settle_ends : c ≤ k → Settled n (sent_to w s (laid_out order ends c)) map₀ map
  settle_ends h =
      let e : k ≡ c = omega (arith, g.upto) in
      let here : (j : ℕ) → j < n → has j (joined (laid_out order ends k)) ≡ true = λ j l. ap (λ (x : ℕ). has j (joined (laid_out order ends x))) e ∙ p.laid.all j l in
      record {
        long = g.long;
        each = λ j l. g.sent j l (here j l) ∙ ap (λ (x : ℕ). sent_to w s (laid_out order ends x) j) e;
        small = λ j l. g.small j l (here j l);
      }
