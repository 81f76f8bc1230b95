-- Laws of `entry`, `follow` and `traces_in` over a list of edges: what is found is there, one step after the other, and steps enough
-- are enough. Assumes nothing.
use mathlib.Core.Path.{◌≡◌, refl, sym, ap, ◌∙◌}
use mathlib.Core.Bool.{Bool, true, false, cond}
use mathlib.Core.Option.{Option, none, some}
use mathlib.Core.List.{List, [], ◌∷◌}
use Prim.Native.Nat.{ℕ, zero, suc, ◌+◌, ◌*◌, ◌≤◌, ◌<◌}
use native.Mathlib.Omega.{arith}
use lib.Dec.{eqb}
use lib.ListN.{length, length-append}
use borrow.Author.Tests.{eqb-true, eq-eqb, ne_eqb}
use Rattle.lists.specs.Lists.{bump, joined, some as has_some}
use Rattle.lists.proofs.Bools.{or_left, or_right}
use Rattle.lists.proofs.Counting.{some_counted}
use Rattle.edges.specs.Edges.{Edge, same}
use Rattle.edges.proofs.SameEdge.{same_refl, found}
use Rattle.tracing.specs.Hems.{outs}
use Rattle.tracing.specs.Following.{least_start_lem, without, Walk, longer, entry, follow, traces_in}
use Rattle.tracing.specs.Tracing.{onward, taken, trace, trace_on, traces}
use Rattle.tracing.proofs.Balance.{without_count}
use Rattle.tracing.proofs.Starts.{start_some, taken_length}
use Rattle.tracing.proofs.Smallest.{AtMost, start_least}

-- ---- what is found

pub record Found (s : ℕ) (g : List Edge) (e : Edge) : Type 0 where
  pub begins : e.0 ≡ s
  pub among : has_some (same e) g ≡ true

pub entry_some : (s : ℕ) (g : List Edge) (e : Edge) → entry s g ≡ some e → Found s g e
entry_some s [] e q = absurd (let z : ◌≡◌ {A = ℕ} 0 1 = cc in omega arith)
entry_some s (x ∷ g) e q = go (eqb s x.0) refl q (entry_some s g e)
  where
    go : (b : Bool) → eqb s x.0 ≡ b → cond b (some x) (entry s g) ≡ some e → (entry s g ≡ some e → Found s g e) → Found s (x ∷ g) e
    go true p q ih =
        let y : x ≡ e = cc in
        record {
          begins = ap (λ (d : Edge). d.0) (sym y) ∙ sym (eqb-true s x.0 p);
          among = or_left (same e x) (has_some (same e) g) (rw y (same_refl e));
        }
    go false p q ih = let r : Found s g e = ih q in record { begins = r.begins; among = or_right (same e x) (has_some (same e) g) r.among }

pub entry_none : (s : ℕ) (g : List Edge) → entry s g ≡ none → outs s g ≡ 0
entry_none s [] q = refl
entry_none s (x ∷ g) q = go (eqb s x.0) q (entry_none s g)
  where
    go : (b : Bool) → cond b (some x) (entry s g) ≡ none → (entry s g ≡ none → outs s g ≡ 0) → bump b (outs s g) ≡ 0
    go true q ih = absurd (let z : ◌≡◌ {A = ℕ} 0 1 = cc in omega arith)
    go false q ih = ih q

pub found_less : (s : ℕ) (g : List Edge) (e : Edge) → entry s g ≡ some e → length g ≡ suc (length (without e g))
found_less s g e q = taken_length e g (entry_some s g e q).among

-- ---- one step

step_by : (n f c : ℕ) (g : List Edge) → Option Edge → Walk
step_by n f c g o =
    elim o [
      | none ↦ (c ∷ [], g)
      | some e ↦ elim (eqb f e.1) [ true ↦ (c ∷ [], without e g) | false ↦ longer c (follow n f e.1 (without e g)) ]
    ]

follow_step : (n f c : ℕ) (g : List Edge) → follow (suc n) f c g ≡ step_by n f c g (entry c g)
unfolding follow step_by
follow_step n f c g = refl

-- a wire is c, and then what comes on from where the entry of c leads to
pub trace_step : (f c : ℕ) (g : List Edge) → trace f c g ≡ longer c (trace_on f (onward f (entry c g)) (taken (entry c g) g))
unfolding trace trace_on step_by
trace_step f c g = follow_step (length g) f c g ∙ go (entry c g) refl
  where
    on : (e : Edge) (b : Bool) → entry c g ≡ some e → eqb f e.1 ≡ b
        → ◌≡◌ {A = Walk} (elim b [ true ↦ (c ∷ [], without e g) | false ↦ longer c (follow (length g) f e.1 (without e g)) ])
        (longer c (cond b ([], without e g) (follow (suc (length (without e g))) f e.1 (without e g))))
    on e true q p = refl
    on e false q p = rw (found_less c g e q)

    go : (o : Option Edge) → entry c g ≡ o → step_by (length g) f c g o ≡ longer c (trace_on f (onward f o) (taken o g))
    go none q = rw (eq-eqb f f refl)
    go (some e) q = on e (eqb f e.1) q refl

pub trace_home : (f : ℕ) (g : List Edge) → trace_on f f g ≡ ([], g)
unfolding trace_on
trace_home f g = rw (eq-eqb f f refl)

pub trace_away : (f c : ℕ) (g : List Edge) → (c ≡ f → ⊥) → trace_on f c g ≡ trace f c g
unfolding trace_on
trace_away f c g n = rw (ne_eqb f c (λ z. n (sym z)))

-- ---- steps enough are enough

step_none : (n m f c : ℕ) (g : List Edge) → step_by n f c g none ≡ step_by m f c g none
unfolding step_by
step_none n m f c g = refl

step_some :
    (n m f c : ℕ) (g : List Edge) (e : Edge) → follow n f e.1 (without e g) ≡ follow m f e.1 (without e g)
    → step_by n f c g (some e) ≡ step_by m f c g (some e)
unfolding step_by
step_some n m f c g e h = go (eqb f e.1)
  where
    go :
        (b : Bool)
        → ◌≡◌ {A = Walk} (elim b [ true ↦ (c ∷ [], without e g) | false ↦ longer c (follow n f e.1 (without e g)) ])
        (elim b [ true ↦ (c ∷ [], without e g) | false ↦ longer c (follow m f e.1 (without e g)) ])
    go true = refl
    go false = rw h

pub follow_enough : (n m f c : ℕ) (g : List Edge) → length g < n → length g < m → follow n f c g ≡ follow m f c g
follow_enough zero m f c g a b = absurd (omega arith)
follow_enough (suc n) zero f c g a b = absurd (omega arith)
follow_enough (suc n) (suc m) f c g a b =
    follow_step n f c g ∙ go (entry c g) refl (λ e. follow_enough n m f e.1 (without e g)) ∙ sym (follow_step m f c g)
  where
    go :
        (o : Option Edge) → entry c g ≡ o
        → ((e : Edge) → length (without e g) < n → length (without e g) < m → follow n f e.1 (without e g) ≡ follow m f e.1 (without e g))
        → step_by n f c g o ≡ step_by m f c g o
    go none q ih = step_none n m f c g
    go (some e) q ih =
        let l : length g ≡ suc (length (without e g)) = found_less c g e q in
        step_some n m f c g e (ih e (omega arith) (omega arith))

-- ---- how long a wire is, and how much it leaves

pub record Kept (g : List Edge) (w : Walk) : Type 0 where
  pub fewer : length w.1 ≤ length g
  pub long : length w.0 + length w.1 ≤ suc (length g)

-- from an entry
pub record Traced (g : List Edge) (w : Walk) : Type 0 where
  pub fewer : length w.1 < length g
  pub long : length w.0 + 2 * length w.1 ≤ 2 * length g

follow_none : (f c : ℕ) (g : List Edge) → follow zero f c g ≡ ([], g)
unfolding follow
follow_none f c g = refl

kept_none : (n f c : ℕ) (g : List Edge) → Kept g (step_by n f c g none)
unfolding step_by
kept_none n f c g = record { fewer = omega arith; long = omega arith }

traced_some :
    (n f c : ℕ) (g : List Edge) (e : Edge) → length g ≡ suc (length (without e g)) → Kept (without e g) (follow n f e.1 (without e g))
    → Traced g (step_by n f c g (some e)) × Kept g (step_by n f c g (some e))
unfolding step_by
traced_some n f c g e l k = go (eqb f e.1)
  where
    go :
        (b : Bool)
        → Traced g (elim b [ true ↦ (c ∷ [], without e g) | false ↦ longer c (follow n f e.1 (without e g)) ])
        × Kept g (elim b [ true ↦ (c ∷ [], without e g) | false ↦ longer c (follow n f e.1 (without e g)) ])
    go true = (record { fewer = omega arith; long = omega arith }, record { fewer = omega arith; long = omega arith })
    go false =
        let a : length (follow n f e.1 (without e g)).1 ≤ length (without e g) = k.fewer in
        let b : length (follow n f e.1 (without e g)).0 + length (follow n f e.1 (without e g)).1 ≤ suc (length (without e g)) = k.long in
        (record { fewer = omega arith; long = omega arith }, record { fewer = omega arith; long = omega arith })

kept : (n f c : ℕ) (g : List Edge) → Kept g (follow n f c g)
kept zero f c g = rw (follow_none f c g) (record { fewer = omega arith; long = omega arith })
kept (suc n) f c g = rw (follow_step n f c g) (go (entry c g) refl (λ e. kept n f e.1 (without e g)))
  where
    go : (o : Option Edge) → entry c g ≡ o → ((e : Edge) → Kept (without e g) (follow n f e.1 (without e g))) → Kept g (step_by n f c g o)
    go none q ih = kept_none n f c g
    go (some e) q ih = (traced_some n f c g e (found_less c g e q) (ih e)).1

traced : (n f c : ℕ) (g : List Edge) (e : Edge) → entry c g ≡ some e → Traced g (follow (suc n) f c g)
traced n f c g e q = rw (follow_step n f c g, q) (traced_some n f c g e (found_less c g e q) (kept n f e.1 (without e g))).0

pub trace_kept : (f c : ℕ) (g : List Edge) → Kept g (trace f c g)
unfolding trace
trace_kept f c g = kept (suc (length g)) f c g

-- a wire only takes away
bump_le : (b : Bool) (n : ℕ) → n ≤ bump b n
bump_le true n = omega arith
bump_le false n = omega arith

without_outs : (s c : ℕ) (g : List Edge) (e : Edge) → entry c g ≡ some e → outs s (without e g) ≤ outs s g
without_outs s c g e q =
    let w : outs s g ≡ bump (eqb s e.0) (outs s (without e g)) = without_count (λ x. eqb s x.0) e g (entry_some c g e q).among in
    rw w (bump_le (eqb s e.0) (outs s (without e g)))

step_stays : (n f c : ℕ) (g : List Edge) → step_by n f c g none ≡ (c ∷ [], g)
unfolding step_by
step_stays n f c g = refl

step_outs :
    (s n f c : ℕ) (g : List Edge) (e : Edge) → outs s (without e g) ≤ outs s g
    → outs s (follow n f e.1 (without e g)).1 ≤ outs s (without e g) → outs s (step_by n f c g (some e)).1 ≤ outs s g
unfolding step_by
step_outs s n f c g e a h = go (eqb f e.1)
  where
    go :
        (b : Bool)
        → outs s (elim b as (λ _. Walk) [ true ↦ (c ∷ [], without e g) | false ↦ longer c (follow n f e.1 (without e g)) ]).1 ≤ outs s g
    go true = a
    go false = omega arith

follow_outs : (s n f c : ℕ) (g : List Edge) → outs s (follow n f c g).1 ≤ outs s g
follow_outs s zero f c g = rw (follow_none f c g) (omega arith)
follow_outs s (suc n) f c g = rw (follow_step n f c g) (go (entry c g) refl (λ e. follow_outs s n f e.1 (without e g)))
  where
    go :
        (o : Option Edge) → entry c g ≡ o → ((e : Edge) → outs s (follow n f e.1 (without e g)).1 ≤ outs s (without e g))
        → outs s (step_by n f c g o).1 ≤ outs s g
    go none q ih = rw (ap (λ (w : Walk). outs s w.1) (step_stays n f c g)) (omega arith)
    go (some e) q ih = step_outs s n f c g e (without_outs s c g e q) (ih e)

pub trace_outs : (s f c : ℕ) (g : List Edge) → outs s (trace f c g).1 ≤ outs s g
unfolding trace
trace_outs s f c g = follow_outs s (suc (length g)) f c g

-- ---- the smallest start: it has an entry, and none that has one is smaller

pub entry_outs : (s : ℕ) (g : List Edge) (e : Edge) → entry s g ≡ some e → 0 < outs s g
entry_outs s [] e q = absurd (let z : ◌≡◌ {A = ℕ} 0 1 = cc in omega arith)
entry_outs s (x ∷ g) e q = go (eqb s x.0) q (entry_outs s g e)
  where
    go : (b : Bool) → cond b (some x) (entry s g) ≡ some e → (entry s g ≡ some e → 0 < outs s g) → 0 < bump b (outs s g)
    go true q ih = omega arith
    go false q ih = ih q

some_same : (a b : ℕ) → ◌≡◌ {A = Option ℕ} (some a) (some b) → a ≡ b
some_same a b e = cc

pub start_le : (g : List Edge) (s q : ℕ) → least_start_lem g ≡ some s → 0 < outs q g → s ≤ q
start_le g s q e l =
    let r : (d : Edge) × (eqb q d.0 ≡ true) × (has_some (same d) g ≡ true) = found (λ d. eqb q d.0) g (some_counted (λ d. eqb q d.0) g l) in
    let m : AtMost (least_start_lem g) r.0.0 = start_least r.0 g r.2 in
    let a : s ≡ m.0 = some_same s m.0 (sym e ∙ m.1) in
    let b : q ≡ r.0.0 = eqb-true q r.0.0 r.1 in
    omega (arith, m.2)

start_entry : (g : List Edge) (s : ℕ) → least_start_lem g ≡ some s → (e : Edge) × (entry s g ≡ some e)
start_entry g s q = go (entry s g) refl
  where
    go : (o : Option Edge) → entry s g ≡ o → (e : Edge) × (entry s g ≡ some e)
    go none p = absurd (let a : outs s g ≡ 0 = entry_none s g p in let b : 0 < outs s g = start_some g s q in omega arith)
    go (some e) p = (e, p)

pub start_traced : (n s : ℕ) (g : List Edge) → least_start_lem g ≡ some s → Traced g (follow (suc n) s s g)
start_traced n s g q = let r : (e : Edge) × (entry s g ≡ some e) = start_entry g s q in traced n s s g r.0 r.1

-- ---- all wires

wires_by : (n m : ℕ) (g : List Edge) → Option ℕ → List (List ℕ)
wires_by n m g o = elim o [ none ↦ [] | some s ↦ (follow m s s g).0 ∷ traces_in n m (follow m s s g).1 ]

traces_step_in : (n m : ℕ) (g : List Edge) → traces_in (suc n) m g ≡ wires_by n m g (least_start_lem g)
unfolding traces_in wires_by
traces_step_in n m g = refl

wires_none : (n m : ℕ) (g : List Edge) → wires_by n m g none ≡ []
unfolding wires_by
wires_none n m g = refl

wires_some : (n m : ℕ) (g : List Edge) (s : ℕ) → wires_by n m g (some s) ≡ (follow m s s g).0 ∷ traces_in n m (follow m s s g).1
unfolding wires_by
wires_some n m g s = refl

traces_nothing : (n m : ℕ) → traces_in n m [] ≡ []
unfolding traces_in
traces_nothing zero m = refl
traces_nothing (suc n) m = refl

traces_few : (n n' m m' : ℕ) (g : List Edge) → length g ≤ 0 → traces_in n m g ≡ traces_in n' m' g
traces_few n n' m m' [] a = traces_nothing n m ∙ sym (traces_nothing n' m')
traces_few n n' m m' (x ∷ g) a = absurd (omega arith)

pub traces_enough :
    (n n' m m' : ℕ) (g : List Edge) → length g ≤ n → length g ≤ n' → length g ≤ m → length g ≤ m' → traces_in n (suc m) g ≡ traces_in n' (suc m') g
traces_enough zero n' m m' g a a' b b' = traces_few zero n' (suc m) (suc m') g a
traces_enough (suc n) zero m m' g a a' b b' = traces_few (suc n) zero (suc m) (suc m') g a'
traces_enough (suc n) (suc n') m m' g a a' b b' =
    traces_step_in n (suc m) g ∙ go (least_start_lem g) refl (λ h. traces_enough n n' m m' h) ∙ sym (traces_step_in n' (suc m') g)
  where
    go :
        (o : Option ℕ) → least_start_lem g ≡ o
        → ((h : List Edge) → length h ≤ n → length h ≤ n' → length h ≤ m → length h ≤ m' → traces_in n (suc m) h ≡ traces_in n' (suc m') h)
        → wires_by n (suc m) g o ≡ wires_by n' (suc m') g o
    go none q ih = wires_none n (suc m) g ∙ sym (wires_none n' (suc m') g)
    go (some s) q ih =
        let e : follow (suc m) s s g ≡ follow (suc m') s s g = follow_enough (suc m) (suc m') s s g (omega arith) (omega arith) in
        let l : length (follow (suc m) s s g).1 < length g = (start_traced m s g q).fewer in
        wires_some n (suc m) g s
        ∙ ap (λ (ws : List (List ℕ)). (follow (suc m) s s g).0 ∷ ws) (ih (follow (suc m) s s g).1 (omega arith) (omega arith) (omega arith) (omega arith))
        ∙ ap (λ (w : Walk). w.0 ∷ traces_in n' (suc m') w.1) e
        ∙ sym (wires_some n' (suc m') g s)

-- the wire from the smallest start, and then the wires of what it leaves
pub traces_step : (g : List Edge) (s : ℕ) → least_start_lem g ≡ some s → traces g ≡ (trace s s g).0 ∷ traces (trace s s g).1
unfolding traces trace
traces_step [] s q = absurd (let z : ◌≡◌ {A = ℕ} 0 1 = cc in omega arith)
traces_step (x ∷ g) s q = go (length g) (follow (suc (suc (length g))) s s (x ∷ g)).1 refl (start_traced (suc (length g)) s (x ∷ g) q).fewer
  where
    go :
        (n : ℕ) (h : List Edge) → (follow (suc (suc n)) s s (x ∷ g)).1 ≡ h → length h < suc n
        → traces_in (suc n) (suc (suc n)) (x ∷ g) ≡ (follow (suc (suc n)) s s (x ∷ g)).0 ∷ traces_in (length h) (suc (length h)) h
    go n h e l =
        traces_step_in n (suc (suc n)) (x ∷ g)
        ∙ ap (wires_by n (suc (suc n)) (x ∷ g)) q
        ∙ wires_some n (suc (suc n)) (x ∷ g) s
        ∙ ap (λ (ws : List (List ℕ)). (follow (suc (suc n)) s s (x ∷ g)).0 ∷ ws)
        (ap (traces_in n (suc (suc n))) e ∙ traces_enough n (length h) (suc n) (length h) h (omega arith) (omega arith) (omega arith) (omega arith))

pub traces_end : (g : List Edge) → g ≡ [] → traces g ≡ []
traces_end g e = ap traces e ∙ unfold traces in traces_nothing 0 1

-- room enough for any wires: two numbers and one wire for each edge
pub record Roomy (g : List Edge) (ws : List (List ℕ)) : Type 0 where
  pub numbers : length (joined ws) ≤ 2 * length g
  pub wires : length ws ≤ length g

traces_zero : (m : ℕ) (g : List Edge) → traces_in zero m g ≡ []
unfolding traces_in
traces_zero m g = refl

roomy_nothing : (g : List Edge) → Roomy g []
roomy_nothing g = record { numbers = omega arith; wires = omega arith }

roomy_in : (n m : ℕ) (g : List Edge) → Roomy g (traces_in n (suc m) g)
roomy_in zero m g = rw (traces_zero (suc m) g) (roomy_nothing g)
roomy_in (suc n) m g = rw (traces_step_in n (suc m) g) (go (least_start_lem g) refl (λ h. roomy_in n m h))
  where
    go : (o : Option ℕ) → least_start_lem g ≡ o → ((h : List Edge) → Roomy h (traces_in n (suc m) h)) → Roomy g (wires_by n (suc m) g o)
    go none q ih = rw (wires_none n (suc m) g) (roomy_nothing g)
    go (some s) q ih =
        let w : Walk = follow (suc m) s s g in
        let k : Traced g (follow (suc m) s s g) = start_traced m s g q in
        let r : Roomy (follow (suc m) s s g).1 (traces_in n (suc m) (follow (suc m) s s g).1) = ih (follow (suc m) s s g).1 in
        rw (wires_some n (suc m) g s)
        (record {
          numbers = omega (arith, k.long, r.numbers, length-append (follow (suc m) s s g).0 (joined (traces_in n (suc m) (follow (suc m) s s g).1)));
          wires = omega (arith, k.fewer, r.wires);
        })

pub traces_roomy : (g : List Edge) → Roomy g (traces g)
unfolding traces
traces_roomy g = roomy_in (length g) (length g) g
