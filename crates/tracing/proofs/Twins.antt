-- Two lists of edges that have the same edges at each start, in the same order, have the same wires. Assumes nothing.
use mathlib.Core.Path.{◌≡◌, refl, sym, ap, ap₂, ◌∙◌}
use mathlib.Core.Bool.{Bool, true, false, cond}
use mathlib.Core.Option.{Option, none, some}
use mathlib.Core.List.{List, [], ◌∷◌}
use Prim.Native.Nat.{ℕ, zero, suc, ◌≤◌, ◌<◌}
use native.Mathlib.Omega.{arith}
use lib.Dec.{eqb}
use lib.ListN.{length}
use borrow.Author.Tests.{eqb-true, eqb-false, ne_eqb}
use Rattle.lists.specs.Lists.{bump, keep_if, only}
use Rattle.edges.specs.Edges.{Edge, same}
use Rattle.edges.proofs.SameEdge.{same_true}
use Rattle.tracing.specs.Hems.{outs}
use Rattle.tracing.specs.Following.{least_start_lem, without, Walk, longer, entry, follow, traces_in}
use Rattle.tracing.proofs.Starts.{start_none, start_some}
use Rattle.tracing.proofs.Entries.{start_le}

-- the edges that start at s
abbrev pub from : ℕ → List Edge → List Edge
from s g = only (λ e. eqb s e.0) g

pub record Twin (g g' : List Edge) : Type 0 where
  pub at : (s : ℕ) → from s g ≡ from s g'

-- ---- an entry, and what is left without one, go by the edges at a start

head : List Edge → Option Edge
head [] = none
head (e ∷ g) = some e

entry_head : (s : ℕ) (g : List Edge) → entry s g ≡ head (from s g)
unfolding head
entry_head s [] = refl
entry_head s (e ∷ g) = go (eqb s e.0) (entry_head s g)
  where
    go : (b : Bool) → entry s g ≡ head (from s g) → cond b (some e) (entry s g) ≡ head (keep_if b e (from s g))
    go true h = refl
    go false h = h

-- elsewhere an edge is not to be found
without_else : (s : ℕ) (e : Edge) (g : List Edge) → (s ≡ e.0 → ⊥) → without e (from s g) ≡ from s g
without_else s e [] n = refl
without_else s e (x ∷ g) n = go (eqb s x.0) refl (without_else s e g n)
  where
    go : (b : Bool) → eqb s x.0 ≡ b → without e (from s g) ≡ from s g → without e (keep_if b x (from s g)) ≡ keep_if b x (from s g)
    go true q h =
        let d : eqb e.0 x.0 ≡ false = ne_eqb e.0 x.0 (λ z. n (eqb-true s x.0 q ∙ sym z)) in
        rw (d, h)
    go false q h = h

from_without : (s : ℕ) (e : Edge) (g : List Edge) → from s (without e g) ≡ without e (from s g)
from_without s e [] = refl
from_without s e (x ∷ g) = go (same e x) refl (eqb s x.0) refl (from_without s e g)
  where
    go :
        (a : Bool) → same e x ≡ a → (b : Bool) → eqb s x.0 ≡ b → from s (without e g) ≡ without e (from s g)
        → from s (cond a g (x ∷ without e g)) ≡ without e (keep_if b x (from s g))
    go true p true q h = rw p
    go true p false q h =
        sym (without_else s e g (λ z. eqb-false s x.0 q (z ∙ ap (λ (d : Edge). d.0) (same_true e x p))))
    go false p true q h = rw (p, q, h)
    go false p false q h = rw q h

pub outs_from : (s : ℕ) (g : List Edge) → outs s g ≡ length (from s g)
outs_from s [] = refl
outs_from s (x ∷ g) = go (eqb s x.0) (outs_from s g)
  where
    go : (b : Bool) → outs s g ≡ length (from s g) → bump b (outs s g) ≡ length (keep_if b x (from s g))
    go true h = ap suc h
    go false h = h

-- ---- twins

module _ {g g' : List Edge} (t : Twin g g') where
  pub twin_entry : (s : ℕ) → entry s g ≡ entry s g'
  twin_entry s = entry_head s g ∙ ap head (t.at s) ∙ sym (entry_head s g')

  pub twin_without : (e : Edge) → Twin (without e g) (without e g')
  twin_without e = record { at = λ s. from_without s e g ∙ ap (without e) (t.at s) ∙ sym (from_without s e g') }

  twin_outs : (s : ℕ) → outs s g ≡ outs s g'
  twin_outs s = outs_from s g ∙ ap length (t.at s) ∙ sym (outs_from s g')

  -- a start of the one is a start of the other
  over_there : (s : ℕ) → least_start_lem g ≡ some s → 0 < outs s g'
  over_there s p = let a : 0 < outs s g = start_some g s p in let b : outs s g ≡ outs s g' = twin_outs s in omega arith

  over_here : (s : ℕ) → least_start_lem g' ≡ some s → 0 < outs s g
  over_here s p = let a : 0 < outs s g' = start_some g' s p in let b : outs s g ≡ outs s g' = twin_outs s in omega arith

  pub twin_start : least_start_lem g ≡ least_start_lem g'
  twin_start = go (least_start_lem g) (least_start_lem g') refl refl
    where
      go : (o o' : Option ℕ) → least_start_lem g ≡ o → least_start_lem g' ≡ o' → o ≡ o'
      go none none p q = refl
      go none (some s) p q =
          absurd (let a : 0 < outs s g = over_here s q in let b : outs s g ≡ 0 = ap (outs s) (start_none g p) in omega arith)
      go (some s) none p q =
          absurd (let a : 0 < outs s g' = over_there s p in let b : outs s g' ≡ 0 = ap (outs s) (start_none g' q) in omega arith)
      go (some s) (some r) p q =
          let e : s ≤ r = start_le g s r p (over_here r q) in
          let f : r ≤ s = start_le g' r s q (over_there s p) in
          ap some (omega arith)

-- ---- the same wires

pub record TwinWalk (w w' : Walk) : Type 0 where
  pub wire : w.0 ≡ w'.0
  pub rest : Twin w.1 w'.1

pub twin_follow : (n f c : ℕ) {g g' : List Edge} → Twin g g' → TwinWalk (follow n f c g) (follow n f c g')
unfolding follow
twin_follow zero f c t = record { wire = refl; rest = t }
twin_follow (suc n) f c {g} {g'} t =
    rw (← twin_entry t c, follow) (go (entry c g) (λ e. twin_follow n f e.1 (twin_without t e)))
  where
    go :
        (o : Option Edge) → ((e : Edge) → TwinWalk (follow n f e.1 (without e g)) (follow n f e.1 (without e g')))
        → TwinWalk
        (elim o [
          | none ↦ (c ∷ [], g)
          | some e ↦ elim (eqb f e.1) [ true ↦ (c ∷ [], without e g) | false ↦ longer c (follow n f e.1 (without e g)) ]
        ])
        (elim o [
          | none ↦ (c ∷ [], g')
          | some e ↦ elim (eqb f e.1) [ true ↦ (c ∷ [], without e g') | false ↦ longer c (follow n f e.1 (without e g')) ]
        ])
    go none ih = record { wire = refl; rest = t }
    go (some e) ih = close (eqb f e.1)
      where
        close :
            (b : Bool)
            → TwinWalk (elim b [ true ↦ (c ∷ [], without e g) | false ↦ longer c (follow n f e.1 (without e g)) ])
            (elim b [ true ↦ (c ∷ [], without e g') | false ↦ longer c (follow n f e.1 (without e g')) ])
        close true = record { wire = refl; rest = twin_without t e }
        close false = let r : _ = ih e in record { wire = ap (λ l. c ∷ l) r.wire; rest = r.rest }

pub twin_traces : (n m : ℕ) {g g' : List Edge} → Twin g g' → traces_in n m g ≡ traces_in n m g'
unfolding traces_in
twin_traces zero m t = refl
twin_traces (suc n) m {g} {g'} t =
    rw (← twin_start t, traces_in) (go (least_start_lem g) (λ s. twin_follow m s s t) (λ h h' q. twin_traces n m {g = h} {g' = h'} q))
  where
    go :
        (o : Option ℕ) → ((s : ℕ) → TwinWalk (follow m s s g) (follow m s s g')) → ((h h' : List Edge) → Twin h h' → traces_in n m h ≡ traces_in n m h')
        → ◌≡◌ {A = List (List ℕ)} (elim o [ none ↦ [] | some s ↦ let w : Walk = follow m s s g in w.0 ∷ traces_in n m w.1 ])
        (elim o [ none ↦ [] | some s ↦ let w : Walk = follow m s s g' in w.0 ∷ traces_in n m w.1 ])
    go none f ih = refl
    go (some s) f ih = ap₂ (λ (w : List ℕ) (ws : List (List ℕ)). w ∷ ws) (f s).wire (ih (follow m s s g).1 (follow m s s g').1 (f s).rest)
