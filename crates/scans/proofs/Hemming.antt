-- The hem edges while they are written: what stands there, with what is left, is all of it. Assumes nothing.
use mathlib.Core.Path.{◌≡◌, refl, sym, ap, ◌∙◌, subst}
use mathlib.Core.Bool.{Bool, true, false, cond, not}
use mathlib.Core.List.{List, [], ◌∷◌, ◌++◌, map, map-append}
use Prim.Native.Nat.{ℕ, ◌+◌, ◌≤◌, ◌<◌}
use native.Mathlib.Nat.{add-zero}
use native.Mathlib.Numerals.{add-one}
use native.Mathlib.Omega.{arith}
use lib.ListN.{length, get_or, drop, length-map, drop_of_length-le}
use lib.Seq.{sets, drop-cons}
use Rattle.lists.specs.Lists.{keep_if}
use Rattle.lists.proofs.Growing.{Growing, grow_part}
use Rattle.uses.specs.Uses.{goes_on}
use Rattle.scans.specs.Runs.{hems_at, odd_after, last_odd, start_at, end_at, Put, HemStep}
use Rattle.scans.specs.declared.Place.{Place}

module _ (lowers highers downs : List ℕ) where
  -- a use that is not the last of its edge; the last of an odd number; the last of an even number
  module _ (u : ℕ) (us : List ℕ) (o b : Bool) (on : b ≡ goes_on lowers highers u us) (at : ℕ) (starts ends : List ℕ) where
    abbrev Step : Bool → ℕ → List ℕ → List ℕ → Type 0
    Step o' next starts' ends' = HemStep lowers highers downs o u us at o' next starts ends starts' ends'

    pub hem_goes_on : b ≡ true → Step (not o) at starts ends
    unfolding odd_after hems_at
    hem_goes_on h =
        let e : goes_on lowers highers u us ≡ true = sym on ∙ h in record {
          parity = ap (λ (t : Bool). cond t (not o) false) (sym e);
          put =
              subst (λ (t : Bool). Put lowers highers downs (cond t [] (keep_if (not o) u [])) at at starts ends starts ends) (sym e)
              (record { behind = sym (add-zero at); starting = refl; ending = refl });
        }

    pub hem_odd :
        (v next : ℕ) (starts' ends' : List ℕ) → b ≡ false → not o ≡ true → v ≡ u → next ≡ at + 1 → Put lowers highers downs (v ∷ []) at (at + 1) starts ends starts' ends'
        → Step false next starts' ends'
    unfolding odd_after hems_at
    hem_odd v next starts' ends' h q w n p =
        let e : goes_on lowers highers u us ≡ false = sym on ∙ h in record {
          parity = ap (λ (t : Bool). cond t (not o) false) (sym e);
          put =
              subst (λ (t : Bool). Put lowers highers downs (cond t [] (keep_if (not o) u [])) at next starts ends starts' ends') (sym e)
              (subst (λ (t : Bool). Put lowers highers downs (keep_if t u []) at next starts ends starts' ends') (sym q)
              (subst (λ (k : ℕ). Put lowers highers downs (u ∷ []) at k starts ends starts' ends') (sym n)
              (subst (λ (x : ℕ). Put lowers highers downs (x ∷ []) at (at + 1) starts ends starts' ends') w p)));
        }

    pub hem_even : b ≡ false → not o ≡ false → Step false at starts ends
    unfolding odd_after hems_at
    hem_even h q =
        let e : goes_on lowers highers u us ≡ false = sym on ∙ h in record {
          parity = ap (λ (t : Bool). cond t (not o) false) (sym e);
          put =
              subst (λ (t : Bool). Put lowers highers downs (cond t [] (keep_if (not o) u [])) at at starts ends starts ends) (sym e)
              (subst (λ (t : Bool). Put lowers highers downs (keep_if t u []) at at starts ends starts ends) (sym q)
              (record { behind = sym (add-zero at); starting = refl; ending = refl }));
        }

-- the loop
pub record Hemming (lowers highers downs order starts₀ ends₀ starts ends : List ℕ) (p : Place) (i : ℕ) : Type 0 where
  pub within : i ≤ length order
  pub small : p.count ≤ i
  pub starting :
      Growing starts₀ starts 0 p.count (map (start_at lowers highers downs) (last_odd lowers highers false order))
      (map (start_at lowers highers downs) (last_odd lowers highers p.odd (drop i order)))
  pub ending :
      Growing ends₀ ends 0 p.count (map (end_at lowers highers downs) (last_odd lowers highers false order))
      (map (end_at lowers highers downs) (last_odd lowers highers p.odd (drop i order)))

module _ (lowers highers downs order starts₀ ends₀ : List ℕ) where
  -- at most one is written for each use
  hems_few : (o : Bool) (u : ℕ) (us : List ℕ) → length (hems_at lowers highers o u us) ≤ 1
  unfolding hems_at
  hems_few o u us = go (goes_on lowers highers u us) (not o)
    where
      go : (s t : Bool) → length (cond s [] (keep_if t u [])) ≤ 1
      go true t = omega arith
      go false true = omega arith
      go false false = omega arith

  module _ (starts ends starts' ends' : List ℕ) (p q : Place) (i : ℕ) (h : i < length order) where
    -- the uses that are left
    step_left : (f : ℕ → ℕ) → q.odd ≡ odd_after lowers highers p.odd (get_or order i 0) (drop (i + 1) order)
        → map f (last_odd lowers highers p.odd (drop i order))
        ≡ map f (hems_at lowers highers p.odd (get_or order i 0) (drop (i + 1) order)) ++ map f (last_odd lowers highers q.odd (drop (i + 1) order))
    unfolding last_odd
    step_left f e =
        ap (λ (l : List ℕ). map f (last_odd lowers highers p.odd l)) (drop-cons order i 0 h ∙ ap (λ (n : ℕ). get_or order i 0 ∷ drop n order) (sym (add-one i)))
        ∙ map-append f (hems_at lowers highers p.odd (get_or order i 0) (drop (i + 1) order))
        (last_odd lowers highers (odd_after lowers highers p.odd (get_or order i 0) (drop (i + 1) order)) (drop (i + 1) order))
        ∙ ap (λ (o : Bool). map f (hems_at lowers highers p.odd (get_or order i 0) (drop (i + 1) order)) ++ map f (last_odd lowers highers o (drop (i + 1) order))) (sym e)

    step_column : (f : ℕ → ℕ) (l₀ l l' all : List ℕ) → q.odd ≡ odd_after lowers highers p.odd (get_or order i 0) (drop (i + 1) order)
        → q.count ≡ p.count + length (hems_at lowers highers p.odd (get_or order i 0) (drop (i + 1) order))
        → l' ≡ sets l p.count (map f (hems_at lowers highers p.odd (get_or order i 0) (drop (i + 1) order)))
        → Growing l₀ l 0 p.count all (map f (last_odd lowers highers p.odd (drop i order)))
        → Growing l₀ l' 0 q.count all (map f (last_odd lowers highers q.odd (drop (i + 1) order)))
    step_column f l₀ l l' all e n w g =
        let new : List ℕ = hems_at lowers highers p.odd (get_or order i 0) (drop (i + 1) order) in
        let left : List ℕ = map f (last_odd lowers highers q.odd (drop (i + 1) order)) in
        let k : p.count + length (map f new) ≡ q.count = ap (λ (m : ℕ). p.count + m) (length-map new f) ∙ sym n in
        subst (λ (t : List ℕ). Growing l₀ t 0 q.count all left) (sym w)
        (subst (λ (m : ℕ). Growing l₀ (sets l p.count (map f new)) 0 m all left) k
        (grow_part l₀ l 0 p.count all (map f new) left (subst (λ (t : List ℕ). Growing l₀ l 0 p.count all t) (step_left f e) g)))

    pub hem_turns :
        HemStep lowers highers downs p.odd (get_or order i 0) (drop (i + 1) order) p.count q.odd q.count starts ends starts' ends'
        → Hemming lowers highers downs order starts₀ ends₀ starts ends p i → Hemming lowers highers downs order starts₀ ends₀ starts' ends' q (i + 1)
    hem_turns s w =
        let few : length (hems_at lowers highers p.odd (get_or order i 0) (drop (i + 1) order)) ≤ 1 = hems_few p.odd (get_or order i 0) (drop (i + 1) order) in
        let n : q.count ≡ p.count + length (hems_at lowers highers p.odd (get_or order i 0) (drop (i + 1) order)) = s.put.behind in
        record {
          within = omega arith;
          small = omega (arith, w.small);
          starting =
              step_column (start_at lowers highers downs) starts₀ starts starts' (map (start_at lowers highers downs) (last_odd lowers highers false order))
              s.parity n s.put.starting w.starting;
          ending =
              step_column (end_at lowers highers downs) ends₀ ends ends' (map (end_at lowers highers downs) (last_odd lowers highers false order))
              s.parity n s.put.ending w.ending;
        }

  pub hem_ends :
      (starts ends : List ℕ) (p : Place) (i : ℕ) → length order ≤ i → Hemming lowers highers downs order starts₀ ends₀ starts ends p i
      → Put lowers highers downs (last_odd lowers highers false order) 0 p.count starts₀ ends₀ starts ends
  unfolding last_odd
  hem_ends starts ends p i h w =
      let none : (f : ℕ → ℕ) → map f (last_odd lowers highers p.odd (drop i order)) ≡ [] = λ f. ap (λ (l : List ℕ). map f (last_odd lowers highers p.odd l)) (drop_of_length-le order h) in
      let s : Growing starts₀ starts 0 p.count (map (start_at lowers highers downs) (last_odd lowers highers false order)) [] =
      subst (λ (t : List ℕ). Growing starts₀ starts 0 p.count (map (start_at lowers highers downs) (last_odd lowers highers false order)) t) (none (start_at lowers highers downs)) w.starting in
      let e : Growing ends₀ ends 0 p.count (map (end_at lowers highers downs) (last_odd lowers highers false order)) [] =
      subst (λ (t : List ℕ). Growing ends₀ ends 0 p.count (map (end_at lowers highers downs) (last_odd lowers highers false order)) t) (none (end_at lowers highers downs)) w.ending in
      let m : length (map (start_at lowers highers downs) (last_odd lowers highers false order)) ≡ length (last_odd lowers highers false order) =
      length-map (last_odd lowers highers false order) (start_at lowers highers downs) in
      record { behind = let z : p.count + 0 ≡ 0 + length (map (start_at lowers highers downs) (last_odd lowers highers false order)) = s.place in omega arith; starting = s.rest; ending = e.rest }
