-- The scan for the verdict, use after use: one use more, and the loop over all of them. Assumes nothing.
use mathlib.Core.Path.{◌≡◌, sym, ap, ◌∙◌}
use mathlib.Core.Bool.{Bool, true, false, cond}
use mathlib.Core.List.{List, ◌∷◌}
use Prim.Native.Nat.{ℕ, ◌+◌, ◌≤◌, ◌<◌}
use native.Mathlib.Nat.{le_of_eq}
use native.Mathlib.Numerals.{add-one}
use native.Mathlib.Omega.{arith}
use lib.ListN.{length, get_or, drop, drop_of_length-le}
use lib.Seq.{drop-cons}
use lib.Dec.{eqb}
use Rattle.uses.specs.Uses.{goes_on}
use Rattle.scans.specs.Runs.{tally_of, counted, closed, stepped, tallied}
use Rattle.scans.specs.declared.Tally.{Tally}

-- one use more is one use more
pub counted_small : (d : ℕ) (t : Tally) → (counted d t).ups + (counted d t).downs ≡ t.ups + t.downs + 1
unfolding counted
counted_small d t = go (eqb d 1)
  where
    go :
        (b : Bool)
        → (cond b (tally_of t.ups (t.downs + 1) t.thrice t.alike t.once) (tally_of (t.ups + 1) t.downs t.thrice t.alike t.once)).ups
        + (cond b (tally_of t.ups (t.downs + 1) t.thrice t.alike t.once) (tally_of (t.ups + 1) t.downs t.thrice t.alike t.once)).downs
        ≡ t.ups + t.downs + 1
    go true = omega arith
    go false = omega arith

module _ (lowers highers downs : List ℕ) (t c : Tally) (u v : ℕ) (us : List ℕ) (b : Bool) (at : u ≡ v) (one : c ≡ counted (get_or downs u 0) t) (on : b ≡ goes_on lowers highers v us) where
  -- the edge goes on; it ends
  pub step_on : b ≡ true → c ≡ stepped lowers highers downs t v us
  unfolding stepped
  step_on h =
      one
      ∙ ap (λ (n : ℕ). counted (get_or downs n 0) t) at
      ∙ ap (λ (z : Bool). cond z (counted (get_or downs v 0) t) (closed (counted (get_or downs v 0) t))) (sym h ∙ on)

  pub step_closed : (r : Tally) → r ≡ closed c → b ≡ false → r ≡ stepped lowers highers downs t v us
  unfolding stepped
  step_closed r e h =
      e
      ∙ ap closed (one ∙ ap (λ (n : ℕ). counted (get_or downs n 0) t) at)
      ∙ ap (λ (z : Bool). cond z (counted (get_or downs v 0) t) (closed (counted (get_or downs v 0) t))) (sym h ∙ on)

-- ---- the loop: what is seen so far, with what the uses that are left come to, is what all come to

pub record Tallying (lowers highers downs order : List ℕ) (t : Tally) (i : ℕ) : Type 0 where
  pub within : i ≤ length order
  pub small : t.ups + t.downs ≤ i
  pub rest : tallied lowers highers downs t (drop i order) ≡ tallied lowers highers downs (tally_of 0 0 false false false) order

module _ (lowers highers downs order : List ℕ) where
  stepped_small : (t : Tally) (u : ℕ) (us : List ℕ) → (stepped lowers highers downs t u us).ups + (stepped lowers highers downs t u us).downs ≤ t.ups + t.downs + 1
  unfolding stepped closed counted
  stepped_small t u us = go (goes_on lowers highers u us)
    where
      go :
          (b : Bool)
          → (cond b (counted (get_or downs u 0) t) (closed (counted (get_or downs u 0) t))).ups + (cond b (counted (get_or downs u 0) t) (closed (counted (get_or downs u 0) t))).downs
          ≤ t.ups + t.downs + 1
      go true = le_of_eq (counted_small (get_or downs u 0) t)
      go false = omega arith

  pub tally_turns :
      (t s : Tally) (i : ℕ) → i < length order → s ≡ stepped lowers highers downs t (get_or order i 0) (drop (i + 1) order)
      → Tallying lowers highers downs order t i → Tallying lowers highers downs order s (i + 1)
  unfolding tallied
  tally_turns t s i h e w =
      let l : s.ups + s.downs ≤ t.ups + t.downs + 1 = rw e (stepped_small t (get_or order i 0) (drop (i + 1) order)) in
      record {
        within = omega arith;
        small = omega (arith, w.small);
        rest =
            ap (λ (z : Tally). tallied lowers highers downs z (drop (i + 1) order)) e
            ∙ sym (ap (tallied lowers highers downs t) (drop-cons order i 0 h ∙ ap (λ (n : ℕ). get_or order i 0 ∷ drop n order) (sym (add-one i))))
            ∙ w.rest;
      }

  pub tally_ends : (t : Tally) (i : ℕ) → length order ≤ i → Tallying lowers highers downs order t i → t ≡ tallied lowers highers downs (tally_of 0 0 false false false) order
  unfolding tallied
  tally_ends t i h w = sym (ap (tallied lowers highers downs t) (drop_of_length-le order h)) ∙ w.rest
