-- A search for the first number that passes, under way: none of those from a up to k does, so that what is left to search decides.
-- Assumes nothing.
use mathlib.Core.Path.{◌≡◌, refl, sym, ap, ◌∙◌}
use mathlib.Core.Bool.{Bool, true, false}
use Prim.Native.Nat.{ℕ, suc, ◌+◌, ◌-◌, ◌≤◌, ◌<◌}
use native.Mathlib.Numerals.{add-one}
use native.Mathlib.Omega.{arith}
use Rattle.lists.specs.Numbers.{seek}
use Rattle.lists.proofs.Numbers.{seek_here, seek_on, seek_none}

pub record Seeking (p : ℕ → Bool) (a n k : ℕ) : Type 0 where
  pub within : k ≤ n
  pub rest : seek p (n - a) a ≡ seek p (n - k) k

module _ (p : ℕ → Bool) (a n : ℕ) where
  pub seek_begins : a ≤ n → Seeking p a n a
  seek_begins h = record { within = h; rest = refl }

  pub seek_turns : (k : ℕ) → k < n → p k ≡ false → Seeking p a n k → Seeking p a n (k + 1)
  seek_turns k h e s =
      let z : n - k ≡ suc (n - (k + 1)) = omega arith in
      record { within = omega arith; rest = s.rest ∙ ap (λ (c : ℕ). seek p c k) z ∙ seek_on p (n - (k + 1)) k e ∙ rw (add-one k) }

  -- found at k
  pub seek_finds : (k : ℕ) → k < n → p k ≡ true → Seeking p a n k → k ≡ seek p (n - a) a
  seek_finds k h e s =
      let z : n - k ≡ suc (n - (k + 1)) = omega arith in
      sym (s.rest ∙ ap (λ (c : ℕ). seek p c k) z ∙ seek_here p (n - (k + 1)) k e)

  -- not found at all
  pub seek_ends : (k : ℕ) → n ≤ k → Seeking p a n k → k ≡ seek p (n - a) a
  seek_ends k h s =
      let z : n - k ≡ 0 = omega arith in
      sym (s.rest ∙ ap (λ (c : ℕ). seek p c k) z ∙ seek_none p k)
