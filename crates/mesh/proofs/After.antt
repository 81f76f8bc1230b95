-- What a call that answered a number leaves, and the rooms of two lent lists. Assumes nothing.
use Rattle.std.proofs.Common.{◌≡◌, ℕ, zero, suc, ◌<◌, ◌≤◌, true, false, List, [], ◌∷◌, length, refl, le-ltb, lt-ltb}
use lib.Seq.{sets, length-sets}
use Rattle.mesh.specs.Table.{lent, short, after}

pub after_refused : {A : Type 0} (n : ℕ) (new old : A) → (n ≡ 0 → ⊥) → after n new old ≡ old
after_refused zero new old h = absurd (h refl)
after_refused (suc n) new old h = refl

pub after_done : {A : Type 0} (n : ℕ) (new old : A) → n ≡ 0 → after n new old ≡ new
after_done n new old h = rw h

-- a call leaves a list as long as it was
pub after_length : {A : Type 0} (n : ℕ) (l xs : List A) → length (after n (sets l 0 xs) l) ≡ length l
after_length zero l xs = length-sets l 0 xs
after_length (suc n) l xs = refl

-- two lists: neither is short, the first is, the second is
module _ (a b c d : ℕ) where
  pub two_roomy : b ≤ a → d ≤ c → short (lent a b ∷ lent c d ∷ []) ≡ false
  unfolding short
  two_roomy h k = rw (le-ltb a b h, le-ltb c d k)

  pub first_short : a < b → short (lent a b ∷ lent c d ∷ []) ≡ true
  unfolding short
  first_short h = rw (lt-ltb a b h)

  pub second_short : b ≤ a → c < d → short (lent a b ∷ lent c d ∷ []) ≡ true
  unfolding short
  second_short h k = rw (le-ltb a b h, lt-ltb c d k)
