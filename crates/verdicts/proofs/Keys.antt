-- Edges without direction: lower first; an edge runs along its key or against it; and what is said of some use's key is said of some
-- key. Assumes nothing.
use mathlib.Core.Path.{◌≡◌, refl, sym, ap, ◌∙◌}
use mathlib.Core.Logic.{◌⊎◌, inl, inr}
use mathlib.Core.Bool.{Bool, true, false, cond, ◌||◌, or_self_left}
use mathlib.Core.List.{List, [], ◌∷◌}
use Prim.Native.Nat.{◌≤◌, ◌<◌}
use native.Mathlib.Omega.{arith}
use lib.Dec.{leb}
use borrow.Author.Tests.{leb-true, leb-false}
use Rattle.lists.specs.Lists.{some}
use Rattle.lists.proofs.Cases.{or_swap}
use Rattle.verdicts.specs.Edges.{Edge, same, flip, key, before, insert, keys}
use Rattle.verdicts.proofs.SameEdge.{same_true}

-- ---- the key of an edge

-- lower first
pub key_order : (e : Edge) → (key e).0 ≤ (key e).1
unfolding key
key_order e = go (leb e.0 e.1) refl
  where
    go : (b : Bool) → leb e.0 e.1 ≡ b → (cond b e (flip e)).0 ≤ (cond b e (flip e)).1
    go true q = leb-true e.0 e.1 q
    go false q = let l : e.1 < e.0 = leb-false e.0 e.1 q in omega arith

-- an edge is its key, or runs against it
pub key_or_flip : (e : Edge) → (e ≡ key e) ⊎ (e ≡ flip (key e))
unfolding key
key_or_flip e = go (leb e.0 e.1)
  where
    go : (b : Bool) → (e ≡ cond b e (flip e)) ⊎ (e ≡ flip (cond b e (flip e)))
    go true = inl refl
    go false = inr refl

-- ---- the list of keys

-- a test of some element of the list with k put into it
some_insert : (q : Edge → Bool) (k : Edge) (l : List Edge) → some q (insert k l) ≡ (q k || some q l)
some_insert q k [] = refl
some_insert q k (y ∷ l) = go (before k y) (same k y) refl (some_insert q k l)
  where
    go :
        (b c : Bool) → same k y ≡ c → some q (insert k l) ≡ (q k || some q l)
        → some q (cond b (k ∷ y ∷ l) (cond c (y ∷ l) (y ∷ insert k l))) ≡ (q k || (q y || some q l))
    go true c e ih = refl
    go false true e ih = rw (same_true k y e) (sym (or_self_left (q y) (some q l)))
    go false false e ih = rw ih (or_swap (q y) (q k) (some q l))

-- what holds of some key holds of some use's key, and the other way round
pub some_keys : (q : Edge → Bool) (es : List Edge) → some q (keys es) ≡ some (λ e. q (key e)) es
some_keys q [] = refl
some_keys q (e ∷ es) = some_insert q (key e) (keys es) ∙ ap (λ (b : Bool). q (key e) || b) (some_keys q es)
