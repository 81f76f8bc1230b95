-- `hems` is the one list of the hem edges in ascending order: what the rule says of it leaves no other. Assumes nothing.
use mathlib.Core.Path.{◌≡◌, refl, sym, ap, ◌∙◌}
use mathlib.Core.Bool.{Bool, true, false, cond, not, ◌&&◌, and-false}
use mathlib.Core.List.{List, [], ◌∷◌, ◌++◌, map}
use Prim.Native.Nat.{ℕ, zero, suc}
use Rattle.lists.specs.Lists.{some, bump}
use Rattle.lists.proofs.Counting.{pos, some_count}
use Rattle.verdicts.specs.Edges.{Edge, same, key, uses, odd, last_or, hems}
use Rattle.verdicts.proofs.SameEdge.{same_refl}
use Rattle.verdicts.proofs.Ascending.{Asc, unique}
use Rattle.verdicts.proofs.HemUses.{last_none, hem_count_is, hems_asc}

-- the last use of an edge is the one behind which there is none
last_append : (k d : Edge) (a b : List Edge) → last_or k d (a ++ b) ≡ last_or k (last_or k d a) b
last_append k d [] b = refl
last_append k d (e ∷ a) b = last_append k (cond (same k (key e)) e d) a b

pub last_is : (e d : Edge) (a b : List Edge) → uses (key e) b ≡ 0 → last_or (key e) d (a ++ (e ∷ b)) ≡ e
last_is e d a b u = last_append (key e) d a (e ∷ b) ∙ rw (same_refl (key e)) (last_none (key e) e b u)

-- a hem edge: used an odd number of times, with the direction of its last use
abbrev pub is_hem : List Edge → Edge → Bool
is_hem es e = odd (uses (key e) es) && same e (last_or (key e) (key e) es)

pub hems_member : (es : List Edge) (e : Edge) → some (same e) (hems es) ≡ is_hem es e
hems_member es e =
    some_count (same e) (hems es) ∙ ap pos (hem_count_is es e) ∙ go (same e (last_or (key e) (key e) es)) (uses (key e) es)
  where
    two : (o : Bool) → pos (cond o 1 0) ≡ (o && true)
    two true = refl
    two false = refl

    go : (b : Bool) (u : ℕ) → pos (cond b (cond (odd u) (bump (pos u) 0) 0) 0) ≡ (odd u && b)
    go true zero = refl
    go true (suc u) = two (not (odd u))
    go false u = sym (and-false (odd u))

-- any list of the hem edges in ascending order (lower, higher) is `hems`
pub hems_only : (es l : List Edge) → Asc (map key l) → ((e : Edge) → some (same e) l ≡ is_hem es e) → l ≡ hems es
hems_only es l a h = unique key l (hems es) a (hems_asc es) (λ e. h e ∙ sym (hems_member es e))
