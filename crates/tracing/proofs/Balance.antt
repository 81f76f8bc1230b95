-- Counts over lists of edges: an edge is taken out, and lists in which every edge stands equally often agree in every count. Assumes nothing.
use mathlib.Core.Path.{◌≡◌, refl, sym, ap, ◌∙◌}
use mathlib.Core.Bool.{Bool, true, false, cond, ◌||◌}
use mathlib.Core.List.{List, [], ◌∷◌}
use Prim.Native.Nat.{suc}
use native.Mathlib.Omega.{arith}
use Rattle.lists.specs.Lists.{bump, count, some}
use Rattle.lists.proofs.Counting.{clash, bump_swap, bump_inj, some_counted}
use Rattle.edges.specs.Edges.{Edge, same, runs}
use Rattle.edges.proofs.SameEdge.{same_true, same_refl}
use Rattle.tracing.specs.Following.{without}

-- an edge taken out
pub without_count : (p : Edge → Bool) (d : Edge) (h : List Edge) → some (same d) h ≡ true → count p h ≡ bump (p d) (count p (without d h))
without_count p d [] m = clash m refl
without_count p d (e ∷ h) m = go (same d e) refl m (without_count p d h)
  where
    go :
        (b : Bool) → same d e ≡ b → (b || some (same d) h) ≡ true → (some (same d) h ≡ true → count p h ≡ bump (p d) (count p (without d h)))
        → bump (p e) (count p h) ≡ bump (p d) (count p (cond b h (e ∷ without d h)))
    go true q m ih = rw (same_true d e q)
    go false q m ih = ap (bump (p e)) (ih m) ∙ bump_swap (p e) (p d) (count p (without d h))

-- every edge stands equally often in both
pub runs_ext : (s t : List Edge) → ((d : Edge) → runs d s ≡ runs d t) → (p : Edge → Bool) → count p s ≡ count p t
runs_ext [] [] h p = refl
runs_ext [] (y ∷ t) h p = absurd (let e : 0 ≡ bump (same y y) (runs y t) = h y in let f : 0 ≡ suc (runs y t) = rw (same_refl y) at e in omega arith)
runs_ext (x ∷ s) t h p =
    let hx : suc (runs x s) ≡ runs x t = rw (same_refl x) at (h x) in
    let m : some (same x) t ≡ true = some_counted (same x) t (omega arith) in
    ap (bump (p x))
    (runs_ext s (without x t) (λ d. bump_inj (same d x) (runs d s) (runs d (without x t)) (h d ∙ without_count (same d) x t m)) p)
    ∙ sym (without_count p x t m)
