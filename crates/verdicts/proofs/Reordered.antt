-- The verdict and the hem edges rest on counts alone: the same edges, each as often, in any order give the same. The direction
-- of the last use is the one thing that rests on the order, and not where an edge is used once. Assumes nothing.
use mathlib.Core.Path.{◌≡◌, refl, sym, ap, ◌∙◌, fun_ext}
use mathlib.Core.Bool.{Bool, true, false}
use mathlib.Core.List.{List, map}
use Prim.Native.Nat.{ℕ, zero, suc, ◌<◌}
use native.Mathlib.Omega.{arith}
use lib.Dec.{leb, eqb}
use Rattle.lists.specs.Lists.{only, some}
use Rattle.lists.proofs.Counting.{clash, pos, some_count}
use Rattle.lists.proofs.Alike.{Alike, some_alike, map_only}
use Rattle.verdicts.specs.Edges.{Edge, same, key, uses, runs, thrice, verdict, keys, odd, last_or, hem_keys, hems}
use Rattle.verdicts.proofs.Ascending.{keys_alike}
use Rattle.verdicts.proofs.SameEdge.{found}
use Rattle.verdicts.proofs.HemUses.{below_three, last_once, hems_keys}

-- of the numbers below three only one is odd
odd_once : (n : ℕ) → n < 3 → odd n ≡ true → n ≡ 1
odd_once zero l o = clash o refl
odd_once (suc zero) l o = refl
odd_once (suc (suc zero)) l o = clash o refl
odd_once (suc (suc (suc n))) l o = absurd (omega arith)

module _ {es fs : List Edge} (h : Alike es fs) where
  -- a test of a count passes at some edge of the one list where it does at some edge of the other
  some_both :
      (q : ℕ → Bool) (f : Edge → List Edge → ℕ)
      → ((e : Edge) → f e es ≡ f e fs)
      → some (λ e. q (f e es)) es ≡ some (λ e. q (f e fs)) fs
  some_both q f eq = some_alike (λ e. q (f e es)) h ∙ ap (λ g. some g fs) (fun_ext (λ e. ap q (eq e)))

  pub uses_alike : (k : Edge) → uses k es ≡ uses k fs
  uses_alike k = h.agree (λ e. same k (key e))

  pub verdict_alike : verdict es ≡ verdict fs
  unfolding verdict
  verdict_alike =
      rw (
        some_both (leb 3) (λ e l. uses (key e) l) (λ e. uses_alike (key e)),
        some_both (leb 2) (λ e l. runs e l) (λ e. h.agree (same e)),
        some_both (eqb 1) (λ e l. uses (key e) l) (λ e. uses_alike (key e)),
      )

  hem_keys-alike : hem_keys es ≡ hem_keys fs
  hem_keys-alike =
      ap (only (λ k. odd (uses k es))) (keys_alike h) ∙ ap (λ g. only g (keys fs)) (fun_ext (λ k. ap odd (uses_alike k)))

  -- the same hem edges, without direction
  pub hems_undirected : map key (hems es) ≡ map key (hems fs)
  hems_undirected = hems_keys es ∙ hem_keys-alike ∙ sym (hems_keys fs)

  -- an edge that is used once keeps its direction
  pub last_alike : (k : Edge) → uses k es ≡ 1 → last_or k k es ≡ last_or k k fs
  last_alike k u =
      let r : (e : Edge) × (same k (key e) ≡ true) × (some (same e) es ≡ true) =
      found (λ e. same k (key e)) es (some_count (λ e. same k (key e)) es ∙ ap pos u) in
      last_once k k r.0 es u r.1 r.2
      ∙ sym (last_once k k r.0 fs (sym (uses_alike k) ∙ u) r.1 (sym (some_alike (same r.0) h) ∙ r.2))

  -- not Irregular: the same hem edges, with their directions
  pub hems_alike : thrice es ≡ false → hems es ≡ hems fs
  unfolding hems
  hems_alike n =
      map_only
      (λ k. odd (uses k es))
      (λ k. last_or k k es)
      (λ k. last_or k k fs)
      (keys es)
      (λ k o. last_alike k (odd_once (uses k es) (below_three es n k) o))
      ∙ ap (map (λ k. last_or k k fs)) hem_keys-alike
