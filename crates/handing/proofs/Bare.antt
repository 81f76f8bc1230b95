-- The pass that puts corners: those of the first x points stand there. Assumes nothing.
use mathlib.Core.Path.{◌≡◌, sym, ap, ◌∙◌}
use mathlib.Core.List.{List, [], ◌∷◌}
use Prim.Native.Nat.{ℕ, ◌+◌, ◌*◌, ◌≤◌, ◌<◌}
use native.Mathlib.Numerals.{add-one}
use native.Mathlib.Omega.{arith}
use lib.ListN.{length, get_or, take}
use lib.Seq.{sets, length-sets, take-suc, length-take-le}
use Rattle.lists.specs.Lists.{each}
use Rattle.lists.proofs.Parts.{each_append}
use Rattle.mesh.specs.Limits.{width}
use Rattle.scanned.specs.Scan.{bare}
use Rattle.scanned.proofs.Pieces.{length_bare}
use Rattle.handing.proofs.Growth.{piece_behind}

pub record Cornering (numbers before now : List ℕ) (x : ℕ) : Type 0 where
  pub within : x ≤ length numbers
  pub put : now ≡ sets before 0 (each bare (take x numbers))
  pub long : length now ≡ length before

pub corner_turns :
    (numbers c₀ c c' : List ℕ) (x i : ℕ) → x < length numbers → i ≡ width * x → c' ≡ sets c i (bare (get_or numbers x 0)) → Cornering numbers c₀ c x
    → Cornering numbers c₀ c' (x + 1)
corner_turns numbers c₀ c c' x i h e w s =
    let n : length (take x numbers) ≡ x = length-take-le x numbers (omega arith) in
    let o : i ≡ length (each bare (take x numbers)) = e ∙ ap (λ (j : ℕ). width * j) (sym n) ∙ sym (length_bare (take x numbers)) in
    record {
      within = omega arith;
      put =
          piece_behind c₀ c c' (each bare (take x numbers)) (bare (get_or numbers x 0)) i s.put o w
          ∙ ap (sets c₀ 0) (sym (each_append bare (take x numbers) (get_or numbers x 0 ∷ [])))
          ∙ ap (λ (l : List ℕ). sets c₀ 0 (each bare l)) (sym (ap (λ (j : ℕ). take j numbers) (add-one x) ∙ take-suc numbers x 0 h));
      long = ap length w ∙ length-sets c i (bare (get_or numbers x 0)) ∙ s.long;
    }
