-- One list, from its coordinates to the numbers that it earns: the engine's answers are the rules'. Assumes nothing.
use mathlib.Core.Path.{◌≡◌, sym, ap, ◌∙◌, subst}
use mathlib.Core.Bool.{Bool}
use mathlib.Core.List.{List}
use Prim.Native.Nat.{ℕ, ◌*◌, ◌/◌, ◌≤◌}
use native.Mathlib.Nat.{mul-le-mul, mul_comm, mul-div_cancel}
use native.Mathlib.Omega.{arith}
use lib.ListN.{length, take, drop}
use lib.Seq.{sets, take_at}
use lib.Ieee.{Float}
use Rattle.lists.proofs.Writing.{sets_front}
use Rattle.mesh.specs.Limits.{entry_limit, point_numbers}
use Rattle.nearby.specs.Pairs.{pairs, compared_at, near_at, compared_pairs}
use Rattle.nearby.specs.Walk.{groups}
use Rattle.nearby.specs.Engine.{cells_of, beside_at, near_by, Listed}
use Rattle.nearby.proofs.Agree.{length_cells, cells_small, beside_agrees, near_agrees}
use Rattle.together.specs.Centre.{sent_to}
use Rattle.together.specs.Merging.{merged_to}
use Rattle.together.specs.Working.{Mergeable, Settled}

module _ {t : Float} {w n : ℕ} {s : List Float} {map : List ℕ} (g : Mergeable t w n s map) where
  -- 2,048 points of three coordinates are 6,144 numbers
  pub fits : length s ≤ point_numbers
  fits = let e : w * n ≤ 3 * entry_limit = mul-le-mul g.most g.few in omega (arith, g.long)

  count_is : n ≡ length s / w
  count_is = sym (ap (λ (k : ℕ). k / w) (sym g.long ∙ mul_comm w n) ∙ mul-div_cancel n (let l : 2 ≤ w = g.least in omega arith))

  -- the cells stand at the front of their room
  pub cells_are : (room room' : List ℕ) → length room ≡ point_numbers → room' ≡ sets room 0 (cells_of t s) → take (length s) room' ≡ cells_of t s
  cells_are room room' l e =
      let k : length (cells_of t s) ≡ length s = length_cells t s in
      ap (take (length s)) (e ∙ sets_front room (cells_of t s) (omega (arith, fits)))
      ∙ take_at (cells_of t s) (drop (length (cells_of t s)) room) (length s) k

  module _ (cells : List ℕ) (are : cells ≡ cells_of t s) where
    pub listed : Listed w n s cells
    listed =
        subst (λ (c : List ℕ). Listed w n s c) (sym are)
        (record {
          points = record {
            least = g.least;
            most = g.most;
            few = g.few;
            long = g.long ∙ sym (length_cells t s);
            small = cells_small t s g.near;
          };
          same = sym (length_cells t s);
        })

    pub pairs_are : (r : ℕ) → r ≡ pairs (beside_at w cells) n → r ≡ compared_pairs t w s
    unfolding compared_pairs
    pairs_are r e =
        e
        ∙ ap (λ (c : List ℕ). pairs (beside_at w c) n) are
        ∙ ap (λ (p : ℕ → ℕ → Bool). pairs p n) (beside_agrees t w s g.near)
        ∙ ap (pairs (compared_at t w s)) count_is

    to_is : sent_to w s (groups (near_by t w s cells) n) ≡ merged_to t w s
    unfolding merged_to
    to_is =
        ap (λ (c : List ℕ). sent_to w s (groups (near_by t w s c) n)) are
        ∙ ap (λ (p : ℕ → ℕ → Bool). sent_to w s (groups p n)) (near_agrees t w s g.near)
        ∙ ap (λ (m : ℕ). sent_to w s (groups (near_at t w s) m)) count_is

    pub settled_are : (map' : List ℕ) → Settled n (sent_to w s (groups (near_by t w s cells) n)) map map' → Settled n (merged_to t w s) map map'
    settled_are map' x = subst (λ (f : ℕ → ℕ). Settled n f map map') to_is x
