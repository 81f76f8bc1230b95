-- What is written from the front on, and a piece more behind it; four stores to places in a row are one piece. Assumes nothing.
use mathlib.Core.Path.{◌≡◌, sym, ap, ◌∙◌}
use mathlib.Core.List.{List, ◌++◌}
use Prim.Native.Nat.{ℕ}
use native.Mathlib.Nat.{zero-add}
use lib.ListN.{length}
use lib.Seq.{sets}
use Rattle.lists.proofs.Writing.{sets_append}

pub piece_behind :
    {A : Type 0} (l₀ l l' a b : List A) (i : ℕ) → l ≡ sets l₀ 0 a → i ≡ length a → l' ≡ sets l i b → l' ≡ sets l₀ 0 (a ++ b)
piece_behind l₀ l l' a b i e n f =
    f
    ∙ ap (λ (t : List _). sets t i b) e
    ∙ ap (λ (j : ℕ). sets (sets l₀ 0 a) j b) (n ∙ sym (zero-add (length a)))
    ∙ sym (sets_append l₀ 0 a b)
