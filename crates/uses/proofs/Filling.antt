-- The columns while they are written: what stands there, with what is left, is all of it. Assumes nothing.
use mathlib.Core.Path.{◌≡◌, sym, ap, subst}
use mathlib.Core.Bool.{Bool, true, false, cond}
use mathlib.Core.List.{List, [], ◌∷◌, ◌++◌, map, map-append}
use Prim.Native.Nat.{ℕ, ◌+◌, ◌≤◌, ◌<◌}
use lib.ListN.{length, set, length-map}
use lib.Seq.{sets}
use lib.Dec.{leb}
use borrow.Author.Tests.{le-leb, lt-leb}
use Rattle.lists.proofs.Growing.{Growing, grow_begins, grow_part}
use Rattle.mesh.specs.Edges.{Edge, key}
use Rattle.uses.specs.Uses.{lower_of, higher_of, down_of, Written}

pub record Filling (l₀ h₀ d₀ l h d : List ℕ) (b at : ℕ) (all left : List Edge) : Type 0 where
  pub lower : Growing l₀ l b at (map lower_of all) (map lower_of left)
  pub higher : Growing h₀ h b at (map higher_of all) (map higher_of left)
  pub down : Growing d₀ d b at (map down_of all) (map down_of left)

-- one column, after a part is written to it
column_part :
    (f : Edge → ℕ) (l₀ l l' : List ℕ) (b at : ℕ) (all new left : List Edge) → l' ≡ sets l at (map f new)
    → Growing l₀ l b at (map f all) (map f (new ++ left)) → Growing l₀ l' b (at + length new) (map f all) (map f left)
column_part f l₀ l l' b at all new left e g =
    let h : Growing l₀ l b at (map f all) (map f new ++ map f left) = subst (λ (t : List ℕ). Growing l₀ l b at (map f all) t) (map-append f new left) g in
    let k : Growing l₀ (sets l at (map f new)) b (at + length (map f new)) (map f all) (map f left) = grow_part l₀ l b at (map f all) (map f new) (map f left) h in
    subst (λ (t : List ℕ). Growing l₀ t b (at + length new) (map f all) (map f left)) (sym e)
    (subst (λ (n : ℕ). Growing l₀ (sets l at (map f new)) b (at + n) (map f all) (map f left)) (length-map new f) k)

module _ (l₀ h₀ d₀ : List ℕ) where
  pub fill_begins : (b : ℕ) (all : List Edge) → Filling l₀ h₀ d₀ l₀ h₀ d₀ b b all all
  fill_begins b all = record { lower = grow_begins l₀ b (map lower_of all); higher = grow_begins h₀ b (map higher_of all); down = grow_begins d₀ b (map down_of all) }

  module _ (l h d : List ℕ) (b at : ℕ) (all : List Edge) where
    -- what is left, said in another way
    pub fill_left : (left left' : List Edge) → left ≡ left' → Filling l₀ h₀ d₀ l h d b at all left → Filling l₀ h₀ d₀ l h d b at all left'
    fill_left left left' e f = subst (λ (t : List Edge). Filling l₀ h₀ d₀ l h d b at all t) e f

    pub fill_part :
        (l' h' d' : List ℕ) (new left : List Edge) → Written new at l h d l' h' d' → Filling l₀ h₀ d₀ l h d b at all (new ++ left)
        → Filling l₀ h₀ d₀ l' h' d' b (at + length new) all left
    fill_part l' h' d' new left w f = record {
      lower = column_part lower_of l₀ l l' b at all new left w.lower f.lower;
      higher = column_part higher_of h₀ h h' b at all new left w.higher f.higher;
      down = column_part down_of d₀ d d' b at all new left w.down f.down;
    }

    pub fill_ends : (left : List Edge) → left ≡ [] → Filling l₀ h₀ d₀ l h d b at all left → Written all b l₀ h₀ d₀ l h d
    fill_ends left e f =
        let g : Filling l₀ h₀ d₀ l h d b at all [] = fill_left left [] e f in
        record { lower = g.lower.rest; higher = g.higher.rest; down = g.down.rest }

-- one use, up or down
module _ (a b at : ℕ) (l h d : List ℕ) where
  pub put_up : a ≤ b → Written ((a, b) ∷ []) at l h d (set l at a) (set h at b) (set d at 0)
  unfolding key
  put_up p = record { lower = ap (λ (t : Bool). set l at (one t).0) e; higher = ap (λ (t : Bool). set h at (one t).1) e; down = ap (λ (t : Bool). set d at (cond t 0 1)) e }
    where
      one : Bool → Edge
      one t = cond t (a, b) (b, a)

      e : true ≡ leb a b
      e = sym (le-leb a b p)

  pub put_down : b < a → Written ((a, b) ∷ []) at l h d (set l at b) (set h at a) (set d at 1)
  unfolding key
  put_down p = record { lower = ap (λ (t : Bool). set l at (one t).0) e; higher = ap (λ (t : Bool). set h at (one t).1) e; down = ap (λ (t : Bool). set d at (cond t 0 1)) e }
    where
      one : Bool → Edge
      one t = cond t (a, b) (b, a)

      e : false ≡ leb a b
      e = sym (lt-leb a b p)
