-- What one step along a wire does, by the tables. Assumes nothing.
use mathlib.Core.Path.{◌≡◌, sym, ap, ◌∙◌, subst}
use mathlib.Core.Option.{Option, none, some}
use mathlib.Core.List.{List}
use Prim.Native.Nat.{ℕ, ◌≤◌, ◌<◌}
use lib.ListN.{length, get_or, set, length-set}
use Rattle.edges.specs.Edges.{Edge}
use Rattle.tracing.specs.Hems.{EdgeLists}
use Rattle.tracing.specs.Following.{entry}
use Rattle.tracing.specs.Tables.{left, Linked, Stands}
use Rattle.tracing.specs.Tracing.{onward, taken, StepTaken}
use Rattle.tracing.proofs.Tables.{none_left, entry_left, gone_left, linked_on}

-- a table of the same length
stands_on :
    {starts ends nexts firsts : List ℕ} (firsts' : List ℕ) → Stands starts ends nexts firsts → length firsts' ≡ length firsts
    → Linked starts nexts firsts' → Stands starts ends nexts firsts'
stands_on {starts} {ends} {nexts} {firsts} firsts' s e l =
    record {
      low = rw e s.low;
      edges = subst (λ (n : ℕ). EdgeLists starts ends n) (sym e) s.edges;
      linked = l;
    }

module _
    (starts ends nexts firsts : List ℕ) (f c : ℕ) (s : Stands starts ends nexts firsts)
    (home : f < length firsts) (inside : c < length firsts) where
  abbrev g : List Edge
  g = left starts ends firsts

  -- no entry: back to the first position
  pub back_home : length starts ≤ get_or firsts c 0 → StepTaken starts ends nexts f c firsts firsts f
  back_home h =
      let e : entry c g ≡ none = none_left starts ends nexts firsts s.edges s.linked c inside h in
      record { leads = sym (ap (onward f) e); inside = home; left_is = sym (ap (λ (o : Option Edge). taken o g) e); stands = s }

  -- an entry
  module _ (h : get_or firsts c 0 < length starts) where
    abbrev k : ℕ
    k = get_or firsts c 0

    abbrev firsts' : List ℕ
    firsts' = set firsts c (get_or nexts k 0)

    pub goes_on : StepTaken starts ends nexts f c firsts firsts' (get_or ends k 0)
    goes_on =
        let e : entry c g ≡ some (c, get_or ends k 0) = entry_left starts ends nexts firsts s.edges s.linked c inside h in
        record {
          leads = sym (ap (onward f) e);
          inside = s.edges.into k h;
          left_is = gone_left starts ends nexts firsts s.edges s.linked c inside h ∙ sym (ap (λ (o : Option Edge). taken o g) e);
          stands = stands_on firsts' s (length-set firsts c (get_or nexts k 0)) (linked_on starts ends nexts firsts s.edges s.linked c inside h);
        }
