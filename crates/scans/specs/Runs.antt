-- The steps of the code, and no rules of document 01: what a scan finds that goes over the uses, sorted by edge (uses/specs/Uses.antt).
-- Crate verdicts has the rules, and crate edges the laws by which these steps come to them. Assumes nothing.
use Rattle.std.specs.Prelude.{◌≡◌, Bool, false, cond, not, ◌||◌, List, [], ◌∷◌, ◌++◌, map, ℕ, ◌+◌, ◌≤◌, length, get_or, leb, eqb}
use Rattle.std.proofs.lemmas.List.Edits.{sets}
use Rattle.lists.specs.Lists.{keep_if}
use Rattle.uses.specs.Uses.{Ready, Columned, goes_on}
use Rattle.scans.specs.declared.Tally.{Tally}

module _ (lowers highers : List ℕ) where
  -- a scan for the hem edges stands before use u, behind which stand the uses us; o says whether an odd number of the present
  -- edge's uses is passed. The use where it is the last of an odd number, and whether an odd number is passed after it
  unfoldable pub hems_at : Bool → ℕ → List ℕ → List ℕ
  hems_at o u us = cond (goes_on lowers highers u us) [] (keep_if (not o) u [])

  unfoldable pub odd_after : Bool → ℕ → List ℕ → Bool
  odd_after o u us = cond (goes_on lowers highers u us) (not o) false

  -- of each edge with an odd number of uses the last one
  unfoldable pub last_odd : Bool → List ℕ → List ℕ
  last_odd o [] = []
  last_odd o (u ∷ us) = hems_at o u us ++ last_odd (odd_after o u us) us

module _ (lowers highers downs : List ℕ) where
  -- where use u starts and where it ends
  abbrev pub start_at : ℕ → ℕ
  start_at u = cond (eqb (get_or downs u 0) 1) (get_or highers u 0) (get_or lowers u 0)

  abbrev pub end_at : ℕ → ℕ
  end_at u = cond (eqb (get_or downs u 0) 1) (get_or lowers u 0) (get_or highers u 0)

-- room for n hem edges
pub record HemRoom (n : ℕ) (starts ends : List ℕ) : Type 0 where
  pub for_starts : n ≤ length starts
  pub for_ends : n ≤ length ends

-- the starts and ends after the uses `new` are written to them from `at` on; `next` is the place behind them
pub record Put (lowers highers downs new : List ℕ) (at next : ℕ) (starts ends starts' ends' : List ℕ) : Type 0 where
  pub behind : next ≡ at + length new
  pub starting : starts' ≡ sets starts at (map (start_at lowers highers downs) new)
  pub ending : ends' ≡ sets ends at (map (end_at lowers highers downs) new)

-- how many uses of the present edge run up and how many down, and what was seen of the edges passed
abbrev pub tally_of : ℕ → ℕ → Bool → Bool → Bool → Tally
tally_of m n a b c = record { ups = m; downs = n; thrice = a; alike = b; once = c }

-- one use more of the present edge: down where d is 1, else up
unfoldable pub counted : ℕ → Tally → Tally
counted d t =
    cond (eqb d 1)
    (tally_of t.ups (t.downs + 1) t.thrice t.alike t.once)
    (tally_of (t.ups + 1) t.downs t.thrice t.alike t.once)

-- the present edge has no use more: it is used three times or more, or twice in the same direction, or exactly once
unfoldable pub closed : Tally → Tally
closed t =
    tally_of 0 0
    (t.thrice || leb 3 (t.ups + t.downs))
    (t.alike || (leb 2 t.ups || leb 2 t.downs))
    (t.once || eqb 1 (t.ups + t.downs))

module _ (lowers highers downs : List ℕ) where
  -- what is seen after use u, behind which stand the uses us
  unfoldable pub stepped : Tally → ℕ → List ℕ → Tally
  stepped t u us = cond (goes_on lowers highers u us) (counted (get_or downs u 0) t) (closed (counted (get_or downs u 0) t))

  -- what is seen after all uses of a sorted list
  unfoldable pub tallied : Tally → List ℕ → Tally
  tallied t [] = t
  tallied t (u ∷ us) = tallied (stepped t u us) us

-- ---- what the functions rest on

-- all uses, with room for as many hem edges
pub record PutReady (lowers highers downs order starts ends : List ℕ) : Type 0 where
  pub ready : Ready lowers highers downs order
  pub room : HemRoom (length order) starts ends

-- use u is in the columns, with room for one hem edge more than `at`
pub record UseAt (lowers highers downs : List ℕ) (u at : ℕ) (starts ends : List ℕ) : Type 0 where
  pub columned : Columned (u + 1) lowers highers downs
  pub room : HemRoom (at + 1) starts ends

-- what one use leaves: whether an odd number of the present edge's uses is passed, and the hem edge that it makes, if any
pub record HemStep
    (lowers highers downs : List ℕ) (odd : Bool) (u : ℕ) (us : List ℕ) (at : ℕ) (odd' : Bool) (next : ℕ) (starts ends starts' ends' : List ℕ) : Type 0 where
  pub parity : odd' ≡ odd_after lowers highers odd u us
  pub put : Put lowers highers downs (hems_at lowers highers odd u us) at next starts ends starts' ends'
