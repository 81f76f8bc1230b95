-- 26 bytes for each corner are room for every hem sheet: there are no more hems than corners, no more panels than faces, and no hem has more
-- edges than there are corners. Assumes nothing.
use mathlib.Core.Path.{◌≡◌, ap}
use mathlib.Core.Bool.{Bool, true, false, cond}
use mathlib.Core.List.{List, [], ◌∷◌, ◌++◌, map}
use Prim.Native.Nat.{ℕ, zero, suc, ◌*◌, ◌≤◌}
use native.Mathlib.Omega.{arith}
use lib.ListN.{length, get_or, length-append, length-map}
use lib.IntN.{ℤ}
use Rattle.lists.specs.Lists.{has, each, span, joined}
use Rattle.mesh.specs.Limits.{face_limit, corner_limit}
use Rattle.mesh.specs.Mesh.{Ring, rings}
use Rattle.mesh.proofs.Faces.{length_rings}
use Rattle.edges.specs.Edges.{edges_of, hems, verdict}
use Rattle.edges.specs.Runs.{Edged}
use Rattle.edges.proofs.OfHems.{hems_within}
use Rattle.turning.specs.Turning.{house_wires_of}
use Rattle.house.specs.Answers.{wired}
use Rattle.house.proofs.Given.{house_turns}
use Rattle.panels.specs.Panels.{joins, panels}
use Rattle.searching.proofs.Parting.{panels_few}
use Rattle.text.specs.Text.{bytes, decimal}
use Rattle.text.proofs.Decimals.{few_digits}
use Rattle.text.proofs.Putting.{number_text}
use Rattle.hemlist.specs.HemList.{point_of, first_at, face_of, panel_of, first_edge_lem, hem_panel, hem_panels, hem_edges, hem_lengths, beyond_reach}
use Rattle.hemlines.specs.HemLines.{hem_line, line_at, hem_lines}
use Rattle.hemlines.proofs.Line.{parts}
use Rattle.hemtext.specs.HemText.{hem_text, line_room, hem_room}
use Rattle.hemtext.proofs.Lengths.{edges_most, lengths_most}

-- ---- panels

module _ {A : Type 0} (p : A → Bool) where
  step : (b : Bool) (k n : ℕ) → k ≤ n → cond b 0 (suc k) ≤ suc n
  step true k n h = omega arith
  step false k n h = omega arith

  first_few : (l : List A) → first_at p l ≤ length l
  first_few [] = omega arith
  first_few (x ∷ l) = step (p x) (first_at p l) (length l) (first_few l)

panel_few : (fs : List Ring) (x : ℕ) → panel_of fs x ≤ length fs
unfolding panel_of panels
panel_few fs x = omega (arith, first_few (has x) (panels false fs), panels_few (length fs) 0 (length fs) (joins false fs) [])

hem_panel_few : (fs : List Ring) (w : List ℕ) → hem_panel fs w ≤ length fs
unfolding hem_panel
hem_panel_few fs w = panel_few fs (face_of fs (first_edge_lem w))

map_most : {A : Type 0} (f : A → ℕ) (b : ℕ) → ((a : A) → f a ≤ b) → (l : List A) (k : ℕ) → get_or (map f l) k 0 ≤ b
map_most f b h [] k = omega arith
map_most f b h (a ∷ l) zero = h a
map_most f b h (a ∷ l) (suc k) = map_most f b h l k

-- ---- one line, and lines one behind the other

line_long : (p e l : ℕ) → p ≤ face_limit → e ≤ corner_limit → l ≤ 99999999999 → length (hem_line p e l) ≤ line_room
line_long p e l hp he hl =
    let word : List ℕ = bytes "hem" in
    let dp : length (decimal p) ≤ 4 = few_digits 3 p (omega arith) in
    let de : length (decimal e) ≤ 4 = few_digits 3 e (omega arith) in
    let dl : length (decimal l) ≤ 11 = few_digits 10 l (omega arith) in
    omega (
      arith,
      ap length (parts p e l),
      length-append (word ++ number_text p ++ number_text e ++ number_text l) (10 ∷ []),
      length-append (word ++ number_text p ++ number_text e) (number_text l),
      length-append (word ++ number_text p) (number_text e),
      length-append word (number_text p),
    )

each_most : (f : ℕ → List ℕ) (b : ℕ) → ((k : ℕ) → length (f k) ≤ b) → (a n : ℕ) → length (each f (span a n)) ≤ b * n
each_most f b h a zero = omega arith
each_most f b h a (suc n) = omega (arith, h a, each_most f b h (suc a) n, length-append (f a) (each f (span (suc a) n)))

-- ---- the sheet of an accepted mesh whose verdict allows it

module _ {c s : List ℕ} {n : ℕ} (cs : List ℤ) (edged : Edged c s n) (yes : wired (verdict (edges_of (rings s c))) ≡ true) (near : beyond_reach cs ≡ false) where
  abbrev fs : List Ring
  fs = rings s c

  abbrev ws : List (List ℕ)
  ws = house_wires_of fs

  few_hems : length (hems (edges_of fs)) ≤ corner_limit
  few_hems = omega (arith, hems_within c s n edged, edged.sound.fits)

  pub few_wires : length ws ≤ corner_limit
  few_wires = omega (arith, (house_turns fs yes).wires_few, few_hems)

  few_edges : length (joined ws) ≤ corner_limit
  few_edges = omega (arith, (house_turns fs yes).edges_add_up, few_hems)

  this_long : (k : ℕ) → length (line_at (hem_panels fs) (hem_edges fs) (hem_lengths (point_of cs) fs) k) ≤ line_room
  unfolding hem_panels hem_edges hem_lengths
  this_long k =
      line_long _ _ _
      (omega (arith, map_most (hem_panel fs) (length fs) (hem_panel_few fs) ws k, length_rings s c, edged.sound.few))
      (omega (arith, edges_most ws k, few_edges))
      (omega (arith, lengths_most cs near ws k, few_edges))

  pub text_fits : length (hem_text cs fs) ≤ hem_room
  unfolding hem_text hem_lines hem_panels
  text_fits =
      omega (
        arith,
        each_most (line_at (hem_panels fs) (hem_edges fs) (hem_lengths (point_of cs) fs)) line_room this_long 0 (length (hem_panels fs)),
        length-map ws (hem_panel fs),
        few_wires,
      )
