-- The numbers of the list of hems by the figures of document 02, CR 13, and the smallest hems there are, each shown by computation; and that a
-- refused call writes nothing. Assumes nothing.
use Rattle.std.specs.Prelude.{◌≡◌, List, [], ◌∷◌, ◌++◌, map, ℕ, suc, ℤ, pos, negsuc}
use Rattle.mesh.specs.Mesh.{Mesh, faces}
use Rattle.edges.specs.Edges.{ring_edges}
use Rattle.turning.specs.Turning.{house_wires_of}
use Rattle.order.specs.Pairs.{plain, triangle, thrice_used, turned_over}
use Rattle.hemlist.specs.HemList.{point_of, edge_length, hem_panels, hem_edges, hem_lengths, hem_list_number}
use Rattle.hemlist.specs.Answer.{HemLists, HemsListed}
use Rattle.hemlist.specs.declared.Listed.{Listed}

-- ---- the numbers

-- a cover of one triangle, with three positions and three corners, and one whose third position is not there
abbrev pub kerchief : Mesh
kerchief = plain 3 (triangle 0 1 2 ∷ [])

abbrev pub torn : Mesh
torn = plain 2 (triangle 0 1 2 ∷ [])

-- two triples; and three, the last of which ends in z
abbrev pub two_triples : List ℤ
two_triples = pos 0 ∷ pos 0 ∷ pos 0 ∷ pos 1 ∷ pos 1 ∷ pos 1 ∷ []

abbrev pub up_to : ℤ → List ℤ
up_to z = two_triples ++ (pos 0 ∷ pos 0 ∷ z ∷ [])

-- the number by the last coordinate, with room enough; and by the room of the three lists
abbrev pub by_last : ℤ → ℕ
by_last z = hem_list_number kerchief (up_to z) 3 3 3

abbrev pub by_room : ℕ → ℕ → ℕ → ℕ
by_room panels edges lengths = hem_list_number kerchief (up_to (pos 0)) panels edges lengths

pub record NumbersAsAsked : Type 0 where
  -- 18, the triples don't match the number of positions: a triple too few, a coordinate too few, a coordinate too many
  pub triple_too_few : hem_list_number kerchief two_triples 3 3 3 ≡ 18
  pub cut : hem_list_number kerchief (two_triples ++ (pos 0 ∷ pos 0 ∷ [])) 3 3 3 ≡ 18
  pub one_more : hem_list_number kerchief (pos 0 ∷ up_to (pos 0)) 3 3 3 ≡ 18
  -- 19, a coordinate is beyond 1,000,000 either way
  pub farthest : (by_last (pos 1000000) ≡ 0) × (by_last (negsuc 999999) ≡ 0)
  pub beyond : (by_last (pos 1000001) ≡ 19) × (by_last (negsuc 1000000) ≡ 19)
  -- 9, one entry per corner in each list
  pub room_enough : by_room 3 3 3 ≡ 0
  pub room_missing : (by_room 2 3 3 ≡ 9) × (by_room 3 2 3 ≡ 9) × (by_room 3 3 2 ≡ 9)
  -- 10, Irregular and Regular
  pub irregular : hem_list_number thrice_used (up_to (pos 0) ++ two_triples) 9 9 9 ≡ 10
  pub regular : hem_list_number turned_over (two_triples ++ two_triples) 6 6 6 ≡ 10
  -- 5 comes before 18, 18 before 19, 19 before 9, and 9 before 10: where all that follow would be given too
  pub five_first : hem_list_number torn (pos 1000001 ∷ []) 0 0 0 ≡ 5
  pub then_18 : hem_list_number thrice_used (pos 1000001 ∷ []) 0 0 0 ≡ 18
  pub then_19 : hem_list_number thrice_used (up_to (pos 1000001) ++ two_triples) 0 0 0 ≡ 19
  pub then_9 : hem_list_number thrice_used (up_to (pos 0) ++ two_triples) 0 0 0 ≡ 9

-- a refused call leaves all three lists as they were, and counts no hem
pub record Untouched (before afterwards : HemLists) (answer : Listed) : Type 0 where
  pub panels : afterwards.panels ≡ before.panels
  pub edges : afterwards.edges ≡ before.edges
  pub lengths : afterwards.lengths ≡ before.lengths
  pub no_hem : answer.hems ≡ 0

abbrev pub RefusedWritesNothing : Type 0
RefusedWritesNothing =
    (m : Mesh) (cs : List ℤ) (before afterwards : HemLists) (answer : Listed) → HemsListed m cs before afterwards answer
    → (n : ℕ) → answer.number ≡ suc n → Untouched before afterwards answer

-- ---- the smallest hems

-- a triangle whose first edge begins and ends at one position: one hem, of that edge alone
abbrev pub folded_over : Mesh
folded_over = plain 2 (triangle 0 0 1 ∷ [])

pub record OneEdge : Type 0 where
  pub is_accepted : hem_list_number folded_over two_triples 3 3 3 ≡ 0
  pub one_hem : house_wires_of (faces folded_over) ≡ (0 ∷ []) ∷ []
  pub its_panel : hem_panels (faces folded_over) ≡ 0 ∷ []
  pub its_edges : hem_edges (faces folded_over) ≡ 1 ∷ []
  pub its_length : hem_lengths (point_of two_triples) (faces folded_over) ≡ 0 ∷ []

-- no face: no hem, and no room is asked for; but each position has its triple, and 19 looks at it, used or not
pub record NoFace : Type 0 where
  pub is_accepted : hem_list_number (plain 2 []) two_triples 0 0 0 ≡ 0
  pub each_its_triple : hem_list_number (plain 2 []) [] 0 0 0 ≡ 18
  pub used_or_not : hem_list_number (plain 1 []) (pos 0 ∷ negsuc 1000000 ∷ pos 0 ∷ []) 0 0 0 ≡ 19
  pub no_hem : hem_edges (faces (plain 2 [])) ≡ []

-- ---- cut, and by the signs

-- an edge's length is cut where the nearest whole number is the greater one too, and a difference goes by the signs: the roots of 3, of 8 and of 3
abbrev pub about_zero : List ℤ
about_zero = pos 0 ∷ pos 0 ∷ pos 0 ∷ pos 1 ∷ negsuc 0 ∷ pos 1 ∷ negsuc 0 ∷ pos 1 ∷ pos 1 ∷ []

pub record Cut : Type 0 where
  pub edges : map (edge_length (point_of about_zero)) (ring_edges (triangle 0 1 2)) ≡ 1 ∷ 2 ∷ 1 ∷ []
  pub hem : hem_lengths (point_of about_zero) (faces kerchief) ≡ 4 ∷ []
