-- The steps of the code, and no rules of document 01: the neighbours of a face as a part of a row, a stack in a row, and the faces
-- that are listed so far, in all panels, at the front of the flat list. Assumes nothing.
use Rattle.std.specs.Prelude.{◌≡◌, Bool, true, false, cond, List, [], ◌∷◌, ◌++◌, map, ℕ, zero, suc, ◌+◌, ◌-◌, ◌%◌, ◌≤◌, ◌<◌, eqb, length, get_or, take, drop, replicate}
use Rattle.std.proofs.Math.Seq.{slice}
use Rattle.std.proofs.lemmas.List.Edits.{sets}
use Rattle.lists.specs.Lists.{count, has, joined, span}
use Rattle.mesh.specs.Limits.{face_limit}
use Rattle.sorting.specs.Sorting.{sorted_by, ends_by}
use Rattle.connected.specs.Search.{Search, panels_from}
use Rattle.connected.specs.Joins.{join_numbers, flat_joins, joins_of}

-- ---- neighbours in a row

-- the other face of the join at entry e of the flat joins
unfoldable pub other_end : List ℕ → ℕ → ℕ
other_end joins e = cond (eqb (e % 2) 0) (get_or joins (e + 1) 0) (get_or joins (e - 1) 0)

-- the neighbours that a part of the row of entries stands for
abbrev pub near_between : List ℕ → List ℕ → ℕ → ℕ → List ℕ
near_between joins order from to = map (other_end joins) (slice from to order)

-- where the entries of face x begin: where those of the face before it end
unfoldable pub begin_of : List ℕ → ℕ → ℕ
begin_of ends zero = 0
begin_of ends (suc x) = get_or ends x 0

-- joins whose entries stand by face in a row, with where those of each face end
pub record Adjacent (joins order ends : List ℕ) : Type 0 where
  pub whole : joins ≡ flat_joins (joins_of joins)
  pub fits : length joins ≤ join_numbers
  pub below : (e : ℕ) → e < length joins → get_or joins e 0 < length ends
  pub ordered : order ≡ sorted_by (length ends) joins (span 0 (length joins))
  pub ended : ends ≡ ends_by (length ends) joins (span 0 (length joins))

pub record AtEntry (joins : List ℕ) (e : ℕ) : Type 0 where
  pub whole : length joins % 2 ≡ 0
  pub fits : length joins ≤ join_numbers
  pub inside : e < length joins

-- ---- a stack in a row, its top last; the first n of the flat list are listed

abbrev pub stack_of : List ℕ → ℕ → List ℕ
stack_of l zero = []
stack_of l (suc n) = get_or l n 0 ∷ stack_of l n

abbrev pub state_of : List ℕ → ℕ → List ℕ → ℕ → Search
state_of stack top flat n = (stack_of stack top, take n flat)

abbrev pub mark_of : Bool → ℕ
mark_of true = 1
mark_of false = 0

-- of f faces, those that are listed are marked, each is listed at most once, and no more are on the stack
pub record Listing (f : ℕ) (seen stack flat : List ℕ) (top n : ℕ) : Type 0 where
  pub small : f ≤ face_limit
  pub seen_long : length seen ≡ f
  pub stack_long : length stack ≡ f
  pub room : f ≤ length flat
  pub few : n ≤ f
  pub under : top ≤ n
  pub marked : (x : ℕ) → x < f → get_or seen x 0 ≡ mark_of (has x (take n flat))
  pub once : (x : ℕ) → count (eqb x) (take n flat) ≤ 1
  pub below : (x : ℕ) → has x (take n flat) ≡ true → x < f
  pub stacked : (x : ℕ) → has x (stack_of stack top) ≡ true → x < f

-- face x may be seen
pub record Visitable (f x : ℕ) (seen stack flat : List ℕ) (top n : ℕ) : Type 0 where
  pub listing : Listing f seen stack flat top n
  pub face : x < f

-- a part of the row of entries, up to `to`, may be looked through: each entry is one of a whole join of two of f faces
pub record Lookable (f : ℕ) (joins order : List ℕ) (to : ℕ) (seen stack flat : List ℕ) (top n : ℕ) : Type 0 where
  pub whole : length joins % 2 ≡ 0
  pub fits : length joins ≤ join_numbers
  pub below : (e : ℕ) → e < length joins → get_or joins e 0 < f
  pub entries : (p : ℕ) → p < length order → get_or order p 0 < length joins
  pub within : to ≤ length order
  pub listing : Listing f seen stack flat top n

-- a face may be popped
pub record Poppable (joins order ends seen stack flat : List ℕ) (top n : ℕ) : Type 0 where
  pub adjacent : Adjacent joins order ends
  pub listing : Listing (length ends) seen stack flat top n
  pub some : 0 < top

-- a face that is not listed: its panel may be searched for
pub record Searchable (joins order ends : List ℕ) (face : ℕ) (seen stack flat : List ℕ) (n : ℕ) : Type 0 where
  pub adjacent : Adjacent joins order ends
  pub listing : Listing (length ends) seen stack flat 0 n
  pub is_face : face < length ends
  pub new : has face (take n flat) ≡ false

-- a step has led to state s; past what is listed the flat list is as it was
pub record Stepped (f : ℕ) (s : Search) (flat : List ℕ) (n : ℕ) (seen' stack' flat' : List ℕ) (top' n' : ℕ) : Type 0 where
  pub state : state_of stack' top' flat' n' ≡ s
  pub listing : Listing f seen' stack' flat' top' n'
  pub more : n ≤ n'
  pub rest : drop n' flat' ≡ drop n' flat

-- a panel is listed behind those that were
pub record Searched (f : ℕ) (panel flat : List ℕ) (n : ℕ) (seen' stack' flat' : List ℕ) (n' : ℕ) : Type 0 where
  pub listed : take n' flat' ≡ take n flat ++ panel
  pub listing : Listing f seen' stack' flat' 0 n'
  pub more : n ≤ n'
  pub rest : drop n' flat' ≡ drop n' flat

-- ---- the panels of the faces below i

abbrev pub panels_below : ℕ → ℕ → List ℕ → List (List ℕ)
panels_below i f joins = panels_from i 0 f (joins_of joins) []

-- the panels of the faces below i are listed, k of them with n faces, and their lengths
pub record Panelling (i : ℕ) (joins ends seen stack flat lengths : List ℕ) (n k : ℕ) : Type 0 where
  pub listing : Listing (length ends) seen stack flat 0 n
  pub faces : take n flat ≡ joined (panels_below i (length ends) joins)
  pub sizes : take k lengths ≡ map length (panels_below i (length ends) joins)
  pub few : k ≤ i
  pub room : length ends ≤ length lengths

pub record PanelAt (i : ℕ) (joins order ends seen stack flat lengths : List ℕ) (n k : ℕ) : Type 0 where
  pub adjacent : Adjacent joins order ends
  pub panelling : Panelling i joins ends seen stack flat lengths n k
  pub is_face : i < length ends

pub record PanelledMore (i : ℕ) (joins ends flat lengths : List ℕ) (n k : ℕ) (seen' stack' flat' lengths' : List ℕ) (n' k' : ℕ) : Type 0 where
  pub panelling : Panelling i joins ends seen' stack' flat' lengths' n' k'
  pub more_faces : n ≤ n'
  pub more_panels : k ≤ k'
  pub rest_faces : drop n' flat' ≡ drop n' flat
  pub rest_panels : drop k' lengths' ≡ drop k' lengths

-- what listing all panels rests on: no face is listed yet, and there is room
pub record Partable (joins order ends seen stack flat lengths : List ℕ) : Type 0 where
  pub adjacent : Adjacent joins order ends
  pub small : length ends ≤ face_limit
  pub unseen : seen ≡ replicate (length ends) 0
  pub stack_long : length stack ≡ length ends
  pub faces_room : length ends ≤ length flat
  pub panels_room : length ends ≤ length lengths

-- all panels are listed
pub record Parted (panels : List (List ℕ)) (flat lengths flat' lengths' : List ℕ) (faces count : ℕ) : Type 0 where
  pub faces_are : faces ≡ length (joined panels)
  pub count_is : count ≡ length panels
  pub flat_is : flat' ≡ sets flat 0 (joined panels)
  pub lengths_are : lengths' ≡ sets lengths 0 (map length panels)
