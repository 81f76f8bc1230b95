-- The numbers of a hem file by the figures of document 02, CR 13, and whole sheets, of small files that are written out byte by byte. Proved in
-- proofs/, by computation. Assumes nothing.
use Rattle.std.specs.Prelude.{◌≡◌, List, [], ◌∷◌, ◌++◌, ℕ, length, replicate}
use Prim.Native.String.{String}
use Rattle.text.specs.Text.{bytes}
use Rattle.hemfile.specs.HemFile.{panel_count, hem_file_number, hem_sheet_of}

-- ---- files, byte by byte

-- four bytes of a small number, and of one that is missing
abbrev pub small : ℕ → List ℕ
small n = n ∷ 0 ∷ 0 ∷ 0 ∷ []

abbrev pub none : List ℕ
none = 255 ∷ 255 ∷ 255 ∷ 255 ∷ []

-- records of a panel file: a position, a triangle by its positions, the end
abbrev pub position : List ℕ
position = 24 ∷ 0 ∷ 1 ∷ 0 ∷ replicate 24 0

abbrev pub corner : ℕ → List ℕ
corner p = small p ++ none ++ none

abbrev pub triangle : ℕ → ℕ → ℕ → List ℕ
triangle a b c = 37 ∷ 0 ∷ 4 ∷ 0 ∷ 3 ∷ corner a ++ corner b ++ corner c

abbrev pub end : List ℕ
end = 0 ∷ 0 ∷ 0 ∷ 0 ∷ []

-- three positions and a triangle, which are 129 bytes; the triangle twice, whose verdict is Regular, which are 170; and the triangle with no
-- position, 45
abbrev pub kerchief : List ℕ
kerchief = position ++ position ++ position ++ triangle 0 1 2 ++ end

abbrev pub doubled : List ℕ
doubled = position ++ position ++ position ++ triangle 0 1 2 ++ triangle 0 1 2 ++ end

abbrev pub torn : List ℕ
torn = triangle 0 1 2 ++ end

-- the first eight of nine coordinates, by which the triangle has sides of 3, 5 and 4; the ninth is z
abbrev pub up_to : List ℕ → List ℕ
up_to z = small 0 ++ small 0 ++ small 0 ++ small 3 ++ small 0 ++ small 0 ++ small 0 ++ small 4 ++ z

-- the number of the triangle's file by its ninth coordinate
abbrev pub by_last : List ℕ → ℕ
by_last z = hem_file_number (small 129 ++ kerchief ++ up_to z)

-- ---- the numbers

pub record FileNumbersAsAsked : Type 0 where
  -- over 65,536 bytes in all gives 1; one of 65,536 whose count asks for one byte more is under the count
  pub too_long : (file : List ℕ) → length file ≡ 65537 → hem_file_number file ≡ 1
  pub just_fits : (file : List ℕ) → length file ≡ 65536 → panel_count file ≡ 65533 → hem_file_number file ≡ 11
  -- under four bytes, or under the count, 11: the greatest count there is too
  pub under_four : (hem_file_number [] ≡ 11) × (hem_file_number (0 ∷ 0 ∷ 0 ∷ []) ≡ 11)
  pub under_the_count : hem_file_number (small 5 ++ end) ≡ 11
  pub greatest_count : hem_file_number (none ++ end) ≡ 11
  -- before anything of the panel file is read: its first record has a kind that there is not, which alone is 12
  pub count_first : hem_file_number (small 5 ++ 0 ∷ 0 ∷ 9 ∷ 0 ∷ []) ≡ 11
  pub then_12 : hem_file_number (small 4 ++ 0 ∷ 0 ∷ 9 ∷ 0 ∷ []) ≡ 12
  -- then the reader's numbers: a count of nothing, one that ends inside a record, one that ends behind the end record
  pub counts_nothing : hem_file_number (small 0 ++ end) ≡ 11
  pub counts_too_few : hem_file_number (small 3 ++ end) ≡ 11
  pub counts_too_many : hem_file_number (small 5 ++ end ++ 0 ∷ []) ≡ 13
  -- 5, before the cut triple behind it
  pub five_first : hem_file_number (small 45 ++ torn ++ 0 ∷ []) ≡ 5
  -- 18: no triple, a cut one, a byte more
  pub no_triple : hem_file_number (small 129 ++ kerchief) ≡ 18
  pub cut : by_last (0 ∷ 0 ∷ 0 ∷ []) ≡ 18
  pub one_more : by_last (small 0 ++ 0 ∷ []) ≡ 18
  pub no_position : hem_file_number (small 4 ++ end ++ 0 ∷ []) ≡ 18
  -- 19: 1,000,000 and -1,000,000 are in reach, one more either way is not, nor is the least that four bytes say
  pub farthest : (by_last (64 ∷ 66 ∷ 15 ∷ 0 ∷ []) ≡ 0) × (by_last (192 ∷ 189 ∷ 240 ∷ 255 ∷ []) ≡ 0)
  pub beyond : (by_last (65 ∷ 66 ∷ 15 ∷ 0 ∷ []) ≡ 19) × (by_last (191 ∷ 189 ∷ 240 ∷ 255 ∷ []) ≡ 19)
  pub least : by_last (0 ∷ 0 ∷ 0 ∷ 128 ∷ []) ≡ 19
  -- 18 before 19, 19 before 10
  pub then_18 : hem_file_number (small 170 ++ doubled ++ 65 ∷ 66 ∷ 15 ∷ 0 ∷ []) ≡ 18
  pub then_19 : hem_file_number (small 170 ++ doubled ++ up_to (65 ∷ 66 ∷ 15 ∷ 0 ∷ [])) ≡ 19
  pub then_10 : hem_file_number (small 170 ++ doubled ++ up_to (small 0)) ≡ 10

-- ---- the sheets

abbrev pub one_line : String → List ℕ
one_line w = bytes w ++ 10 ∷ []

pub record SheetsAsAsked : Type 0 where
  -- `hem`, panel, edges and length
  pub one_hem : hem_sheet_of (small 129 ++ kerchief ++ up_to (small 0)) ≡ one_line "hem 0 3 12"
  -- or `refused` and the number
  pub refused : hem_sheet_of [] ≡ one_line "refused 11"
  -- no hem: no byte
  pub empty : hem_sheet_of (small 4 ++ end) ≡ []
