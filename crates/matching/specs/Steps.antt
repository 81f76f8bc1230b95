-- The steps of the code, and no rules: halves of points as columns of digits, and the rooms that are lent. Assumes nothing.
use Rattle.std.specs.Prelude.{◌≡◌, Bool, List, ℕ, ◌+◌, ◌/◌, ◌%◌, ◌≤◌, ◌<◌, length, get_or, set}
use Rattle.mesh.specs.Limits.{corner_limit}
use Rattle.sorting.specs.Sorting.{key_limit}
use Rattle.columns.specs.Columns.{normal_digit}
use Rattle.scanned.specs.Scan.{point_place, point_bytes, point_at}
use Rattle.widening.specs.Halves.{half_points, half_of}

-- a file that has u points, not too many of them
pub record ScanRows (file : List ℕ) (u : ℕ) : Type 0 where
  pub few : u ≤ corner_limit
  pub inside : (k : ℕ) → k < u → point_place k + point_bytes ≤ length file

-- half of point k
unfoldable pub half_at : Bool → List ℕ → ℕ → ℕ
half_at upper file k = half_of upper (point_at file k)

-- a number's digits: the lowest, and what is above it
abbrev pub lowest : ℕ → ℕ
lowest h = h % key_limit

abbrev pub above : ℕ → ℕ
above h = h / key_limit

-- rows for the digits of u halves, and in the end what they hold
pub record HalfRows (file a b c d : List ℕ) : Type 0 where
  pub rows : ScanRows file (length a)
  pub b_long : length b ≡ length a
  pub c_long : length c ≡ length a
  pub d_long : length d ≡ length a

pub record DigitsAt (h k : ℕ) (a b c d : List ℕ) : Type 0 where
  pub small : h < half_points
  pub in_a : get_or a k 0 ≡ lowest h
  pub in_b : get_or b k 0 ≡ lowest (above h)
  pub in_c : get_or c k 0 ≡ lowest (above (above h))
  pub in_d : get_or d k 0 ≡ lowest (above (above (above h)))

pub record HalfColumns (key : ℕ → ℕ) (u : ℕ) (a b c d : List ℕ) : Type 0 where
  pub a_long : length a ≡ u
  pub b_long : length b ≡ u
  pub c_long : length c ≡ u
  pub d_long : length d ≡ u
  pub digits : (k : ℕ) → k < u → DigitsAt (key k) k a b c d

-- one half
pub record DigitRoom (k : ℕ) (a b c d : List ℕ) : Type 0 where
  pub inside : k < length a
  pub b_long : length b ≡ length a
  pub c_long : length c ≡ length a
  pub d_long : length d ≡ length a

pub record DigitsPut (h k : ℕ) (a b c d a' b' c' d' : List ℕ) : Type 0 where
  pub a_is : a' ≡ set a k (lowest h)
  pub b_is : b' ≡ set b k (lowest (above h))
  pub c_is : c' ≡ set c k (lowest (above (above h)))
  pub d_is : d' ≡ set d k (lowest (above (above (above h))))

-- and a row for the order, and room for the marks
pub record HalfRoom (file a b c d order firsts : List ℕ) : Type 0 where
  pub rows : ScanRows file (length firsts)
  pub a_long : length a ≡ length firsts
  pub b_long : length b ≡ length firsts
  pub c_long : length c ≡ length firsts
  pub d_long : length d ≡ length firsts
  pub order_long : length order ≡ length firsts

-- two rows for the marks by half
pub record BothRoom (file low high firsts : List ℕ) : Type 0 where
  pub rows : ScanRows file (length firsts)
  pub low_long : length low ≡ length firsts
  pub high_long : length high ≡ length firsts

-- two rows of u marks
pub record BothRows (low high : List ℕ) (u : ℕ) : Type 0 where
  pub few : u ≤ corner_limit
  pub low_long : length low ≡ u
  pub high_long : length high ≡ u
  pub low_below : (x : ℕ) → x < u → get_or low x 0 < key_limit
  pub high_below : (x : ℕ) → x < u → get_or high x 0 < key_limit

pub record AlikeRoom (low high alike order firsts : List ℕ) : Type 0 where
  pub rows : BothRows low high (length firsts)
  pub alike_long : length alike ≡ length firsts
  pub alike_is : (x : ℕ) → x < length firsts → get_or alike x 0 ≡ normal_digit 0
  pub order_long : length order ≡ length firsts
