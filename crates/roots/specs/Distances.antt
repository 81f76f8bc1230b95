-- How far two points with whole-number coordinates are apart, as document 02, CR 13, has it. Assumes nothing.
use Rattle.std.specs.Prelude.{ℕ, ◌+◌, ◌*◌, ◌≤◌, ℤ, nat_abs, ◌-ℤ◌}

-- of two numbers
abbrev pub apart_by : ℤ → ℤ → ℕ
apart_by a b = nat_abs (a -ℤ b)

-- a point is three coordinates
abbrev pub Point : Type 0
Point = ℤ × ℤ × ℤ

-- the squared distance, of the three differences and of two points
abbrev pub squares : ℕ → ℕ → ℕ → ℕ
squares x y z = x * x + y * y + z * z

abbrev pub squared_distance : Point → Point → ℕ
squared_distance a b = squares (apart_by a.0 b.0) (apart_by a.1 b.1) (apart_by a.2 b.2)

-- how far a coordinate may lie from 0, either way
abbrev pub coordinate_limit : ℕ
coordinate_limit = 1000000

-- no coordinate is beyond it
pub record Reached (a : Point) : Type 0 where
  pub first : nat_abs a.0 ≤ coordinate_limit
  pub second : nat_abs a.1 ≤ coordinate_limit
  pub third : nat_abs a.2 ≤ coordinate_limit

-- how far two of them may be apart, and the squared distance of two such points
abbrev pub span_limit : ℕ
span_limit = 2000000

abbrev pub squared_limit : ℕ
squared_limit = 12000000000000

-- the differences of two such points
pub record Spanned (x y z : ℕ) : Type 0 where
  pub first : x ≤ span_limit
  pub second : y ≤ span_limit
  pub third : z ≤ span_limit

-- what is added to a signed number of 32 bits so that it counts from 0: 2^31
abbrev pub bias : ℕ
bias = 2147483648
