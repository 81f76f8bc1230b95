-- Small meshes, by positions only, and what smoothing makes of their faces, worked out by the rule of the Rust.
-- Assumes nothing.
use Rattle.std.specs.Prelude.{Bool, List, [], ◌∷◌, map, ℕ, ◌*◌, length, replicate, Float}
use Rattle.std.specs.Float.{binary64}
use Rattle.std.specs.Float.Ieee.{of_bits, to_bits}
use Rattle.lists.specs.Lists.{joined, each}
use Rattle.lists.specs.Same.{same_numbers}
use Rattle.mesh.specs.Mesh.{Mesh, mesh_of, Ring}
use Rattle.floating.specs.Near.{nought}
use Rattle.smoothed.specs.Smoothed.{bare}
use Rattle.smoothed.specs.Positions.{half, smoothed_positions}
use Rattle.smoothed.specs.Refusals.{Result, cosine_count, lists, smoothing_number}

abbrev pub triangle : ℕ → ℕ → ℕ → Ring
triangle a b c = bare a ∷ bare b ∷ bare c ∷ []

-- one triangle over 3 positions; of its edges the one across from corner 0 is number 0
abbrev pub one : List Ring
one = triangle 0 1 2 ∷ []

abbrev pub one_smoothed : List Ring
one_smoothed = triangle 0 5 4 ∷ triangle 3 2 4 ∷ triangle 3 5 1 ∷ triangle 3 4 5 ∷ []

-- two triangles over 4 positions, which share the edge of 1 and 2
abbrev pub two : List Ring
two = triangle 0 1 2 ∷ triangle 2 1 3 ∷ []

abbrev pub two_smoothed : List Ring
two_smoothed =
    triangle 0 6 5 ∷ triangle 4 2 5 ∷ triangle 4 6 1 ∷ triangle 4 5 6
    ∷ triangle 2 4 8 ∷ triangle 7 3 8 ∷ triangle 7 4 1 ∷ triangle 7 8 4
    ∷ []

-- a tetrahedron over 4 positions
abbrev pub tetrahedron : List Ring
tetrahedron = triangle 0 1 2 ∷ triangle 0 2 3 ∷ triangle 0 3 1 ∷ triangle 1 3 2 ∷ []

abbrev pub tetrahedron_smoothed : List Ring
tetrahedron_smoothed =
    triangle 0 6 5 ∷ triangle 4 2 5 ∷ triangle 4 6 1 ∷ triangle 4 5 6
    ∷ triangle 0 5 8 ∷ triangle 7 3 8 ∷ triangle 7 5 2 ∷ triangle 7 8 5
    ∷ triangle 0 8 6 ∷ triangle 9 1 6 ∷ triangle 9 8 3 ∷ triangle 9 6 8
    ∷ triangle 1 9 4 ∷ triangle 7 2 4 ∷ triangle 7 9 3 ∷ triangle 7 4 9
    ∷ []

-- two triangles with the same three positions, one turned over: a pocket that is sewn shut
abbrev pub pocket : List Ring
pocket = triangle 0 1 2 ∷ triangle 0 2 1 ∷ []

-- ---- positions, by their bits: what the Rust gave, run with its own functions over plain points

-- the cosines of pi/n and of 2·pi/n, n from 1 to 4
abbrev pub ones : List ℕ
ones = 13830554455654793216 ∷ 4364452196894661639 ∷ 4602678819172646913 ∷ 4604544271217802189 ∷ []

abbrev pub twos : List ℕ
twos = 4607182418800017408 ∷ 13830554455654793216 ∷ 13826050856027422716 ∷ 4364452196894661639 ∷ []

-- whether the faces fs over n positions, at the points ps, come to stand at the points qs
unfoldable pub comes_to : List Ring → ℕ → List ℕ → List ℕ → Bool
comes_to fs n ps qs =
    same_numbers
    (map (to_bits binary64)
    (smoothed_positions fs (map (of_bits binary64) ps) (map (of_bits binary64) ones) (map (of_bits binary64) twos) n))
    qs

-- the two triangles as halves of a square: two corners, two positions on the boundary with an edge between them
abbrev pub two_at : List ℕ
two_at =
    0 ∷ 0 ∷ 0
    ∷ 4607182418800017408 ∷ 0 ∷ 0
    ∷ 0 ∷ 4607182418800017408 ∷ 0
    ∷ 4607182418800017408 ∷ 4607182418800017408 ∷ 0
    ∷ []

abbrev pub two_to : List ℕ
two_to =
    0 ∷ 0 ∷ 0
    ∷ 4606056518893174784 ∷ 4593671619917905920 ∷ 0
    ∷ 4593671619917905920 ∷ 4606056518893174784 ∷ 0
    ∷ 4607182418800017408 ∷ 4607182418800017408 ∷ 0
    ∷ 4602678819172646912 ∷ 4602678819172646912 ∷ 0
    ∷ 0 ∷ 4602678819172646912 ∷ 0
    ∷ 4602678819172646912 ∷ 0 ∷ 0
    ∷ 4607182418800017408 ∷ 4602678819172646912 ∷ 0
    ∷ 4602678819172646912 ∷ 4607182418800017408 ∷ 0
    ∷ []

-- the tetrahedron: all inside
abbrev pub tetrahedron_at : List ℕ
tetrahedron_at =
    0 ∷ 0 ∷ 0
    ∷ 4607182418800017408 ∷ 0 ∷ 0
    ∷ 0 ∷ 4607182418800017408 ∷ 0
    ∷ 0 ∷ 0 ∷ 4607182418800017408
    ∷ []

abbrev pub tetrahedron_to : List ℕ
tetrahedron_to =
    4595923419731591168 ∷ 4595923419731591168 ∷ 4595923419731591168
    ∷ 4601552919265804288 ∷ 4595923419731591168 ∷ 4595923419731591168
    ∷ 4595923419731591168 ∷ 4601552919265804288 ∷ 4595923419731591168
    ∷ 4595923419731591168 ∷ 4595923419731591168 ∷ 4601552919265804288
    ∷ 4600427019358961664 ∷ 4600427019358961664 ∷ 4593671619917905920
    ∷ 4593671619917905920 ∷ 4600427019358961664 ∷ 4593671619917905920
    ∷ 4600427019358961664 ∷ 4593671619917905920 ∷ 4593671619917905920
    ∷ 4593671619917905920 ∷ 4600427019358961664 ∷ 4600427019358961664
    ∷ 4593671619917905920 ∷ 4593671619917905920 ∷ 4600427019358961664
    ∷ 4600427019358961664 ∷ 4593671619917905920 ∷ 4600427019358961664
    ∷ []

-- four triangles about position 0, which is inside; the others are on the boundary
abbrev pub fan : List Ring
fan = triangle 0 1 2 ∷ triangle 0 2 3 ∷ triangle 0 3 4 ∷ triangle 0 4 1 ∷ []

abbrev pub fan_at : List ℕ
fan_at =
    4591870180066957722 ∷ 4596373779694328218 ∷ 4599075939470750515
    ∷ 4607182418800017408 ∷ 0 ∷ 0
    ∷ 0 ∷ 4607182418800017408 ∷ 4598175219545276416
    ∷ 13830554455654793216 ∷ 0 ∷ 0
    ∷ 0 ∷ 13830554455654793216 ∷ 4604480259023595110
    ∷ []

abbrev pub fan_to : List ℕ
fan_to =
    4587591760420955751 ∷ 4592095360048326249 ∷ 4598530581703373619
    ∷ 4604930618986332160 ∷ 0 ∷ 4593221259955168870
    ∷ 0 ∷ 4604930618986332160 ∷ 4595923419731591168
    ∷ 13828302655841107968 ∷ 0 ∷ 4593221259955168870
    ∷ 0 ∷ 13828302655841107968 ∷ 4602903999154015436
    ∷ 4602678819172646912 ∷ 4602678819172646912 ∷ 4593671619917905920
    ∷ 4585565140588639028 ∷ 4601778099247172814 ∷ 4596598959675696743
    ∷ 4601102559303067240 ∷ 4590068740216009524 ∷ 4597499679601170841
    ∷ 13826050856027422720 ∷ 4602678819172646912 ∷ 4593671619917905920
    ∷ 13823123516269631899 ∷ 4590068740216009524 ∷ 4597499679601170841
    ∷ 13826050856027422720 ∷ 13826050856027422720 ∷ 4599976659396224614
    ∷ 4585565140588639026 ∷ 13822447976325526323 ∷ 4600427019358961664
    ∷ 4602678819172646912 ∷ 13826050856027422720 ∷ 4599976659396224614
    ∷ []

-- three triangles in a row: an edge between two positions on the boundary that have three and four neighbours. Its positions were worked
-- out by the formulas of the Rust, one f64 operation at a time
abbrev pub strip : List Ring
strip = triangle 0 1 2 ∷ triangle 2 1 3 ∷ triangle 2 3 4 ∷ []

abbrev pub strip_at : List ℕ
strip_at =
    4591870180066957722 ∷ 4604480259023595110 ∷ 13822447976325526323
    ∷ 4607632778762754458 ∷ 4596373779694328218 ∷ 0
    ∷ 4599075939470750515 ∷ 4608533498688228557 ∷ 4603579539098121011
    ∷ 4610334938539176755 ∷ 4611235658464650854 ∷ 4591870180066957722
    ∷ 4606281698874543309 ∷ 4612361558371493478 ∷ 13827852295878370918
    ∷ []

abbrev pub strip_to : List ℕ
strip_to =
    4591870180066957722 ∷ 4604480259023595110 ∷ 13822447976325526323
    ∷ 4607407598781385933 ∷ 4602228459209909862 ∷ 13806235017666992537
    ∷ 4599976659396224614 ∷ 4608758678669597082 ∷ 4599526299433487565
    ∷ 4609546808604386918 ∷ 4610503823525203148 ∷ 13801731418039622032
    ∷ 4606281698874543309 ∷ 4612361558371493478 ∷ 13827852295878370918
    ∷ 4604930618986332160 ∷ 4606169108883859046 ∷ 4596373779694328218
    ∷ 4596373779694328218 ∷ 4607182418800017408 ∷ 4594572339843380018
    ∷ 4603579539098121011 ∷ 4601778099247172812 ∷ 13817944376698155827
    ∷ 4608983858650965606 ∷ 4607407598781385933 ∷ 4587366580439587226
    ∷ 4606529510584213061 ∷ 4609350604705658142 ∷ 4596405785791431756
    ∷ 4608533498688228557 ∷ 4611911198408756428 ∷ 13822447976325526322
    ∷ 4603579539098121012 ∷ 4610785298501913804 ∷ 13810738617294363024
    ∷ []

-- ---- numbers

-- the mesh of these faces over n positions, which are all the one given
abbrev pub mesh_at : Float → ℕ → List Ring → Mesh
mesh_at x n fs = mesh_of (replicate (3 * n) x) [] [] (each joined fs) (map length fs)

-- a list of n cosines that are all the one given
abbrev pub cosines : ℕ → Float → List Float
cosines n c = replicate n c

abbrev pub rooms : ℕ → ℕ → ℕ → Result
rooms p c s = lists (replicate p nought) (replicate c 0) (replicate s 0)

-- the number of a mesh with cosines of 1/2 and room for what comes of four triangles over four positions
abbrev pub number_of : Mesh → ℕ
number_of m = smoothing_number m (cosines cosine_count half) (cosines cosine_count half) (rooms 48 192 16)

-- the tetrahedron; a quadrangle; two triangles that use an edge the same way
abbrev pub solid : Mesh
solid = mesh_at nought 4 tetrahedron

abbrev pub quadrangle : Ring
quadrangle = bare 0 ∷ bare 1 ∷ bare 2 ∷ bare 3 ∷ []

abbrev pub same_way : List Ring
same_way = triangle 0 1 2 ∷ triangle 0 1 3 ∷ []
