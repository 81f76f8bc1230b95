-- 65,536 bytes are enough for every sheet: a number has at most ten digits, and there are at most 4,096 numbers in at most 4,096 wires.
-- Assumes nothing.
use mathlib.Core.Path.{ap}
use mathlib.Core.List.{List, [], ◌∷◌, ◌++◌, map}
use Prim.Native.Nat.{ℕ, zero, suc, ◌+◌, ◌*◌, ◌≤◌, ◌<◌}
use Prim.Native.String.{String}
use native.Mathlib.Omega.{arith}
use lib.ListN.{length, get_or, take, drop, length-append, take-append-drop}
use Rattle.lists.specs.Lists.{each}
use Rattle.mesh.specs.Limits.{largest}
use Rattle.edges.specs.Edges.{Verdict, Irregular, Regular, Oriented, Closed}
use Rattle.edges.specs.Answers.{verdict_of}
use Rattle.lists.specs.Putting.{Room, Written}
use Rattle.text.specs.Text.{bytes, decimal, decimal_in, spaced, line}
use Rattle.text.proofs.Decimals.{few_digits}
use Rattle.lists.proofs.Listing.{room_first, room_then, written_then}
use Rattle.text.proofs.Putting.{number_text, spaced_numbers}
use Rattle.lines.specs.declared.Findings.{Findings}
use Rattle.lines.specs.Lines.{mesh_line, verdict_line, panels_line, hem_line, hem_lines, sheet_text, sheet_room, refusal}
use Rattle.lists.specs.Cutting.{parts}
use Rattle.lines.specs.Working.{wires_by, found_by, Ready, Sheeted}

-- a text that is written from the front of a list that has room for it
pub sheeted : {text out out' : List ℕ} {n : ℕ} → Room text out 0 → Written text out out' 0 n → Sheeted text out out' n
sheeted r w = record { text_is = w.is; length_is = omega (arith, w.next_is); fits = omega (arith, w.next_is, r.fits) }

-- how many numbers a list of 32 bits can tell apart
abbrev values : ℕ
values = largest + 1

-- numbers of 32 bits
abbrev Small : List ℕ → Type 0
Small ns = (i : ℕ) → get_or ns i 0 < values

small_take : (n : ℕ) (l : List ℕ) → Small l → Small (take n l)
small_take zero l h i = omega arith
small_take (suc n) [] h i = omega arith
small_take (suc n) (x ∷ l) h zero = h 0
small_take (suc n) (x ∷ l) h (suc i) = small_take n l (λ j. h (suc j)) i

small_drop : (n : ℕ) (l : List ℕ) → Small l → Small (drop n l)
small_drop zero l h i = h i
small_drop (suc n) [] h i = omega arith
small_drop (suc n) (x ∷ l) h i = small_drop n l (λ j. h (suc j)) i

-- ten digits and a space each
numbers_long : (ns : List ℕ) → Small ns → length (each number_text ns) ≤ 11 * length ns
numbers_long [] h = omega arith
numbers_long (n ∷ ns) h =
    let one : length (decimal n) ≤ 10 = few_digits 9 n (omega (arith, h 0)) in
    omega (arith, length-append (number_text n) (each number_text ns), numbers_long ns (λ i. h (suc i)))

line_long : (w : String) (ns : List ℕ) → Small ns → length (line w (map decimal ns)) ≤ length (bytes w) + 11 * length ns + 1
unfolding line
line_long w ns h =
    omega (
      arith,
      length-append (bytes w ++ spaced (map decimal ns)) (10 ∷ []),
      length-append (bytes w) (spaced (map decimal ns)),
      ap length (spaced_numbers ns),
      numbers_long ns h,
    )

verdict_long : (v : Verdict) → length (verdict_line v) ≤ 18
unfolding verdict_line line
verdict_long Irregular = omega arith
verdict_long Regular = omega arith
verdict_long Oriented = omega arith
verdict_long Closed = omega arith

hems_long : (s flat : List ℕ) → Small flat → length (each hem_line (parts s flat)) ≤ 4 * length s + 11 * length flat
unfolding hem_line
hems_long [] flat h = omega arith
hems_long (n ∷ s) flat h =
    omega (
      arith,
      length-append (hem_line (take n flat)) (each hem_line (parts s (drop n flat))),
      line_long "hem" (take n flat) (small_take n flat h),
      hems_long s (drop n flat) (small_drop n flat h),
      length-append (take n flat) (drop n flat),
      ap length (take-append-drop n flat),
    )

lines_long : (number : ℕ) (s flat : List ℕ) → Small flat → length (hem_lines (wires_by number flat s)) ≤ 16 + 4 * length s + 11 * length flat
unfolding hem_lines wires_by line decimal decimal_in
lines_long zero s flat h = omega (arith, hems_long s flat h)
lines_long (suc n) s flat h = omega arith

-- counts of 32 bits
pub record Narrow (f : Findings) : Type 0 where
  pub positions : f.positions < values
  pub textures : f.textures < values
  pub normals : f.normals < values
  pub faces : f.faces < values
  pub panels : f.panels < values

four_small : (p t n f : ℕ) → p < values → t < values → n < values → f < values → Small (p ∷ t ∷ n ∷ f ∷ [])
four_small p t n f a b c d zero = a
four_small p t n f a b c d (suc zero) = b
four_small p t n f a b c d (suc (suc zero)) = c
four_small p t n f a b c d (suc (suc (suc zero))) = d
four_small p t n f a b c d (suc (suc (suc (suc i)))) = omega arith

one_small : (k : ℕ) → k < values → Small (k ∷ [])
one_small k h zero = h
one_small k h (suc i) = omega arith

-- so there is room for every sheet
pub sheet_room_lem : (f : Findings) (flat lengths out : List ℕ) → Narrow f → Small flat → Ready flat lengths out → Room (sheet_text (found_by f flat lengths)) out 0
unfolding sheet_text found_by mesh_line panels_line
sheet_room_lem f flat lengths out n h r =
    let mesh = mesh_line f.positions f.textures f.normals f.faces in
    let verdict = verdict_line (verdict_of f.verdict) in
    let panels = panels_line f.panels in
    let hems = hem_lines (wires_by f.number flat lengths) in
    record {
      fits =
          omega (
            arith,
            r.few,
            r.few_wires,
            r.room,
            length-append (mesh ++ verdict ++ panels) hems,
            length-append (mesh ++ verdict) panels,
            length-append mesh verdict,
            line_long "mesh" (f.positions ∷ f.textures ∷ f.normals ∷ f.faces ∷ [])
                (four_small f.positions f.textures f.normals f.faces n.positions n.textures n.normals n.faces),
            verdict_long (verdict_of f.verdict),
            line_long "panels" (f.panels ∷ []) (one_small f.panels n.panels),
            lines_long f.number lengths flat h,
          );
    }

pub refusal_room : (n : ℕ) (out : List ℕ) → n < values → sheet_room ≤ length out → Room (refusal n) out 0
unfolding refusal
refusal_room n out h r = record { fits = omega (arith, line_long "refused" (n ∷ []) (one_small n h)) }

-- the four parts of a sheet, each behind those before it
module _ (f : Findings) (flat lengths : List ℕ) where
  abbrev mesh : List ℕ
  mesh = mesh_line f.positions f.textures f.normals f.faces

  abbrev verdict : List ℕ
  verdict = verdict_line (verdict_of f.verdict)

  abbrev panels : List ℕ
  panels = panels_line f.panels

  abbrev hems : List ℕ
  hems = hem_lines (wires_by f.number flat lengths)

  abbrev whole : List ℕ
  whole = sheet_text (found_by f flat lengths)

  pub mesh_room : (o : List ℕ) → Room whole o 0 → Room mesh o 0
  unfolding sheet_text found_by
  mesh_room o r = room_first mesh verdict o 0 (room_first (mesh ++ verdict) panels o 0 (room_first (mesh ++ verdict ++ panels) hems o 0 r))

  pub verdict_room : (o o1 : List ℕ) (a : ℕ) → Room whole o 0 → Written mesh o o1 0 a → Room verdict o1 a
  unfolding sheet_text found_by
  verdict_room o o1 a r u =
      room_then mesh verdict o o1 0 a (room_first (mesh ++ verdict) panels o 0 (room_first (mesh ++ verdict ++ panels) hems o 0 r)) u

  pub panels_room : (o o1 o2 : List ℕ) (a b : ℕ) → Room whole o 0 → Written mesh o o1 0 a → Written verdict o1 o2 a b → Room panels o2 b
  unfolding sheet_text found_by
  panels_room o o1 o2 a b r u v =
      room_then (mesh ++ verdict) panels o o2 0 b (room_first (mesh ++ verdict ++ panels) hems o 0 r) (written_then mesh verdict o o1 o2 0 a b u v)

  three : (o o1 o2 o3 : List ℕ) (a b c : ℕ) → Written mesh o o1 0 a → Written verdict o1 o2 a b → Written panels o2 o3 b c → Written (mesh ++ verdict ++ panels) o o3 0 c
  three o o1 o2 o3 a b c u v w =
      written_then (mesh ++ verdict) panels o o2 o3 0 b c (written_then mesh verdict o o1 o2 0 a b u v) w

  pub hems_room : (o o1 o2 o3 : List ℕ) (a b c : ℕ) → Room whole o 0 → Written mesh o o1 0 a → Written verdict o1 o2 a b → Written panels o2 o3 b c → Room hems o3 c
  unfolding sheet_text found_by
  hems_room o o1 o2 o3 a b c r u v w = room_then (mesh ++ verdict ++ panels) hems o o3 0 c r (three o o1 o2 o3 a b c u v w)

  pub sheet_written :
      (o o1 o2 o3 o4 : List ℕ) (a b c d : ℕ) → Written mesh o o1 0 a → Written verdict o1 o2 a b → Written panels o2 o3 b c
      → Written hems o3 o4 c d → Written whole o o4 0 d
  unfolding sheet_text found_by
  sheet_written o o1 o2 o3 o4 a b c d u v w x =
      written_then (mesh ++ verdict ++ panels) hems o o3 o4 0 c d (three o o1 o2 o3 a b c u v w) x
