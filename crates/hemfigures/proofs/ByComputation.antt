-- The figures hold. Assumes nothing.
use mathlib.Core.Path.{◌≡◌, refl}
use mathlib.Core.List.{List}
use Prim.Native.Nat.{ℕ, ◌+◌, ◌≤◌, ◌<◌}
use native.Mathlib.Omega.{arith}
use lib.ListN.{length}
use lib.Ieee.{of_fields, of_bits}
use borrow.Author.Tests.{lt-ltb, le-ltb}
use Rattle.mesh.specs.Mesh.{faces}
use Rattle.mesh.specs.Table.{short}
use Rattle.grouping.specs.Push.{pushed}
use Rattle.floating.specs.Limits.{finite}
use Rattle.edges.specs.Edges.{key, verdict, hems}
use Rattle.turning.specs.Turning.{turn_from, onward_in, onward, trail, trails_in, house_wires}
use Rattle.keys.specs.Keys.{key_of}
use Rattle.searching.specs.Search.{search_from, panels_from}
use Rattle.panels.specs.Panels.{panels}
use Rattle.roots.specs.Roots.{root_of}
use Rattle.hemlist.specs.HemList.{edge_length, face_of, panel_of, hem_panel, hem_panels, hem_edges, hem_lengths, beyond_reach}
use Rattle.little.specs.Little.{half, word, long}
use Rattle.records.specs.Records.{coordinate, point_from, length_fits, attribute, any_mark, counted, face_from, body_from, record_from}
use Rattle.reading.specs.Reading.{take_record, read_from, read_all, mesh_drawn, finish, reading_number, panel_mesh}
use Rattle.text.specs.Text.{decimal_in, decimal, line}
use Rattle.lines.specs.Lines.{refusal}
use Rattle.hemlines.specs.HemLines.{hem_line, hem_lines}
use Rattle.hemtext.specs.HemText.{hem_text, printed}
use Rattle.triples.specs.Triples.{signed, coordinate_at, coordinates_in}
use Rattle.hemfile.specs.HemFile.{count_bytes, file_limit, panel_count, panel_bytes, triple_bytes, coordinates_of, astray_triples, hem_file_number, hem_sheet_of}
use Rattle.hemfigures.specs.Figures.{FileNumbersAsAsked, SheetsAsAsked}

over : (file : List ℕ) → length file ≡ 65537 → hem_file_number file ≡ 1
unfolding hem_file_number
over file e = let h : file_limit < length file = omega (arith, e) in rw (lt-ltb file_limit (length file) h)

fits : (file : List ℕ) → length file ≡ 65536 → panel_count file ≡ 65533 → hem_file_number file ≡ 11
unfolding hem_file_number
fits file e c =
    let a : length file ≤ file_limit = omega (arith, e) in
    let b : count_bytes ≤ length file = omega (arith, e) in
    let u : length file < count_bytes + panel_count file = omega (arith, e, c) in
    rw (le-ltb file_limit (length file) a, le-ltb (length file) count_bytes b, lt-ltb (length file) (count_bytes + panel_count file) u)

pub file_numbers_as_asked : FileNumbersAsAsked
unfolding of_fields of_bits finite faces short pushed key verdict beyond_reach half word long coordinate point_from length_fits attribute any_mark counted
    face_from body_from record_from take_record read_from read_all mesh_drawn finish reading_number panel_mesh signed coordinate_at coordinates_in panel_count
    panel_bytes triple_bytes coordinates_of astray_triples hem_file_number
file_numbers_as_asked = record {
  too_long = over;
  just_fits = fits;
  under_four = (refl, refl);
  under_the_count = refl;
  greatest_count = refl;
  count_first = refl;
  then_12 = refl;
  counts_nothing = refl;
  counts_too_few = refl;
  counts_too_many = refl;
  five_first = refl;
  no_triple = refl;
  cut = refl;
  one_more = refl;
  no_position = refl;
  farthest = (refl, refl);
  beyond = (refl, refl);
  least = refl;
  then_18 = refl;
  then_19 = refl;
  then_10 = refl;
}

pub sheets_as_asked : SheetsAsAsked
unfolding of_fields of_bits finite faces short pushed key verdict beyond_reach half word long coordinate point_from length_fits attribute any_mark counted
    face_from body_from record_from take_record read_from read_all mesh_drawn finish reading_number panel_mesh signed coordinate_at coordinates_in panel_count
    panel_bytes triple_bytes coordinates_of astray_triples hem_file_number hems turn_from onward_in onward trail trails_in house_wires key_of search_from
    panels_from panels root_of edge_length face_of panel_of hem_panel hem_panels hem_edges hem_lengths decimal_in decimal line refusal hem_line hem_lines hem_text
    printed hem_sheet_of
sheets_as_asked = record { one_hem = refl; refused = refl; empty = refl }
