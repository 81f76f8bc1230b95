-- What is left of a cleaned file: it is read into the mesh that was left, which cleaning leaves alone. Assumes nothing.
use mathlib.Core.Path.{◌≡◌, refl, sym, ap, ◌∙◌}
use mathlib.Core.List.{List, [], ◌∷◌}
use Prim.Native.Nat.{ℕ, ◌≤◌}
use native.Mathlib.Omega.{arith}
use lib.ListN.{length}
use lib.Dec.{ltb}
use borrow.Author.Tests.{lt-ltb, le-ltb}
use Rattle.mesh.specs.Mesh.{Mesh}
use Rattle.mesh.specs.Table.{when, short, mesh_number}
use Rattle.mesh.proofs.Numbers.{first_head, first_tail}
use Rattle.cleaning.specs.Cleaning.{cleaned}
use Rattle.little.specs.Little.{Bytes}
use Rattle.reading.specs.Reading.{reading_number, panel_mesh, finish, read_all}
use Rattle.reading.proofs.Ending.{read_accepted}
use Rattle.written.specs.Pieces.{file_of, file_length, file_limit}
use Rattle.written.proofs.Parting.{file_is_long, file_fits}
use Rattle.cleanfile.specs.Cleaning.{mesh_left, clean_file}
use Rattle.cleanfile.proofs.Promised.{left_accepted, cleaned_reopens}
use Rattle.lines.specs.Lines.{sheet_text}
use Rattle.finding.specs.Found.{found_in}
use Rattle.sheet.specs.Sheet as sheet
use Rattle.anyorder.specs.Orders.{Remove, Compact}
use Rattle.anyorder.proofs.Orders.{order_of_cleaning_is_free}
use Rattle.cleanagain.specs.Promises.{CleaningAgain, SheetOfCleaned, SheetOfLongCleaned, OneFile}

-- a mesh that was cleaned is cleaned to itself
clean_again : (m : Mesh) → mesh_number m ≡ 0 → cleaned (cleaned m) ≡ cleaned m
unfolding cleaned
clean_again m z = (order_of_cleaning_is_free m z).before_cleaning (Remove ∷ Compact ∷ [])

module _ (file : List ℕ) (h : reading_number [] file ≡ 0) where
  mesh_accepted : mesh_number (panel_mesh file) ≡ 0
  unfolding reading_number short
  mesh_accepted = read_accepted file (first_head (finish file (read_all file)) [] h)

  pub clean_length : length (clean_file file) ≡ file_length (mesh_left file)
  unfolding clean_file
  clean_length = file_is_long (mesh_left file) (left_accepted file h)

  pub clean_fits : length (clean_file file) ≤ file_limit
  clean_fits = omega (arith, clean_length, file_fits (mesh_left file) (left_accepted file h))

  module _ (b : Bytes file) where
    again_read : reading_number [] (clean_file file) ≡ 0
    unfolding clean_file short
    again_read = (cleaned_reopens file b h).number [] refl

    pub again_mesh : panel_mesh (clean_file file) ≡ mesh_left file
    unfolding clean_file
    again_mesh = (cleaned_reopens file b h).mesh

    again_left : mesh_left (clean_file file) ≡ mesh_left file
    again_left = ap cleaned again_mesh ∙ clean_again (panel_mesh file) mesh_accepted

    again_bytes : clean_file (clean_file file) ≡ clean_file file
    unfolding clean_file
    again_bytes = ap file_of again_left

pub cleaning_again : CleaningAgain
cleaning_again file b h = record {
  reads = again_read file h b;
  fits = clean_fits file h;
  same_mesh = again_left file h b;
  same_bytes = again_bytes file h b;
}

-- ---- the sheets

module _ (file : List ℕ) where
  -- a file that the sheet takes is read
  pub taken_read : sheet.file_number file ≡ 0 → reading_number [] file ≡ 0
  unfolding sheet.file_number
  taken_read e = first_head (reading_number [] file) [] (first_tail (when (ltb sheet.file_limit (length file)) 1) (reading_number [] file ∷ []) e)

  pub read_taken : reading_number [] file ≡ 0 → length file ≤ sheet.file_limit → sheet.file_number file ≡ 0
  unfolding sheet.file_number
  read_taken h l = rw (le-ltb sheet.file_limit (length file) l, h)

  sheet_is : sheet.file_number file ≡ 0 → sheet.sheet_of file ≡ sheet_text (found_in (mesh_left file))
  unfolding sheet.sheet_of sheet.printed
  sheet_is e = rw e

pub sheet_of_cleaned : SheetOfCleaned
sheet_of_cleaned file b e l =
    let h = taken_read file e in
    sheet_is (clean_file file) (read_taken (clean_file file) (again_read file h b) l)
    ∙ ap (λ (m : Mesh). sheet_text (found_in m)) (again_left file h b)
    ∙ sym (sheet_is file e)

pub sheet_of_long_cleaned : SheetOfLongCleaned
unfolding sheet.sheet_of sheet.file_number sheet.printed
sheet_of_long_cleaned file l = rw (lt-ltb sheet.file_limit (length (clean_file file)) l)

pub one_file : OneFile
unfolding clean_file
one_file file h ss e = ap file_of ((order_of_cleaning_is_free (panel_mesh file) (mesh_accepted file h)).one_result ss e)
