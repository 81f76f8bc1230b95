-- The calls: what a cleaner has written where it answered 0 is the cleaned file, and what a sheet has written is the sheet. Assumes nothing.
use mathlib.Core.Path.{◌≡◌, refl, sym, ap, ap₂, ◌∙◌}
use mathlib.Core.List.{List, [], ◌∷◌}
use Prim.Native.Nat.{ℕ, ◌≤◌}
use native.Mathlib.Omega.{arith}
use lib.ListN.{length, take}
use lib.Seq.{sets}
use lib.Dec.{ltb}
use borrow.Author.Tests.{le-ltb}
use Rattle.lists.proofs.Copies.{take_written}
use Rattle.mesh.specs.Table.{when, lent, short, after}
use Rattle.mesh.proofs.After.{after_done}
use Rattle.mesh.proofs.Numbers.{first_head, first_tail}
use Rattle.reading.specs.Reading.{reading_number}
use Rattle.written.specs.Pieces.{file_length, file_limit}
use Rattle.cleanfile.specs.Cleaning.{mesh_left, clean_file, cleaning_number}
use Rattle.lines.specs.Lines.{sheet_room}
use Rattle.sheet.specs.declared.Answer.{Answer}
use Rattle.sheet.specs.Sheet as sheet
use Rattle.exports.specs.Sheets.{SheetCall}
use Rattle.exports.proofs.Sheets.{call_done, as_long, sheet_written}
use Rattle.cleanagain.specs.Calls.{CleanCall, clean_bytes, CallsCleanAgain, CallsPrintTheSame, FilesCanBeHad}
use Rattle.cleanagain.proofs.Files.{clean_length, clean_fits, cleaning_again, read_taken, sheet_of_cleaned}

-- ---- `cleanfile::clean`

-- the reader took a file that is answered with 0, and with room a file that it takes is answered so
clean_read : (room : ℕ) (file : List ℕ) → cleaning_number room file ≡ 0 → reading_number [] file ≡ 0
unfolding cleaning_number
clean_read room file e =
    let full = when (short (lent room file_limit ∷ [])) 9 in
    let long = when (ltb file_limit (length file)) 1 in
    let read = reading_number [] file ∷ [] in
    first_head (reading_number [] file) [] (first_tail long read (first_tail full (long ∷ read) e))

clean_done : (room : ℕ) (file : List ℕ) → file_limit ≤ room → length file ≤ file_limit → reading_number [] file ≡ 0 → cleaning_number room file ≡ 0
unfolding cleaning_number short
clean_done room file r l h = rw (le-ltb room file_limit r, le-ltb file_limit (length file) l, h)

module _ {file : List ℕ} (r : CleanCall file) (z : r.answer.number ≡ 0) where
  reads : reading_number [] file ≡ 0
  reads = clean_read (length r.out) file (sym r.contract.number ∙ z)

  clean_long : r.answer.length ≡ length (clean_file file)
  clean_long = r.contract.byte_count ∙ after_done r.answer.number (file_length (mesh_left file)) 0 z ∙ sym (clean_length file reads)

  clean_written : clean_bytes r ≡ clean_file file
  clean_written =
      ap₂ take clean_long (r.contract.bytes ∙ after_done r.answer.number (sets r.out 0 (clean_file file)) r.out z)
      ∙ take_written r.out (clean_file file) (length (clean_file file)) refl (omega (arith, clean_fits file reads, r.room))

pub calls_clean_again : CallsCleanAgain
calls_clean_again file p r z q =
    let h = reads r z in
    let w : clean_bytes r ≡ clean_file file = clean_written r z in
    let c = cleaning_again file p h in
    let y : q.answer.number ≡ 0 =
    q.contract.number
    ∙ clean_done (length q.out) (clean_bytes r) q.room (omega (arith, ap length w, c.fits)) (ap (reading_number []) w ∙ c.reads) in
    let b : clean_bytes q ≡ clean_bytes r = clean_written q y ∙ ap clean_file w ∙ c.same_bytes ∙ sym w in
    record {
      number = y;
      long = clean_long q y ∙ ap length (ap clean_file w ∙ c.same_bytes) ∙ sym (clean_long r z);
      bytes = b;
    }

-- ---- `sheet::sheet`

-- an answer is its two numbers
answer_same : (a b : Answer) → a.number ≡ b.number → a.length ≡ b.length → a ≡ b
answer_same a b n l = λ i. record { number = n i; length = l i }

pub calls_print_the_same : CallsPrintTheSame
calls_print_the_same file p r z short_file short-clean s t =
    let h = reads r z in
    let w : clean_bytes r ≡ clean_file file = clean_written r z in
    let e : sheet.sheet_of (clean_bytes r) ≡ sheet.sheet_of file =
    ap sheet.sheet_of w ∙ sheet_of_cleaned file p (read_taken file h short_file) (omega (arith, clean_long r z, short-clean)) in
    record {
      same_answer =
          answer_same t.answer s.answer (call_done t ∙ sym (call_done s)) (as_long t ∙ ap length e ∙ sym (as_long s));
      same_text = sheet_written t ∙ e ∙ sym (sheet_written s);
    }

-- ---- such calls can be had: what the two contracts determine

a_cleaning : (file lent : List ℕ) → file_limit ≤ length lent → CleanCall file
a_cleaning file lent r =
    let n : ℕ = cleaning_number (length lent) file in
    record {
      out = lent;
      out' = after n (sets lent 0 (clean_file file)) lent;
      answer = record { number = n; length = after n (file_length (mesh_left file)) 0 };
      contract = record { number = refl; byte_count = refl; bytes = refl };
      room = r;
    }

a_sheet : (file lent : List ℕ) → sheet_room ≤ length lent → length (sheet.sheet_of file) ≤ length lent → SheetCall file
unfolding sheet.sheet_number short
a_sheet file lent r l = record {
  out = lent;
  out' = sets lent 0 (sheet.sheet_of file);
  answer = record { number = 0; length = length (sheet.sheet_of file) };
  contract = record { number = rw (le-ltb (length lent) sheet_room r); count = refl; bytes = refl; fits = l };
  room = r;
}

pub files_can_be_had : FilesCanBeHad
unfolding a_cleaning a_sheet
files_can_be_had = record {
  cleaning_had = λ file lent r. (a_cleaning file lent r, refl);
  answers_0 = λ file l h r. r.contract.number ∙ clean_done (length r.out) file r.room l h;
  sheet_had = λ file lent r l. (a_sheet file lent r l, refl);
}
