-- The file by how many bytes it has, and cut behind its count and behind its panel file. Assumes nothing.
use mathlib.Core.Path.{◌≡◌, ◌∙◌, ap, ap₂}
use mathlib.Core.List.{List}
use Prim.Native.Nat.{ℕ, ◌+◌, ◌-◌, ◌≤◌, ◌<◌}
use native.Mathlib.Omega.{arith}
use lib.ListN.{length, take, drop, length-drop}
use lib.Seq.{take_all}
use borrow.Author.Tests.{lt-ltb, le-ltb}
use Rattle.little.specs.Little.{word}
use Rattle.lines.specs.Lines.{refusal}
use Rattle.hemtext.specs.HemText.{printed}
use Rattle.hemfile.specs.HemFile.{count_bytes, panel_count, panel_bytes, triple_bytes, file_limit, hem_file_number, hem_sheet_of}
use Rattle.hemfile.specs.Working.{panel_sheet}

module _ (file : List ℕ) where
  pub long_text : file_limit < length file → refusal 1 ≡ hem_sheet_of file
  unfolding hem_sheet_of hem_file_number printed
  long_text h = rw (lt-ltb file_limit (length file) h)

  module _ (within : length file ≤ file_limit) where
    pub short_text : length file < count_bytes → refusal 11 ≡ hem_sheet_of file
    unfolding hem_sheet_of hem_file_number printed
    short_text h = rw (le-ltb file_limit (length file) within, lt-ltb (length file) count_bytes h)

    module _ (counted : count_bytes ≤ length file) (end w k : ℕ) (word_is : w ≡ word file 0) (wide_is : k ≡ w) (end_is : end ≡ count_bytes + k) where
      end_at : end ≡ count_bytes + panel_count file
      unfolding panel_count
      end_at = end_is ∙ ap (λ (n : ℕ). count_bytes + n) (wide_is ∙ word_is)

      pub under_text : length file < end → refusal 11 ≡ hem_sheet_of file
      unfolding hem_sheet_of hem_file_number printed
      under_text h =
          let u : length file < count_bytes + panel_count file = omega (arith, end_at) in
          rw (le-ltb file_limit (length file) within, le-ltb (length file) count_bytes counted, lt-ltb (length file) (count_bytes + panel_count file) u)

      module _ (inside : end ≤ length file) where
        panel_are : take (end - count_bytes) (drop count_bytes file) ≡ panel_bytes file
        unfolding panel_bytes
        panel_are = let e : end - count_bytes ≡ panel_count file = omega (arith, end_at) in ap (λ (n : ℕ). take n (drop count_bytes file)) e

        triples_are : take (length file - end) (drop end file) ≡ triple_bytes file
        unfolding triple_bytes
        triples_are = take_all (length file - end) (drop end file) (omega (arith, length-drop end file)) ∙ ap (λ (n : ℕ). drop n file) end_at

        whole : panel_sheet (panel_bytes file) (triple_bytes file) ≡ hem_sheet_of file
        unfolding hem_sheet_of hem_file_number panel_sheet
        whole =
            let u : count_bytes + panel_count file ≤ length file = omega (arith, end_at) in
            rw (le-ltb file_limit (length file) within, le-ltb (length file) count_bytes counted, le-ltb (length file) (count_bytes + panel_count file) u)

        pub split_text : panel_sheet (take (end - count_bytes) (drop count_bytes file)) (take (length file - end) (drop end file)) ≡ hem_sheet_of file
        split_text = ap₂ panel_sheet panel_are triples_are ∙ whole
