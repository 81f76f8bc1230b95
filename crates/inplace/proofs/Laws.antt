-- What the contract of the call says, read from the lists as they are left. Assumes nothing.
use mathlib.Core.Path.{◌≡◌, refl, sym, ap, ◌∙◌}
use mathlib.Core.Bool.{Bool, true, false, ◌||◌}
use mathlib.Core.List.{List, [], ◌∷◌, ◌++◌}
use Prim.Native.Nat.{ℕ, ◌-◌, ◌*◌, ◌≤◌}
use native.Mathlib.Omega.{arith}
use borrow.Author.Tests.{ltb-false}
use lib.ListN.{length, take, drop, replicate, length-append, length-replicate}
use lib.Seq.{sets, take_at, drop_at}
use lib.Dec.{ltb}
use lib.Ieee.{Float, of_bits, to_bits}
use Rattle.mesh.specs.Limits.{point_width, texel_width}
use Rattle.mesh.specs.Mesh.{Mesh, mesh_of, position_count, texture_count, normal_count}
use Rattle.mesh.specs.Table.{mesh_number, when, lent, short}
use Rattle.mesh.proofs.After.{after_refused, after_done}
use Rattle.lists.proofs.Copies.{take_written}
use Rattle.lists.proofs.Counting.{clash}
use Rattle.lists.proofs.Writing.{sets_front}
use Rattle.mesh.proofs.Numbers.{first_is, first_head, first_tail, when_not}
use Rattle.mesh.proofs.Accepted.{accepted}
use Rattle.unused.specs.Compaction.{Compacted, compacted}
use Rattle.unused.proofs.Laws.{positions_long, positions_counted, positions_fewer, textures_long, textures_counted, textures_fewer, normals_long, normals_counted, normals_fewer, corners_kept}
use Rattle.unused.proofs.Using.{Given, given}
use Rattle.inplace.specs.InPlace.{zero_bits, in_room_of, longest, in_place_number, InPlace}
use Rattle.inplace.specs.Promises.{MeshFirst, NothingCounted, NothingMoves, Kept, FirstEntries, EntriesCounted, NoBitSet, NumbersCleared, GivesTheOrdinary, GivesAllCorners}

-- ---- a list in the room of another

module _ (old new : List Float) where
  pub room_first : (k : ℕ) → length new ≡ k → take k (in_room_of old new) ≡ new
  unfolding in_room_of
  room_first k e = take_at new (replicate (length old - length new) zero_bits) k e

  pub room_freed : (k : ℕ) → length new ≡ k → drop k (in_room_of old new) ≡ replicate (length old - k) zero_bits
  unfolding in_room_of
  room_freed k e =
      drop_at new (replicate (length old - length new) zero_bits) k e ∙ ap (λ (n : ℕ). replicate (length old - n) zero_bits) e

  pub room_long : length new ≤ length old → length (in_room_of old new) ≡ length old
  unfolding in_room_of
  room_long h =
      let e : length (replicate (length old - length new) zero_bits) ≡ length old - length new =
      length-replicate (length old - length new) zero_bits in
      omega (arith, length-append new (replicate (length old - length new) zero_bits))

-- ---- on a refusal nothing has moved

module _ {m behind : Mesh} {s s' : List ℕ} {answer : Compacted} (c : InPlace m behind s s' answer) (h : answer.number ≡ 0 → ⊥) where
  mesh_kept : behind ≡ m
  mesh_kept =
      let p : behind.positions ≡ m.positions = c.positions ∙ after_refused answer.number _ _ h in
      let t : behind.textures ≡ m.textures = c.textures ∙ after_refused answer.number _ _ h in
      let n : behind.normals ≡ m.normals = c.normals ∙ after_refused answer.number _ _ h in
      let k : behind.corners ≡ m.corners = c.corners ∙ after_refused answer.number _ _ h in
      same behind m p t n k c.sizes
    where
      same :
          (a b : Mesh) → a.positions ≡ b.positions → a.textures ≡ b.textures → a.normals ≡ b.normals
          → a.corners ≡ b.corners → a.sizes ≡ b.sizes → a ≡ b
      same a b p t n k z =
          let e : mesh_of a.positions a.textures a.normals a.corners a.sizes ≡ mesh_of b.positions b.textures
          b.normals b.corners b.sizes = rw (p, t, n, k, z) in e

  numbers_kept : s' ≡ s
  numbers_kept = c.numbers ∙ after_refused answer.number _ _ h

pub mesh_first : MeshFirst
unfolding in_place_number
mesh_first m s h = first_is (mesh_number m) (when (short (lent (length s) (longest m) ∷ [])) 9 ∷ []) h

pub nothing_counted : NothingCounted
nothing_counted m behind s s' answer c h = record {
  positions = c.position_count_is ∙ after_refused answer.number _ 0 h;
  textures = c.texture_count_is ∙ after_refused answer.number _ 0 h;
  normals = c.normal_count_is ∙ after_refused answer.number _ 0 h;
}

pub nothing_moves : NothingMoves
nothing_moves m behind s s' answer c h = (mesh_kept c h, numbers_kept c h)

-- ---- on 0 the first entries, as many as the counts say, are the compacted mesh, and all room behind them is zero bits

-- what the number 0 says
pub zero_accepted : (m : Mesh) (s : List ℕ) → in_place_number m s ≡ 0 → mesh_number m ≡ 0
unfolding in_place_number
zero_accepted m s h = first_head (mesh_number m) (when (short (lent (length s) (longest m) ∷ [])) 9 ∷ []) h

module _ {m behind : Mesh} {s s' : List ℕ} {answer : Compacted} (c : InPlace m behind s s' answer) (e : answer.number ≡ 0) where
  pub counted_positions : answer.positions ≡ position_count (compacted m)
  counted_positions = c.position_count_is ∙ after_done answer.number (position_count (compacted m)) 0 e

  pub counted_textures : answer.textures ≡ texture_count (compacted m)
  counted_textures = c.texture_count_is ∙ after_done answer.number (texture_count (compacted m)) 0 e

  pub counted_normals : answer.normals ≡ normal_count (compacted m)
  counted_normals = c.normal_count_is ∙ after_done answer.number (normal_count (compacted m)) 0 e

  pub kept : Kept m behind answer
  kept =
      let z : mesh_number m ≡ 0 = zero_accepted m s (sym c.number ∙ e) in
      let w = (accepted m z).whole in
      let p : behind.positions ≡ in_room_of m.positions (compacted m).positions =
      c.positions ∙ after_done answer.number _ _ e in
      let t : behind.textures ≡ in_room_of m.textures (compacted m).textures =
      c.textures ∙ after_done answer.number _ _ e in
      let n : behind.normals ≡ in_room_of m.normals (compacted m).normals =
      c.normals ∙ after_done answer.number _ _ e in
      let lp : length (compacted m).positions ≡ point_width * answer.positions =
      omega (arith, positions_long m z, positions_counted m z, counted_positions) in
      let lt : length (compacted m).textures ≡ texel_width * answer.textures =
      omega (arith, textures_long m z, textures_counted m z, counted_textures) in
      let ln : length (compacted m).normals ≡ point_width * answer.normals =
      omega (arith, normals_long m z, normals_counted m z, counted_normals) in
      record {
        corners = c.corners ∙ after_done answer.number (compacted m).corners m.corners e;
        positions =
            ap (take (point_width * answer.positions)) p ∙ room_first m.positions (compacted m).positions (point_width * answer.positions) lp;
        textures =
            ap (take (texel_width * answer.textures)) t ∙ room_first m.textures (compacted m).textures (texel_width * answer.textures) lt;
        normals = ap (take (point_width * answer.normals)) n ∙ room_first m.normals (compacted m).normals (point_width * answer.normals) ln;
        freed_positions =
            ap (drop (point_width * answer.positions)) p ∙ room_freed m.positions (compacted m).positions (point_width * answer.positions) lp;
        freed_textures =
            ap (drop (texel_width * answer.textures)) t ∙ room_freed m.textures (compacted m).textures (texel_width * answer.textures) lt;
        freed_normals =
            ap (drop (point_width * answer.normals)) n ∙ room_freed m.normals (compacted m).normals (point_width * answer.normals) ln;
        long_positions =
            ap length p
            ∙ room_long m.positions (compacted m).positions
            (omega (arith, positions_fewer m z, positions_long m z, positions_counted m z));
        long_textures =
            ap length t
            ∙ room_long m.textures (compacted m).textures
            (omega (arith, textures_fewer m z, textures_long m z, textures_counted m z));
        long_normals =
            ap length n
            ∙ room_long m.normals (compacted m).normals
            (omega (arith, normals_fewer m z, normals_long m z, normals_counted m z));
      }

pub first_entries : FirstEntries
first_entries m behind s s' answer c e = kept c e

pub entries_counted : EntriesCounted
entries_counted m behind s s' answer c e =
    let z : mesh_number m ≡ 0 = zero_accepted m s (sym c.number ∙ e) in
    record {
      counted_positions = omega (arith, positions_long m z, positions_counted m z, counted_positions c e);
      counted_textures = omega (arith, textures_long m z, textures_counted m z, counted_textures c e);
      counted_normals = omega (arith, normals_long m z, normals_counted m z, counted_normals c e);
    }

pub no_bit_set : NoBitSet
unfolding of_bits to_bits
no_bit_set = refl

-- ---- and the number list's stated entries hold zeros

zero_roomy : (m : Mesh) (s : List ℕ) → in_place_number m s ≡ 0 → longest m ≤ length s
unfolding in_place_number short
zero_roomy m s h =
    let rows : List ℕ = when (short (lent (length s) (longest m) ∷ [])) 9 ∷ [] in
    let enough : short (lent (length s) (longest m) ∷ []) ≡ false =
    when_not (short (lent (length s) (longest m) ∷ [])) 8 (first_head (when (short (lent (length s) (longest m) ∷ [])) 9) [] (first_tail (mesh_number m) rows h)) in
    not_below (ltb (length s) (longest m)) refl enough
  where
    not_below : (b : Bool) → ltb (length s) (longest m) ≡ b → (b || false) ≡ false → longest m ≤ length s
    not_below true q n = clash refl n
    not_below false q n = ltb-false (length s) (longest m) q

-- as many zeros as are stated
abbrev zeros : Mesh → List ℕ
zeros m = replicate (longest m) 0

pub numbers_cleared : NumbersCleared
numbers_cleared m behind s s' answer c e =
    let room : longest m ≤ length s = zero_roomy m s (sym c.number ∙ e) in
    let long : length (zeros m) ≡ longest m = length-replicate (longest m) 0 in
    let is : s' ≡ sets s 0 (zeros m) = c.numbers ∙ after_done answer.number _ _ e in
    let front : sets s 0 (zeros m) ≡ zeros m ++ drop (length (zeros m)) s = sets_front s (zeros m) (omega arith) in
    record {
      zeros = ap (take (longest m)) is ∙ take_written s (zeros m) (longest m) long room;
      rest =
          ap (drop (longest m)) (is ∙ front)
          ∙ drop_at (zeros m) (drop (length (zeros m)) s) (longest m) long
          ∙ ap (λ (k : ℕ). drop k s) long;
    }

-- ---- so both calls give one result, where both answer 0

pub as_ordinary : GivesTheOrdinary
as_ordinary m behind s s' answer before result ordinary c e o f =
    let z : mesh_number m ≡ 0 = zero_accepted m s (sym c.number ∙ e) in
    let k : Kept m behind answer = kept c e in
    let g : Given m result ordinary = given m before result ordinary o f in
    let long : length m.corners ≡ length behind.corners = sym (ap length k.corners ∙ corners_kept m z) in
    record {
      position_count_is =
          counted_positions c e ∙ sym (o.position_count_is ∙ after_done ordinary.number (position_count (compacted m)) 0 f);
      texture_count_is = counted_textures c e ∙ sym (o.texture_count_is ∙ after_done ordinary.number (texture_count (compacted m)) 0 f);
      normal_count_is = counted_normals c e ∙ sym (o.normal_count_is ∙ after_done ordinary.number (normal_count (compacted m)) 0 f);
      positions = k.positions ∙ sym g.positions;
      textures = k.textures ∙ sym g.textures;
      normals = k.normals ∙ sym g.normals;
      corners = k.corners ∙ sym g.corners ∙ ap (λ (n : ℕ). take n result.corners) long;
    }

pub all_corners : GivesAllCorners
all_corners m behind s s' answer before result ordinary c e o f =
    (kept c e).corners ∙ sym (given m before result ordinary o f).corners
