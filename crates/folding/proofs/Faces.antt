-- A face whose corners lie in one list: its places are split as those of its ring, and its pieces are the list's corners at the places of the
-- pieces; so what is written place by place, and then corner by corner, are the pieces. Assumes nothing.
use mathlib.Core.Path.{◌≡◌, refl, sym, ap, ap₂, ◌∙◌}
use mathlib.Core.Bool.{true}
use mathlib.Core.List.{List, [], ◌∷◌, ◌++◌, map, map-append}
use Prim.Native.Nat.{ℕ, ◌+◌, ◌*◌, ◌≤◌, ◌<◌}
use native.Mathlib.Omega.{arith}
use lib.ListN.{length, get_or, take, length-map}
use lib.Seq.{sets}
use lib.Dec.{eqb}
use borrow.Author.Tests.{ltb-true}
use Rattle.lists.specs.Lists.{every, each, joined, span, sum}
use Rattle.lists.proofs.Buckets.{length_span}
use Rattle.lists.proofs.Copies.{take_written}
use Rattle.lists.proofs.Mapping.{map_same}
use Rattle.lists.proofs.Parts.{every_at, every_joined, joined_append, length_joined}
use Rattle.mesh.specs.Limits.{width}
use Rattle.mesh.specs.Mesh.{Corner, position, corners_in, corner_at}
use Rattle.mesh.proofs.Corners.{length-corners_in, get_or-corners_in}
use Rattle.grouping.specs.Push.{Placed}
use Rattle.splitting.specs.Splitting.{split_by, pieces_by}
use Rattle.splitting.proofs.Pieces.{pieces_fewer, pieces_every}
use Rattle.splitting.proofs.Mapped.{split_same, pieces_same, pieces_places}
use Rattle.places.specs.Working.{position_at_lem, is_place, Parted, Copied}
use Rattle.places.proofs.Corners.{under, every_span, places_span}
use Rattle.folding.specs.Folding.{ring_pieces}
use Rattle.folding.specs.Places.{position_in, ring_places}
use Rattle.folding.specs.Working.{Splittable, WithPlaces}

-- ---- a face of n corners

module _ (face : List ℕ) (n : ℕ) (e : length face ≡ width * n) where
  count : length (corners_in face) ≡ n
  count = length-corners_in face ∙ (omega arith)

  corner_same : (i : ℕ) → under n i ≡ true → get_or (corners_in face) i [] ≡ corner_at face i
  corner_same i h = get_or-corners_in face i (let l : i < n = ltb-true i n h in omega arith)

  position_same : (i : ℕ) → under n i ≡ true → position_in (corners_in face) i ≡ position_at_lem face i
  unfolding position_at_lem
  position_same i h = ap position (corner_same i h)

  split_of_face : split_by (position_in (corners_in face)) (span 0 (length (corners_in face))) ≡ split_by (position_at_lem face) (span 0 n)
  split_of_face =
      ap (λ (k : ℕ). split_by (position_in (corners_in face)) (span 0 k)) count
      ∙ split_same (position_in (corners_in face)) (position_at_lem face) (under n) (λ a b g h. ap₂ eqb (position_same a g) (position_same b h)) (span 0 n) (every_span n)

  places_of_face : ring_places (corners_in face) ≡ pieces_by (position_at_lem face) (span 0 n)
  places_of_face =
      ap (λ (k : ℕ). pieces_by (position_in (corners_in face)) (span 0 k)) count
      ∙ pieces_same (position_in (corners_in face)) (position_at_lem face) (under n) (λ a b g h. ap₂ eqb (position_same a g) (position_same b h)) (span 0 n) (every_span n)

  pieces_of_face : ring_pieces (corners_in face) ≡ map (map (corner_at face)) (pieces_by (position_at_lem face) (span 0 n))
  pieces_of_face =
      let at : ℕ → Corner = λ i. get_or (corners_in face) i [] in
      let ps = pieces_by (position_at_lem face) (span 0 n) in
      let known : every (every (under n)) (pieces_by (position_at_lem face) (span 0 n)) ≡ true = pieces_every (position_at_lem face) (under n) (span 0 n) (every_span n) in
      pieces_places position [] (corners_in face)
      ∙ ap (map (map at)) places_of_face
      ∙ map_same (map at) (map (corner_at face)) [] ps (λ k h.
      map_same at (corner_at face) 0 (get_or ps k []) (λ m g.
      corner_same (get_or (get_or ps k []) m 0) (every_at (under n) 0 (get_or ps k []) m (every_at (every (under n)) [] ps k known h) g)))

-- ---- corners at places, piece by piece or all at once

module _ {A B : Type 0} (g : A → List B) where
  each_joined_map : (ps : List (List A)) → each joined (map (map g) ps) ≡ joined (map g (joined ps))
  each_joined_map [] = refl
  each_joined_map (q ∷ ps) =
      ap (λ (t : List B). joined (map g q) ++ t) (each_joined_map ps)
      ∙ sym (joined_append (map g q) (map g (joined ps)))
      ∙ ap joined (sym (map-append g q (joined ps)))

  lengths_map : (ps : List (List A)) → map length (map (map g) ps) ≡ map length ps
  lengths_map [] = refl
  lengths_map (q ∷ ps) = ap₂ ◌∷◌ (length-map q g) (lengths_map ps)

-- ---- the split of a face, as it is written

module _ (face row took out lens : List ℕ) (c f : ℕ) (s : Splittable face row took out lens c f) where
  abbrev ps : List (List ℕ)
  ps = pieces_by (position_at_lem face) (span 0 (length row))

  module _ (row' took' lens' : List ℕ) (n f' : ℕ) (t : Parted (position_at_lem face) (span 0 (length row)) row' took took' lens lens' 0 f n f') where
    pub few : n ≤ length row
    few = omega (arith, t.taken.more, pieces_fewer (position_at_lem face) (span 0 (length row)), length_span 0 (length row))

    as_many : length (joined ps) ≡ n
    as_many = length_joined ps ∙ (omega (arith, t.taken.more))

    -- what is taken
    taken : take n took' ≡ joined ps
    taken = ap (take n) t.taken.places ∙ take_written took (joined ps) n as_many (omega (arith, few, s.places))

    pub copied : Copied face (take n took') out (width * c)
    copied = record {
      whole = omega (arith, s.wide);
      small = omega (arith, s.wide, s.room.small);
      known =
          ap (every (is_place face)) taken
          ∙ every_joined (is_place face) ps
          ∙ pieces_every (position_at_lem face) (is_place face) (span 0 (length row)) (places_span face (length row) s.wide);
      room = omega (arith, ap length taken, as_many, few, s.room.corners);
    }

    placed : (out' : List ℕ) → out' ≡ sets out (width * c) (joined (map (corner_at face) (take n took')))
        → Placed (ring_pieces (corners_in face)) out out' lens lens' c f (c + n) f'
    placed out' e =
        rw (pieces_of_face face (length row) s.wide) (record {
          corners =
              e
              ∙ ap (λ (q : List ℕ). sets out (width * c) (joined (map (corner_at face) q))) taken
              ∙ ap (sets out (width * c)) (sym (each_joined_map (corner_at face) ps));
          sizes = t.taken.sizes ∙ ap (sets lens f) (sym (lengths_map (corner_at face) ps));
          more = (let z = ap sum (lengths_map (corner_at face) ps) in omega (arith, z, t.taken.more));
          most = (let z = length-map ps (map (corner_at face)) in omega (arith, z, t.taken.most));
        })

    pub with_places : (out' : List ℕ) → out' ≡ sets out (width * c) (joined (map (corner_at face) (take n took')))
        → WithPlaces (corners_in face) row' took took' out out' lens lens' c f (c + n) f'
    with_places out' e = record {
      pieces = placed out' e;
      places = t.taken.places ∙ ap (λ (q : List (List ℕ)). sets took 0 (joined q)) (sym (places_of_face face (length row) s.wide));
      rings = t.rings ∙ ap joined (sym (split_of_face face (length row) s.wide));
    }
