-- The call: what it answers on a refusal and on 0. Assumes nothing.
use mathlib.Core.Path.{◌≡◌, refl, sym, ap, ◌∙◌}
use mathlib.Core.Bool.{true, false}
use mathlib.Core.List.{List, [], ◌∷◌, ◌++◌, map}
use Prim.Native.Nat.{ℕ, zero, suc, ◌+◌, ◌-◌, ◌*◌, ◌/◌, ◌%◌, ◌≤◌, ◌<◌, max}
use native.Mathlib.Nat.{not-suc-le-zero, le_of_suc-le-suc}
use native.Mathlib.Omega.{arith}
use lib.ListN.{length, get_or, drop, replicate, length-map, length-replicate, get_or-replicate, get_or-append}
use lib.Seq.{sets, length-sets, ext_get_or, get_or-append-add, get_or-drop}
use lib.Dec.{ltb}
use lib.Ieee.{Float}
use borrow.Author.Tests.{ltb-true, ltb-false, lt-ltb, le-ltb}
use Rattle.lists.specs.Lists.{some, joined}
use Rattle.lists.proofs.Bools.{by_cases}
use Rattle.mesh.specs.Limits.{point_width, texel_width, width}
use Rattle.mesh.specs.Mesh.{Mesh, mesh_of, corners_in, corner_at, position_count, texture_count, normal_count}
use Rattle.mesh.specs.Table.{mesh_number, when, lent, short, beyond_unless_missing}
use Rattle.mesh.proofs.After.{after_refused, after_done}
use Rattle.mesh.proofs.Numbers.{first_is}
use Rattle.mesh.proofs.Accepted.{accepted}
use Rattle.mesh.proofs.Corners.{length-corners_in, get_or-corners_in, joined-corners_in}
use Rattle.unused.specs.Compaction.{Compacted, uses_of, renumber, entries, used_positions, used_textures, used_normals, renumbered, compacted}
use Rattle.unused.specs.Working.{column, new_corner, Pointed, Refused}
use Rattle.oneindex.specs.Working.{index_at}
use Rattle.oneindex.proofs.Turn.{length_column, get_or-column}
use Rattle.unused.proofs.Accepting.{pointed_positions, pointed_textures, pointed_normals, length_kept}
use Rattle.inplace.specs.InPlace.{Roomy, in_room_of, longest, in_place_number, InPlace}
use Rattle.inplace.specs.Working.{Into, Written, Ready, Done}
use Rattle.inplace.proofs.Filling.{fill_front}

-- ---- the longest list

module _ (m : Mesh) where
  pub positions_in : position_count m ≤ longest m
  unfolding longest
  positions_in = omega arith

  pub textures_in : texture_count m ≤ longest m
  unfolding longest
  textures_in = omega arith

  pub normals_in : normal_count m ≤ longest m
  unfolding longest
  normals_in = omega arith

  longest_most : (k : ℕ) → position_count m ≤ k → texture_count m ≤ k → normal_count m ≤ k → longest m ≤ k
  unfolding longest
  longest_most k a b c = omega arith

-- ---- refusals

module _ (m : Mesh) (s : List ℕ) (answer : Compacted) where
  refused_is : (n : ℕ) → (n ≡ 0 → ⊥) → n ≡ in_place_number m s → Refused answer n → InPlace m m s s answer
  refused_is n h e r =
      let z : answer.number ≡ 0 → ⊥ = λ q. h (sym r.is ∙ q) in
      record {
        number = r.is ∙ e;
        position_count_is = r.positions ∙ sym (after_refused answer.number (position_count (compacted m)) 0 z);
        texture_count_is = r.textures ∙ sym (after_refused answer.number (texture_count (compacted m)) 0 z);
        normal_count_is = r.normals ∙ sym (after_refused answer.number (normal_count (compacted m)) 0 z);
        positions = sym (after_refused answer.number (in_room_of m.positions (compacted m).positions) m.positions z);
        textures = sym (after_refused answer.number (in_room_of m.textures (compacted m).textures) m.textures z);
        normals = sym (after_refused answer.number (in_room_of m.normals (compacted m).normals) m.normals z);
        corners = sym (after_refused answer.number (compacted m).corners m.corners z);
        sizes = refl;
        numbers = sym (after_refused answer.number (sets s 0 (replicate (longest m) 0)) s z);
      }

  -- 1 to 5
  pub refused_mesh : (n : ℕ) → n ≡ mesh_number m → (n ≡ 0 → ⊥) → Refused answer n → InPlace m m s s answer
  unfolding in_place_number
  refused_mesh n e h r =
      refused_is n h
      (e ∙ sym (first_is (mesh_number m) (when (short (lent (length s) (longest m) ∷ [])) 9 ∷ []) (λ q. h (e ∙ q)))) r

  -- 9: there are more entries in one of the lists than numbers
  pub refused_room : mesh_number m ≡ 0 → (k : ℕ) → k ≤ longest m → length s < k → Refused answer 9 → InPlace m m s s answer
  unfolding in_place_number short
  refused_room z k h l r =
      let t : length s < longest m = omega arith in
      let b : ltb (length s) (longest m) ≡ true = lt-ltb (length s) (longest m) t in
      refused_is 9 (λ q. omega arith) (sym (rw (z, b))) r

-- ---- what each list begins with

into : {attrs : List Float} {w : ℕ} {cs : List ℕ} {q : ℕ} (p : Pointed attrs w cs q) (n : ℕ) → p.count ≡ n → Into cs q n
into {cs = cs} {q = q} p n e = record {
  is_column = p.is_column;
  few = omega (arith, p.few);
  within = ap (λ (k : ℕ). some (beyond_unless_missing k) (column q cs)) (sym e) ∙ p.within;
}

-- a column beside the one that was written is what it was
column_kept :
    (us : List ℕ) (q r k : ℕ) (cs cs' : List ℕ) → Written us q k cs cs' → r < width → (r ≡ q → ⊥) → column r cs' ≡ column r cs
column_kept us q r k cs cs' w h f =
    let a : length (column r cs') ≡ length cs' / width = length_column r cs' in
    let b : length (column r cs) ≡ length cs / width = length_column r cs in
    ext_get_or 0 (column r cs') (column r cs) (a ∙ ap (λ (n : ℕ). n / width) w.long ∙ sym b)
    (λ j l.
    let x : j < length cs' / width = omega arith in
    let y : j < length cs / width = omega (arith, w.long) in
    get_or-column r cs' j h x ∙ w.beside j r h f ∙ sym (get_or-column r cs j h y))

into_kept : (cs cs' : List ℕ) (q n : ℕ) → column q cs' ≡ column q cs → Into cs q n → Into cs' q n
into_kept cs cs' q n e i = record {
  is_column = i.is_column;
  few = i.few;
  within = ap (some (beyond_unless_missing n)) e ∙ i.within;
}

-- ---- the number list, filled by each list in turn

module _ (s : List ℕ) (n i : ℕ) (h : n ≤ length s) where
  filled_front : i < n → get_or (sets s 0 (replicate n 0)) i 0 ≡ 0
  filled_front k =
      let m : length {A = ℕ} (replicate n 0) ≡ n = length-replicate n 0 in
      ap (λ (t : List ℕ). get_or t i 0) (fill_front 0 n s h)
      ∙ get_or-append (replicate n 0) (drop n s) 0 i (omega arith)
      ∙ get_or-replicate n i 0 0 k

  filled_behind : n ≤ i → get_or (sets s 0 (replicate n 0)) i 0 ≡ get_or s i 0
  filled_behind k =
      let m : length {A = ℕ} (replicate n 0) ≡ n = length-replicate n 0 in
      let e : i ≡ length {A = ℕ} (replicate n 0) + (i - n) = omega arith in
      let f : n + (i - n) ≡ i = omega arith in
      ap (λ (t : List ℕ). get_or t i 0) (fill_front 0 n s h)
      ∙ ap (λ (k : ℕ). get_or (replicate n 0 ++ drop n s) k 0) e
      ∙ get_or-append-add (replicate n 0) (drop n s) (i - n) 0
      ∙ get_or-drop n s (i - n) 0
      ∙ ap (λ (k : ℕ). get_or s k 0) f

filled_twice :
    (s : List ℕ) (a b : ℕ) → a ≤ length s → b ≤ length s
    → sets (sets s 0 (replicate a 0)) 0 (replicate b 0) ≡ sets s 0 (replicate (max a b) 0)
filled_twice s a b h k =
    let t = sets s 0 (replicate a 0) in
    let n : length t ≡ length s = length-sets s 0 (replicate a 0) in
    let g : max a b ≤ length s = omega arith in
    let k' : b ≤ length t = omega arith in
    ext_get_or 0 (sets t 0 (replicate b 0)) (sets s 0 (replicate (max a b) 0))
    (length-sets t 0 (replicate b 0) ∙ n ∙ sym (length-sets s 0 (replicate (max a b) 0)))
    (λ i l.
    by_cases (ltb i b)
    (λ e.
    let x : i < b = ltb-true i b e in
    filled_front t b i k' x ∙ sym (filled_front s (max a b) i g (omega arith)))
    (λ e.
    let x : b ≤ i = ltb-false i b e in
    filled_behind t b i k' x
    ∙ by_cases (ltb i a)
    (λ f. let y : i < a = ltb-true i a f in filled_front s a i h y ∙ sym (filled_front s (max a b) i g (omega arith)))
    (λ f.
    let y : a ≤ i = ltb-false i a f in
    filled_behind s a i h y ∙ sym (filled_behind s (max a b) i g (omega arith)))))

-- ---- the corners, written in three columns; the fourth, their marks, stays

get_or-mapped : {A B : Type 0} (f : A → B) (l : List A) (k : ℕ) (d : A) (e : B) → k < length l → get_or (map f l) k e ≡ f (get_or l k d)
get_or-mapped f [] k d e h = absurd (not-suc-le-zero h)
get_or-mapped f (x ∷ l) zero d e h = refl
get_or-mapped f (x ∷ l) (suc k) d e h = get_or-mapped f l k d e (le_of_suc-le-suc h)

module _ (us0 us1 us2 cs cs1 cs2 cs3 : List ℕ) (n : ℕ)
    (a : Written us0 0 n cs cs1) (b : Written us1 1 n cs1 cs2) (c : Written us2 2 n cs2 cs3) where
  long_corners : length cs3 ≡ length cs
  long_corners = c.long ∙ b.long ∙ a.long

  corner_written :
      (k : ℕ) → k < n
      → corner_at cs3 k ≡ renumber us0 (index_at cs k 0) ∷ renumber us1 (index_at cs k 1) ∷ renumber us2 (index_at cs k 2) ∷ index_at cs k 3 ∷ []
  corner_written k h =
      let x : get_or cs3 (width * k) 0 ≡ renumber us0 (index_at cs k 0) =
      ap (λ (i : ℕ). get_or cs3 i 0) (omega arith) ∙ c.beside k 0 (omega arith) (λ e. omega arith)
      ∙ b.beside k 0 (omega arith) (λ e. omega arith) ∙ a.done k h in
      let y : get_or cs3 (width * k + 1) 0 ≡ renumber us1 (index_at cs k 1) =
      c.beside k 1 (omega arith) (λ e. omega arith) ∙ b.done k h
      ∙ ap (renumber us1) (a.beside k 1 (omega arith) (λ e. omega arith)) in
      let z : get_or cs3 (width * k + 2) 0 ≡ renumber us2 (index_at cs k 2) =
      c.done k h ∙ ap (renumber us2) (b.beside k 2 (omega arith) (λ e. omega arith) ∙ a.beside k 2 (omega arith) (λ e. omega arith)) in
      let t : get_or cs3 (width * k + 3) 0 ≡ index_at cs k 3 =
      c.beside k 3 (omega arith) (λ e. omega arith) ∙ b.beside k 3 (omega arith) (λ e. omega arith)
      ∙ a.beside k 3 (omega arith) (λ e. omega arith) in
      rw (x, y, z, t)

-- all of them
corners_are :
    (cs cs1 cs2 cs3 : List ℕ) → length cs % width ≡ 0 → Written (uses_of (column 0 cs)) 0 (length cs / width) cs cs1
    → Written (uses_of (column 1 cs)) 1 (length cs / width) cs1 cs2 → Written (uses_of (column 2 cs)) 2 (length cs / width) cs2 cs3
    → cs3 ≡ joined (map (new_corner cs) (corners_in cs))
corners_are cs cs1 cs2 cs3 h a b c =
    let us0 = uses_of (column 0 cs) in
    let us1 = uses_of (column 1 cs) in
    let us2 = uses_of (column 2 cs) in
    let long : length cs3 ≡ length cs = long_corners us0 us1 us2 cs cs1 cs2 cs3 (length cs / width) a b c in
    let n : length (corners_in cs) ≡ length cs / width = length-corners_in cs in
    let n3 : length (corners_in cs3) ≡ length cs3 / width = length-corners_in cs3 in
    let nm : length (map (new_corner cs) (corners_in cs)) ≡ length (corners_in cs) = length-map (corners_in cs) (new_corner cs) in
    sym (joined-corners_in cs3 (ap (λ (k : ℕ). k % width) long ∙ h))
    ∙ ap joined
    (ext_get_or [] (corners_in cs3) (map (new_corner cs) (corners_in cs)) (n3 ∙ ap (λ (k : ℕ). k / width) long ∙ sym n ∙ sym nm)
    (λ k l.
    let x : k < length cs3 / width = omega arith in
    let y : k < length cs / width = omega arith in
    let first : width * k + 0 ≡ width * k = omega arith in
    get_or-corners_in cs3 k x
    ∙ corner_written us0 us1 us2 cs cs1 cs2 cs3 (length cs / width) a b c k y
    ∙ ap (λ (i : ℕ). renumber us0 (get_or cs i 0) ∷ renumber us1 (index_at cs k 1) ∷ renumber us2 (index_at cs k 2) ∷ index_at cs k 3 ∷ []) first
    ∙ sym (get_or-mapped (new_corner cs) (corners_in cs) k [] [] (omega arith) ∙ ap (new_corner cs) (get_or-corners_in cs k y))))

-- ---- the three lists in turn

-- what is asked of a mesh and its number list
pub roomy :
    (m : Mesh) (s : List ℕ) → mesh_number m ≡ 0 → position_count m ≤ length s → texture_count m ≤ length s → normal_count m ≤ length s → Roomy m s
roomy m s z p t n = record { accepted = z; room = longest_most m (length s) p t n }

-- such a mesh is not refused
pub roomy_number : (m : Mesh) (s : List ℕ) → Roomy m s → in_place_number m s ≡ 0
unfolding in_place_number short
roomy_number m s g =
    let wide : ltb (length s) (longest m) ≡ false = le-ltb (length s) (longest m) g.room in
    rw (g.accepted, wide)

module _ (m : Mesh) (s : List ℕ) (g : Roomy m s) where
  z : mesh_number m ≡ 0
  z = g.accepted

  into_positions : Into m.corners 0 (position_count m)
  into_positions =
      let p = pointed_positions m z in into p (position_count m) (omega (arith, p.whole))

  into_textures : Into m.corners 1 (texture_count m)
  into_textures =
      let p = pointed_textures m z in into p (texture_count m) (omega (arith, p.whole))

  into_normals : Into m.corners 2 (normal_count m)
  into_normals =
      let p = pointed_normals m z in into p (normal_count m) (omega (arith, p.whole))

  pub ready_positions : Ready m.positions point_width (position_count m) m.corners 0 s
  ready_positions = record {
    least = omega arith;
    most = omega arith;
    whole = omega (arith, (accepted m z).whole.positions);
    into = into_positions;
    room = omega (arith, positions_in m, g.room);
  }

  module _ {p1 : List Float} {cs1 s1 : List ℕ} {p : ℕ} (a : Done m.positions p1 point_width (position_count m) m.corners cs1 0 s s1 p) where
    textures_kept : column 1 cs1 ≡ column 1 m.corners
    textures_kept = column_kept _ 0 1 _ m.corners cs1 a.written (omega arith) (λ e. omega arith)

    normals_kept : column 2 cs1 ≡ column 2 m.corners
    normals_kept = column_kept _ 0 2 _ m.corners cs1 a.written (omega arith) (λ e. omega arith)

    long1 : length s1 ≡ length s
    long1 = ap length a.numbers ∙ length-sets s 0 (replicate (position_count m) 0)

    pub ready_textures : Ready m.textures texel_width (texture_count m) cs1 1 s1
    ready_textures = record {
      least = omega arith;
      most = omega arith;
      whole = omega (arith, (accepted m z).whole.textures);
      into = into_kept m.corners cs1 1 (texture_count m) textures_kept into_textures;
      room = omega (arith, long1, textures_in m, g.room);
    }

    module _ {t1 : List Float} {cs2 s2 : List ℕ} {t : ℕ} (b : Done m.textures t1 texel_width (texture_count m) cs1 cs2 1 s1 s2 t) where
      normals_again : column 2 cs2 ≡ column 2 m.corners
      normals_again = column_kept _ 1 2 _ cs1 cs2 b.written (omega arith) (λ e. omega arith) ∙ normals_kept

      long2 : length s2 ≡ length s
      long2 = ap length b.numbers ∙ length-sets s1 0 (replicate (texture_count m) 0) ∙ long1

      pub ready_normals : Ready m.normals point_width (normal_count m) cs2 2 s2
      ready_normals = record {
        least = omega arith;
        most = omega arith;
        whole = omega (arith, (accepted m z).whole.normals);
        into = into_kept m.corners cs2 2 (normal_count m) normals_again into_normals;
        room = omega (arith, long2, normals_in m, g.room);
      }

      module _ {n1 : List Float} {cs3 s3 : List ℕ} {n : ℕ} (c : Done m.normals n1 point_width (normal_count m) cs2 cs3 2 s2 s3 n) where
        all_numbers : s3 ≡ sets s 0 (replicate (longest m) 0)
        unfolding longest
        all_numbers =
            let tn : ℕ = max (texture_count m) (normal_count m) in
            let np : position_count m ≤ length s = omega (arith, positions_in m, g.room) in
            let nt : texture_count m ≤ length s = omega (arith, textures_in m, g.room) in
            let nn : normal_count m ≤ length s = omega (arith, normals_in m, g.room) in
            c.numbers
            ∙ ap (λ (l : List ℕ). sets l 0 (replicate (normal_count m) 0)) b.numbers
            ∙ filled_twice s1 (texture_count m) (normal_count m) (omega (arith, long1)) (omega (arith, long1))
            ∙ ap (λ (l : List ℕ). sets l 0 (replicate tn 0)) a.numbers
            ∙ filled_twice s (position_count m) tn np (omega arith)

        all_corners : cs3 ≡ joined (map (new_corner m.corners) (corners_in m.corners))
        all_corners =
            let cs = m.corners in
            let l1 : length cs1 / width ≡ length cs / width = ap (λ (k : ℕ). k / width) a.written.long in
            let l2 : length cs2 / width ≡ length cs / width = ap (λ (k : ℕ). k / width) b.written.long ∙ l1 in
            let wb : Written (uses_of (column 1 cs)) 1 (length cs / width) cs1 cs2 = rw (textures_kept, l1) at b.written in
            let wc : Written (uses_of (column 2 cs)) 2 (length cs / width) cs2 cs3 = rw (normals_again, l2) at c.written in
            corners_are cs cs1 cs2 cs3 (accepted m z).whole.corners a.written wb wc

        pub in_place :
            (answer : Compacted) → answer.number ≡ 0 → answer.positions ≡ p → answer.textures ≡ t → answer.normals ≡ n
            → InPlace m (mesh_of p1 t1 n1 cs3 m.sizes) s s3 answer
        unfolding in_room_of compacted renumbered used_positions used_textures used_normals
        in_place answer e0 ep et en =
            let lp : length (entries point_width m.positions (uses_of (column 0 m.corners))) ≡ length (uses_of (column 0 m.corners)) * 3 =
            length_kept m.positions point_width m.corners 0 (pointed_positions m z) in
            let lt : length (entries texel_width m.textures (uses_of (column 1 m.corners))) ≡ length (uses_of (column 1 m.corners)) * 2 =
            length_kept m.textures texel_width m.corners 1 (pointed_textures m z) in
            let ln : length (entries point_width m.normals (uses_of (column 2 m.corners))) ≡ length (uses_of (column 2 m.corners)) * 3 =
            length_kept m.normals point_width m.corners 2 (pointed_normals m z) in
            let ut : t ≡ length (uses_of (column 1 m.corners)) = b.counted ∙ ap (λ (l : List ℕ). length (uses_of l)) textures_kept in
            let un : n ≡ length (uses_of (column 2 m.corners)) = c.counted ∙ ap (λ (l : List ℕ). length (uses_of l)) normals_again in
            record {
              number = e0 ∙ sym (roomy_number m s g);
              position_count_is =
                  ep ∙ a.counted ∙ sym (after_done answer.number (position_count (compacted m)) 0 e0 ∙ omega arith);
              texture_count_is = et ∙ ut ∙ sym (after_done answer.number (texture_count (compacted m)) 0 e0 ∙ omega arith);
              normal_count_is = en ∙ un ∙ sym (after_done answer.number (normal_count (compacted m)) 0 e0 ∙ omega arith);
              positions =
                  a.moved ∙ sym (after_done answer.number (in_room_of m.positions (compacted m).positions) m.positions e0);
              textures =
                  b.moved
                  ∙ ap (λ (l : List ℕ). in_room_of m.textures (entries texel_width m.textures (uses_of l))) textures_kept
                  ∙ sym (after_done answer.number (in_room_of m.textures (compacted m).textures) m.textures e0);
              normals =
                  c.moved
                  ∙ ap (λ (l : List ℕ). in_room_of m.normals (entries point_width m.normals (uses_of l))) normals_again
                  ∙ sym (after_done answer.number (in_room_of m.normals (compacted m).normals) m.normals e0);
              corners = all_corners ∙ sym (after_done answer.number (compacted m).corners m.corners e0);
              sizes = refl;
              numbers = all_numbers ∙ sym (after_done answer.number (sets s 0 (replicate (longest m) 0)) s e0);
            }
