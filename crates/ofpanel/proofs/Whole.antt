-- From the first entries to the panels of the hems. Assumes nothing.
use mathlib.Core.Path.{◌≡◌, sym, ap, ◌∙◌, subst}
use mathlib.Core.Logic.{⊎_elim}
use mathlib.Core.Bool.{false}
use mathlib.Core.List.{List, [], map}
use Prim.Native.Nat.{ℕ, zero, suc, ◌+◌, ◌-◌, ◌/◌, ◌≤◌, ◌<◌}
use native.Mathlib.Omega.{arith}
use lib.ListN.{length, get_or, take, drop, set, replicate, length-map, get_or-map}
use lib.Seq.{sets}
use Rattle.lists.specs.Lists.{sum}
use Rattle.lists.specs.Cutting.{parts}
use Rattle.lists.proofs.Buckets.{lt_or_ge, length_front, length_table, table_at, table_ext}
use Rattle.lists.proofs.Changing.{map_at}
use Rattle.lists.proofs.Copies.{front_turns}
use Rattle.lists.proofs.Cutting.{length_parts, parts_at}
use Rattle.lists.proofs.Writing.{Copying, copy_begins, copy_ends}
use Rattle.mesh.specs.Limits.{width, corner_limit, face_limit, corner_numbers}
use Rattle.mesh.specs.Mesh.{Ring, position, rings}
use Rattle.mesh.proofs.Faces.{length_rings}
use Rattle.edges.specs.Edges.{Edge, edges_of}
use Rattle.tracing.specs.Answers.{corner_count}
use Rattle.turning.specs.Turning.{house_wires_of}
use Rattle.turning.proofs.Rounds.{In}
use Rattle.keys.specs.Keys.{Use, uses_from, use_faces, no_use}
use Rattle.keys.specs.Columns.{column}
use Rattle.keys.proofs.Valid.{lower_at, higher_at, uses_corners}
use Rattle.hemlist.specs.HemList.{first_edge_lem, hem_panel, hem_panels}
use Rattle.labelled.specs.Labels.{Labelled}
use Rattle.ofpanel.specs.OfPanel.{Panelled}
use Rattle.ofpanel.specs.Steps.{entry_room, end_of, entries, FindRoom, Found, panels_by, WriteRoom, PanelRows}
use Rattle.ofpanel.proofs.Wires.{wire_some, first_in, edge_below}
use Rattle.ofpanel.proofs.Uses.{use_face, some_use, use_panel}
use Rattle.ofpanel.proofs.Entries.{entry_use, entry_hem}

-- ---- the loop that writes

module _ (firsts faces labels out₀ : List ℕ) where
  abbrev written : List ℕ
  written = panels_by firsts faces labels

  pub written_long : length written ≡ length firsts - length faces
  unfolding panels_by
  written_long = length_table _ (length firsts - length faces)

  written_at :
      (k : ℕ) → k < length firsts - length faces → get_or written k 0 ≡ get_or labels (get_or faces (get_or firsts (length faces + k) 0) 0) 0
  unfolding panels_by
  written_at k h = table_at _ (length firsts - length faces) k 0 h

  pub write_begins : Copying written out₀ out₀ 0 0
  write_begins = copy_begins 0 written out₀ 0

  pub write_turns :
      (out : List ℕ) (k first face : ℕ) → k < length firsts - length faces → first ≡ get_or firsts (length faces + k) 0 → face ≡ get_or faces first 0
      → Copying written out₀ out 0 k → Copying written out₀ (set out k (get_or labels face 0)) 0 (k + 1)
  write_turns out k first face h e f c =
      subst (λ (x : ℕ). Copying written out₀ (set out k x) 0 (k + 1))
      (written_at k h
      ∙ ap (λ (x : ℕ). get_or labels (get_or faces x 0) 0) (sym e)
      ∙ ap (λ (x : ℕ). get_or labels x 0) (sym f))
      (front_turns 0 written out₀ out k (let l : length written ≡ length firsts - length faces = written_long in omega arith) c)

  pub write_ends : (out : List ℕ) (k : ℕ) → length firsts - length faces ≤ k → Copying written out₀ out 0 k → out ≡ sets out₀ 0 written
  write_ends out k h c = copy_ends 0 written out₀ out 0 k (let l : length written ≡ length firsts - length faces = written_long in omega arith) c

-- the face of the first entry has a label
pub face_below :
    (firsts faces labels : List ℕ) (k first face : ℕ) → first ≡ get_or firsts (length faces + k) 0 → face ≡ get_or faces first 0
    → get_or faces (get_or firsts (length faces + k) 0) 0 < length labels → face < length labels
face_below firsts faces labels k first face e f h =
    subst (λ (x : ℕ). x < length labels) (sym (f ∙ ap (λ (x : ℕ). get_or faces x 0) e)) h

-- ---- the hems

module _ (cs s : List ℕ) (n : ℕ) (flat edges out : List ℕ) (p : Panelled cs s n flat edges out) where
  abbrev fs : List Ring
  fs = rings s cs

  abbrev us : List Use
  us = uses_from false 0 fs

  abbrev ws : List (List ℕ)
  ws = parts edges flat

  wires_long : length (house_wires_of fs) ≡ length edges
  wires_long = ap length (sym p.wires) ∙ length_parts edges flat

  corners_few : corner_count cs ≤ corner_limit
  corners_few = let b : length cs ≤ corner_numbers = p.keyable.sound.fits in omega arith

  uses_long : length us ≡ corner_count cs
  uses_long = uses_corners false s cs p.keyable.sound.adds

  hem_some : (k : ℕ) → k < length edges → 0 < get_or edges k 0
  hem_some k h =
      let a : 0 < length (get_or (house_wires_of fs) k []) = wire_some (map (map position) fs) k (omega (arith, wires_long)) in
      let b : 0 < length (get_or ws k []) = subst (λ (w : List (List ℕ)). 0 < length (get_or w k [])) (sym p.wires) a in
      let c : 0 < length (take (get_or edges k 0) (drop (sum (take k edges)) flat)) = subst (λ (w : List ℕ). 0 < length w) (parts_at edges flat k h) b in
      taken (get_or edges k 0) (drop (sum (take k edges)) flat) c
    where
      taken : (m : ℕ) (l : List ℕ) → 0 < length (take m l) → 0 < m
      taken zero l h = h
      taken (suc m) l h = omega arith

  -- the first edge of hem k
  abbrev edge : ℕ → Edge
  edge k = first_edge_lem (get_or ws k [])

  edge_in : (k : ℕ) → k < length edges → In (edge k) (edges_of fs)
  edge_in k h =
      subst (λ (w : List (List ℕ)). In (first_edge_lem (get_or w k [])) (edges_of fs)) (sym p.wires)
      (first_in fs p.fit k (omega (arith, wires_long)))

  low : (y : ℕ) → y < corner_count cs → get_or (entries 0 fs ws) y 0 ≡ (get_or us y no_use).1.0
  unfolding column
  low y i = entry_use 0 cs s flat edges p.keyable y i ∙ lower_at us y

  high : (y : ℕ) → y < corner_count cs → get_or (entries 1 fs ws) y 0 ≡ (get_or us y no_use).1.1
  unfolding column
  high y i = entry_use 1 cs s flat edges p.keyable y i ∙ higher_at us y

  module _ (firsts : List ℕ) (l : length firsts ≡ corner_count cs + length edges) where
    pub find_room : FindRoom cs s flat edges firsts
    find_room = record {
      entry = record {
        keyable = p.keyable;
        within = p.within;
        some = hem_some;
        few = omega (arith, p.few_hems, corners_few);
        room = l;
      };
      starts = λ k h. (edge_below cs s n p.edged (edge k) (edge_in k h)).0;
      ends = λ k h. (edge_below cs s n p.edged (edge k) (edge_in k h)).1;
    }

    module _ (firsts' : List ℕ) (f : Found fs ws (length firsts) firsts') where
      abbrev first : ℕ → ℕ
      first k = get_or firsts' (corner_count cs + k) 0

      -- the first entry of a hem's edge is a use
      pub first_used : (k : ℕ) → k < length edges → first k < corner_count cs
      first_used k h =
          ⊎_elim (λ i. i)
          (λ g.
          absurd
          (some_use fs (edge k) (edge_in k h)
          (λ y i e.
          let j : y < corner_count cs = omega (arith, uses_long) in
          f.none (corner_count cs + k) y (omega arith) (omega arith)
          (low y j ∙ e.0 ∙ sym (entry_hem 0 cs s flat edges p.keyable k h))
          (high y j ∙ e.1 ∙ sym (entry_hem 1 cs s flat edges p.keyable k h)))))
          (lt_or_ge (first k) (corner_count cs))

      -- and has its ends
      first_ends :
          (k : ℕ) → k < length edges
          → ((get_or us (first k) no_use).1.0 ≡ end_of 0 (edge k)) × ((get_or us (first k) no_use).1.1 ≡ end_of 1 (edge k))
      first_ends k h = (
        sym (low (first k) (first_used k h)) ∙ f.lower_same (corner_count cs + k) (omega arith) ∙ entry_hem 0 cs s flat edges p.keyable k h,
        sym (high (first k) (first_used k h)) ∙ f.higher_same (corner_count cs + k) (omega arith) ∙ entry_hem 1 cs s flat edges p.keyable k h,
      )

      module _ (faces' labels' : List ℕ) (g : faces' ≡ use_faces fs) (b : Labelled fs labels') where
        face_at : (x : ℕ) → get_or faces' x 0 ≡ (get_or us x no_use).0
        unfolding use_faces
        face_at x = ap (λ (q : List ℕ). get_or q x 0) g ∙ get_or-map (λ (u : Use). u.0) us x no_use

        faces_long : length faces' ≡ corner_count cs
        unfolding use_faces
        faces_long = ap length g ∙ length-map us (λ (u : Use). u.0) ∙ uses_long

        firsts_long : length firsts' ≡ corner_count cs + length edges
        firsts_long = f.long ∙ l

        hems_long : length firsts' - length faces' ≡ length edges
        hems_long = omega (arith, faces_long, firsts_long)

        -- of hem k
        entry_at : (k : ℕ) → get_or firsts' (length faces' + k) 0 ≡ first k
        entry_at k = ap (λ (u : ℕ). get_or firsts' (u + k) 0) faces_long

        named_face : (k : ℕ) → get_or faces' (get_or firsts' (length faces' + k) 0) 0 ≡ (get_or us (first k) no_use).0
        named_face k = ap (λ (x : ℕ). get_or faces' x 0) (entry_at k) ∙ face_at (first k)

        a_face : (k : ℕ) → k < length edges → (get_or us (first k) no_use).0 < length fs
        a_face k h = use_face fs (edge k) (first k) (let u : _ = first_used k h in omega (arith, uses_long)) (first_ends k h)

        pub write_room : WriteRoom firsts' faces' labels' out
        write_room = record {
          few = omega (arith, firsts_long, p.few_hems, corners_few);
          split = omega (arith, faces_long, firsts_long);
          used = λ k h. (let e : _ = entry_at k in let u : first k < corner_count cs = first_used k (omega (arith, hems_long)) in omega (arith, faces_long));
          faced = λ k h. (let e : _ = named_face k in let u : _ = a_face k (omega (arith, hems_long)) in omega (arith, b.long));
          few_labels = omega (arith, b.long, length_rings s cs, p.keyable.sound.few);
          room = omega (arith, hems_long, p.room);
        }

        panel_at :
            (k : ℕ) → k < length edges → get_or (hem_panels fs) k 0 ≡ get_or labels' (get_or faces' (get_or firsts' (length faces' + k) 0) 0) 0
        unfolding hem_panels hem_panel
        panel_at k h =
            map_at (hem_panel fs) [] 0 (house_wires_of fs) k (omega (arith, wires_long))
            ∙ ap (λ (w : List (List ℕ)). hem_panel fs (get_or w k [])) (sym p.wires)
            ∙ sym (use_panel fs (edge k) (edge_in k h) (first k) (let u : _ = first_used k h in omega (arith, uses_long)) (first_ends k h))
            ∙ sym (b.label (get_or us (first k) no_use).0 (a_face k h))
            ∙ ap (λ (x : ℕ). get_or labels' x 0) (sym (named_face k))

        panels_long : length (hem_panels fs) ≡ length firsts' - length faces'
        unfolding hem_panels
        panels_long = length-map (house_wires_of fs) (hem_panel fs) ∙ wires_long ∙ sym hems_long

        pub panels_are : panels_by firsts' faces' labels' ≡ hem_panels fs
        unfolding panels_by
        panels_are =
            sym
            (table_ext (λ k. get_or labels' (get_or faces' (get_or firsts' (length faces' + k) 0) 0) 0) (length firsts' - length faces') 0 (hem_panels fs)
            panels_long (λ k h. panel_at k (omega (arith, hems_long))))

        pub panels_done : (out' : List ℕ) → out' ≡ sets out 0 (panels_by firsts' faces' labels') → out' ≡ sets out 0 (hem_panels fs)
        panels_done out' e = e ∙ ap (sets out 0) panels_are

-- ---- the fronts of rows of fixed length

module _ (cs s : List ℕ) (n : ℕ) (flat edges out : List ℕ) (p : Panelled cs s n flat edges out) where
  pub entry_within : length cs / width + length edges ≤ entry_room
  entry_within = omega (arith, p.few_hems, corners_few cs s n flat edges out p)

  pub corner_within : length cs / width ≤ corner_limit
  corner_within = corners_few cs s n flat edges out p

  pub entry_row :
      length (take {A = ℕ} (length cs / width + length edges) (replicate entry_room 0)) ≡ length cs / width + length edges
  entry_row = length_front 0 (length cs / width + length edges) entry_room entry_within

  pub corner_row : length (take {A = ℕ} (length cs / width) (replicate corner_limit 0)) ≡ length cs / width
  corner_row = length_front 0 (length cs / width) corner_limit corner_within

  pub face_row : length (take {A = ℕ} (length s) (replicate face_limit 0)) ≡ length s
  face_row = length_front 0 (length s) face_limit p.keyable.sound.few

  pub rows_are :
      PanelRows cs s n flat edges (take {A = ℕ} (length cs / width + length edges) (replicate entry_room 0))
      (take {A = ℕ} (length cs / width) (replicate corner_limit 0)) (take {A = ℕ} (length s) (replicate face_limit 0)) out
  rows_are = record { panelled = p; firsts_long = entry_row; faces_long = corner_row; labels_long = face_row }
