-- Why each call's results are determined. Where a contract says that the result, or something by which the result is known, is a
-- function of what is given, one law serves. Where it says so field by field, two results agree in each field, and so are one.
-- Assumes nothing.
use mathlib.Core.Path.{◌≡◌, sym, ◌∙◌}
use mathlib.Core.List.{List}
use Prim.Native.Nat.{ℕ}
use Rattle.mesh.specs.Mesh.{Mesh, mesh_of}
use Rattle.mesh.specs.Listed.{Listed, listed_of}
use Rattle.mesh.specs.Table.{mesh_number}
use Rattle.mesh.specs.Face.{face_part}
use Rattle.faces.specs.Faces.{faces_of}
use Rattle.unused.specs.Compaction as compaction
use Rattle.removal.specs.Folded as removal
use Rattle.smoothed.specs.Refusals as smoothed
use Rattle.edges.specs.Answers.{answer_of, judged, hems_in}
use Rattle.edges.proofs.Answering.{answer_only}
use Rattle.hemlist.specs.Answer.{hem_lists_of}
use Rattle.tracing.specs.Answers.{Answered}
use Rattle.tracing.specs.declared.Wires.{Wires}
use Rattle.determined.specs.Determined.{Call, Determined, ◌and◌, done, equals, number, face, push_call, compaction_call, in_place_call, removal_call}
use Rattle.determined.specs.Determined.{merging_call, smoothing_call, verdict_call, hem_call, ported_call, house_call, panels_call, list_call}
use Rattle.determined.specs.Determined.{read_call, scan_call, write_call, clean_call, sheet_call, hem_sheet_call, AllDetermined}

-- ---- the general law

-- the contract says that a view of the result is f of what is given, and the result is known by that view
pub one_result :
    (c : Call) {B : Type 0} (view : c.Result → B) (f : c.Given → B)
    → ((r q : c.Result) → view r ≡ view q → r ≡ q)
    → ((g : c.Given) (r : c.Result) → c.Allows g r → view r ≡ f g)
    → Determined c
one_result c view f known is g r q a b = known r q (is g r a ∙ sym (is g q b))

-- whatever f is
pub equals_determined : {G R : Type 0} (f : G → R) → Determined (equals f)
equals_determined f = one_result (equals f) (λ r. r) f (λ r q e. e) (λ g r a. a)

number_determined : Determined number
number_determined = equals_determined mesh_number

face_determined : Determined face
face_determined = equals_determined (λ (g : Mesh × ℕ). face_part g.0 g.1)

verdict_determined : Determined verdict_call
verdict_determined = one_result verdict_call answer_of judged answer_only (λ g r a. a)

-- ---- field by field

push_determined : Determined push_call
push_determined g r q a b =
    let n : r.0.number ≡ q.0.number = cc in
    let c : r.0.corners ≡ q.0.corners = cc in
    let f : r.0.faces ≡ q.0.faces = cc in
    let x : r.1.corners ≡ q.1.corners = cc in
    let y : r.1.sizes ≡ q.1.sizes = cc in
    λ i. (record { number = n i; corners = c i; faces = f i }, faces_of (x i) (y i))

compaction_determined : Determined compaction_call
compaction_determined g r q a b =
    let n : r.0.number ≡ q.0.number = cc in
    let p : r.0.positions ≡ q.0.positions = cc in
    let t : r.0.textures ≡ q.0.textures = cc in
    let u : r.0.normals ≡ q.0.normals = cc in
    let c : r.1.corners ≡ q.1.corners = cc in
    let x : r.1.positions ≡ q.1.positions = cc in
    let y : r.1.textures ≡ q.1.textures = cc in
    let z : r.1.normals ≡ q.1.normals = cc in
    λ i. (record { number = n i; positions = p i; textures = t i; normals = u i }, compaction.result_of (c i) (x i) (y i) (z i))

in_place_determined : Determined in_place_call
in_place_determined g r q a b =
    let n : r.0.number ≡ q.0.number = cc in
    let p : r.0.positions ≡ q.0.positions = cc in
    let t : r.0.textures ≡ q.0.textures = cc in
    let u : r.0.normals ≡ q.0.normals = cc in
    let c : r.1.0.corners ≡ q.1.0.corners = cc in
    let x : r.1.0.positions ≡ q.1.0.positions = cc in
    let y : r.1.0.textures ≡ q.1.0.textures = cc in
    let z : r.1.0.normals ≡ q.1.0.normals = cc in
    let s : r.1.1 ≡ q.1.1 = cc in
    λ i. (record { number = n i; positions = p i; textures = t i; normals = u i }, (compaction.result_of (c i) (x i) (y i) (z i), s i))

removal_determined : Determined removal_call
removal_determined g r q a b =
    let n : r.0.number ≡ q.0.number = cc in
    let c : r.0.corners ≡ q.0.corners = cc in
    let f : r.0.faces ≡ q.0.faces = cc in
    let x : r.1.corners ≡ q.1.corners = cc in
    let y : r.1.sizes ≡ q.1.sizes = cc in
    let z : r.1.origins ≡ q.1.origins = cc in
    λ i. (record { number = n i; corners = c i; faces = f i }, removal.result_of (x i) (y i) (z i))

pub merging_determined : Determined merging_call
merging_determined g r q a b =
    let n : r.0.number ≡ q.0.number = cc in
    let p : r.0.positions ≡ q.0.positions = cc in
    let t : r.0.textures ≡ q.0.textures = cc in
    let u : r.0.normals ≡ q.0.normals = cc in
    let c : r.1 ≡ q.1 = cc in
    λ i. (record { number = n i; positions = p i; textures = t i; normals = u i }, c i)

smoothing_determined : Determined smoothing_call
smoothing_determined g r q a b =
    let n : r.0.number ≡ q.0.number = cc in
    let p : r.0.positions ≡ q.0.positions = cc in
    let c : r.0.corners ≡ q.0.corners = cc in
    let f : r.0.faces ≡ q.0.faces = cc in
    let x : r.1.positions ≡ q.1.positions = cc in
    let y : r.1.corners ≡ q.1.corners = cc in
    let z : r.1.sizes ≡ q.1.sizes = cc in
    λ i. (record { number = n i; positions = p i; corners = c i; faces = f i }, smoothed.lists (x i) (y i) (z i))

hem_determined : Determined hem_call
hem_determined g r q a b =
    let n : r.0.number ≡ q.0.number = cc in
    let c : r.0.count ≡ q.0.count = cc in
    let s : r.1.starts ≡ q.1.starts = cc in
    let e : r.1.ends ≡ q.1.ends = cc in
    λ i. (record { number = n i; count = c i }, hems_in (s i) (e i))

-- ported and house wires answer alike
wires_determined :
    {n : ℕ} {ws : List (List ℕ)} {before : Listed} (r q : Wires × Listed)
    → Answered n ws before r.1 r.0
    → Answered n ws before q.1 q.0
    → r ≡ q
wires_determined r q a b =
    let n : r.0.number ≡ q.0.number = cc in
    let m : r.0.flat ≡ q.0.flat = cc in
    let w : r.0.wires ≡ q.0.wires = cc in
    let f : r.1.flat ≡ q.1.flat = cc in
    let l : r.1.lengths ≡ q.1.lengths = cc in
    λ i. (record { number = n i; flat = m i; wires = w i }, listed_of (f i) (l i))

ported_determined : Determined ported_call
ported_determined g = wires_determined

house_determined : Determined house_call
house_determined g = wires_determined

panels_determined : Determined panels_call
panels_determined g r q a b =
    let n : r.0.number ≡ q.0.number = cc in
    let m : r.0.faces ≡ q.0.faces = cc in
    let p : r.0.panels ≡ q.0.panels = cc in
    let f : r.1.flat ≡ q.1.flat = cc in
    let l : r.1.lengths ≡ q.1.lengths = cc in
    λ i. (record { number = n i; faces = m i; panels = p i }, listed_of (f i) (l i))

list_determined : Determined list_call
list_determined g r q a b =
    let n : r.0.number ≡ q.0.number = cc in
    let h : r.0.hems ≡ q.0.hems = cc in
    let p : r.1.panels ≡ q.1.panels = cc in
    let e : r.1.edges ≡ q.1.edges = cc in
    let l : r.1.lengths ≡ q.1.lengths = cc in
    λ i. (record { number = n i; hems = h i }, hem_lists_of (p i) (e i) (l i))

read_determined : Determined read_call
read_determined g r q a b =
    let n : r.0.number ≡ q.0.number = cc in
    let p : r.0.positions ≡ q.0.positions = cc in
    let t : r.0.textures ≡ q.0.textures = cc in
    let u : r.0.normals ≡ q.0.normals = cc in
    let c : r.0.corners ≡ q.0.corners = cc in
    let f : r.0.faces ≡ q.0.faces = cc in
    let p' : r.1.positions ≡ q.1.positions = cc in
    let t' : r.1.textures ≡ q.1.textures = cc in
    let u' : r.1.normals ≡ q.1.normals = cc in
    let c' : r.1.corners ≡ q.1.corners = cc in
    let s' : r.1.sizes ≡ q.1.sizes = cc in
    λ i. (
      record { number = n i; positions = p i; textures = t i; normals = u i; corners = c i; faces = f i },
      mesh_of (p' i) (t' i) (u' i) (c' i) (s' i),
    )

scan_determined : Determined scan_call
scan_determined g r q a b =
    let n : r.0.number ≡ q.0.number = cc in
    let p : r.0.positions ≡ q.0.positions = cc in
    let t : r.0.textures ≡ q.0.textures = cc in
    let u : r.0.normals ≡ q.0.normals = cc in
    let c : r.0.corners ≡ q.0.corners = cc in
    let f : r.0.faces ≡ q.0.faces = cc in
    let p' : r.1.positions ≡ q.1.positions = cc in
    let t' : r.1.textures ≡ q.1.textures = cc in
    let u' : r.1.normals ≡ q.1.normals = cc in
    let c' : r.1.corners ≡ q.1.corners = cc in
    let s' : r.1.sizes ≡ q.1.sizes = cc in
    λ i. (
      record { number = n i; positions = p i; textures = t i; normals = u i; corners = c i; faces = f i },
      mesh_of (p' i) (t' i) (u' i) (c' i) (s' i),
    )

write_determined : Determined write_call
write_determined g r q a b =
    let n : r.0.number ≡ q.0.number = cc in
    let l : r.0.length ≡ q.0.length = cc in
    let o : r.1 ≡ q.1 = cc in
    λ i. (record { number = n i; length = l i }, o i)

sheet_determined : Determined sheet_call
sheet_determined g r q a b =
    let n : r.0.number ≡ q.0.number = cc in
    let l : r.0.length ≡ q.0.length = cc in
    let o : r.1 ≡ q.1 = cc in
    λ i. (record { number = n i; length = l i }, o i)

clean_determined : Determined clean_call
clean_determined g r q a b =
    let n : r.0.number ≡ q.0.number = cc in
    let l : r.0.length ≡ q.0.length = cc in
    let o : r.1 ≡ q.1 = cc in
    λ i. (record { number = n i; length = l i }, o i)

hem_sheet_determined : Determined hem_sheet_call
hem_sheet_determined g r q a b =
    let n : r.0.number ≡ q.0.number = cc in
    let l : r.0.length ≡ q.0.length = cc in
    let o : r.1 ≡ q.1 = cc in
    λ i. (record { number = n i; length = l i }, o i)

-- ---- every call

pub all_determined : AllDetermined
all_determined =
    number_determined
    and face_determined
    and push_determined
    and compaction_determined
    and in_place_determined
    and removal_determined
    and merging_determined
    and smoothing_determined
    and verdict_determined
    and hem_determined
    and ported_determined
    and house_determined
    and panels_determined
    and list_determined
    and read_determined
    and scan_determined
    and write_determined
    and clean_determined
    and sheet_determined
    and hem_sheet_determined
    and done
