-- Each way out answers the row of the table that it stands for; the last has the answer of `list_of`. Assumes nothing.
use mathlib.Core.Path.{sym, ◌∙◌}
use Rattle.mesh.specs.Mesh.{mesh_of, faces}
use Rattle.mesh.proofs.Accepted.{accepted}
use Rattle.edges.proofs.Answering.{edged}
use Rattle.keys.proofs.Valid.{keyable}
use Rattle.listing.proofs.Answering.{
  roomy,
  panels_short,
  edges_short,
  lengths_short,
  unmatched_is,
  matched,
  located,
  row_mesh,
  row_18,
  row_19,
  row_9,
  row_10,
  refusal,
  listed,
}
use native.Mathlib.Omega.{arith}
use Rattle.listing.proofs.list_hems.Goals as goal

pub returns-then-number-ne0 : goal.returns-then-number-ne0
returns-then-number-ne0 c =
    let number = c.number-number.ensures in
    let if1 = c.if-number-ne0 in
    refusal _ _ _ (row_mesh _ _ _ _ _ (λ z. if1.true (number ∙ z)) ∙ sym number) if1.true c.refused.ensures

pub returns-then-triples-positions : goal.returns-then-triples-positions
returns-then-triples-positions c =
    let number = c.number-number.ensures in
    let if1 = c.if-number-ne0.false in
    let if2 = c.if-triples-positions in
    let zero = sym number ∙ if1 in
    refusal _ _ _ (row_18 _ _ _ _ _ zero (unmatched_is _ _ zero if2.true)) (λ z. omega arith) c.refused-then-triples-positions.ensures

pub returns-then-beyond_reach : goal.returns-then-beyond_reach
returns-then-beyond_reach c =
    let number = c.number-number.ensures in
    let if1 = c.if-number-ne0.false in
    let if2 = c.if-triples-positions.false in
    let far = c.beyond_reach.ensures in
    let if3 = c.if-beyond_reach in
    let zero = sym number ∙ if1 in
    refusal _ _ _ (row_19 _ _ _ _ _ zero (matched _ _ zero if2) (sym far ∙ if3.true)) (λ z. omega arith) c.refused-then-beyond_reach.ensures

pub returns-then-panels-room : goal.returns-then-panels-room
returns-then-panels-room c =
    let number = c.number-number.ensures in
    let if1 = c.if-number-ne0.false in
    let if2 = c.if-triples-positions.false in
    let far = c.beyond_reach.ensures in
    let if3 = c.if-beyond_reach.false in
    let if4 = c.if-panels-room in
    let zero = sym number ∙ if1 in
    refusal _ _ _ (row_9 _ _ _ _ _ zero (matched _ _ zero if2) (sym far ∙ if3) (panels_short _ _ _ _ if4.true)) (λ z. omega arith) c.refused-then-panels-room.ensures

pub returns-then-edges-room : goal.returns-then-edges-room
returns-then-edges-room c =
    let number = c.number-number.ensures in
    let if1 = c.if-number-ne0.false in
    let if2 = c.if-triples-positions.false in
    let far = c.beyond_reach.ensures in
    let if3 = c.if-beyond_reach.false in
    let if4 = c.if-panels-room.false in
    let if5 = c.if-edges-room in
    let zero = sym number ∙ if1 in
    refusal _ _ _ (row_9 _ _ _ _ _ zero (matched _ _ zero if2) (sym far ∙ if3) (edges_short _ _ _ _ if4 if5.true)) (λ z. omega arith) c.refused-then-edges-room.ensures

pub returns-then-lengths-room : goal.returns-then-lengths-room
returns-then-lengths-room c =
    let number = c.number-number.ensures in
    let if1 = c.if-number-ne0.false in
    let if2 = c.if-triples-positions.false in
    let far = c.beyond_reach.ensures in
    let if3 = c.if-beyond_reach.false in
    let if4 = c.if-panels-room.false in
    let if5 = c.if-edges-room.false in
    let if6 = c.if-lengths-room in
    let zero = sym number ∙ if1 in
    refusal _ _ _ (row_9 _ _ _ _ _ zero (matched _ _ zero if2) (sym far ∙ if3) (lengths_short _ _ _ _ if4 if5 if6.true)) (λ z. omega arith) c.refused-then-lengths-room.ensures

pub list_of-requires : goal.list_of-requires
list_of-requires c =
    let args = c.args in
    let number = c.number-number.ensures in
    let if1 = c.if-number-ne0.false in
    let if2 = c.if-triples-positions.false in
    let far = c.beyond_reach.ensures in
    let if3 = c.if-beyond_reach.false in
    let if4 = c.if-panels-room.false in
    let if5 = c.if-edges-room.false in
    let if6 = c.if-lengths-room in
    let m = mesh_of args.positions.now args.textures.now args.normals.now args.corners.now args.sizes.now in
    let zero = sym number ∙ if1 in
    record {
      edged = edged m zero;
      keyable = keyable m (accepted m zero);
      located = located m args.triples.now zero if2 (sym far ∙ if3);
      panel_room = if4;
      edge_room = if5;
      length_room = if6.false;
    }

pub returns : goal.returns
unfolding faces
returns c =
    let number = c.number-number.ensures in
    let if1 = c.if-number-ne0.false in
    let if2 = c.if-triples-positions.false in
    let far = c.beyond_reach.ensures in
    let if3 = c.if-beyond_reach.false in
    let if4 = c.if-panels-room.false in
    let if5 = c.if-edges-room.false in
    let if6 = c.if-lengths-room in
    let zero = sym number ∙ if1 in
    listed (row_10 _ _ _ _ _ zero (matched _ _ zero if2) (sym far ∙ if3) (roomy _ _ _ _ if4 if5 if6.false)) c.list_of.ensures
