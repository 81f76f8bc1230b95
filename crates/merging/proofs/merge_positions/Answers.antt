-- The part of the room that is lent is the scaled list. Assumes nothing.
use Rattle.std.proofs.Common.{sym, replicate, Float, rules, ◌∙◌}
use lib.Ieee.{of_bits, binary64}
use lib.ListN.{length-replicate}
use borrow.Author.Tests.{eqb-true}
use Rattle.mesh.specs.Limits.{point_numbers}
use Rattle.together.proofs.Scaling.{none_merged, scaled_are, mergeable, merged_are}
use Rattle.merging.proofs.merge_positions.Goals as goal

pub returns-then-is_empty : goal.returns-then-is_empty
returns-then-is_empty g c = none_merged c.args.t _ _ _ (eqb-true _ 0 (sym c.is_empty.ensures ∙ c.if-is_empty.true))

pub merge_list-requires : goal.merge_list-requires
merge_list-requires g c =
    let room = replicate point_numbers (of_bits binary64 0) in
    mergeable _ _ c.requires.0 _ (scaled_are _ _ c.requires.0 room _ (length-replicate {A = Float} point_numbers (of_bits binary64 0)) c.scale.ensures) _
    (search rules) (λ k l. search rules) c.requires.1

pub returns : goal.returns
returns g c =
    let room = replicate point_numbers (of_bits binary64 0) in
    merged_are _ _ c.requires.0 _ (scaled_are _ _ c.requires.0 room _ (length-replicate {A = Float} point_numbers (of_bits binary64 0)) c.scale.ensures) _ _ _
    c.merge_list.ensures
