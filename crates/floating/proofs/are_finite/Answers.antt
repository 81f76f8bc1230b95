-- Each number is looked at. Assumes nothing.
use Rattle.std.proofs.Common.{◌&&◌, refl, rules, tests, ◌∙◌}
use Rattle.std.specs.List.{list_all}
use Rattle.std.proofs.lemmas.Iterator.{YieldsList-from_slice}
use Rattle.std.proofs.lemmas.Iterator.Search.{all_from_yields_List}
use Rattle.std.proofs.lemmas.List.Recursion.{same_from_clauses}
use Rattle.lists.specs.Lists.{every}
use Rattle.floating.specs.Limits.{finite}
use Rattle.floating.proofs.are_finite.Goals as goal

pub returns : goal.returns
returns c =
    let s = c.args.s.now in
    all_from_yields_List finite _ _ c.all.result c.all.ensures.ran (YieldsList-from_slice s cc) (λ x b q k. search (rules, tests))
    ∙ same_from_clauses (list_all finite) (every finite) (λ x b. finite x && b) refl (λ x xs. refl) (λ x xs. refl) s
