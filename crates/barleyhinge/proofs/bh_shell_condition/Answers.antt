-- `barleyhinge::bh_shell_condition` meets its contract: the verdict that was found, or the number of the refusal. Assumes nothing.
use Rattle.barleyhinge.proofs.Verdict.{found, refused}
use Rattle.barleyhinge.proofs.bh_shell_condition.Goals as goal

pub returns-in-Found : goal.returns-in-Found
returns-in-Found c =
    found _ _ _ _ _ c.shell_condition-judged.ensures c.in-Found.is
    c.verdict_number.ensures

pub returns-in-Refused : goal.returns-in-Refused
returns-in-Refused c = refused _ _ _ _ c.shell_condition-judged.ensures c.in-Refused.is
