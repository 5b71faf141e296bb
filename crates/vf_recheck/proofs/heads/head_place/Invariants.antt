use Rattle.std.proofs.Common.{◌≡◌, ◌+◌, drop}
use Rattle.vf_formula.specs.Heads.{shown_head}
use Rattle.vf_question.specs.Tabled.{head_place}
use Rattle.vf_recheck.proofs.heads.head_place.Given as goal

abbrev pub invariant-loop-i : goal.invariant-loop-i
invariant-loop-i l = head_place (shown_head l.head) l.terms ≡ l.i + head_place (shown_head l.head) (drop l.i l.terms)
