use Rattle.std.proofs.Common.{◌≡◌, take}
use Rattle.vf_core.specs.Shown.{expressions_of}
use Rattle.vf_program.proofs.renaming.Renaming.expressions.Given as goal

-- those so far are the first
abbrev pub invariant-loop-expression : goal.invariant-loop-expression
invariant-loop-expression l = expressions_of l.self.all.now l.all ≡ expressions_of l.self.own.now (take l.expression-index l.expression-items)
