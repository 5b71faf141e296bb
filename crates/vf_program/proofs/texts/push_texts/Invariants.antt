use Rattle.std.proofs.Common.{◌≡◌, ◌++◌, take}
use Rattle.vf_program.proofs.texts.push_texts.Given as goal

-- those before an index stand behind what was there
abbrev pub invariant-loop-text : goal.invariant-loop-text
invariant-loop-text l = l.texts ≡ l.initial.texts ++ take l.text-index l.more
