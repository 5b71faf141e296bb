use Rattle.std.proofs.Common.{◌≡◌, ◌++◌, take}
use Rattle.vf_link.specs.Statements.{statements, subjects, contents}
use Rattle.vf_link.proofs.statement.Statements.push_lines.Given as goal

abbrev pub invariant-loop-at : goal.invariant-loop-at
invariant-loop-at l = record {
  subjects : l.self.subjects ≡ l.fn.self.subjects ++ subjects (statements l.topic (take l.at l.manifest));
  contents : l.self.contents ≡ l.fn.self.contents ++ contents (statements l.topic (take l.at l.manifest));
}
