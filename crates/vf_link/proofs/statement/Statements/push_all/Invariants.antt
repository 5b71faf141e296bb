use Rattle.std.proofs.Common.{◌≡◌, ◌++◌, take}
use Rattle.vf_link.specs.Statements.{all_lines, statements, subjects, contents}
use Rattle.vf_link.proofs.statement.Statements.push_all.Given as goal

abbrev pub invariant-loop-manifest : goal.invariant-loop-manifest
invariant-loop-manifest l = record {
  subjects : l.self.subjects ≡ l.fn.self.subjects ++ subjects (statements l.topic (all_lines (take l.manifest-index l.manifests)));
  contents : l.self.contents ≡ l.fn.self.contents ++ contents (statements l.topic (all_lines (take l.manifest-index l.manifests)));
}
