use Rattle.std.proofs.Common.{◌≡◌, ◌≤◌, take, IfSome}
use Rattle.vf_words.specs.Positionals.{texts}
use Rattle.vf_manifest_commands.specs.Manifests.{HaveManifests}
use Rattle.vf_manifest_commands.proofs.linking.load_manifests.Given as goal

-- the manifests of the paths so far were read
abbrev pub invariant-loop-path : goal.invariant-loop-path
invariant-loop-path g l = record {
  loaded : IfSome (g.F.Files.contents l.fn.files) (λ m. HaveManifests m (texts (take l.path-index l.paths)) l.manifests.items);
  same : g.F.Files.contents l.files ≡ g.F.Files.contents l.fn.files;
  failures : g.F.Files.failures l.fn.files ≤ g.F.Files.failures l.files;
  absences : g.F.Files.absences l.fn.files ≤ g.F.Files.absences l.files;
}
