-- A manifest that is too long, that reads, and that doesn't.
use Rattle.std.proofs.Common.{List, subst, arith}
use Rattle.vf_manifest.specs.declared.fault.ManifestFault.{ManifestFault}
use Rattle.vf_manifest.specs.declared.line.Line.{Line}
use Rattle.vf_manifest.specs.Manifests.{IfSyntax, IsManifestText}
use Rattle.vf_report.proofs.Loading.{manifest_too_long, manifest_read, manifest_unread}
use Rattle.vf_report.proofs.load.load_manifest.Goals as goal

pub returns-then-len-gt-MOST_BYTES-clause-unreadable :
    goal.returns-then-len-gt-MOST_BYTES-clause-unreadable
returns-then-len-gt-MOST_BYTES-clause-unreadable g c = λ _. manifest_too_long _ _ _ c.in-Ok.ensures.ok (omega arith)

pub returns-in-Ok-read_manifest-clause-ok : goal.returns-in-Ok-read_manifest-clause-ok
returns-in-Ok-read_manifest-clause-ok g c = manifest_read _ _ _ _ c.in-Ok.ensures.ok (omega arith) (rw (← c.as_slice.ensures.value) c.in-Ok-read_manifest.ensures.read)

pub returns-in-Err-Syntax-clause-unreadable : goal.returns-in-Err-Syntax-clause-unreadable
returns-in-Err-Syntax-clause-unreadable g c = λ _. manifest_unread _ _ _ c.in-Ok.ensures.ok (omega arith)
    (rw (← c.as_slice.ensures.value) (subst (λ (e : ManifestFault). IfSyntax e (λ _. (lines : List Line) → IsManifestText c.as_slice.result.now lines → ⊥)) c.in-Err-Syntax.field-0-is c.in-Err-Syntax.ensures.none))
