-- What is refused does not link.
use Rattle.std.proofs.Common.{List, Result, Ok, Err, IfErr, ◌∙◌}
use Rattle.vf_manifest.specs.declared.line.Line.{Line}
use Rattle.vf_link.specs.declared.refusal.LinkRefusal.{LinkRefusal}
use Rattle.vf_link.specs.declared.refusal.LinkRefusal.TheVariants as refusals
use Rattle.vf_link.specs.declared.refusal.LinkFault.{LinkFault}
use Rattle.vf_link.specs.declared.refusal.LinkFault.TheVariants as faults
use Rattle.vf_link.specs.Linking.{Links, IsRefusal, IfRefused}

pub refused_no_link : (ls : List Line) (r : LinkRefusal) → IsRefusal ls r → Links ls → ⊥
refused_no_link ls (refusals.NoMain count) h l = h.1 (h.0 ∙ l.0.0.0.0.0.0)
refused_no_link ls (refusals.Duplicate identity) h l = l.0.0.0.0.0.1 identity h.1.is
refused_no_link ls (refusals.TwoBodies identity) h l = l.0.0.0.0.1 identity h.1.is
refused_no_link ls (refusals.HeaderDiffers path) h l = l.0.0.0.1 path h.1.is
refused_no_link ls (refusals.Unmet identity) h l = l.0.0.1 identity h.1.is
refused_no_link ls (refusals.Signature identity) h l = l.0.1 identity h.1.is
refused_no_link ls (refusals.LemmaCycle identity) h l = l.1 identity h.1.is

never : (ls : List Line) (e : LinkFault) → IfRefused e (IsRefusal ls) → IfRefused e (λ _. Links ls → ⊥)
never ls (faults.Refused r) h = refused_no_link ls r h
never ls faults.Memory h = tt

pub if_never : {T : Type 0} (ls : List Line) (r : Result T LinkFault) → IfErr r (λ e. IfRefused e (IsRefusal ls)) → IfErr r (λ e. IfRefused e (λ _. Links ls → ⊥))
if_never ls (Ok x) h = tt
if_never ls (Err e) h = never ls e h
