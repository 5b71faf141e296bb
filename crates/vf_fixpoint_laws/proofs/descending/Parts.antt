-- Parts of the text that add to what is declared, and then leave it as it is.
use Rattle.std.proofs.Common.{Ok}
use Rattle.vf_declared.specs.declared.scope.Scope.{Scope}
use Rattle.vf_walk.specs.Walking.{Only, Then, Walked, behind}
use Rattle.vf_erasure_laws.proofs.hidden.Coming.{Comes, Leads, ok_comes, only_leads, then_leads}
use Rattle.vf_fixpoint_laws.proofs.definable.Extending.{Keeps}
use Rattle.vf_fixpoint_laws.proofs.definable.Parts.{walk_comes}
use Rattle.vf_fixpoint_laws.proofs.descending.Levels.{Adds, adds_before}

pub then_adds : {s : Scope} {V : Walked → Type 0} {W : Scope → Walked → Type 0} → Leads (Adds s) V → ((t : Scope) → Leads (Keeps t) (W t)) → Leads (Adds s) (Then V W)
then_adds {s} h k = then_leads (Adds s) (Adds s) h (λ t a u w. adds_before a (k t u w))

pub behind_adds : {s : Scope} (f : Scope → Walked) (r : Walked) → Comes (Adds s) r → ((t : Scope) → Comes (Keeps t) (f t)) → Comes (Adds s) (behind f r)
behind_adds {s} f r h k = walk_comes (Adds s) (Adds s) f r h (λ t a u e. adds_before a (k t u e))

-- what is left in the end
pub only_kept : {s t : Scope} → Keeps s t → Leads (Keeps s) (Only (Ok t))
only_kept {s} {t} h = only_leads (Keeps s) (Ok t) (ok_comes (Keeps s) h)
