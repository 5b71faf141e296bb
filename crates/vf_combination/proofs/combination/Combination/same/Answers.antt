use Rattle.std.proofs.Common.{sym, subst, IsTrue}
use Rattle.vf_refute.specs.Closure.{Same, Conflict}
use Rattle.vf_ground.proofs.Closing.{same_by, same_in, cycle_by}
use Rattle.vf_combination.specs.Combined.{Combined}
use Rattle.vf_combination.proofs.combination.Combination.same.Goals as goal

pub returns : goal.returns
returns c =
    let none = subst (λ (v : Combined). Conflict v.nodes v.facts → ⊥) (sym c.self.view_is) c.requires.fine in
    let s = c.self.invariant.settled in
    subst (λ (v : Combined). (IsTrue c.same.result → Same v.nodes v.facts c.args.a c.args.b) × (Same v.nodes v.facts c.args.a c.args.b → IsTrue c.same.result)) c.self.view_is (
      λ t. same_by c.self.inside.classes.nodes c.self.inside.facts.items c.self.inside.classes.merged c.self.inside.bounds.edges s.sound (c.same.ensures.0 t),
      λ h. c.same.ensures.1 (same_in c.self.inside.classes.nodes c.self.inside.facts.items c.self.inside.classes.merged c.self.inside.bounds.edges (s.complete (λ n. none (cycle_by c.self.inside.classes.nodes c.self.inside.facts.items c.self.inside.classes.merged c.self.inside.bounds.edges s.sound n))) h),
    )
