use Rattle.std.proofs.Common.{◌≡◌, length, drop}
use Rattle.vf_refute.specs.Refutations.{Refute}
use Rattle.vf_reasons.specs.Follows.{HasGone}
use Rattle.vf_reasons.proofs.following.follow.Given as goal

abbrev pub invariant-loop-i : goal.invariant-loop-i
invariant-loop-i l = record {
  gone : HasGone l.basis l.facts l.initial.draft l.draft l.known.items;
  rest : Refute l.basis.nodes.items l.facts l.known.items (drop l.i l.steps);
  base : l.base ≡ length l.initial.draft.known.items;
}
