use Rattle.std.proofs.Common.{◌≡◌, ◌↔◌, length}
use Rattle.vf_sorts.specs.Unknowns.{Filling, filled, Agrees, AgreesAsTold, IsResolved}
use Rattle.vf_sorts.specs.Told.{AreAlike, as_told, untold}
use Rattle.vf_sorts.specs.Pairs.{AllEqual, AreBelow, weight}
use Rattle.vf_sorts.proofs.Going.{Leads}
use Rattle.vf_sorts.proofs.unify.unify.Given as goal

abbrev pub invariant-loop-pair : goal.invariant-loop-pair
invariant-loop-pair l = record {
  long : length l.known.items ≡ length l.fn.known.items;
  resolved : IsResolved l.known.items;
  grown : (f : Filling) → Agrees f l.known.items → Agrees f l.fn.known.items;
  below : AreBelow (length l.known.items) l.pairs.items;
  kept : (f : Filling) → AgreesAsTold f l.known.items → AgreesAsTold f l.fn.known.items;
  equal : (f : Filling) → (Agrees f l.known.items × AllEqual untold f l.pairs.items) ↔ (Agrees f l.fn.known.items × AreAlike (filled f l.fn.left) (filled f l.fn.right));
  leads : Leads l.fn.known.items l.fn.left l.fn.right l.known.items l.pairs.items;
  told : (f : Filling) → (AgreesAsTold f l.fn.known.items × (filled f l.fn.left ≡ filled f l.fn.right)) → AgreesAsTold f l.known.items × AllEqual as_told f l.pairs.items;
}

abbrev pub decreases-loop-pair : goal.decreases-loop-pair
decreases-loop-pair l = weight l.known.items l.pairs.items
