-- Classes and bounds beside a log that derives all that they were given.
use Rattle.std.specs.Prelude.{◌≡◌, ℕ, ℤ, neg_ℤ, List, length, Contains}
use Rattle.vf_congruence.specs.Congruence.{WereMerged}
use Rattle.vf_congruence.specs.Explained as equalities
use Rattle.vf_arith.specs.declared.bounds.Edge.{Edge}
use Rattle.vf_refute.specs.declared.steps.Derived.{Derived}
use Rattle.vf_refute.specs.declared.steps.Derived.TheVariants.{AreWithin}
use Rattle.vf_refute.specs.Refutations.{HasDerived}
use Rattle.vf_log.specs.Copies.{HaveSameTerms}
use Rattle.vf_log.specs.Derivations.{IsContinued}
use Rattle.vf_explain.specs.Reached as bounds_
use Rattle.vf_refuting.specs.declared.run.Run.{Run}

-- classes and bounds are over the terms of the log, and all that they were given was derived
pub record IsRun (run : Run) : Type 0 where
  pub terms : HaveSameTerms run.classes.nodes run.log.nodes
  pub size : run.bounds.size ≡ length run.classes.nodes
  pub equal : equalities.AreReasons run.log.known run.classes.merged run.equal.items
  pub within : bounds_.AreReasons run.log.known run.bounds.edges run.within.items

-- a run goes on: the question stays, and all that was given and derived is still there
pub record GoesOn (before after : Run) : Type 0 where
  pub is : IsRun after
  pub nodes : after.classes.nodes ≡ before.classes.nodes
  pub log : IsContinued before.log after.log
  pub merged : (a b : ℕ) → WereMerged before.classes.merged a b → WereMerged after.classes.merged a b
  pub edges : (e : Edge) → Contains before.bounds.edges e → Contains after.bounds.edges e

-- steps bound the difference of two terms to be c, one from above and one from below
pub record HaveDerivedBoth (known : List Derived) (x y : ℕ) (c : ℤ) (above below : ℕ) : Type 0 where
  pub up : HasDerived known above (AreWithin x y c)
  pub down : HasDerived known below (AreWithin y x (neg_ℤ c))
