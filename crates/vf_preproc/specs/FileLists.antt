-- How files are kept: a list of their numbers, and the set of these.
use Rattle.std.specs.Prelude.{◌≡◌, ℕ, List}
use Rattle.std.specs.BTreeSet.{BTreeSet, contains}
use Rattle.std.specs.Ordering.{nat_cmp}
use Rattle.vf_preproc.specs.UnitText.{is_among}

-- a set has just these files
pub record AreKnown (set : BTreeSet ℕ) (files : List ℕ) : Type 0 where
  pub same : (f : ℕ) → contains nat_cmp set f ≡ is_among files f
