-- The test on identities decides.
use Rattle.std.proofs.Common.{◌≡◌, Bool}
use Rattle.std.specs.Prelude.{◌↔◌, IsTrue}
use Rattle.std.proofs.lemmas.Bool.Decides.{same_from_decides}
use Rattle.vf_tree.specs.Core.{Identity}
use Rattle.vf_model.specs.Values.{same_identity}
use Rattle.vf_model.proofs.Equality.{identities_told}

-- a test that tells whether two identities are one answers as the test on them
pub same_decides : (g h : Identity) (b : Bool) → IsTrue b ↔ (g ≡ h) → b ≡ same_identity g h
same_decides g h b d = same_from_decides b (same_identity g h) (d.0, d.1) (let t = identities_told g h in (t.0, t.1))
