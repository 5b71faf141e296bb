use Rattle.std.proofs.Common.{rules, subst}
use Rattle.vf_link.specs.declared.link.Linked.{Linked}
use Rattle.vf_link.specs.declared.refusal.LinkRefusal.TheVariants as refusals
use Rattle.vf_link.specs.Statements.{all_lines}
use Rattle.vf_link.specs.Least.{HasNone, IsLeast, IsLeastOf}
use Rattle.vf_link.specs.Linking.{IsProvidedTwice, HasTwoBodies, HasTwoDigests, IsUnmet, HasOtherSignature, CallsItself, IsCallOrder}
use Rattle.vf_link.specs.Marks.{IsCalls}
use Rattle.vf_link.proofs.Refusing.{refused_no_link, if_never}
use Rattle.vf_link.proofs.link.link_manifests.Goals as goal

pub returns-in_err-entry-clause-never : goal.returns-in_err-entry-clause-never
returns-in_err-entry-clause-never c = if_never {T = Linked} (all_lines c.args.manifests.now) c.from_residual.result (search rules)

-- an identity is provided twice
pub returns-in-Some-clause-refused : goal.returns-in-Some-clause-refused
returns-in-Some-clause-refused c =
    let ls = all_lines c.args.manifests.now in
    let least : IsLeast (IsProvidedTwice ls) c.in-Some.identity = subst (IsLeastOf (IsProvidedTwice ls)) c.in-Some.is (c.in_ok-identity.ensures ls c.in_ok-requirements.ensures) in
    (c.in_ok-entry.ensures.one, least)

pub returns-in-Some-clause-never : goal.returns-in-Some-clause-never
returns-in-Some-clause-never c = refused_no_link (all_lines c.args.manifests.now) (refusals.Duplicate c.in-Some.identity) (returns-in-Some-clause-refused c)

-- a body stands in two files
pub returns-in-Some-2-clause-refused : goal.returns-in-Some-2-clause-refused
returns-in-Some-2-clause-refused c =
    let ls = all_lines c.args.manifests.now in
    let once : HasNone (IsProvidedTwice ls) = subst (IsLeastOf (IsProvidedTwice ls)) c.in_default.is (c.in_ok-identity.ensures ls c.in_ok-requirements.ensures) in
    let least : IsLeast (HasTwoBodies ls) c.in-Some-2.identity = subst (IsLeastOf (HasTwoBodies ls)) c.in-Some-2.is c.in_ok-identity-2.ensures in
    ((c.in_ok-entry.ensures.one, once), least)

pub returns-in-Some-2-clause-never : goal.returns-in-Some-2-clause-never
returns-in-Some-2-clause-never c = refused_no_link (all_lines c.args.manifests.now) (refusals.TwoBodies c.in-Some-2.identity) (returns-in-Some-2-clause-refused c)

-- a header has two digests
pub returns-in-Some-3-clause-refused : goal.returns-in-Some-3-clause-refused
returns-in-Some-3-clause-refused c =
    let ls = all_lines c.args.manifests.now in
    let once : HasNone (IsProvidedTwice ls) = subst (IsLeastOf (IsProvidedTwice ls)) c.in_default.is (c.in_ok-identity.ensures ls c.in_ok-requirements.ensures) in
    let bodies : HasNone (HasTwoBodies ls) = subst (IsLeastOf (HasTwoBodies ls)) c.in_default-2.is c.in_ok-identity-2.ensures in
    let least : IsLeast (HasTwoDigests ls) c.in-Some-3.path = subst (IsLeastOf (HasTwoDigests ls)) c.in-Some-3.is c.in_ok-path.ensures in
    (((c.in_ok-entry.ensures.one, once), bodies), least)

pub returns-in-Some-3-clause-never : goal.returns-in-Some-3-clause-never
returns-in-Some-3-clause-never c = refused_no_link (all_lines c.args.manifests.now) (refusals.HeaderDiffers c.in-Some-3.path) (returns-in-Some-3-clause-refused c)

-- an identity is not provided
pub returns-in-Some-4-clause-refused : goal.returns-in-Some-4-clause-refused
returns-in-Some-4-clause-refused c =
    let ls = all_lines c.args.manifests.now in
    let once : HasNone (IsProvidedTwice ls) = subst (IsLeastOf (IsProvidedTwice ls)) c.in_default.is (c.in_ok-identity.ensures ls c.in_ok-requirements.ensures) in
    let bodies : HasNone (HasTwoBodies ls) = subst (IsLeastOf (HasTwoBodies ls)) c.in_default-2.is c.in_ok-identity-2.ensures in
    let digests : HasNone (HasTwoDigests ls) = subst (IsLeastOf (HasTwoDigests ls)) c.in_default-3.is c.in_ok-path.ensures in
    let least : IsLeast (IsUnmet ls) c.in-Some-4.identity = subst (IsLeastOf (IsUnmet ls)) c.in-Some-4.is (c.in_ok-identity-3.ensures ls c.in_ok-requirements.ensures) in
    ((((c.in_ok-entry.ensures.one, once), bodies), digests), least)

pub returns-in-Some-4-clause-never : goal.returns-in-Some-4-clause-never
returns-in-Some-4-clause-never c = refused_no_link (all_lines c.args.manifests.now) (refusals.Unmet c.in-Some-4.identity) (returns-in-Some-4-clause-refused c)

-- a signature does not agree
pub returns-in-Some-5-clause-refused : goal.returns-in-Some-5-clause-refused
returns-in-Some-5-clause-refused c =
    let ls = all_lines c.args.manifests.now in
    let once : HasNone (IsProvidedTwice ls) = subst (IsLeastOf (IsProvidedTwice ls)) c.in_default.is (c.in_ok-identity.ensures ls c.in_ok-requirements.ensures) in
    let bodies : HasNone (HasTwoBodies ls) = subst (IsLeastOf (HasTwoBodies ls)) c.in_default-2.is c.in_ok-identity-2.ensures in
    let digests : HasNone (HasTwoDigests ls) = subst (IsLeastOf (HasTwoDigests ls)) c.in_default-3.is c.in_ok-path.ensures in
    let met : HasNone (IsUnmet ls) = subst (IsLeastOf (IsUnmet ls)) c.in_default-4.is (c.in_ok-identity-3.ensures ls c.in_ok-requirements.ensures) in
    let least : IsLeast (HasOtherSignature ls) c.in-Some-5.identity = subst (IsLeastOf (HasOtherSignature ls)) c.in-Some-5.is (c.in_ok-identity-4.ensures ls c.in_ok-requirements.ensures once) in
    (((((c.in_ok-entry.ensures.one, once), bodies), digests), met), least)

pub returns-in-Some-5-clause-never : goal.returns-in-Some-5-clause-never
returns-in-Some-5-clause-never c = refused_no_link (all_lines c.args.manifests.now) (refusals.Signature c.in-Some-5.identity) (returns-in-Some-5-clause-refused c)

-- all clauses hold up to the last one
pub returns-in-Ordered-clause-links : goal.returns-in-Ordered-clause-links
returns-in-Ordered-clause-links c =
    let ls = all_lines c.args.manifests.now in
    let once : HasNone (IsProvidedTwice ls) = subst (IsLeastOf (IsProvidedTwice ls)) c.in_default.is (c.in_ok-identity.ensures ls c.in_ok-requirements.ensures) in
    let bodies : HasNone (HasTwoBodies ls) = subst (IsLeastOf (HasTwoBodies ls)) c.in_default-2.is c.in_ok-identity-2.ensures in
    let digests : HasNone (HasTwoDigests ls) = subst (IsLeastOf (HasTwoDigests ls)) c.in_default-3.is c.in_ok-path.ensures in
    let met : HasNone (IsUnmet ls) = subst (IsLeastOf (IsUnmet ls)) c.in_default-4.is (c.in_ok-identity-3.ensures ls c.in_ok-requirements.ensures) in
    let agreed : HasNone (HasOtherSignature ls) = subst (IsLeastOf (HasOtherSignature ls)) c.in_default-5.is (c.in_ok-identity-4.ensures ls c.in_ok-requirements.ensures once) in
    let calls : HasNone (CallsItself ls) × IsCallOrder ls c.in-Ordered.call_order = subst (IsCalls ls) c.in-Ordered.is c.in_ok-call_order.ensures in
    ((((((c.in_ok-entry.ensures.one, once), bodies), digests), met), agreed), calls.0)

-- a lemma calls itself
pub returns-in-Cyclic-clause-refused : goal.returns-in-Cyclic-clause-refused
returns-in-Cyclic-clause-refused c =
    let ls = all_lines c.args.manifests.now in
    let once : HasNone (IsProvidedTwice ls) = subst (IsLeastOf (IsProvidedTwice ls)) c.in_default.is (c.in_ok-identity.ensures ls c.in_ok-requirements.ensures) in
    let bodies : HasNone (HasTwoBodies ls) = subst (IsLeastOf (HasTwoBodies ls)) c.in_default-2.is c.in_ok-identity-2.ensures in
    let digests : HasNone (HasTwoDigests ls) = subst (IsLeastOf (HasTwoDigests ls)) c.in_default-3.is c.in_ok-path.ensures in
    let met : HasNone (IsUnmet ls) = subst (IsLeastOf (IsUnmet ls)) c.in_default-4.is (c.in_ok-identity-3.ensures ls c.in_ok-requirements.ensures) in
    let agreed : HasNone (HasOtherSignature ls) = subst (IsLeastOf (HasOtherSignature ls)) c.in_default-5.is (c.in_ok-identity-4.ensures ls c.in_ok-requirements.ensures once) in
    let least : IsLeast (CallsItself ls) c.in-Cyclic.identity = subst (IsCalls ls) c.in-Cyclic.is c.in_ok-call_order.ensures in
    ((((((c.in_ok-entry.ensures.one, once), bodies), digests), met), agreed), least)

pub returns-in-Cyclic-clause-never : goal.returns-in-Cyclic-clause-never
returns-in-Cyclic-clause-never c = refused_no_link (all_lines c.args.manifests.now) (refusals.LemmaCycle c.in-Cyclic.identity) (returns-in-Cyclic-clause-refused c)
