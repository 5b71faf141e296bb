use Rattle.std.proofs.Common.{List, ℕ, ◌++◌, ◌∷◌, [], ◌+◌, ◌∙◌, ap, drop, sym, arith}
use Rattle.vf_plain.specs.Identities.{paths_of, tag_identities}
use Rattle.vf_plain.proofs.Numbers.{tag_end, tag_more, tag_none, tag_nothing}
use Rattle.vf_plain.proofs.names.tag_identities.Goals as goal

pub returns-in_default : goal.returns-in_default
returns-in_default c = tag_none (paths_of c.args.snapshot.now) c.args.scope.now.tags c.args.scope.now.structures c.loop-at.at c.loop-at.texts _ c.in_default.ensures c.loop-at.invariant

pub returns-in_default-get : goal.returns-in_default-get
returns-in_default-get c = tag_nothing (paths_of c.args.snapshot.now) c.args.scope.now.tags c.args.scope.now.structures c.loop-at.at c.loop-at.texts _ c.in_default-get.ensures c.loop-at.invariant

pub loop-at-preserved : goal.loop-at-preserved
loop-at-preserved c =
    let paths = paths_of c.args.snapshot.now in
    let tags = c.args.scope.now.tags in
    let structures = c.args.scope.now.structures in
    let rest = tag_identities paths (drop (c.loop-at.at + 1) tags) (drop (c.loop-at.at + 1) structures) in
    ap (λ l. l ++ rest) c.in_ok-push.ensures.pushed
    ∙ ap (λ (x : List ℕ). (c.loop-at.texts ++ x ∷ []) ++ rest) c.in_ok-identity.ensures
    ∙ tag_more paths tags structures c.loop-at.at c.in-Some.tag.now c.in-Some-get.structure.now c.loop-at.texts _ (sym c.in-Some.ensures) (sym c.in-Some-get.ensures) c.loop-at.invariant

pub returns : goal.returns
returns c =
    let size = c.len-at-end.ensures in
    tag_end (paths_of c.args.snapshot.now) c.args.scope.now.tags c.args.scope.now.structures c.loop-at.at c.loop-at.texts _ (omega (arith, size)) c.loop-at.invariant
