use Rattle.std.proofs.Common.{◌≡◌, true, false, get_or, sym, subst, ◌∙◌}
use Rattle.std.specs.Prelude.{Contains}
use Rattle.std.proofs.lemmas.List.{get_or_read, append-nil}
use Rattle.std.proofs.lemmas.List.Elements.{Contains-append_left, Contains-append_right}
use Rattle.vf_cycles.proofs.Lists.{from_reverse}
use Rattle.vf_cycles.proofs.walk.Walk.visit_unseen.Goals as goal

pub visit-requires-clause-unseen : goal.visit-requires-clause-unseen
visit-requires-clause-unseen c = λ m.
    let read : c.index.result.now ≡ get_or c.args.self.now.seen.items c.args.root false = get_or_read c.args.self.now.seen.items c.args.root c.index.result.now c.requires.within c.index.ensures false in
    let no : c.index.result.now ≡ false = c.if-not-index.true in
    let both : true ≡ false = sym m ∙ sym read ∙ no in
    absurd cc

pub returns-in_ok-visit-clause-kept : goal.returns-in_ok-visit-clause-kept
returns-in_ok-visit-clause-kept c = λ u h.
    let r = c.in_ok-visit.ensures.reached in
    subst (λ l. Contains l u) (sym r.parts) (Contains-append_left c.args.self.now.finished.items r.more u h)

pub returns-in_ok-visit-clause-finished : goal.returns-in_ok-visit-clause-finished
returns-in_ok-visit-clause-finished c =
    let r = c.in_ok-visit.ensures.reached in
    subst (λ l. Contains l c.args.root) (sym r.parts) (Contains-append_right c.args.self.now.finished.items r.more c.args.root (subst (λ l. Contains l c.args.root) (append-nil r.more) r.rooted))

pub returns-else-not-index-clause-finished : goal.returns-else-not-index-clause-finished
returns-else-not-index-clause-finished c =
    let read : c.index.result.now ≡ get_or c.args.self.now.seen.items c.args.root false = get_or_read c.args.self.now.seen.items c.args.root c.index.result.now c.requires.within c.index.ensures false in
    from_reverse c.args.self.now.finished.items c.args.root (c.requires.walk.known c.args.root (sym read ∙ c.if-not-index.false))
