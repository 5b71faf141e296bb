use Rattle.std.proofs.Common.{◌≡◌, ◌∙◌, ◌+◌, sym, ap, subst, drop, arith, rules}
use Rattle.vf_normal.specs.Normal.{all_normal}
use Rattle.vf_normal.specs.NormalForms.{AllNormal}
use Rattle.vf_normal.proofs.Reached.{all_reached, over_normal}
use Rattle.vf_formula.specs.Rows.{row}
use Rattle.vf_formula.specs.Heads.{shown_head}
use Rattle.vf_formula.proofs.Calculating.{ok_normal}
use Rattle.vf_formula.specs.Shares.{AllKeepFractions}
use Rattle.vf_formula.proofs.Parts.{ahead, one_more_normal, all_are_normal, kept_at, kept_more}
use Rattle.vf_formula.proofs.term.+normal.Goals as goal

pub Term::normal-normal_over-requires : goal.Term::normal-normal_over-requires
Term::normal-normal_over-requires t c = subst AllNormal (sym c.in_ok-parts.ensures.value) (all_reached (row c.self.inside.parts))

pub TermList::normal-returns-in_err-normal-clause-fraction : goal.TermList::normal-returns-in_err-normal-clause-fraction
TermList::normal-returns-in_err-normal-clause-fraction t c = λ e k.
    let items = c.deref-item-items.result.now in
    let same : items ≡ c.args.self.now = c.deref-item-items.ensures.value ∙ c.self.view_is in
    c.in_err-normal.ensures.fraction (search rules)
    (kept_at items c.loop-item.item-index c.item-item.result (omega arith) c.item-item.is (subst (λ ts. AllKeepFractions (row ts)) (sym same) k))

pub TermList::normal-loop-item-preserved : goal.TermList::normal-loop-item-preserved
TermList::normal-loop-item-preserved t c =
    let items = c.deref-item-items.result.now in
    let i = c.loop-item.item-index in
    record {
      value = subst (λ all. ahead all (all_normal (row (drop (i + 1) items))) ≡ all_normal (row items)) (sym c.in_ok-push.ensures.pushed) (one_more_normal c.loop-item.all items i c.item-item.result c.in_ok-normal.field-0 (omega arith) c.item-item.is c.in_ok-normal.ensures.value c.loop-item.invariant.value);
      kept = λ k. c.loop-item.invariant.kept (kept_more items i c.item-item.result (omega arith) c.item-item.is c.in_ok-normal.ensures.kept k);
    }

pub TermList::normal-returns-clause-value : goal.TermList::normal-returns-clause-value
TermList::normal-returns-clause-value t c =
    let items = c.deref-item-items.result.now in
    let same : items ≡ c.args.self.now = c.deref-item-items.ensures.value ∙ c.self.view_is in
    all_are_normal c.loop-item.all items c.loop-item.item-index (omega arith) c.loop-item.invariant.value ∙ ap (λ ts. all_normal (row ts)) same

pub Term::normal-returns-clause-normal : goal.Term::normal-returns-clause-normal
Term::normal-returns-clause-normal t c =
    ok_normal c.normal_over.result _ c.normal_over.ensures.value
    (over_normal (shown_head c.in_ok-copy.field-0) (row c.in_ok-parts.parts) (subst AllNormal (sym c.in_ok-parts.ensures.value) (all_reached (row c.self.inside.parts))))
