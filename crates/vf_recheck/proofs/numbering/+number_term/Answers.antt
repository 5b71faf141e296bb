use Rattle.std.proofs.Common.{rules, ◌≡◌, ◌≤◌, ◌<◌, ◌++◌, ◌∷◌, [], length, sym, ap, ◌∙◌, arith}
use Rattle.vf_closure.specs.Terms.{term}
use Rattle.vf_formula.specs.Heads.{shown_head}
use Rattle.vf_formula.specs.Rows.{row, size_of}
use Rattle.vf_question.specs.Numbered.{place, with_term}
use Rattle.vf_question.proofs.Gathering.{part_smaller}
use Rattle.vf_question.proofs.Has.{place_has}
use Rattle.vf_interning.proofs.Told.{term_there}
use Rattle.vf_interning.proofs.Parts.{rest_more, there_more, numbers_more, kept_more, all_there}
use Rattle.vf_recheck.proofs.numbering.+number_term.Goals as goal

pub returns-then-known-len-clause-terms : goal.returns-then-known-len-clause-terms
returns-then-known-len-clause-terms t c =
    let ts = c.args.terms.now.items in
    let l : place c.args.term.now ts < length ts = search rules in
    sym (term_there ts c.requires.table.closed c.args.term.now (place_has c.args.term.now ts l))

pub number_term-requires : goal.number_term-requires
number_term-requires t c =
    let items = c.as_slice-part-items.result.now in
    let h = shown_head c.term.inside.head in
    let e = part_smaller h items c.loop-part.part-index c.part-item.result c.loop-part-test.true c.part-item.is in
    let w : term h (row items) ≡ c.args.term.now = ap (λ ps. term h (row ps)) c.as_slice-part-items.ensures ∙ c.term.view_is in
    let d : size_of c.args.term.now ≡ t = c.decreases in
    let r : size_of c.part-item.result < t = omega (arith, ap size_of w) in
    (r, c.loop-part.invariant.table)

pub loop-part-preserved : goal.loop-part-preserved
loop-part-preserved t c =
    let items = c.as_slice-part-items.result.now in
    let i = c.loop-part.part-index in
    let p = c.part-item.result in
    let ts = c.loop-part.terms.items in
    let now = c.number_term.new.terms.items in
    let more : now ≡ with_term p ts = search rules in
    let pushed : c.push.new.self.items ≡ c.loop-part.parts.items ++ c.in_ok-number.number ∷ [] = search rules in
    record {
      table = c.in_ok-number.ensures.table;
      rest = rest_more items i p c.loop-part-test.true c.part-item.is ts now more _ c.loop-part.invariant.rest;
      there = there_more items i p c.loop-part-test.true c.part-item.is ts now more c.loop-part.invariant.there;
      numbers = pushed ∙ numbers_more items i p c.loop-part-test.true c.part-item.is ts now more c.loop-part.parts.items c.in_ok-number.number c.loop-part.invariant.numbers c.loop-part.invariant.there c.number_term.ensures.kept c.in_ok-number.ensures.number;
      kept = kept_more c.args.terms.now.items ts now c.loop-part.invariant.kept c.number_term.ensures.kept;
    }

pub add_one-requires-clause-there : goal.add_one-requires-clause-there
add_one-requires-clause-there t c =
    let items = c.as_slice-part-items.result.now in
    let h = shown_head c.term.inside.head in
    let w : term h (row items) ≡ c.args.term.now = ap (λ ps. term h (row ps)) c.as_slice-part-items.ensures ∙ c.term.view_is in
    let l : length items ≤ c.loop-part.part-index = search rules in
    all_there items c.loop-part.terms.items c.loop-part.part-index h c.args.term.now l c.loop-part.invariant.there w
