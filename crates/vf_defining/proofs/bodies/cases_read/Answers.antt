use Rattle.std.proofs.Common.{◌≡◌, ◌+◌, ◌++◌, drop, Some, slice_get, sym, ap, ◌∙◌}
use Rattle.vf_definitions.specs.declared.fixpoint.Case.{Case}
use Rattle.vf_terms.specs.declared.reading.Reading.{Reading}
use Rattle.vf_defining.specs.Bodies.{case_of, cases_of}
use Rattle.vf_defining.specs.Symbols.{without_locals}
use Rattle.vf_defining.proofs.Lists.{case_more}
use Rattle.vf_defining.proofs.bodies.cases_read.Goals as goal

pub loop-at-preserved : goal.loop-at-preserved
loop-at-preserved c =
    let a = c.args in
    let xs = a.cases.now in
    let i = c.loop-at.at in
    let x = c.in-Some.case.now in
    let y : Case = record { constructor = c.in_ok-constructor.constructor; names = c.name_count.result; «result» = c.in_ok-reading.reading.term } in
    let there : slice_get xs i ≡ Some x = sym c.in-Some.ensures in
    let is : y ≡ case_of a.context.now a.unknowns.now a.paths.now a.sort.now a.count c.loop-at.scope c.loop-at.next x =
    λ j. record { constructor = c.in_ok-constructor.ensures j; names = c.name_count.ensures j; «result» = (c.in_ok-reading.ensures.value j).term } in
    record {
      read = ap (λ l. l ++ cases_of a.context.now a.unknowns.now a.paths.now a.sort.now a.count c.case_read.new.scope c.in_ok-reading.reading.next (drop (i + 1) xs)) c.in_ok-push.ensures.pushed
          ∙ case_more a.context.now a.unknowns.now a.paths.now a.sort.now a.count c.loop-at.scope c.case_read.new.scope c.loop-at.next c.loop-at.all xs i x y c.in_ok-reading.reading.next _ there is (ap (λ (r : Reading). r.next) c.in_ok-reading.ensures.value) c.in_ok-reading.ensures.scope c.loop-at.invariant.read;
      alone = ap without_locals c.in_ok-reading.ensures.scope ∙ c.loop-at.invariant.alone;
    }
