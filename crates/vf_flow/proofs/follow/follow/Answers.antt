use Rattle.std.proofs.Common.{◌≡◌, ◌+◌, ◌-◌, ◌≤◌, ◌<◌, length, sym, ap, ◌∙◌, arith}
use Rattle.vf_flow.specs.Leads.{leads, reached}
use Rattle.vf_flow.specs.Shown.{come_to}
use Rattle.vf_flow.proofs.Nodes.{count_all, reached_read, reached_within, way_on}
use Rattle.vf_flow.proofs.follow.follow.Goals as goal

pub loop-turn-preserved : goal.loop-turn-preserved
loop-turn-preserved c =
    let fs = c.args.flows.now in
    let end : c.len-end.result ≡ length fs = c.len-end.ensures in
    let inside : c.loop-turn.at ≤ length fs = c.loop-turn.invariant.within in
    let here : c.number_or-reached.result ≡ reached c.loop-turn.at fs = reached_read fs c.args.all.now c.len-end.result c.loop-turn.at c.number_or-reached.result end c.requires.size c.requires.all inside c.number_or-reached.ensures in
    let most : reached c.loop-turn.at fs ≤ length fs = reached_within c.loop-turn.at fs in
    let less : c.loop-turn.turn < length fs = omega arith in
    let on = way_on fs c.loop-turn.turn c.loop-turn.at c.number_or-reached.result _ c.way_from-way.result less here c.way_from-way.ensures.comes c.loop-turn.invariant.same in
    let back : c.in-Back.before ≤ c.number_or-reached.result = c.way_from-way.ensures.within c.in-Back.before c.in-Back.is in
    record {
      within = omega (arith, back, here, most);
      same = ap (come_to (leads (length fs - (c.loop-turn.turn + 1)) fs)) (sym c.in-Back.is) ∙ on;
    }

pub returns-in-Ends : goal.returns-in-Ends
returns-in-Ends c =
    let fs = c.args.flows.now in
    let end : c.len-end.result ≡ length fs = c.len-end.ensures in
    let here : c.number_or-reached.result ≡ reached c.loop-turn.at fs = reached_read fs c.args.all.now c.len-end.result c.loop-turn.at c.number_or-reached.result end c.requires.size c.requires.all c.loop-turn.invariant.within c.number_or-reached.ensures in
    let less : c.loop-turn.turn < length fs = omega arith in
    ap (come_to (leads (length fs - (c.loop-turn.turn + 1)) fs)) (sym c.in-Ends.is) ∙ way_on fs c.loop-turn.turn c.loop-turn.at c.number_or-reached.result _ c.way_from-way.result less here c.way_from-way.ensures.comes c.loop-turn.invariant.same

pub returns : goal.returns
returns c =
    let fs = c.args.flows.now in
    let end : c.len-end.result ≡ length fs = c.len-end.ensures in
    let left : length fs - c.loop-turn.turn ≡ 0 = omega arith in
    c.at.ensures ∙ c.requires.counts c.len-end.result ∙ sym (count_all c.len-end.result fs (omega (arith, end))) ∙ ap (λ t. leads t fs c.loop-turn.at) (sym left) ∙ c.loop-turn.invariant.same
