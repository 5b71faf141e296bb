use Rattle.std.proofs.Common.{◌-◌, List, sym, subst, arith}
use Rattle.std.specs.Prelude.{IfOk}
use Rattle.vf_formula.specs.Literals.{shown_literal}
use Rattle.vf_definitions.specs.declared.fixpoint.Fixpoint.{Fixpoint}
use Rattle.vf_definitions.specs.Unfolded.{unfoldings_of}
use Rattle.vf_asking.specs.Journal.{HasNode, path_to, path_at}
use Rattle.vf_prover.specs.Along.{StandBy}
use Rattle.vf_prover.specs.Explained.{IsExplained}
use Rattle.vf_prover.proofs.Answering.{last_is}
use Rattle.vf_prover.proofs.deciding.explain.Goals as goal

pub explain_from-requires-clause-there : goal.explain_from-requires-clause-there
unfolding HasNode
explain_from-requires-clause-there c = c.requires.there

pub explain_from-requires-clause-standing : goal.explain_from-requires-clause-standing
explain_from-requires-clause-standing c =
    let j = c.args.journal.now in
    let last = last_is j.units c.as_slice.result.now (c.len.result - 1) c.index-as_slice-len.result c.as_slice.ensures (omega (arith, c.len.ensures)) c.requires.begun c.index-as_slice-len.is in
    subst (λ (d : List Fixpoint). StandBy (unfoldings_of d) j.trail.facts c.args.paths.now.items c.args.nodes.now.items) (sym last) c.requires.standing

pub returns-clause-standing : goal.returns-clause-standing
returns-clause-standing c =
    let j = c.args.journal.now in
    let last = last_is j.units c.as_slice.result.now (c.len.result - 1) c.index-as_slice-len.result c.as_slice.ensures (omega (arith, c.len.ensures)) c.requires.begun c.index-as_slice-len.is in
    subst (λ (d : List Fixpoint). StandBy (unfoldings_of d) j.trail.facts c.explain_from.new.paths.items c.explain_from.new.nodes.items) last c.explain_from.ensures.standing

pub returns-clause-explained : goal.returns-clause-explained
unfolding path_at
returns-clause-explained c =
    let j = c.args.journal.now in
    let last = last_is j.units c.as_slice.result.now (c.len.result - 1) c.index-as_slice-len.result c.as_slice.ensures (omega (arith, c.len.ensures)) c.requires.begun c.index-as_slice-len.is in
    subst (λ (d : List Fixpoint). IfOk c.explain_from.result (IsExplained (unfoldings_of d) (path_to j.trail.facts c.args.at.number) (shown_literal c.args.goal.now))) last c.explain_from.ensures.explained
