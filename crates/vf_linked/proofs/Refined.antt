-- What holds under a contract holds under each contract that it refines.
use Rattle.std.proofs.Common.{[], refl, subst, arith}
use Rattle.vf_meaning.specs.Fractions.{whole, IsPositive}
use Rattle.vf_meaning.specs.Assertions.{BodyOf}
use Rattle.vf_meaning.specs.Environments.{MayLeak}
use Rattle.vf_meaning.specs.Parts.{Part, nothing, IsSum}
use Rattle.vf_meaning.proofs.Parts.{sums_turn, nothing_is_neutral}
use Rattle.vf_rules.specs.Laws.{IsAmong}
use Rattle.vf_rules.specs.Accept.{all_of_it, call_store, parameter_symbols}
use Rattle.vf_rules.proofs.LemmaCalls.{lemma_called}
use Rattle.vf_rules.proofs.Produces.{produced, typed_right}
use Rattle.vf_lemmas.specs.Proves.{lemma_beginning}
use Rattle.vf_lemmas.proofs.Beginnings.{begins_mean, beginning_stands}
use Rattle.vf_lemmas.proofs.Bodies.{with_leaked}
use Rattle.vf_lemmas.proofs.Ends.{end_gives}
use Rattle.vf_safety.proofs.GhostSteps.{reached}
use Rattle.vf_linked.specs.Refined.{Ends, StandsIn, RefinedLemmasHold}

positive_whole : IsPositive whole
positive_whole = omega arith

neutral : (q : Part) → IsSum q nothing q
neutral q = sums_turn nothing q q (nothing_is_neutral q)

pub refined_lemmas_hold : RefinedLemmasHold
refined_lemmas_hold e p own lemma same holds refines w q of_sorts typed required =
    let k = lemma.contract in
    let o = produced e p k.sorts all_of_it whole required.0 [] w k.requires_this (call_store (parameter_symbols k.parameters)) (lemma_beginning k) (IsAmong refines.outs) refines.required
    w w q nothing q (beginning_stands e w k of_sorts) (begins_mean e w k.parameters) of_sorts.0 refl positive_whole required.1 typed (neutral q) in
    let stands = o.stands in
    let g = reached e p (StandsIn e p own k) [] w q typed (refines.kept o.store o.state o.holds) o.under (record { path = stands.path; locals_mean = stands.locals_mean; names_mean = o.means; chunks_mean = stands.chunks_mean }) in
    let call = (g.holds).called in
    let c = lemma_called e p own call.arguments (g.holds).outs g.state holds call.inhabited call.of_sorts call.thread call.consumed [] w g.under q g.stands typed in
    let l = reached e p (Ends e p k) [] w c.left (typed_right e p c.leaked c.left q c.sums typed) ((g.holds).ended c.store c.state c.holds) c.under c.stands in
    with_leaked e lemma w c.left c.leaked q (sums_turn c.leaked c.left q c.sums) (λ h. c.unleaked (λ leaks. h (subst (λ z. MayLeak e (BodyOf z)) same leaks)))
    (end_gives e p lemma l.state l.holds l.under w c.left l.stands of_sorts.0)
