-- A call of a lemma that holds keeps what a state stands for, but for what is leaked.
use Rattle.std.proofs.Common.{ℕ, zero, suc, ◌<◌, arith}
use Rattle.vf_model.specs.Values.{Values}
use Rattle.vf_model.specs.Values as values
use Rattle.vf_meaning.specs.Valuations.{count, size, sizes, value_at}
use Rattle.vf_rules.specs.Accept.{all_of_it}
use Rattle.vf_rules.proofs.GhostLaws.{asserted}
use Rattle.vf_rules.proofs.LemmaCalls.{lemma_called}
use Rattle.vf_lemmas.specs.Calls.{CallingKeeps, ComponentsAreSmaller, AssertingIsProved}
use Rattle.vf_lemmas.specs.Proves.{Proves, may_drop, may_see, may_split}

pub calling_keeps : CallingKeeps
calling_keeps e prog lemma st outs lemma_holds calls locals names v q stands typed =
    let o = lemma_called e prog lemma calls.arguments outs st lemma_holds calls.inhabited calls.of_sorts calls.thread calls.consumed locals names v q stands typed in
    record { leaked = o.leaked; left = o.left; sums = o.sums; unleaked = o.unleaked; stands = record { under = o.under; store = o.store; state = o.state; among = o.holds; stands = o.stands } }

-- a value in a row is at most as great as all together
in_sizes : (ws : Values) (k : ℕ) → k < count ws → size (value_at ws k) < suc (sizes ws)
in_sizes values.none k l = absurd (none_below k l)
  where
    none_below : (k : ℕ) → k < 0 → ⊥
    none_below k l = omega (arith, l)
in_sizes (values.more w ws) zero l = omega arith
in_sizes (values.more w ws) (suc k) l = let h = in_sizes ws k (omega (arith, l)) in omega (arith, h)

pub components_are_smaller : ComponentsAreSmaller
components_are_smaller c ws k l = in_sizes ws k l

pub asserting_is_proved : AssertingIsProved
asserting_is_proved e p lemmas own place asides st sorts a s outs plain consume go =
    asserted e p sorts all_of_it (λ z. Proves e p lemmas own place asides z) (λ z fact shown h. may_see fact shown h) (λ z t left right. may_split t left right) (λ z never. may_drop never) st.chunks a s st _ plain
    (λ v locals names part m. (part, m)) consume (λ r su left among. go r su among)
