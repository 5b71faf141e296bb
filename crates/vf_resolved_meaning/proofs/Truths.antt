-- Truth values that are told apart, and their terms.
use Rattle.std.proofs.Common.{refl}
use Rattle.vf_core.specs.Shown.{comparison_of}
use Rattle.vf_meaning.specs.Ghost.{Compare, Not, And, Or, Choose}
use Rattle.vf_resolved.specs.TruthTree.{value, comparison, not_, and_, or_, choice}
use Rattle.vf_resolved_meaning.specs.Laws.{TruthsMeanTheirTerms}

pub truths_mean_their_terms : TruthsMeanTheirTerms
truths_mean_their_terms (value t) = refl
truths_mean_their_terms (comparison c both x y) = λ i. Compare (comparison_of c) (truths_mean_their_terms x i) (truths_mean_their_terms y i)
truths_mean_their_terms (not_ x) = λ i. Not (truths_mean_their_terms x i)
truths_mean_their_terms (and_ x y) = λ i. And (truths_mean_their_terms x i) (truths_mean_their_terms y i)
truths_mean_their_terms (or_ x y) = λ i. Or (truths_mean_their_terms x i) (truths_mean_their_terms y i)
truths_mean_their_terms (choice c x y) = λ i. Choose (truths_mean_their_terms c i) (truths_mean_their_terms x i) (truths_mean_their_terms y i)
