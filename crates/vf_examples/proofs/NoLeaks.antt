-- In two of the programs nothing is leaked.
use Rattle.std.proofs.Common.{refl}
use Rattle.vf_meaning.proofs.Linking.{never_leaks}
use Rattle.vf_safety.proofs.LeakLaws.{nothing_is_leaked}
use Rattle.vf_examples.specs.NoLeaks.{ExamplesLeakNothing}
use Rattle.vf_examples.proofs.Boxed.{box_is_accepted}
use Rattle.vf_examples.proofs.Counted.{counting_is_accepted}

pub examples_leak_nothing : ExamplesLeakNothing
examples_leak_nothing = record {
  box = nothing_is_leaked _ _ box_is_accepted (λ number f n is leaks. never_leaks _ (λ text. refl) leaks);
  counting = nothing_is_leaked _ _ counting_is_accepted (λ number f n is leaks. never_leaks _ (λ text. refl) leaks);
}
