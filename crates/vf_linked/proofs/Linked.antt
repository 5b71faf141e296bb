-- Programs of accepted and linked units are safe.
use Rattle.vf_meaning.specs.Assertions.{BeforeStep}
use Rattle.vf_meaning.proofs.Linking.{no_leaks_are_linked}
use Rattle.vf_safety.proofs.LeakLaws.{nothing_is_leaked}
use Rattle.vf_safety.proofs.Programs.{accepted_programs_are_safe}
use Rattle.vf_linked.specs.Linked.{LinkedProgramsAreSafe, LinkedProgramsLeakNothing}
use Rattle.vf_linked.proofs.Lemmas.{linked_lemmas_hold}

pub linked_programs_are_safe : LinkedProgramsAreSafe
linked_programs_are_safe units e p h events = accepted_programs_are_safe e p (h.program (linked_lemmas_hold e p h.lemmas h.are_lemmas)) events

pub linked_programs_leak_nothing : LinkedProgramsLeakNothing
linked_programs_leak_nothing units e p h none events =
    nothing_is_leaked e p (h.program (linked_lemmas_hold e p h.lemmas h.are_lemmas)) (λ number f n is leaks. no_leaks_are_linked units e h.linked none (BeforeStep f.identity n) leaks) events
