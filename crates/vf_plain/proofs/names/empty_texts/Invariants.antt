use Rattle.std.proofs.Common.{◌≡◌, []}
use Rattle.vf_plain.specs.declared.names.Named.TheVariants as kinds
use Rattle.vf_plain.specs.Identities.{identities_behind}
use Rattle.vf_plain.proofs.names.empty_texts.Given as goal

-- there is one for each number so far
abbrev pub invariant-loop-number : goal.invariant-loop-number
invariant-loop-number l = l.texts ≡ identities_behind kinds.Function [] [] [] l._number
