-- Schemes whose unknown sorts are among those of which something or nothing is known.
use Rattle.std.specs.Prelude.{ℕ}
use Rattle.vf_sorts.specs.Unknowns.{AreBelow, IsBelow}
use Rattle.vf_sorting.specs.declared.scheme.Scheme.{Scheme}

-- the unknown sorts in what a name may be used at have numbers below this
abbrev pub IsSchemeBelow : ℕ → Scheme → Type 0
IsSchemeBelow n g = AreBelow n g.arguments × IsBelow n g.result
