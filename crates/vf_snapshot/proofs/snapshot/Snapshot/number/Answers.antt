use Rattle.std.proofs.Common.{◌≡◌, ℕ, List, ◌<◌, None, Some, arith, ap, ◌∙◌, slice_get, Fits}
use Rattle.vf_names.specs.Names.{number_of}
use Rattle.vf_snapshot.specs.declared.held.Held.{Held}
use Rattle.vf_snapshot.specs.Holdings.{number_in}
use Rattle.vf_snapshot.proofs.Knowing.{number_by_names, numbered}
use Rattle.vf_snapshot.proofs.snapshot.Snapshot.number.Goals as goal

-- the entry with the number
there_at : (c : goal.In-Some) → (c.in-Some.number < 4294967296) × ((held : Held) × (slice_get c.args.self.now c.in-Some.number ≡ Some (c.args.path.now, held)))
there_at c =
    let at : slice_get c.self.inside.names c.in-Some.number ≡ Some c.args.path.now = c.in-Some.ensures.there ∙ ap Some c.as_bytes.ensures.value in
    numbered c.self.inside.names c.self.inside.entries.items c.args.self.now c.args.path.now c.in-Some.number c.self.invariant c.self.view_is at

pub overflow_cast-result : goal.overflow_cast-result
overflow_cast-result c = let small : c.in-Some.number < 4294967296 = (there_at c).0 in omega arith

pub returns-in-Some-clause-number : goal.returns-in-Some-clause-number
returns-in-Some-clause-number c = c.in-Some.ensures.number ∙ ap (λ p. number_of c.self.inside.names p) c.as_bytes.ensures.value ∙ number_by_names c.self.inside.names c.self.inside.entries.items c.args.self.now c.args.path.now c.self.invariant c.self.view_is

pub returns-in-Some-clause-there : goal.returns-in-Some-clause-there
returns-in-Some-clause-there c = (there_at c).1

pub returns-in-None-clause-number : goal.returns-in-None-clause-number
returns-in-None-clause-number c = c.in-None.ensures.number ∙ ap (λ p. number_of c.self.inside.names p) c.as_bytes.ensures.value ∙ number_by_names c.self.inside.names c.self.inside.entries.items c.args.self.now c.args.path.now c.self.invariant c.self.view_is
