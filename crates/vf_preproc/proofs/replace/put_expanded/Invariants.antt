-- What was put and what is owed make up what replaces the token.
use Rattle.std.proofs.Common.{◌≡◌, ◌≤◌, ◌++◌, ◌∷◌, [], length}
use Rattle.vf_preproc.specs.Macros.{expansion}
use Rattle.vf_preproc.specs.Kept.{table_of}
use Rattle.vf_preproc.specs.Frames.{done, front}
use Rattle.vf_preproc.proofs.replace.put_expanded.Given as goal

abbrev pub invariant-loop-budget : goal.invariant-loop-budget
invariant-loop-budget l = record {
  same : done (table_of l.macros) l.token l.out l.stack ≡ front (l.fn.out ++ expansion (table_of l.macros) (l.token ∷ []));
  few : length l.out ≤ 200001;
}

abbrev pub decreases-loop-budget : goal.decreases-loop-budget
decreases-loop-budget l = l.budget
