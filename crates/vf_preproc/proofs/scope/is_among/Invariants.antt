-- None of the words so far is the name.
use Rattle.std.proofs.Common.{◌≡◌, false, take}
use Rattle.std.specs.List.{list_any}
use Rattle.std.specs.Str.{bytes_eq}
use Rattle.vf_preproc.proofs.scope.is_among.Given as goal

abbrev pub invariant-loop-word : goal.invariant-loop-word
invariant-loop-word l = list_any (λ word. bytes_eq l.name word.now) (take l.word-index l.words) ≡ false
