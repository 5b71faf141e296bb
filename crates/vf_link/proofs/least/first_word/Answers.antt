use Rattle.std.proofs.Common.{◌≡◌, ◌≢◌, ℕ, ◌<◌, true, false, not, length, get_or, take, sym, ap, arith}
use Rattle.std.specs.Prelude.{◌==◌}
use Rattle.std.proofs.lemmas.Bool.Decides.{nat_tests}
use Rattle.std.proofs.lemmas.List.Sums.{prefix_len_is}
use Rattle.vf_link.proofs.least.first_word.Goals as goal
use Rattle.vf_link.proofs.least.first_word.Goals.{then-loop-end-test+else-text-end-ne32, else-loop-end-test}

no_blank : (b : ℕ) → b ≢ 32 → not (b == 32) ≡ true
no_blank b h = grind (arith, nat_tests)

blank : (b : ℕ) → b ≡ 32 → not (b == 32) ≡ false
blank b h = ap (λ n. not (n == 32)) h

pub returns : goal.returns
returns c =
    let text = c.args.text.now in
    let end = c.loop-end.end in
    let stops : end < length text → not (get_or text end 0 == 32) ≡ false = λ within. elim c.loop-end-test.branch [
      | then-loop-end-test+else-text-end-ne32 w ↦ blank (get_or text end 0) w.if-text-end-ne32.false
      | else-loop-end-test w ↦ absurd (let past = w.loop-end-test.false in let no : ⊥ = omega arith in no)
    ] in
    ap (λ n. take n text) (sym (prefix_len_is (λ b. not (b == 32)) text end 0 c.loop-end.invariant.within (λ k before. no_blank (get_or text k 0) (c.loop-end.invariant.before k before)) stops))
