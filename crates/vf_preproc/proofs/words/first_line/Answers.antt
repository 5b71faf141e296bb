use Rattle.std.proofs.Common.{◌≡◌, ℕ, length, get_or, take, arith, subst}
use Rattle.std.specs.List.{AllByRecursion}
use Rattle.vf_preproc.proofs.Lines.{IsOn, first_line, leaves_at, leaves_end}
use Rattle.vf_preproc.proofs.words.first_line.Goals as goal

pub returns-then-tokens-at-clause-line : goal.returns-then-tokens-at-clause-line
returns-then-tokens-at-clause-line c =
    let line : ℕ = (get_or c.args.tokens.now 0 c.index-tokens-0.result).place.line in
    first_line line c.args.tokens.now c.loop-at.at (omega arith) (omega arith) c.loop-at.invariant
    (leaves_at line c.args.tokens.now c.loop-at.at c.index-tokens-at.result (omega arith) (λ on. c.if-tokens-at.true on))

pub returns-clause-line : goal.returns-clause-line
returns-clause-line c =
    let line : ℕ = (get_or c.args.tokens.now 0 c.index-tokens-0.result).place.line in
    let all : AllByRecursion (IsOn line) (take (length c.args.tokens.now) c.args.tokens.now) =
    let stop : c.loop-at.at ≡ length c.args.tokens.now = omega arith in subst (λ n. AllByRecursion (IsOn line) (take n c.args.tokens.now)) stop c.loop-at.invariant in
    first_line line c.args.tokens.now (length c.args.tokens.now) (omega arith) (omega arith) all (leaves_end line c.args.tokens.now)
