use Rattle.std.proofs.Common.{◌≡◌, ◌-◌, suc, subst, arith}
use Rattle.vf_syntax.specs.declared.operator.Level.{Level}
use Rattle.vf_cursor.specs.Parsing.{Gives}
use Rattle.vf_parse_term.specs.Terms.{level_above, chain_at, rest_at, joined_at, operand_at}
use Rattle.vf_parse_term.proofs.Heads.{rest_more}
use Rattle.vf_parse_term.proofs.terms.+term.Goals as goal

pub rest-returns : goal.rest-returns
rest-returns t c =
    let k : c.args.levels ≡ suc (c.args.levels - 1) = omega arith in
    let level : c.level_above-level.result ≡ level_above (c.args.levels - 1) = c.level_above-level.ensures in
    let whole = rest_more (operand_at c.args.depth) c.args.levels (c.args.levels - 1) k c.args.place c.args.first c.in_ok-operand.operand c.args.cursor.now.left.now c.rest.new.cursor.left.now c.in_ok-operand.ensures in
    let made = subst (λ (l : Level). Gives c.chain.result c.chain.new.cursor.left.now (chain_at l (joined_at (operand_at c.args.depth) (c.args.levels - 1)) c.args.place c.in_ok-operand.operand c.rest.new.cursor.left.now)) level c.chain.ensures in
    rw whole made
