-- What is promised of the answer.
use Rattle.vf_parse_c.proofs.Plains.{only, named, syntax, depth}
use Rattle.vf_parse_c.proofs.plain.parse_plain.Goals as goal

pub returns-clause-only : goal.returns-clause-only
returns-clause-only c = λ u s. only c.read.result c.args.unit.now.end c.args.unit.now.tokens (record { unsupported = c.read.ensures.unsupported; read = c.read.ensures.read }) u s

pub returns-clause-named : goal.returns-clause-named
returns-clause-named c = λ p e. named c.read.result c.args.unit.now.end c.args.unit.now.tokens (record { unsupported = c.read.ensures.unsupported; read = c.read.ensures.read }) p e

pub returns-clause-syntax : goal.returns-clause-syntax
returns-clause-syntax c = λ p e. syntax c.read.result c.args.unit.now.end c.args.unit.now.tokens (record { unsupported = c.read.ensures.unsupported; read = c.read.ensures.read }) p e

pub returns-clause-depth : goal.returns-clause-depth
returns-clause-depth c = λ p e. depth c.read.result c.args.unit.now.end c.args.unit.now.tokens (record { unsupported = c.read.ensures.unsupported; read = c.read.ensures.read }) p e
