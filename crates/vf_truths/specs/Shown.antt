-- What the statements of the code stand for.
use Rattle.vf_truths.specs.Truths.{Statement}
use Rattle.vf_truths.specs.declared.bare.Statement as code

-- a statement
abbrev pub statement_of : code.Statement → Statement
statement_of s = record { subject = s.subject.now; is_denied = s.is_denied }
