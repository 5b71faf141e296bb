use Rattle.std.proofs.Common.{◌≡◌, Some, None, [], ◌∷◌, append_assoc, arith}
use Rattle.std.proofs.lemmas.List.{append-nil}
use Rattle.std.proofs.lemmas.Result.{err_from_is_err_and}
use Rattle.vf_lexer.specs.Tokens.{End, Piece_is, next_at}
use Rattle.vf_lexer.proofs.Runs.{ended, passed, later}
use Rattle.vf_lexer.proofs.Steps.{at_end}
use Rattle.vf_lexer.proofs.Cutting.{gives_cut}
use Rattle.vf_lexer.proofs.Faults.{stops_here, fault_there, none_there}
use Rattle.vf_lexer.proofs.lexer.lex.Goals as goal

pub returns-in_err-token-clause-fault : goal.returns-in_err-token-clause-fault
returns-in_err-token-clause-fault c =
    let p = err_from_is_err_and c.from_residual.result c.from_residual.ensures.1 in
    rw (p.1, p.2) (fault_there c.in_err-token.field-0.0 _ _ _ (stops_here c.in_err-token.field-0.0 c.loop-cursor.cursor _ c.in_err-token.ensures.fault c.loop-cursor.invariant.stops))

pub returns-in_err-token-clause-none : goal.returns-in_err-token-clause-none
returns-in_err-token-clause-none c =
    let p = err_from_is_err_and c.from_residual.result c.from_residual.ensures.1 in
    rw (p.1, p.2) (none_there c.in_err-token.field-0.0 _ _ _ (stops_here c.in_err-token.field-0.0 c.loop-cursor.cursor _ c.in_err-token.ensures.fault c.loop-cursor.invariant.stops))

pub loop-cursor-preserved-in-Continue-branch-3 : goal.loop-cursor-preserved-in-Continue-branch-3
loop-cursor-preserved-in-Continue-branch-3 c =
    let step : next_at c.loop-cursor.cursor ≡ Piece_is (Some c.in-Some.token) c.next.new.self = rw c.in-Some.is at c.in_ok-token.ensures.gives in
    record {
      tokens = λ more g. rw (c.in_ok-push-in-Some.ensures.pushed, append_assoc) (c.loop-cursor.invariant.tokens (c.in-Some.token ∷ more) (passed {x = Some c.in-Some.token} step g));
      stops = λ p h. c.loop-cursor.invariant.stops p (later step h);
    }

pub loop-cursor-preserved : goal.loop-cursor-preserved
loop-cursor-preserved c =
    let step : next_at c.loop-cursor.cursor ≡ Piece_is None c.next.new.self = rw c.in-None.is at c.in_ok-token.ensures.gives in
    record {
      tokens = λ more g. c.loop-cursor.invariant.tokens more (passed {x = None} step g);
      stops = λ p h. c.loop-cursor.invariant.stops p (later step h);
    }

pub returns-clause-tokens : goal.returns-clause-tokens
returns-clause-tokens c =
    let at : next_at c.loop-cursor.cursor ≡ End = at_end c.loop-cursor.cursor (omega arith) in
    gives_cut c.args.ghost_header c.args.file c.args.bytes.now _ (rw append-nil at (c.loop-cursor.invariant.tokens [] (ended at)))
