use Rattle.std.proofs.Common.{rules, ◌≡◌, ◌+◌, ◌++◌, [], ap, sym, ◌∙◌, arith}
use Rattle.std.proofs.lemmas.List.{append-nil}
use Rattle.vf_flow.specs.Named.{identities}
use Rattle.vf_plain.proofs.Naming.{names_end, names_more}
use Rattle.vf_plain.proofs.names.names_from.Goals as goal

pub loop-at-preserved : goal.loop-at-preserved
loop-at-preserved c =
    let is : c.in-Ok.number ≡ c.args.first + c.loop-at.at = search rules in
    let more = names_more c.args.first c.loop-at.at c.args.count c.loop-at.names (record { number = c.in-Ok.number }) c.loop-at-test.true is c.loop-at.invariant in
    λ before texts behind begins many. ap (identities (before ++ texts ++ behind)) c.in_ok-push.ensures.pushed ∙ more before texts behind begins many

pub returns-clause-last : goal.returns-clause-last
returns-clause-last c = λ before texts begins many.
    ap (λ l. identities l c.loop-at.names) (sym (append-nil (before ++ texts)))
    ∙ names_end c.args.first c.loop-at.at c.args.count c.loop-at.names (omega arith) c.loop-at.invariant before texts [] begins many
