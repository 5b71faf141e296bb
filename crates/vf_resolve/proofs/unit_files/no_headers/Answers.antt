use Rattle.std.proofs.Common.{rules, ◌≡◌, ◌<◌, ◌++◌, ◌∷◌, [], List, ℕ, length, ap, ◌∙◌}
use Rattle.vf_resolve.proofs.Numbered.{empty_more}
use Rattle.vf_resolve.proofs.unit_files.no_headers.Goals as goal

pub loop-number-preserved : goal.loop-number-preserved
loop-number-preserved c =
    let there : c.loop-number._number < length c.args.snapshot.now = search rules in
    let after : c.push.new.self ≡ c.loop-number.headers ++ [] ∷ [] = c.in_ok-push.ensures.pushed ∙ ap (λ (x : List ℕ). c.loop-number.headers ++ x ∷ []) c.new.ensures in
    empty_more c.loop-number.headers c.push.new.self _ c.args.snapshot.now c.loop-number._number there after c.loop-number.invariant
