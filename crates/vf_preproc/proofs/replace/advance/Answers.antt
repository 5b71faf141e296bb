use Rattle.std.proofs.Common.{◌≡◌, ◌<◌, ◌+◌, Some, None, refl, slice_get, length, arith, sym, ◌∙◌, ap}
use Rattle.std.proofs.lemmas.Option.{slice_get_within}
use Rattle.vf_preproc.specs.Kept.{table_of}
use Rattle.vf_preproc.proofs.Replacing.{ended, taken_result}
use Rattle.vf_preproc.proofs.replace.advance.Goals as goal

pub returns-in_default-clause-done : goal.returns-in_default-clause-done
returns-in_default-clause-done c =
    let none : slice_get c.args.frame.body.value c.args.frame.at ≡ None = ap (λ b. slice_get b c.args.frame.at) (sym c.deref-2.ensures) ∙ sym c.in_default.ensures in
    sym (ended (table_of c.args.macros.now) c.args.name.now c.args.out.now c.args.stack.now c.args.frame none)

pub overflow_add-rest : goal.overflow_add-rest
overflow_add-rest c =
    let at : slice_get c.args.frame.body.value c.args.frame.at ≡ Some c.in-Some.token.now = ap (λ b. slice_get b c.args.frame.at) (sym c.deref-2.ensures) ∙ sym c.in-Some.ensures in
    let within : c.args.frame.at < length c.args.frame.body.value = slice_get_within _ _ _ at in
    let size : c.len-size.result ≡ length c.args.frame.body.value = c.len-size.ensures ∙ ap length c.deref.ensures in
    omega arith

pub returns-clause-done : goal.returns-clause-done
returns-clause-done c =
    let at : slice_get c.args.frame.body.value c.args.frame.at ≡ Some c.in-Some.token.now = ap (λ b. slice_get b c.args.frame.at) (sym c.deref-2.ensures) ∙ sym c.in-Some.ensures in
    taken_result c.put_or_open.result (table_of c.args.macros.now) c.args.name.now c.args.out.now c.put_or_open.new.out c.args.stack.now c.push.new.self c.put_or_open.new.stack c.args.frame (record { number = c.args.frame.number; body = c.args.frame.body; at = c.args.frame.at + 1 }) c.in-Some.token.now c.in_ok-token.token
    at refl refl refl c.in_ok-token.ensures c.in_ok-push.ensures c.put_or_open.ensures.done
