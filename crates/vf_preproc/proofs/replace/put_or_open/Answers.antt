use Rattle.std.proofs.Common.{◌≡◌, ◌-◌, length, reverse, None, Some, sym}
use Rattle.vf_preproc.specs.Kept.{table_of}
use Rattle.vf_preproc.specs.Frames.{opened, numbers_of}
use Rattle.vf_preproc.proofs.Replacing.{put_result, open_result, opened_apart}
use Rattle.vf_preproc.proofs.replace.put_or_open.Goals as goal

pub returns-in-Some-clause-done : goal.returns-in-Some-clause-done
returns-in-Some-clause-done c =
    let told : Some c.in-Some.number ≡ opened (length c.args.macros.now.names - length c.args.stack.now) (table_of c.args.macros.now) (numbers_of (reverse c.args.stack.now)) c.args.token =
    c.in-Some.ensures in
    open_result c.open.result (table_of c.args.macros.now) c.args.out.now c.args.stack.now c.open.new.stack c.args.token c.in-Some.number (sym told) c.open.ensures

pub returns-in-None-clause-done : goal.returns-in-None-clause-done
returns-in-None-clause-done c =
    let told : None ≡ opened (length c.args.macros.now.names - length c.args.stack.now) (table_of c.args.macros.now) (numbers_of (reverse c.args.stack.now)) c.args.token =
    c.in-None.ensures in
    put_result c.push.result (table_of c.args.macros.now) c.args.out.now c.push.new.self c.args.stack.now c.args.token (sym told) c.push.ensures.pushed

pub open-requires : goal.open-requires
open-requires c = opened_apart (length c.args.macros.now.names - length c.args.stack.now) (table_of c.args.macros.now) (numbers_of (reverse c.args.stack.now)) c.args.token c.in-Some.number (sym c.in-Some.ensures)
