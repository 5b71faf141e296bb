use Rattle.std.proofs.Common.{◌≡◌, Some, Err, sym, ap, subst, ◌∙◌}
use Rattle.vf_snapshot.specs.declared.held.Held.TheVariants as known
use Rattle.vf_preproc.specs.Targets.{is_ghost_path}
use Rattle.vf_expand.specs.Wholes.{Cut, NamedGives, named}
use Rattle.vf_expand.proofs.Loading.{cut_told, cut_short, cut_there, cut_read, held_bytes, fault_told, stands_missing, read_fault_named, fault_in}
use Rattle.vf_expand.proofs.sources.load.Goals as goal

pub returns-in_ok-bytes-in-Ok-clause-exact : goal.returns-in_ok-bytes-in-Ok-clause-exact
returns-in_ok-bytes-in-Ok-clause-exact g c = λ library tells.
    let there = c.in-Ok.ensures.there in
    let same : c.in_ok-bytes-in-Ok.bytes ≡ there.0 = c.in_ok-bytes-in-Ok.ensures ∙ held_bytes c.get_source.new.snapshot c.in-Ok.number c.args.path.now there.0 _ there.1.1 c.bytes.ensures in
    let ghost : c.is_ghost_path.result ≡ is_ghost_path c.args.path.now = c.is_ghost_path.ensures ∙ ap is_ghost_path c.as_bytes.ensures.value in
    cut_told library c.args.path.now c.in-Ok.number c.in_ok-bytes-in-Ok.bytes c.cut.result
    (tells c.args.path.now c.in-Ok.number (known.Bytes c.in_ok-bytes-in-Ok.bytes) (there.1.0, there.1.1 ∙ ap (λ b. Some (c.args.path.now, known.Bytes b)) (sym same)))
    (subst (λ b. Cut b c.in-Ok.number c.in_ok-bytes-in-Ok.bytes c.cut.result) ghost c.cut.ensures)

pub returns-in_ok-bytes-in-Ok-clause-short : goal.returns-in_ok-bytes-in-Ok-clause-short
returns-in_ok-bytes-in-Ok-clause-short g c = cut_short _ _ _ c.cut.result c.cut.ensures

pub returns-in_ok-bytes-in-Ok-clause-missing : goal.returns-in_ok-bytes-in-Ok-clause-missing
returns-in_ok-bytes-in-Ok-clause-missing g c = λ is. absurd (cut_there _ _ _ c.cut.result c.cut.ensures is)

pub returns-in_ok-bytes-in-Ok-clause-read_fault : goal.returns-in_ok-bytes-in-Ok-clause-read_fault
returns-in_ok-bytes-in-Ok-clause-read_fault g c = λ is. absurd (cut_read _ _ _ c.cut.result c.cut.ensures is)

pub returns-in-Err-clause-exact : goal.returns-in-Err-clause-exact
returns-in-Err-clause-exact g c = λ library tells.
    subst (λ e. NamedGives (named (library c.args.path.now)) (Err e)) (sym c.fault_of.ensures) (fault_told library c.get_source.new.snapshot c.args.path.now c.in-Err.fault tells c.in-Err.ensures.there)

pub returns-in-Err-clause-missing : goal.returns-in-Err-clause-missing
returns-in-Err-clause-missing g c = λ is. stands_missing c.get_source.new.snapshot c.args.path.now c.in-Err.fault c.in-Err.ensures.there (sym c.fault_of.ensures ∙ ap fault_in is)

pub returns-in-Err-clause-read_fault : goal.returns-in-Err-clause-read_fault
returns-in-Err-clause-read_fault g c = λ is. c.in-Err.ensures.read_fault (ap Err (read_fault_named c.in-Err.fault (sym c.fault_of.ensures ∙ ap fault_in is)))
