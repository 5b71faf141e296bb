use Rattle.std.proofs.Common.{◌≤◌, Some, sym, ap, subst, ◌∙◌}
use Rattle.std.specs.Prelude.{IsUtf8}
use Rattle.serde_json.specs.Data.{depth}
use Rattle.serde_json.specs.Read.{read}
use Rattle.serde_json.specs.Written.{has_float, compact_text}
use Rattle.vf_schedule.proofs.texts.Texts.{no_float, shallow, text_of, reads_again}
use Rattle.vf_schedule.proofs.texts.write.write_schedule.Goals as goal

pub returns-clause-text : goal.returns-clause-text
returns-clause-text c =
    let same = text_of c.args.events.now c.in_ok-values.values.items c.in_ok-values.ensures in
    let whole = c.array_of.ensures ∙ same in
    c.in_ok-text.ensures ∙ c.as_slice.ensures.value ∙ c.in_ok-bytes.ensures.text (ap has_float whole ∙ no_float c.args.events.now) ∙ ap compact_text whole

pub returns-clause-reads_back : goal.returns-clause-reads_back
returns-clause-reads_back c =
    let made = c.in_ok-values.ensures in
    let same = text_of c.args.events.now c.in_ok-values.values.items made in
    let whole = c.array_of.ensures ∙ same in
    let low = subst (λ d. depth d ≤ 127) (sym whole) (shallow c.args.events.now) in
    let bytes = sym (c.in_ok-text.ensures ∙ c.as_slice.ensures.value) in
    reads_again c.in_ok-text.text c.args.events.now c.in_ok-values.values.items made c.requires.few c.requires.in_range
    (subst IsUtf8 bytes c.in_ok-bytes.ensures.utf8) (ap read (sym bytes) ∙ c.in_ok-bytes.ensures.reads_back low ∙ ap Some c.array_of.ensures)
