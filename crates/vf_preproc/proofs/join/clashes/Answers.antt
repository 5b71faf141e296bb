use Rattle.std.proofs.Common.{◌≡◌, ⊎_elim, Some, length, slice_get, arith, sym, ap, ◌∙◌, refl}
use Rattle.std.proofs.lemmas.Option.{slice_get_read}
use Rattle.vf_preproc.specs.Kept.{table_of}
use Rattle.vf_preproc.specs.Scopes.{header_of}
use Rattle.vf_preproc.specs.Joins.{is_foreign}
use Rattle.vf_preproc.proofs.Rejoining.{order, found_clashes, none_clash}
use Rattle.vf_preproc.proofs.join.clashes.Goals as goal

pub returns-then-is_foreign : goal.returns-then-is_foreign
returns-then-is_foreign c =
    let item : slice_get c.as_slice-defined.result.now c.loop-at.at ≡ Some c.index-defined-at.result = slice_get_read c.as_slice-defined.result.now (length c.as_slice-defined.result.now) c.loop-at.at c.index-defined-at.result refl (omega arith) c.index-defined-at.is in
    let at : slice_get c.args.macros.now.names c.loop-at.at ≡ Some c.as_bytes.result.now = ap (λ s. slice_get s c.loop-at.at) (sym c.as_slice-defined.ensures) ∙ item ∙ ap Some (sym c.as_bytes.ensures) in
    sym (found_clashes c.args.names.now (table_of c.args.macros.now) (header_of c.args.header.now) c.loop-at.at c.as_bytes.result.now at (sym c.is_foreign.ensures ∙ c.if-is_foreign.true))

pub loop-at-preserved : goal.loop-at-preserved
loop-at-preserved c = λ k name from below there.
    let item : slice_get c.as_slice-defined.result.now c.loop-at.at ≡ Some c.index-defined-at.result = slice_get_read c.as_slice-defined.result.now (length c.as_slice-defined.result.now) c.loop-at.at c.index-defined-at.result refl (omega arith) c.index-defined-at.is in
    let at : slice_get c.args.macros.now.names c.loop-at.at ≡ Some c.as_bytes.result.now = ap (λ s. slice_get s c.loop-at.at) (sym c.as_slice-defined.ensures) ∙ item ∙ ap Some (sym c.as_bytes.ensures) in
    ⊎_elim
    (λ before. c.loop-at.invariant k name from before there)
    (λ last.
    let same : k ≡ c.loop-at.at = omega arith in
    let name_is : c.as_bytes.result.now ≡ name = cc in
    ap (is_foreign c.args.names.now (header_of c.args.header.now)) (sym name_is) ∙ sym c.is_foreign.ensures ∙ c.if-is_foreign.false)
    (order k c.loop-at.at)

pub returns : goal.returns
returns c = sym (none_clash c.args.known c.args.names.now (table_of c.args.macros.now) (header_of c.args.header.now) c.requires (λ k name from below there.
    let size : length c.as_slice-defined.result.now ≡ length c.args.macros.now.names = ap length c.as_slice-defined.ensures in
    c.loop-at.invariant k name from (omega arith) there))
