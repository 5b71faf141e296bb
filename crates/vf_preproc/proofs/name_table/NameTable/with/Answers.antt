use Rattle.std.proofs.Common.{rules, ◌≡◌, length, take, get_or, arith, sym, ap, ◌∙◌, subst}
use Rattle.std.proofs.lemmas.List.{take_all}
use Rattle.vf_preproc.specs.NameTables.{Indexed}
use Rattle.vf_preproc.proofs.Naming.{IsAdded, added_none, added_one, added_all}
use Rattle.vf_preproc.proofs.name_table.NameTable.with.Goals as goal

pub loop-name-init : goal.loop-name-init
loop-name-init c = added_none c.self.inside.own.items c.len-file.result c.self.inside.index c.self.invariant

pub loop-name-preserved : goal.loop-name-preserved
loop-name-preserved c =
    let size : length c.as_slice-name-items.result.now ≡ length c.args.names = ap length c.as_slice-name-items.ensures in
    let test = c.loop-name-test.true in
    let item : get_or c.args.names c.loop-name.name-index c.as_bytes.result.now ≡ c.as_bytes.result.now =
    ap (λ d. get_or c.args.names c.loop-name.name-index d) c.as_bytes.ensures
    ∙ ap (λ xs. get_or xs c.loop-name.name-index c.name-item.result) (sym c.as_slice-name-items.ensures)
    ∙ sym c.name-item.is ∙ sym c.as_bytes.ensures in
    added_one c.self.inside.own.items c.args.names c.as_bytes.result.now c.len-file.result c.loop-name.name-index c.loop-name.index c.add.new.self (omega arith) item c.loop-name.invariant c.in_ok-add.ensures

pub invariant_of-result : goal.invariant_of-result
invariant_of-result c =
    let size : length c.as_slice-name-items.result.now ≡ length c.args.names = ap length c.as_slice-name-items.ensures in
    let test = c.loop-name-test.false in
    let all : take c.loop-name.name-index c.args.names ≡ c.args.names = take_all c.loop-name.name-index c.args.names (omega arith) in
    let last : c.len-file.result ≡ length c.self.inside.own.items = search rules in
    subst (λ own. Indexed own c.loop-name.index) (sym c.in_ok-push.ensures.items)
    (added_all c.self.inside.own.items c.args.names c.len-file.result c.loop-name.index last
    (subst (λ names. IsAdded c.self.inside.own.items names c.len-file.result c.loop-name.index) all c.loop-name.invariant))
