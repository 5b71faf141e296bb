use Rattle.std.proofs.Common.{◌≡◌, ◌<◌, [], Some, None, length, get_or, slice_get, arith, refl, sym, ap, ◌∙◌, subst}
use Rattle.std.specs.Prelude.{unwrap_or}
use Rattle.std.specs.List.{list_any}
use Rattle.std.proofs.lemmas.Option.{slice_get_read, slice_get_within}
use Rattle.vf_names.specs.Names.{number_of}
use Rattle.vf_preproc.specs.UnitText.{is_among}
use Rattle.vf_preproc.specs.Joins.{stands_in}
use Rattle.vf_preproc.specs.NameTables.{places_at}
use Rattle.vf_preproc.proofs.Naming.{stands_told}
use Rattle.vf_preproc.proofs.name_table.NameTable.stands.Goals as goal

pub returns-in_default : goal.returns-in_default
returns-in_default c =
    let none : number_of c.self.inside.index.names c.args.name.now ≡ None = sym c.in_default.ensures.number in
    ap (λ o. list_any (λ f. is_among c.args.files.now f) (places_at c.self.inside.index.files.items o)) (sym none)
    ∙ stands_told c.self.inside.own.items c.self.inside.index c.args.files.now c.args.name.now c.self.invariant
    ∙ ap (λ own. list_any (stands_in own c.args.name.now) c.args.files.now) c.self.view_is

pub returns-in-Some-get : goal.returns-in-Some-get
returns-in-Some-get c =
    let within : c.in-Some.at < length c.self.inside.index.files.items = subst (λ n. c.in-Some.at < n) c.self.invariant.even (slice_get_within c.self.inside.index.names c.in-Some.at c.args.name.now c.in-Some.ensures.there) in
    let item : slice_get c.self.inside.index.files.items c.in-Some.at ≡ Some c.in-Some-get.found.now = slice_get_read c.self.inside.index.files.items (length c.self.inside.index.files.items) c.in-Some.at c.in-Some-get.found.now refl within (c.in-Some-get.ensures.lookup.1 ∙ ap (λ xs. get_or xs c.in-Some.at c.in-Some-get.found.now) c.deref.ensures.value) in
    c.is_one_among.ensures
    ∙ ap (λ ps. list_any (λ f. is_among c.args.files.now f) ps) c.as_slice.ensures
    ∙ ap (λ o. list_any (λ f. is_among c.args.files.now f) (unwrap_or o [])) (sym item)
    ∙ ap (λ o. list_any (λ f. is_among c.args.files.now f) (places_at c.self.inside.index.files.items o)) c.in-Some.ensures.number
    ∙ stands_told c.self.inside.own.items c.self.inside.index c.args.files.now c.args.name.now c.self.invariant
    ∙ ap (λ own. list_any (stands_in own c.args.name.now) c.args.files.now) c.self.view_is

pub returns-in-None : goal.returns-in-None
returns-in-None c =
    let within : c.in-Some.at < length c.self.inside.index.files.items = subst (λ n. c.in-Some.at < n) c.self.invariant.even (slice_get_within c.self.inside.index.names c.in-Some.at c.args.name.now c.in-Some.ensures.there) in
    let size : length c.deref.result.now ≡ length c.self.inside.index.files.items = ap length c.deref.ensures.value in
    let past = c.in-None.ensures.lookup.3 in
    absurd (omega arith)
