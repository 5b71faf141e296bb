use Rattle.std.proofs.Common.{◌≡◌, [], ◌∷◌, ◌++◌, None, sym, ap, ◌∙◌, refl}
use Rattle.vf_names.specs.Names.{number_of, put_found}
use Rattle.vf_preproc.proofs.Naming.{adds_at, adds_new, on_ok}
use Rattle.vf_preproc.proofs.name_table.Index.add.Goals as goal

pub returns-in-Some : goal.returns-in-Some
returns-in-Some c = on_ok _ _ c.add_at.result (adds_at c.args.name.now c.args.file c.in-Some.at c.args.self.now (record { names = c.args.self.now.names; files = c.add_at.new.lists }) c.requires (sym c.in-Some.ensures.number) refl) c.add_at.ensures

pub returns-in_ok-push-in-None-2 : goal.returns-in_ok-push-in-None-2
returns-in_ok-push-in-None-2 c =
    let none : number_of c.args.self.now.names c.args.name.now ≡ None = sym c.in-None.ensures.number in
    adds_new c.args.name.now c.args.file c.args.self.now (record { names = c.put.new.self; files = c.push-in-None.new.self }) c.requires none
    (c.in_ok-put-in-None.ensures.put ∙ ap (put_found c.args.self.now.names c.args.name.now) none)
    (c.in_ok-push-in-None-2.ensures.items ∙ ap (λ l. c.args.self.now.files.items ++ l ∷ []) (c.in_ok-push-in-None.ensures.pushed ∙ ap (λ l. l ++ c.args.file ∷ []) c.new-files.ensures))
