use Rattle.std.proofs.Common.{◌≡◌, rules, tests, sym, ◌∙◌}
use Rattle.std.specs.Str.{bytes_eq}
use Rattle.std.proofs.lemmas.Iterator.{YieldsList-from_slice}
use Rattle.std.proofs.lemmas.Iterator.Search.{position_from_yields_List}
use Rattle.vf_first.specs.FirstForm.{local_of}
use Rattle.vf_first.proofs.names.local_of.Goals as goal

pub returns-in_err-local : goal.returns-in_err-local
returns-in_err-local c =
    let e : c.position.result ≡ local_of c.args.names.now c.args.name.now = position_from_yields_List (λ n. bytes_eq n c.args.name.now) _ _ c.position.result c.position.ensures.ran (YieldsList-from_slice c.args.names.now cc) (λ x b q k. search (rules, tests)) in
    c.from_residual.ensures ∙ sym c.in_err-local.was ∙ e

pub returns : goal.returns
returns c =
    let e : c.position.result ≡ local_of c.args.names.now c.args.name.now = position_from_yields_List (λ n. bytes_eq n c.args.name.now) _ _ c.position.result c.position.ensures.ran (YieldsList-from_slice c.args.names.now cc) (λ x b q k. search (rules, tests)) in
    sym c.in_ok-local.was ∙ e
