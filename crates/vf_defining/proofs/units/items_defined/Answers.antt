use Rattle.std.proofs.Common.{rules, ◌≡◌, ◌≤◌, ◌∙◌, length, sym, subst, Result, Err}
use Rattle.std.specs.Prelude.{OnOk}
use Rattle.vf_defining.specs.UpTo.{with_level}
use Rattle.vf_defining.proofs.Adding.{item_fails, item_more, item_passed, items_end}
use Rattle.vf_defining.proofs.UpTo.{first_none}
use Rattle.vf_defining.proofs.units.items_defined.Goals as goal

-- of a result that is an error nothing is owed
fails_on_ok : {A E : Type 0} (P : Type 0) {r : Result A E} {e : E} → r ≡ Err e → OnOk r P
fails_on_ok P is = subst (λ r. OnOk r P) (sym is) tt

pub returns-in_err-item_defined : goal.returns-in_err-item_defined
returns-in_err-item_defined c =
    let e : c.from_residual.result ≡ Err c.in_err-item_defined.field-0.0 = search rules in
    record {
      defined = item_fails (with_level c.args.scope.now c.args.level.now) (with_level c.loop-at.scope c.args.level.now) c.args.paths.now c.args.items.now c.loop-at.at c.in-Some.item.now _ _ _ _ c.in-Some.ensures c.loop-at.invariant.alone c.in_err-item_defined.ensures.added c.loop-at.invariant.fails e;
      rest = fails_on_ok _ e;
    }

pub loop-at-init : goal.loop-at-init
loop-at-init c = record {
  on = λ ds h. search rules;
  fails = λ r h. search rules;
  alone = search rules;
  names = first_none _ _ c.requires.names;
  declarations = first_none _ _ c.requires.declarations;
}

pub loop-at-preserved : goal.loop-at-preserved
loop-at-preserved c =
    let s = with_level c.args.scope.now c.args.level.now in
    record {
      on = item_more s (with_level c.loop-at.scope c.args.level.now) c.args.paths.now c.args.items.now c.loop-at.at c.in-Some.item.now _ _ c.in-Some.ensures c.loop-at.invariant.alone c.in_ok-item_defined.ensures.added c.loop-at.invariant.on;
      fails = item_passed s c.args.items.now c.loop-at.at c.in-Some.item.now c.in-Some.ensures c.loop-at.invariant.fails;
      alone = c.in_ok-item_defined.ensures.rest ∙ c.loop-at.invariant.alone;
      names = c.in_ok-item_defined.ensures.names;
      declarations = c.in_ok-item_defined.ensures.declarations;
    }

pub returns : goal.returns
returns c =
    let m : length c.args.items.now ≤ c.loop-at.at = search rules in
    record {
      defined = items_end (with_level c.args.scope.now c.args.level.now) c.args.paths.now c.args.items.now c.loop-at.at c.loop-at.all m c.loop-at.invariant.on;
      rest = c.loop-at.invariant.alone;
    }
