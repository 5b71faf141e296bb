use Rattle.std.proofs.Common.{◌≡◌, ◌++◌, ◌∷◌, [], arith, sym, subst, ◌∙◌, ap}
use Rattle.vf_preproc.specs.Macros.{expansion}
use Rattle.vf_preproc.specs.Kept.{table_of}
use Rattle.vf_preproc.specs.Frames.{done, due, front}
use Rattle.vf_preproc.proofs.Replacing.{due_alone, full, full_done, none_done}
use Rattle.vf_preproc.proofs.replace.put_expanded.Goals as goal

pub returns-then-len-gt-MOST_TOKENS : goal.returns-then-len-gt-MOST_TOKENS
returns-then-len-gt-MOST_TOKENS c = full c.args.out.now (expansion (table_of c.args.macros.now) (c.args.token.now ∷ [])) c.requires (omega arith)

pub loop-budget-init : goal.loop-budget-init
loop-budget-init c =
    let stack : c.new-stack.result ≡ [] = c.new-stack.ensures in
    let began : done (table_of c.args.macros.now) c.args.token.now c.put_or_open.new.out c.put_or_open.new.stack ≡ front (c.args.out.now ++ due (table_of c.args.macros.now) c.new-stack.result c.args.token.now) =
    subst (λ t. done (table_of c.args.macros.now) t c.put_or_open.new.out c.put_or_open.new.stack ≡ front (c.args.out.now ++ due (table_of c.args.macros.now) c.new-stack.result t)) c.in_ok-at_use.ensures c.in_ok-put_or_open.ensures.done in
    record {
      same = began ∙ ap (λ s. front (c.args.out.now ++ due (table_of c.args.macros.now) s c.args.token.now)) stack ∙ ap (λ xs. front (c.args.out.now ++ xs)) (due_alone (table_of c.args.macros.now) c.args.token.now);
      few = c.in_ok-put_or_open.ensures.few;
    }

pub returns-then-len-gt-MOST_TOKENS-2 : goal.returns-then-len-gt-MOST_TOKENS-2
returns-then-len-gt-MOST_TOKENS-2 c = sym (full_done (table_of c.args.macros.now) c.args.token.now c.loop-budget.out c.loop-budget.stack c.loop-budget.invariant.few (omega arith)) ∙ c.loop-budget.invariant.same

pub returns-in_default : goal.returns-in_default
returns-in_default c =
    sym (none_done (table_of c.args.macros.now) c.args.token.now c.loop-budget.out c.loop-budget.invariant.few) ∙ ap (done (table_of c.args.macros.now) c.args.token.now c.loop-budget.out) (sym c.in_default.ensures) ∙ c.loop-budget.invariant.same
