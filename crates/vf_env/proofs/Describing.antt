-- What a unit declares, from the answers for its parts.
use Rattle.std.proofs.Common.{◌≡◌, ◌∙◌, sym, subst, ap, ℕ, List, Result, Ok, Err}
use Rattle.vf_base.specs.declared.refusal.RuleFault.{RuleFault}
use Rattle.vf_base.specs.declared.refusal.RuleFault.TheVariants as faults
use Rattle.vf_declared.specs.declared.locals.Locals.{Locals}
use Rattle.vf_declared.specs.declared.scope.Scope.{Scope}
use Rattle.vf_declared.specs.Beginning.{no_locals}
use Rattle.vf_syntax.specs.declared.item.Item.{Item}
use Rattle.vf_sorting.specs.Answers.{Answers}
use Rattle.vf_definitions.specs.declared.fixpoint.Fixpoint.{Fixpoint}
use Rattle.vf_defining.specs.Symbols.{without_locals}
use Rattle.vf_defining.specs.Units.{AreDefined, AnyIsRefused}
use Rattle.vf_env.specs.declared.env.Env.{Env}
use Rattle.vf_env.specs.Named.{named, tagged}
use Rattle.vf_env.specs.Trees.{HasTrees}
use Rattle.vf_env.specs.Described.{AreDescribed, Describes}

module _ {s : Scope} {paths : List (List ℕ)} {xs : List Item} where
  -- the body of a fixpoint is refused
  pub refused : {res : Result Env RuleFault} (e : RuleFault) → AreDefined (without_locals s) paths xs (Err e) → res ≡ Err e → AreDescribed s paths xs res
  refused e d q = record { answers = subst (λ (r : Result Env RuleFault). Answers (Describes s paths xs) (AnyIsRefused (without_locals s) xs) r) (sym q) d.answers }

  -- there is no memory
  pub memory : {res : Result Env RuleFault} → res ≡ Err faults.Memory → AreDescribed s paths xs res
  memory q = record { answers = subst (λ (r : Result Env RuleFault). Answers (Describes s paths xs) (AnyIsRefused (without_locals s) xs) r) (sym q) tt }

  -- all is described
  pub described : (one : Scope) {locals : Locals} {trees tags : List (List ℕ)} {fs : List Fixpoint} → without_locals one ≡ without_locals s → locals ≡ no_locals → AreDefined (without_locals s) paths xs (Ok fs)
      → HasTrees named one.names xs trees → HasTrees tagged one.tags xs tags → AreDescribed s paths xs (Ok (record { scope = record one { locals = locals }; trees = trees; tag_trees = tags; definitions = fs }))
  described one kept none defined in_names in_tags =
      record { answers = record { scope = ap (λ (ls : Locals). record one { locals = ls }) none ∙ kept; is = record { names = in_names; tags = in_tags }; definitions = defined.answers } }
