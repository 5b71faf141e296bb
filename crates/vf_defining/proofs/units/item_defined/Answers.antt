use Rattle.std.proofs.Common.{rules, ◌≡◌, ◌++◌, ℕ, Err, sym, subst, ap, ◌∙◌}
use Rattle.vf_declared.specs.declared.declaration.Fixpoint as declared
use Rattle.vf_declared.specs.declared.scope.Scope.{Scope}
use Rattle.vf_binding.specs.Bound.{with_names}
use Rattle.vf_defining.specs.Bodies.{identity_at}
use Rattle.vf_defining.specs.UpTo.{up_to, with_level}
use Rattle.vf_defining.specs.Units.{IsNumbered, definitions_by, definitions_of, within_fixpoint, written_of}
use Rattle.vf_defining.proofs.Adding.{other, stray, refused, added}
use Rattle.vf_defining.proofs.UpTo.{identity_itself}
use Rattle.vf_defining.proofs.units.item_defined.Goals as goal

pub returns-in_default-clause-added : goal.returns-in_default-clause-added
returns-in_default-clause-added c = other (sym c.in_default.ensures)

pub returns-in_default-numbered-clause-added : goal.returns-in_default-numbered-clause-added
returns-in_default-numbered-clause-added c =
    let s = with_level c.args.scope.now c.args.level.now in
    let w = written_of c.in-Some.written in
    let same : c.keep_up_to.new.scope ≡ up_to w.name s = c.in_ok-keep_up_to.ensures in
    stray (sym c.in-Some.ensures) (subst (λ (u : Scope). (n : ℕ) (f : declared.Fixpoint) → IsNumbered u w n f → ⊥) same c.in_default-numbered.ensures)

pub returns-in_err-body-clause-added : goal.returns-in_err-body-clause-added
returns-in_err-body-clause-added c =
    let s = with_level c.args.scope.now c.args.level.now in
    let w = written_of c.in-Some.written in
    let same : c.keep_up_to.new.scope ≡ up_to w.name s = c.in_ok-keep_up_to.ensures in
    let f = c.in-Some-numbered.fixpoint.now in
    let is = subst (λ (u : Scope). IsNumbered u w c.in-Some-numbered.number f) same c.in-Some-numbered.ensures in
    let within : c.declare_names.new.scope ≡ within_fixpoint (up_to w.name s) w.parameters f.arguments =
    c.in_ok-declare_names.ensures ∙ (λ i. with_names (same i) (record { names = c.in_ok-names.ensures i; sorts = c.in_ok-sorts.ensures i })) in
    let e : c.from_residual-in_err-body.result ≡ Err c.in_err-body.field-0.0 = search rules in
    refused c.in_err-body.field-0.0 (sym c.in-Some.ensures) is within c.in_err-body.ensures.defined e

pub returns-clause-added : goal.returns-clause-added
returns-clause-added c =
    let s = with_level c.args.scope.now c.args.level.now in
    let w = written_of c.in-Some.written in
    let same : c.keep_up_to.new.scope ≡ up_to w.name s = c.in_ok-keep_up_to.ensures in
    let f = c.in-Some-numbered.fixpoint.now in
    let paths = c.args.paths.now in
    let b = c.in_ok-body.body in
    let is = subst (λ (u : Scope). IsNumbered u w c.in-Some-numbered.number f) same c.in-Some-numbered.ensures in
    let within : c.declare_names.new.scope ≡ within_fixpoint (up_to w.name s) w.parameters f.arguments =
    c.in_ok-declare_names.ensures ∙ (λ i. with_names (same i) (record { names = c.in_ok-names.ensures i; sorts = c.in_ok-sorts.ensures i })) in
    let named : c.in_ok-identity.identity ≡ identity_at s paths w.name = c.in_ok-identity.ensures ∙ ap (λ (u : Scope). identity_at u paths w.name) same ∙ identity_itself w.name s paths in
    let all : c.add.new.into ≡ c.args.into.now ++ definitions_of s paths w b f.result =
    c.in_ok-add.ensures ∙ (λ i. c.args.into.now ++ definitions_by (named i) (c.len.ensures i) b (c.in_ok-sort.ensures i)) in
    added (sym c.in-Some.ensures) is within c.in_ok-body.ensures.defined all
