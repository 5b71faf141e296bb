use Rattle.std.proofs.Common.{rules, ◌≡◌, ◌∙◌, ◌++◌, ◌∷◌, [], None, false, is_none, map, ap, sym}
use Rattle.std.proofs.lemmas.List.{map-append}
use Rattle.vf_names.specs.Names.{number_of}
use Rattle.vf_core.specs.Shown.{identity_of, struct_of}
use Rattle.vf_core.specs.declared.step.StructBody.{StructBody}
use Rattle.vf_program.specs.Indexes.{struct_identities}
use Rattle.vf_program.proofs.Finding.{struct_new, struct_there}
use Rattle.vf_program.proofs.Merging.{kept_known, kept_new}
use Rattle.vf_program.proofs.once.each_once.Goals as goal

pub loop-body-preserved-in-Continue-branch-2 : goal.loop-body-preserved-in-Continue-branch-2
loop-body-preserved-in-Continue-branch-2 c =
    let names = c.args.names.now in
    let body = c.in-Some.body in
    let bodies = c.loop-body.bodies in
    let text = c.text_of-identity.ensures in
    let none : c.number.result ≡ None = search rules in
    let new : number_of (struct_identities names bodies) (identity_of names body.identity) ≡ None =
    ap (λ l. number_of l (identity_of names body.identity)) (sym c.loop-body.invariant.1) ∙ ap (number_of c.loop-body.identities) (sym text) ∙ sym c.number.ensures.number ∙ none in
    let pushed : c.push-then-is_none.new.self ≡ bodies ++ body ∷ [] = c.in_ok-push-2.ensures.pushed in (
      ap (map (struct_of names)) pushed ∙ kept_new names c.loop-body.yielded body bodies c.loop-body.invariant.0 (struct_new names bodies (identity_of names body.identity) new),
      c.in_ok-push.ensures.pushed
          ∙ ap (λ l. l ++ c.text_of-identity.result.now ∷ []) c.loop-body.invariant.1
          ∙ ap (λ g. struct_identities names bodies ++ g ∷ []) text
          ∙ sym (map-append (λ (s : StructBody). identity_of names s.identity) bodies (body ∷ []))
          ∙ sym (ap (struct_identities names) pushed),
    )

pub loop-body-preserved : goal.loop-body-preserved
loop-body-preserved c =
    let names = c.args.names.now in
    let body = c.in-Some.body in
    let bodies = c.loop-body.bodies in
    let some : is_none c.number.result ≡ false = search rules in
    let known = c.number.ensures.number ∙ ap (number_of c.loop-body.identities) c.text_of-identity.ensures ∙ ap (λ l. number_of l (identity_of names body.identity)) c.loop-body.invariant.1 in
    (kept_known names c.loop-body.yielded body bodies c.loop-body.invariant.0 (struct_there names bodies (identity_of names body.identity) c.number.result known some), c.loop-body.invariant.1)
