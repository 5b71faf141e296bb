use Rattle.std.proofs.Common.{◌≡◌, ℕ, ◌+◌, false, true, List, [], ◌∷◌, ◌++◌, length, refl, sym, ap, subst, ◌∙◌, arith}
use Rattle.std.specs.declared.cmp.Ordering.TheVariants.{Less}
use Rattle.std.specs.Cmp.Lexicographic.{slice_cmp}
use Rattle.std.specs.Ordering.{nat_cmp}
use Rattle.vf_manifest.specs.declared.fault.WordFault.{WordFault}
use Rattle.vf_manifest.specs.declared.line.Line.{Line}
use Rattle.vf_manifest.specs.Lines.{key}
use Rattle.vf_manifest.specs.Reading.{Fails, line_at}
use Rattle.vf_manifest.proofs.Cutting.{rest_shorter}
use Rattle.vf_manifest.proofs.LineLaws.{line_takes}
use Rattle.vf_manifest.proofs.ManifestLaws.{is_manifest, unended, no_such_line, out_of_order, SoFar, goes_on, never_both}
use Rattle.vf_manifest.proofs.manifest.read_manifest.Goals as goal

-- the line does not end
pub returns-in_default-split_line-clause-fault : goal.returns-in_default-split_line-clause-fault
returns-in_default-split_line-clause-fault c =
    unended c.args.bytes.now c.in-Some.version c.lines.lines c.lines.last.now c.lines.left.now c.lines.number c.lines.invariant (λ e. omega (arith, ap length e)) (sym c.in_default-split_line.ensures)

pub returns-in_default-split_line-clause-none : goal.returns-in_default-split_line-clause-none
returns-in_default-split_line-clause-none c = λ ms t.
    never_both c.args.bytes.now c.lines.number ms
    (unended c.args.bytes.now c.in-Some.version c.lines.lines c.lines.last.now c.lines.left.now c.lines.number c.lines.invariant (λ e. omega (arith, ap length e)) (sym c.in_default-split_line.ensures)) t

-- the line is none
pub returns-in-Err-Syntax-clause-fault : goal.returns-in-Err-Syntax-clause-fault
returns-in-Err-Syntax-clause-fault c =
    no_such_line c.args.bytes.now c.in-Some.version c.lines.lines c.lines.last.now c.lines.left.now c.lines.number c.in-Some-split_line.text.now c.in-Some-split_line.rest.now c.lines.invariant (sym c.in-Some-split_line.ensures)
    (subst (λ (f : WordFault). Fails f (line_at c.in-Some.version c.in-Some-split_line.text.now)) c.in-Err-Syntax.field-0-is c.in-Err-Syntax.ensures)

pub returns-in-Err-Syntax-clause-none : goal.returns-in-Err-Syntax-clause-none
returns-in-Err-Syntax-clause-none c = λ ms t.
    never_both c.args.bytes.now c.lines.number ms
    (no_such_line c.args.bytes.now c.in-Some.version c.lines.lines c.lines.last.now c.lines.left.now c.lines.number c.in-Some-split_line.text.now c.in-Some-split_line.rest.now c.lines.invariant (sym c.in-Some-split_line.ensures)
    (subst (λ (f : WordFault). Fails f (line_at c.in-Some.version c.in-Some-split_line.text.now)) c.in-Err-Syntax.field-0-is c.in-Err-Syntax.ensures)) t

pub key_of-key-requires : goal.key_of-key-requires
key_of-key-requires c = (line_takes c.in-Some.version c.in-Some-split_line.text.now c.in-Ok.line c.in-Ok.ensures).0

-- the line stands not behind the one before it
pub returns-then-not-is_before-clause-fault : goal.returns-then-not-is_before-clause-fault
returns-then-not-is_before-clause-fault c =
    out_of_order c.args.bytes.now c.in-Some.version c.lines.lines c.lines.last.now c.lines.left.now c.lines.number c.in-Some-split_line.text.now c.in-Some-split_line.rest.now c.in-Ok.line c.lines.invariant (sym c.in-Some-split_line.ensures) c.in-Ok.ensures
    (λ e. absurd (let r : false ≡ true = c.if-not-is_before.ensures.1 (ap (λ k. slice_cmp nat_cmp c.lines.last.now k) c.key_of-key.ensures ∙ e) in cc))

pub returns-then-not-is_before-clause-none : goal.returns-then-not-is_before-clause-none
returns-then-not-is_before-clause-none c = λ ms t.
    never_both c.args.bytes.now c.lines.number ms
    (out_of_order c.args.bytes.now c.in-Some.version c.lines.lines c.lines.last.now c.lines.left.now c.lines.number c.in-Some-split_line.text.now c.in-Some-split_line.rest.now c.in-Ok.line c.lines.invariant (sym c.in-Some-split_line.ensures) c.in-Ok.ensures
    (λ e. absurd (let r : false ≡ true = c.if-not-is_before.ensures.1 (ap (λ k. slice_cmp nat_cmp c.lines.last.now k) c.key_of-key.ensures ∙ e) in cc))) t

pub lines-smaller : goal.lines-smaller
lines-smaller c = rest_shorter 10 c.lines.left.now c.in-Some-split_line.text.now c.in-Some-split_line.rest.now (sym c.in-Some-split_line.ensures)

pub lines-preserved : goal.lines-preserved
lines-preserved c =
    let behind : slice_cmp nat_cmp c.lines.last.now (key c.in-Ok.line) ≡ Less =
    ap (λ k. slice_cmp nat_cmp c.lines.last.now k) (sym c.key_of-key.ensures) ∙ c.if-not-is_before.ensures.0 refl in
    let more =
    goes_on c.args.bytes.now c.in-Some.version c.lines.lines c.lines.last.now c.lines.left.now c.lines.number c.in-Some-split_line.text.now c.in-Some-split_line.rest.now c.in-Ok.line c.lines.invariant
    (sym c.in-Some-split_line.ensures) c.in-Ok.ensures behind in
    subst (λ (ls : List Line). SoFar c.args.bytes.now c.in-Some.version ls c.key_of-key.result.now c.in-Some-split_line.rest.now (c.lines.number + 1)) (sym c.in_ok-push.ensures)
    (subst (λ (k : List ℕ). SoFar c.args.bytes.now c.in-Some.version (c.lines.lines ++ c.in-Ok.line ∷ []) k c.in-Some-split_line.rest.now (c.lines.number + 1)) (sym c.key_of-key.ensures) more)

pub returns-clause-manifest : goal.returns-clause-manifest
returns-clause-manifest c = is_manifest c.in-Some.version c.lines.lines c.lines.invariant.front
