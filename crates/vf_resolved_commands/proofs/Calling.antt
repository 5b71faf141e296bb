-- Calls, from their parts.
use Rattle.std.proofs.Common.{◌≡◌, ℕ, ◌+◌, Bool, true, false, List, map, sym, ap, ap₂, ◌∙◌}
use Rattle.vf_base.specs.declared.place.Place.{Place}
use Rattle.vf_sorts.specs.Sorts.{Sort}
use Rattle.vf_sorts.specs.Unknowns.{instance}
use Rattle.vf_declared.specs.Scopes.{declaration_of}
use Rattle.vf_declared.specs.declared.declaration.Meaning.{Meaning}
use Rattle.std.specs.Prelude.{Option}
use Rattle.vf_syntax.specs.GhostExprTree.{GhostExprTree}
use Rattle.vf_terms.specs.Settings.{Setting}
use Rattle.vf_terms.specs.Named.{declaration_seen}
use Rattle.vf_terms.specs.declared.reading.Row.{Row}
use Rattle.vf_resolved.specs.CommandTree as tree
use Rattle.vf_resolved_commands.specs.declared.command_reading.CommandReading.{CommandReading}
use Rattle.vf_resolved_commands.specs.Commands.{Callee, all_passed, call_by, call_made, call_read, callee_identity, called}

-- a call whose parts are read
pub call_told : (s : Setting) (u : ℕ) (p : Place) (x : List ℕ) (es : List GhostExprTree) (m : Option Meaning) (g : Callee) (i : List ℕ) (ts : List Sort) (n : ℕ) (r : Row)
    → m ≡ declaration_of s.scope x p.file → called s.scope s.context.own m ≡ g
    → n ≡ u + g.parameters → ts ≡ map (instance u g.parameters) g.arguments → r ≡ all_passed s ts n es
    → i ≡ callee_identity s x (declaration_seen s.scope x p.file)
    → call_made p g.is_real i r ≡ call_read s u p x es
call_told s u p x es m g i ts n r means is many sorts row callee =
    ap (λ j. call_made p g.is_real j r) callee
    ∙ ap (call_made p g.is_real (callee_identity s x (declaration_seen s.scope x p.file))) (row ∙ ap₂ (λ us v. all_passed s us v es) sorts many)
    ∙ sym (ap (call_by s u p x es) (ap (called s.scope s.context.own) (sym means) ∙ is))

-- a call of a function of C, and one of a lemma
abbrev pub real_call : Place → ℕ → CommandReading
real_call p n = record { command = tree.call_real p; next = n }

abbrev pub lemma_call : Place → List ℕ → Row → CommandReading
lemma_call p i r = record { command = tree.call_ p i r.terms; next = r.next }

pub real_made : (p : Place) (b : Bool) (i : List ℕ) (r : Row) → b ≡ true → real_call p r.next ≡ call_made p b i r
real_made p b i r e = sym (ap (λ c. call_made p c i r) e)

pub lemma_made : (p : Place) (b : Bool) (i : List ℕ) (r : Row) → b ≡ false → lemma_call p i r ≡ call_made p b i r
lemma_made p b i r e = sym (ap (λ c. call_made p c i r) e)
