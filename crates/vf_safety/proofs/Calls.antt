-- A call through a pointer as the machine does it.
use Rattle.std.proofs.Common.{◌≡◌, ℕ, Bool, true, false, cond, List, [], ◌∷◌, slice_get, Option, Some, None, refl, sym, ap, subst, ◌∙◌}
use Rattle.std.specs.Prelude.{IsTrue}
use Rattle.vf_base.specs.declared.place.Place.{Place}
use Rattle.vf_tree.specs.Core.{Identity, Signature, ExpressionTree, CallPointer, ProgramTree}
use Rattle.vf_model.specs.declared.words.FaultKind.TheVariants as faults
use Rattle.vf_model.specs.Values.{Value, same_signature}
use Rattle.vf_model.specs.Values as values
use Rattle.vf_model.specs.PreludeFunctions.{prelude_named}
use Rattle.vf_model.specs.State.{Frame, Thread, State, entered, at_step, with_frames}
use Rattle.vf_model.specs.Evaluation.{Gives, evaluate, evaluate_all}
use Rattle.vf_model.specs.Acts.{Goes, Faults, given}
use Rattle.vf_model.specs.Calls.{calls_pointer, calls_named, calls_number, calls_body, has_signature, with_signature, numbered, body_has_signature}
use Rattle.vf_model.specs.Steps.{act_of, all_values}
use Rattle.vf_meaning.specs.Ghost.{FixpointTree}
use Rattle.vf_meaning.specs.GhostValues.{claimed, interpreted}
use Rattle.vf_meaning.specs.Assertions.{Environment}
use Rattle.vf_meaning.specs.Parts.{Part, nothing, IsSum}
use Rattle.vf_meaning.specs.Fits.{Fits}
use Rattle.vf_meaning.specs.Kept.{Returns, Promise, CallsPointer, depth}
use Rattle.vf_model.proofs.Equality.{signatures_told}
use Rattle.vf_meaning.proofs.Parts.{sums_turn, nothing_is_neutral}
use Rattle.vf_rules.specs.States.{meaning}
use Rattle.vf_rules.specs.Types.{IsTypedPart}
use Rattle.vf_rules.specs.Threads.{HasSignature}
use Rattle.vf_safety.specs.Safe.{Duty, Duties, duty_added, Promised, event_of, IsShaped, no_exchange, Went}
use Rattle.vf_safety.proofs.Steps.{InCall, turn_of, set_own, set_other}

-- fixpoints change no claims
interpreted_claims : (claims : Identity → Identity → Bool) (fs : List FixpointTree) → (interpreted claims fs).claims ≡ claims
interpreted_claims claims [] = refl
interpreted_claims claims (f ∷ fs) = interpreted_claims claims fs

-- a value that claims a type is a function that does
pub claimed_function : (e : Environment) (type : Identity) (w : Value) → IsTrue (claimed (meaning e) type w) → (g : Identity) × (w ≡ values.Function g) × IsTrue (e.claims g type)
claimed_function e type (values.Function g) h = (g, refl, subst (λ z. IsTrue (z g type)) (interpreted_claims e.claims e.fixpoints) h)
claimed_function e type (values.Number z) h = absurd (no h)
  where
    no : IsTrue false → ⊥
    no h = cc
claimed_function e type (values.Truth b) h = absurd (no h)
  where
    no : IsTrue false → ⊥
    no h = cc
claimed_function e type values.Null h = absurd (no h)
  where
    no : IsTrue false → ⊥
    no h = cc
claimed_function e type (values.Pointer b o) h = absurd (no h)
  where
    no : IsTrue false → ⊥
    no h = cc
claimed_function e type (values.Constructed c vs) h = absurd (no h)
  where
    no : IsTrue false → ⊥
    no h = cc
claimed_function e type (values.Predicate q vs) h = absurd (no h)
  where
    no : IsTrue false → ⊥
    no h = cc
claimed_function e type (values.Fraction d) h = absurd (no h)
  where
    no : IsTrue false → ⊥
    no h = cc

-- a function has its own signature
pub own_signature : (want own : Signature) → own ≡ want → same_signature own want ≡ true
own_signature want own is = (signatures_told own want).1 is

found_signature : (p : ProgramTree) (g : Identity) (signature : Signature) (h : HasSignature p g signature) → same_signature (h.function).signature signature ≡ true → has_signature p g signature (prelude_named g) ≡ true
found_signature p g signature h same =
    ap (has_signature p g signature) h.outside ∙ ap (λ z. body_has_signature (numbered p signature z)) h.named ∙ ap (λ z. body_has_signature (with_signature signature h.number z)) h.is
    ∙ ap (λ z. body_has_signature (cond z (Some (h.number, h.function)) None)) same

-- a function with the signature is called
pub pointer_act : (p : ProgramTree) (s : State) (t : ℕ) (frame : Frame) (callers : Thread) (target : Option ℕ) (a : ExpressionTree) (signature : Signature) (operands : List ExpressionTree) (place : Place) (next : ℕ) (g : Identity) (h : HasSignature p g signature) (ws : List Value)
    → evaluate frame.locals a ≡ Gives (values.Function g) → evaluate_all frame.locals operands ≡ Gives ws
    → act_of p (turn_of s t frame callers) (CallPointer target a signature operands place next) ≡ Goes (with_frames (turn_of s t frame callers) (entered h.number h.function ws target ∷ at_step frame next ∷ callers))
pointer_act p s t frame callers target a signature operands place next g h ws pointer arguments =
    let turn = turn_of s t frame callers in
    ap (λ r. given r (λ v. given (all_values turn operands) (λ vs. calls_pointer p turn target v signature vs place next))) pointer
    ∙ ap (λ r. given r (λ vs. calls_pointer p turn target (values.Function g) signature vs place next)) arguments
    ∙ ap (λ z. cond z (calls_named p turn target g ws place next (prelude_named g)) (Faults faults.Pointer place)) (found_signature p g signature h (own_signature signature (h.function).signature h.signature_is))
    ∙ ap (calls_named p turn target g ws place next) h.outside ∙ ap (calls_number p turn target ws place next) h.named ∙ ap (calls_body turn target ws place next h.number) h.is

module _ (e : Environment) (p : ProgramTree) (t : ℕ) (duties : Duties) (S : ℕ → Duties → Thread → Part → Type 0) where
  -- a call with a duty is entered
  pub entered_went : (s : State) (frame : Frame) (callers frames : Thread) (d : Duty) (own rest all : Part) → IsSum own rest all → Fits all s.memory → IsTypedPart e p all → IsShaped p s.memory → slice_get s.threads t ≡ Some (frame ∷ callers)
      → S t (d ∷ duties) frames own → InCall frames (d ∷ duties) → depth s t ≡ d.below
      → ((grant : ℕ) (call : Promise) → CallsPointer e p s (event_of t grant) call → Promised e call duties (d ∷ duties) own) → ((result : Option Value) → Returns p s t result → ⊥) → Went e p t S no_exchange duties s (with_frames (turn_of s t frame callers) frames) rest all
  entered_went s frame callers frames d own rest all sums fits typed shaped there safe within here promised inside = record {
    frames = frames;
    owing = d ∷ duties;
    own = own;
    given = nothing;
    leaked = nothing;
    unleaked = λ none. refl;
    lost = nothing;
    handed = refl;
    parted = nothing_is_neutral nothing;
    others = rest;
    all = all;
    given_up = sums_turn nothing rest rest (nothing_is_neutral rest);
    sums = sums;
    fits = fits;
    typed = typed;
    shaped = shaped;
    now = set_own s.threads t frames (frame ∷ callers) there;
    alone = λ u other unstarted. set_other s.threads t u frames other;
    begun = tt;
    unshared = λ b apart h. refl;
    unmoved = λ b apart h. refl;
    known = λ l c shared apart h. h;
    settled = tt;
    within = within.within;
    owes = duty_added d duties (sym here);
    going = λ h. safe;
    called = promised;
    leaves = λ result r n h. absurd (inside result r);
    finished = λ none. absurd (within.some_frames none);
  }
