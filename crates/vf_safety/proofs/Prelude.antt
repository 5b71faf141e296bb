-- Calls of the prelude's functions that touch no memory.
use Rattle.std.proofs.Common.{◌≡◌, ℕ, ◌≤◌, ℤ, pos, negsuc, List, [], ◌∷◌, slice_get, Option, Some, None, refl, ap, ◌∙◌, arith}
use Rattle.std.proofs.lemmas.Int.{ints}
use Rattle.vf_base.specs.declared.place.Place.{Place}
use Rattle.vf_base.specs.declared.int_type.IntType.TheVariants as types
use Rattle.vf_tree.specs.Core.{Identity, Void, Integer, ExpressionTree, Call, ProgramTree}
use Rattle.vf_model.specs.Values.{Value}
use Rattle.vf_model.specs.Values as values
use Rattle.vf_model.specs.Integers.{InRange}
use Rattle.vf_model.specs.State.{Frame, Thread, State, End, Turn, at_step, with_frames, after_output, ended}
use Rattle.vf_model.specs.State as state
use Rattle.vf_model.specs.Evaluation.{Gives, evaluate, evaluate_all}
use Rattle.vf_model.specs.Acts.{given}
use Rattle.vf_model.specs.PreludeFunctions.{PreludeFunction, prelude_named}
use Rattle.vf_model.specs.Calls.{byte_of, calls_named, calls_prelude}
use Rattle.vf_model.specs.Steps.{act_of}
use Rattle.vf_meaning.specs.Assertions.{Environment}
use Rattle.vf_meaning.specs.Parts.{Part, nothing, IsSum}
use Rattle.vf_meaning.specs.Fits.{Fits}
use Rattle.vf_meaning.specs.Kept.{Returns, Promise, CallsPointer}
use Rattle.vf_meaning.proofs.Parts.{sums_turn, nothing_is_neutral}
use Rattle.vf_rules.specs.Types.{IsTypedPart, IsOfType}
use Rattle.vf_safety.specs.Safe.{Duties, duties_same, event_of, IsShaped, no_exchange, Went}
use Rattle.vf_safety.proofs.Steps.{InCall, turn_of, set_own, set_other}

-- what a call of a prelude function does
pub prelude_act : (p : ProgramTree) (s : State) (t : ℕ) (frame : Frame) (callers : Thread) (target : Option ℕ) (g : Identity) (operands : List ExpressionTree) (place : Place) (next : ℕ) (function : PreludeFunction) (ws : List Value)
    → evaluate_all frame.locals operands ≡ Gives ws → prelude_named g ≡ Some function
    → act_of p (turn_of s t frame callers) (Call target g operands place next) ≡ calls_prelude p (turn_of s t frame callers) target ws place next function
prelude_act p s t frame callers target g operands place next function ws value named =
    let turn = turn_of s t frame callers in
    ap (λ r. given r (λ vs. calls_named p turn target g vs place next (prelude_named g))) value ∙ ap (calls_named p turn target g ws place next) named

pub one_value : (locals : List (Option Value)) (a : ExpressionTree) (w : Value) → evaluate locals a ≡ Gives w → evaluate_all locals (a ∷ []) ≡ Gives (w ∷ [])
one_value locals a w h = grind (arith, h)

pub integer_no_void : {u : _} → Integer u ≡ Void → ⊥
integer_no_void h = cc

-- a byte is of type int
byte_small : (z : ℤ) → byte_of z ≤ 255
byte_small (pos a) = omega arith
byte_small (negsuc a) = omega arith

pub byte_in_range : (z : ℤ) → IsOfType (Integer types.Int) (values.Number (pos (byte_of z)))
byte_in_range z = small (byte_of z) (byte_small z)
  where
    small : (n : ℕ) → n ≤ 255 → InRange types.Int (pos n)
    small n h = (grind (arith, ints), grind (arith, ints, h))

pub result_then_step : (frame : Frame) (next : ℕ) (target : Option ℕ) (w : Value) → state.with_result (at_step frame next) target (Some w) ≡ at_step (state.with_result frame target (Some w)) next
result_then_step frame next None w = refl
result_then_step frame next (Some x) w = refl

module _ (e : Environment) (p : ProgramTree) (t : ℕ) (duties : Duties) (S : ℕ → Duties → Thread → Part → Type 0) where
  -- the run has ended, and nothing else has changed
  pub ended_went : (s : State) (frames : Thread) (own rest all : Part) (end : End) → IsSum own rest all → Fits all s.memory → IsTypedPart e p all → IsShaped p s.memory → slice_get s.threads t ≡ Some frames
      → InCall frames duties → ((grant : ℕ) (call : Promise) → CallsPointer e p s (event_of t grant) call → ⊥) → ((result : Option Value) → Returns p s t result → ⊥) → Went e p t S no_exchange duties s (ended s end) rest all
  ended_went s frames own rest all end sums fits typed shaped there within direct inside = record {
    frames = frames;
    own = own;
    given = nothing;
    leaked = nothing;
    unleaked = λ none. refl;
    lost = nothing;
    handed = refl;
    parted = nothing_is_neutral nothing;
    others = rest;
    all = all;
    given_up = sums_turn nothing rest rest (nothing_is_neutral rest);
    sums = sums;
    fits = fits;
    typed = typed;
    shaped = shaped;
    now = there;
    alone = λ u other unstarted. refl;
    begun = tt;
    unshared = λ b apart h. refl;
    unmoved = λ b apart h. refl;
    known = λ l c shared apart h. h;
    settled = tt;
    going = λ h. absurd (not_going h);
    owing = duties;
    within = within.within;
    owes = duties_same duties;
    called = λ grant call h. absurd (direct grant call h);
    leaves = λ result r n h. absurd (inside result r);
    finished = λ none. absurd (within.some_frames none);
  }
    where
      not_going : Some end ≡ None → ⊥
      not_going h = cc

  -- a thread with other frames and the same memory, after some output
  pub output_went : (s : State) (frame : Frame) (callers frames : Thread) (bytes : List ℕ) (own rest all : Part) → IsSum own rest all → Fits all s.memory → IsTypedPart e p all → IsShaped p s.memory → slice_get s.threads t ≡ Some (frame ∷ callers)
      → S t duties frames own → InCall frames duties → ((grant : ℕ) (call : Promise) → CallsPointer e p s (event_of t grant) call → ⊥) → ((result : Option Value) → Returns p s t result → ⊥) → Went e p t S no_exchange duties s (with_frames (after_output (turn_of s t frame callers) bytes) frames) rest all
  output_went s frame callers frames bytes own rest all sums fits typed shaped there safe within direct inside = record {
    frames = frames;
    own = own;
    given = nothing;
    leaked = nothing;
    unleaked = λ none. refl;
    lost = nothing;
    handed = refl;
    parted = nothing_is_neutral nothing;
    others = rest;
    all = all;
    given_up = sums_turn nothing rest rest (nothing_is_neutral rest);
    sums = sums;
    fits = fits;
    typed = typed;
    shaped = shaped;
    now = set_own s.threads t frames (frame ∷ callers) there;
    alone = λ u other unstarted. set_other s.threads t u frames other;
    begun = tt;
    unshared = λ b apart h. refl;
    unmoved = λ b apart h. refl;
    known = λ l c shared apart h. h;
    settled = tt;
    going = λ h. safe;
    owing = duties;
    within = within.within;
    owes = duties_same duties;
    called = λ grant call h. absurd (direct grant call h);
    leaves = λ result r n h. absurd (inside result r);
    finished = λ none. absurd (within.some_frames none);
  }
