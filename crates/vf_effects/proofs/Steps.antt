-- Steps of threads: returns and new threads.
use Rattle.std.proofs.Common.{◌≡◌, ℕ, zero, suc, ◌<◌, ◌++◌, List, [], ◌∷◌, length, map, Option, Some, slice_get, Result, Ok, Err, OnOk, refl, sym, ap, subst, ◌∙◌, arith}
use Rattle.std.proofs.lemmas.List.{map-append}
use Rattle.vf_tree.specs.Core.{Identity, ProgramTree}
use Rattle.vf_model.specs.Values as values
use Rattle.vf_model.specs.State as model
use Rattle.vf_model.specs.State.{Turn, with_frames}
use Rattle.vf_model.specs.Calls.{returns_to}
use Rattle.vf_engine.specs.States.{thread_of}
use Rattle.vf_engine.specs.Changes.{frames_after}
use Rattle.vf_engine.specs.Happenings.{Happened}
use Rattle.vf_engine.specs.declared.state.Thread.{Thread}
use Rattle.vf_engine.specs.declared.state.Running.{Running}
use Rattle.vf_engine.specs.declared.effect.Effect.{Effect}

-- a return to a caller changes the frames alone
pub returns_below : (turn : Turn) (value : Option values.Value) (xs : List model.Frame) → 0 < length xs
    → returns_to turn value xs ≡ with_frames turn (frames_after turn.frame.target value xs)
returns_below turn value [] h = absurd (omega arith)
returns_below turn value (x ∷ xs) h = refl

there_before : {A : Type 0} (xs ys : List A) (i : ℕ) (x : A) → slice_get xs i ≡ Some x → slice_get (xs ++ ys) i ≡ Some x
there_before [] ys i x h = cc
there_before (y ∷ xs) ys zero x h = h
there_before (y ∷ xs) ys (suc i) x h = there_before xs ys i x h

-- a thread is where it was when one more stands behind
pub still_there : (xs ys : List Thread) (x : Thread) (i : ℕ) (of : Thread) → ys ≡ xs ++ x ∷ [] → slice_get xs i ≡ Some of → slice_get ys i ≡ Some of
still_there xs ys x i of more at = ap (λ zs. slice_get zs i) more ∙ there_before xs (x ∷ []) i of at

-- what threads with one more stand for
pub one_more_thread : (names : List Identity) (xs ys : List Thread) (x : Thread) (t : model.Thread) → ys ≡ xs ++ x ∷ [] → thread_of names x ≡ t
    → map (thread_of names) ys ≡ map (thread_of names) xs ++ t ∷ []
one_more_thread names xs ys x t more is =
    ap (map (thread_of names)) more ∙ map-append (thread_of names) xs (x ∷ []) ∙ ap (λ th. map (thread_of names) xs ++ th ∷ []) is

-- the turn with other threads
abbrev pub over_threads : Turn → List model.Thread → Turn
over_threads turn ts = record turn { state = record turn.state { threads = ts } }

-- what follows where a call has gone well
pub on_ok : {A E : Type 0} (r : Result A E) (P Q : Type 0) → (P → Q) → OnOk r P → OnOk r Q
on_ok (Ok x) P Q f h = f h
on_ok (Err e) P Q f h = tt

-- what has happened for an effect has happened for the effect that it is
pub same_effect : (names : List Identity) (p : ProgramTree) (old : Running) (thread grant : ℕ) (e f : Effect) (new : Running)
    → e ≡ f → Happened names p old thread grant f new → Happened names p old thread grant e new
same_effect names p old thread grant e f new is h = subst (λ x. Happened names p old thread grant x new) (sym is) h
