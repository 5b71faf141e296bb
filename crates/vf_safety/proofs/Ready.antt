-- A frame that is at a step, in a state that stands for its locals and its part.
use Rattle.std.proofs.Common.{◌≡◌, ℕ, suc, ◌<◌, pos, Bool, cond, List, ◌∷◌, length, slice_get, slice_set, Option, Some, None, refl, sym, ap, subst, ◌∙◌, arith}
use Rattle.std.specs.Prelude.{IsTrue}
use Rattle.vf_base.specs.declared.place.Place.{Place}
use Rattle.vf_tree.specs.Core.{Identity, TypeTree, ExpressionTree, Comparison, StepTree, Call, If, FunctionTree, ProgramTree}
use Rattle.vf_model.specs.Values.{Dyadic, Value, compares}
use Rattle.vf_model.specs.Values as values
use Rattle.vf_model.specs.State.{Frame, Thread, State, at_step, with_frames, goes_on, entered, function_named}
use Rattle.vf_model.specs.Evaluation.{Gives, evaluate, evaluate_all}
use Rattle.vf_model.specs.Acts.{Goes, given}
use Rattle.vf_model.specs.Calls.{calls_named, calls_number, calls_body}
use Rattle.vf_model.specs.Steps.{act_of}
use Rattle.vf_model.specs.PreludeFunctions.{prelude_named}
use Rattle.vf_meaning.specs.Fractions.{whole, IsPositive}
use Rattle.vf_meaning.specs.Ghost.{Sort, Numbered, Result, CurrentThread}
use Rattle.vf_meaning.specs.Valuations.{Valuation}
use Rattle.vf_meaning.specs.Assertions.{ContractTree, Environment}
use Rattle.vf_meaning.specs.Sorts.{HasSort, AreOfSorts}
use Rattle.vf_meaning.specs.Parts.{Part, nothing, ◌⊕◌, IsSum}
use Rattle.vf_meaning.specs.Satisfaction.{Satisfies}
use Rattle.vf_meaning.proofs.Parts.{sums_turn, nothing-⊕}
use Rattle.vf_rules.specs.Terms.{Term, stored}
use Rattle.vf_rules.specs.Terms as terms
use Rattle.vf_rules.specs.States.{SymbolicState, value_in, StoreMeans, StandsFor}
use Rattle.vf_rules.specs.Types.{IsTypedPart}
use Rattle.vf_rules.specs.Laws.{StoreSorted}
use Rattle.vf_rules.specs.Accept.{all_of_it, receiving, cell_chunk, new_chunks, TakesFields, facts_of_types, facts_of_result, call_store, HasContract, AreFixed, KeepsFixed, Accepts, do_set, do_if, do_load, do_store, do_allocate, do_free_null, do_free, do_call, do_return, do_leave, may_drop, may_change, may_open, may_close, IsOneOf, may_enter, may_repeat, may_know, may_split, may_leak, do_abort, do_put_char, do_print_int, do_call_pointer, do_prelude, pointer_store}
use Rattle.vf_meaning.specs.Ghost.{This}
use Rattle.vf_model.specs.Values.{number_of}
use Rattle.vf_rules.specs.Accept as accept
use Rattle.vf_rules.proofs.Terms.{stored_other}
use Rattle.vf_safety.specs.Safe.{Duties, Safe, Continues}
use Rattle.vf_safety.proofs.Steps.{Here, turn_of}
use Rattle.vf_safety.proofs.Typing.{AllMayBe, locals_set}

pub positive_whole : IsPositive whole
positive_whole = omega arith

pub some_same : {A : Type 0} {x y : A} → Some x ≡ Some y → x ≡ y
some_same e = cc

pub none_some : {A B : Type 0} {x : A} → None ≡ Some x → B
none_some e = cc

-- ---- what a function's contract makes of a call
module _ (e : Environment) (p : ProgramTree) (t : ℕ) where
  -- a function is safe for n steps under a contract, whatever the thread owes, from each call of it with typed arguments and a part that satisfies the precondition
  abbrev pub FunctionSafe : ℕ → ℕ → FunctionTree → ContractTree → Type 0
  FunctionSafe n number f k =
      (duty : Duties) (arguments : List Value) (w : Valuation) (callers : Thread) (target : Option ℕ) (q r own : Part) → length arguments ≡ k.parameters → AllMayBe f.signature.parameters arguments
      → ((j : ℕ) (a : Value) → slice_get arguments j ≡ Some a → w (Numbered j) ≡ a) → w CurrentThread ≡ values.Number (pos t) → AreOfSorts e w k.sorts → Satisfies e whole k.requires_this w q → IsTypedPart e p own
      → IsSum q r own → Continues e p t duty n callers target f.signature.result k w r → Safe e p t duty n (entered number f arguments target ∷ callers) own

  -- the same of a function under the contract of a type that it claims
  abbrev pub TypeSafe : ℕ → ℕ → FunctionTree → ContractTree → Identity → Type 0
  TypeSafe n number f k g =
      (duty : Duties) (arguments : List Value) (w : Valuation) (callers : Thread) (target : Option ℕ) (q r own : Part) → length arguments ≡ k.parameters → AllMayBe f.signature.parameters arguments
      → ((j : ℕ) (a : Value) → slice_get arguments j ≡ Some a → w (Numbered j) ≡ a) → w CurrentThread ≡ values.Number (pos t) → w This ≡ values.Function g → AreOfSorts e w k.sorts → Satisfies e whole k.requires_this w q → IsTypedPart e p own
      → IsSum q r own → Continues e p t duty n callers target f.signature.result k w r → Safe e p t duty n (entered number f arguments target ∷ callers) own

  -- each function of the program is safe for fewer steps than n, under its contract
  abbrev pub FunctionsSafe : ℕ → Type 0
  FunctionsSafe n = (j : ℕ) → j < n → (number : ℕ) (f : FunctionTree) (k : ContractTree) → slice_get p.functions number ≡ Some f → HasContract e f k → FunctionSafe j number f k

  -- and under the contract of each type that it claims
  abbrev pub TypesSafe : ℕ → Type 0
  TypesSafe n =
      (j : ℕ) → j < n → (g type : Identity) (k : ContractTree) → IsTrue (e.claims g type) → e.types type ≡ Some k → (number : ℕ) (f : FunctionTree) → function_named p g ≡ Some number → slice_get p.functions number ≡ Some f → TypeSafe j number f k g

  -- both
  pub record AllSafe (n : ℕ) : Type 0 where
    pub functions : FunctionsSafe n
    pub types : TypesSafe n

  pub all_fewer : (n : ℕ) → AllSafe (suc n) → AllSafe n
  all_fewer n h = record { functions = λ j l. h.functions j (omega (arith, l)); types = λ j l. h.types j (omega (arith, l)) }

  pub below : (n m : ℕ) → n < m → AllSafe m → AllSafe n
  below n m l h = record { functions = λ j i. h.functions j (omega (arith, l, i)); types = λ j i. h.types j (omega (arith, l, i)) }

module _ (e : Environment) (p : ProgramTree) (t : ℕ) (duty : Duties) where
  pub fewer : (n : ℕ) (callers : Thread) (target : Option ℕ) (type : TypeTree) (k : ContractTree) (w : Valuation) (r : Part) → Continues e p t duty (suc n) callers target type k w r → Continues e p t duty n callers target type k w r
  fewer n callers target type k w r h j l = h j (omega (arith, l))

  pub continues_below : (n m : ℕ) (callers : Thread) (target : Option ℕ) (type : TypeTree) (k : ContractTree) (w : Valuation) (r : Part) → n < m → Continues e p t duty m callers target type k w r → Continues e p t duty n callers target type k w r
  continues_below n m callers target type k w r l h j i = h j (omega (arith, l, i))

-- ---- calls
pub call_act : (p : ProgramTree) (s : State) (t : ℕ) (frame : Frame) (callers : Thread) (target : Option ℕ) (g : Identity) (operands : List ExpressionTree) (place : Place) (next number : ℕ) (callee : FunctionTree) (ws : List Value)
    → evaluate_all frame.locals operands ≡ Gives ws → prelude_named g ≡ None → function_named p g ≡ Some number → slice_get p.functions number ≡ Some callee
    → act_of p (turn_of s t frame callers) (Call target g operands place next) ≡ Goes (with_frames (turn_of s t frame callers) (entered number callee ws target ∷ at_step frame next ∷ callers))
call_act p s t frame callers target g operands place next number callee ws value outside named is =
    let turn = turn_of s t frame callers in
    ap (λ r. given r (λ vs. calls_named p turn target g vs place next (prelude_named g))) value
    ∙ ap (calls_named p turn target g ws place next) outside ∙ ap (calls_number p turn target ws place next) named ∙ ap (calls_body turn target ws place next number) is

pub if_act : (p : ProgramTree) (s : State) (t : ℕ) (frame : Frame) (callers : Thread) (c : Comparison) (a b : ExpressionTree) (y n : ℕ) (u w : Value) (o : Bool) → evaluate frame.locals a ≡ Gives u → evaluate frame.locals b ≡ Gives w → compares c u w ≡ o
    → act_of p (turn_of s t frame callers) (If c a b y n) ≡ Goes (with_frames (turn_of s t frame callers) (at_step frame (cond o y n) ∷ callers))
if_act p s t frame callers c a b y n u w o left right is =
    let turn = turn_of s t frame callers in
    ap (λ r. given r (λ v. given (evaluate frame.locals b) (λ x. Goes (goes_on turn (cond (compares c v x) y n))))) left
    ∙ ap (λ r. given r (λ x. Goes (goes_on turn (cond (compares c u x) y n)))) right ∙ ap (λ z. Goes (goes_on turn (cond z y n))) is

-- ---- stands for what is produced and consumed: helpers over variables
pub with_locals : (e : Environment) (v : Valuation) (st : SymbolicState) (locals : List (Option Value)) (names : Valuation) (q : Part) (x : ℕ) (u : Term) (w : Value) → value_in e v u ≡ w → StandsFor e v st locals names q
    → StandsFor e v (accept.with_local st x u) (slice_set locals x (Some w)) names q
with_locals e v st locals names q x u w is m = record { path = m.path; locals_mean = locals_set e v st.locals locals x u w is m.locals_mean; names_mean = m.names_mean; chunks_mean = m.chunks_mean }

pub nothing_left : (off left q : Part) → left ≡ nothing → IsSum off left q → off ≡ q
nothing_left off left q is s = sym ((sums_turn off left q s).adds ∙ ap (λ z. z ⊕ off) is ∙ nothing-⊕ off)

pub names_sorted : (e : Environment) (v : Valuation) (sorts : List Sort) (s : terms.Store) (w : Valuation) → StoreMeans e v s w → AreOfSorts e w sorts → StoreSorted e v sorts s
names_sorted e v sorts s w m h k so u is known = subst (λ z. HasSort e z so) (sym (m (Numbered k) u is)) (h k so known)

pub result_store_sorted : (e : Environment) (v : Valuation) (sorts : List Sort) (s : terms.Store) (u : Term) → StoreSorted e v sorts s → StoreSorted e v sorts (stored s Result u)
result_store_sorted e v sorts s u h k so x is known = h k so x (sym (stored_other s Result (Numbered k) u (λ z. clash z)) ∙ is) known
  where
    clash : Numbered k ≡ Result → ⊥
    clash z = cc

-- ---- bodies
module _ (e : Environment) (p : ProgramTree) (t : ℕ) (duty : Duties) (f : FunctionTree) (k : ContractTree) where
  -- a frame is at a step, in a state that stands for its locals and its part, and what comes after its return is safe
  pub record Ready (n : ℕ) (st : SymbolicState) (m : ℕ) (frame : Frame) (callers : Thread) (own : Part) : Type 0 where
    pub symbols : Valuation
    pub names : Valuation
    pub part : Part
    pub kept : Part
    pub function : slice_get p.functions frame.function ≡ Some f
    pub step : frame.step ≡ n
    pub stands : StandsFor e symbols st frame.locals names part
    pub of_sorts : AreOfSorts e names k.sorts
    pub thread : names CurrentThread ≡ values.Number (pos t)
    pub typed : IsTypedPart e p own
    pub sums : IsSum part kept own
    pub continues : Continues e p t duty m callers frame.target f.signature.result k names kept
    pub others : (u : ℕ) → AllSafe e p u m

  pub here : (n : ℕ) (st : SymbolicState) (m : ℕ) (frame : Frame) (callers : Thread) (own : Part) (s : State) (step : StepTree) → Ready n st m frame callers own → slice_get f.steps n ≡ Some step → s.end ≡ None → slice_get s.threads t ≡ Some (frame ∷ callers)
      → Here p s t f frame callers step
  here n st m frame callers own s step r is going frames = record { going = going; frames = frames; function = r.function; found = ap (slice_get f.steps) r.step ∙ is }

  -- the same frame in another state that stands for the same
  pub restated : (n : ℕ) (st new : SymbolicState) (m : ℕ) (frame : Frame) (callers : Thread) (own : Part) → (r : Ready n st m frame callers own) → (v : Valuation) → StandsFor e v new frame.locals r.names r.part → Ready n new m frame callers own
  restated n st new m frame callers own r v stands = record {
    symbols = v;
    names = r.names;
    part = r.part;
    kept = r.kept;
    function = r.function;
    step = r.step;
    stands = stands;
    of_sorts = r.of_sorts;
    thread = r.thread;
    typed = r.typed;
    sums = r.sums;
    continues = r.continues;
    others = r.others;
  }

  -- the same frame with less, in a state that stands for what is left
  pub leaves_less : (n : ℕ) (st new : SymbolicState) (m : ℕ) (frame : Frame) (callers : Thread) (own less : Part) → (r : Ready n st m frame callers own) → (v : Valuation) (q : Part) → StandsFor e v new frame.locals r.names q
      → IsTypedPart e p less → IsSum q r.kept less → Ready n new m frame callers less
  leaves_less n st new m frame callers own less r v q stands typed sums = record {
    symbols = v;
    names = r.names;
    part = q;
    kept = r.kept;
    function = r.function;
    step = r.step;
    stands = stands;
    of_sorts = r.of_sorts;
    thread = r.thread;
    typed = typed;
    sums = sums;
    continues = r.continues;
    others = r.others;
  }

  -- a step later, with other locals, another state and another part
  pub later : (n next : ℕ) (st new : SymbolicState) (m : ℕ) (frame : Frame) (callers : Thread) (own own' : Part) → (r : Ready n st (suc m) frame callers own) → (v : Valuation) (locals : List (Option Value)) (q : Part)
      → StandsFor e v new locals r.names q → IsTypedPart e p own' → IsSum q r.kept own' → Ready next new m (record frame { locals = locals; step = next }) callers own'
  later n next st new m frame callers own own' r v locals q stands typed sums = record {
    symbols = v;
    names = r.names;
    part = q;
    kept = r.kept;
    function = r.function;
    step = refl;
    stands = stands;
    of_sorts = r.of_sorts;
    thread = r.thread;
    typed = typed;
    sums = sums;
    continues = fewer e p t duty m callers frame.target f.signature.result k r.names r.kept r.continues;
    others = λ u. all_fewer e p u m (r.others u);
  }
