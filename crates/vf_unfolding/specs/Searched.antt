-- What a search for the next unfolding finds, over the numbered terms with their depths, and what the closure of literals has equal, no fixpoint being unfolded.
use Rattle.std.specs.Prelude.{◌≡◌, ℕ, ◌<◌, max, pos, List, length, Contains, Option, Some, slice_index}
use Rattle.vf_closure.specs.Terms.{Head, Constructor, Term, term, number}
use Rattle.vf_closure.specs.Literals.{Literal}
use Rattle.vf_closure.specs.Closure.{Unfoldings, no_unfoldings, Same}
use Rattle.vf_question.specs.declared.unfolding.Unfolding.{Unfolding}
use Rattle.vf_question.specs.Numbered.{place}
use Rattle.vf_question.specs.Plain.{IsPlain}
use Rattle.vf_question.specs.Questions.{at}
use Rattle.vf_question.specs.Unfolded.{least_depth, WasMade}

-- a head is a constructor
abbrev pub IsConstructor : Head → Type 0
IsConstructor (Constructor c) = Unit {0}
IsConstructor _ = ⊥

-- a term is one of a constructor
abbrev pub IsOfConstructor : Term → Type 0
IsOfConstructor (term h ps) = IsConstructor h

-- a depth is that of the numbered term: 0 for 0 and for the terms of the question, which have the asked numbers
pub record IsDepth (asked : List ℕ) (made : List Unfolding) (ts : List Term) (k d : ℕ) : Type 0 where
  pub zero : at ts k ≡ number (pos 0) → d ≡ 0
  pub asked_for : Contains asked k → d ≡ 0
  pub made_for : (at ts k ≡ number (pos 0) → ⊥) → (Contains asked k → ⊥) → d ≡ least_depth made (at ts k)

-- depths are those of the numbered terms, each at its number
pub record AreDepths (asked : List ℕ) (made : List Unfolding) (ts : List Term) (ds : List ℕ) : Type 0 where
  pub long : length ds ≡ length ts
  pub each : (k : ℕ) → k < length ts → IsDepth asked made ts k (slice_index ds k)

-- an application is unfolded no deeper than 4; and where there is something to unfold it to, that was made at no greater depth
abbrev pub IsExhausted : List Unfolding → Term → ℕ → Option Term → Type 0
IsExhausted made t d o = d < 4 → (b : Term) → o ≡ Some b → WasMade made t b d

-- an unfolding of an application at a depth to what there is to unfold it to, which was not made
pub record IsNew (made : List Unfolding) (t : Term) (d : ℕ) (o : Option Term) (m : Unfolding) : Type 0 where
  pub application : m.application ≡ t
  pub depth : m.depth ≡ d
  pub low : d < 4
  pub body : o ≡ Some m.body
  pub plain : IsPlain m.body
  pub new : WasMade made t m.body d → ⊥

-- if the term k is a constructor's and equal to the term s, an application at depth d has been unfolded by it
abbrev pub IsCaseExhausted : Unfoldings → List Unfolding → List Literal → List Term → List ℕ → Term → ℕ → ℕ → ℕ → Type 0
IsCaseExhausted u made literals ts ds t d s k = IsOfConstructor (at ts k) → Same no_unfoldings literals (at ts s) (at ts k) → IsExhausted made t (max d (slice_index ds k)) (u.case t (at ts k))

-- a new unfolding by the term k, which is a constructor's and equal to the term s
pub record IsNewCase (u : Unfoldings) (made : List Unfolding) (literals : List Literal) (ts : List Term) (ds : List ℕ) (t : Term) (d s k : ℕ) (m : Unfolding) : Type 0 where
  pub constructor : IsOfConstructor (at ts k)
  pub equal : Same no_unfoldings literals (at ts s) (at ts k)
  pub is : IsNew made t (max d (slice_index ds k)) (u.case t (at ts k)) m

-- an application was unfolded by each term that is equal to the argument that it goes by
abbrev pub AreCasesExhausted : Unfoldings → List Unfolding → List Literal → List Term → List ℕ → Term → ℕ → Type 0
AreCasesExhausted u made literals ts ds t d = (a : Term) → u.switched t ≡ Some a → place a ts < length ts → (k : ℕ) → k < length ts → IsCaseExhausted u made literals ts ds t d (place a ts) k

-- a new unfolding by one of them
pub record IsNewSwitched (u : Unfoldings) (made : List Unfolding) (literals : List Literal) (ts : List Term) (ds : List ℕ) (t : Term) (d : ℕ) (m : Unfolding) : Type 0 where
  pub argument : Term
  pub switched : u.switched t ≡ Some argument
  pub there : place argument ts < length ts
  pub by : ℕ
  pub within : by < length ts
  pub is : IsNewCase u made literals ts ds t d (place argument ts) by m

-- an application was unfolded to its body and by each case
pub record IsUnfolded (u : Unfoldings) (made : List Unfolding) (literals : List Literal) (ts : List Term) (ds : List ℕ) (t : Term) (d : ℕ) : Type 0 where
  pub body : IsExhausted made t d (u.body t)
  pub cases : AreCasesExhausted u made literals ts ds t d

-- a new unfolding of an application, to its body or by a case
pub data IsNewOf (u : Unfoldings) (made : List Unfolding) (literals : List Literal) (ts : List Term) (ds : List ℕ) (t : Term) (d : ℕ) (m : Unfolding) : Type 0 where
  to_body : IsNew made t d (u.body t) m → IsNewOf u made literals ts ds t d m
  by_case : IsNewSwitched u made literals ts ds t d m → IsNewOf u made literals ts ds t d m
