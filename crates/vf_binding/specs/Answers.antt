-- What binding answers.
use Rattle.std.specs.Prelude.{◌≡◌, Bool, List, length, Option, Some, None, Result}
use Rattle.vf_base.specs.declared.place.Place.{Place}
use Rattle.vf_base.specs.declared.refusal.RuleFault.{RuleFault}
use Rattle.vf_sorts.specs.Sorts.{Sort}
use Rattle.vf_sorts.specs.Unknowns.{Known}
use Rattle.vf_declared.specs.declared.scope.Scope.{Scope}
use Rattle.vf_syntax.specs.declared.pattern.Amount.{Amount}
use Rattle.vf_syntax.specs.declared.pattern.Factor.{Factor}
use Rattle.vf_syntax.specs.declared.pattern.FactorLink.{FactorLink}
use Rattle.vf_syntax.specs.declared.pattern.Pattern.{Pattern}
use Rattle.vf_syntax.specs.declared.pattern.Share.{Share}
use Rattle.vf_syntax.specs.declared.written.Name.{Name}
use Rattle.vf_syntax.specs.GhostExprTree.{GhostExprTree}
use Rattle.vf_sorting.specs.declared.context.Context.{Context}
use Rattle.vf_sorting.specs.Answers.{Answers, Kept}
use Rattle.vf_binding.specs.declared.bound.Bound.{Bound}
use Rattle.vf_binding.specs.declared.chunk_sorts.ChunkSorts.{ChunkSorts}
use Rattle.vf_binding.specs.Bound.{name_refusal, with_bound}
use Rattle.vf_binding.specs.Patterns.{AllBind, AnyFailsToBind, AnyHeadFails, Binds, FailsToBind, HeadFails, HeadPasses, HeadsFail, HeadsPass, ListFails}
use Rattle.vf_binding.specs.Shares.{AmountFails, AmountPasses, AnyLinkFails, FactorFails, FactorPasses, LinksPass, ShareFails, SharePasses}
use Rattle.vf_binding.specs.Chunks.{ArgumentsBind, ArgumentsFail, CellBinds, CellFails, ChunkBinds, ChunkFails, IsTakenBelow, TakenFails, TruthFails, TruthPasses}

-- an answer for a name is that it is bound at a sort, or why it may not be
pub record IsNamed {A : Type 0} (s : Scope) (b : Bound) (n : Name) (t : Sort) (r : Result A RuleFault) (b' : Bound) : Type 0 where
  pub answers : Answers (λ a. (name_refusal s b n ≡ None) × (b' ≡ with_bound b n.text t)) (λ x. name_refusal s b n ≡ Some x) r

-- an answer for a pattern is that it stands for values of a sort, or its refusal
pub record IsBound {A : Type 0} (s : Scope) (c : Context) (k : Known) (b : Bound) (w : Sort) (x : Pattern) (r : Result A RuleFault) (k' : Known) (b' : Bound) : Type 0 where
  pub answers : Answers (λ a. Kept (Binds s c k b w x k' b') k k') (FailsToBind s c k b w x) r

-- the same of patterns from left to right
pub record AreBound {A : Type 0} (s : Scope) (c : Context) (k : Known) (b : Bound) (ts : List Sort) (xs : List Pattern) (r : Result A RuleFault) (k' : Known) (b' : Bound) : Type 0 where
  pub answers : Answers (λ a. Kept (AllBind s c k b ts xs k' b') k k') (AnyFailsToBind s c k b ts xs) r

-- the same of patterns in the parentheses behind what stands at a place, whose count may be another one
pub record IsListBound {A : Type 0} (s : Scope) (c : Context) (k : Known) (b : Bound) (ts : List Sort) (g : Place) (xs : List Pattern) (r : Result A RuleFault) (k' : Known) (b' : Bound) : Type 0 where
  pub answers : Answers (λ a. Kept (AllBind s c k b ts xs k' b') k k') (ListFails s c k b ts g xs) r

-- an answer for a pattern that may bind nothing
pub record IsHead {A : Type 0} (s : Scope) (c : Context) (k : Known) (t : Sort) (x : Pattern) (r : Result A RuleFault) (k' : Known) : Type 0 where
  pub answers : Answers (λ a. Kept (HeadPasses s c k t x k') k k') (HeadFails s c k t x) r

-- the same of such patterns from left to right
pub record AreHeads {A : Type 0} (s : Scope) (c : Context) (k : Known) (ts : List Sort) (xs : List Pattern) (r : Result A RuleFault) (k' : Known) : Type 0 where
  pub answers : Answers (λ a. Kept (HeadsPass s c k ts xs k') k k') (AnyHeadFails s c k ts xs) r

-- the same of patterns in the parentheses behind what stands at a place, whose count may be another one
pub record IsHeadList {A : Type 0} (s : Scope) (c : Context) (k : Known) (ts : List Sort) (g : Place) (xs : List Pattern) (r : Result A RuleFault) (k' : Known) : Type 0 where
  pub answers : Answers (λ a. Kept (HeadsPass s c k ts xs k') k k') (HeadsFail s c k ts g xs) r

-- an answer for a factor or divisor of a share
pub record IsFactor {A : Type 0} (s : Scope) (c : Context) (k : Known) (d : Bool) (f : Factor) (r : Result A RuleFault) (k' : Known) : Type 0 where
  pub answers : Answers (λ a. Kept (FactorPasses s c k d f k') k k') (FactorFails s c k d f) r

-- the same of factors and divisors from left to right
pub record AreFactors {A : Type 0} (s : Scope) (c : Context) (k : Known) (ls : List FactorLink) (r : Result A RuleFault) (k' : Known) : Type 0 where
  pub answers : Answers (λ a. Kept (LinksPass s c k ls k') k k') (AnyLinkFails s c k ls) r

-- an answer for how much a share is
pub record IsAmount {A : Type 0} (s : Scope) (c : Context) (k : Known) (b : Bound) (m : Amount) (r : Result A RuleFault) (k' : Known) (b' : Bound) : Type 0 where
  pub answers : Answers (λ a. Kept (AmountPasses s c k b m k' b') k k') (AmountFails s c k b m) r

-- an answer for a share, where there is one
pub record IsShare {A : Type 0} (s : Scope) (c : Context) (k : Known) (b : Bound) (h : Option Share) (r : Result A RuleFault) (k' : Known) (b' : Bound) : Type 0 where
  pub answers : Answers (λ a. Kept (SharePasses s c k b h k' b') k k') (ShareFails s c k b h) r

-- an answer for the parentheses behind the name of a chunk, which stands at a place
pub record AreArguments {A : Type 0} (s : Scope) (c : Context) (k : Known) (b : Bound) (t : ChunkSorts) (g : Place) (xs : List Pattern) (ys : Option (List Pattern)) (r : Result A RuleFault) (k' : Known) (b' : Bound) : Type 0 where
  pub answers : Answers (λ a. Kept (ArgumentsBind s c k b t xs ys k' b') k k') (ArgumentsFail s c k b t g xs ys) r

-- an answer for the parentheses behind the name of a chunk that takes something
pub record IsTakenBound {A : Type 0} (s : Scope) (c : Context) (k : Known) (b : Bound) (t : ChunkSorts) (n : Name) (xs : List Pattern) (ys : Option (List Pattern)) (r : Result A RuleFault) (k' : Known) (b' : Bound) : Type 0 where
  pub answers : Answers (λ a. Kept (IsTakenBelow (length k) t × ArgumentsBind s c k b t xs ys k' b') k k') (TakenFails s c k b t n xs ys) r

-- an answer for a chunk whose name takes nothing
pub record IsTruth {A : Type 0} (s : Scope) (c : Context) (k : Known) (h : Option Share) (n : Name) (xs : List Pattern) (ys : Option (List Pattern)) (r : Result A RuleFault) (k' : Known) : Type 0 where
  pub answers : Answers (λ a. Kept (TruthPasses s c k h n xs ys k') k k') (TruthFails s c k h n xs ys) r

-- an answer for a chunk
pub record IsChunk {A : Type 0} (s : Scope) (c : Context) (k : Known) (b : Bound) (h : Option Share) (n : Name) (xs : List Pattern) (ys : Option (List Pattern)) (r : Result A RuleFault) (k' : Known) (b' : Bound) : Type 0 where
  pub answers : Answers (λ a. Kept (ChunkBinds s c k b h n xs ys k' b') k k') (ChunkFails s c k b h n xs ys) r

-- an answer for a cell
pub record IsCell {A : Type 0} (s : Scope) (c : Context) (k : Known) (b : Bound) (h : Option Share) (e : GhostExprTree) (f : Name) (x : Pattern) (r : Result A RuleFault) (k' : Known) (b' : Bound) : Type 0 where
  pub answers : Answers (λ a. Kept (CellBinds s c k b h e f x k' b') k k') (CellFails s c k b h e f x) r
