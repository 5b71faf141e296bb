-- What C text sees where more locals are declared, and what it asks of locals, types and values.
use Rattle.std.proofs.Common.{◌≡◌, ℕ, suc, ◌+◌, Bool, true, false, cond, if◌then◌else◌, List, [], ◌∷◌, ◌++◌, length, map, filter, is_some, Option, Some, None, Result, Ok, Err, refl, sym, ap, ◌∙◌, append-nil, arith}
use Rattle.std.specs.List.{position_from}
use Rattle.std.specs.Str.{bytes_eq}
use Rattle.vf_base.specs.declared.refusal.Refusal.{Refusal}
use Rattle.vf_base.specs.declared.rule.Rule.TheVariants as rules
use Rattle.vf_names.specs.Names.{number_of}
use Rattle.vf_declared.specs.declared.ctype.CType.{CType}
use Rattle.vf_declared.specs.declared.locals.GhostLocal.{GhostLocal}
use Rattle.vf_declared.specs.declared.locals.Local.{Local}
use Rattle.vf_declared.specs.declared.locals.Local.TheVariants as locals
use Rattle.vf_declared.specs.declared.scope.Scope.{Scope}
use Rattle.vf_declared.specs.Changes.{IsAligned}
use Rattle.vf_declared.specs.Scopes.{local_of}
use Rattle.vf_syntax.specs.declared.operator.AssignmentOperator.{AssignmentOperator}
use Rattle.vf_syntax.specs.declared.operator.AssignmentOperator.TheVariants as assignments
use Rattle.vf_syntax.specs.declared.operator.StepOperator.{StepOperator}
use Rattle.vf_syntax.specs.declared.simple.Simple.{Simple}
use Rattle.vf_syntax.specs.declared.simple.Simple.TheVariants as simples
use Rattle.vf_syntax.specs.declared.written.CType.{CType as WrittenType}
use Rattle.vf_syntax.specs.ExprTree.{ExprTree}
use Rattle.vf_syntax.specs.ExprTree as tree
use Rattle.vf_typing.specs.declared.operand.Operand.{Operand}
use Rattle.vf_typing.specs.Names.{local_type, written_type}
use Rattle.vf_typing.specs.Operands.{assigned_refusal, used}
use Rattle.vf_typing.specs.Refusals.{refused}
use Rattle.vf_typing.specs.Types.{is_void}
use Rattle.vf_typing.specs.Simple.{assigned, assignment_refusal, is_target, refusal_of, refused_condition, refused_simple, step_refusal, takes_target, target, target_if}
use Rattle.vf_typing.specs.Typed.{named, typed}
use Rattle.vf_walk.specs.Statements.{count, left}
use Rattle.vf_erasure_laws.specs.seen.Seen.{is_real, real_locals, real_names, seen}
use Rattle.vf_erasure_laws.specs.seen.Unseen.{AddsGhosts}
use Rattle.vf_erasure_laws.proofs.seen.Leading.{expr_leads, led, written_leads}
use Rattle.vf_erasure_laws.proofs.seen.Lookups.{finds_seen, names_seen, seen_is}
use Rattle.vf_erasure_laws.proofs.seen.Same.{assigned_same}
use Rattle.vf_erasure_laws.proofs.erased.WalkingSteps.{refused_unless}
use Rattle.vf_erasure_laws.proofs.erased.WalkingExtends.{Extends, left_back, more}

pub filter_behind : {A : Type 0} (p : A → Bool) (xs ys : List A) → filter p (xs ++ ys) ≡ filter p xs ++ filter p ys
filter_behind p [] ys = refl
filter_behind p (x ∷ xs) ys = by_test (p x) (filter_behind p xs ys)
  where
    by_test : (b : Bool) → filter p (xs ++ ys) ≡ filter p xs ++ filter p ys → cond b (x ∷ filter p (xs ++ ys)) (filter p (xs ++ ys)) ≡ cond b (x ∷ filter p xs) (filter p xs) ++ filter p ys
    by_test true h = ap (λ zs. x ∷ zs) h
    by_test false h = h

pub as_long : {A B : Type 0} (x : A) (xs : List A) (y : B) (ys : List B) → length (x ∷ xs) ≡ length (y ∷ ys) → length xs ≡ length ys
as_long x xs y ys e = grind (arith, e)

pub longer : {A : Type 0} {n : ℕ} → suc n ≡ 0 → A
longer {n = n} e = absurd (no n e)
  where
    no : (n : ℕ) → suc n ≡ 0 → ⊥
    no n e = grind (arith, e)

-- the names of the locals of C among locals, and others behind them
pub real_names_behind : (xs ys : List (List ℕ)) (ls ks : List Local) → length xs ≡ length ls → real_names (xs ++ ys) (ls ++ ks) ≡ real_names xs ls ++ real_names ys ks
real_names_behind [] ys [] ks e = refl
real_names_behind [] ys (l ∷ ls) ks e = longer (sym e)
real_names_behind (x ∷ xs) ys [] ks e = longer e
real_names_behind (x ∷ xs) ys (locals.Real t ∷ ls) ks e = ap (λ zs. x ∷ zs) (real_names_behind xs ys ls ks (as_long x xs (locals.Real t) ls e))
real_names_behind (x ∷ xs) ys (locals.Ghost g ∷ ls) ks e = real_names_behind xs ys ls ks (as_long x xs (locals.Ghost g) ls e)

pub real_beside : (xs : List (List ℕ)) (ls : List Local) → length xs ≡ length ls → length (real_names xs ls) ≡ length (filter is_real ls)
real_beside [] [] e = refl
real_beside [] (l ∷ ls) e = longer (sym e)
real_beside (x ∷ xs) [] e = longer e
real_beside (x ∷ xs) (locals.Real t ∷ ls) e = ap suc (real_beside xs ls (as_long x xs (locals.Real t) ls e))
real_beside (x ∷ xs) (locals.Ghost g ∷ ls) e = real_beside xs ls (as_long x xs (locals.Ghost g) ls e)

-- none of C is among those of annotations
pub no_real_names : (xs : List (List ℕ)) (gs : List GhostLocal) → real_names xs (map locals.Ghost gs) ≡ []
no_real_names [] gs = refl
no_real_names (x ∷ xs) [] = refl
no_real_names (x ∷ xs) (g ∷ gs) = no_real_names xs gs

no_real : (gs : List GhostLocal) → filter is_real (map locals.Ghost gs) ≡ []
no_real [] = refl
no_real (g ∷ gs) = no_real gs

-- ---- more locals
pub seen_aligned : (s : Scope) → IsAligned s.locals → IsAligned (seen s).locals
unfolding seen real_locals
seen_aligned s a = real_beside s.locals.names s.locals.meanings a

pub seen_more : (s : Scope) (xs : List (List ℕ)) (ls : List Local) → IsAligned s.locals → seen (more s xs ls) ≡ more (seen s) (real_names xs ls) (filter is_real ls)
unfolding seen real_locals
seen_more s xs ls a = λ i. record (seen s) { locals = record { names = real_names_behind s.locals.names xs s.locals.meanings ls a i; meanings = filter_behind is_real s.locals.meanings ls i } }

pub seen_extends : {s t : Scope} → IsAligned s.locals → Extends s t → Extends (seen s) (seen t)
seen_extends {s} a h = record {
  names = real_names h.names h.meanings;
  meanings = filter is_real h.meanings;
  beside = real_beside h.names h.meanings h.beside;
  is = ap seen h.is ∙ seen_more s h.names h.meanings a;
}

pub seen_back : {s t : Scope} → IsAligned s.locals → Extends s t → left (count (seen s)) (seen t) ≡ seen s
seen_back {s} a h = left_back (seen_aligned s a) (seen_extends a h)

-- C text does not see more names of annotations
pub seen_ghosts : {s t : Scope} → IsAligned s.locals → AddsGhosts s t → seen t ≡ seen s
seen_ghosts {s} a h =
    ap seen h.is ∙ seen_more s h.names (map locals.Ghost h.ghosts) a
    ∙ (λ i. more (seen s) (no_real_names h.names h.ghosts i) (no_real h.ghosts i))
    ∙ (λ i. record (seen s) { locals = record { names = append-nil (seen s).locals.names i; meanings = append-nil (seen s).locals.meanings i } })

-- a name of no local is that of no local of C
real_position_missed : (t : List ℕ → Bool) (i j : ℕ) (ys : List (List ℕ)) (ls : List Local) → is_some (position_from t i ys) ≡ false → is_some (position_from t j (real_names ys ls)) ≡ false
real_position_missed t i j [] ls e = refl
real_position_missed t i j (y ∷ ys) [] e = refl
real_position_missed t i j (y ∷ ys) (l ∷ ls) e = by_test (t y) refl e (λ n. real_position_missed t (i + 1) n ys ls)
  where
    by_kind : (l : Local) → t y ≡ false → ((n : ℕ) → is_some (position_from t n (real_names ys ls)) ≡ false) → is_some (position_from t j (real_names (y ∷ ys) (l ∷ ls))) ≡ false
    by_kind (locals.Real c) h f = ap (λ b. is_some (cond b (Some j) (position_from t (j + 1) (real_names ys ls)))) h ∙ f (j + 1)
    by_kind (locals.Ghost g) h f = f j

    by_test : (b : Bool) → t y ≡ b → is_some (cond b (Some i) (position_from t (i + 1) ys)) ≡ false → ((n : ℕ) → is_some (position_from t (i + 1) ys) ≡ false → is_some (position_from t n (real_names ys ls)) ≡ false) → is_some (position_from t j (real_names (y ∷ ys) (l ∷ ls))) ≡ false
    by_test true h e f = absurd cc
    by_test false h e f = by_kind l h (λ n. f n e)

pub fresh_seen : (s : Scope) (x : List ℕ) → is_some (number_of s.locals.names x) ≡ false → is_some (number_of (seen s).locals.names x) ≡ false
unfolding seen real_locals
fresh_seen s x h = real_position_missed (bytes_eq x) 0 0 s.locals.names s.locals.meanings h

-- ---- types and values
pub written_seen : {c : CType} (s : Scope) (w : WrittenType) → written_type s w ≡ Ok c → written_type (seen s) w ≡ Ok c
written_seen s w h = ap (λ u. written_type u w) (seen_is s) ∙ led (written_leads s (names_seen s) (finds_seen s) w) h

pub typed_seen : {o : Operand} (s : Scope) (e : ExprTree) → typed s e ≡ Ok o → typed (seen s) e ≡ Ok o
typed_seen s e h = ap (λ u. typed u e) (seen_is s) ∙ led (expr_leads s (names_seen s) (finds_seen s) e) h

assigned_alike : (s : Scope) (c : CType) (r : Result Operand Refusal) → assigned_refusal (seen s) c r ≡ assigned_refusal s c r
assigned_alike s c r = ap (λ u. assigned_refusal u c r) (seen_is s) ∙ assigned_same s (names_seen s) c r

pub assigned_seen : (s : Scope) (c : CType) (e : ExprTree) → assigned_refusal s c (typed s e) ≡ None → assigned_refusal (seen s) c (typed (seen s) e) ≡ None
assigned_seen s c e h = by_type (typed s e) refl h
  where
    by_type : (r : Result Operand Refusal) → typed s e ≡ r → assigned_refusal s c r ≡ None → assigned_refusal (seen s) c (typed (seen s) e) ≡ None
    by_type (Err x) t h = absurd cc
    by_type (Ok o) t h = ap (assigned_refusal (seen s) c) (typed_seen s e t) ∙ assigned_alike s c (Ok o) ∙ h

pub condition_seen : (s : Scope) (e : ExprTree) → refused_condition s e ≡ None → refused_condition (seen s) e ≡ None
condition_seen s e h = by_type (typed s e) refl h
  where
    by_type : (r : Result Operand Refusal) → typed s e ≡ r → refusal_of (used r) ≡ None → refusal_of (used (typed (seen s) e)) ≡ None
    by_type (Err x) t h = absurd cc
    by_type (Ok o) t h = ap (λ r. refusal_of (used r)) (typed_seen s e t) ∙ h

-- ---- assignments and calls

-- a local of a type is seen
local_seen : {c : CType} (s : Scope) (x : List ℕ) → local_of s x ≡ Some (locals.Real c) → local_of (seen s) x ≡ Some (locals.Real c)
local_seen {c} s x h = ap (λ (u : Scope). local_of u x) (seen_is s) ∙ (finds_seen s).local x c h

-- an operand that may be assigned
record IsTargeted (s : Scope) (b : Bool) (e : ExprTree) : Type 0 where
  holds : b ≡ true
  operand : Operand
  types : typed s e ≡ Ok operand

targeted : (s : Scope) (b : Bool) (e : ExprTree) (r : Result Operand Refusal) → typed s e ≡ r → {o : Operand} → target_if b (used r) ≡ Ok o → IsTargeted s b e
targeted s b e (Err x) t h = absurd cc
targeted s b e (Ok v) t {o = o} h = by_void (is_void v.ctype) h
  where
    by_void : (z : Bool) → target_if b (if z then Err (refused rules.Typing v.place) else Ok v) ≡ Ok o → IsTargeted s b e
    by_void true h = absurd cc
    by_void false h = record { holds = (refused_unless v (refused rules.Typing v.place) b h).holds; operand = v; types = t }

target_there : (s : Scope) (e : ExprTree) {v : Operand} → typed s e ≡ Ok v → is_target s e ≡ true → is_target (seen s) e ≡ true
target_there s (tree.name_ p x) t h = by_local (local_of s x) refl t h
  where
    by_local : (l : Option Local) → local_of s x ≡ l → {v : Operand} → named p (local_type s p x l) ≡ Ok v → is_some l ≡ true → is_some (local_of (seen s) x) ≡ true
    by_local None e t h = absurd cc
    by_local (Some (locals.Real c)) e t h = ap is_some (local_seen s x e)
    by_local (Some (locals.Ghost g)) e t h = absurd cc
target_there s e t h = h

target_seen : (s : Scope) (e : ExprTree) {o : Operand} → target s e ≡ Ok o → target (seen s) e ≡ Ok o
target_seen s e h =
    let a = targeted s (is_target s e) e (typed s e) refl h in
    let there : is_target (seen s) e ≡ is_target s e = target_there s e a.types a.holds ∙ sym a.holds in
    let types : typed (seen s) e ≡ typed s e = typed_seen s e a.types ∙ sym a.types in
    (λ i. target_if (there i) (used (types i))) ∙ h

step_seen : (s : Scope) (o : StepOperator) (e : ExprTree) → step_refusal o (target s e) ≡ None → step_refusal o (target (seen s) e) ≡ None
step_seen s o e h = by_target (target s e) refl h
  where
    by_target : (r : Result Operand Refusal) → target s e ≡ r → step_refusal o r ≡ None → step_refusal o (target (seen s) e) ≡ None
    by_target (Err x) t h = absurd cc
    by_target (Ok v) t h = ap (step_refusal o) (target_seen s e t) ∙ h

unchanged : (o : AssignmentOperator) (l : Operand) (x y : Refusal) (b : Bool) → ◌≡◌ {A = Option Refusal} (if b then Some x else Some y) None → ⊥
unchanged o l x y true h = cc
unchanged o l x y false h = cc

no_assignment : (s : Scope) (o : AssignmentOperator) (l : Operand) (x : Refusal) → assignment_refusal s o l (Err x) ≡ None → ⊥
no_assignment s assignments.Becomes l x h = cc
no_assignment s o l x h = unchanged o l _ _ (takes_target o l.ctype) h

assignment_alike : (s : Scope) (o : AssignmentOperator) (l : Operand) (r : Result Operand Refusal) → assignment_refusal (seen s) o l r ≡ assignment_refusal s o l r
assignment_alike s assignments.Becomes l r = assigned_alike s l.ctype r
assignment_alike s o l r = refl

assignment_seen : (s : Scope) (o : AssignmentOperator) (l : Operand) (e : ExprTree) → assignment_refusal s o l (typed s e) ≡ None → assignment_refusal (seen s) o l (typed (seen s) e) ≡ None
assignment_seen s o l e h = by_type (typed s e) refl h
  where
    by_type : (r : Result Operand Refusal) → typed s e ≡ r → assignment_refusal s o l r ≡ None → assignment_refusal (seen s) o l (typed (seen s) e) ≡ None
    by_type (Err x) t h = absurd (no_assignment s o l x h)
    by_type (Ok v) t h = ap (assignment_refusal (seen s) o l) (typed_seen s e t) ∙ assignment_alike s o l (Ok v) ∙ h

-- an assignment or a call that is not refused
pub simple_seen : (s : Scope) (x : Simple) → refused_simple s x ≡ None → refused_simple (seen s) x ≡ None
simple_seen s (simples.Assignment a o q e) h = by_target (target s a) refl h
  where
    by_target : (r : Result Operand Refusal) → target s a ≡ r → assigned s o r (typed s e) ≡ None → assigned (seen s) o (target (seen s) a) (typed (seen s) e) ≡ None
    by_target (Err x) t h = absurd cc
    by_target (Ok l) t h = ap (λ r. assigned (seen s) o r (typed (seen s) e)) (target_seen s a t) ∙ assignment_seen s o l e h
simple_seen s (simples.StepAfter a o q) h = step_seen s o a h
simple_seen s (simples.StepBefore q o a) h = step_seen s o a h
simple_seen s (simples.Call e) h = by_type (typed s e) refl h
  where
    by_type : (r : Result Operand Refusal) → typed s e ≡ r → refusal_of r ≡ None → refusal_of (typed (seen s) e) ≡ None
    by_type (Err x) t h = absurd cc
    by_type (Ok o) t h = ap refusal_of (typed_seen s e t) ∙ h
