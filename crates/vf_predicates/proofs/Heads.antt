-- How a predicate goes on in front of its body, and where it stops.
use Rattle.std.proofs.Common.{◌≡◌, ◌↔◌, IsTrue, ℕ, Bool, true, false, List, [], Some, None, Result, Ok, Err, sym, ap, subst, ◌∙◌}
use Rattle.vf_base.specs.declared.refusal.RuleFault.{RuleFault}
use Rattle.vf_base.specs.declared.refusal.RuleFault.TheVariants as faults
use Rattle.vf_base.specs.declared.rule.Rule.TheVariants as rules
use Rattle.vf_sorts.specs.Sorts.{Sort}
use Rattle.vf_declared.specs.declared.declaration.GhostDeclaration.TheVariants as ghosts
use Rattle.vf_declared.specs.declared.scope.Scope.{Scope}
use Rattle.vf_declared.specs.Writing.{with_ghost}
use Rattle.vf_syntax.specs.declared.item.GhostParameter.{GhostParameter}
use Rattle.vf_syntax.specs.declared.written.Name.{Name}
use Rattle.vf_sorting.specs.Refusals.{refused}
use Rattle.vf_datatypes.specs.Datatypes.{with_next}
use Rattle.vf_datatypes.specs.NewNames.{name_refusal}
use Rattle.vf_datatypes.specs.Walking.{Gives, behind}
use Rattle.vf_heads.specs.Parameters.{Taken, none_taken, parameters_behind}
use Rattle.vf_heads.proofs.Steps.{passed, stop}
use Rattle.vf_walk.specs.Walking.{Follows, Only, Then, Walked}
use Rattle.vf_walk.specs.Walking as walking
use Rattle.vf_walk.proofs.Steps.{end_of, next_of}
use Rattle.vf_predicates.specs.Earlier.{AreSame, again_refusal, earlier, seen_too, sorts_of}
use Rattle.vf_predicates.specs.Predicates.{HeadComes, IsAgain, again_behind, first_behind, with_predicate}
use Rattle.vf_predicates.specs.Predicates as predicates

-- a walk of one notation is a walk of the other
pub gives_too : {A : Type 0} (r : Result (Unit {0}) RuleFault) (t : A) (w : Result A _) → Gives r t w → walking.Gives r t w
gives_too (Ok u) t w h = h
gives_too (Err (faults.Refused x)) t w h = h
gives_too (Err faults.Memory) t w h = h

-- the parameters are refused
pub first_stops : (n : Name) (gs : List GhostParameter) (s u v : Scope) (k : Taken) (e : RuleFault) → name_refusal s n ≡ None → u ≡ with_next s n → Gives (Err e) k (parameters_behind [] gs (none_taken u)) → Gives (Err e) v (first_behind n gs s)
first_stops n gs s u v k e m q h =
    passed (name_refusal s n) (Err e) v (behind with_predicate (parameters_behind [] gs (none_taken (with_next s n)))) m
    (stop with_predicate (parameters_behind [] gs (none_taken (with_next s n))) e k v (subst (λ (w : Scope). Gives (Err e) k (parameters_behind [] gs (none_taken w))) q h))

-- the parameters are taken
pub first_goes : (n : Name) (gs : List GhostParameter) (s u v w : Scope) (ts : List Sort) (r : Result (Unit {0}) RuleFault) → name_refusal s n ≡ None → u ≡ with_next s n → parameters_behind [] gs (none_taken u) ≡ Ok (record { scope = w; sorts = ts }) → v ≡ with_ghost w (ghosts.Predicate ts) → r ≡ Ok tt → Gives r v (first_behind n gs s)
first_goes n gs s u v w ts r m q h e is =
    subst (λ y. Gives y v (first_behind n gs s)) (sym is)
    (passed (name_refusal s n) (Ok tt) v (behind with_predicate (parameters_behind [] gs (none_taken (with_next s n)))) m
    (ap (behind with_predicate) (subst (λ (x : Scope). parameters_behind [] gs (none_taken x) ≡ Ok (record { scope = w; sorts = ts })) q h) ∙ ap Ok (sym e)))

-- nothing stands against a predicate that is declared once more
pub again_passes : (b : Bool) (n : Name) (gs : List GhostParameter) (k : ℕ) (s : Scope) (t : Taken) (r : Result (Unit {0}) RuleFault) → again_refusal b s n k ≡ None → Gives r t (parameters_behind [] gs (none_taken s)) → Gives r t (again_behind b n gs k s)
again_passes b n gs k s t r h g = passed (again_refusal b s n k) r t (parameters_behind [] gs (none_taken s)) h g

-- no truth value is both
pub is_not : {b : Bool} → b ≡ false → b ≡ true → ⊥
is_not f t = absurd cc

-- its parameters have other sorts than before
pub agree_differs : (n : Name) (k : ℕ) (s t : Scope) (ts us : List Sort) (b : Bool) (e : RuleFault) → us ≡ sorts_of s k → (IsTrue b ↔ AreSame ts us) → b ≡ false → e ≡ faults.Refused (refused rules.Name n.place) → Follows (IsAgain n k (record { scope = s; sorts = ts })) (Err e) t
agree_differs n k s t ts us b e w i f q =
    subst (λ (d : RuleFault). Follows (IsAgain n k (record { scope = s; sorts = ts })) (Err d) t) (sym q)
    (walking.to_refusal (predicates.differs (λ h. is_not f (i.1 (subst (AreSame ts) (sym w) h)))))

-- they have the same sorts
pub agree_well : (n : Name) (k : ℕ) (s t : Scope) (ts us : List Sort) (b : Bool) (r : Result (Unit {0}) RuleFault) → us ≡ sorts_of s k → (IsTrue b ↔ AreSame ts us) → b ≡ true → t ≡ seen_too s n → r ≡ Ok tt → Follows (IsAgain n k (record { scope = s; sorts = ts })) r t
agree_well n k s t ts us b r w i f q is =
    subst (λ (x : Result (Unit {0}) RuleFault). Follows (IsAgain n k (record { scope = s; sorts = ts })) x t) (sym is)
    (subst (λ (u : Scope). Follows (IsAgain n k (record { scope = s; sorts = ts })) (Ok tt) u) (sym q)
    (walking.to_end (predicates.agreed (subst (AreSame ts) w (i.0 f)))))

-- what the first part of a predicate that is declared once more comes to
more : {b : Bool} {n : Name} {gs : List GhostParameter} {k : ℕ} {s t : Scope} {r : Result (Unit {0}) RuleFault} → earlier s n ≡ Some k → Follows (Then (Only (again_behind b n gs k s)) (IsAgain n k)) r t → Follows (HeadComes b n gs s) r t
more h (walking.to_end p) = walking.to_end (predicates.again h p)
more h (walking.to_refusal p) = walking.to_refusal (predicates.again h p)
more h walking.out_of_memory = walking.out_of_memory

-- its parameters are refused
pub again_stops : (b : Bool) (n : Name) (gs : List GhostParameter) (k : ℕ) (s t : Scope) (x : Taken) (e : RuleFault) (r : Result (Unit {0}) RuleFault) → earlier s n ≡ Some k → Gives (Err e) x (again_behind b n gs k s) → r ≡ Err e → Follows (HeadComes b n gs s) r t
again_stops b n gs k s t x e r h g is = more h (end_of (again_behind b n gs k s) x (gives_too (Err e) x (again_behind b n gs k s) g) is)

-- its parameters are taken
pub again_goes : (b : Bool) (n : Name) (gs : List GhostParameter) (k : ℕ) (s t : Scope) (x : Taken) (r : Result (Unit {0}) RuleFault) → earlier s n ≡ Some k → again_behind b n gs k s ≡ Ok x → Follows (IsAgain n k x) r t → Follows (HeadComes b n gs s) r t
again_goes b n gs k s t x r h g f = more h (next_of g f)

-- a predicate that is declared for the first time
pub first_comes : (b : Bool) (n : Name) (gs : List GhostParameter) (s t : Scope) (r : Result (Unit {0}) RuleFault) → earlier s n ≡ None → Gives r t (first_behind n gs s) → Follows (HeadComes b n gs s) r t
first_comes b n gs s t (Ok u) h g = walking.to_end (predicates.new h g)
first_comes b n gs s t (Err (faults.Refused x)) h g = walking.to_refusal (predicates.new h g)
first_comes b n gs s t (Err faults.Memory) h g = walking.out_of_memory
