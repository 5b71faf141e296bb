-- Predicates, predicate constructors and bodies of families come to what the functions come to, and to nothing else.
use Rattle.std.proofs.Common.{◌≡◌, refl, ◌∙◌, ap, subst, ℕ, Bool, true, false, List, [], length, Option, Some, None, Result, Ok, Err}
use Rattle.vf_base.specs.declared.refusal.Refusal.{Refusal}
use Rattle.vf_base.specs.declared.rule.Rule.TheVariants as rules
use Rattle.vf_declared.specs.declared.scope.Scope.{Scope}
use Rattle.vf_declared.specs.Scopes.{ghost_of, sides_of_ghost}
use Rattle.vf_declared.specs.Writing.{with_instance}
use Rattle.vf_syntax.specs.declared.item.GhostParameter.{GhostParameter}
use Rattle.vf_syntax.specs.declared.written.Name.{Name}
use Rattle.vf_syntax.specs.AssertionTree.{PartTrees}
use Rattle.vf_sorting.specs.Refusals.{refused}
use Rattle.vf_heads.specs.Parameters.{Taken, none_taken, parameters_behind}
use Rattle.vf_walk.specs.Walking.{Only, Then, Walked}
use Rattle.vf_walk.specs.Walking as walking
use Rattle.vf_predicates.specs.Bodies.{BodyComes}
use Rattle.vf_predicates.specs.Earlier.{AreSame, earlier, or_none, seen_too, sorts_of}
use Rattle.vf_predicates.specs.Instances.{AreFound, InstanceComes, IsInstance, NamesFail, family_at, family_sorts, function_at, has_instance}
use Rattle.vf_predicates.specs.Instances as instances
use Rattle.vf_predicates.specs.Predicates.{ConstructorComes, HeadComes, IsAgain, PredicateBodyComes, PredicateComes, again_behind}
use Rattle.vf_predicates.specs.Predicates as predicates
use Rattle.vf_order_laws.specs.walk.Contracting.{body_of}
use Rattle.vf_order_laws.specs.walk.Following.{after, pair}
use Rattle.vf_order_laws.specs.walk.Predicates.{again_of, agreed_of, by_family, by_function, constructor_of, head_by, head_of, instance_at, instance_of, named_of, predicate_body_of, predicate_of}
use Rattle.vf_order_laws.specs.walk.Agreeing.{AreWalked}
use Rattle.vf_order_laws.proofs.walk.Walking.{decided_walked, walked_as, only_walked, then_walked}
use Rattle.vf_order_laws.proofs.walk.AlikeTold.{same_told}
use Rattle.vf_order_laws.proofs.walk.ContractsCome.{body_comes, body_found}
use Rattle.vf_order_laws.proofs.walk.Finding.{Found, found, found_where, stopped}
use Rattle.vf_order_laws.proofs.walk.Results.{where_not, where_so}

pub body_walked : (n : ℕ) (xs : PartTrees) (s : Scope) → AreWalked (BodyComes n xs s) (body_of n xs s)
body_walked n xs s = record { comes = λ w h. body_comes h; found = body_found n xs s }

-- ---- predicates
again_agrees : (n : Name) (k : ℕ) (t : Taken) → AreSame t.sorts (sorts_of t.scope k) → (w : Walked) → IsAgain n k t w → ◌≡◌ {A = Walked} (Ok (seen_too t.scope n)) w
again_agrees n k t e w (predicates.agreed a) = refl
again_agrees n k t e w (predicates.differs a) = absurd (a e)

again_differs : (n : Name) (k : ℕ) (t : Taken) → (AreSame t.sorts (sorts_of t.scope k) → ⊥) → (w : Walked) → IsAgain n k t w → ◌≡◌ {A = Walked} (Err (refused rules.Name n.place)) w
again_differs n k t e w (predicates.agreed a) = absurd (e a)
again_differs n k t e w (predicates.differs a) = refl

again_walked : (n : Name) (k : ℕ) (t : Taken) → AreWalked (IsAgain n k t) (again_of n k t)
again_walked n k t = decided_walked _ (same_told t.sorts (sorts_of t.scope k))
    (λ e. record { comes = again_agrees n k t e; found = predicates.agreed e })
    (λ e. record { comes = again_differs n k t e; found = predicates.differs e })

-- a predicate that is declared once more
more_walked : (b : Bool) (n : Name) (gs : List GhostParameter) (k : ℕ) (s : Scope) → AreWalked (Then (Only (again_behind b n gs k s)) (IsAgain n k)) (after (again_of n k) (again_behind b n gs k s))
more_walked b n gs k s = then_walked (only_walked _) (λ t. again_walked n k t)

head_comes : (b : Bool) (n : Name) (gs : List GhostParameter) (s : Scope) (w : Walked) → HeadComes b n gs s w → head_of b n gs s ≡ w
head_comes b n gs s w (predicates.new e h) = ap (head_by b n gs s) e ∙ h
head_comes b n gs s w (predicates.again {k = k} e h) = ap (head_by b n gs s) e ∙ (more_walked b n gs k s).comes w h

head_found : (b : Bool) (n : Name) (gs : List GhostParameter) (s : Scope) → HeadComes b n gs s (head_of b n gs s)
head_found b n gs s = by (earlier s n) refl
  where
    by : (o : Option ℕ) → earlier s n ≡ o → HeadComes b n gs s (head_by b n gs s o)
    by None e = predicates.new e refl
    by (Some k) e = predicates.again e (more_walked b n gs k s).found

head_walked : (b : Bool) (n : Name) (gs : List GhostParameter) (s : Scope) → AreWalked (HeadComes b n gs s) (head_of b n gs s)
head_walked b n gs s = record { comes = head_comes b n gs s; found = head_found b n gs s }

pub predicate_walked : (n : Name) (gs : List GhostParameter) (s : Scope) → AreWalked (PredicateComes n gs s) (predicate_of n gs s)
predicate_walked n gs s = then_walked (head_walked false n gs s) (λ t. only_walked _)

pub predicate_body_walked : (n : Name) (gs : List GhostParameter) (xs : PartTrees) (s : Scope) → AreWalked (PredicateBodyComes n gs xs s) (predicate_body_of n gs xs s)
predicate_body_walked n gs xs s = then_walked (head_walked true n gs s) (λ t. body_walked _ xs _)

pub constructor_walked : (n : Name) (fs gs : List GhostParameter) (xs : PartTrees) (s : Scope) → AreWalked (ConstructorComes n fs gs xs s) (constructor_of n fs gs xs s)
constructor_walked n fs gs xs s = then_walked (only_walked _) (λ t. body_walked _ xs t)

-- ---- bodies of families
are_named : {f g : Name} {s : Scope} {k m : ℕ} → AreFound f g s k m → named_of f g s ≡ Ok (pair k m)
are_named {f = f} {g = g} {s = s} {k = k} (instances.found a b c) = ap (by_family f g s) a ∙ (ap (by_function g s k) b ∙ where_not _ c refl)

are_refused : {f g : Name} {s : Scope} {r : Refusal} → NamesFail f g s r → named_of f g s ≡ Err r
are_refused {f = f} {g = g} {s = s} (instances.no_family a) = ap (by_family f g s) a
are_refused {f = f} {g = g} {s = s} (instances.no_function {k = k} a b) = ap (by_family f g s) a ∙ ap (by_function g s k) b
are_refused {f = f} {g = g} {s = s} (instances.again {k = k} a b c) = ap (by_family f g s) a ∙ (ap (by_function g s k) b ∙ where_so _ c refl)

-- what the names are found to mean, or their refusal
abbrev NamesFound : Name → Name → Scope → Result (ℕ × ℕ) Refusal → Type 0
NamesFound f g s r = Found (λ (n : ℕ × ℕ). AreFound f g s n.0 n.1) (NamesFail f g s) r

names_found : (f g : Name) (s : Scope) → NamesFound f g s (named_of f g s)
names_found f g s = by (family_at s f) refl
  where
    there : (k : ℕ) (o : Option ℕ) → family_at s f ≡ Some k → function_at s g ≡ o → NamesFound f g s (by_function g s k o)
    there k None d e = stopped (instances.no_function d e)
    there k (Some m) d e = found_where (has_instance (sides_of_ghost s k) m) (λ h. stopped (instances.again d e h)) (λ h. found (instances.found d e h))

    by : (o : Option ℕ) → family_at s f ≡ o → NamesFound f g s (by_family f g s o)
    by None d = stopped (instances.no_family d)
    by (Some k) d = there k (function_at s g) d refl

agrees : (f : Name) (k m : ℕ) (t : Taken) → AreSame t.sorts (or_none (family_sorts (ghost_of t.scope k))) → (w : Walked) → IsInstance f k m t w → ◌≡◌ {A = Walked} (Ok (with_instance t.scope k m)) w
agrees f k m t e w (instances.agreed a) = refl
agrees f k m t e w (instances.differs a) = absurd (a e)

differs : (f : Name) (k m : ℕ) (t : Taken) → (AreSame t.sorts (or_none (family_sorts (ghost_of t.scope k))) → ⊥) → (w : Walked) → IsInstance f k m t w → ◌≡◌ {A = Walked} (Err (refused rules.Name f.place)) w
differs f k m t e w (instances.agreed a) = absurd (e a)
differs f k m t e w (instances.differs a) = refl

agreed_walked : (f : Name) (k m : ℕ) (t : Taken) → AreWalked (IsInstance f k m t) (agreed_of f k m t)
agreed_walked f k m t = decided_walked _ (same_told t.sorts (or_none (family_sorts (ghost_of t.scope k))))
    (λ e. record { comes = agrees f k m t e; found = instances.agreed e })
    (λ e. record { comes = differs f k m t e; found = instances.differs e })

-- the parameters and the body, by the numbers of a family and a function
abbrev Behind : Name → List GhostParameter → PartTrees → Scope → ℕ × ℕ → Walked → Type 0
Behind f gs xs s r = Then (Then (Only (parameters_behind [] gs (none_taken s))) (IsInstance f r.0 r.1)) (BodyComes (length s.locals.names) xs)

behind_walked : (f : Name) (gs : List GhostParameter) (xs : PartTrees) (s : Scope) (r : ℕ × ℕ) → AreWalked (Behind f gs xs s r) (instance_at f gs xs s r)
behind_walked f gs xs s r = then_walked (then_walked (only_walked _) (λ t. agreed_walked f r.0 r.1 t)) (λ t. body_walked _ xs t)

names_first : (f g : Name) (gs : List GhostParameter) (xs : PartTrees) (s : Scope) (w : Walked) → InstanceComes f g gs xs s w → Then (Only (named_of f g s)) (Behind f gs xs s) w
names_first f g gs xs s w (instances.names h) = walking.stops (record { is = are_refused h })
names_first f g gs xs s w (instances.body {k = k} {m = m} h i) = walking.goes {a = pair k m} (record { is = are_named h }) i

names_behind : (f g : Name) (gs : List GhostParameter) (xs : PartTrees) (s : Scope) (w : Walked) → Then (Only (named_of f g s)) (Behind f gs xs s) w → InstanceComes f g gs xs s w
names_behind f g gs xs s w (walking.stops {x = x} h) = by (subst (NamesFound f g s) h.is (names_found f g s))
  where
    by : NamesFound f g s (Err x) → InstanceComes f g gs xs s (Err x)
    by (stopped n) = instances.names n
names_behind f g gs xs s w (walking.goes {a = a} h i) = by (subst (NamesFound f g s) h.is (names_found f g s))
  where
    by : NamesFound f g s (Ok a) → InstanceComes f g gs xs s w
    by (found n) = instances.body {k = a.0} {m = a.1} n i

pub instance_walked : (f g : Name) (gs : List GhostParameter) (xs : PartTrees) (s : Scope) → AreWalked (InstanceComes f g gs xs s) (instance_of f g gs xs s)
instance_walked f g gs xs s = walked_as (names_first f g gs xs s) (names_behind f g gs xs s) (then_walked (only_walked _) (behind_walked f gs xs s))
