-- Fixpoints keep sorts, by induction on their order and on the size of what they switch over.
use Rattle.std.proofs.Common.{◌≡◌, ℕ, zero, suc, ◌<◌, ◌≤◌, List, length, map, Option, Some, None, sym, subst, ap, ◌∙◌, ⊎_elim, arith}
use Rattle.vf_tree.specs.Core.{Identity}
use Rattle.vf_model.specs.Values.{Value, Values, none, more}
use Rattle.vf_meaning.specs.Ghost.{Numbered, Result, This, CurrentThread}
use Rattle.vf_meaning.specs.Valuations.{Valuation, value_at, appended, of_arguments, size, sizes}
use Rattle.vf_meaning.specs.Valuations as valuations
use Rattle.vf_meaning.specs.GhostValues.{Interpretation}
use Rattle.vf_closure.specs.Terms.{Kind, Integer, Other, Head, Symbol, Number, Truth, Null, Function, Constructor, Fixpoint, Claims, Predicate, Share, Sum, Plus, Arithmetic, Compare, Not, And, Or, Choose, PointerSum, Term, Terms, term, no_terms, and_term}
use Rattle.vf_closure.specs.Values.{all_values, of_kind, value}
use Rattle.vf_declared.specs.declared.declaration.Fixpoint as declaration
use Rattle.vf_declared.specs.declared.declaration.GhostDeclaration.TheVariants as ghosts
use Rattle.vf_declared.specs.declared.scope.Scope.{Scope}
use Rattle.vf_terms.specs.Settings.{kind_of_sort}
use Rattle.vf_definitions.specs.Unfolded.{term_at}
use Rattle.vf_definitions.specs.declared.fixpoint.Body.{Body}
use Rattle.vf_definitions.specs.declared.fixpoint.Body.TheVariants.{Returns, Switches}
use Rattle.vf_fixpoint_laws.specs.values.Instances.{placed}
use Rattle.vf_fixpoint_laws.specs.values.Declares.{Declared, Declares}
use Rattle.vf_fixpoint_laws.specs.values.Worth.{HasValue, HaveValues, Sets, passing}
use Rattle.vf_fixpoint_laws.specs.values.Given.{HeadKeepsSorts, KeepsSortsAt, TermKeepsSorts, TermsKeepSorts}
use Rattle.vf_fixpoint_laws.specs.bodies.Bodies.{BodyKeepsSorts, IsWellDeclared, declared_at}
use Rattle.vf_fixpoint_laws.specs.bodies.Recursion.{BodiesKeepSorts, BodyGoesDown, EachIsKept, GivesKinds, GoesDownBy, IsComponent, IsKept, IsSymbolBehind, KeptIn, PassesComponent, Ranks, TermGoesDown, TermsGoDown}
use Rattle.vf_fixpoint_laws.proofs.bodies.Arguments.{have_count}
use Rattle.vf_fixpoint_laws.proofs.bodies.Bodies.{bodies_give_sorts_in}

-- ---- components are smaller
part_small : (us : Values) (j : ℕ) → size (value_at us j) ≤ sizes us
part_small none j = omega arith
part_small (more u us) zero = omega arith
part_small (more u us) (suc j) = let r = part_small us j in omega (arith, r)

behind_small : (vs us : Values) (j : ℕ) → valuations.count vs ≤ j → size (value_at (appended vs us) j) ≤ sizes us
behind_small none us j l = part_small us j
behind_small (more v vs) us zero l = absurd (omega (arith, l))
behind_small (more v vs) us (suc j) l = behind_small vs us j (omega (arith, l))

kind_small : (k : Kind) (v : Value) → size (of_kind k v) ≤ size v
kind_small Integer v = omega arith
kind_small Other v = omega arith

-- the value of a symbol behind the parameters
symbol_small : (i : Interpretation) (vs us : Values) (n : ℕ) (h : Head) (ts : Terms) → n ≡ valuations.count vs → IsSymbolBehind n h → size (value i (of_arguments (appended vs us)) (term h ts)) ≤ sizes us
symbol_small i vs us n (Symbol k (Numbered j)) ts e b =
    let p = kind_small k (value_at (appended vs us) j) in
    let q = behind_small vs us j (let l : n ≤ j = b in omega (arith, l, e)) in
    omega (arith, p, q)
symbol_small i vs us n (Symbol k Result) ts e b = absurd b
symbol_small i vs us n (Symbol k This) ts e b = absurd b
symbol_small i vs us n (Symbol k CurrentThread) ts e b = absurd b
symbol_small i vs us n (Number z) ts e b = absurd b
symbol_small i vs us n (Truth z) ts e b = absurd b
symbol_small i vs us n Null ts e b = absurd b
symbol_small i vs us n (Function f) ts e b = absurd b
symbol_small i vs us n (Constructor c) ts e b = absurd b
symbol_small i vs us n (Fixpoint k f) ts e b = absurd b
symbol_small i vs us n (Claims t) ts e b = absurd b
symbol_small i vs us n (Predicate p) ts e b = absurd b
symbol_small i vs us n (Share x) ts e b = absurd b
symbol_small i vs us n (Sum ks) ts e b = absurd b
symbol_small i vs us n Plus ts e b = absurd b
symbol_small i vs us n (Arithmetic o) ts e b = absurd b
symbol_small i vs us n (Compare o) ts e b = absurd b
symbol_small i vs us n Not ts e b = absurd b
symbol_small i vs us n And ts e b = absurd b
symbol_small i vs us n Or ts e b = absurd b
symbol_small i vs us n (Choose k) ts e b = absurd b
symbol_small i vs us n PointerSum ts e b = absurd b

component_small : (i : Interpretation) (vs us : Values) (n : ℕ) (ts : Terms) (p : ℕ) → n ≡ valuations.count vs → IsComponent n (term_at ts p) → size (value_at (all_values i (of_arguments (appended vs us)) ts) p) ≤ sizes us
component_small i vs us n no_terms p e b = absurd b
component_small i vs us n (and_term (term h hs) ts) zero e b = symbol_small i vs us n h hs e b
component_small i vs us n (and_term t ts) (suc p) e b = component_small i vs us n ts p e b

-- ---- what goes down keeps sorts
module _ (d : Declared) (i : Interpretation) (sets : Sets) (r : Ranks) (c : Identity) (n : ℕ) (o : Option ℕ) (v : Valuation)
    (earlier : (f : Identity) → r f < r c → (ws : Values) → KeepsSortsAt d i sets f ws) (itself : (ts : Terms) → PassesComponent n o ts → KeepsSortsAt d i sets c (all_values i v ts)) where
  head_down : (h : Head) (ts : Terms) → GoesDownBy r c n o h ts → HeadKeepsSorts d i sets h (all_values i v ts)
  head_down (Fixpoint k f) ts g = ⊎_elim (λ l. earlier f l (all_values i v ts)) (λ p. subst (λ (z : Identity). KeepsSortsAt d i sets z (all_values i v ts)) (sym p.0) (itself ts p.1)) g
  head_down (Symbol k x) ts g = tt
  head_down (Number z) ts g = tt
  head_down (Truth b) ts g = tt
  head_down Null ts g = tt
  head_down (Function f) ts g = tt
  head_down (Constructor f) ts g = tt
  head_down (Claims t) ts g = tt
  head_down (Predicate p) ts g = tt
  head_down (Share x) ts g = tt
  head_down (Sum ks) ts g = tt
  head_down Plus ts g = tt
  head_down (Arithmetic q) ts g = tt
  head_down (Compare q) ts g = tt
  head_down Not ts g = tt
  head_down And ts g = tt
  head_down Or ts g = tt
  head_down (Choose k) ts g = tt
  head_down PointerSum ts g = tt

  mutual
    term_down : (t : Term) → TermGoesDown r c n o t → TermKeepsSorts d i v sets t
    term_down (term h ts) g = (head_down h ts g.0, terms_down ts g.1)

    terms_down : (ts : Terms) → TermsGoDown r c n o ts → TermsKeepSorts d i v sets ts
    terms_down no_terms g = tt
    terms_down (and_term t ts) g = (term_down t g.0, terms_down ts g.1)

-- the size of what a body switches over
abbrev measure : Body → Values → ℕ
measure (Returns t) vs = 0
measure (Switches p cases) vs = size (value_at vs p)

body_down : (d : Declared) (i : Interpretation) (sets : Sets) (r : Ranks) (c : Identity) (n : ℕ) (vs : Values) → n ≡ valuations.count vs
    → (b : Body) → ((f : Identity) → r f < r c → (ws : Values) → KeepsSortsAt d i sets f ws) → ((ws : Values) → measure b ws < measure b vs → KeepsSortsAt d i sets c ws) → BodyGoesDown r c n b → BodyKeepsSorts d i sets vs b
body_down d i sets r c n vs e (Returns t) earlier itself down = term_down d i sets r c n None (of_arguments vs) earlier (λ ts p. absurd p) t down
body_down d i sets r c n vs e (Switches p cases) earlier itself down =
    λ g us y is there. term_down d i sets r c n (Some p) (of_arguments (appended vs us)) earlier
    (λ ts q. itself (all_values i (of_arguments (appended vs us)) ts)
    (let small = component_small i vs us n ts p e q in let whole : size (value_at vs p) ≡ suc (sizes us) = ap size is in omega (arith, small, whole)))
    y.result (down g y there)

pub same_fixpoint : {a b : declaration.Fixpoint} → ghosts.Fixpoint a ≡ ghosts.Fixpoint b → a ≡ b
same_fixpoint e = cc

module _ (sets : Sets) (s : Scope) (paths : List (List ℕ)) (i : Interpretation) (r : Ranks) (well : IsWellDeclared (declared_at s paths)) (each : EachIsKept s paths i r) (kinds : GivesKinds (declared_at s paths) i sets) where
  -- a fixpoint keeps sorts where earlier ones do, at values at which what it switches over is below a size
  kept : (c : Identity) (x : declaration.Fixpoint) (is : Declares (declared_at s paths) c (ghosts.Fixpoint x)) (k : IsKept s paths i r c x) → ((f : Identity) → r f < r c → (ws : Values) → KeepsSortsAt (declared_at s paths) i sets f ws)
      → (w : ℕ) (vs : Values) → measure k.body vs < w → KeepsSortsAt (declared_at s paths) i sets c vs
  kept c x is k earlier zero vs l y is' g f have = absurd (omega (arith, l))
  kept c x is k earlier (suc w) vs l y is' g f have =
      subst (λ (z : declaration.Fixpoint). HasValue (declared_at s paths) sets (i.fixpoint c vs) (placed g f z.result)) same
      (subst (λ (u : Value). HasValue (declared_at s paths) sets u (placed g f x.result)) (ap (λ (z : Identity). of_kind (kind_of_sort x.result) (i.fixpoint z vs)) k.identity ∙ kinds c x is vs g f there)
      (bodies_give_sorts_in sets s paths x k.body k.definition i well k.defined k.meets vs g f there
      (body_down (declared_at s paths) i sets r c (length x.arguments) vs (sym (have_count (declared_at s paths) sets (placed g f) x.arguments vs there)) k.body earlier
      (λ ws m. kept c x is k earlier w ws (omega (arith, m, l))) k.goes_down)))
    where
      same : x ≡ y
      same = same_fixpoint (well.tells c (ghosts.Fixpoint x) (ghosts.Fixpoint y) is is')

      there : HaveValues (declared_at s paths) sets vs (map (placed g f) x.arguments)
      there = subst (λ (z : declaration.Fixpoint). HaveValues (declared_at s paths) sets vs (map (placed g f) z.arguments)) (sym same) have

  -- fixpoints of low numbers keep sorts
  all_kept : (m : ℕ) (c : Identity) → r c < m → (vs : Values) → KeepsSortsAt (declared_at s paths) i sets c vs
  all_kept zero c l vs x is g f have = absurd (omega (arith, l))
  all_kept (suc m) c l vs x is g f have =
      kept c x is (each c x is) (λ h low ws. all_kept m h (omega (arith, l, low)) ws) (suc (measure (each c x is).body vs)) vs (omega arith) x is g f have

pub kept_in : (sets : Sets) → KeptIn sets
kept_in sets s paths i r well each kinds c vs = all_kept sets s paths i r well each kinds (suc (r c)) c (omega arith) vs

pub bodies_keep_sorts : BodiesKeepSorts
bodies_keep_sorts tests = kept_in (passing tests)
