-- The bodies of the fixpoints of a unit have a case for each constructor.
use Rattle.std.proofs.Common.{◌≡◌, refl, sym, ap, subst, ◌∙◌, ℕ, zero, suc, ◌+◌, Bool, true, false, cond, List, [], ◌∷◌, length, map, slice_get, Option, Some, None, Result, Ok, is_some, arith}
use Rattle.std.specs.Prelude.{◌&&◌, if◌then◌else◌, not}
use Rattle.std.specs.List.{list_all, position_from}
use Rattle.std.specs.Str.{bytes_eq}
use Rattle.std.specs.Cmp.Lexicographic.{bytes_decides}
use Rattle.std.proofs.lemmas.Slice.Eq.{bytes_eq-Decides}
use Rattle.vf_base.specs.declared.refusal.Refusal.{Refusal}
use Rattle.vf_tree.specs.Core.{Identity}
use Rattle.vf_model.specs.Values.{same_identity}
use Rattle.vf_names.specs.Names.{number_of}
use Rattle.vf_sorts.specs.declared.sort.Head.TheVariants as heads
use Rattle.vf_sorts.specs.Sorts.{Sort, Sorts, sort}
use Rattle.vf_sorts.specs.Unknowns.{Known}
use Rattle.vf_syntax.specs.declared.item.FixpointBody.{FixpointBody}
use Rattle.vf_syntax.specs.declared.item.FixpointBody.TheVariants as written
use Rattle.vf_syntax.specs.declared.item.FixpointCase.{FixpointCase}
use Rattle.vf_syntax.specs.declared.item.GhostParameter.{GhostParameter}
use Rattle.vf_syntax.specs.declared.item.Item.{Item}
use Rattle.vf_syntax.specs.declared.written.Name.{Name}
use Rattle.vf_declared.specs.declared.declaration.Constructor.{Constructor}
use Rattle.vf_declared.specs.declared.declaration.GhostDeclaration.TheVariants as ghosts
use Rattle.vf_declared.specs.declared.declaration.Meaning.{Meaning}
use Rattle.vf_declared.specs.declared.declaration.Meaning.TheVariants as meanings
use Rattle.vf_declared.specs.declared.locals.Local.{Local}
use Rattle.vf_declared.specs.declared.scope.Scope.{Scope}
use Rattle.vf_declared.specs.Changes.{IsAligned}
use Rattle.vf_declared.specs.Scopes.{at_index, declaration_of}
use Rattle.vf_sorting.specs.declared.context.Context.{Context}
use Rattle.vf_sorting.specs.Schemes.{sort_of_local}
use Rattle.vf_binding.specs.Bound.{bound_local}
use Rattle.vf_asserting.specs.Cases.{case_number, datatype_in, ghost_number, names_or_none, taking}
use Rattle.vf_equations.specs.Fixpoints.{around_fixpoint, result_of}
use Rattle.vf_equations.specs.Switching.{Switches, are_constructors, sort_in, switches}
use Rattle.vf_definitions.specs.Unfolded.{case_for}
use Rattle.vf_definitions.specs.declared.fixpoint.Body.{Body}
use Rattle.vf_definitions.specs.declared.fixpoint.Case.{Case}
use Rattle.vf_defining.specs.Bodies.{case_names, case_of, case_read, cases_of, identity_at, place_among, place_or_first}
use Rattle.vf_defining.specs.Fixpoints.{Defines}
use Rattle.vf_defining.specs.Fixpoints as defined
use Rattle.vf_fixpoint.specs.Cases.{are_covered, constructors_of, first_stray_case, is_complete, is_doubled, parameter_of, refused_at}
use Rattle.vf_recursion.specs.Faults.{constructors_by, name_in, sort_name}
use Rattle.vf_recursion.specs.Faults as faults
use Rattle.vf_fixpoint_laws.specs.values.Declares.{Declared, Declares}
use Rattle.vf_fixpoint_laws.specs.bodies.Bodies.{HasEachCase}
use Rattle.vf_fixpoint_laws.proofs.descending.Bodies.{complete_then, names_of, scope_behind}
use Rattle.vf_fixpoint_laws.proofs.descending.Cases.{left_same}
use Rattle.vf_fixpoint_laws.proofs.descending.Levels.{Level}
use Rattle.vf_fixpoint_laws.proofs.descending.Lists.{some_same}
use Rattle.vf_fixpoint_laws.proofs.descending.Meanings.{Means, get_mapped}
use Rattle.vf_fixpoint_laws.proofs.descending.Spelled.{AreSpelled, spelled_at}
use Rattle.vf_fixpoint_laws.proofs.descending.Standing.{IsOneOf}

-- ---- truth values
first_of : (a b : Bool) → (a && b) ≡ true → a ≡ true
first_of true b e = refl
first_of false b e = absurd cc

second_of : (a b : Bool) → (a && b) ≡ true → b ≡ true
second_of true b e = e
second_of false b e = absurd cc

all_at : (f : List ℕ → Bool) (L : List (List ℕ)) (j : ℕ) (z : List ℕ) → list_all f L ≡ true → slice_get L j ≡ Some z → f z ≡ true
all_at f [] j z h e = absurd cc
all_at f (y ∷ L) zero z h e = subst (λ (w : List ℕ). f w ≡ true) (some_same e) (first_of (f y) (list_all f L) h)
all_at f (y ∷ L) (suc j) z h e = all_at f L j z (second_of (f y) (list_all f L) h) e

-- ---- parameters
-- the sort of a parameter by its name is that of the one at its place
sort_from : (gs : List GhostParameter) (x : List ℕ) (i p : ℕ) → position_from (bytes_eq x) i (names_of gs) ≡ Some p → (k : ℕ) × (g : GhostParameter) × (p ≡ i + k) × (slice_get gs k ≡ Some g) × (sort_name gs x ≡ name_in g.sort)
sort_from [] x i p e = absurd cc
sort_from (g ∷ gs) x i p e = by (bytes_eq x g.name.text) e (sort_from gs x (i + 1) p)
  where
    some : ◌≡◌ {A = Option ℕ} (Some i) (Some p) → i ≡ p
    some e = cc

    by : (b : Bool) → cond b (Some i) (position_from (bytes_eq x) (i + 1) (names_of gs)) ≡ Some p
        → (position_from (bytes_eq x) (i + 1) (names_of gs) ≡ Some p → (k : ℕ) × (g : GhostParameter) × (p ≡ i + 1 + k) × (slice_get gs k ≡ Some g) × (sort_name gs x ≡ name_in g.sort))
        → (k : ℕ) × (h : GhostParameter) × (p ≡ i + k) × (slice_get (g ∷ gs) k ≡ Some h) × ((if b then name_in g.sort else sort_name gs x) ≡ name_in h.sort)
    by true e f = (zero, g, (let q = some e in omega (arith, q)), refl, refl)
    by false e f = let r = f e in (suc r.0, r.1, (let q = r.2 in omega (arith, q)), r.3, r.4)

sort_at : (gs : List GhostParameter) (x : List ℕ) (p : ℕ) → number_of (names_of gs) x ≡ Some p → (g : GhostParameter) × (slice_get gs p ≡ Some g) × (sort_name gs x ≡ name_in g.sort)
sort_at gs x p e =
    let r = sort_from gs x 0 p e in
    (r.1, subst (λ k. slice_get gs k ≡ Some r.1) (let q = r.2 in omega (arith, q)) r.3, r.4)

-- ---- the case for a constructor
tells_number : (s : Scope) (d m : ℕ) (o : Option Meaning) → is_some (taking s d m (ghost_number o)) ≡ true → (n : ℕ) × (o ≡ Some (meanings.Ghost n))
tells_number s d m None e = absurd cc
tells_number s d m (Some (meanings.Function n)) e = absurd cc
tells_number s d m (Some (meanings.FunctionType n)) e = absurd cc
tells_number s d m (Some (meanings.Ghost n)) e = (n, refl)

module _ (s : Scope) (aligned : IsAligned s.locals) (paths : List (List ℕ)) (d : ℕ) (z : List ℕ) (c : Identity)
    (right : (n : Name) (m : ℕ) → n.text ≡ z → declaration_of s n.text n.place.file ≡ Some (meanings.Ghost m) → identity_at s paths n ≡ c)
    (w : Context) (k : Known) (t : Sort) (m : ℕ) where
  case_right : (x : FixpointCase) → is_some (case_number s d x.pattern) ≡ true → x.pattern.constructor.text ≡ z → same_identity (identity_at s paths x.pattern.constructor) c ≡ true
  case_right x e f =
      let r = tells_number s d (length (names_or_none x.pattern.names)) (declaration_of s x.pattern.constructor.text x.pattern.constructor.place.file) e in
      (bytes_decides (identity_at s paths x.pattern.constructor) c).1 (right x.pattern.constructor r.0 f r.1)

  case_there : (cs : List FixpointCase) (u i : ℕ) → are_constructors s d cs ≡ true → is_some (position_from (bytes_eq z) i (constructors_of cs)) ≡ true → is_some (case_for (cases_of w k paths t m s u cs) c) ≡ true
  case_there [] u i all there = absurd cc
  case_there (x ∷ cs) u i all there =
      subst (λ (v : Scope). is_some (cond (same_identity (identity_at s paths x.pattern.constructor) c) (Some (case_of w k paths t m s u x)) (case_for (cases_of w k paths t m v (case_read w k paths t m s u x).next cs) c)) ≡ true) (sym (left_same s (case_names s m x.pattern) aligned))
      (by (bytes_eq z x.pattern.constructor.text) refl there (case_there cs (case_read w k paths t m s u x).next (i + 1) (second_of (is_some (case_number s d x.pattern)) (are_constructors s d cs) all)))
    where
      others : Option Case
      others = case_for (cases_of w k paths t m s (case_read w k paths t m s u x).next cs) c

      further : (b : Bool) → is_some others ≡ true → is_some (cond b (Some (case_of w k paths t m s u x)) others) ≡ true
      further true h = refl
      further false h = h

      by : (b : Bool) → bytes_eq z x.pattern.constructor.text ≡ b → is_some (cond b (Some i) (position_from (bytes_eq z) (i + 1) (constructors_of cs))) ≡ true → (is_some (position_from (bytes_eq z) (i + 1) (constructors_of cs)) ≡ true → is_some others ≡ true)
          → is_some (cond (same_identity (identity_at s paths x.pattern.constructor) c) (Some (case_of w k paths t m s u x)) others) ≡ true
      by true e h f =
          ap (λ b. is_some (cond b (Some (case_of w k paths t m s u x)) others)) (case_right x (first_of (is_some (case_number s d x.pattern)) (are_constructors s d cs) all) (sym ((bytes_eq-Decides z x.pattern.constructor.text).0 e)))
      by false e h f = further (same_identity (identity_at s paths x.pattern.constructor) c) (f h)

-- ---- what is switched over
record IsSwitched (s : Scope) (x : Name) (cs : List FixpointCase) : Type 0 where
  place : ℕ
  found : number_of s.locals.names x.text ≡ Some place
  local : Local
  at : slice_get s.locals.meanings place ≡ Some local
  datatype : ℕ
  is : datatype_in (sort_of_local local) ≡ Some datatype
  all : are_constructors s datatype cs ≡ true

ok_sort : {t u : Sort} → ◌≡◌ {A = Result Sort Refusal} (Ok t) (Ok u) → t ≡ u
ok_sort e = cc

local_sort : (s : Scope) (x : Name) (t : Sort) (o : Option Local) → sort_in s x o ≡ Ok t → (l : Local) × (o ≡ Some l) × (sort_of_local l ≡ t)
local_sort s x t None e = absurd cc
local_sort s x t (Some l) e = (l, refl, ok_sort e)

place_sort : (s : Scope) (x : Name) (t : Sort) (o : Option ℕ) → number_of s.locals.names x.text ≡ o → sort_in s x (at_index s.locals.meanings o) ≡ Ok t → (p : ℕ) × (l : Local) × (number_of s.locals.names x.text ≡ Some p) × (slice_get s.locals.meanings p ≡ Some l) × (sort_of_local l ≡ t)
place_sort s x t None f e = absurd cc
place_sort s x t (Some p) f e = let r = local_sort s x t (slice_get s.locals.meanings p) e in (p, r.0, f, r.1, r.2)

is_switched : {s : Scope} {x : Name} {cs : List FixpointCase} {m : ℕ} {k : Known} → Switches s x cs m k → IsSwitched s x cs
is_switched {s} {x} {cs} (switches {t} {d} sorted below is all equates) =
    let r = place_sort s x t (number_of s.locals.names x.text) refl sorted in
    record { place = r.0; found = r.2; local = r.1; at = r.3; datatype = d; is = ap datatype_in r.4 ∙ is; all = all }

-- ---- bodies
module _ (e : Declared) (c : Level) (xs : List Item) (gs : List GhostParameter) (ts : List Sort) (spelled : AreSpelled c gs ts)
    (stands : (z : List ℕ) (y : List ℕ) (d : ℕ) (k : Constructor) → Means c y (ghosts.Datatype d) → Means c z (ghosts.Constructor k) → k.datatype ≡ d → IsOneOf z (constructors_by xs (Some y)))
    (declares : (i : Identity) (k : Constructor) (h : Declares e i (ghosts.Constructor k)) → Means c h.name (ghosts.Constructor k))
    (s : Scope) (aligned : IsAligned s.locals) (names : s.locals.names ≡ names_of gs) (sorts : s.locals.meanings ≡ map bound_local ts) (paths : List (List ℕ))
    (right : (i : Identity) (k : Constructor) (h : Declares e i (ghosts.Constructor k)) (n : Name) (m : ℕ) → n.text ≡ h.name → declaration_of s n.text n.place.file ≡ Some (meanings.Ghost m) → identity_at s paths n ≡ i) where
  covered : (x : Name) (cs : List FixpointCase) (p d : ℕ) (us : Sorts) → number_of s.locals.names x.text ≡ Some p → slice_get ts p ≡ Some (sort (heads.Datatype d) us)
      → are_covered (faults.constructors_of xs gs (written.Switch x cs)) (constructors_of cs) ≡ true → (z : List ℕ) (k : Constructor) → Means c z (ghosts.Constructor k) → k.datatype ≡ d → is_some (number_of (constructors_of cs) z) ≡ true
  covered x cs p d us found at all z k means same =
      let g = sort_at gs x.text p (ap (λ ns. number_of ns x.text) (sym names) ∙ found) in
      let y = spelled_at c gs ts spelled p g.0 (sort (heads.Datatype d) us) g.1 at d refl in
      let one = stands z y.0 d k y.2 means same in
      all_at (λ v. is_some (number_of (constructors_of cs) v)) (faults.constructors_of xs gs (written.Switch x cs)) one.0 z all
      (subst (λ o. slice_get (constructors_by xs o) one.0 ≡ Some z) (sym (g.2 ∙ y.1)) one.1)

  -- the sort of a local that is switched over is the one at its place
  switched_over : (x : Name) (cs : List FixpointCase) (w : IsSwitched s x cs) (d : ℕ) (us : Sorts) → slice_get ts w.place ≡ Some (sort (heads.Datatype d) us) → w.datatype ≡ d
  switched_over x cs w d us at =
      let l : Some w.local ≡ Some (bound_local (sort (heads.Datatype d) us)) = sym w.at ∙ (ap (λ ls. slice_get ls w.place) sorts ∙ get_mapped bound_local ts w.place (sort (heads.Datatype d) us) at) in
      some_same (sym w.is ∙ ap (λ (y : Local). datatype_in (sort_of_local y)) (some_same l))

  pub each_case : (n : ℕ) (text : FixpointBody) (b : Body) (name : Name) → Defines s paths n text b → refused_at name gs (faults.constructors_of xs gs text) text ≡ None → HasEachCase e ts b
  each_case n text b name (defined.value given) f = tt
  each_case n text b name (defined.cases {x} {cs} {m} {s'} {k} {k'} front given) f = λ d us at i kk h same.
      let w = is_switched front in
      let behind = scope_behind s aligned cs k k' s' given in
      let place : place_among s' x ≡ w.place = ap (λ (v : Scope). place_among v x) behind ∙ ap place_or_first w.found in
      let here : slice_get ts w.place ≡ Some (sort (heads.Datatype d) us) = ap (slice_get ts) (sym place) ∙ at in
      let complete = (complete_then (is_complete (faults.constructors_of xs gs (written.Switch x cs)) (constructors_of cs)) (first_stray_case name.text (parameter_of gs x.text) cs) name.place f).0 in
      let all = second_of (not (is_doubled [] (constructors_of cs))) (are_covered (faults.constructors_of xs gs (written.Switch x cs)) (constructors_of cs)) complete in
      let there = covered x cs w.place d us w.found here all h.name kk (declares i kk h) same in
      subst (λ (v : Scope). is_some (case_for (cases_of (around_fixpoint n) k' paths (result_of s n) m v m cs) i) ≡ true) (sym behind)
      (case_there s aligned paths w.datatype h.name i (right i kk h) (around_fixpoint n) k' (result_of s n) m cs m 0 w.all there)
