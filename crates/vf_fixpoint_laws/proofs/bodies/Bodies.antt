-- The body of a fixpoint has a value of its sort, where the fixpoints that it applies keep sorts.
use Rattle.std.proofs.Common.{◌≡◌, ℕ, zero, suc, ◌+◌, ◌<◌, true, List, [], ◌∷◌, ◌++◌, length, map, Option, Some, None, Ok, refl, sym, subst, ap, ap₂, ◌∙◌, arith}
use Rattle.std.specs.Prelude.{is_some, slice_get}
use Rattle.std.proofs.lemmas.List.{length-append}
use Rattle.vf_tree.specs.Core.{Identity}
use Rattle.vf_names.specs.Names.{number_of}
use Rattle.vf_model.specs.Values.{Value, Values}
use Rattle.vf_model.specs.Values as values
use Rattle.vf_meaning.specs.Valuations.{value_at, appended, of_arguments}
use Rattle.vf_meaning.specs.Valuations as valuations
use Rattle.vf_meaning.specs.GhostValues.{Interpretation}
use Rattle.vf_closure.specs.Terms.{Kind}
use Rattle.vf_closure.specs.Values.{of_kind, value}
use Rattle.vf_formula.specs.Heads.{shown_kind}
use Rattle.vf_sorts.specs.declared.sort.Head.TheVariants as heads
use Rattle.vf_sorts.specs.Sorts.{Sort, Sorts, sort, row}
use Rattle.vf_sorts.specs.Told.{AreAlike, untold}
use Rattle.vf_sorts.specs.Unknowns.{AgreesAsTold, EachUnknownOf, Filling, IsBelow, IsResolved, Known, any_sort, filled, instance, leaf, settling}
use Rattle.vf_sorts.specs.Unifying.{Equates}
use Rattle.vf_sorts.proofs.Settling.{settling_agrees}
use Rattle.vf_syntax.specs.declared.item.FixpointBody.{FixpointBody}
use Rattle.vf_syntax.specs.declared.item.FixpointCase.{FixpointCase}
use Rattle.vf_syntax.specs.declared.item.GhostParameter.{GhostParameter}
use Rattle.vf_syntax.specs.declared.written.Name.{Name}
use Rattle.vf_syntax.specs.GhostExprTree.{GhostExprTree}
use Rattle.vf_declared.specs.declared.declaration.Constructor.{Constructor}
use Rattle.vf_declared.specs.declared.declaration.Fixpoint as declaration
use Rattle.vf_declared.specs.declared.declaration.GhostDeclaration.TheVariants as ghosts
use Rattle.vf_declared.specs.declared.locals.Local.{Local}
use Rattle.vf_declared.specs.declared.scope.Scope.{Scope}
use Rattle.vf_declared.specs.Changes.{IsAligned}
use Rattle.vf_declared.specs.Scopes.{at_index, datatype_of}
use Rattle.vf_sorting.specs.declared.context.Context.{Context}
use Rattle.vf_sorting.specs.declared.scheme.Scheme.{Scheme}
use Rattle.vf_sorting.specs.Kinds.{datatype_sort, parameter_sorts, with_fresh}
use Rattle.vf_sorting.specs.Operators.{place_of}
use Rattle.vf_sorting.specs.Schemes.{count_in, sort_of_local}
use Rattle.vf_sorting.proofs.Below.{below_more, fresh_length, instance_below}
use Rattle.vf_asserting.specs.Cases.{datatype_in, names_or_none}
use Rattle.vf_asserting.specs.Switches.{case_sorts, parameters_of, unknown_datatype}
use Rattle.vf_binding.specs.Bound.{bound_local}
use Rattle.vf_equations.specs.Fixpoints.{around_fixpoint, result_in, result_of}
use Rattle.vf_equations.specs.Switching.{sort_in, switches, are_constructors}
use Rattle.vf_equations.specs.Values.{CasesGive, ValuePasses, passes}
use Rattle.vf_terms.specs.Settings.{Setting, kind_of_sort}
use Rattle.vf_definitions.specs.Laws.{MeetsBody}
use Rattle.vf_definitions.specs.Unfolded.{case_for}
use Rattle.vf_definitions.specs.declared.fixpoint.Case.{Case}
use Rattle.vf_definitions.specs.declared.fixpoint.Body.{Body}
use Rattle.vf_definitions.specs.declared.fixpoint.Body.TheVariants as bodies
use Rattle.vf_definitions.specs.declared.fixpoint.Fixpoint as definitions
use Rattle.vf_defining.specs.Symbols.{value_read, with_symbols}
use Rattle.vf_defining.specs.Bodies.{case_of, cases_of, identity_at, place_among, place_or_first, within_case}
use Rattle.vf_defining.specs.Fixpoints.{Defines}
use Rattle.vf_defining.specs.Fixpoints as defined
use Rattle.vf_defining.specs.UpTo.{up_to}
use Rattle.vf_defining.specs.Units.{within_fixpoint}
use Rattle.vf_fixpoint_laws.specs.values.Instances.{Instance, all_placed, placed, settled_at}
use Rattle.vf_fixpoint_laws.specs.values.Declares.{BuildsTerms, Covers, Declared, Declares, constructed}
use Rattle.vf_fixpoint_laws.specs.values.Worth.{HasValue, HaveValues, Sets, passing}
use Rattle.vf_fixpoint_laws.specs.values.Given.{TermKeepsSorts}
use Rattle.vf_fixpoint_laws.specs.values.Telling.{IsTermOf}
use Rattle.vf_fixpoint_laws.proofs.values.Alike.{heads_alike}
use Rattle.vf_fixpoint_laws.proofs.values.Alike as alike
use Rattle.vf_fixpoint_laws.proofs.values.Before.{equated}
use Rattle.vf_fixpoint_laws.proofs.values.Placing.{fresh_at, instance_used, unknown_at}
use Rattle.vf_fixpoint_laws.proofs.values.Telling.{sorts_tell}
use Rattle.vf_fixpoint_laws.proofs.values.Values.{readings_follow_in_sets}
use Rattle.vf_fixpoint_laws.specs.bodies.Closed.{Each, IsClosed}
use Rattle.vf_fixpoint_laws.specs.bodies.Bodies.{BodiesGiveSorts, BodyKeepsSorts, GivesItsSort, HasEachCase, IsWellDeclared, declared_at}
use Rattle.vf_fixpoint_laws.proofs.bodies.Closed.{closed_alike, datatypes_alike, filled_same, placed_same}
use Rattle.vf_fixpoint_laws.proofs.bodies.Resolved.{equating_resolves, fresh_resolved, length_mapped, passing_settles}
use Rattle.vf_fixpoint_laws.proofs.bodies.Symbols.{gives_symbols}
use Rattle.vf_fixpoint_laws.proofs.bodies.Cases.{Found, cases_before, cases_resolved, found, scope_behind}
use Rattle.vf_fixpoint_laws.proofs.bodies.Arguments.{each_more, each_there, have_alike, have_appended, have_count, have_mapped, have_there, mapped_appended, sort_there}
use Rattle.vf_fixpoint_laws.proofs.bodies.Patterns.{IsCaseOf, case_told}

-- a sort without unknown sorts is what it is in the end
settled_plain : (s : Setting) (g : Instance) (f : Filling) (t : Sort) → IsBelow 0 t → settled_at s g t ≡ placed g f t
settled_plain s g f t b = ap (placed g any_sort) (filled_same (settling s.known) t b) ∙ placed_same g any_sort f t b

-- nothing is known at first
nothing_known : IsResolved []
nothing_known u s e = absurd cc

-- the type parameters of a datatype are no unknown sorts
parameters_below : (n m : ℕ) → EachUnknownOf (λ u. u < n) (row (parameter_sorts m))
parameters_below n zero = tt
parameters_below n (suc m) = more (parameter_sorts m) (parameters_below n m)
  where
    more : (ts : List Sort) → EachUnknownOf (λ u. u < n) (row ts) → EachUnknownOf (λ u. u < n) (row (ts ++ leaf (heads.Parameter m) ∷ []))
    more [] e = (tt, tt)
    more (t ∷ ts) e = (e.0, more ts e.1)

-- a term of a datatype, with its parts
pub record IsBuilt (d : Declared) (sets : Sets) (w : Value) (n : ℕ) (us : Sorts) : Type 0 where
  pub identity : Identity
  pub parts : Values
  pub constructor_ : Constructor
  pub is : w ≡ values.Constructed identity parts
  pub declares : Declares d identity (ghosts.Constructor constructor_)
  pub built : constructor_.datatype ≡ n
  pub instance_ : Instance
  pub filling : Filling
  pub whole : AreAlike (placed instance_ filling (datatype_sort constructor_.datatype (count_in (datatype_of d.scope constructor_.datatype)))) (sort (heads.Datatype n) us)
  pub sorted : HaveValues d sets parts (map (placed instance_ filling) constructor_.arguments)

built_by : (d : Declared) (sets : Sets) (c : Identity) (ws : Values) (n : ℕ) (us : Sorts) (x : Scheme) → BuildsTerms d c x → (g : Instance) (f : Filling) → AreAlike (placed g f x.result) (sort (heads.Datatype n) us) → HaveValues d sets ws (map (placed g f) x.arguments)
    → IsBuilt d sets (values.Constructed c ws) n us
built_by d sets c ws n us x (constructed {k} is) g f whole have = record {
  identity = c;
  parts = ws;
  constructor_ = k;
  is = refl;
  declares = is;
  built = (let r : heads.Datatype k.datatype ≡ heads.Datatype n = heads_alike (placed g f x.result) (sort (heads.Datatype n) us) whole in let q : k.datatype ≡ n = cc in q);
  instance_ = g;
  filling = f;
  whole = whole;
  sorted = have;
}

built_told : (d : Declared) (sets : Sets) (w : Value) (n : ℕ) (us : Sorts) → HasValue d sets w (sort (heads.Datatype n) us) → IsBuilt d sets w n us
built_told d sets w n us h = subst (λ (v : Value). IsBuilt d sets v n us) (sym t.is) (by (subst (λ (v : Value). HasValue d sets v (sort (heads.Datatype n) us)) t.is h))
  where
    t : IsTermOf d n w
    t = (sorts_tell d sets).terms w n us h

    by : HasValue d sets (values.Constructed t.identity t.parts) (sort (heads.Datatype n) us) → IsBuilt d sets (values.Constructed t.identity t.parts) n us
    by (x, is, g, f, whole, have) = built_by d sets t.identity t.parts n us x is g f whole have

-- a local that is switched over stands at its place
local_told : (s : Scope) (nm : Name) (ts : List Sort) (t : Sort) (o : Option ℕ) → sort_in s nm (at_index (map bound_local ts) o) ≡ Ok t → slice_get ts (place_or_first o) ≡ Some t
local_told s nm ts t None e = absurd cc
local_told s nm ts t (Some j) e = by (slice_get (map bound_local ts) j) refl e
  where
    by : (o : Option Local) → slice_get (map bound_local ts) j ≡ o → sort_in s nm o ≡ Ok t → slice_get ts j ≡ Some t
    by None is e = absurd cc
    by (Some l) is e = sort_there ts j l is ∙ ap Some (let q : sort_of_local l ≡ t = cc in q)

datatype_told : (t : Sort) (d : ℕ) → datatype_in t ≡ Some d → (us : Sorts) × (t ≡ sort (heads.Datatype d) us)
datatype_told (sort (heads.Datatype n) us) d e = (us, (let q : n ≡ d = cc in ap (λ (m : ℕ). sort (heads.Datatype m) us) q))
datatype_told (sort heads.Int us) d e = absurd cc
datatype_told (sort heads.Bool us) d e = absurd cc
datatype_told (sort (heads.Pointer w) us) d e = absurd cc
datatype_told (sort heads.Real us) d e = absurd cc
datatype_told (sort heads.Any us) d e = absurd cc
datatype_told (sort (heads.Parameter i) us) d e = absurd cc
datatype_told (sort (heads.Unknown u) us) d e = absurd cc
datatype_told (sort heads.Predicate us) d e = absurd cc

pub some_there : {A : Type 0} (o : Option A) → is_some o ≡ true → (a : A) × (o ≡ Some a)
some_there (Some a) e = (a, refl)
some_there None e = absurd cc

same_constructor : {a b : Constructor} → ghosts.Constructor a ≡ ghosts.Constructor b → a ≡ b
same_constructor e = cc

module _ (name : Name) (s : Scope) (paths : List (List ℕ)) (arguments : List Sort) (result : Sort) (n : ℕ) (gs : List GhostParameter) (i : Interpretation) (sets : Sets) (g : Instance) (f : Filling)
    (well : IsWellDeclared (declared_at s paths)) (covers : Covers (declared_at s paths) (declared_at (up_to name s) paths)) (known_arguments : Each (IsBelow 0) arguments) (known_result : IsBelow 0 result) (long : length gs ≡ length arguments)
    (vs : Values) (have : HaveValues (declared_at s paths) sets vs (map (placed g f) arguments)) where
  abbrev D : Declared
  D = declared_at s paths

  abbrev Inner : Scope
  Inner = within_fixpoint (up_to name s) gs arguments

  abbrev C : Context
  C = around_fixpoint n

  inner_aligned : IsAligned Inner.locals
  inner_aligned = length_mapped (λ (p : GhostParameter). p.name.text) gs ∙ long ∙ sym (length_mapped bound_local arguments)

  -- arguments have values of their sorts as they are known in the end
  arguments_have : (t : Setting) → HaveValues D sets vs (map (settled_at t g) arguments)
  arguments_have t =
      have_alike D sets (placed g f) (settled_at t g) arguments vs
      (each_more (IsBelow 0) (λ u. AreAlike (placed g f u) (settled_at t g u)) arguments (λ u b. ap untold (sym (settled_plain t g f u b))) known_arguments)
      have

  -- ---- a body that returns
  pub returned : (e : GhostExprTree) (k : Known) → ValuePasses Inner C result [] e k → TermKeepsSorts D i (of_arguments vs) sets (value_read Inner C k paths result 0 e).term
      → HasValue D sets (value i (of_arguments vs) (value_read Inner C k paths result 0 e).term) (placed g f result)
  returned e k (passes below p) keeps =
      let gives = gives_symbols D Inner n k paths i sets g arguments vs inner_aligned refl (arguments_have (with_symbols Inner C k paths)) in
      let follows = (readings_follow_in_sets sets D (with_symbols Inner C k paths) i (of_arguments vs) g covers gives).passed [] k result (place_of e) e p (passing_settles Inner C [] k result (place_of e) e nothing_known below p) in
      subst (HasValue D sets (value i (of_arguments vs) (value_read Inner C k paths result 0 e).term)) (settled_plain (with_symbols Inner C k paths) g f result known_result) (follows.has_value keeps)

  -- ---- a body that switches
  module _ (t : Sort) (d : ℕ) (us : Sorts) (k k' : Known) (cs : List FixpointCase) (s' : Scope) (p : ℕ)
      (at : slice_get arguments p ≡ Some t) (is_datatype : t ≡ sort (heads.Datatype d) us) (equates : Equates (with_fresh [] (parameters_of s d)) t (unknown_datatype s 0 d) k)
      (all : are_constructors Inner d cs ≡ true) (cases : CasesGive C result (parameters_of s d) Inner k cs s' k') where
    abbrev M : ℕ
    M = parameters_of s d

    below : IsBelow 0 t
    below = each_there (IsBelow 0) arguments p t known_arguments at

    fresh_long : length (with_fresh [] M) ≡ M
    fresh_long = let q = fresh_length [] M in omega (arith, q)

    first_resolved : IsResolved k
    first_resolved =
        equating_resolves (with_fresh [] M) k t (unknown_datatype s 0 d) (fresh_resolved [] M nothing_known) (below_more 0 (length (with_fresh [] M)) (omega arith) t below)
        (below_more (0 + M) (length (with_fresh [] M)) (let q = fresh_long in omega (arith, q)) (unknown_datatype s 0 d) (instance_below 0 0 M (omega arith) (datatype_sort d M) (parameters_below 0 M)))
        equates

    at_end : AgreesAsTold (settling k') k'
    at_end = settling_agrees k' (cases_resolved M C result cases first_resolved)

    in_front : AgreesAsTold (settling k') k
    in_front = cases_before M C result (settling k') cases at_end

    -- what stands for the type parameters of the datatype in the cases
    abbrev G : Instance
    G = fresh_at g any_sort (settling k') 0 M

    abbrev U : Filling
    U = unknown_at g any_sort (settling k')

    datatype_alike : AreAlike (placed g f t) (placed G U (datatype_sort d M))
    datatype_alike =
        ap untold (placed_same g f any_sort t below ∙ ap (placed g any_sort) (sym (filled_same (settling k') t below)))
        ∙ alike.placed_alike g any_sort (filled (settling k') t) (filled (settling k') (unknown_datatype s 0 d)) (equated (settling k') (with_fresh [] M) k t (unknown_datatype s 0 d) equates in_front)
        ∙ ap untold (instance_used g any_sort (settling k') 0 M (datatype_sort d M))

    -- the value that is switched over is a term of the datatype
    value_built : IsBuilt D sets (value_at vs p) d (all_placed g f us)
    value_built = built_told D sets (value_at vs p) d (all_placed g f us) (subst (λ (u : Sort). HasValue D sets (value_at vs p) (placed g f u)) is_datatype (have_there D sets (placed g f) arguments vs p t have at))

    -- the parts of a term have values of the sorts of a case's names, as they are known in the end
    parts_have : (b : IsBuilt D sets (value_at vs p) d (all_placed g f us)) (z : Setting) → z.known ≡ k' → HaveValues D sets b.parts (map (settled_at z g) (map (instance 0 M) (b.constructor_).arguments))
    parts_have b z same =
        have_mapped D sets (settled_at z g) (instance 0 M) (b.constructor_).arguments b.parts
        (have_alike D sets (placed b.instance_ b.filling) (λ a. settled_at z g (instance 0 M a)) (b.constructor_).arguments b.parts
        (each_more (IsClosed (count_in (datatype_of s (b.constructor_).datatype))) (λ a. AreAlike (placed b.instance_ b.filling a) (settled_at z g (instance 0 M a))) (b.constructor_).arguments part_alike (well.constructors b.identity b.constructor_ b.declares))
        b.sorted)
      where
        count_same : count_in (datatype_of s (b.constructor_).datatype) ≡ M
        count_same = ap (λ (m : ℕ). count_in (datatype_of s m)) b.built

        whole : AreAlike (placed b.instance_ b.filling (datatype_sort d M)) (placed G U (datatype_sort d M))
        whole =
            subst (λ (m : ℕ). AreAlike (placed b.instance_ b.filling (datatype_sort m (count_in (datatype_of s m)))) (sort (heads.Datatype d) (all_placed g f us))) b.built b.whole
            ∙ ap (λ (u : Sort). untold (placed g f u)) (sym is_datatype) ∙ datatype_alike

        part_alike : (a : Sort) → IsClosed (count_in (datatype_of s (b.constructor_).datatype)) a → AreAlike (placed b.instance_ b.filling a) (settled_at z g (instance 0 M a))
        part_alike a closed =
            closed_alike b.instance_ G b.filling U M (datatypes_alike b.instance_ G b.filling U d M whole) a (subst (λ (m : ℕ). IsClosed m a) count_same closed)
            ∙ ap untold (sym (instance_used g any_sort (settling k') 0 M a))
            ∙ ap (λ (l : Known). untold (placed g any_sort (filled (settling l) (instance 0 M a)))) (sym same)

    abbrev Cases : List Case
    Cases = cases_of C k' paths result M Inner M cs

    -- the case for the constructor of a term
    module _ (b : IsBuilt D sets (value_at vs p) d (all_placed g f us)) (y : Case) (h : Found Inner d M C result k' paths b.identity y) where
      abbrev Within : Scope
      Within = within_case Inner M (h.written).pattern

      abbrev S : Setting
      S = with_symbols Within C k' paths

      of_case : IsCaseOf Inner paths d (h.written).pattern
      of_case = case_told Inner paths d (h.written).pattern h.fits

      same_built : of_case.constructor_ ≡ b.constructor_
      same_built = same_constructor (well.tells b.identity (ghosts.Constructor of_case.constructor_) (ghosts.Constructor b.constructor_) (subst (λ (c : Identity). Declares D c (ghosts.Constructor of_case.constructor_)) h.named (covers.declares (identity_at Inner paths (h.written).pattern.constructor) (ghosts.Constructor of_case.constructor_) of_case.declares)) b.declares)

      abbrev NameSorts : List Sort
      NameSorts = case_sorts Inner 0 M (h.written).pattern

      sorts_same : NameSorts ≡ map (instance 0 M) (b.constructor_).arguments
      sorts_same = ap (map (instance 0 M)) (of_case.arguments ∙ ap (λ (c : Constructor). c.arguments) same_built)

      names_counted : valuations.count b.parts ≡ y.names
      names_counted =
          have_count D sets (placed b.instance_ b.filling) (b.constructor_).arguments b.parts b.sorted
          ∙ ap (λ (c : Constructor). length c.arguments) (sym same_built) ∙ of_case.long ∙ ap (λ (c : Case). c.names) (sym h.is)

      within_aligned : IsAligned Within.locals
      within_aligned =
          length-append Inner.locals.names (map (λ (m : Name). m.text) (names_or_none (h.written).pattern.names))
          ∙ ap₂ (λ (a c : ℕ). a + c) inner_aligned (length_mapped (λ (m : Name). m.text) (names_or_none (h.written).pattern.names) ∙ h.counted ∙ sym (length_mapped bound_local NameSorts))
          ∙ sym (length-append Inner.locals.meanings (map bound_local NameSorts))

      all_have : HaveValues D sets (appended vs b.parts) (map (settled_at S g) (arguments ++ NameSorts))
      all_have = have_appended D sets (settled_at S g) arguments NameSorts vs b.parts (arguments_have S) (subst (λ (ts : List Sort). HaveValues D sets b.parts (map (settled_at S g) ts)) (sym sorts_same) (parts_have b S refl))

      pub case_has : TermKeepsSorts D i (of_arguments (appended vs b.parts)) sets y.result → HasValue D sets (value i (of_arguments (appended vs b.parts)) y.result) (placed g f result)
      case_has keeps =
          subst (λ (c : Case). HasValue D sets (value i (of_arguments (appended vs b.parts)) c.result) (placed g f result)) (sym h.is) (by h.gives)
        where
          by : ValuePasses Within C result h.before (h.written).value h.behind → HasValue D sets (value i (of_arguments (appended vs b.parts)) (case_of C k' paths result M Inner (length h.before) h.written).result) (placed g f result)
          by (passes below_before q) =
              let gives = gives_symbols D Within n k' paths i sets g (arguments ++ NameSorts) (appended vs b.parts) within_aligned (sym (mapped_appended bound_local arguments NameSorts)) all_have in
              let follows = (readings_follow_in_sets sets D S i (of_arguments (appended vs b.parts)) g covers gives).passed h.before h.behind result (place_of (h.written).value) (h.written).value q h.agrees in
              subst (HasValue D sets (value i (of_arguments (appended vs b.parts)) (case_of C k' paths result M Inner (length h.before) h.written).result)) (settled_plain S g f result known_result)
              (follows.has_value (subst (λ (c : Case). TermKeepsSorts D i (of_arguments (appended vs b.parts)) sets c.result) h.is keeps))

    pub switched : (x : definitions.Fixpoint) → x.parameters ≡ length gs → shown_kind x.kind ≡ kind_of_sort result → HasEachCase D arguments (bodies.Switches p Cases) → MeetsBody i x (bodies.Switches p Cases) → BodyKeepsSorts D i sets vs (bodies.Switches p Cases)
        → HasValue D sets (of_kind (kind_of_sort result) (i.fixpoint x.identity vs)) (placed g f result)
    switched x counted kind each meets keeps = by (some_there (case_for Cases value_built.identity) (each d us (at ∙ ap Some is_datatype) value_built.identity value_built.constructor_ value_built.declares value_built.built))
      where
        by : ((y : Case) × (case_for Cases value_built.identity ≡ Some y)) → HasValue D sets (of_kind (kind_of_sort result) (i.fixpoint x.identity vs)) (placed g f result)
        by (y, there) =
            let long_k : M ≡ length k = sym fresh_long ∙ sym equates.long in
            let h = found M C result Inner inner_aligned d k' paths cs k k' s' M cases long_k at_end all value_built.identity y there in
            let equal = meets vs value_built.parts value_built.identity y (have_count D sets (placed g f) arguments vs have ∙ sym long ∙ sym counted) value_built.is there (names_counted value_built y h) in
            subst (λ (w : Value). HasValue D sets w (placed g f result)) (sym equal ∙ ap (λ (q : Kind). of_kind q (i.fixpoint x.identity vs)) kind)
            (case_has value_built y h (keeps value_built.identity value_built.parts y value_built.is there))

-- ---- whole bodies
module _ (sets : Sets) (name : Name) (s : Scope) (paths : List (List ℕ)) (x : declaration.Fixpoint) (k : definitions.Fixpoint) (i : Interpretation) (well : IsWellDeclared (declared_at s paths)) (covers : Covers (declared_at s paths) (declared_at (up_to name s) paths)) (vs : Values) (g : Instance) (f : Filling)
    (have : HaveValues (declared_at s paths) sets vs (map (placed g f) x.arguments)) where
  -- what is to be shown of a body that was defined for a result of a sort
  abbrev Goal : List GhostParameter → Sort → Body → Type 0
  Goal gs t b = IsBelow 0 t → Each (IsBelow 0) x.arguments → length gs ≡ length x.arguments → k.parameters ≡ length gs → shown_kind k.kind ≡ kind_of_sort t → HasEachCase (declared_at s paths) x.arguments b → MeetsBody i k b → BodyKeepsSorts (declared_at s paths) i sets vs b
      → HasValue (declared_at s paths) sets (of_kind (kind_of_sort t) (i.fixpoint k.identity vs)) (placed g f t)

  -- what is left of it
  abbrev Rest : List GhostParameter → Sort → Body → Type 0
  Rest gs t b = k.parameters ≡ length gs → shown_kind k.kind ≡ kind_of_sort t → HasEachCase (declared_at s paths) x.arguments b → MeetsBody i k b → BodyKeepsSorts (declared_at s paths) i sets vs b
      → HasValue (declared_at s paths) sets (of_kind (kind_of_sort t) (i.fixpoint k.identity vs)) (placed g f t)

  defined_gives : (n : ℕ) (gs : List GhostParameter) (text : FixpointBody) (b : Body) → Defines (within_fixpoint (up_to name s) gs x.arguments) paths n text b → Goal gs (result_of (within_fixpoint (up_to name s) gs x.arguments) n) b
  defined_gives n gs text b (defined.value {e} {k = l} given) known sorts long = λ counted kind each meets keeps.
      let t = result_of (within_fixpoint (up_to name s) gs x.arguments) n in
      let equal = meets vs (have_count (declared_at s paths) sets (placed g f) x.arguments vs have ∙ sym long ∙ sym counted) in
      subst (λ (w : Value). HasValue (declared_at s paths) sets w (placed g f t)) (sym equal ∙ ap (λ (q : Kind). of_kind q (i.fixpoint k.identity vs)) kind)
      (returned name s paths x.arguments t n gs i sets g f well covers sorts known long vs have e l given keeps)
  defined_gives n gs text b (defined.cases {x = nm} {cs} {m} {s'} {k = l} {k'} (switches {t} {d} sorted _ is_datatype all equates) given) known sorts long =
      let inner = within_fixpoint (up_to name s) gs x.arguments in
      let r = result_of inner n in
      let aligned = inner_aligned name s paths x.arguments r n gs i sets g f well covers sorts known long vs have in
      let u = datatype_told t d is_datatype in
      subst (λ (z : Scope). Rest gs r (bodies.Switches (place_among z nm) (cases_of (around_fixpoint n) k' paths r m z m cs))) (sym (scope_behind m (around_fixpoint n) r inner aligned cs l k' s' given))
      (switched name s paths x.arguments r n gs i sets g f well covers sorts known long vs have t d u.0 l k' cs s' (place_among inner nm) (local_told inner nm x.arguments t (number_of inner.locals.names nm.text) sorted) u.1 equates all given k)

pub bodies_give_sorts_in : (sets : Sets) → GivesItsSort sets
bodies_give_sorts_in sets s paths x body k i well d meets vs g f have keeps =
    let same : result_of (within_fixpoint (up_to d.name s) d.parameters x.arguments) d.number ≡ x.result = ap result_in d.stands in
    subst (λ (t : Sort). Goal sets d.name s paths x k i well d.covers vs g f have d.parameters t body) same (defined_gives sets d.name s paths x k i well d.covers vs g f have d.number d.parameters d.text body d.defines)
    d.known_result d.known_arguments d.long d.counted d.kind d.each_case meets keeps

pub bodies_give_sorts : BodiesGiveSorts
bodies_give_sorts tests = bodies_give_sorts_in (passing tests)
