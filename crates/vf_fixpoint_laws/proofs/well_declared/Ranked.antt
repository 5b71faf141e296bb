-- The datatypes of an accepted unit stand in order.
use Rattle.std.proofs.Common.{◌≡◌, refl, sym, subst, ◌∙◌, ap, ℕ, zero, suc, ◌+◌, ◌<◌, ◌≤◌, ◌⊎◌, inl, inr, true, false, List, [], ◌∷◌, ◌++◌, append_assoc, append-nil, length, length-append, drop, slice_get, Contains, Option, Some, None, Ok, arith}
use Rattle.std.specs.List.{list_all}
use Rattle.vf_declared.specs.declared.declaration.Datatype.{Datatype}
use Rattle.vf_declared.specs.declared.declaration.GhostDeclaration.{GhostDeclaration}
use Rattle.vf_declared.specs.declared.declaration.GhostDeclaration.TheVariants as ghosts
use Rattle.vf_declared.specs.declared.scope.Scope.{Scope}
use Rattle.vf_declared.specs.Scopes.{datatype_of, ghost_of}
use Rattle.vf_syntax.specs.declared.item.Constructor.{Constructor as Written}
use Rattle.vf_syntax.specs.declared.item.GhostForm.{GhostForm}
use Rattle.vf_syntax.specs.declared.item.GhostForm.TheVariants as forms
use Rattle.vf_syntax.specs.declared.item.Item.{Item}
use Rattle.vf_syntax.specs.declared.item.Item.TheVariants as items
use Rattle.vf_syntax.specs.declared.written.Name.{Name}
use Rattle.vf_sorts.specs.Sorts.{Sort}
use Rattle.vf_datatypes.specs.declared.own.Own.{Own}
use Rattle.vf_datatypes.specs.declared.stated.Stated.{Stated}
use Rattle.vf_datatypes.specs.Arguments.{sorts_within}
use Rattle.vf_datatypes.specs.Datatypes.{begun, body_behind, complete, constructor_behind, constructors_behind, datatype_behind, numbers_from, own, with_constructor, with_datatype, with_next}
use Rattle.vf_datatypes.specs.Inhabited.{constructors_in, is_inhabited, IsConstructorOf, names_below, StandInOrder}
use Rattle.vf_datatypes.specs.NewNames.{name_refusal}
use Rattle.vf_datatypes.specs.NewNames as names
use Rattle.vf_datatypes.specs.Walking.{behind}
use Rattle.vf_walk.specs.Items.{WalksItem, WalksItems}
use Rattle.vf_annotations.specs.Forms.{FormComes, meanings}
use Rattle.vf_erasure_laws.proofs.hidden.Coming.{Comes, Leads, behind_comes, none_some, ok_comes, only_leads, then_leads, unless_comes}
use Rattle.vf_env_laws.proofs.Keeping.{IsBeside}
use Rattle.vf_fixpoint_laws.proofs.definable.Extending.{Core, core}
use Rattle.vf_fixpoint_laws.proofs.definable.Lists.{get_below, get_front}
use Rattle.vf_fixpoint_laws.proofs.definable.Parts.{Any, if_comes}
use Rattle.vf_fixpoint_laws.proofs.well_declared.Adding.{new_datatypes, others_datatypes}
use Rattle.vf_fixpoint_laws.proofs.well_declared.Below.{AllBelow, NumberedBelow, within_below}
use Rattle.vf_fixpoint_laws.proofs.well_declared.Cores.{IsOther, New, Others, Plain, ghost, nothing, one_file, one_name, plain}
use Rattle.vf_fixpoint_laws.proofs.well_declared.Ghosts.{PredicateFrom, again, first}
use Rattle.vf_fixpoint_laws.proofs.well_declared.Growth.{Goes, inhabited_goes}
use Rattle.vf_fixpoint_laws.proofs.well_declared.Items.{FormLeaves, ItemLeaves, item_leaves}
use Rattle.vf_fixpoint_laws.proofs.well_declared.Lists.{some_same}
use Rattle.vf_fixpoint_laws.proofs.well_declared.Standing.{item_stands, Stands}

-- ---- datatypes that stand in order
-- datatypes stand in order, each has a number below their count, and their constructors are declared
pub record Ranked (s : Scope) : Type 0 where
  pub order : StandInOrder s
  pub numbered : NumberedBelow (length s.datatypes) s
  pub declared : (k at c : ℕ) → slice_get (constructors_in (datatype_of s k)) at ≡ Some c → c < length s.ghosts

-- what stands at an index of two lists one after the other stands in the first, or in the second
get_parts : {A : Type 0} (xs ys : List A) (k : ℕ) (x : A) → slice_get (xs ++ ys) k ≡ Some x → (slice_get xs k ≡ Some x) ⊎ ((i : ℕ) × (k ≡ length xs + i) × (slice_get ys i ≡ Some x))
get_parts [] ys k x e = inr (k, omega arith, e)
get_parts (y ∷ xs) ys zero x e = inl e
get_parts (y ∷ xs) ys (suc k) x e = elim (get_parts xs ys k x e) [
  | inl h ↦ inl h
  | inr h ↦ (let q = h.1 in inr (h.0, omega (arith, q), h.2))
]

-- ---- where no datatype is new
-- none of some declarations is a datatype
abbrev NoDatatypes : List GhostDeclaration → Type 0
NoDatatypes gs = (i j : ℕ) → slice_get gs i ≡ Some (ghosts.Datatype j) → ⊥

module _ (s t : Scope) (more : List GhostDeclaration) (longer : t.ghosts ≡ s.ghosts ++ more) (same : t.datatypes ≡ s.datatypes) (none : NoDatatypes more) (r : Ranked s) where
  goes_on : Goes s t
  goes_on = record {
    ghosts = λ k g e. ap (λ gs. slice_get gs k) longer ∙ get_front s.ghosts more k g e;
    datatypes = λ k d e. ap (λ ds. slice_get ds k) same ∙ e;
    longer = let q = ap length same in omega (arith, q);
  }

  datatype_kept : (k : ℕ) → datatype_of t k ≡ datatype_of s k
  datatype_kept k = ap (λ ds. slice_get ds k) same

  constructor_kept : (k at c : ℕ) → slice_get (constructors_in (datatype_of t k)) at ≡ Some c → slice_get (constructors_in (datatype_of s k)) at ≡ Some c
  constructor_kept k at c e = ap (λ o. slice_get (constructors_in o) at) (sym (datatype_kept k)) ∙ e

  ranked_kept : Ranked t
  ranked_kept = record {
    order = record {
      inhabited = λ k l. inhabited_goes s t goes_on k (r.order.inhabited k (let q = ap length same in omega (arith, l, q)));
      ordered = λ k arguments x.
          let stands = constructor_kept k x.at x.number x.stands in
          r.order.ordered k arguments (record { at = x.at; number = x.number; stands = stands; datatype = x.datatype; is = sym (get_below s.ghosts more x.number (r.declared k x.at x.number stands)) ∙ (sym (ap (λ gs. slice_get gs x.number) longer) ∙ x.is) });
    };
    numbered = λ k j e. elim (get_parts s.ghosts more k (ghosts.Datatype j) (sym (ap (λ gs. slice_get gs k) longer) ∙ e)) [
      | inl h ↦ (let l = r.numbered k j h in let q = ap length same in omega (arith, l, q))
      | inr h ↦ absurd (none h.0 j h.2)
    ];
    declared = λ k at c e.
        let l = r.declared k at c (constructor_kept k at c e) in
        let q : length t.ghosts ≡ length s.ghosts + length more = ap length longer ∙ length-append s.ghosts more in
        omega (arith, l, q);
  }

no_datatype : NoDatatypes []
no_datatype i j e = absurd cc

-- one declaration is no datatype
abbrev IsNoDatatype : GhostDeclaration → Type 0
IsNoDatatype g = (j : ℕ) → ◌≡◌ {A = GhostDeclaration} g (ghosts.Datatype j) → ⊥

one_other : (g : GhostDeclaration) → IsNoDatatype g → NoDatatypes (g ∷ [])
one_other g f zero j e = f j (some_same e)
one_other g f (suc i) j e = absurd cc

plain_ghosts : {c e : Core} → Plain c e → e.ghosts ≡ c.ghosts
plain_ghosts (nothing a) = ap (λ (c : Core). c.ghosts) a
plain_ghosts (one_file k file a) = ap (λ (c : Core). c.ghosts) a
plain_ghosts (one_name x m file f i a) = ap (λ (c : Core). c.ghosts) a

new_ranked : (s t : Scope) {n : Name} {g : GhostDeclaration} → New n g (core s) (core t) → IsNoDatatype g → Ranked s → Ranked t
new_ranked s t {g = g} a f r = ranked_kept s t (g ∷ []) (ap (λ (c : Core). c.ghosts) a.is) (new_datatypes a) (one_other g f) r

other_no_datatype : (g : GhostDeclaration) → IsOther g → IsNoDatatype g
other_no_datatype g o j e = subst IsOther e o

others_ranked : (s t : Scope) → Others (core s) (core t) → Ranked s → Ranked t
others_ranked s t (plain p) r = ranked_kept s t [] (plain_ghosts p ∙ sym (append-nil s.ghosts)) (others_datatypes (plain p)) no_datatype r
others_ranked s t (ghost n g o a) r = new_ranked s t a (other_no_datatype g o) r

-- ---- a datatype
-- all of some declarations are constructors, whose arguments name datatypes below a number
abbrev AreConstructors : ℕ → List GhostDeclaration → Type 0
AreConstructors n [] = Unit {0}
AreConstructors n (ghosts.Constructor c ∷ gs) = AllBelow n c.arguments × AreConstructors n gs
AreConstructors n (g ∷ gs) = ⊥

one_of_them : (n : ℕ) (g : GhostDeclaration) (gs : List GhostDeclaration) → AreConstructors n (g ∷ gs) → IsNoDatatype g × AreConstructors n gs
one_of_them n (ghosts.Constructor c) gs h = (λ j e. absurd cc, h.1)
one_of_them n (ghosts.Datatype d) gs h = absurd h
one_of_them n (ghosts.Fixpoint d) gs h = absurd h
one_of_them n (ghosts.Predicate d) gs h = absurd h
one_of_them n (ghosts.Family d) gs h = absurd h
one_of_them n (ghosts.PredicateConstructor d) gs h = absurd h
one_of_them n (ghosts.Lemma d) gs h = absurd h

none_of_them : (n : ℕ) (gs : List GhostDeclaration) → AreConstructors n gs → NoDatatypes gs
none_of_them n [] h i j e = absurd cc
none_of_them n (g ∷ gs) h zero j e = (one_of_them n g gs h).0 j (some_same e)
none_of_them n (g ∷ gs) h (suc i) j e = none_of_them n gs (one_of_them n g gs h).1 i j e

-- a constructor among them names datatypes below
arguments_of_them : (n : ℕ) (gs : List GhostDeclaration) → AreConstructors n gs → (i d : ℕ) (arguments : List Sort) → slice_get gs i ≡ Some (ghosts.Constructor (record { datatype = d; arguments = arguments })) → AllBelow n arguments
arguments_of_them n [] h i d arguments e = absurd cc
arguments_of_them n (ghosts.Constructor c ∷ gs) h zero d arguments e = let q : c.arguments ≡ arguments = cc in subst (AllBelow n) q h.0
arguments_of_them n (g ∷ gs) h zero d arguments e = absurd cc
arguments_of_them n (g ∷ gs) h (suc i) d arguments e = arguments_of_them n gs (one_of_them n g gs h).1 i d arguments e

one_more : (n : ℕ) (gs : List GhostDeclaration) (d : ℕ) (arguments : List Sort) → AreConstructors n gs → AllBelow n arguments → AreConstructors n (gs ++ ghosts.Constructor (record { datatype = d; arguments = arguments }) ∷ [])
one_more n [] d arguments h a = (a, tt)
one_more n (ghosts.Constructor c ∷ gs) d arguments h a = (h.0, one_more n gs d arguments h.1 a)
one_more n (ghosts.Datatype x ∷ gs) d arguments h a = absurd h
one_more n (ghosts.Fixpoint x ∷ gs) d arguments h a = absurd h
one_more n (ghosts.Predicate x ∷ gs) d arguments h a = absurd h
one_more n (ghosts.Family x ∷ gs) d arguments h a = absurd h
one_more n (ghosts.PredicateConstructor x ∷ gs) d arguments h a = absurd h
one_more n (ghosts.Lemma x ∷ gs) d arguments h a = absurd h

-- a datatype was begun behind a scope, and some of its constructors are declared
record Opened (s t : Scope) : Type 0 where
  built : List GhostDeclaration
  longer : t.ghosts ≡ s.ghosts ++ ghosts.Datatype (length s.datatypes) ∷ built
  same : t.datatypes ≡ s.datatypes
  each : AreConstructors (length s.datatypes + 1) built

datatype_number : {j k : ℕ} → ◌≡◌ {A = GhostDeclaration} (ghosts.Datatype j) (ghosts.Datatype k) → j ≡ k
datatype_number e = cc

module _ (s : Scope) (r : Ranked s) where
  opened_numbered : (t : Scope) → Opened s t → NumberedBelow (length s.datatypes + 1) t
  opened_numbered t a k j e = elim (get_parts s.ghosts (ghosts.Datatype (length s.datatypes) ∷ a.built) k (ghosts.Datatype j) (sym (ap (λ gs. slice_get gs k) a.longer) ∙ e)) [
    | inl h ↦ (let l = r.numbered k j h in omega (arith, l))
    | inr h ↦ behind_it h.0 h.2
  ]
    where
      behind_it : (i : ℕ) → slice_get (ghosts.Datatype (length s.datatypes) ∷ a.built) i ≡ Some (ghosts.Datatype j) → j < length s.datatypes + 1
      behind_it zero h = let q = datatype_number (some_same h) in omega (arith, q)
      behind_it (suc i) h = absurd (none_of_them (length s.datatypes + 1) a.built a.each i j h)

  constructor_opened : (d : Stated) (o : Own) (c : Written) (t : Scope) → o.number ≡ length s.datatypes → Opened s t → Comes (Opened s) (constructor_behind d o c t)
  constructor_opened d o c t q a =
      unless_comes (Opened s) (name_refusal t c.name) (behind (with_constructor o.number (with_next t c.name)) (sorts_within (with_next t c.name) d o c.arguments))
      (behind_comes (AllBelow (length s.datatypes + 1)) (Opened s) (with_constructor o.number (with_next t c.name)) (sorts_within (with_next t c.name) d o c.arguments)
      (within_below (length s.datatypes + 1) (with_next t c.name) d o (opened_numbered t a) (omega (arith, q)) c.arguments)
      (λ ts h. ok_comes (Opened s) (record {
        built = a.built ++ ghosts.Constructor (record { datatype = o.number; arguments = ts }) ∷ [];
        longer = ap (λ gs. gs ++ ghosts.Constructor (record { datatype = o.number; arguments = ts }) ∷ []) a.longer ∙ append_assoc s.ghosts (ghosts.Datatype (length s.datatypes) ∷ a.built) (ghosts.Constructor (record { datatype = o.number; arguments = ts }) ∷ []);
        same = a.same;
        each = one_more (length s.datatypes + 1) a.built o.number ts a.each h;
      })))

  constructors_opened : (d : Stated) (o : Own) (cs : List Written) (t : Scope) → o.number ≡ length s.datatypes → Opened s t → Comes (Opened s) (constructors_behind d o cs t)
  constructors_opened d o [] t q a = ok_comes (Opened s) a
  constructors_opened d o (c ∷ cs) t q a = behind_comes (Opened s) (Opened s) (constructors_behind d o cs) (constructor_behind d o c t) (constructor_opened d o c t q a) (λ u b. constructors_opened d o cs u q b)

numbers_at : {A : Type 0} (n : ℕ) (xs : List A) (i c : ℕ) → slice_get (numbers_from n xs) i ≡ Some c → (c ≡ n + i) × (i < length xs)
numbers_at n [] i c e = absurd cc
numbers_at n (x ∷ xs) zero c e = let q : n ≡ c = cc in (omega (arith, q), omega arith)
numbers_at n (x ∷ xs) (suc i) c e = let h = numbers_at (n + 1) xs i c e in let q = h.0 in let l = h.1 in (omega (arith, q), omega (arith, l))

drop_behind : {A : Type 0} (xs : List A) (y : A) (ys : List A) → drop (length xs + 1) (xs ++ y ∷ ys) ≡ ys
drop_behind [] y ys = refl
drop_behind (x ∷ xs) y ys = ap (λ n. drop n (x ∷ (xs ++ y ∷ ys))) (let e : suc (length xs) + 1 ≡ suc (length xs + 1) = omega arith in e) ∙ drop_behind xs y ys

get_behind : {A : Type 0} (xs : List A) (y : A) (ys : List A) (i : ℕ) → slice_get (xs ++ y ∷ ys) (length xs + 1 + i) ≡ slice_get ys i
get_behind [] y ys i = ap (slice_get (y ∷ ys)) (let e : 0 + 1 + i ≡ suc i = omega arith in e)
get_behind (x ∷ xs) y ys i = ap (slice_get (x ∷ (xs ++ y ∷ ys))) (let e : suc (length xs) + 1 + i ≡ suc (length xs + 1 + i) = omega arith in e) ∙ get_behind xs y ys i

get_last : {A : Type 0} (xs : List A) (x : A) → slice_get (xs ++ x ∷ []) (length xs) ≡ Some x
get_last [] x = refl
get_last (y ∷ xs) x = get_last xs x

get_past : {A : Type 0} (xs : List A) (k : ℕ) → length xs ≤ k → slice_get xs k ≡ None
get_past [] k l = refl
get_past (x ∷ xs) zero l = absurd (omega (arith, l))
get_past (x ∷ xs) (suc k) l = get_past xs k (omega (arith, l))

-- where it is below, the same, or above
compared : (k n : ℕ) → (k < n) ⊎ ((k ≡ n) ⊎ (n < k))
compared zero zero = inr (inl refl)
compared zero (suc n) = inl (omega arith)
compared (suc k) zero = inr (inr (omega arith))
compared (suc k) (suc n) = elim (compared k n) [
  | inl l ↦ inl (omega (arith, l))
  | inr h ↦ elim h [ inl q ↦ inr (inl (omega (arith, q))) | inr l ↦ inr (inr (omega (arith, l))) ]
]

module _ (s : Scope) (r : Ranked s) (o : Own) (first_number : ℕ) (t : Scope) (q : o.number ≡ length s.datatypes) (f : first_number ≡ length s.ghosts + 1) (a : Opened s t) where
  abbrev whole : Scope
  whole = with_datatype t o first_number

  abbrev datatype : Datatype
  datatype = record { parameters = length o.parameters; constructors = numbers_from first_number (drop first_number t.ghosts) }

  counted : length whole.datatypes ≡ length s.datatypes + 1
  counted = length-append t.datatypes (datatype ∷ []) ∙ ap (λ ds. length ds + 1) a.same

  left : drop first_number t.ghosts ≡ a.built
  left = ap (λ n. drop n t.ghosts) f ∙ (ap (drop (length s.ghosts + 1)) a.longer ∙ drop_behind s.ghosts (ghosts.Datatype (length s.datatypes)) a.built)

  earlier_datatype : (k : ℕ) → k < length s.datatypes → datatype_of whole k ≡ datatype_of s k
  earlier_datatype k l = ap (λ ds. slice_get (ds ++ datatype ∷ []) k) a.same ∙ get_below s.datatypes (datatype ∷ []) k (omega (arith, l))

  last_datatype : datatype_of whole (length s.datatypes) ≡ Some datatype
  last_datatype = ap (λ ds. slice_get (ds ++ datatype ∷ []) (length s.datatypes)) a.same ∙ get_last s.datatypes datatype

  no_datatype_past : (k : ℕ) → length s.datatypes < k → datatype_of whole k ≡ None
  no_datatype_past k l = get_past whole.datatypes k (let c = counted in omega (arith, c, l))

  ghosts_on : (k : ℕ) (g : GhostDeclaration) → ghost_of s k ≡ Some g → ghost_of t k ≡ Some g
  ghosts_on k g e = ap (λ gs. slice_get gs k) a.longer ∙ get_front s.ghosts (ghosts.Datatype (length s.datatypes) ∷ a.built) k g e

  goes_whole : Goes s whole
  goes_whole = record {
    ghosts = ghosts_on;
    datatypes = λ k d e. ap (λ ds. slice_get (ds ++ datatype ∷ []) k) a.same ∙ get_front s.datatypes (datatype ∷ []) k d e;
    longer = let c = counted in omega (arith, c);
  }

  -- a constructor of the new datatype
  new_constructor : (at c : ℕ) → slice_get (numbers_from first_number (drop first_number t.ghosts)) at ≡ Some c → (c ≡ length s.ghosts + 1 + at) × (at < length a.built)
  new_constructor at c e = let h = numbers_at first_number (drop first_number t.ghosts) at c e in let i = h.0 in let l = h.1 in let m = ap length left in (omega (arith, i, f), omega (arith, l, m))

  long : length t.ghosts ≡ length s.ghosts + 1 + length a.built
  long = ap length a.longer ∙ (length-append s.ghosts (ghosts.Datatype (length s.datatypes) ∷ a.built) ∙ (let e : length s.ghosts + suc (length a.built) ≡ length s.ghosts + 1 + length a.built = omega arith in e))

  constructors_at : (k at c : ℕ) (d : Option Datatype) → datatype_of whole k ≡ d → slice_get (constructors_in (datatype_of whole k)) at ≡ Some c → slice_get (constructors_in d) at ≡ Some c
  constructors_at k at c d is e = ap (λ x. slice_get (constructors_in x) at) (sym is) ∙ e

  in_order : (k : ℕ) (arguments : List Sort) → IsConstructorOf whole k arguments → list_all (names_below (k + 1)) arguments ≡ true
  in_order k arguments x = elim (compared k (length s.datatypes)) [
    | inl l ↦ (let stands = constructors_at k x.at x.number (datatype_of s k) (earlier_datatype k l) x.stands in
        r.order.ordered k arguments (record { at = x.at; number = x.number; stands = stands; datatype = x.datatype; is = sym (get_below s.ghosts (ghosts.Datatype (length s.datatypes) ∷ a.built) x.number (r.declared k x.at x.number stands)) ∙ (sym (ap (λ gs. slice_get gs x.number) a.longer) ∙ x.is) }))
    | inr h ↦ elim h [
      | inl e ↦ (let c = new_constructor x.at x.number (constructors_at k x.at x.number (Some datatype) (ap (datatype_of whole) e ∙ last_datatype) x.stands) in
          subst (λ n. AllBelow (n + 1) arguments) (sym e) (arguments_of_them (length s.datatypes + 1) a.built a.each x.at x.datatype arguments
          (sym (get_behind s.ghosts (ghosts.Datatype (length s.datatypes)) a.built x.at) ∙ (ap (slice_get (s.ghosts ++ ghosts.Datatype (length s.datatypes) ∷ a.built)) (sym c.0) ∙ (sym (ap (λ gs. slice_get gs x.number) a.longer) ∙ x.is)))))
      | inr l ↦ absurd (none_some (constructors_at k x.at x.number None (no_datatype_past k l) x.stands))
    ]
  ]

  all_declared : (k at c : ℕ) → slice_get (constructors_in (datatype_of whole k)) at ≡ Some c → c < length t.ghosts
  all_declared k at c e = elim (compared k (length s.datatypes)) [
    | inl l ↦ (let b = r.declared k at c (constructors_at k at c (datatype_of s k) (earlier_datatype k l) e) in let m = long in omega (arith, b, m))
    | inr h ↦ elim h [
      | inl i ↦ (let b = new_constructor at c (constructors_at k at c (Some datatype) (ap (datatype_of whole) i ∙ last_datatype) e) in let u = b.0 in let v = b.1 in let m = long in omega (arith, u, v, m))
      | inr l ↦ absurd (none_some (constructors_at k at c None (no_datatype_past k l) e))
    ]
  ]

  ranked_whole : is_inhabited whole o.number ≡ true → Ranked whole
  ranked_whole i = record {
    order = record {
      inhabited = λ k l. elim (compared k (length s.datatypes)) [
        | inl b ↦ inhabited_goes s whole goes_whole k (r.order.inhabited k b)
        | inr h ↦ elim h [
          | inl e ↦ ap (is_inhabited whole) (e ∙ sym q) ∙ i
          | inr b ↦ absurd (let c = counted in omega (arith, b, c, l))
        ]
      ];
      ordered = in_order;
    };
    numbered = λ k j e. let b = opened_numbered s r t a k j e in let c = counted in omega (arith, b, c);
    declared = all_declared;
  }

complete_ranked : (s : Scope) → Ranked s → (o : Own) (n : ℕ) (t : Scope) → o.number ≡ length s.datatypes → n ≡ length s.ghosts + 1 → Opened s t → Comes Ranked (complete o n t)
complete_ranked s r o n t q f a = if_comes Ranked (is_inhabited (with_datatype t o n) o.number) _ _ (λ e. ranked_whole s r o n t q f a e)

datatype_ranked : (d : Stated) (n : Name) (ns : List Name) (cs : List Written) (s : Scope) → Ranked s → Comes Ranked (datatype_behind d n ns cs s)
datatype_ranked d n ns cs s r =
    unless_comes Ranked (name_refusal s n) (behind (λ (ps : List (List ℕ)). body_behind d cs (begun s n) (own s n ps)) (names.parameters_behind (begun s n) ns []))
    (behind_comes Any Ranked (λ (ps : List (List ℕ)). body_behind d cs (begun s n) (own s n ps)) (names.parameters_behind (begun s n) ns []) (λ ps e. tt)
    (λ ps e. behind_comes (Opened s) Ranked (complete (own s n ps) (length (begun s n).ghosts)) (constructors_behind d (own s n ps) cs (begun s n)) (constructors_opened s r d (own s n ps) cs (begun s n) refl opened)
    (λ u a. complete_ranked s r (own s n ps) (length (begun s n).ghosts) u refl (length-append s.ghosts (ghosts.Datatype (length s.datatypes) ∷ [])) a)))
  where
    opened : Opened s (begun s n)
    opened = record { built = []; longer = refl; same = refl; each = tt }

-- ---- items
predicate_ranked : {n : Name} {gs : _} (s t : Scope) → PredicateFrom n gs s t → Ranked s → Ranked t
predicate_ranked s t (first ts w a) r = new_ranked s t a.is (λ j e. absurd cc) r
predicate_ranked s t (again k e p) r = others_ranked s t (plain p.is) r

form_ranked : (d : Stated) (x : GhostForm) (s t : Scope) → FormComes d x s (Ok t) → FormLeaves x s t → Ranked s → Ranked t
form_ranked d (forms.Inductive n ns b cs) s t w l r = only_leads Ranked (datatype_behind d n ns cs s) (datatype_ranked d n ns cs s r) t w
form_ranked d (forms.Fixpoint y n ns gs b) s t w l r = new_ranked s t l.new.is (λ j e. absurd cc) r
form_ranked d (forms.Predicate n gs) s t w l r = predicate_ranked s t l r
form_ranked d (forms.PredicateBody n gs x) s t w l r = predicate_ranked s t l r
form_ranked d (forms.Family n i gs) s t w l r = others_ranked s t l.is r
form_ranked d (forms.Instance f g gs x) s t w l r = others_ranked s t l.is r
form_ranked d (forms.PredicateConstructor n fs gs x) s t w l r = others_ranked s t l.is r
form_ranked d (forms.LemmaPrototype n ns gs c) s t w l r = others_ranked s t l.is r
form_ranked d (forms.Lemma n ns gs c b) s t w l r = others_ranked s t l.is r

item_ranked : (d : Stated) (x : Item) (s t : Scope) → WalksItem (meanings d) x s (Ok t) → ItemLeaves x s t → Ranked s → Ranked t
item_ranked d (items.Opaque p n) s t w l r = others_ranked s t l.is r
item_ranked d (items.Struct p n fs) s t w l r = others_ranked s t l.is r
item_ranked d (items.FunctionType p g c) s t w l r = others_ranked s t l.is r
item_ranked d (items.Prototype g k c) s t w l r = others_ranked s t l.is r
item_ranked d (items.Function g k c b) s t w l r = others_ranked s t l.is r
item_ranked d (items.Ghost x) s t w l r = form_ranked d x.form s t w l r

-- what an item leaves, and datatypes that stand in order
abbrev RankedItem : Item → Scope → Scope → Type 0
RankedItem x s t = ItemLeaves x s t × Ranked t

-- items leave datatypes in order
pub items_ranked : (xs : List Item) (d : Stated) (ys : List Item) (s : Scope) → ((y : Item) → Contains ys y → Contains xs y) → Stands xs (core s) → Ranked s → Leads Ranked (WalksItems (meanings d) ys s)
items_ranked xs d [] s a h r = only_leads Ranked (Ok s) (ok_comes Ranked r)
items_ranked xs d (y ∷ ys) s a h r =
    then_leads (RankedItem y s) Ranked (λ u w. (leaves u w, item_ranked d y s u w (leaves u w) r))
    (λ u l t w. items_ranked xs d ys u (λ z i. a z (there z i)) (item_stands s u y (a y here) l.0 h) l.1 t w)
  where
    leaves : (u : Scope) → WalksItem (meanings d) y s (Ok u) → ItemLeaves y s u
    leaves u w = item_leaves d y s h.ordered.beside u w

    here : Contains (y ∷ ys) y
    here = (0, omega arith, refl)

    there : (z : Item) → Contains ys z → Contains (y ∷ ys) z
    there z i = let l = i.1 in (suc i.0, omega (arith, l), i.2)
