-- With numbers for fixpoints whose results are integers, terms have the same values and fixpoints keep sorts.
use Rattle.std.proofs.Common.{◌≡◌, ◌⊎◌, inl, inr, ℕ, zero, suc, Bool, true, false, cond, not, List, [], ◌∷◌, ◌++◌, Option, Some, None, refl, sym, subst, ap, ap₂, ◌∙◌, ⊎_elim, arith}
use Rattle.std.specs.Prelude.{◌&&◌, Contains, is_some}
use Rattle.vf_tree.specs.Core.{Identity}
use Rattle.vf_model.specs.Values.{Value, Values, more, same_identity}
use Rattle.vf_meaning.specs.Valuations.{Valuation}
use Rattle.vf_meaning.specs.GhostValues.{Interpretation}
use Rattle.vf_meaning.proofs.FitSteps.{identities, own_identity}
use Rattle.vf_closure.specs.Terms.{Kind, Integer, Other, Head, Symbol, Number, Truth, Null, Function, Constructor, Fixpoint, Claims, Predicate, Share, Sum, Plus, Arithmetic, Compare, Not, And, Or, Choose, PointerSum, Term, Terms, term, no_terms, and_term, kind_of}
use Rattle.vf_closure.specs.Values.{all_values, applied, of_kind, value}
use Rattle.vf_formula.specs.Heads.{shown_kind}
use Rattle.vf_syntax.specs.declared.item.Item.{Item}
use Rattle.vf_declared.specs.declared.declaration.Fixpoint as declaration
use Rattle.vf_declared.specs.declared.declaration.GhostDeclaration.TheVariants as ghosts
use Rattle.vf_declared.specs.declared.scope.Scope.{Scope}
use Rattle.vf_declared.specs.Scopes.{at_name}
use Rattle.vf_terms.specs.Settings.{kind_of_sort}
use Rattle.vf_definitions.specs.Laws.{MeetsBody}
use Rattle.vf_definitions.specs.Unfolded.{fixpoint_for, same_kind}
use Rattle.vf_definitions.specs.declared.fixpoint.Body.{Body}
use Rattle.vf_definitions.specs.declared.fixpoint.Body.TheVariants.{Returns, Switches}
use Rattle.vf_definitions.specs.declared.fixpoint.Fixpoint as definitions
use Rattle.vf_defining.specs.UpTo.{up_to}
use Rattle.vf_defining.specs.Bodies.{identity_at}
use Rattle.vf_defining.specs.Fixpoints.{Defines}
use Rattle.vf_defining.specs.Units.{HaveDefinitions, no_items, more_items, IsNumbered, ItemDefines, other_item, stray_item, fixpoint, Written, of_integers, within_fixpoint}
use Rattle.vf_fixpoint_laws.specs.values.Declares.{Declares}
use Rattle.vf_fixpoint_laws.specs.values.Worth.{Sets, passing}
use Rattle.vf_fixpoint_laws.proofs.values.Operating.{first_of, second_of}
use Rattle.vf_fixpoint_laws.specs.bodies.Bodies.{IsWellDeclared, declared_at}
use Rattle.vf_fixpoint_laws.specs.bodies.Recursion.{GivesKinds}
use Rattle.vf_fixpoint_laws.specs.bodies.Units.{EachIsWritten, IsWritten}
use Rattle.vf_fixpoint_laws.specs.bodies.Numbers.{BodyIsKinded, HeadIsKinded, NumbersKeepIn, NumbersKeepSorts, NumbersKeepValues, NumbersMeetDefinitions, TermIsKinded, TermsAreKinded, gives_integers, with_numbers}
use Rattle.vf_fixpoint_laws.proofs.bodies.Patterns.{meant_told}
use Rattle.vf_fixpoint_laws.proofs.bodies.Recursion.{same_fixpoint}
use Rattle.vf_fixpoint_laws.proofs.bodies.Taken.{definition_of, one_of, own_kind, own_shown, own_there}
use Rattle.vf_fixpoint_laws.proofs.bodies.Units.{has_definition, in_first, in_second, unit_keeps_in}

-- ---- values
module _ (fs : List definitions.Fixpoint) (i : Interpretation) where
  -- a value as a kind has it is the same with numbers
  number_same : (k : Kind) (b : Bool) (w : Value) → (b ≡ true → k ≡ Integer) → of_kind k (cond b (of_kind Integer w) w) ≡ of_kind k w
  number_same Integer true w e = refl
  number_same Other true w e = absurd (let q : Other ≡ Integer = e refl in cc)
  number_same k false w e = refl

  head_same : (v : Valuation) (h : Head) (vs : Values) → HeadIsKinded fs h → of_kind (kind_of h) (applied (with_numbers fs i) v h vs) ≡ of_kind (kind_of h) (applied i v h vs)
  head_same v (Fixpoint k c) vs e = number_same k (gives_integers fs c) (i.fixpoint c vs) e
  head_same v (Symbol k x) vs e = refl
  head_same v (Number z) vs e = refl
  head_same v (Truth b) vs e = refl
  head_same v Null vs e = refl
  head_same v (Function f) vs e = refl
  head_same v (Constructor f) vs e = refl
  head_same v (Claims t) vs e = refl
  head_same v (Predicate p) vs e = refl
  head_same v (Share x) vs e = refl
  head_same v (Sum ks) vs e = refl
  head_same v Plus vs e = refl
  head_same v (Arithmetic q) vs e = refl
  head_same v (Compare q) vs e = refl
  head_same v Not vs e = refl
  head_same v And vs e = refl
  head_same v Or vs e = refl
  head_same v (Choose k) vs e = refl
  head_same v PointerSum vs e = refl

  mutual
    pub term_same : (v : Valuation) (t : Term) → TermIsKinded fs t → value (with_numbers fs i) v t ≡ value i v t
    term_same v (term h ts) e = ap (λ (vs : Values). of_kind (kind_of h) (applied (with_numbers fs i) v h vs)) (terms_same v ts e.1) ∙ head_same v h (all_values i v ts) e.0

    terms_same : (v : Valuation) (ts : Terms) → TermsAreKinded fs ts → all_values (with_numbers fs i) v ts ≡ all_values i v ts
    terms_same v no_terms e = refl
    terms_same v (and_term t ts) e = ap₂ more (term_same v t e.0) (terms_same v ts e.1)

pub numbers_keep_values : NumbersKeepValues
numbers_keep_values fs i v t e = term_same fs i v t e

-- ---- definitions for a kind
kind_told : (a b : Kind) → same_kind a b ≡ true → a ≡ b
kind_told Integer Integer e = refl
kind_told Integer Other e = absurd cc
kind_told Other Integer e = absurd cc
kind_told Other Other e = refl

kind_own : (a : Kind) → same_kind a a ≡ true
kind_own Integer = refl
kind_own Other = refl

identity_told : (a b : Identity) → same_identity a b ≡ true → a ≡ b
identity_told a b e = ⊎_elim (λ p. p.1) (λ q. absurd (let r : false ≡ true = sym q ∙ e in cc)) (identities a b)

-- what is found is there, and of that kind
abbrev IsFoundIn : List definitions.Fixpoint → Kind → Identity → definitions.Fixpoint → Type 0
IsFoundIn fs k c x = Contains fs x × (shown_kind x.kind ≡ k) × (x.identity ≡ c)

pub fixpoint_found : (fs : List definitions.Fixpoint) (k : Kind) (c : Identity) (x : definitions.Fixpoint) → fixpoint_for fs k c ≡ Some x → IsFoundIn fs k c x
fixpoint_found [] k c x e = absurd cc
fixpoint_found (y ∷ ys) k c x e = by (fixpoint_found ys k c x) (same_kind (shown_kind y.kind) k && same_identity y.identity c) refl e
  where
    by : (fixpoint_for ys k c ≡ Some x → IsFoundIn ys k c x) → (b : Bool) → (same_kind (shown_kind y.kind) k && same_identity y.identity c) ≡ b → cond b (Some y) (fixpoint_for ys k c) ≡ Some x → IsFoundIn (y ∷ ys) k c x
    by further true is e =
        let q : y ≡ x = cc in
        subst (IsFoundIn (y ∷ ys) k c) q
        ((zero, omega arith, refl), kind_told (shown_kind y.kind) k (first_of (same_kind (shown_kind y.kind) k) (same_identity y.identity c) is), identity_told y.identity c (second_of (same_kind (shown_kind y.kind) k) (same_identity y.identity c) is))
    by further false is e = let r = further e in ((suc r.0.0, omega (arith, r.0.1), r.0.2), r.1, r.2)

both_true : (a b : Bool) → a ≡ true → b ≡ true → (a && b) ≡ true
both_true true b p q = q
both_true false b p q = p

pub fixpoint_there : (fs : List definitions.Fixpoint) (x : definitions.Fixpoint) → Contains fs x → is_some (fixpoint_for fs (shown_kind x.kind) x.identity) ≡ true
fixpoint_there [] x (k, l, is) = absurd (omega (arith, l))
fixpoint_there (y ∷ ys) x (zero, l, is) =
    subst (λ (z : definitions.Fixpoint). is_some (fixpoint_for (y ∷ ys) (shown_kind z.kind) z.identity) ≡ true) is
    (rw (both_true (same_kind (shown_kind y.kind) (shown_kind y.kind)) (same_identity y.identity y.identity) (kind_own (shown_kind y.kind)) (own_identity y.identity)) refl)
fixpoint_there (y ∷ ys) x (suc k, l, is) = by (same_kind (shown_kind y.kind) (shown_kind x.kind) && same_identity y.identity x.identity) (fixpoint_there ys x (k, omega (arith, l), is))
  where
    by : (b : Bool) → is_some (fixpoint_for ys (shown_kind x.kind) x.identity) ≡ true → is_some (cond b (Some y) (fixpoint_for ys (shown_kind x.kind) x.identity)) ≡ true
    by true e = refl
    by false e = e

pub not_both : {A : Type 0} (b : Bool) → b ≡ true → not b ≡ true → A
not_both true p q = absurd cc
not_both false p q = absurd cc

-- a definition of such a fixpoint is one of integers
definition_kind : (fs : List definitions.Fixpoint) (x : definitions.Fixpoint) → Contains fs x → gives_integers fs x.identity ≡ true → shown_kind x.kind ≡ Integer
definition_kind fs x there e = by (shown_kind x.kind) refl
  where
    by : (k : Kind) → shown_kind x.kind ≡ k → shown_kind x.kind ≡ Integer
    by Integer is = is
    by Other is = not_both (is_some (fixpoint_for fs Other x.identity)) (subst (λ (k : Kind). is_some (fixpoint_for fs k x.identity) ≡ true) is (fixpoint_there fs x there)) (second_of (is_some (fixpoint_for fs Integer x.identity)) (not (is_some (fixpoint_for fs Other x.identity))) e)

body_met : (fs : List definitions.Fixpoint) (i : Interpretation) (x : definitions.Fixpoint) → (gives_integers fs x.identity ≡ true → shown_kind x.kind ≡ Integer) → (b : Body) → BodyIsKinded fs b → MeetsBody i x b → MeetsBody (with_numbers fs i) x b
body_met fs i x kind (Returns t) e m = λ vs n. number_same fs i (shown_kind x.kind) (gives_integers fs x.identity) (i.fixpoint x.identity vs) kind ∙ m vs n ∙ sym (term_same fs i _ t e)
body_met fs i x kind (Switches p cases) e m = λ vs us c y n at there l. number_same fs i (shown_kind x.kind) (gives_integers fs x.identity) (i.fixpoint x.identity vs) kind ∙ m vs us c y n at there l ∙ sym (term_same fs i _ y.result (e c y there))

pub numbers_meet_definitions : NumbersMeetDefinitions
numbers_meet_definitions fs i kinded m x there = body_met fs i x (definition_kind fs x there) x.body (kinded x there) (m x there)

-- ---- where definitions come from
apart : {A : Type 0} (xs ys : List A) (a : A) → Contains (xs ++ ys) a → Contains xs a ⊎ Contains ys a
apart [] ys a c = inr c
apart (x ∷ xs) ys a (zero, l, is) = inl (zero, omega arith, is)
apart (x ∷ xs) ys a (suc k, l, is) = ⊎_elim (λ p. inl (suc p.0, omega (arith, p.1), p.2)) (λ q. inr q) (apart xs ys a (k, omega (arith, l), is))

-- a definition is that of a declared fixpoint, which has one of its result's kind; its body is as it is read, or taken as numbers
pub record IsFrom (s : Scope) (paths : List (List ℕ)) (all : List definitions.Fixpoint) (x : definitions.Fixpoint) : Type 0 where
  pub written : Written
  pub number : ℕ
  pub declared : declaration.Fixpoint
  pub body : Body
  pub defines : Defines (within_fixpoint (up_to written.name s) written.parameters declared.arguments) paths number written.body body
  pub taken : (x.body ≡ body) ⊎ (x.body ≡ of_integers body)
  pub declares : Declares (declared_at s paths) x.identity (ghosts.Fixpoint declared)
  pub integers : kind_of_sort declared.result ≡ Integer → shown_kind x.kind ≡ Integer
  pub own : definitions.Fixpoint
  pub own_among : Contains all own
  pub own_identity_is : own.identity ≡ x.identity
  pub own_kind_is : shown_kind own.kind ≡ kind_of_sort declared.result

numbered_declares : (s : Scope) (paths : List (List ℕ)) (w : Written) (n : ℕ) (f : declaration.Fixpoint) → IsNumbered s w n f → Declares (declared_at s paths) (identity_at s paths w.name) (ghosts.Fixpoint f)
numbered_declares s paths w n f numbered =
    let m = meant_told s paths w.name.place.file w.name.text n (at_name s.names s.declarations w.name.text) numbered.means in
    record { name = w.name.text; declaration = m.declaration; number = n; found = m.found; means = m.means; stands = numbered.is; is = m.identity }

item_from : (s : Scope) (paths : List (List ℕ)) (item : Item) (all : List definitions.Fixpoint) → ItemDefines s paths item all → (x : definitions.Fixpoint) → Contains all x → IsFrom s paths all x
item_from s paths item all (other_item e) x (k, l, is) = absurd (omega (arith, l))
item_from s paths item all (stray_item e stray) x (k, l, is) = absurd (omega (arith, l))
item_from s paths item all (fixpoint {w} {n} {f} {b} e numbered defines) x there =
    let o = one_of s paths w b f.result x there in
    record {
      written = w;
      number = n;
      declared = f;
      body = b;
      defines = defines;
      taken = o.taken;
      declares = subst (λ (z : Identity). Declares (declared_at s paths) z (ghosts.Fixpoint f)) (sym o.identity) (numbered_declares s paths w n f numbered);
      integers = o.integers;
      own = definition_of s paths w b (own_kind f.result);
      own_among = own_there s paths w b f.result;
      own_identity_is = sym o.identity;
      own_kind_is = own_shown f.result;
    }

among_more : (s : Scope) (paths : List (List ℕ)) (all others : List definitions.Fixpoint) (x : definitions.Fixpoint) → ((y : definitions.Fixpoint) → Contains all y → Contains others y) → IsFrom s paths all x → IsFrom s paths others x
among_more s paths all others x f h = record {
  written = h.written;
  number = h.number;
  declared = h.declared;
  body = h.body;
  defines = h.defines;
  taken = h.taken;
  declares = h.declares;
  integers = h.integers;
  own = h.own;
  own_among = f h.own h.own_among;
  own_identity_is = h.own_identity_is;
  own_kind_is = h.own_kind_is;
}

pub definition_from : (s : Scope) (paths : List (List ℕ)) (items : List Item) (fs : List definitions.Fixpoint) → HaveDefinitions s paths items fs → (x : definitions.Fixpoint) → Contains fs x → IsFrom s paths fs x
definition_from s paths items fs no_items x (k, l, is) = absurd (omega (arith, l))
definition_from s paths items fs (more_items {x = item} {ds} {es} d h) x there =
    ⊎_elim (λ p. among_more s paths ds (ds ++ es) x (in_first ds es) (item_from s paths item ds d x p)) (λ q. among_more s paths es (ds ++ es) x (in_second ds es) (definition_from s paths _ es h x q)) (apart ds es x there)

not_some : {A : Type 0} (o : Option A) → ((a : A) → o ≡ Some a → ⊥) → not (is_some o) ≡ true
not_some None f = refl
not_some (Some a) f = absurd (f a refl)

number_given : (b : Bool) (v : Value) → b ≡ true → of_kind Integer (cond b (of_kind Integer v) v) ≡ cond b (of_kind Integer v) v
number_given true v e = refl
number_given false v e = absurd cc

module _ (s : Scope) (paths : List (List ℕ)) (items : List Item) (fs : List definitions.Fixpoint) (i : Interpretation) (have : HaveDefinitions s paths items fs) (well : IsWellDeclared (declared_at s paths))
    (c : Identity) (x : declaration.Fixpoint) (is : Declares (declared_at s paths) c (ghosts.Fixpoint x)) (w : IsWritten s paths items c x) (integer : kind_of_sort x.result ≡ Integer) where
  -- a declared fixpoint with a result of integers has definitions for these alone
  one_there : is_some (fixpoint_for fs Integer c) ≡ true
  one_there =
      let h = has_definition s paths items fs c x w have in
      subst (λ (k : Kind). is_some (fixpoint_for fs k c) ≡ true) (own_shown x.result ∙ integer)
      (subst (λ (z : Identity). is_some (fixpoint_for fs (shown_kind (own_kind x.result)) z) ≡ true) w.identity (fixpoint_there fs (definition_of s paths w.written h.body (own_kind x.result)) h.there))

  no_other : (a : definitions.Fixpoint) → fixpoint_for fs Other c ≡ Some a → ⊥
  no_other a e =
      let q = fixpoint_found fs Other c a e in
      let h = definition_from s paths items fs have a q.0 in
      let same : h.declared ≡ x = same_fixpoint (well.tells c (ghosts.Fixpoint h.declared) (ghosts.Fixpoint x) (subst (λ (z : Identity). Declares (declared_at s paths) z (ghosts.Fixpoint h.declared)) q.2 h.declares) is) in
      let both : Other ≡ Integer = sym q.1 ∙ h.integers (ap (λ (y : declaration.Fixpoint). kind_of_sort y.result) same ∙ integer) in
      cc

  integers_given : gives_integers fs c ≡ true
  integers_given = both_true (is_some (fixpoint_for fs Integer c)) (not (is_some (fixpoint_for fs Other c))) one_there (not_some (fixpoint_for fs Other c) no_other)

-- where results are integers, fixpoints give numbers
gives_kinds : (sets : Sets) (s : Scope) (paths : List (List ℕ)) (items : List Item) (fs : List definitions.Fixpoint) (i : Interpretation) → HaveDefinitions s paths items fs → IsWellDeclared (declared_at s paths) → EachIsWritten s paths items → GivesKinds (declared_at s paths) (with_numbers fs i) sets
gives_kinds sets s paths items fs i have well written c x is vs g f values = by (kind_of_sort x.result) refl
  where
    by : (k : Kind) → kind_of_sort x.result ≡ k → of_kind k ((with_numbers fs i).fixpoint c vs) ≡ (with_numbers fs i).fixpoint c vs
    by Other e = refl
    by Integer e = number_given (gives_integers fs c) (i.fixpoint c vs) (integers_given s paths items fs i have well c x is (written c x is) e)

pub numbers_keep_in : (sets : Sets) → NumbersKeepIn sets
numbers_keep_in sets s paths items fs i r have meets well written covered cases down kinded =
    unit_keeps_in sets s paths items fs (with_numbers fs i) r have (numbers_meet_definitions fs i kinded meets) well written covered cases down (gives_kinds sets s paths items fs i have well written)

pub numbers_keep_sorts : NumbersKeepSorts
numbers_keep_sorts tests = numbers_keep_in (passing tests)
