-- What is declared and numbered at a place, as names come and go.
use Rattle.std.proofs.Common.{◌≡◌, ℕ, zero, suc, ◌+◌, List, [], ◌∷◌, ◌++◌, length, take, Option, Some, refl, sym, subst, ap, ◌∙◌, arith, length-append}
use Rattle.std.specs.Prelude.{map, slice_get}
use Rattle.vf_meaning.specs.Ghost.{Numbered}
use Rattle.vf_closure.specs.Terms.{Kind, Symbol, Term, no_terms, term}
use Rattle.vf_formula.specs.Heads.{shown_kind}
use Rattle.vf_sorts.specs.declared.sort.Head.TheVariants as heads
use Rattle.vf_sorts.specs.Sorts.{Sort, sort}
use Rattle.vf_sorts.specs.Unknowns.{Known, filled, settling}
use Rattle.vf_declared.specs.declared.locals.Local.{Local}
use Rattle.vf_declared.specs.declared.scope.Scope.{Scope}
use Rattle.vf_sorting.specs.Schemes.{sort_of_local}
use Rattle.vf_binding.specs.declared.bound.Bound.{Bound}
use Rattle.vf_binding.specs.Bound.{bound_local, with_names}
use Rattle.vf_asserting.specs.Leaving.{left}
use Rattle.vf_terms.specs.Settings.{kind_of_sort}
use Rattle.vf_terms.specs.Named.{local_term}
use Rattle.vf_resolved_parts.specs.Names.{kind_for, slot_for, symbol_for}
use Rattle.vf_resolving.specs.Standings.{Around, Standing, behind, counting, declaring, known_sort, leaving, with_name, with_sorts}
use Rattle.vf_resolved_laws.specs.Assertions.{NumbersHaveSorts, Stands}
use Rattle.vf_resolved_laws.specs.Heads.{Vocabulary}
use Rattle.vf_resolved_laws.specs.Laws.{progress_at}
use Rattle.vf_resolved_laws.specs.Terms.{TermHasSort, symbol}
use Rattle.vf_resolved_laws.proofs.Binding.{stands_more}

-- ---- lists
append_none : {A : Type 0} (xs : List A) → xs ++ [] ≡ xs
append_none [] = refl
append_none (x ∷ xs) = ap (λ ys. x ∷ ys) (append_none xs)

append_one : {A : Type 0} (xs ys : List A) (x : A) → (xs ++ x ∷ []) ++ ys ≡ xs ++ x ∷ ys
append_one [] ys x = refl
append_one (y ∷ xs) ys x = ap (λ zs. y ∷ zs) (append_one xs ys x)

one_longer : {A : Type 0} (xs : List A) (x : A) → length (xs ++ x ∷ []) ≡ suc (length xs)
one_longer [] x = refl
one_longer (y ∷ xs) x = ap suc (one_longer xs x)

added : {A B : Type 0} (xs us : List A) (ys vs : List B) → length xs ≡ length ys → length us ≡ length vs → length (xs ++ us) ≡ length (ys ++ vs)
added xs us ys vs p q = let a = length-append xs us in let b = length-append ys vs in omega (arith, a, b, p, q)

mapped : {A B : Type 0} (f : A → B) (xs : List A) → length (map f xs) ≡ length xs
mapped f [] = refl
mapped f (x ∷ xs) = ap suc (mapped f xs)

pub stands_behind : {A : Type 0} (xs ys : List A) (i : ℕ) → slice_get (xs ++ ys) (length xs + i) ≡ slice_get ys i
stands_behind [] ys i = ap (slice_get ys) (let e : 0 + i ≡ i = omega arith in e)
stands_behind (x ∷ xs) ys i = ap (slice_get (x ∷ (xs ++ ys))) (let e : suc (length xs) + i ≡ suc (length xs + i) = omega arith in e) ∙ stands_behind xs ys i

pub stands_mapped : {A B : Type 0} (f : A → B) (xs : List A) (i : ℕ) (x : A) → slice_get xs i ≡ Some x → slice_get (map f xs) i ≡ Some (f x)
stands_mapped f [] i x e = absurd cc
stands_mapped f (y ∷ xs) zero x e = let same : y ≡ x = cc in ap (λ z. Some (f z)) same
stands_mapped f (y ∷ xs) (suc i) x e = stands_mapped f xs i x e

take_alike : {A B : Type 0} (n : ℕ) (xs : List A) (ys : List B) → length xs ≡ length ys → length (take n xs) ≡ length (take n ys)
take_alike zero xs ys e = refl
take_alike (suc n) [] [] e = refl
take_alike (suc n) (x ∷ xs) (y ∷ ys) e = ap suc (take_alike n xs ys (let q : length xs ≡ length ys = omega (arith, e) in q))
take_alike (suc n) [] (y ∷ ys) e = absurd (let q : ⊥ = omega (arith, e) in q)
take_alike (suc n) (x ∷ xs) [] e = absurd (let q : ⊥ = omega (arith, e) in q)

-- ---- symbols of names
shown_is : (t : Sort) → shown_kind (kind_for t) ≡ kind_of_sort t
shown_is (sort heads.Int ts) = refl
shown_is (sort heads.Bool ts) = refl
shown_is (sort (heads.Pointer w) ts) = refl
shown_is (sort heads.Real ts) = refl
shown_is (sort heads.Any ts) = refl
shown_is (sort (heads.Parameter i) ts) = refl
shown_is (sort (heads.Unknown u) ts) = refl
shown_is (sort (heads.Datatype d) ts) = refl
shown_is (sort heads.Predicate ts) = refl

-- a name's symbol has its sort
symbol_has : (d : Vocabulary) (n : ℕ) (t : Sort) → d.names (Numbered n) ≡ t → TermHasSort d (symbol_for (slot_for n t)) t
symbol_has d n t e =
    subst (λ (k : Kind). TermHasSort d (term (Symbol k (Numbered n)) no_terms) t) (sym (shown_is t))
    (subst (λ (u : Sort). TermHasSort d (term (Symbol (kind_of_sort u) (Numbered n)) no_terms) u) e (symbol (Numbered n)))

-- the symbols of names with numbers from one on, of these sorts as they are known in the end
abbrev pub symbols_at : Around → ℕ → List Sort → List Term
symbols_at a n [] = []
symbols_at a n (t ∷ ts) = symbol_for (slot_for n (known_sort a t)) ∷ symbols_at a (suc n) ts

symbols_long : (a : Around) (n : ℕ) (ts : List Sort) → length (symbols_at a n ts) ≡ length ts
symbols_long a n [] = refl
symbols_long a n (t ∷ ts) = ap suc (symbols_long a (suc n) ts)

-- locals more with their names
abbrev pub with_all : Around → List Sort → Standing → Standing
with_all a ts x = record { scope = x.scope; terms = x.terms ++ symbols_at a (length x.sorts) ts; sorts = x.sorts ++ map (known_sort a) ts; next = x.next }

pub sorts_are : (a : Around) (ts : List Sort) (x : Standing) → with_sorts a ts x ≡ with_all a ts x
sorts_are a [] x = λ i. record { scope = x.scope; terms = sym (append_none x.terms) i; sorts = sym (append_none x.sorts) i; next = x.next }
sorts_are a (t ∷ ts) x =
    let u = known_sort a t in
    sorts_are a ts (with_name u x)
    ∙ (λ i. record {
      scope = x.scope;
      terms = (ap (λ n. (x.terms ++ symbol_for (slot_for (length x.sorts) u) ∷ []) ++ symbols_at a n ts) (one_longer x.sorts u) ∙ append_one x.terms (symbols_at a (suc (length x.sorts)) ts) (symbol_for (slot_for (length x.sorts) u))) i;
      sorts = append_one x.sorts (map (known_sort a) ts) u i;
      next = x.next;
    })

-- what is numbered behind what a part binds
pub behind_sorts : (a : Around) (b : Bound) (k : Known) (x : Standing) → (behind a (progress_at b k) x).sorts ≡ x.sorts ++ map (known_sort a) b.sorts
behind_sorts a b k x = ap (λ (y : Standing). y.sorts) (sorts_are a b.sorts (declaring b x))

pub fewer_numbers : (d : Vocabulary) (ts us : List Sort) → NumbersHaveSorts d (ts ++ us) → NumbersHaveSorts d ts
fewer_numbers d ts us h = record { each = λ i t e. h.each i t (stands_more ts us i t e) }

module _ (d : Vocabulary) (a : Around) where
  -- the term of a local has its sort
  abbrev Has : Option Term → Local → Type 0
  Has z l = TermHasSort d (local_term z) (filled (settling a.known) (sort_of_local l))

  abbrev Each : List Local → List Term → Type 0
  Each ms zs = (n : ℕ) (l : Local) → slice_get ms n ≡ Some l → Has (slice_get zs n) l

  same_local : {l m : Local} → Some l ≡ Some m → l ≡ m
  same_local e = cc

  -- the names with numbers from one on have these sorts
  abbrev Follow : ℕ → List Sort → Type 0
  Follow m ts = (i : ℕ) (t : Sort) → slice_get ts i ≡ Some t → d.names (Numbered (m + i)) ≡ known_sort a t

  symbols_have : (m : ℕ) (ts : List Sort) → Follow m ts → Each (map bound_local ts) (symbols_at a m ts)
  symbols_have m [] h n l e = absurd cc
  symbols_have m (t ∷ ts) h zero l e =
      let first : d.names (Numbered m) ≡ known_sort a t = subst (λ j. d.names (Numbered j) ≡ known_sort a t) (let q : m + 0 ≡ m = omega arith in q) (h 0 t refl) in
      subst (λ (k : Local). TermHasSort d (symbol_for (slot_for m (known_sort a t))) (filled (settling a.known) (sort_of_local k))) (same_local e) (symbol_has d m (known_sort a t) first)
  symbols_have m (t ∷ ts) h (suc n) l e = symbols_have (suc m) ts (λ i u q. subst (λ j. d.names (Numbered j) ≡ known_sort a u) (let q : m + suc i ≡ suc m + i = omega arith in q) (h (suc i) u q)) n l e

  more_have : (ms : List Local) (zs : List Term) (ns : List Local) (ys : List Term) → length zs ≡ length ms → Each ms zs → Each ns ys → Each (ms ++ ns) (zs ++ ys)
  more_have [] [] ns ys p f g n l e = g n l e
  more_have (m ∷ ms) (z ∷ zs) ns ys p f g zero l e = f zero l e
  more_have (m ∷ ms) (z ∷ zs) ns ys p f g (suc n) l e = more_have ms zs ns ys (let q : length zs ≡ length ms = omega (arith, p) in q) (λ i k q. f (suc i) k q) g n l e
  more_have [] (z ∷ zs) ns ys p f g n l e = absurd (let q : ⊥ = omega (arith, p) in q)
  more_have (m ∷ ms) [] ns ys p f g n l e = absurd (let q : ⊥ = omega (arith, p) in q)

  taken_have : (k : ℕ) (ms : List Local) (zs : List Term) → length zs ≡ length ms → Each ms zs → Each (take k ms) (take k zs)
  taken_have zero ms zs p f n l e = absurd cc
  taken_have (suc k) [] [] p f n l e = absurd cc
  taken_have (suc k) (m ∷ ms) (z ∷ zs) p f zero l e = f zero l e
  taken_have (suc k) (m ∷ ms) (z ∷ zs) p f (suc n) l e = taken_have k ms zs (let q : length zs ≡ length ms = omega (arith, p) in q) (λ i j q. f (suc i) j q) n l e
  taken_have (suc k) [] (z ∷ zs) p f n l e = absurd (let q : ⊥ = omega (arith, p) in q)
  taken_have (suc k) (m ∷ ms) [] p f n l e = absurd (let q : ⊥ = omega (arith, p) in q)

  -- ---- places
  -- other unknown sorts are used next
  pub counting_stands : {x : Standing} {s : Scope} {k k' : Known} (u : ℕ) → u ≡ length k' → Stands d a x s k → Stands d a (counting u x) s k'
  counting_stands u at st = record { scope = st.scope; next = at; vocabulary = st.vocabulary; terms = st.terms; gives = record { aligned = st.gives.aligned; locals = st.gives.locals; result = st.gives.result; this_value = st.gives.this_value; thread = st.gives.thread } }

  -- names are gone
  pub leaving_stands : {x : Standing} {s : Scope} {k : Known} (n : ℕ) → Stands d a x s k → Stands d a (leaving n x) (left n s) k
  leaving_stands {x} n st = record {
    scope = ap (left n) st.scope;
    next = st.next;
    vocabulary = st.vocabulary;
    terms = take_alike n x.terms x.scope.locals.meanings st.terms;
    gives = record {
      aligned = take_alike n x.scope.locals.names x.scope.locals.meanings st.gives.aligned;
      locals = taken_have n x.scope.locals.meanings x.terms st.terms st.gives.locals;
      result = st.gives.result;
      this_value = st.gives.this_value;
      thread = st.gives.thread;
    };
  }

  -- the names that a part binds have the sorts that they are numbered with
  pub numbers_follow : (x : Standing) (b : Bound) → NumbersHaveSorts d (x.sorts ++ map (known_sort a) b.sorts) → Follow (length x.sorts) b.sorts
  numbers_follow x b h i t e = h.each (length x.sorts + i) (known_sort a t) (stands_behind x.sorts (map (known_sort a) b.sorts) i ∙ stands_mapped (known_sort a) b.sorts i t e)

  -- names come
  pub behind_stands : {x : Standing} {s : Scope} {k : Known} (b : Bound) (k' : Known) → length b.names ≡ length b.sorts → NumbersHaveSorts d (x.sorts ++ map (known_sort a) b.sorts) → Stands d a x s k → Stands d a (behind a (progress_at b k') x) (with_names s b) k'
  behind_stands {x} {s} b k' long h st =
      subst (λ (y : Standing). Stands d a (counting (length k') y) (with_names s b) k') (sym (sorts_are a b.sorts (declaring b x))) (record {
        scope = ap (λ q. with_names q b) st.scope;
        next = refl;
        vocabulary = st.vocabulary;
        terms = added x.terms (symbols_at a (length x.sorts) b.sorts) x.scope.locals.meanings (map bound_local b.sorts) st.terms (symbols_long a (length x.sorts) b.sorts ∙ sym (mapped bound_local b.sorts));
        gives = record {
          aligned = added x.scope.locals.names b.names x.scope.locals.meanings (map bound_local b.sorts) st.gives.aligned (long ∙ sym (mapped bound_local b.sorts));
          locals = more_have x.scope.locals.meanings x.terms (map bound_local b.sorts) (symbols_at a (length x.sorts) b.sorts) st.terms st.gives.locals (symbols_have (length x.sorts) b.sorts (numbers_follow x b h));
          result = st.gives.result;
          this_value = st.gives.this_value;
          thread = st.gives.thread;
        };
      })
