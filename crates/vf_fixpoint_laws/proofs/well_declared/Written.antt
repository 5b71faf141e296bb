-- Sorts of parameters as they are written, and that those of the arguments of constructors are closed.
use Rattle.std.proofs.Common.{◌≡◌, refl, sym, subst, ◌∙◌, ap, ℕ, suc, ◌+◌, Bool, true, false, ◌&&◌, if◌then◌else◌, nat_eq, List, [], ◌∷◌, ◌++◌, length, length-append, append_assoc, append-nil, Option, Some, None, Result, Ok, Err, arith}
use Rattle.vf_base.specs.declared.place.Place.{Place}
use Rattle.vf_base.specs.declared.refusal.Refusal.{Refusal}
use Rattle.vf_names.specs.Names.{number_of}
use Rattle.vf_sorts.specs.declared.sort.Head.TheVariants as heads
use Rattle.vf_sorts.specs.Sorts.{Sort, sort, row}
use Rattle.vf_declared.specs.declared.locals.Locals.{Locals}
use Rattle.vf_declared.specs.declared.scope.Scope.{Scope}
use Rattle.vf_declared.specs.Scopes.{datatype_of, declaration_of, tag_of}
use Rattle.vf_syntax.specs.declared.item.ConstructorArgument.{ConstructorArgument}
use Rattle.vf_syntax.specs.declared.item.GhostParameter.{GhostParameter}
use Rattle.vf_syntax.specs.declared.written.Name.{Name}
use Rattle.vf_syntax.specs.declared.written.TypeForm.{TypeForm}
use Rattle.vf_syntax.specs.declared.written.TypeForm.TheVariants as forms
use Rattle.vf_syntax.specs.SortTree.{SortTree, SortTrees, no_sort, more_sort}
use Rattle.vf_syntax.specs.SortTree as tree
use Rattle.vf_sorting.specs.Kinds.{pointer_sort}
use Rattle.vf_sorting.specs.Schemes.{count_in, is_function_type}
use Rattle.vf_sorting.specs.Spelling.{applied_datatype, datatype_meant, form_sort, in_front, predicate_over, tagged_sort, written_sort}
use Rattle.vf_datatypes.specs.declared.stated.Stated.{Stated}
use Rattle.vf_datatypes.specs.declared.own.Own.{Own}
use Rattle.vf_datatypes.specs.Arguments.{are_parameters, argument_sort, argument_sorts, datatype_at, name_over, named_over, sorts_of, sorts_within}
use Rattle.vf_datatypes.specs.NewNames as names
use Rattle.vf_heads.specs.Parameters.{Taken, local_refusal, named, none_taken, parameter_behind, parameters_behind, with_parameter}
use Rattle.vf_erasure_laws.proofs.hidden.Coming.{Comes, behind_comes, ok_comes, unless_comes}
use Rattle.vf_fixpoint_laws.proofs.definable.Extending.{Keeps, core}
use Rattle.vf_fixpoint_laws.proofs.definable.Lists.{number_below}
use Rattle.vf_fixpoint_laws.proofs.definable.Parts.{err_comes}
use Rattle.vf_fixpoint_laws.proofs.definable.Seeing.{with_locals}
use Rattle.vf_fixpoint_laws.specs.bodies.Closed.{AreClosed, Each, IsClosed}

-- ---- parameters
-- something is so of each item of a list and the one beside it
abbrev pub EachBeside : {A B : Type 0} → (A → B → Type 0) → List A → List B → Type 0
EachBeside Q [] [] = Unit {0}
EachBeside Q (x ∷ xs) (y ∷ ys) = Q x y × EachBeside Q xs ys
EachBeside Q xs ys = ⊥

-- the sort that is written of each parameter is such beside it, whatever the locals are
abbrev pub Writes : (GhostParameter → Sort → Type 0) → List (List ℕ) → Scope → Type 0
Writes Q ps s = (g : GhostParameter) (l : Locals) (t : Sort) → written_sort (with_locals s l) ps g.sort ≡ Ok t → Q g t

-- parameters were taken, whose sorts are such, and nothing but locals is new
pub record TakenAs (Q : GhostParameter → Sort → Type 0) (s : Scope) (gs : List GhostParameter) (k l : Taken) : Type 0 where
  pub more : List Sort
  pub sorts : l.sorts ≡ k.sorts ++ more
  pub each : EachBeside Q gs more
  pub scope : l.scope ≡ with_locals s l.scope.locals

record OneTaken (Q : GhostParameter → Sort → Type 0) (g : GhostParameter) (k l : Taken) : Type 0 where
  of : Sort
  is : l ≡ with_parameter g.name of k
  such : Q g of

one_taken : (Q : GhostParameter → Sort → Type 0) (ps : List (List ℕ)) (s : Scope) → Writes Q ps s → (g : GhostParameter) (k : Taken) → k.scope ≡ with_locals s k.scope.locals → Comes (OneTaken Q g k) (parameter_behind ps g k)
one_taken Q ps s w g k e =
    behind_comes (Q g) (OneTaken Q g k) (named g.name k) (written_sort k.scope ps g.sort) (λ t h. w g k.scope.locals t (ap (λ (s : Scope). written_sort s ps g.sort) (sym e) ∙ h))
    (λ t h. unless_comes (OneTaken Q g k) (local_refusal k.scope g.name) (Ok (with_parameter g.name t k)) (ok_comes (OneTaken Q g k) (record { of = t; is = refl; such = h })))

one_more : {Q : GhostParameter → Sort → Type 0} {s : Scope} {g : GhostParameter} {gs : List GhostParameter} {k l m : Taken} → OneTaken Q g k l → TakenAs Q s gs l m → TakenAs Q s (g ∷ gs) k m
one_more {Q = Q} {s = s} {g = g} {gs = gs} {k = k} {m = m} h j =
    let r : TakenAs Q s gs (with_parameter g.name h.of k) m = subst (λ l. TakenAs Q s gs l m) h.is j in
    record { more = h.of ∷ r.more; sorts = r.sorts ∙ append_assoc k.sorts (h.of ∷ []) r.more; each = (h.such, r.each); scope = r.scope }

still : {Q : GhostParameter → Sort → Type 0} (s : Scope) {g : GhostParameter} {k l : Taken} → k.scope ≡ with_locals s k.scope.locals → OneTaken Q g k l → l.scope ≡ with_locals s l.scope.locals
still s {g = g} {k = k} e h = subst (λ (l : Taken). l.scope ≡ with_locals s l.scope.locals) (sym h.is) (ap (λ (u : Scope). with_locals u (with_parameter g.name h.of k).scope.locals) e)

taken_as : (Q : GhostParameter → Sort → Type 0) (ps : List (List ℕ)) (s : Scope) → Writes Q ps s → (gs : List GhostParameter) (k : Taken) → k.scope ≡ with_locals s k.scope.locals → Comes (TakenAs Q s gs k) (parameters_behind ps gs k)
taken_as Q ps s w [] k e = ok_comes (TakenAs Q s [] k) (record { more = []; sorts = sym (append-nil k.sorts); each = tt; scope = e })
taken_as Q ps s w (g ∷ gs) k e = behind_comes (OneTaken Q g k) (TakenAs Q s (g ∷ gs) k) (parameters_behind ps gs) (parameter_behind ps g k) (one_taken Q ps s w g k e) (λ l h m f. one_more h (taken_as Q ps s w gs l (still s e h) m f))

-- parameters that were taken first
pub record Taking (Q : GhostParameter → Sort → Type 0) (s : Scope) (gs : List GhostParameter) (l : Taken) : Type 0 where
  pub each : EachBeside Q gs l.sorts
  pub keeps : Keeps s l.scope

pub parameters_taken : (Q : GhostParameter → Sort → Type 0) (ps : List (List ℕ)) (s : Scope) → Writes Q ps s → (gs : List GhostParameter) → Comes (Taking Q s gs) (parameters_behind ps gs (none_taken s))
parameters_taken Q ps s w gs l f = let h = taken_as Q ps s w gs (none_taken s) refl l f in record { each = subst (EachBeside Q gs) (sym h.sorts) h.each; keeps = record { same = ap core h.scope } }

-- what is so of each sort
pub beside_long : {A B : Type 0} (Q : A → B → Type 0) (xs : List A) (ys : List B) → EachBeside Q xs ys → length xs ≡ length ys
beside_long Q [] [] h = refl
beside_long Q [] (y ∷ ys) h = absurd h
beside_long Q (x ∷ xs) [] h = absurd h
beside_long Q (x ∷ xs) (y ∷ ys) h = ap suc (beside_long Q xs ys h.1)

pub beside_each : {A : Type 0} (Q : A → Sort → Type 0) (P : Sort → Type 0) → ((x : A) (t : Sort) → Q x t → P t) → (xs : List A) (ts : List Sort) → EachBeside Q xs ts → Each P ts
beside_each Q P f [] [] h = tt
beside_each Q P f [] (t ∷ ts) h = absurd h
beside_each Q P f (x ∷ xs) [] h = absurd h
beside_each Q P f (x ∷ xs) (t ∷ ts) h = (f x t h.0, beside_each Q P f xs ts h.1)

-- ---- arguments of constructors
pub chosen : {A : Type 0} (P : A → Type 0) (b : Bool) (q r : Result A Refusal) → Comes P q → Comes P r → Comes P (if b then q else r)
chosen P true q r h k = h
chosen P false q r h k = k

form_closed : (m : ℕ) (s : Scope) (p : Place) (f : TypeForm) → Comes (IsClosed m) (form_sort s p f)
form_closed m s p (forms.Integer w) = ok_comes (IsClosed m) tt
form_closed m s p forms.Bool = ok_comes (IsClosed m) tt
form_closed m s p forms.VoidPointer = ok_comes (IsClosed m) tt
form_closed m s p forms.IntPointer = ok_comes (IsClosed m) tt
form_closed m s p (forms.StructPointer g) = by_tag (tag_of s g.text g.place.file)
  where
    by_tag : (o : Option ℕ) → Comes (IsClosed m) (tagged_sort g.place o)
    by_tag None = err_comes (IsClosed m) _
    by_tag (Some n) = ok_comes (IsClosed m) tt
form_closed m s p (forms.NamedPointer x) = chosen (IsClosed m) (is_function_type (declaration_of s x p.file)) (Ok pointer_sort) (Err _) (ok_comes (IsClosed m) tt) (err_comes (IsClosed m) _)

applied_closed : (m : ℕ) (p : Place) (k n : ℕ) (ts : List Sort) → AreClosed m (row ts) → Comes (IsClosed m) (applied_datatype p k n ts)
applied_closed m p k n ts h = chosen (IsClosed m) (nat_eq (length ts) n) (Ok (sort (heads.Datatype k) (row ts))) (Err _) (ok_comes (IsClosed m) h) (err_comes (IsClosed m) _)

datatype_closed : (m : ℕ) (s : Scope) (o : Own) (p : Place) (k : ℕ) (ts : List Sort) → AreClosed m (row ts) → Comes (IsClosed m) (datatype_at s o p k ts)
datatype_closed m s o p k ts h =
    chosen (IsClosed m) (nat_eq k o.number) _ (applied_datatype p k (count_in (datatype_of s k)) ts)
    (chosen (IsClosed m) (nat_eq (length ts) (length o.parameters) && are_parameters 0 ts) (Ok (sort (heads.Datatype k) (row ts))) (Err _) (ok_comes (IsClosed m) h) (err_comes (IsClosed m) _))
    (applied_closed m p k (count_in (datatype_of s k)) ts h)

-- sorts in a row are closed
abbrev RowIsClosed : ℕ → List Sort → Type 0
RowIsClosed m ts = AreClosed m (row ts)

named_closed : (m : ℕ) (s : Scope) (d : Stated) (o : Own) (p : Place) (x : List ℕ) (k : Option ℕ) (r : Result (List Sort) Refusal) → Comes (RowIsClosed m) r → Comes (IsClosed m) (named_over s d o p x k r)
named_closed m s d o p x None r h = err_comes (IsClosed m) _
named_closed m s d o p x (Some k) r h = behind_comes (RowIsClosed m) (IsClosed m) (datatype_at s o p k) r h (λ ts c. datatype_closed m s o p k ts c)

name_closed : (s : Scope) (d : Stated) (o : Own) (p : Place) (x : List ℕ) (i : Option ℕ) → number_of o.parameters x ≡ i → (xs : SortTrees) (r : Result (List Sort) Refusal) → Comes (RowIsClosed (length o.parameters)) r → Comes (IsClosed (length o.parameters)) (name_over s d o p x i xs r)
name_closed s d o p x (Some i) e no_sort r h = ok_comes (IsClosed (length o.parameters)) (let b = number_below o.parameters x i e in omega (arith, b))
name_closed s d o p x (Some i) e (more_sort y ys) r h = err_comes (IsClosed (length o.parameters)) _
name_closed s d o p x None e xs r h = named_closed (length o.parameters) s d o p x (datatype_meant s (declaration_of s x p.file)) r h

predicate_closed : (m : ℕ) (r : Result (List Sort) Refusal) → Comes (RowIsClosed m) r → Comes (IsClosed m) (predicate_over r)
predicate_closed m (Err x) h = err_comes (IsClosed m) x
predicate_closed m (Ok ts) h = ok_comes (IsClosed m) (h ts refl)

pub front_comes : (P : Sort → Type 0) (Q : List Sort → Type 0) → ((t : Sort) (ts : List Sort) → P t → Q ts → Q (t ∷ ts)) → (q : Result Sort Refusal) (r : Result (List Sort) Refusal) → Comes P q → Comes Q r → Comes Q (in_front q r)
front_comes P Q f (Err x) r h k = err_comes Q x
front_comes P Q f (Ok t) (Err x) h k = err_comes Q x
front_comes P Q f (Ok t) (Ok ts) h k = ok_comes Q (f t ts (h t refl) (k ts refl))

mutual
  argument_closed : (s : Scope) (d : Stated) (o : Own) (x : SortTree) → Comes (IsClosed (length o.parameters)) (argument_sort s d o x)
  argument_closed s d o (tree.real_ p) = ok_comes (IsClosed (length o.parameters)) tt
  argument_closed s d o (tree.any_ p) = ok_comes (IsClosed (length o.parameters)) tt
  argument_closed s d o (tree.type_ p t) = form_closed (length o.parameters) s t.place t.form
  argument_closed s d o (tree.name_ p x xs) = name_closed s d o p x (number_of o.parameters x) refl xs (argument_sorts s d o xs) (arguments_closed s d o xs)
  argument_closed s d o (tree.predicate_ p xs) = predicate_closed (length o.parameters) (argument_sorts s d o xs) (arguments_closed s d o xs)

  arguments_closed : (s : Scope) (d : Stated) (o : Own) (xs : SortTrees) → Comes (RowIsClosed (length o.parameters)) (argument_sorts s d o xs)
  arguments_closed s d o no_sort = ok_comes (RowIsClosed (length o.parameters)) tt
  arguments_closed s d o (more_sort x xs) = front_comes (IsClosed (length o.parameters)) (RowIsClosed (length o.parameters)) (λ t ts h k. (h, k)) (argument_sort s d o x) (argument_sorts s d o xs) (argument_closed s d o x) (arguments_closed s d o xs)

sorts_closed : (s : Scope) (d : Stated) (o : Own) (xs : List ConstructorArgument) → Comes (Each (IsClosed (length o.parameters))) (sorts_of s d o xs)
sorts_closed s d o [] = ok_comes (Each (IsClosed (length o.parameters))) tt
sorts_closed s d o (x ∷ xs) = front_comes (IsClosed (length o.parameters)) (Each (IsClosed (length o.parameters))) (λ t ts h k. (h, k)) (argument_sort s d o x.sort) (sorts_of s d o xs) (argument_closed s d o x.sort) (sorts_closed s d o xs)

-- no unknown sort stands in the arguments of a constructor, and no type parameter but those of its datatype
pub within_closed : (s : Scope) (d : Stated) (o : Own) (xs : Option (List ConstructorArgument)) → Comes (Each (IsClosed (length o.parameters))) (sorts_within s d o xs)
within_closed s d o None = ok_comes (Each (IsClosed (length o.parameters))) tt
within_closed s d o (Some xs) = sorts_closed s d o xs

-- ---- type parameters
-- there are as many type parameters as names
abbrev AreAsMany : List Name → List (List ℕ) → List (List ℕ) → Type 0
AreAsMany ns ps qs = length qs ≡ length ps + length ns

counted_on : (s : Scope) (ns : List Name) (ps : List (List ℕ)) → Comes (AreAsMany ns ps) (names.parameters_behind s ns ps)
counted_on s [] ps = ok_comes (AreAsMany [] ps) (let e : length ps ≡ length ps + 0 = omega arith in e)
counted_on s (n ∷ ns) ps =
    unless_comes (AreAsMany (n ∷ ns) ps) (names.parameter_refusal s ps n) (names.parameters_behind s ns (ps ++ n.text ∷ []))
    (λ qs e. let h = counted_on s ns (ps ++ n.text ∷ []) qs e in let k = length-append ps (n.text ∷ []) in omega (arith, h, k))

-- as many type parameters as their names
abbrev pub IsCounted : List Name → List (List ℕ) → Type 0
IsCounted ns ps = length ps ≡ length ns

pub counted : (s : Scope) (ns : List Name) → Comes (IsCounted ns) (names.parameters_behind s ns [])
counted s ns ps e = let h = counted_on s ns [] ps e in omega (arith, h)
