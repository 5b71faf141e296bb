-- Answers for declarations and assignments of ghost locals from the answers for their parts.
use Rattle.std.proofs.Common.{◌≡◌, ℕ, Bool, true, false, List, [], ◌∷◌, length, Option, Some, None, Result, Ok, Err, IsTrue, ◌↔◌, refl, subst}
use Rattle.std.specs.Prelude.{◌||◌, if◌then◌else◌, is_some, nat_eq}
use Rattle.vf_base.specs.declared.place.Place.{Place}
use Rattle.vf_base.specs.declared.refusal.Refusal.{Refusal}
use Rattle.vf_base.specs.declared.refusal.RuleFault.{RuleFault}
use Rattle.vf_base.specs.declared.refusal.RuleFault.TheVariants as faults
use Rattle.vf_base.specs.declared.rule.Rule.TheVariants as rules
use Rattle.vf_names.specs.Names.{number_of}
use Rattle.vf_sorts.specs.declared.sort.Head.TheVariants as heads
use Rattle.vf_sorts.specs.Sorts.{Sort, row, sort}
use Rattle.vf_sorts.specs.Unknowns.{AreBelow, IsBelow, Known, leaf}
use Rattle.vf_declared.specs.declared.scope.Scope.{Scope}
use Rattle.vf_declared.specs.Scopes.{datatype_of, declaration_of, tag_of}
use Rattle.vf_syntax.specs.declared.written.Name.{Name}
use Rattle.vf_syntax.specs.declared.written.TypeForm.{TypeForm}
use Rattle.vf_syntax.specs.declared.written.TypeForm.TheVariants as forms
use Rattle.vf_syntax.specs.GhostExprTree.{GhostExprTree}
use Rattle.vf_syntax.specs.SortTree.{SortTree, SortTrees, no_sort, more_sort}
use Rattle.vf_syntax.specs.SortTree as tree
use Rattle.vf_sorting.specs.Answers.{IsChecked, Tells}
use Rattle.vf_sorting.specs.Kinds.{bool_sort, int_sort, pointer_sort, predicate_sort, value_sort}
use Rattle.vf_sorting.specs.Operators.{place_of}
use Rattle.vf_sorting.specs.Refusals.{refused}
use Rattle.vf_sorting.specs.Schemes.{count_in, is_function_type}
use Rattle.vf_sorting.specs.Spelling.{datatype_meant, datatype_over, form_sort, in_front, name_over, parameter_over, predicate_over, tagged_sort, written_sort, written_sorts}
use Rattle.vf_binding.specs.declared.bound.Bound.{Bound}
use Rattle.vf_binding.specs.Bound.{is_bound, name_refusal, names_real, no_names}
use Rattle.vf_binding.specs.Answers.{IsNamed}
use Rattle.vf_binding.proofs.Steps.{failing, refusing, wanting}
use Rattle.vf_commands.specs.declared.around.Around.{Around}
use Rattle.vf_commands.specs.Locals as locals
use Rattle.vf_commands.specs.Locals.{assigned_sort}
use Rattle.vf_commands.specs.Answers.{IsAssigned, IsDeclared}

-- ---- written sorts have no unknown sorts
-- a sort that is found is the one that has none
found_below : (n : ℕ) (u t : Sort) (q : Result Sort Refusal) → q ≡ Ok u → IsBelow n u → q ≡ Ok t → IsBelow n t
found_below n u t q g b h = let e : u ≡ t = cc in subst (IsBelow n) e b

tagged_below : (n : ℕ) (p : Place) (o : Option ℕ) (t : Sort) → tagged_sort p o ≡ Ok t → IsBelow n t
tagged_below n p None t h = absurd cc
tagged_below n p (Some m) t h = found_below n (leaf (heads.Pointer (Some m))) t (tagged_sort p (Some m)) refl tt h

-- a sort that is found where something holds
chosen_below : (n : ℕ) (r : Refusal) (y : Bool) (u t : Sort) → IsBelow n u → (if y then Ok u else Err r) ≡ Ok t → IsBelow n t
chosen_below n r true u t b h = let e : u ≡ t = cc in subst (IsBelow n) e b
chosen_below n r false u t b h = absurd cc

form_below : (n : ℕ) (s : Scope) (p : Place) (f : TypeForm) (t : Sort) → form_sort s p f ≡ Ok t → IsBelow n t
form_below n s p (forms.Integer w) t h = found_below n int_sort t (form_sort s p (forms.Integer w)) refl tt h
form_below n s p forms.Bool t h = found_below n bool_sort t (form_sort s p forms.Bool) refl tt h
form_below n s p forms.VoidPointer t h = found_below n pointer_sort t (form_sort s p forms.VoidPointer) refl tt h
form_below n s p forms.IntPointer t h = found_below n pointer_sort t (form_sort s p forms.IntPointer) refl tt h
form_below n s p (forms.StructPointer g) t h = tagged_below n g.place (tag_of s g.text g.place.file) t h
form_below n s p (forms.NamedPointer x) t h = chosen_below n (refused rules.Name p) (is_function_type (declaration_of s x p.file)) pointer_sort t tt h

parameter_below : (n : ℕ) (p : Place) (i : ℕ) (xs : SortTrees) (t : Sort) → parameter_over p i xs ≡ Ok t → IsBelow n t
parameter_below n p i no_sort t h = found_below n (leaf (heads.Parameter i)) t (parameter_over p i no_sort) refl tt h
parameter_below n p i (more_sort x xs) t h = absurd cc

datatype_below : (n : ℕ) (s : Scope) (p : Place) (o : Option ℕ) (r : Result (List Sort) Refusal) (t : Sort) → ((ts : List Sort) → r ≡ Ok ts → AreBelow n ts) → datatype_over s p o r ≡ Ok t → IsBelow n t
datatype_below n s p None r t b h = absurd cc
datatype_below n s p (Some d) (Err x) t b h = absurd cc
datatype_below n s p (Some d) (Ok ts) t b h = chosen_below n (refused rules.Typing p) (nat_eq (length ts) (count_in (datatype_of s d))) (sort (heads.Datatype d) (row ts)) t (b ts refl) h

name_below : (n : ℕ) (s : Scope) (p : Place) (x : List ℕ) (o : Option ℕ) (xs : SortTrees) (r : Result (List Sort) Refusal) (t : Sort) → ((ts : List Sort) → r ≡ Ok ts → AreBelow n ts) → name_over s p x o xs r ≡ Ok t → IsBelow n t
name_below n s p x (Some i) xs r t b h = parameter_below n p i xs t h
name_below n s p x None xs r t b h = datatype_below n s p (datatype_meant s (declaration_of s x p.file)) r t b h

predicate_below : (n : ℕ) (r : Result (List Sort) Refusal) (t : Sort) → ((ts : List Sort) → r ≡ Ok ts → AreBelow n ts) → predicate_over r ≡ Ok t → IsBelow n t
predicate_below n (Err x) t b h = absurd cc
predicate_below n (Ok ts) t b h = found_below n (predicate_sort ts) t (predicate_over (Ok ts)) refl (b ts refl) h

front_below : (n : ℕ) (q : Result Sort Refusal) (r : Result (List Sort) Refusal) (ts : List Sort) → ((t : Sort) → q ≡ Ok t → IsBelow n t) → ((us : List Sort) → r ≡ Ok us → AreBelow n us) → in_front q r ≡ Ok ts → AreBelow n ts
front_below n (Err x) r ts a b h = absurd cc
front_below n (Ok t) (Err x) ts a b h = absurd cc
front_below n (Ok t) (Ok us) ts a b h = let e : t ∷ us ≡ ts = cc in subst (AreBelow n) e (a t refl, b us refl)

mutual
  sort_below : (n : ℕ) (s : Scope) (ps : List (List ℕ)) (u : SortTree) (t : Sort) → written_sort s ps u ≡ Ok t → IsBelow n t
  sort_below n s ps (tree.real_ p) t h = found_below n (leaf heads.Real) t (written_sort s ps (tree.real_ p)) refl tt h
  sort_below n s ps (tree.any_ p) t h = found_below n value_sort t (written_sort s ps (tree.any_ p)) refl tt h
  sort_below n s ps (tree.type_ p f) t h = form_below n s f.place f.form t h
  sort_below n s ps (tree.name_ p x xs) t h = name_below n s p x (number_of ps x) xs (written_sorts s ps xs) t (λ ts q. sorts_below n s ps xs ts q) h
  sort_below n s ps (tree.predicate_ p xs) t h = predicate_below n (written_sorts s ps xs) t (λ ts q. sorts_below n s ps xs ts q) h

  sorts_below : (n : ℕ) (s : Scope) (ps : List (List ℕ)) (us : SortTrees) (ts : List Sort) → written_sorts s ps us ≡ Ok ts → AreBelow n ts
  sorts_below n s ps no_sort ts h = let e : [] ≡ ts = cc in subst (AreBelow n) e tt
  sorts_below n s ps (more_sort x xs) ts h = front_below n (written_sort s ps x) (written_sorts s ps xs) ts (λ t q. sort_below n s ps x t q) (λ us q. sorts_below n s ps xs us q) h

pub written_below : (k : Known) (s : Scope) (ps : List (List ℕ)) (u : SortTree) (t : Sort) → written_sort s ps u ≡ Ok t → IsBelow (length k) t
written_below k s ps u t h = sort_below (length k) s ps u t h

-- ---- declarations
pub declaration_memory : {s : Scope} {w : Around} {k k' : Known} {u : SortTree} {n : Name} {v : GhostExprTree} {res : Result Sort RuleFault} → res ≡ Err faults.Memory → IsDeclared s w k u n v res k'
declaration_memory q = record { answers = wanting _ _ q }

pub sort_fails : {s : Scope} {w : Around} {k k' : Known} {u : SortTree} {n : Name} {v : GhostExprTree} {res : Result Sort RuleFault} (e : RuleFault) → Tells (λ r. written_sort s w.parameters u ≡ Err r) e → res ≡ Err e → IsDeclared s w k u n v res k'
sort_fails e a q = record { answers = failing _ _ _ e (λ r h. locals.its_sort h) a q }

-- the name of a declaration may be declared
named : {s : Scope} {b b' : Bound} {n : Name} {t : Sort} → b ≡ no_names → IsNamed {A = Unit {0}} s b n t (Ok tt) b' → name_refusal s no_names n ≡ None
named {s = s} {n = n} q i = subst (λ (b : Bound). name_refusal s b n ≡ None) q i.answers.0

pub name_fails : {s : Scope} {w : Around} {k k' : Known} {u : SortTree} {n : Name} {v : GhostExprTree} {t : Sort} {b b' : Bound} {res : Result Sort RuleFault} (e : RuleFault) → written_sort s w.parameters u ≡ Ok t → b ≡ no_names → IsNamed {A = Unit {0}} s b n t (Err e) b' → res ≡ Err e → IsDeclared s w k u n v res k'
name_fails {s = s} {n = n} e a y i q = record { answers = failing _ _ _ e (λ r h. locals.its_name a (subst (λ (b : Bound). name_refusal s b n ≡ Some r) y h)) i.answers q }

pub value_fails : {s : Scope} {w : Around} {k k' : Known} {u : SortTree} {n : Name} {v : GhostExprTree} {t : Sort} {b b' : Bound} {res : Result Sort RuleFault} (e : RuleFault) → written_sort s w.parameters u ≡ Ok t → b ≡ no_names → IsNamed {A = Unit {0}} s b n t (Ok tt) b' → IsChecked {A = Unit {0}} s w.context k t (place_of v) v (Err e) k' → res ≡ Err e → IsDeclared s w k u n v res k'
value_fails e a y i j q = record { answers = failing _ _ _ e (λ r h. locals.DeclarationFails.its_value a (named y i) h) j.answers q }

pub declares : {s : Scope} {w : Around} {k k' : Known} {u : SortTree} {n : Name} {v : GhostExprTree} {t : Sort} {b b' : Bound} → written_sort s w.parameters u ≡ Ok t → b ≡ no_names → IsNamed {A = Unit {0}} s b n t (Ok tt) b' → IsChecked {A = Unit {0}} s w.context k t (place_of v) v (Ok tt) k' → IsDeclared s w k u n v (Ok t) k'
declares a y i j = record { answers = (j.answers.0, locals.declares a (named y i) j.answers.1) }

-- a name that may be declared is no local's
unbound : (r x : Refusal) (y z : Bool) → (if y then Some r else if z then Some x else None) ≡ None → z ≡ false
unbound r x true z h = absurd cc
unbound r x false true h = absurd cc
unbound r x false false h = refl

nowhere : (o : Option ℕ) (y : Bool) → (is_some o || y) ≡ false → o ≡ None
nowhere None y h = refl
nowhere (Some n) y h = absurd cc

declared_new : {s : Scope} {w : Around} {k k' : Known} {u : SortTree} {n : Name} {v : GhostExprTree} {t : Sort} → locals.Declares s w k u n v t k' → number_of s.locals.names n.text ≡ None
declared_new {s = s} {n = n} (locals.declares a b c) = nowhere (number_of s.locals.names n.text) _ (unbound (refused rules.GhostInReal n.place) (refused rules.Name n.place) (names_real s n.text n.place.file) (is_bound s no_names n.text) b)

pub name_new : {s : Scope} {w : Around} {k k' : Known} {u : SortTree} {n : Name} {v : GhostExprTree} {t : Sort} → IsDeclared s w k u n v (Ok t) k' → number_of s.locals.names n.text ≡ None
name_new i = declared_new i.answers.1

-- ---- assignments
pub assignment_memory : {s : Scope} {w : Around} {k k' : Known} {p : Place} {x : List ℕ} {v : GhostExprTree} {res : Result (Unit {0}) RuleFault} → res ≡ Err faults.Memory → IsAssigned s w k p x v res k'
assignment_memory q = record { answers = wanting _ _ q }

pub target_fails : {s : Scope} {w : Around} {k k' : Known} {p : Place} {x : List ℕ} {v : GhostExprTree} {res : Result (Unit {0}) RuleFault} (e : RuleFault) → Tells (λ r. assigned_sort s p x ≡ Err r) e → res ≡ Err e → IsAssigned s w k p x v res k'
target_fails e a q = record { answers = failing _ _ _ e (λ r h. locals.its_target h) a q }

pub target_stray : {s : Scope} {w : Around} {k k' : Known} {p : Place} {x : List ℕ} {v : GhostExprTree} {t : Sort} {y : Bool} {e : RuleFault} → assigned_sort s p x ≡ Ok t → (IsTrue y ↔ IsBelow (length k) t) → y ≡ false → e ≡ faults.Refused (refused rules.Typing p) → IsAssigned {A = Unit {0}} s w k p x v (Err e) k'
target_stray a b y q = record { answers = refusing _ _ _ q (locals.stray a (λ h. let yes_is = b.1 h in absurd cc)) }

pub assigned_fails : {s : Scope} {w : Around} {k k' : Known} {p : Place} {x : List ℕ} {v : GhostExprTree} {t : Sort} {y : Bool} {res : Result (Unit {0}) RuleFault} (e : RuleFault) → assigned_sort s p x ≡ Ok t → (IsTrue y ↔ IsBelow (length k) t) → y ≡ true → IsChecked {A = Unit {0}} s w.context k t (place_of v) v (Err e) k' → res ≡ Err e → IsAssigned s w k p x v res k'
assigned_fails e a b y i q = record { answers = failing _ _ _ e (λ r h. locals.AssignmentFails.its_value a (b.0 y) h) i.answers q }

pub assigns : {s : Scope} {w : Around} {k k' : Known} {p : Place} {x : List ℕ} {v : GhostExprTree} {t : Sort} {y : Bool} → assigned_sort s p x ≡ Ok t → (IsTrue y ↔ IsBelow (length k) t) → y ≡ true → IsChecked {A = Unit {0}} s w.context k t (place_of v) v (Ok tt) k' → IsAssigned {A = Unit {0}} s w k p x v (Ok tt) k'
assigns a b y i = record { answers = (i.answers.0, locals.assigns a (b.0 y) i.answers.1) }

pub target_below : (n : ℕ) (t : Sort) (y : Bool) → (IsTrue y ↔ IsBelow n t) → y ≡ true → IsBelow n t
target_below n t y b h = b.0 h
