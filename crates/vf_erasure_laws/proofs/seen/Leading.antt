-- Expressions have the types that they have also where other things are declared, as long as each name of C that is found is found there too.
use Rattle.std.proofs.Common.{◌≡◌, ℕ, nat_eq, length, Bool, true, false, ◌&&◌, not, if◌then◌else◌, List, [], ◌∷◌, codes, is_some, Option, Some, None, Result, Ok, Err, refl, sym, ap, subst, ◌∙◌}
use Rattle.std.specs.Option.{option_or}
use Rattle.std.specs.Str.{bytes_eq}
use Rattle.vf_base.specs.declared.place.Place.{Place}
use Rattle.vf_base.specs.declared.refusal.Refusal.{Refusal}
use Rattle.vf_base.specs.declared.rule.Rule.TheVariants as rules
use Rattle.vf_names.specs.Names.{number_of}
use Rattle.vf_declared.specs.declared.ctype.CType.{CType}
use Rattle.vf_declared.specs.declared.declaration.Meaning.{Meaning}
use Rattle.vf_declared.specs.declared.declaration.Meaning.TheVariants as meanings
use Rattle.vf_declared.specs.declared.declaration.Signature.{Signature}
use Rattle.vf_declared.specs.declared.locals.Local.{Local}
use Rattle.vf_declared.specs.declared.locals.Local.TheVariants as locals
use Rattle.vf_declared.specs.declared.scope.Scope.{Scope}
use Rattle.vf_declared.specs.Scopes.{at_index, declaration_of, declared_in, is_declared, local_in, local_of}
use Rattle.vf_syntax.specs.declared.operator.BinaryOperator.{BinaryOperator}
use Rattle.vf_syntax.specs.declared.operator.UnaryOperator.{UnaryOperator}
use Rattle.vf_syntax.specs.declared.operator.UnaryOperator.TheVariants as unaries
use Rattle.vf_syntax.specs.declared.written.CType.{CType as WrittenType}
use Rattle.vf_syntax.specs.declared.written.TypeForm.{TypeForm}
use Rattle.vf_syntax.specs.declared.written.TypeForm.TheVariants as forms
use Rattle.vf_syntax.specs.ExprTree.{ExprTree, ExprTrees, no_expr, more_expr, LinkTree, LinkTrees, no_link, more_link, PostfixTree, PostfixTrees, no_postfix, more_postfix}
use Rattle.vf_syntax.specs.ExprTree as tree
use Rattle.vf_typing.specs.declared.operand.Operand.{Operand}
use Rattle.vf_typing.specs.Names.{declared_type, form_type, local_type, name_type, no_function_type, pointer_to, struct_pointer, written_type}
use Rattle.vf_typing.specs.Operands.{assigned_refusal, cast, conditional, enclosed, linked, prefixed, takes_left, used}
use Rattle.vf_typing.specs.Parts.{call, called, count, free_place, freed, indexed, int_memory, parameters_of, returned}
use Rattle.vf_typing.specs.Refusals.{refused}
use Rattle.vf_typing.specs.Types.{is_int_pointer}
use Rattle.vf_erasure_laws.specs.seen.Seen.{is_of_c}
use Rattle.vf_erasure_laws.proofs.seen.Same.{Names, with_names, allocated_same, assigned_same, behind_same, called_same, chosen_same, freed_same, linked_same, tag_same}
use Rattle.vf_typing.specs.Typed.{named, refused_argument, typed, typed_free, typed_link, typed_links, typed_part, typed_parts, typed_postfix}

-- what a name of C means in a file, it means there among these names too
abbrev pub Means : Scope → Names → Type 0
Means s v = (x : List ℕ) (f : ℕ) (m : Meaning) → is_of_c m ≡ true → declaration_of s x f ≡ Some m → declaration_of (with_names s v) x f ≡ Some m

-- each name of C that is found is found among these names too
pub record Finds (s : Scope) (v : Names) : Type 0 where
  pub local : (x : List ℕ) (t : CType) → local_of s x ≡ Some (locals.Real t) → local_in v.locals x ≡ Some (locals.Real t)
  pub no_local : (x : List ℕ) → local_of s x ≡ None → local_in v.locals x ≡ None
  pub declared : Means s v
  pub undeclared : (x : List ℕ) → is_declared s x ≡ false → is_some (number_of v.names x) ≡ false

-- one thing is found where the other is, or the other is refused
pub data Leads {A : Type 0} : Result A Refusal → Result A Refusal → Type 0 where
  leads : {a : A} → Leads (Ok a) (Ok a)
  fails : {x : Refusal} {r : Result A Refusal} → Leads (Err x) r

pub itself : {A : Type 0} (r : Result A Refusal) → Leads r r
itself (Ok a) = leads
itself (Err x) = fails

pub by_same : {A : Type 0} {r q : Result A Refusal} → q ≡ r → Leads r q
by_same {r = r} e = subst (Leads r) (sym e) (itself r)

pub both : {A : Type 0} {r q : Result A Refusal} {a : A} → r ≡ Ok a → q ≡ Ok a → Leads r q
both {A} {r} {q} {a} e h = subst (λ u. Leads u q) (sym e) (subst (Leads (Ok a)) (sym h) leads)

pub failing : {A : Type 0} {r q : Result A Refusal} {x : Refusal} → r ≡ Err x → Leads r q
failing {A} {r} {q} {x} e = subst (λ u. Leads u q) (sym e) fails

pub led : {A : Type 0} {r q : Result A Refusal} {a : A} → Leads r q → r ≡ Ok a → q ≡ Ok a
led leads e = e
led fails e = absurd cc

-- of two things that may be refused the second is refused nowhere where the first is not
pub data Passes : Option Refusal → Option Refusal → Type 0 where
  passes : Passes None None
  stops : {x : Refusal} {r : Option Refusal} → Passes (Some x) r

pub passed : {r q : Option Refusal} → Passes r q → r ≡ None → q ≡ None
passed passes e = refl
passed stops e = absurd cc

pub passes_itself : (r : Option Refusal) → Passes r r
passes_itself None = passes
passes_itself (Some x) = stops

pub passes_same_as : {r q : Option Refusal} → q ≡ r → Passes r q
passes_same_as {r} e = subst (Passes r) (sym e) (passes_itself r)

either_passes : {a b c d : Option Refusal} → Passes a b → Passes c d → Passes (option_or a c) (option_or b d)
either_passes passes h = h
either_passes stops h = stops

-- names
declared_leads : (s : Scope) (v : Names) (h : Finds s v) (p : Place) (x : List ℕ) (o : Option Meaning) → declaration_of s x p.file ≡ o → Leads (declared_type s p x o) (declared_type (with_names s v) p x (declaration_of (with_names s v) x p.file))
declared_leads s v h p x None e = fails
declared_leads s v h p x (Some (meanings.Function n)) e = by_same (ap (declared_type (with_names s v) p x) (h.declared x p.file (meanings.Function n) refl e))
declared_leads s v h p x (Some (meanings.FunctionType n)) e = fails
declared_leads s v h p x (Some (meanings.Ghost n)) e = fails

local_leads : (s : Scope) (v : Names) (h : Finds s v) (p : Place) (x : List ℕ) (l : Option Local) → local_of s x ≡ l → Leads (local_type s p x l) (name_type (with_names s v) p x)
local_leads s v h p x None e = subst (λ o. Leads (local_type s p x None) (local_type (with_names s v) p x o)) (sym (h.no_local x e)) (declared_leads s v h p x (declaration_of s x p.file) refl)
local_leads s v h p x (Some (locals.Real t)) e = by_same (ap (local_type (with_names s v) p x) (h.local x t e))
local_leads s v h p x (Some (locals.Ghost g)) e = fails

pub name_leads : (s : Scope) (v : Names) → Finds s v → (p : Place) (x : List ℕ) → Leads (name_type s p x) (name_type (with_names s v) p x)
name_leads s v h p x = local_leads s v h p x (local_of s x) refl

named_leads : (p : Place) {r q : Result CType Refusal} → Leads r q → Leads (named p r) (named p q)
named_leads p leads = leads
named_leads p fails = fails

-- types as they are written
no_type_leads : (p : Place) {q : Result CType Refusal} (l : Option Local) → Leads (no_function_type l p) q
no_type_leads p None = fails
no_type_leads p (Some (locals.Real t)) = fails
no_type_leads p (Some (locals.Ghost g)) = fails

pointer_leads : (s : Scope) (v : Names) (h : Means s v) (p : Place) (x : List ℕ) (o : Option Meaning) → declaration_of s x p.file ≡ o → Leads (pointer_to s p x o) (pointer_to (with_names s v) p x (declaration_of (with_names s v) x p.file))
pointer_leads s v h p x (Some (meanings.FunctionType n)) e = by_same (ap (pointer_to (with_names s v) p x) (h x p.file (meanings.FunctionType n) refl e))
pointer_leads s v h p x (Some (meanings.Ghost n)) e = fails
pointer_leads s v h p x (Some (meanings.Function n)) e = no_type_leads p (local_of s x)
pointer_leads s v h p x None e = no_type_leads p (local_of s x)

form_leads : (s : Scope) (v : Names) → Means s v → (p : Place) (f : TypeForm) → Leads (form_type s p f) (form_type (with_names s v) p f)
form_leads s v h p (forms.Integer w) = leads
form_leads s v h p forms.Bool = leads
form_leads s v h p forms.VoidPointer = leads
form_leads s v h p forms.IntPointer = leads
form_leads s v h p (forms.StructPointer n) = by_same (ap (struct_pointer n.place) (tag_same s v n.text n.place.file))
form_leads s v h p (forms.NamedPointer x) = pointer_leads s v h p x (declaration_of s x p.file) refl

pub types_lead : (s : Scope) (v : Names) → Means s v → (w : WrittenType) → Leads (written_type s w) (written_type (with_names s v) w)
types_lead s v h w = form_leads s v h w.place w.form

pub written_leads : (s : Scope) (v : Names) → Finds s v → (w : WrittenType) → Leads (written_type s w) (written_type (with_names s v) w)
written_leads s v h w = types_lead s v h.declared w

-- what is made of operands
enclosed_leads : (p : Place) {r q : Result Operand Refusal} → Leads r q → Leads (enclosed p r) (enclosed p q)
enclosed_leads p leads = leads
enclosed_leads p fails = fails

used_leads : {r q : Result Operand Refusal} → Leads r q → Leads (used r) (used q)
used_leads (leads {a}) = itself (used (Ok a))
used_leads fails = fails

prefixed_leads : (p : Place) (o : UnaryOperator) {r q : Result Operand Refusal} → Leads r q → Leads (prefixed p o r) (prefixed p o q)
prefixed_leads p o (leads {a}) = itself (prefixed p o (Ok a))
prefixed_leads p unaries.Minus fails = fails
prefixed_leads p unaries.Not fails = fails

cast_leads : (p : Place) {t u : Result CType Refusal} {r q : Result Operand Refusal} → Leads t u → Leads r q → Leads (cast p t r) (cast p u q)
cast_leads p (leads {a = t}) (leads {a}) = itself (cast p (Ok t) (Ok a))
cast_leads p leads fails = fails
cast_leads p fails h = fails

chosen_fails : {q : Result Operand Refusal} (x y : Refusal) (b : Bool) → Leads (if b then Err x else Err y) q
chosen_fails x y true = fails
chosen_fails x y false = fails

linked_leads : (s : Scope) (v : Names) (o : BinaryOperator) (l : Operand) {r q : Result Operand Refusal} → Leads r q → Leads (linked s o l r) (linked (with_names s v) o l q)
linked_leads s v o l (leads {a}) = by_same (linked_same s v o l a)
linked_leads s v o l (fails {x}) = chosen_fails _ _ (takes_left o l.ctype)

conditional_leads : (s : Scope) (v : Names) (p : Place) {a b c d e f : Result Operand Refusal} → Leads a b → Leads c d → Leads e f → Leads (conditional s p a c e) (conditional (with_names s v) p b d f)
conditional_leads s v p (leads {a}) (leads {a = b}) (leads {a = c}) = by_same (chosen_same s v p b c)
conditional_leads s v p leads leads fails = fails
conditional_leads s v p leads fails h = fails
conditional_leads s v p fails h k = fails

indexed_leads : (s : Scope) (v : Names) (q : Place) (o : Operand) {r u : Result Operand Refusal} → Leads r u → Leads (indexed s q o r) (indexed (with_names s v) q o u)
indexed_leads s v q o (leads {a}) = itself (indexed s q o (Ok a))
indexed_leads s v q o (fails {x}) = chosen_fails _ _ (is_int_pointer o.ctype)

-- memory for ints, where a test holds
ints_lead : (p : Place) (y : Refusal) {r q : Result Operand Refusal} (b : Bool) → Leads r q → Leads (if b then int_memory p r else Err y) (if b then int_memory p q else Err y)
ints_lead p y true (leads {a}) = itself (int_memory p (Ok a))
ints_lead p y true fails = fails
ints_lead p y false h = fails

-- calls
returned_leads : (p : Place) (t : CType) {r q : Option Refusal} → Passes r q → Leads (returned p t r) (returned p t q)
returned_leads p t passes = leads
returned_leads p t stops = fails

counted_leads : (p : Place) (t : CType) (y : Refusal) {r q : Option Refusal} (b : Bool) → Passes r q → Leads (if b then returned p t r else Err y) (if b then returned p t q else Err y)
counted_leads p t y true h = returned_leads p t h
counted_leads p t y false h = fails

call_leads : (p : Place) (g : Option Signature) (n : ℕ) {r q : Option Refusal} → Passes r q → Leads (call p g n r) (call p g n q)
call_leads p None n h = fails
call_leads p (Some g) n h = counted_leads p g.«result» _ (nat_eq (length g.parameters) n) h

assigned_passes : (s : Scope) (v : Names) (t : CType) {r q : Result Operand Refusal} → Leads r q → Passes (assigned_refusal s t r) (assigned_refusal (with_names s v) t q)
assigned_passes s v t (leads {a = o}) = passes_same_as (assigned_same s v t (Ok o))
assigned_passes s v t fails = stops

-- `free`
freed_leads : (s : Scope) (v : Names) (p : Place) {r q : Result Operand Refusal} → Leads r q → Leads (freed s p r) (freed (with_names s v) p q)
freed_leads s v p (leads {a}) = by_same (freed_same s v p a.place a.ctype)
freed_leads s v p fails = fails

free_leads : (s : Scope) (v : Names) (p q : Place) {r u : Result Operand Refusal} (b : Bool) → Leads r u → Leads (if b then freed s p r else Err (refused rules.Name q)) (if b then freed (with_names s v) p u else Err (refused rules.Name q))
free_leads s v p q true h = freed_leads s v p h
free_leads s v p q false h = fails

-- an expression is or is not the name `free` in both, or has no type
pub data SameFree (s : Scope) (v : Names) (e : ExprTree) : Type 0 where
  same_free : free_place (with_names s v) e ≡ free_place s e → SameFree s v e
  untyped : {x : Refusal} → free_place s e ≡ None → typed s e ≡ Err x → SameFree s v e

-- a name of file level that is declared
found_declared : (s : Scope) (x : List ℕ) (f : ℕ) (m : Meaning) → declaration_of s x f ≡ Some m → is_declared s x ≡ true
found_declared s x f m e = by_number (number_of s.names x) e
  where
    by_number : (k : Option ℕ) → declared_in s f (at_index s.declarations k) ≡ Some m → is_some k ≡ true
    by_number None e = absurd cc
    by_number (Some k) e = refl

-- the test for `free` of a name that is or is not written so, is or is not a local, and is or is not declared
abbrev means : Bool → Option Local → Bool → Bool
means b l d = b && (not (is_some l) && not d)

not_free : (b : Bool) (l : Option Local) → means b l true ≡ false
not_free false l = refl
not_free true None = refl
not_free true (Some l) = refl

no_free : (b : Bool) (l : Local) (d : Bool) → means b (Some l) d ≡ false
no_free false l d = refl
no_free true l d = refl

abbrev place_if : Place → Bool → Option Place
place_if p b = if b then Some p else None

gone : (s : Scope) (p : Place) (x : List ℕ) → is_declared s x ≡ true → free_place s (tree.name_ p x) ≡ None
gone s p x d = ap (place_if p) (ap (means (bytes_eq x (codes "free")) (local_of s x)) d ∙ not_free (bytes_eq x (codes "free")) (local_of s x))

-- a name that is declared at file level
free_declared : (s : Scope) (v : Names) (h : Finds s v) (p : Place) (x : List ℕ) → local_of s x ≡ None → is_declared s x ≡ true → (o : Option Meaning) → declaration_of s x p.file ≡ o → SameFree s v (tree.name_ p x)
free_declared s v h p x n d (Some (meanings.Function k)) e =
    let there : is_declared (with_names s v) x ≡ true = found_declared (with_names s v) x p.file (meanings.Function k) (h.declared x p.file (meanings.Function k) refl e) in
    same_free (ap (place_if p) (ap (means (bytes_eq x (codes "free")) (local_of (with_names s v) x)) there ∙ not_free (bytes_eq x (codes "free")) (local_of (with_names s v) x) ∙ sym (ap (means (bytes_eq x (codes "free")) (local_of s x)) d ∙ not_free (bytes_eq x (codes "free")) (local_of s x))))
free_declared s v h p x n d (Some (meanings.FunctionType k)) e = untyped (gone s p x d) (ap (named p) (ap (local_type s p x) n ∙ ap (declared_type s p x) e))
free_declared s v h p x n d (Some (meanings.Ghost k)) e = untyped (gone s p x d) (ap (named p) (ap (local_type s p x) n ∙ ap (declared_type s p x) e))
free_declared s v h p x n d None e = untyped (gone s p x d) (ap (named p) (ap (local_type s p x) n ∙ ap (declared_type s p x) e))

-- a name that is no local
free_global : (s : Scope) (v : Names) (h : Finds s v) (p : Place) (x : List ℕ) → local_of s x ≡ None → (d : Bool) → is_declared s x ≡ d → SameFree s v (tree.name_ p x)
free_global s v h p x n true e = free_declared s v h p x n e (declaration_of s x p.file) refl
free_global s v h p x n false e = same_free (ap (place_if p) ((λ i. means (bytes_eq x (codes "free")) (h.no_local x n i) (h.undeclared x e i)) ∙ sym (λ i. means (bytes_eq x (codes "free")) (n i) (e i))))

free_name : (s : Scope) (v : Names) (h : Finds s v) (p : Place) (x : List ℕ) (l : Option Local) → local_of s x ≡ l → SameFree s v (tree.name_ p x)
free_name s v h p x None e = free_global s v h p x e (is_declared s x) refl
free_name s v h p x (Some (locals.Real t)) e =
    same_free (ap (place_if p) (ap (λ l. means (bytes_eq x (codes "free")) l (is_declared (with_names s v) x)) (h.local x t e) ∙ no_free (bytes_eq x (codes "free")) (locals.Real t) (is_declared (with_names s v) x)
    ∙ sym (ap (λ l. means (bytes_eq x (codes "free")) l (is_declared s x)) e ∙ no_free (bytes_eq x (codes "free")) (locals.Real t) (is_declared s x))))
free_name s v h p x (Some (locals.Ghost g)) e = untyped (ap (place_if p) (ap (λ l. means (bytes_eq x (codes "free")) l (is_declared s x)) e ∙ no_free (bytes_eq x (codes "free")) (locals.Ghost g) (is_declared s x))) (ap (named p) (ap (local_type s p x) e))

free_enclosed : {s : Scope} {v : Names} {p : Place} {a : ExprTree} → SameFree s v a → SameFree s v (tree.parenthesized p a)
free_enclosed (same_free e) = same_free e
free_enclosed {p = p} (untyped n e) = untyped n (ap (enclosed p) e)

pub free_same : (s : Scope) (v : Names) → Finds s v → (e : ExprTree) → SameFree s v e
free_same s v h (tree.name_ p x) = free_name s v h p x (local_of s x) refl
free_same s v h (tree.parenthesized p a) = free_enclosed (free_same s v h a)
free_same s v h (tree.number p n i) = same_free refl
free_same s v h (tree.character p c) = same_free refl
free_same s v h (tree.true_ p) = same_free refl
free_same s v h (tree.false_ p) = same_free refl
free_same s v h (tree.malloc p g) = same_free refl
free_same s v h (tree.malloc_ints p a q) = same_free refl
free_same s v h (tree.postfix p a xs) = same_free refl
free_same s v h (tree.unary p o a) = same_free refl
free_same s v h (tree.cast p w a) = same_free refl
free_same s v h (tree.chain p l a xs) = same_free refl
free_same s v h (tree.conditional p a b d) = same_free refl

-- what is refused stays refused behind
links_fail : (s : Scope) {q : Result Operand Refusal} (x : Refusal) (xs : LinkTrees) → Leads (typed_links s (Err x) xs) q
links_fail s e no_link = fails
links_fail s e (more_link x xs) = links_fail s e xs

parts_fail : (s : Scope) {q : Result Operand Refusal} (x : Refusal) (xs : PostfixTrees) → Leads (typed_parts s (Err x) xs) q
parts_fail s e no_postfix = fails
parts_fail s e (more_postfix x xs) = parts_fail s e xs

-- without a call of `free`, what has no type stays without one
postfix_fail : (s : Scope) (p : Place) {q : Result Operand Refusal} (x : Refusal) (xs : PostfixTrees) → Leads (typed_postfix s p None (Err x) xs) q
postfix_fail s p e no_postfix = fails
postfix_fail s p e (more_postfix x xs) = parts_fail s e xs

-- what stands behind an expression, by where the name `free` is
postfix_leads : (s : Scope) (v : Names) (p : Place) (a : ExprTree) (xs : PostfixTrees) → SameFree s v a → Leads (typed_postfix s p (free_place s a) (typed s a) xs) (typed_postfix (with_names s v) p (free_place s a) (typed (with_names s v) a) xs) → Leads (typed s (tree.postfix p a xs)) (typed (with_names s v) (tree.postfix p a xs))
postfix_leads s v p a xs (same_free e) r = subst (λ o. Leads (typed_postfix s p (free_place s a) (typed s a) xs) (typed_postfix (with_names s v) p o (typed (with_names s v) a) xs)) (sym e) r
postfix_leads s v p a xs (untyped {x} n e) r = subst (λ o. Leads (typed_postfix s p o (typed s a) xs) (typed (with_names s v) (tree.postfix p a xs))) (sym n) (subst (λ u. Leads (typed_postfix s p None u xs) (typed (with_names s v) (tree.postfix p a xs))) (sym e) (postfix_fail s p x xs))

mutual
  -- an expression
  pub expr_leads : (s : Scope) (v : Names) → Finds s v → (e : ExprTree) → Leads (typed s e) (typed (with_names s v) e)
  expr_leads s v h (tree.number p n i) = leads
  expr_leads s v h (tree.character p c) = leads
  expr_leads s v h (tree.true_ p) = leads
  expr_leads s v h (tree.false_ p) = leads
  expr_leads s v h (tree.name_ p x) = named_leads p (name_leads s v h p x)
  expr_leads s v h (tree.parenthesized p a) = enclosed_leads p (expr_leads s v h a)
  expr_leads s v h (tree.malloc p g) = by_same (allocated_same s v p g)
  expr_leads s v h (tree.malloc_ints p a q) = ints_lead p _ (s.has_stdlib && s.has_arrays) (expr_leads s v h a)
  expr_leads s v h (tree.postfix p a xs) = postfix_leads s v p a xs (free_same s v h a) (behind_leads s v h p (free_place s a) xs (expr_leads s v h a))
  expr_leads s v h (tree.unary p o a) = prefixed_leads p o (expr_leads s v h a)
  expr_leads s v h (tree.cast p w a) = cast_leads p (written_leads s v h w) (expr_leads s v h a)
  expr_leads s v h (tree.chain p l a xs) = links_lead s v h xs (expr_leads s v h a)
  expr_leads s v h (tree.conditional p a b d) = conditional_leads s v p (used_leads (expr_leads s v h a)) (used_leads (expr_leads s v h b)) (used_leads (expr_leads s v h d))

  link_leads : (s : Scope) (v : Names) → Finds s v → (x : LinkTree) {r q : Result Operand Refusal} → Leads r q → Leads (typed_link s r x) (typed_link (with_names s v) q x)
  link_leads s v h (tree.link p o a) (leads {a = l}) = linked_leads s v o l (expr_leads s v h a)
  link_leads s v h x fails = fails

  links_lead : (s : Scope) (v : Names) → Finds s v → (xs : LinkTrees) {r q : Result Operand Refusal} → Leads r q → Leads (typed_links s r xs) (typed_links (with_names s v) q xs)
  links_lead s v h no_link r = r
  links_lead s v h (more_link x xs) r = links_lead s v h xs (link_leads s v h x r)

  behind_leads : (s : Scope) (v : Names) → Finds s v → (p : Place) (o : Option Place) (xs : PostfixTrees) {r q : Result Operand Refusal} → Leads r q → Leads (typed_postfix s p o r xs) (typed_postfix (with_names s v) p o q xs)
  behind_leads s v h p o no_postfix r = r
  behind_leads s v h p None (more_postfix x xs) r = parts_lead s v h xs (part_leads s v h x r)
  behind_leads s v h p (Some c) (more_postfix (tree.call_ d ys) xs) r = parts_lead s v h xs (free_call s v h p c ys)
  behind_leads s v h p (Some c) (more_postfix (tree.field_ d g) xs) r = parts_lead s v h xs (part_leads s v h (tree.field_ d g) r)
  behind_leads s v h p (Some c) (more_postfix (tree.index_ d a) xs) r = parts_lead s v h xs (part_leads s v h (tree.index_ d a) r)

  free_call : (s : Scope) (v : Names) → Finds s v → (p q : Place) (ys : ExprTrees) → Leads (typed_free s p q ys) (typed_free (with_names s v) p q ys)
  free_call s v h p q no_expr = itself (typed_free s p q no_expr)
  free_call s v h p q (more_expr a no_expr) = free_leads s v p q s.has_stdlib (expr_leads s v h a)
  free_call s v h p q (more_expr a (more_expr b xs)) = itself (typed_free s p q (more_expr a (more_expr b xs)))

  part_leads : (s : Scope) (v : Names) → Finds s v → (x : PostfixTree) {r q : Result Operand Refusal} → Leads r q → Leads (typed_part s r x) (typed_part (with_names s v) q x)
  part_leads s v h x fails = fails
  part_leads s v h (tree.field_ q g) (leads {a = o}) = by_same (behind_same s v o.place g o.ctype)
  part_leads s v h (tree.index_ q a) (leads {a = o}) = indexed_leads s v q o (expr_leads s v h a)
  part_leads s v h (tree.call_ q ys) (leads {a = o}) = subst (λ g. Leads (call o.place (called s o.ctype) (count ys) (refused_argument s (parameters_of (called s o.ctype)) ys)) (call o.place g (count ys) (refused_argument (with_names s v) (parameters_of g) ys))) (sym (called_same s v o.ctype)) (call_leads o.place (called s o.ctype) (count ys) (arguments_pass s v h (parameters_of (called s o.ctype)) ys))

  parts_lead : (s : Scope) (v : Names) → Finds s v → (xs : PostfixTrees) {r q : Result Operand Refusal} → Leads r q → Leads (typed_parts s r xs) (typed_parts (with_names s v) q xs)
  parts_lead s v h no_postfix r = r
  parts_lead s v h (more_postfix x xs) r = parts_lead s v h xs (part_leads s v h x r)

  arguments_pass : (s : Scope) (v : Names) → Finds s v → (ts : List CType) (xs : ExprTrees) → Passes (refused_argument s ts xs) (refused_argument (with_names s v) ts xs)
  arguments_pass s v h (t ∷ ts) (more_expr a xs) = either_passes (assigned_passes s v t (expr_leads s v h a)) (arguments_pass s v h ts xs)
  arguments_pass s v h [] xs = passes
  arguments_pass s v h (t ∷ ts) no_expr = passes
