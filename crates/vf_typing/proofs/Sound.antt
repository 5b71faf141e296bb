-- Where typing answers with a type, the expression has it.
use Rattle.std.proofs.Common.{◌≡◌, ℕ, Bool, true, false, not, ◌&&◌, if◌then◌else◌, List, [], ◌∷◌, length, nat_eq, Option, Some, None, Result, Ok, Err, refl, sym, ap, subst, ◌∙◌, arith}
use Rattle.std.proofs.lemmas.Bool.{eqb-true}
use Rattle.std.specs.Option.{option_or}
use Rattle.vf_base.specs.declared.int_type.IntType.TheVariants as integers
use Rattle.vf_base.specs.declared.place.Place.{Place}
use Rattle.vf_base.specs.declared.refusal.Refusal.{Refusal}
use Rattle.vf_base.specs.declared.rule.Rule.TheVariants as rules
use Rattle.vf_declared.specs.declared.ctype.CType.{CType}
use Rattle.vf_declared.specs.declared.ctype.CType.TheVariants as types
use Rattle.vf_declared.specs.declared.declaration.Meaning.{Meaning}
use Rattle.vf_declared.specs.declared.declaration.Meaning.TheVariants as meanings
use Rattle.vf_declared.specs.declared.declaration.Signature.{Signature}
use Rattle.vf_declared.specs.declared.locals.Local.{Local}
use Rattle.vf_declared.specs.declared.locals.Local.TheVariants as locals
use Rattle.vf_declared.specs.declared.scope.Scope.{Scope}
use Rattle.vf_declared.specs.Scopes.{declaration_of, field_of, has_fields, local_of, tag_of}
use Rattle.vf_syntax.specs.declared.operator.BinaryOperator.{BinaryOperator}
use Rattle.vf_syntax.specs.declared.operator.Level.{Level}
use Rattle.vf_syntax.specs.declared.operator.UnaryOperator.{UnaryOperator}
use Rattle.vf_syntax.specs.declared.operator.UnaryOperator.TheVariants as unaries
use Rattle.vf_syntax.specs.declared.written.CType.{CType as WrittenType}
use Rattle.vf_syntax.specs.declared.written.Name.{Name}
use Rattle.vf_syntax.specs.ExprTree.{ExprTree, ExprTrees, no_expr, more_expr, LinkTrees, no_link, more_link, PostfixTree, PostfixTrees, no_postfix, more_postfix}
use Rattle.vf_syntax.specs.ExprTree as tree
use Rattle.vf_typing.specs.declared.operand.Operand.{Operand}
use Rattle.vf_typing.specs.Refusals.{refused}
use Rattle.vf_typing.specs.Types.{is_index, is_int, is_void, result_type}
use Rattle.vf_typing.specs.Operands.{operand, value, if_typed, used, passes, assigned_refusal, takes_left, takes_right, joined, linked, negative, prefixed, casts, cast, comparable, conditional, enclosed}
use Rattle.vf_typing.specs.Names.{local_type, declared_type, written_type}
use Rattle.vf_typing.specs.Parts.{struct_memory, int_memory, free_place, freed, freed_type, field_found, field_behind, indexed, called, count, call, parameters_of, returned}
use Rattle.vf_typing.specs.Typed.{typed, named, typed_links, typed_parts, typed_postfix, typed_free, refused_argument}
use Rattle.vf_typing.specs.HasType.{is_null, links_null, parts_null, calls_free, HasType, LinksHaveType, PartHasType, PartsHaveType, ArePassed, IsFreed}
use Rattle.vf_typing.specs.HasType as rule
use Rattle.vf_typing.proofs.Loops.{links_refused, parts_refused}
use Rattle.vf_typing.proofs.Gives.{parts_of}

-- an answer is a refusal, or has a type that the expression has
pub data Answer (s : Scope) (e : ExprTree) : Result Operand Refusal → Type 0 where
  refused_ : {x : Refusal} → Answer s e (Err x)
  has_ : {q : Place} {t : CType} → HasType s e t → Answer s e (Ok (operand q t (is_null e)))

-- an answer where a test holds
if_answer : {s : Scope} {e : ExprTree} {o : Operand} (b : Bool) (q : Place) → (b ≡ true → Answer s e (Ok o)) → Answer s e (if_typed b q o)
if_answer true q f = f refl
if_answer false q f = refused_

-- a truth value whose negation is true
not_true : (b : Bool) → not b ≡ true → b ≡ false
not_true true h = absurd cc
not_true false h = refl

-- the type `int`
is_int_only : (t : CType) → is_int t ≡ true → t ≡ types.Integer integers.Int
is_int_only types.Void h = absurd cc
is_int_only (types.Integer integers.Bool) h = absurd cc
is_int_only (types.Integer integers.Char) h = absurd cc
is_int_only (types.Integer integers.UChar) h = absurd cc
is_int_only (types.Integer integers.Short) h = absurd cc
is_int_only (types.Integer integers.UShort) h = absurd cc
is_int_only (types.Integer integers.Int) h = refl
is_int_only (types.Integer integers.UInt) h = absurd cc
is_int_only (types.Integer integers.Long) h = absurd cc
is_int_only (types.Integer integers.ULong) h = absurd cc
is_int_only (types.Integer integers.LongLong) h = absurd cc
is_int_only (types.Integer integers.ULongLong) h = absurd cc
is_int_only types.VoidPointer h = absurd cc
is_int_only types.IntPointer h = absurd cc
is_int_only (types.StructPointer n) h = absurd cc
is_int_only (types.FunctionPointer n) h = absurd cc
is_int_only (types.Function n) h = absurd cc

-- a name of file level
declared_answer : (s : Scope) (p : Place) (x : List ℕ) (m : Option Meaning) → local_of s x ≡ None → declaration_of s x p.file ≡ m → Answer s (tree.name_ p x) (named p (declared_type s p x m))
declared_answer s p x None h d = refused_
declared_answer s p x (Some (meanings.Function n)) h d = has_ (rule.function h d)
declared_answer s p x (Some (meanings.FunctionType n)) h d = refused_
declared_answer s p x (Some (meanings.Ghost n)) h d = refused_

-- a name
name_answer : (s : Scope) (p : Place) (x : List ℕ) (l : Option Local) → local_of s x ≡ l → Answer s (tree.name_ p x) (named p (local_type s p x l))
name_answer s p x None h = declared_answer s p x (declaration_of s x p.file) h refl
name_answer s p x (Some (locals.Real t)) h = has_ (rule.local h)
name_answer s p x (Some (locals.Ghost g)) h = refused_

-- in parentheses
paren_answer : {s : Scope} {a : ExprTree} {r : Result Operand Refusal} (p : Place) → Answer s a r → Answer s (tree.parenthesized p a) (enclosed p r)
paren_answer p refused_ = refused_
paren_answer p (has_ h) = has_ (rule.parenthesized h)

-- memory for a struct
struct_answer : (s : Scope) (p : Place) (g : Name) (o : Option ℕ) → s.has_stdlib ≡ true → tag_of s g.text g.place.file ≡ o → Answer s (tree.malloc p g) (struct_memory s p g.place o)
struct_answer s p g None hs ht = refused_
struct_answer s p g (Some n) hs ht = if_answer (has_fields s n) p (λ hf. has_ (rule.memory hs ht hf))

-- the same, where `<stdlib.h>` may be there
memory_answer : (s : Scope) (p : Place) (g : Name) (b : Bool) → s.has_stdlib ≡ b → Answer s (tree.malloc p g) (if b then struct_memory s p g.place (tag_of s g.text g.place.file) else Err (refused rules.Name p))
memory_answer s p g true hs = struct_answer s p g (tag_of s g.text g.place.file) hs refl
memory_answer s p g false hs = refused_

-- memory for ints
int_answer : {s : Scope} {a : ExprTree} {r : Result Operand Refusal} (p q : Place) → s.has_stdlib ≡ true → s.has_arrays ≡ true → Answer s a r → Answer s (tree.malloc_ints p a q) (int_memory p r)
int_answer p q hs ha refused_ = refused_
int_answer {s} {a} p q hs ha (has_ {q = x} {t} h) = if_answer (is_int t) x (λ e. has_ (rule.int_memory hs ha (subst (HasType s a) (is_int_only t e) h)))

-- the same, where the headers may be there
ints_answer : {s : Scope} {a : ExprTree} {r : Result Operand Refusal} (p q : Place) (b c : Bool) → s.has_stdlib ≡ b → s.has_arrays ≡ c → Answer s a r → Answer s (tree.malloc_ints p a q) (if b && c then int_memory p r else Err (refused rules.Name p))
ints_answer p q true true hs ha h = int_answer p q hs ha h
ints_answer p q true false hs ha h = refused_
ints_answer p q false c hs ha h = refused_

-- a negative
negative_answer : {s : Scope} {a : ExprTree} (p q : Place) (z : Bool) (t : CType) → HasType s a t → Answer s (tree.unary p unaries.Minus a) (negative p (operand q t z) t)
negative_answer p q z types.Void h = refused_
negative_answer p q z (types.Integer i) h = has_ (rule.negative h)
negative_answer p q z types.VoidPointer h = refused_
negative_answer p q z types.IntPointer h = refused_
negative_answer p q z (types.StructPointer n) h = refused_
negative_answer p q z (types.FunctionPointer n) h = refused_
negative_answer p q z (types.Function n) h = refused_

-- an operator in front of its operand
unary_answer : {s : Scope} {a : ExprTree} {r : Result Operand Refusal} (p : Place) (o : UnaryOperator) → Answer s a r → Answer s (tree.unary p o a) (prefixed p o r)
unary_answer p o refused_ = refused_
unary_answer {s} {a} p unaries.Minus (has_ {q} {t} h) = negative_answer p q (is_null a) t h
unary_answer p unaries.Not (has_ {q} {t} h) = if_answer (not (is_void t)) q (λ e. has_ (rule.not_ h (not_true (is_void t) e)))

-- a cast
cast_answer : {s : Scope} {a : ExprTree} {r : Result Operand Refusal} (p : Place) (w : WrittenType) (x : Result CType Refusal) → written_type s w ≡ x → Answer s a r → Answer s (tree.cast p w a) (cast p x r)
cast_answer p w (Err x) k h = refused_
cast_answer p w (Ok t) k refused_ = refused_
cast_answer {s} {a} p w (Ok t) k (has_ {q} {t = u} h) = if_answer (casts t (is_null a) u) q (λ e. has_ (rule.cast k h e))

-- an answer whose value is used
data Used (s : Scope) (e : ExprTree) : Result Operand Refusal → Type 0 where
  unused : {x : Refusal} → Used s e (Err x)
  uses : {q : Place} {t : CType} → HasType s e t → is_void t ≡ false → Used s e (Ok (operand q t (is_null e)))

-- the same, where its type may be `void`
used_if : {s : Scope} {e : ExprTree} (q : Place) (t : CType) (b : Bool) → is_void t ≡ b → HasType s e t → Used s e (if b then Err (refused rules.Typing q) else Ok (operand q t (is_null e)))
used_if q t true v h = unused
used_if q t false v h = uses h v

-- the same, of each answer
used_answer : {s : Scope} {e : ExprTree} {r : Result Operand Refusal} → Answer s e r → Used s e (used r)
used_answer refused_ = unused
used_answer (has_ {q} {t} h) = used_if q t (is_void t) refl h

-- a choice
conditional_answer : {s : Scope} {a b c : ExprTree} {x y z : Result Operand Refusal} (p : Place) → Used s a x → Used s b y → Used s c z → Answer s (tree.conditional p a b c) (conditional s p x y z)
conditional_answer p unused k l = refused_
conditional_answer p (uses h v) unused l = refused_
conditional_answer p (uses h v) (uses k w) unused = refused_
conditional_answer {s} {a} {b} {c} p (uses h v) (uses {q} {t} k w) (uses {q = r} {t = u} l x) = if_answer (comparable s (is_null b) t (is_null c) u) r (λ e. has_ (rule.conditional h v k w l x e))

-- an answer for operands behind one
data Links (s : Scope) (z : Bool) (t : CType) (xs : LinkTrees) : Result Operand Refusal → Type 0 where
  no_links_ : {x : Refusal} → Links s z t xs (Err x)
  links_ : {q : Place} {u : CType} → LinksHaveType s z t xs u → Links s z t xs (Ok (operand q u (links_null z xs)))

-- a chain behind an operand
chain_has : {s : Scope} {a : ExprTree} {t : CType} {xs : LinkTrees} {r : Result Operand Refusal} (p : Place) (v : Level) → HasType s a t → Links s (is_null a) t xs r → Answer s (tree.chain p v a xs) r
chain_has p v h no_links_ = refused_
chain_has p v h (links_ k) = has_ (rule.chain h k)

-- a chain
chain_answer : {s : Scope} {a : ExprTree} {xs : LinkTrees} {r : Result Operand Refusal} (p : Place) (v : Level) → Answer s a r → ((q : Place) (z : Bool) (t : CType) → Links s z t xs (typed_links s (Ok (operand q t z)) xs)) → Answer s (tree.chain p v a xs) (typed_links s r xs)
chain_answer {s} {a} {xs} p v (refused_ {x}) k = subst (Answer s (tree.chain p v a xs)) (sym (links_refused s x xs)) refused_
chain_answer {s} {a} p v (has_ {q} {t} h) k = chain_has p v h (k q (is_null a) t)

-- an answer for one operand behind another
data Link (s : Scope) (o : BinaryOperator) (q : Place) (z : Bool) (t : CType) (a : ExprTree) : Result Operand Refusal → Type 0 where
  no_link_ : {x : Refusal} → Link s o q z t a (Err x)
  link_ : {u : CType} → takes_left o t ≡ true → HasType s a u → takes_right s o z t (is_null a) u ≡ true → Link s o q z t a (Ok (value q (result_type o t u)))

-- the same, where the right operand may be refused
link_right : {s : Scope} {a : ExprTree} (o : BinaryOperator) (q r : Place) (z : Bool) (t u : CType) (b : Bool) → takes_left o t ≡ true → HasType s a u → takes_right s o z t (is_null a) u ≡ b → Link s o q z t a (if_typed b r (value q (result_type o t u)))
link_right o q r z t u true l h e = link_ l h e
link_right o q r z t u false l h e = no_link_

-- the same, where the left operand may be refused
link_left : {s : Scope} {a : ExprTree} (o : BinaryOperator) (q r : Place) (z : Bool) (t u : CType) (b : Bool) → takes_left o t ≡ b → HasType s a u → Link s o q z t a (if b then joined s o (operand q t z) (operand r u (is_null a)) else Err (refused rules.Typing q))
link_left {s} {a} o q r z t u true e h = link_right o q r z t u (takes_right s o z t (is_null a) u) e h refl
link_left o q r z t u false e h = no_link_

-- a refusal stays
link_stop : {s : Scope} {a : ExprTree} (o : BinaryOperator) (q : Place) (z : Bool) (t : CType) (x y : Refusal) (b : Bool) → Link s o q z t a (if b then Err x else Err y)
link_stop o q z t x y true = no_link_
link_stop o q z t x y false = no_link_

-- one operand behind another
link_answer : {s : Scope} {a : ExprTree} {r : Result Operand Refusal} (o : BinaryOperator) (q : Place) (z : Bool) (t : CType) → Answer s a r → Link s o q z t a (linked s o (operand q t z) r)
link_answer o q z t (refused_ {x}) = link_stop o q z t x (refused rules.Typing q) (takes_left o t)
link_answer o q z t (has_ {q = r} {t = u} h) = link_left o q r z t u (takes_left o t) refl h

-- operands behind one more
links_has : {s : Scope} {a : ExprTree} {z : Bool} {t u : CType} {xs : LinkTrees} {r : Result Operand Refusal} (p : Place) (o : BinaryOperator) → takes_left o t ≡ true → HasType s a u → takes_right s o z t (is_null a) u ≡ true → Links s false (result_type o t u) xs r → Links s z t (more_link (tree.link p o a) xs) r
links_has p o l h e no_links_ = no_links_
links_has p o l h e (links_ k) = links_ (rule.more_links l h e k)

-- one more operand
links_more : {s : Scope} {a : ExprTree} {q : Place} {z : Bool} {t : CType} {xs : LinkTrees} {r : Result Operand Refusal} (p : Place) (o : BinaryOperator) → Link s o q z t a r → ((q : Place) (z : Bool) (t : CType) → Links s z t xs (typed_links s (Ok (operand q t z)) xs)) → Links s z t (more_link (tree.link p o a) xs) (typed_links s r xs)
links_more {s} {a} {q} {z} {t} {xs} p o (no_link_ {x}) k = subst (Links s z t (more_link (tree.link p o a) xs)) (sym (links_refused s x xs)) no_links_
links_more {s} {a} {q} {z} {t} {xs} p o (link_ {u} l h e) k = links_has p o l h e (k q false (result_type o t u))

-- an answer for a read or call behind an operand
data Part (s : Scope) (q : Place) (t : CType) (x : PostfixTree) : Result Operand Refusal → Type 0 where
  no_part_ : {e : Refusal} → Part s q t x (Err e)
  part_ : {u : CType} → PartHasType s t x u → Part s q t x (Ok (value q u))

-- an answer for reads and calls behind an operand
data Parts (s : Scope) (z : Bool) (t : CType) (xs : PostfixTrees) : Result Operand Refusal → Type 0 where
  no_parts_ : {e : Refusal} → Parts s z t xs (Err e)
  parts_ : {q : Place} {u : CType} → PartsHaveType s t xs u → Parts s z t xs (Ok (operand q u (parts_null z xs)))

-- a field that may be there
field_has : (s : Scope) (q c : Place) (n : ℕ) (g : Name) (o : Option CType) → field_of s n g.text g.place.file ≡ o → Part s q (types.StructPointer n) (tree.field_ c g) (field_found q g.place o)
field_has s q c n g None h = no_part_
field_has s q c n g (Some t) h = part_ (rule.field h)

-- a field
field_answer : (s : Scope) (q c : Place) (g : Name) (t : CType) → Part s q t (tree.field_ c g) (field_behind s q g t)
field_answer s q c g types.Void = no_part_
field_answer s q c g (types.Integer i) = no_part_
field_answer s q c g types.VoidPointer = no_part_
field_answer s q c g types.IntPointer = no_part_
field_answer s q c g (types.StructPointer n) = field_has s q c n g (field_of s n g.text g.place.file) refl
field_answer s q c g (types.FunctionPointer n) = no_part_
field_answer s q c g (types.Function n) = no_part_

-- an element, where arrays may be there
element_arrays : {s : Scope} {a : ExprTree} {u : CType} (q c : Place) (b : Bool) → HasType s a u → is_index u ≡ true → s.has_arrays ≡ b → Part s q types.IntPointer (tree.index_ c a) (if b then Ok (value q (types.Integer integers.Int)) else Err (refused rules.Name c))
element_arrays q c true h i e = part_ (rule.element h i e)
element_arrays q c false h i e = no_part_

-- the same, where the index may be refused
element_index : {s : Scope} {a : ExprTree} {u : CType} (q c r : Place) (b : Bool) → HasType s a u → is_index u ≡ b → Part s q types.IntPointer (tree.index_ c a) (if b then (if s.has_arrays then Ok (value q (types.Integer integers.Int)) else Err (refused rules.Name c)) else Err (refused rules.Typing r))
element_index {s} q c r true h i = element_arrays q c s.has_arrays h i refl
element_index q c r false h i = no_part_

-- an element
element_answer : {s : Scope} {a : ExprTree} {r : Result Operand Refusal} (q c : Place) (z : Bool) (t : CType) → Answer s a r → Part s q t (tree.index_ c a) (indexed s c (operand q t z) r)
element_answer q c z types.Void refused_ = no_part_
element_answer q c z types.Void (has_ h) = no_part_
element_answer q c z (types.Integer i) refused_ = no_part_
element_answer q c z (types.Integer i) (has_ h) = no_part_
element_answer q c z types.VoidPointer refused_ = no_part_
element_answer q c z types.VoidPointer (has_ h) = no_part_
element_answer q c z types.IntPointer refused_ = no_part_
element_answer q c z types.IntPointer (has_ {q = r} {t = u} h) = element_index q c r (is_index u) h refl
element_answer q c z (types.StructPointer n) refused_ = no_part_
element_answer q c z (types.StructPointer n) (has_ h) = no_part_
element_answer q c z (types.FunctionPointer n) refused_ = no_part_
element_answer q c z (types.FunctionPointer n) (has_ h) = no_part_
element_answer q c z (types.Function n) refused_ = no_part_
element_answer q c z (types.Function n) (has_ h) = no_part_

-- a call whose arguments are taken or not
returned_answer : {s : Scope} {t : CType} {g : Signature} {ys : ExprTrees} (q c : Place) (o : Option Refusal) → called s t ≡ Some g → (o ≡ None → ArePassed s g.parameters ys) → Part s q t (tree.call_ c ys) (returned q g.result o)
returned_answer q c None h k = part_ (rule.call h (k refl))
returned_answer q c (Some x) h k = no_part_

-- a call with as many arguments as it takes, or not
counted_answer : {s : Scope} {t : CType} {g : Signature} {ys : ExprTrees} (q c : Place) (b : Bool) (o : Option Refusal) → called s t ≡ Some g → (b ≡ true → o ≡ None → ArePassed s g.parameters ys) → Part s q t (tree.call_ c ys) (if b then returned q g.result o else Err (refused rules.Typing q))
counted_answer q c true o h k = returned_answer q c o h (k refl)
counted_answer q c false o h k = no_part_

-- a call of something that can be called, or not
call_answer : {s : Scope} {t : CType} {ys : ExprTrees} (q c : Place) (d : Option Signature) → called s t ≡ d → ((ts : List CType) → refused_argument s ts ys ≡ None → length ts ≡ count ys → ArePassed s ts ys) → Part s q t (tree.call_ c ys) (call q d (count ys) (refused_argument s (parameters_of d) ys))
call_answer q c None h k = no_part_
call_answer {s} {t} {ys} q c (Some g) h k = counted_answer q c (nat_eq (length g.parameters) (count ys)) (refused_argument s g.parameters ys) h (λ e n. k g.parameters n (eqb-true (length g.parameters) (count ys) e))

-- an argument that passes or not
passes_if : {s : Scope} {t u : CType} {ts : List CType} {a : ExprTree} {xs : ExprTrees} (q : Place) (b : Bool) → HasType s a u → passes s t (is_null a) u ≡ b → option_or (if b then None else Some (refused rules.Typing q)) (refused_argument s ts xs) ≡ None → (refused_argument s ts xs ≡ None → ArePassed s ts xs) → ArePassed s (t ∷ ts) (more_expr a xs)
passes_if q true h e n k = rule.one_passed h e (k n)
passes_if q false h e n k = absurd cc

-- one more argument
passed_more : {s : Scope} {ts : List CType} {a : ExprTree} {xs : ExprTrees} {r : Result Operand Refusal} (t : CType) → Answer s a r → option_or (assigned_refusal s t r) (refused_argument s ts xs) ≡ None → (refused_argument s ts xs ≡ None → ArePassed s ts xs) → ArePassed s (t ∷ ts) (more_expr a xs)
passed_more t refused_ n k = absurd cc
passed_more {s} {ts} {a} t (has_ {q} {t = u} h) n k = passes_if q (passes s t (is_null a) u) h refl n k

-- reads and calls behind one more
parts_has : {s : Scope} {z : Bool} {t u : CType} {x : PostfixTree} {xs : PostfixTrees} {r : Result Operand Refusal} → PartHasType s t x u → Parts s false u xs r → Parts s z t (more_postfix x xs) r
parts_has h no_parts_ = no_parts_
parts_has h (parts_ k) = parts_ (rule.more_parts h k)

-- what reads and calls behind each operand have
abbrev EachParts : Scope → PostfixTrees → Type 0
EachParts s xs = (q : Place) (z : Bool) (t : CType) → Parts s z t xs (typed_parts s (Ok (operand q t z)) xs)

-- one more read or call
parts_more : {s : Scope} {q : Place} {z : Bool} {t : CType} {x : PostfixTree} {xs : PostfixTrees} {r : Result Operand Refusal} → Part s q t x r → EachParts s xs → Parts s z t (more_postfix x xs) (typed_parts s r xs)
parts_more {s} {q} {z} {t} {x} {xs} (no_part_ {e}) k = subst (Parts s z t (more_postfix x xs)) (sym (parts_refused s e xs)) no_parts_
parts_more {s} {q} (part_ {u} h) k = parts_has h (k q false u)

-- an answer for a call of `free`
data Freed (s : Scope) (p : Place) : ExprTrees → Result Operand Refusal → Type 0 where
  no_freed_ : {ys : ExprTrees} {e : Refusal} → Freed s p ys (Err e)
  freed_ : {b : ExprTree} {t : CType} → s.has_stdlib ≡ true → HasType s b t → IsFreed s t → Freed s p (more_expr b no_expr) (Ok (value p types.Void))

-- the same, where fields may be there
freed_fields : {s : Scope} {b : ExprTree} (p : Place) (n : ℕ) (f : Bool) → s.has_stdlib ≡ true → HasType s b (types.StructPointer n) → has_fields s n ≡ f → Freed s p (more_expr b no_expr) (if_typed f p (value p types.Void))
freed_fields p n true hs h e = freed_ hs h (rule.struct_ e)
freed_fields p n false hs h e = no_freed_

-- the same, of a type
freed_has : {s : Scope} {b : ExprTree} (p q : Place) (t : CType) → s.has_stdlib ≡ true → HasType s b t → Freed s p (more_expr b no_expr) (freed_type s p q t)
freed_has p q types.Void hs h = no_freed_
freed_has p q (types.Integer i) hs h = no_freed_
freed_has p q types.VoidPointer hs h = no_freed_
freed_has p q types.IntPointer hs h = freed_ hs h rule.ints
freed_has {s} p q (types.StructPointer n) hs h = freed_fields p n (has_fields s n) hs h refl
freed_has p q (types.FunctionPointer n) hs h = no_freed_
freed_has p q (types.Function n) hs h = no_freed_

-- the same, of an answer
freed_answer : {s : Scope} {b : ExprTree} {r : Result Operand Refusal} (p : Place) → s.has_stdlib ≡ true → Answer s b r → Freed s p (more_expr b no_expr) (freed s p r)
freed_answer p hs refused_ = no_freed_
freed_answer p hs (has_ {q} {t} h) = freed_has p q t hs h

-- the same, where `<stdlib.h>` may be there
freed_stdlib : {s : Scope} {b : ExprTree} {r : Result Operand Refusal} (p q : Place) (d : Bool) → s.has_stdlib ≡ d → Answer s b r → Freed s p (more_expr b no_expr) (if d then freed s p r else Err (refused rules.Name q))
freed_stdlib p q true hs h = freed_answer p hs h
freed_stdlib p q false hs h = no_freed_

-- another number of arguments
freed_wrong : {s : Scope} {ys : ExprTrees} (p q : Place) (d : Bool) → Freed s p ys (if d then Err (refused rules.Typing p) else Err (refused rules.Name q))
freed_wrong p q true = no_freed_
freed_wrong p q false = no_freed_

-- reads and calls behind an operand
postfix_has : {s : Scope} {a : ExprTree} {t : CType} {xs : PostfixTrees} {r : Result Operand Refusal} (p : Place) → calls_free (free_place s a) xs ≡ false → HasType s a t → Parts s (is_null a) t xs r → Answer s (tree.postfix p a xs) r
postfix_has p n h no_parts_ = refused_
postfix_has p n h (parts_ k) = has_ (rule.postfix n h k)

-- reads and calls that are no call of `free`
plain_parts : {s : Scope} {a : ExprTree} {xs : PostfixTrees} {r : Result Operand Refusal} (p : Place) → calls_free (free_place s a) xs ≡ false → Answer s a r → EachParts s xs → Answer s (tree.postfix p a xs) (typed_parts s r xs)
plain_parts {s} {a} {xs} p n (refused_ {x}) k = subst (Answer s (tree.postfix p a xs)) (sym (parts_refused s x xs)) refused_
plain_parts {s} {a} p n (has_ {q} {t} h) k = postfix_has p n h (k q (is_null a) t)

-- the same, with what may be the name `free`
plain_answer : {s : Scope} {a : ExprTree} {xs : PostfixTrees} {r : Result Operand Refusal} (p : Place) (o : Option Place) → free_place s a ≡ o → calls_free o xs ≡ false → Answer s a r → EachParts s xs → Answer s (tree.postfix p a xs) (typed_postfix s p o r xs)
plain_answer {s} {a} {xs} {r} p o e n h k = subst (Answer s (tree.postfix p a xs)) (sym (parts_of s p o r xs n)) (plain_parts p (ap (λ d. calls_free d xs) e ∙ n) h k)

-- reads and calls behind a call of `free`
behind_free : {s : Scope} {a b : ExprTree} {t : CType} {xs : PostfixTrees} {r : Result Operand Refusal} (p q c : Place) → free_place s a ≡ Some q → s.has_stdlib ≡ true → HasType s b t → IsFreed s t → Parts s false types.Void xs r → Answer s (tree.postfix p a (more_postfix (tree.call_ c (more_expr b no_expr)) xs)) r
behind_free p q c e hs h f no_parts_ = refused_
behind_free p q c e hs h f (parts_ k) = has_ (rule.freed e hs h f k)

-- a call of `free` and what stands behind it
free_answer : {s : Scope} {a : ExprTree} {ys : ExprTrees} {xs : PostfixTrees} {r : Result Operand Refusal} (p q c : Place) → free_place s a ≡ Some q → Freed s p ys r → EachParts s xs → Answer s (tree.postfix p a (more_postfix (tree.call_ c ys) xs)) (typed_parts s r xs)
free_answer {s} {a} {ys} {xs} p q c e (no_freed_ {e = x}) k = subst (Answer s (tree.postfix p a (more_postfix (tree.call_ c ys) xs))) (sym (parts_refused s x xs)) refused_
free_answer p q c e (freed_ hs h f) k = behind_free p q c e hs h f (k p false types.Void)

-- a call of what may be the name `free`
called_answer : {s : Scope} {a : ExprTree} {ys : ExprTrees} {xs : PostfixTrees} {r : Result Operand Refusal} (p c : Place) (o : Option Place) → free_place s a ≡ o → Answer s a r → ((q : Place) → Freed s p ys (typed_free s p q ys)) → EachParts s xs → EachParts s (more_postfix (tree.call_ c ys) xs) → Answer s (tree.postfix p a (more_postfix (tree.call_ c ys) xs)) (typed_postfix s p o r (more_postfix (tree.call_ c ys) xs))
called_answer p c None e h f k l = plain_answer p None e refl h l
called_answer p c (Some q) e h f k l = free_answer p q c e (f q) k

-- nothing behind is no call of `free`
nothing_calls : (o : Option Place) → calls_free o no_postfix ≡ false
nothing_calls None = refl
nothing_calls (Some q) = refl

-- nor is a field
field_calls : (o : Option Place) (c : Place) (g : Name) (xs : PostfixTrees) → calls_free o (more_postfix (tree.field_ c g) xs) ≡ false
field_calls None c g xs = refl
field_calls (Some q) c g xs = refl

-- nor an element
index_calls : (o : Option Place) (c : Place) (i : ExprTree) (xs : PostfixTrees) → calls_free o (more_postfix (tree.index_ c i) xs) ≡ false
index_calls None c i xs = refl
index_calls (Some q) c i xs = refl

mutual
  -- an expression
  pub sound : (s : Scope) (e : ExprTree) → Answer s e (typed s e)
  sound s (tree.number p n i) = has_ rule.number
  sound s (tree.character p c) = has_ rule.character
  sound s (tree.true_ p) = has_ rule.truth
  sound s (tree.false_ p) = has_ rule.falsehood
  sound s (tree.name_ p x) = name_answer s p x (local_of s x) refl
  sound s (tree.parenthesized p a) = paren_answer p (sound s a)
  sound s (tree.malloc p g) = memory_answer s p g s.has_stdlib refl
  sound s (tree.malloc_ints p a q) = ints_answer p q s.has_stdlib s.has_arrays refl refl (sound s a)
  sound s (tree.postfix p a no_postfix) = plain_answer p (free_place s a) refl (nothing_calls (free_place s a)) (sound s a) (λ q z t. parts_ rule.no_parts)
  sound s (tree.postfix p a (more_postfix (tree.field_ c g) xs)) = plain_answer p (free_place s a) refl (field_calls (free_place s a) c g xs) (sound s a) (λ q z t. parts_more (field_answer s q c g t) (parts_sound s xs))
  sound s (tree.postfix p a (more_postfix (tree.index_ c i) xs)) = plain_answer p (free_place s a) refl (index_calls (free_place s a) c i xs) (sound s a) (λ q z t. parts_more (element_answer q c z t (sound s i)) (parts_sound s xs))
  sound s (tree.postfix p a (more_postfix (tree.call_ c ys) xs)) = called_answer p c (free_place s a) refl (sound s a) (λ q. free_sound s p q ys) (parts_sound s xs) (λ q z t. parts_more (call_answer q c (called s t) refl (passed_sound s ys)) (parts_sound s xs))
  sound s (tree.unary p o a) = unary_answer p o (sound s a)
  sound s (tree.cast p w a) = cast_answer p w (written_type s w) refl (sound s a)
  sound s (tree.chain p v a xs) = chain_answer p v (sound s a) (links_sound s xs)
  sound s (tree.conditional p a b c) = conditional_answer p (used_answer (sound s a)) (used_answer (sound s b)) (used_answer (sound s c))

  -- operands behind one
  links_sound : (s : Scope) (xs : LinkTrees) (q : Place) (z : Bool) (t : CType) → Links s z t xs (typed_links s (Ok (operand q t z)) xs)
  links_sound s no_link q z t = links_ rule.no_links
  links_sound s (more_link (tree.link p o a) xs) q z t = links_more p o (link_answer o q z t (sound s a)) (links_sound s xs)

  -- reads and calls behind an operand
  parts_sound : (s : Scope) (xs : PostfixTrees) (q : Place) (z : Bool) (t : CType) → Parts s z t xs (typed_parts s (Ok (operand q t z)) xs)
  parts_sound s no_postfix q z t = parts_ rule.no_parts
  parts_sound s (more_postfix (tree.field_ c g) xs) q z t = parts_more (field_answer s q c g t) (parts_sound s xs)
  parts_sound s (more_postfix (tree.index_ c i) xs) q z t = parts_more (element_answer q c z t (sound s i)) (parts_sound s xs)
  parts_sound s (more_postfix (tree.call_ c ys) xs) q z t = parts_more (call_answer q c (called s t) refl (passed_sound s ys)) (parts_sound s xs)

  -- arguments
  passed_sound : (s : Scope) (ys : ExprTrees) (ts : List CType) → refused_argument s ts ys ≡ None → length ts ≡ count ys → ArePassed s ts ys
  passed_sound s no_expr [] n l = rule.none_passed
  passed_sound s no_expr (t ∷ ts) n l = absurd (omega (arith, l))
  passed_sound s (more_expr a xs) [] n l = absurd (omega (arith, l))
  passed_sound s (more_expr a xs) (t ∷ ts) n l = passed_more t (sound s a) n (λ m. passed_sound s xs ts m (omega (arith, l)))

  -- the argument of `free`
  free_sound : (s : Scope) (p q : Place) (ys : ExprTrees) → Freed s p ys (typed_free s p q ys)
  free_sound s p q no_expr = freed_wrong p q s.has_stdlib
  free_sound s p q (more_expr b no_expr) = freed_stdlib p q s.has_stdlib refl (sound s b)
  free_sound s p q (more_expr b (more_expr d ys)) = freed_wrong p q s.has_stdlib
