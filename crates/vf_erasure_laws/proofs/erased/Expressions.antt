-- Expressions that have types become the same where C text sees the same.
use Rattle.std.proofs.Common.{◌≡◌, ℕ, nat_eq, length, Bool, true, false, ◌&&◌, if◌then◌else◌, List, [], ◌∷◌, Option, Some, None, Result, Ok, Err, refl, sym, ap, subst, ◌∙◌}
use Rattle.std.specs.Option.{option_or}
use Rattle.vf_base.specs.declared.place.Place.{Place}
use Rattle.vf_base.specs.declared.refusal.Refusal.{Refusal}
use Rattle.vf_base.specs.declared.rule.Rule.TheVariants as rules
use Rattle.vf_base.specs.declared.int_type.IntType.TheVariants as integers
use Rattle.vf_declared.specs.declared.ctype.CType.{CType}
use Rattle.vf_declared.specs.declared.ctype.CType.TheVariants as types
use Rattle.vf_declared.specs.declared.declaration.Signature.{Signature}
use Rattle.vf_declared.specs.declared.scope.Scope.{Scope}
use Rattle.vf_declared.specs.Scopes.{field_of}
use Rattle.vf_syntax.specs.declared.written.CType.{CType as WrittenType}
use Rattle.vf_syntax.specs.declared.written.Name.{Name}
use Rattle.vf_syntax.specs.declared.operator.BinaryOperator.{BinaryOperator}
use Rattle.vf_syntax.specs.declared.operator.UnaryOperator.{UnaryOperator}
use Rattle.vf_syntax.specs.declared.operator.UnaryOperator.TheVariants as unaries
use Rattle.vf_syntax.specs.ExprTree.{ExprTree, ExprTrees, no_expr, more_expr, LinkTree, LinkTrees, no_link, more_link, PostfixTree, PostfixTrees, no_postfix, more_postfix}
use Rattle.vf_syntax.specs.ExprTree as tree
use Rattle.vf_typing.specs.declared.operand.Operand.{Operand}
use Rattle.vf_typing.specs.Names.{written_type}
use Rattle.vf_typing.specs.Operands.{assigned_refusal, cast, conditional, enclosed, linked, prefixed, takes_left, used, value as operand_value}
use Rattle.vf_typing.specs.Parts.{call, called, count, field_behind, field_found, free_place, freed as free_typed, indexed, int_memory, parameters_of, returned}
use Rattle.vf_typing.specs.Refusals.{refused}
use Rattle.vf_typing.specs.Typed.{refused_argument, typed, typed_free, typed_link, typed_links, typed_part, typed_parts, typed_postfix}
use Rattle.vf_typing.specs.Types.{is_index, is_int_pointer, result_type}
use Rattle.vf_lower.specs.Lowering.{gives, ◌⨾◌}
use Rattle.vf_lower.specs.Settings.{Kind, kind, kind_in, structure_in}
use Rattle.vf_lower.specs.Operands.{Left, Outcome, choice, left, passed, tested, valued}
use Rattle.vf_lower.specs.Operands as outcomes
use Rattle.vf_lower.specs.Expressions.{arguments, behind, first, link_type, links, or_void, outcome, part, part_type, parts, result_of}
use Rattle.vf_erasure_laws.proofs.seen.Leading.{expr_leads, free_same, led, SameFree, same_free, untyped}
use Rattle.vf_erasure_laws.proofs.seen.Same.{Names, called_same, field_same, with_names}
use Rattle.vf_erasure_laws.proofs.erased.Alike.{Alike, Is, alike_gives, alike_on}
use Rattle.vf_erasure_laws.proofs.erased.Parts.{Stands, one, two, kinds, alike_same, valued_alike, tested_alike, passed_alike, joined_alike, choice_alike, prefixed_alike, freed_alike, called_alike, left_value_alike, part_types, tags, names_same}

-- what has a type
abbrev pub Has : Scope → ExprTree → Type 0
Has s e = (o : Operand) × (typed s e ≡ Ok o)

-- what is no refusal
abbrev pub Is_ok : {A : Type 0} → Result A Refusal → Type 0
Is_ok {A} r = (a : A) × (r ≡ Ok a)

of_enclosed : (p : Place) {o : Operand} (r : Result Operand Refusal) → enclosed p r ≡ Ok o → Is_ok r
of_enclosed p (Ok a) h = (a, refl)
of_enclosed p (Err x) h = absurd cc

pub of_used : {o : Operand} (r : Result Operand Refusal) → used r ≡ Ok o → Is_ok r
of_used (Ok a) h = (a, refl)
of_used (Err x) h = absurd cc

of_prefixed : (p : Place) {u : Operand} (o : UnaryOperator) (r : Result Operand Refusal) → prefixed p o r ≡ Ok u → Is_ok r
of_prefixed p o (Ok a) h = (a, refl)
of_prefixed p unaries.Minus (Err x) h = absurd cc
of_prefixed p unaries.Not (Err x) h = absurd cc

of_cast : (p : Place) {u : Operand} (t : Result CType Refusal) (r : Result Operand Refusal) → cast p t r ≡ Ok u → Is_ok r
of_cast p t (Ok a) h = (a, refl)
of_cast p (Ok t) (Err x) h = absurd cc
of_cast p (Err y) (Err x) h = absurd cc

of_ints : (p : Place) (y : Refusal) {u : Operand} (b : Bool) (r : Result Operand Refusal) → (if b then int_memory p r else Err y) ≡ Ok u → Is_ok r
of_ints p y b (Ok a) h = (a, refl)
of_ints p y true (Err x) h = absurd cc
of_ints p y false (Err x) h = absurd cc

of_linked : (s : Scope) (o : BinaryOperator) (l : Operand) {u : Operand} (r : Result Operand Refusal) → linked s o l r ≡ Ok u → Is_ok r
of_linked s o l (Ok a) h = (a, refl)
of_linked s o l {u} (Err x) h = by_test (takes_left o l.ctype) h
  where
    by_test : (b : Bool) → (if b then Err x else Err (refused rules.Typing l.place)) ≡ Ok u → Is_ok {A = Operand} (Err x)
    by_test true h = absurd cc
    by_test false h = absurd cc

of_indexed : (s : Scope) (q : Place) (o : Operand) {u : Operand} (r : Result Operand Refusal) → indexed s q o r ≡ Ok u → Is_ok r
of_indexed s q o (Ok a) h = (a, refl)
of_indexed s q o {u} (Err x) h = by_test (is_int_pointer o.ctype) h
  where
    by_test : (b : Bool) → (if b then Err x else Err (refused rules.Typing o.place)) ≡ Ok u → Is_ok {A = Operand} (Err x)
    by_test true h = absurd cc
    by_test false h = absurd cc

record AreOk (a b c : Result Operand Refusal) : Type 0 where
  first : Is_ok a
  second : Is_ok b
  third : Is_ok c

of_conditional : (s : Scope) (p : Place) {u : Operand} (a b c : Result Operand Refusal) → conditional s p a b c ≡ Ok u → AreOk a b c
of_conditional s p (Ok a) (Ok b) (Ok c) h = record { first = (a, refl); second = (b, refl); third = (c, refl) }
of_conditional s p (Ok a) (Ok b) (Err x) h = absurd cc
of_conditional s p (Ok a) (Err x) c h = absurd cc
of_conditional s p (Err x) b c h = absurd cc

of_links : (s : Scope) {u : Operand} (r : Result Operand Refusal) (xs : LinkTrees) → typed_links s r xs ≡ Ok u → Is_ok r
of_links s (Ok a) xs h = (a, refl)
of_links s (Err x) no_link h = absurd cc
of_links s (Err x) (more_link y ys) h = of_links s (Err x) ys h

of_parts : (s : Scope) {u : Operand} (r : Result Operand Refusal) (xs : PostfixTrees) → typed_parts s r xs ≡ Ok u → Is_ok r
of_parts s (Ok a) xs h = (a, refl)
of_parts s (Err x) no_postfix h = absurd cc
of_parts s (Err x) (more_postfix y ys) h = of_parts s (Err x) ys h

of_part : (s : Scope) {u : Operand} (r : Result Operand Refusal) (y : PostfixTree) → typed_part s r y ≡ Ok u → Is_ok r
of_part s (Ok a) y h = (a, refl)
of_part s (Err x) y h = absurd cc

-- the arguments of a call that has a type have types
of_call : (p : Place) {u : Operand} (g : Option Signature) (n : ℕ) (r : Option Refusal) → call p g n r ≡ Ok u → r ≡ None
of_call p None n r h = absurd cc
of_call p {u} (Some g) n r h = by_count (nat_eq (length g.parameters) n) r h
  where
    by_count : (b : Bool) (r : Option Refusal) → (if b then returned p g.result r else Err (refused rules.Typing p)) ≡ Ok u → r ≡ None
    by_count true None h = refl
    by_count true (Some x) h = absurd cc
    by_count false r h = absurd cc

of_first : (a b : Option Refusal) → option_or a b ≡ None → (a ≡ None) × (b ≡ None)
of_first None b h = (refl, h)
of_first (Some x) b h = absurd cc

pub of_assigned : (s : Scope) (t : CType) (r : Result Operand Refusal) → assigned_refusal s t r ≡ None → Is_ok r
of_assigned s t (Ok a) h = (a, refl)
of_assigned s t (Err x) h = absurd cc

-- `free` of one argument
of_freed : (s : Scope) (p q : Place) {u : Operand} (b : Bool) (r : Result Operand Refusal) → (if b then free_typed s p r else Err (refused rules.Name q)) ≡ Ok u → Is_ok r
of_freed s p q b (Ok a) h = (a, refl)
of_freed s p q true (Err x) h = absurd cc
of_freed s p q false (Err x) h = absurd cc

two_refused : {A : Type 0} (x y : Refusal) {a : A} (b : Bool) → (if b then Err x else Err y) ≡ Ok a → ⊥
two_refused x y true h = absurd cc
two_refused x y false h = absurd cc

-- where an expression that has a type is the name `free` in neither, or in both
free_places : (x : Stands) (a : ExprTree) (o : Operand) → (free_place x.scope a ≡ None → typed x.scope a ≡ Ok o) → (free_place (one x).scope a ≡ free_place x.scope a) × (free_place (two x).scope a ≡ free_place x.scope a)
free_places x a o h = (by (free_same x.scope x.first x.finds a), by (free_same x.scope x.second x.found a))
  where
    by : {v : Names} → SameFree x.scope v a → free_place (with_names x.scope v) a ≡ free_place x.scope a
    by (same_free e) = e
    by (untyped n e) = let clash : Err _ ≡ Ok o = sym e ∙ h n in absurd cc

-- what has a type is of that kind
kind_is : (x : Stands) (e : ExprTree) (o : Operand) → typed x.scope e ≡ Ok o → kind (one x) e ≡ kind_in (Ok o)
kind_is x e o h = ap kind_in (led (expr_leads x.scope x.first x.finds e) h)

-- the type of a read or call is the one that typing finds
found_type : (p q : Place) (r : Option CType) (o : Operand) → field_found p q r ≡ Ok o → or_void r ≡ o.ctype
found_type p q None o h = absurd cc
found_type p q (Some t) o h = ap (type_or t) h
  where
    type_or : CType → Result Operand Refusal → CType
    type_or t (Ok o) = o.ctype
    type_or t (Err x) = t

field_type : (x : Stands) (p : Place) (g : Name) (t : CType) (o : Operand) → field_behind x.scope p g t ≡ Ok o → or_void (field_of (one x).scope (structure_in t) g.text g.place.file) ≡ o.ctype
field_type x p g (types.StructPointer n) o h = ap or_void (field_same x.scope x.first n g.text g.place.file) ∙ found_type p g.place (field_of x.scope n g.text g.place.file) o h
field_type x p g types.Void o h = absurd cc
field_type x p g (types.Integer i) o h = absurd cc
field_type x p g types.VoidPointer o h = absurd cc
field_type x p g types.IntPointer o h = absurd cc
field_type x p g (types.FunctionPointer m) o h = absurd cc
field_type x p g (types.Function f) o h = absurd cc

element_type : (p : Place) (y z w : Refusal) (a b c : Bool) (o : Operand) → (if a then (if b then (if c then Ok (operand_value p (types.Integer integers.Int)) else Err y) else Err z) else Err w) ≡ Ok o → types.Integer integers.Int ≡ o.ctype
element_type p y z w true true true o h = ap type_in h
  where
    type_in : Result Operand Refusal → CType
    type_in (Ok o) = o.ctype
    type_in (Err x) = types.Void
element_type p y z w true true false o h = absurd cc
element_type p y z w true false c o h = absurd cc
element_type p y z w false b c o h = absurd cc

index_type : (s : Scope) (q : Place) (k o : Operand) (r : Result Operand Refusal) → indexed s q k r ≡ Ok o → types.Integer integers.Int ≡ o.ctype
index_type s q k o (Ok i) h = element_type k.place _ _ _ (is_int_pointer k.ctype) (is_index i.ctype) s.has_arrays o h
index_type s q k o (Err y) h = let z = of_indexed s q k (Err y) h in absurd cc

call_type : (p : Place) (g : Option Signature) (n : ℕ) (r : Option Refusal) (o : Operand) → call p g n r ≡ Ok o → result_of g ≡ o.ctype
call_type p None n r o h = absurd cc
call_type p (Some g) n r o h = by_count (nat_eq (length g.parameters) n) r h
  where
    type_or : Result Operand Refusal → CType
    type_or (Ok o) = o.ctype
    type_or (Err x) = g.result

    by_count : (b : Bool) (r : Option Refusal) → (if b then returned p g.result r else Err (refused rules.Typing p)) ≡ Ok o → g.result ≡ o.ctype
    by_count true None h = ap type_or h
    by_count true (Some x) h = absurd cc
    by_count false r h = absurd cc

part_type_is : (x : Stands) (k o : Operand) (y : PostfixTree) → typed_part x.scope (Ok k) y ≡ Ok o → part_type (one x) k.ctype y ≡ o.ctype
part_type_is x k o (tree.field_ q g) h = field_type x k.place g k.ctype o h
part_type_is x k o (tree.index_ q a) h = index_type x.scope q k o (typed x.scope a) h
part_type_is x k o (tree.call_ q ys) h = ap result_of (called_same x.scope x.first k.ctype) ∙ call_type k.place (called x.scope k.ctype) (count ys) (refused_argument x.scope (parameters_of (called x.scope k.ctype)) ys) o h

-- arguments for the parameters of what is called
by_parameters : (x : Stands) (l : Left) (k : Operand) → l.kind.ctype ≡ k.ctype → (ys : ExprTrees) → Alike Is (arguments (one x) (parameters_of (called x.scope k.ctype)) ys) (arguments (two x) (parameters_of (called x.scope k.ctype)) ys)
    → Alike Is (arguments (one x) (parameters_of (called (one x).scope l.kind.ctype)) ys) (arguments (two x) (parameters_of (called (two x).scope l.kind.ctype)) ys)
by_parameters x l k e ys h =
    let a : parameters_of (called x.scope k.ctype) ≡ parameters_of (called (one x).scope l.kind.ctype) = sym (ap parameters_of (called_same x.scope x.first l.kind.ctype ∙ ap (called x.scope) e)) in
    let b : parameters_of (called x.scope k.ctype) ≡ parameters_of (called (two x).scope l.kind.ctype) = sym (ap parameters_of (called_same x.scope x.second l.kind.ctype ∙ ap (called x.scope) e)) in
    subst (λ ts. Alike Is (arguments (one x) ts ys) (arguments (two x) (parameters_of (called (two x).scope l.kind.ctype)) ys)) a (subst (λ ts. Alike Is (arguments (one x) (parameters_of (called x.scope k.ctype)) ys) (arguments (two x) ts ys)) b h)

-- what stands behind an expression, by where the name `free` is
by_places : (x : Stands) (p : Place) (a : ExprTree) (ys : PostfixTrees) (f : Option Place) → free_place (one x).scope a ≡ f → free_place (two x).scope a ≡ f
    → Alike Is (behind (one x) p f a (outcome (one x) a) ys) (behind (two x) p f a (outcome (two x) a) ys) → Alike Is (outcome (one x) (tree.postfix p a ys)) (outcome (two x) (tree.postfix p a ys))
by_places x p a ys f e g h = subst (λ u. Alike Is (behind (one x) p u a (outcome (one x) a) ys) (behind (two x) p (free_place (two x).scope a) a (outcome (two x) a) ys)) (sym e) (subst (λ u. Alike Is (behind (one x) p f a (outcome (one x) a) ys) (behind (two x) p u a (outcome (two x) a) ys)) (sym g) h)

of_plain : (s : Scope) (p : Place) (r : Result Operand Refusal) (ys : PostfixTrees) (o : Operand) → typed_postfix s p None r ys ≡ Ok o → Is_ok r
of_plain s p r no_postfix o h = (o, h)
of_plain s p r (more_postfix y ys) o h = let z = of_parts s (typed_part s r y) ys h in of_part s r y z.1

-- an expression becomes the same wherever it has a type
abbrev Becomes : Stands → ExprTree → Type 0
Becomes x e = (o : Operand) → typed x.scope e ≡ Ok o → Alike Is (outcome (one x) e) (outcome (two x) e)

-- a read or call becomes the same behind an operand of the type with which it has one
abbrev Part_becomes : Stands → Place → PostfixTree → Type 0
Part_becomes x p y = (l : Left) (k o : Operand) → l.kind.ctype ≡ k.ctype → typed_part x.scope (Ok k) y ≡ Ok o → Alike Is (part (one x) p l y) (part (two x) p l y)

abbrev Parts_become : Stands → Place → PostfixTrees → Type 0
Parts_become x p ys = (l : Left) (k o : Operand) → l.kind.ctype ≡ k.ctype → typed_parts x.scope (Ok k) ys ≡ Ok o → Alike Is (parts (one x) p l ys) (parts (two x) p l ys)

abbrev Arguments_become : Stands → ExprTrees → Type 0
Arguments_become x ys = (ts : List CType) → refused_argument x.scope ts ys ≡ None → Alike Is (arguments (one x) ts ys) (arguments (two x) ts ys)

-- the only argument of a call becomes the same, where there is one alone
abbrev Only_becomes : Stands → ExprTrees → Type 0
Only_becomes x (more_expr b no_expr) = Becomes x b
Only_becomes x ys = Unit {0}

index_becomes : (x : Stands) (p q : Place) (a : ExprTree) → Becomes x a → Part_becomes x p (tree.index_ q a)
index_becomes x p q a f l k o e h = let z = of_indexed x.scope q k (typed x.scope a) h in alike_on (left_value_alike x p l) (λ v. alike_on (valued_alike x a (kinds x a z.0 z.1) (f z.0 z.1)) (λ i. alike_same _))

field_becomes : (x : Stands) (p q : Place) (g : Name) → Part_becomes x p (tree.field_ q g)
field_becomes x p q g l k o e h = alike_on (left_value_alike x p l) (λ v. alike_same _)

call_becomes : (x : Stands) (p q : Place) (ys : ExprTrees) → Arguments_become x ys → Part_becomes x p (tree.call_ q ys)
call_becomes x p q ys f l k o e h =
    let z = of_call k.place (called x.scope k.ctype) (count ys) (refused_argument x.scope (parameters_of (called x.scope k.ctype)) ys) h in
    alike_on (left_value_alike x p l) (λ v. alike_on (by_parameters x l k e ys (f (parameters_of (called x.scope k.ctype)) z)) (λ vs. called_alike x p l.kind.ctype v vs))

more_become : (x : Stands) (p : Place) (y : PostfixTree) (ys : PostfixTrees) → Part_becomes x p y → Parts_become x p ys → Parts_become x p (more_postfix y ys)
more_become x p y ys f g l k o e h =
    let z = of_parts x.scope (typed_part x.scope (Ok k) y) ys h in
    let rest : typed_parts x.scope (Ok z.0) ys ≡ Ok o = sym (ap (λ r. typed_parts x.scope r ys) z.1) ∙ h in
    alike_on (f l k z.0 e z.1) (λ m. subst (λ t. Alike Is (parts (one x) p (left m (part_type (one x) l.kind.ctype y)) ys) (parts (two x) p (left m t) ys)) (part_types x l.kind.ctype y) (g (left m (part_type (one x) l.kind.ctype y)) z.0 o (ap (λ t. part_type (one x) t y) e ∙ part_type_is x k z.0 y z.1) rest))

-- reads and calls behind an expression that is not the name `free`
behind_becomes : (x : Stands) (p : Place) (a : ExprTree) (y : PostfixTree) (ys : PostfixTrees) → Becomes x a → Part_becomes x p y → Parts_become x p ys → (k : Operand) → typed x.scope a ≡ Ok k → (o : Operand) → typed_parts x.scope (typed_part x.scope (Ok k) y) ys ≡ Ok o
    → Alike Is (outcome (one x) a ⨾ (λ m. part (one x) p (first (one x) a m) y ⨾ (λ r. parts (one x) p (left r (part_type (one x) (kind (one x) a).ctype y)) ys))) (outcome (two x) a ⨾ (λ m. part (two x) p (first (two x) a m) y ⨾ (λ r. parts (two x) p (left r (part_type (two x) (kind (two x) a).ctype y)) ys)))
behind_becomes x p a y ys f g t k e o h =
    let z = of_parts x.scope (typed_part x.scope (Ok k) y) ys h in
    let rest : typed_parts x.scope (Ok z.0) ys ≡ Ok o = sym (ap (λ r. typed_parts x.scope r ys) z.1) ∙ h in
    alike_on (f k e) (λ m. subst (λ (d : Kind). Alike Is (part (one x) p (first (one x) a m) y ⨾ (λ r. parts (one x) p (left r (part_type (one x) (kind (one x) a).ctype y)) ys)) (part (two x) p (record { outcome = m; kind = d }) y ⨾ (λ r. parts (two x) p (left r (part_type (two x) d.ctype y)) ys))) (kinds x a k e)
    (alike_on (g (first (one x) a m) k z.0 (ap (λ (d : Kind). d.ctype) (kind_is x a k e)) z.1) (λ r. subst (λ t. Alike Is (parts (one x) p (left r (part_type (one x) (kind (one x) a).ctype y)) ys) (parts (two x) p (left r t) ys)) (part_types x (kind (one x) a).ctype y) (t (left r (part_type (one x) (kind (one x) a).ctype y)) z.0 o (ap (λ (d : Kind). part_type (one x) d.ctype y) (kind_is x a k e) ∙ part_type_is x k z.0 y z.1) rest))))

-- what stands behind the name `free`, or another expression
abbrev Behind_becomes : Stands → Place → Option Place → ExprTree → PostfixTrees → Type 0
Behind_becomes x p f a ys = (o : Operand) → typed_postfix x.scope p f (typed x.scope a) ys ≡ Ok o → Alike Is (behind (one x) p f a (outcome (one x) a) ys) (behind (two x) p f a (outcome (two x) a) ys)

plain_becomes : (x : Stands) (p : Place) (a : ExprTree) (y : PostfixTree) (ys : PostfixTrees) → Becomes x a → Part_becomes x p y → Parts_become x p ys → Behind_becomes x p None a (more_postfix y ys)
plain_becomes x p a y ys f g t o h =
    let z = of_plain x.scope p (typed x.scope a) (more_postfix y ys) o h in
    behind_becomes x p a y ys f g t z.0 z.1 o (sym (ap (λ r. typed_parts x.scope (typed_part x.scope r y) ys) z.1) ∙ h)

free_becomes : (x : Stands) (p q d : Place) (a : ExprTree) (zs : ExprTrees) (ys : PostfixTrees) → Only_becomes x zs → Behind_becomes x p (Some q) a (more_postfix (tree.call_ d zs) ys)
free_becomes x p q d a no_expr ys f o h = let z = of_parts x.scope (typed_free x.scope p q no_expr) ys h in absurd (two_refused _ _ x.scope.has_stdlib z.1)
free_becomes x p q d a (more_expr b no_expr) ys f o h =
    let z = of_parts x.scope (typed_free x.scope p q (more_expr b no_expr)) ys h in
    let k = of_freed x.scope p q x.scope.has_stdlib (typed x.scope b) z.1 in
    freed_alike x q b (kinds x b k.0 k.1) (f k.0 k.1)
free_becomes x p q d a (more_expr b (more_expr c cs)) ys f o h = let z = of_parts x.scope (typed_free x.scope p q (more_expr b (more_expr c cs))) ys h in absurd (two_refused _ _ x.scope.has_stdlib z.1)

field_free_becomes : (x : Stands) (p q d : Place) (a : ExprTree) (g : Name) (ys : PostfixTrees) → Becomes x a → Part_becomes x p (tree.field_ d g) → Parts_become x p ys → Behind_becomes x p (Some q) a (more_postfix (tree.field_ d g) ys)
field_free_becomes x p q d a g ys f u t o h =
    let z = of_parts x.scope (typed_part x.scope (typed x.scope a) (tree.field_ d g)) ys h in
    let k = of_part x.scope (typed x.scope a) (tree.field_ d g) z.1 in
    behind_becomes x p a (tree.field_ d g) ys f u t k.0 k.1 o (sym (ap (λ r. typed_parts x.scope (typed_part x.scope r (tree.field_ d g)) ys) k.1) ∙ h)

index_free_becomes : (x : Stands) (p q d : Place) (a b : ExprTree) (ys : PostfixTrees) → Becomes x a → Part_becomes x p (tree.index_ d b) → Parts_become x p ys → Behind_becomes x p (Some q) a (more_postfix (tree.index_ d b) ys)
index_free_becomes x p q d a b ys f u t o h =
    let z = of_parts x.scope (typed_part x.scope (typed x.scope a) (tree.index_ d b)) ys h in
    let k = of_part x.scope (typed x.scope a) (tree.index_ d b) z.1 in
    behind_becomes x p a (tree.index_ d b) ys f u t k.0 k.1 o (sym (ap (λ r. typed_parts x.scope (typed_part x.scope r (tree.index_ d b)) ys) k.1) ∙ h)

none_becomes : (x : Stands) (p : Place) (f : Option Place) (a : ExprTree) → Becomes x a → Behind_becomes x p f a no_postfix
none_becomes x p None a f o h = alike_on (f o h) (λ m. alike_same m)
none_becomes x p (Some q) a f o h = alike_on (f o h) (λ m. alike_same m)

-- reads and calls behind an expression, whether it is the name `free` or not
postfix_becomes : (x : Stands) (p : Place) (a : ExprTree) (ys : PostfixTrees) → Behind_becomes x p None a ys → ((q : Place) → Behind_becomes x p (Some q) a ys) → Becomes x (tree.postfix p a ys)
postfix_becomes x p a ys f g o h = by (free_place x.scope a) refl
  where
    by : (w : Option Place) → free_place x.scope a ≡ w → Alike Is (outcome (one x) (tree.postfix p a ys)) (outcome (two x) (tree.postfix p a ys))
    by None e =
        let k : typed_postfix x.scope p None (typed x.scope a) ys ≡ Ok o = sym (ap (λ w. typed_postfix x.scope p w (typed x.scope a) ys) e) ∙ h in
        let z = of_plain x.scope p (typed x.scope a) ys o k in
        let places = free_places x a z.0 (λ n. z.1) in
        by_places x p a ys None (places.0 ∙ e) (places.1 ∙ e) (f o k)
    by (Some q) e =
        let k : typed_postfix x.scope p (Some q) (typed x.scope a) ys ≡ Ok o = sym (ap (λ w. typed_postfix x.scope p w (typed x.scope a) ys) e) ∙ h in
        let places = free_places x a o (λ n. let clash : None ≡ Some q = sym n ∙ e in absurd cc) in
        by_places x p a ys (Some q) (places.0 ∙ e) (places.1 ∙ e) (g q o k)

-- operators
link_becomes : (x : Stands) (p q : Place) (u : BinaryOperator) (b : ExprTree) (ys : LinkTrees) → Becomes x b → ((l : Left) (k o : Operand) → typed_links x.scope (Ok k) ys ≡ Ok o → Alike Is (links (one x) p l ys) (links (two x) p l ys))
    → (l : Left) (k o : Operand) → typed_links x.scope (Ok k) (more_link (tree.link q u b) ys) ≡ Ok o → Alike Is (links (one x) p l (more_link (tree.link q u b) ys)) (links (two x) p l (more_link (tree.link q u b) ys))
link_becomes x p q u b ys f g l k o h =
    let z = of_links x.scope (typed_link x.scope (Ok k) (tree.link q u b)) ys h in
    let y = of_linked x.scope u k (typed x.scope b) z.1 in
    let rest : typed_links x.scope (Ok z.0) ys ≡ Ok o = sym (ap (λ r. typed_links x.scope r ys) z.1) ∙ h in
    alike_on (joined_alike x p l q u b (kinds x b y.0 y.1) (f y.0 y.1))
    (λ m. subst (λ (d : Kind). Alike Is (links (one x) p (left m (link_type (one x) l.kind.ctype (tree.link q u b))) ys) (links (two x) p (left m (result_type u l.kind.ctype d.ctype)) ys)) (kinds x b y.0 y.1)
    (g (left m (link_type (one x) l.kind.ctype (tree.link q u b))) z.0 o rest))

chain_becomes : (x : Stands) (p : Place) (v : _) (a : ExprTree) (ys : LinkTrees) → Becomes x a → ((l : Left) (k o : Operand) → typed_links x.scope (Ok k) ys ≡ Ok o → Alike Is (links (one x) p l ys) (links (two x) p l ys)) → Becomes x (tree.chain p v a ys)
chain_becomes x p v a ys f g o h =
    let k = of_links x.scope (typed x.scope a) ys h in
    let rest : typed_links x.scope (Ok k.0) ys ≡ Ok o = sym (ap (λ r. typed_links x.scope r ys) k.1) ∙ h in
    alike_on (f k.0 k.1) (λ m. subst (λ (d : Kind). Alike Is (links (one x) p (first (one x) a m) ys) (links (two x) p (record { outcome = m; kind = d }) ys)) (kinds x a k.0 k.1) (g (first (one x) a m) k.0 o rest))

cast_becomes : (x : Stands) (p : Place) (w : WrittenType) (a : ExprTree) → Becomes x a → Becomes x (tree.cast p w a)
cast_becomes x p w a f o h =
    let k = of_cast p (written_type x.scope w) (typed x.scope a) h in
    subst (λ (d : Kind). Alike Is (outcome (one x) (tree.cast p w a)) (passed (two x) d.ctype a (outcome (two x) a) ⨾ (λ v. gives (outcomes.is v)))) (kinds x (tree.cast p w a) o h)
    (alike_on (passed_alike x (kind (one x) (tree.cast p w a)).ctype a (kinds x a k.0 k.1) (f k.0 k.1)) (λ v. alike_same _))

conditional_becomes : (x : Stands) (p : Place) (a b d : ExprTree) → Becomes x a → Becomes x b → Becomes x d → Becomes x (tree.conditional p a b d)
conditional_becomes x p a b d f g u o h =
    let k = of_conditional x.scope p (used (typed x.scope a)) (used (typed x.scope b)) (used (typed x.scope d)) h in
    let ka = of_used (typed x.scope a) k.first.1 in
    let kb = of_used (typed x.scope b) k.second.1 in
    let kd = of_used (typed x.scope d) k.third.1 in
    let t = (kind (one x) (tree.conditional p a b d)).ctype in
    subst (λ (z : Kind). Alike Is (outcome (one x) (tree.conditional p a b d)) (tested (two x) a (outcome (two x) a) ⨾ (λ y. choice (two x) p z.ctype y (passed (two x) z.ctype b (outcome (two x) b)) (passed (two x) z.ctype d (outcome (two x) d))))) (kinds x (tree.conditional p a b d) o h)
    (alike_on (tested_alike x a (kinds x a ka.0 ka.1) (f ka.0 ka.1))
    (λ y. choice_alike x p t y (passed_alike x t b (kinds x b kb.0 kb.1) (g kb.0 kb.1)) (passed_alike x t d (kinds x d kd.0 kd.1) (u kd.0 kd.1))))

argument_becomes : (x : Stands) (a : ExprTree) (ys : ExprTrees) → Becomes x a → Arguments_become x ys → Arguments_become x (more_expr a ys)
argument_becomes x a ys f g [] h = alike_same _
argument_becomes x a ys f g (t ∷ ts) h =
    let z = of_first (assigned_refusal x.scope t (typed x.scope a)) (refused_argument x.scope ts ys) h in
    let k = of_assigned x.scope t (typed x.scope a) z.0 in
    alike_on (passed_alike x t a (kinds x a k.0 k.1) (f k.0 k.1)) (λ v. alike_on (g ts z.1) (λ vs. alike_same _))

no_argument_becomes : (x : Stands) → Arguments_become x no_expr
no_argument_becomes x [] h = alike_same _
no_argument_becomes x (t ∷ ts) h = alike_same _

mutual
  -- an expression
  pub outcome_alike : (x : Stands) (e : ExprTree) → Becomes x e
  outcome_alike x (tree.number p n i) o h = alike_same _
  outcome_alike x (tree.character p b) o h = alike_same _
  outcome_alike x (tree.true_ p) o h = alike_same _
  outcome_alike x (tree.false_ p) o h = alike_same _
  outcome_alike x (tree.name_ p y) o h = alike_gives _ _ (ap outcomes.is (names_same x p y o h))
  outcome_alike x (tree.parenthesized p a) o h = let k = of_enclosed p (typed x.scope a) h in outcome_alike x a k.0 k.1
  outcome_alike x (tree.malloc p g) o h = alike_gives _ _ (ap (λ n. outcomes.awaits (outcomes.allocate n)) (tags x g))
  outcome_alike x (tree.malloc_ints p a q) o h = let k = of_ints p _ (x.scope.has_stdlib && x.scope.has_arrays) (typed x.scope a) h in alike_on (valued_alike x a (kinds x a k.0 k.1) (outcome_alike x a k.0 k.1)) (λ v. alike_same _)
  outcome_alike x (tree.postfix p a no_postfix) o h = postfix_becomes x p a no_postfix (none_becomes x p None a (outcome_alike x a)) (λ q. none_becomes x p (Some q) a (outcome_alike x a)) o h
  outcome_alike x (tree.postfix p a (more_postfix (tree.field_ d g) ys)) o h = postfix_becomes x p a (more_postfix (tree.field_ d g) ys) (plain_becomes x p a (tree.field_ d g) ys (outcome_alike x a) (field_becomes x p d g) (parts_alike x p ys)) (λ q. field_free_becomes x p q d a g ys (outcome_alike x a) (field_becomes x p d g) (parts_alike x p ys)) o h
  outcome_alike x (tree.postfix p a (more_postfix (tree.index_ d b) ys)) o h = postfix_becomes x p a (more_postfix (tree.index_ d b) ys) (plain_becomes x p a (tree.index_ d b) ys (outcome_alike x a) (index_becomes x p d b (outcome_alike x b)) (parts_alike x p ys)) (λ q. index_free_becomes x p q d a b ys (outcome_alike x a) (index_becomes x p d b (outcome_alike x b)) (parts_alike x p ys)) o h
  outcome_alike x (tree.postfix p a (more_postfix (tree.call_ d zs) ys)) o h = postfix_becomes x p a (more_postfix (tree.call_ d zs) ys) (plain_becomes x p a (tree.call_ d zs) ys (outcome_alike x a) (call_becomes x p d zs (arguments_alike x zs)) (parts_alike x p ys)) (λ q. free_becomes x p q d a zs ys (only_alike x zs)) o h
  outcome_alike x (tree.unary p u a) o h = let k = of_prefixed p u (typed x.scope a) h in prefixed_alike x p u a (kinds x a k.0 k.1) (outcome_alike x a k.0 k.1)
  outcome_alike x (tree.cast p w a) o h = cast_becomes x p w a (outcome_alike x a) o h
  outcome_alike x (tree.chain p v a ys) o h = chain_becomes x p v a ys (outcome_alike x a) (links_alike x p ys) o h
  outcome_alike x (tree.conditional p a b d) o h = conditional_becomes x p a b d (outcome_alike x a) (outcome_alike x b) (outcome_alike x d) o h

  links_alike : (x : Stands) (p : Place) (ys : LinkTrees) (l : Left) (k o : Operand) → typed_links x.scope (Ok k) ys ≡ Ok o → Alike Is (links (one x) p l ys) (links (two x) p l ys)
  links_alike x p no_link l k o h = alike_same _
  links_alike x p (more_link (tree.link q u b) ys) l k o h = link_becomes x p q u b ys (outcome_alike x b) (links_alike x p ys) l k o h

  parts_alike : (x : Stands) (p : Place) (ys : PostfixTrees) → Parts_become x p ys
  parts_alike x p no_postfix l k o e h = alike_same _
  parts_alike x p (more_postfix (tree.field_ d g) ys) l k o e h = more_become x p (tree.field_ d g) ys (field_becomes x p d g) (parts_alike x p ys) l k o e h
  parts_alike x p (more_postfix (tree.index_ d b) ys) l k o e h = more_become x p (tree.index_ d b) ys (index_becomes x p d b (outcome_alike x b)) (parts_alike x p ys) l k o e h
  parts_alike x p (more_postfix (tree.call_ d zs) ys) l k o e h = more_become x p (tree.call_ d zs) ys (call_becomes x p d zs (arguments_alike x zs)) (parts_alike x p ys) l k o e h

  arguments_alike : (x : Stands) (ys : ExprTrees) → Arguments_become x ys
  arguments_alike x no_expr ts h = no_argument_becomes x ts h
  arguments_alike x (more_expr a ys) ts h = argument_becomes x a ys (outcome_alike x a) (arguments_alike x ys) ts h

  only_alike : (x : Stands) (ys : ExprTrees) → Only_becomes x ys
  only_alike x no_expr = tt
  only_alike x (more_expr b no_expr) = outcome_alike x b
  only_alike x (more_expr b (more_expr c cs)) = tt
