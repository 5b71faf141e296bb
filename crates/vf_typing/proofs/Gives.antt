-- Where an expression has a type, typing answers with it.
use Rattle.std.proofs.Common.{◌≡◌, Bool, true, false, not, ◌&&◌, if◌then◌else◌, List, ◌∷◌, length, Option, Some, None, Result, Ok, Err, refl, ap, ◌∙◌, arith}
use Rattle.std.proofs.lemmas.Bool.{eq-eqb}
use Rattle.std.specs.Option.{option_or}
use Rattle.vf_base.specs.declared.int_type.IntType.TheVariants as integers
use Rattle.vf_base.specs.declared.place.Place.{Place}
use Rattle.vf_base.specs.declared.refusal.Refusal.{Refusal}
use Rattle.vf_base.specs.declared.rule.Rule.TheVariants as rules
use Rattle.vf_declared.specs.declared.ctype.CType.{CType}
use Rattle.vf_declared.specs.declared.ctype.CType.TheVariants as types
use Rattle.vf_declared.specs.declared.declaration.Signature.{Signature}
use Rattle.vf_declared.specs.declared.scope.Scope.{Scope}
use Rattle.vf_declared.specs.Scopes.{tag_of}
use Rattle.vf_syntax.specs.declared.operator.Level.{Level}
use Rattle.vf_syntax.specs.declared.written.CType.{CType as WrittenType}
use Rattle.vf_base.specs.declared.int_type.IntType.{IntType}
use Rattle.vf_ctypes.specs.Types.{promoted}
use Rattle.vf_syntax.specs.declared.operator.BinaryOperator.{BinaryOperator}
use Rattle.vf_syntax.specs.declared.operator.UnaryOperator.TheVariants as unaries
use Rattle.vf_syntax.specs.ExprTree.{ExprTree, ExprTrees, no_expr, more_expr, LinkTrees, more_link, PostfixTree, PostfixTrees, no_postfix, more_postfix}
use Rattle.vf_syntax.specs.ExprTree as tree
use Rattle.vf_typing.specs.declared.operand.Operand.{Operand}
use Rattle.vf_typing.specs.Refusals.{refused}
use Rattle.vf_typing.specs.Types.{choice_type, is_index, is_void, result_type}
use Rattle.vf_typing.specs.Operands.{operand, value, if_typed, used, passes, assigned_refusal, takes_left, takes_right, joined, linked, prefixed, casts, cast, comparable, conditional, enclosed}
use Rattle.vf_typing.specs.Names.{local_type, declared_type, written_type}
use Rattle.vf_typing.specs.Parts.{struct_memory, int_memory, freed, field_found, indexed, called, count, call, parameters_of, returned, free_place}
use Rattle.vf_typing.specs.Typed.{typed, named, typed_links, typed_part, typed_parts, typed_postfix, refused_argument}
use Rattle.vf_typing.specs.HasType.{is_null, links_null, parts_null, calls_free, HasType, LinksHaveType, PartHasType, PartsHaveType, ArePassed, IsFreed}
use Rattle.vf_typing.specs.HasType as rule

-- typing answers with a type, and tells whether the expression is a `0`
pub data Gives (s : Scope) (e : ExprTree) (t : CType) : Type 0 where
  gives_at : (q : Place) → typed s e ≡ Ok (operand q t (is_null e)) → Gives s e t

-- a value that is used
used_gives : (r : Result Operand Refusal) (q : Place) (t : CType) (z : Bool) → r ≡ Ok (operand q t z) → is_void t ≡ false → used r ≡ Ok (operand q t z)
used_gives r q t z h v = ap used h ∙ ap (λ b. if b then Err (refused rules.Typing q) else Ok (operand q t z)) v

-- a link
link_gives : (s : Scope) (q r : Place) (o : BinaryOperator) (z y : Bool) (t u : CType) (x : Result Operand Refusal) → takes_left o t ≡ true → x ≡ Ok (operand r u y) → takes_right s o z t y u ≡ true → linked s o (operand q t z) x ≡ Ok (value q (result_type o t u))
link_gives s q r o z y t u x hl h hr =
    let l = operand q t z in
    let v = operand r u y in
    ap (linked s o l) h ∙ ap (λ b. if b then joined s o l v else Err (refused rules.Typing q)) hl ∙ ap (λ b. if_typed b r (value q (result_type o t u))) hr

-- reads and calls that are no call of `free`
pub parts_of : (s : Scope) (p : Place) (o : Option Place) (r : Result Operand Refusal) (xs : PostfixTrees) → calls_free o xs ≡ false → typed_postfix s p o r xs ≡ typed_parts s r xs
parts_of s p o r no_postfix h = refl
parts_of s p None r (more_postfix (tree.field_ c n) xs) h = refl
parts_of s p None r (more_postfix (tree.index_ c a) xs) h = refl
parts_of s p None r (more_postfix (tree.call_ c ys) xs) h = refl
parts_of s p (Some q) r (more_postfix (tree.field_ c n) xs) h = refl
parts_of s p (Some q) r (more_postfix (tree.index_ c a) xs) h = refl
parts_of s p (Some q) r (more_postfix (tree.call_ c ys) xs) h = absurd cc

-- what `free` takes
freed_gives : {s : Scope} (p q : Place) {t : CType} {z : Bool} (r : Result Operand Refusal) → r ≡ Ok (operand q t z) → IsFreed s t → freed s p r ≡ Ok (value p types.Void)
freed_gives {s} p q r h rule.ints = ap (freed s p) h
freed_gives {s} p q r h (rule.struct_ f) = ap (freed s p) h ∙ ap (λ b. if_typed b p (value p types.Void)) f

-- in parentheses
paren_gives : {s : Scope} {a : ExprTree} {t : CType} (p : Place) → Gives s a t → Gives s (tree.parenthesized p a) t
paren_gives p (gives_at q h) = gives_at p (ap (enclosed p) h)

-- memory for ints
ints_give : {s : Scope} {a : ExprTree} (p b : Place) → s.has_stdlib ≡ true → s.has_arrays ≡ true → Gives s a (types.Integer integers.Int) → Gives s (tree.malloc_ints p a b) types.IntPointer
ints_give {s} {a} p b hs ha (gives_at q h) = gives_at p ((λ i. if hs i && ha i then int_memory p (typed s a) else Err (refused rules.Name p)) ∙ ap (int_memory p) h)

-- a negative
negative_gives : {s : Scope} {a : ExprTree} {i : IntType} (p : Place) → Gives s a (types.Integer i) → Gives s (tree.unary p unaries.Minus a) (types.Integer (promoted i))
negative_gives p (gives_at q h) = gives_at p (ap (prefixed p unaries.Minus) h)

-- a negation
not_gives : {s : Scope} {a : ExprTree} {t : CType} (p : Place) → Gives s a t → is_void t ≡ false → Gives s (tree.unary p unaries.Not a) (types.Integer integers.Bool)
not_gives p (gives_at q h) v = gives_at p (ap (prefixed p unaries.Not) h ∙ ap (λ b. if_typed (not b) q (value p (types.Integer integers.Bool))) v)

-- a cast
cast_gives : {s : Scope} {w : WrittenType} {a : ExprTree} {t u : CType} (p : Place) → written_type s w ≡ Ok t → Gives s a u → casts t (is_null a) u ≡ true → Gives s (tree.cast p w a) t
cast_gives {s} {w} {a} {t} p k (gives_at q h) c = gives_at p ((λ i. cast p (k i) (h i)) ∙ ap (λ b. if_typed b q (value p t)) c)

-- a choice
conditional_gives : {s : Scope} {a b c : ExprTree} {t u v : CType} (p : Place) → Gives s a t → is_void t ≡ false → Gives s b u → is_void u ≡ false → Gives s c v → is_void v ≡ false → comparable s (is_null b) u (is_null c) v ≡ true → Gives s (tree.conditional p a b c) (choice_type u v)
conditional_gives {s} {a} {b} {c} {t} {u} {v} p (gives_at q h) ha (gives_at r k) hb (gives_at x l) hc agree =
    let test = used_gives (typed s a) q t (is_null a) h ha in
    let yes = used_gives (typed s b) r u (is_null b) k hb in
    let no = used_gives (typed s c) x v (is_null c) l hc in
    gives_at p ((λ i. conditional s p (test i) (yes i) (no i)) ∙ ap (λ d. if_typed d x (value p (choice_type u v))) agree)

-- operands behind one
data LinksGive (s : Scope) (z : Bool) (t : CType) (xs : LinkTrees) (u : CType) : Type 0 where
  links_at : ((q : Place) → typed_links s (Ok (operand q t z)) xs ≡ Ok (operand q u (links_null z xs))) → LinksGive s z t xs u

-- a chain
chain_gives : {s : Scope} {a : ExprTree} {t u : CType} {xs : LinkTrees} (p : Place) (v : Level) → Gives s a t → LinksGive s (is_null a) t xs u → Gives s (tree.chain p v a xs) u
chain_gives {s} {a} {t} {u} {xs} p v (gives_at q h) (links_at k) = gives_at q (ap (λ r. typed_links s r xs) h ∙ k q)

-- one more operand
more_give : {s : Scope} {z : Bool} {t u v : CType} {a : ExprTree} {xs : LinkTrees} (p : Place) (o : BinaryOperator) → takes_left o t ≡ true → Gives s a u → takes_right s o z t (is_null a) u ≡ true → LinksGive s false (result_type o t u) xs v → LinksGive s z t (more_link (tree.link p o a) xs) v
more_give {s} {z} {t} {u} {v} {a} {xs} p o hl (gives_at r h) hr (links_at k) = links_at (λ q. ap (λ x. typed_links s x xs) (link_gives s q r o z (is_null a) t u (typed s a) hl h hr) ∙ k q)

-- a read or call behind an operand
data PartGives (s : Scope) (t : CType) (x : PostfixTree) (u : CType) : Type 0 where
  part_at : ((q : Place) (z : Bool) → typed_part s (Ok (operand q t z)) x ≡ Ok (value q u)) → PartGives s t x u

-- reads and calls behind an operand
data PartsGive (s : Scope) (t : CType) (xs : PostfixTrees) (u : CType) : Type 0 where
  parts_at : ((q : Place) (z : Bool) → typed_parts s (Ok (operand q t z)) xs ≡ Ok (operand q u (parts_null z xs))) → PartsGive s t xs u

-- an element
element_gives : {s : Scope} {a : ExprTree} {u : CType} (c : Place) → Gives s a u → is_index u ≡ true → s.has_arrays ≡ true → PartGives s types.IntPointer (tree.index_ c a) (types.Integer integers.Int)
element_gives {s} {a} {u} c (gives_at r h) hi ha = part_at (λ q z. ap (indexed s c (operand q types.IntPointer z)) h ∙ (λ j. if hi j then (if ha j then Ok (value q (types.Integer integers.Int)) else Err (refused rules.Name c)) else Err (refused rules.Typing r)))

-- arguments for parameters
data ArgumentsGive (s : Scope) (ts : List CType) (xs : ExprTrees) : Type 0 where
  arguments_at : length ts ≡ count xs → refused_argument s ts xs ≡ None → ArgumentsGive s ts xs

-- one more argument
argument_gives : {s : Scope} {t u : CType} {ts : List CType} {a : ExprTree} {xs : ExprTrees} → Gives s a u → passes s t (is_null a) u ≡ true → ArgumentsGive s ts xs → ArgumentsGive s (t ∷ ts) (more_expr a xs)
argument_gives {s} {t} {u} {ts} {a} {xs} (gives_at q h) hp (arguments_at n k) =
    let taken = ap (assigned_refusal s t) h ∙ ap (λ b. if b then None else Some (refused rules.Typing q)) hp in
    arguments_at (omega (arith, n)) (ap (λ r. option_or r (refused_argument s ts xs)) taken ∙ k)

-- a call
call_gives : {s : Scope} {t : CType} {g : Signature} {ys : ExprTrees} (c : Place) → called s t ≡ Some g → ArgumentsGive s g.parameters ys → PartGives s t (tree.call_ c ys) g.result
call_gives {s} {t} {g} {ys} c h (arguments_at n k) = part_at (λ q z.
    ap (λ d. call q d (count ys) (refused_argument s (parameters_of d) ys)) h
    ∙ ap (call q (Some g) (count ys)) k
    ∙ ap (λ b. if b then returned q g.result None else Err (refused rules.Typing q)) (eq-eqb (length g.parameters) (count ys) n))

-- one more read or call
part_gives : {s : Scope} {t u v : CType} {x : PostfixTree} {xs : PostfixTrees} → PartGives s t x u → PartsGive s u xs v → PartsGive s t (more_postfix x xs) v
part_gives {s} {t} {u} {v} {x} {xs} (part_at h) (parts_at k) = parts_at (λ q z. ap (λ r. typed_parts s r xs) (h q z) ∙ k q false)

-- reads and calls behind an expression
postfix_gives : {s : Scope} {a : ExprTree} {t u : CType} {xs : PostfixTrees} (p : Place) → calls_free (free_place s a) xs ≡ false → Gives s a t → PartsGive s t xs u → Gives s (tree.postfix p a xs) u
postfix_gives {s} {a} {t} {u} {xs} p n (gives_at q h) (parts_at k) = gives_at q (parts_of s p (free_place s a) (typed s a) xs n ∙ ap (λ r. typed_parts s r xs) h ∙ k q (is_null a))

-- a call of `free`, and reads and calls behind it
free_gives : {s : Scope} {a b : ExprTree} {t u : CType} {xs : PostfixTrees} (p q c : Place) → free_place s a ≡ Some q → s.has_stdlib ≡ true → Gives s b t → IsFreed s t → PartsGive s types.Void xs u → Gives s (tree.postfix p a (more_postfix (tree.call_ c (more_expr b no_expr)) xs)) u
free_gives {s} {a} {b} {t} {u} {xs} p q c hf hs (gives_at r h) f (parts_at k) =
    let started = ap (λ o. typed_postfix s p o (typed s a) (more_postfix (tree.call_ c (more_expr b no_expr)) xs)) hf in
    let there = ap (λ d. if d then freed s p (typed s b) else Err (refused rules.Name q)) hs in
    gives_at p (started ∙ ap (λ x. typed_parts s x xs) (there ∙ freed_gives p r (typed s b) h f) ∙ k p false)

mutual
  -- an expression
  pub gives : {s : Scope} {e : ExprTree} {t : CType} → HasType s e t → Gives s e t
  gives (rule.number {p}) = gives_at p refl
  gives (rule.character {p}) = gives_at p refl
  gives (rule.truth {p}) = gives_at p refl
  gives (rule.falsehood {p}) = gives_at p refl
  gives {s} (rule.local {p} {x} h) = gives_at p (ap (λ l. named p (local_type s p x l)) h)
  gives {s} (rule.function {p} {x} h d) = gives_at p (ap (λ l. named p (local_type s p x l)) h ∙ ap (λ m. named p (declared_type s p x m)) d)
  gives (rule.parenthesized {p} h) = paren_gives p (gives h)
  gives {s} (rule.memory {p} {g} {n} hs ht hf) = gives_at p (ap (λ b. if b then struct_memory s p g.place (tag_of s g.text g.place.file) else Err (refused rules.Name p)) hs ∙ ap (struct_memory s p g.place) ht ∙ ap (λ b. if_typed b p (value p (types.StructPointer n))) hf)
  gives (rule.int_memory {p} {q} hs ha h) = ints_give p q hs ha (gives h)
  gives (rule.freed {p} {q} {c} hf hs h f k) = free_gives p q c hf hs (gives h) f (parts_give k)
  gives (rule.postfix {p} n h k) = postfix_gives p n (gives h) (parts_give k)
  gives (rule.negative {p} h) = negative_gives p (gives h)
  gives (rule.not_ {p} h v) = not_gives p (gives h) v
  gives (rule.cast {p} w h c) = cast_gives p w (gives h) c
  gives (rule.chain {p} {v} h k) = chain_gives p v (gives h) (links_give k)
  gives (rule.conditional {p} h ha k hb l hc agree) = conditional_gives p (gives h) ha (gives k) hb (gives l) hc agree

  -- operands behind one
  links_give : {s : Scope} {z : Bool} {t u : CType} {xs : LinkTrees} → LinksHaveType s z t xs u → LinksGive s z t xs u
  links_give rule.no_links = links_at (λ q. refl)
  links_give (rule.more_links {p} {o} hl h hr k) = more_give p o hl (gives h) hr (links_give k)

  -- a read or call behind an operand
  one_gives : {s : Scope} {t u : CType} {x : PostfixTree} → PartHasType s t x u → PartGives s t x u
  one_gives (rule.field {q} {g} h) = part_at (λ p z. ap (field_found p g.place) h)
  one_gives (rule.element {q} h i a) = element_gives q (gives h) i a
  one_gives (rule.call {q} h k) = call_gives q h (arguments_give k)

  -- reads and calls behind an operand
  parts_give : {s : Scope} {t u : CType} {xs : PostfixTrees} → PartsHaveType s t xs u → PartsGive s t xs u
  parts_give rule.no_parts = parts_at (λ q z. refl)
  parts_give (rule.more_parts h k) = part_gives (one_gives h) (parts_give k)

  -- arguments for parameters
  arguments_give : {s : Scope} {ts : List CType} {xs : ExprTrees} → ArePassed s ts xs → ArgumentsGive s ts xs
  arguments_give rule.none_passed = arguments_at refl refl
  arguments_give (rule.one_passed h p k) = argument_gives (gives h) p (arguments_give k)
