-- Which types expressions of C have, by one rule for each form.
use Rattle.std.specs.Prelude.{◌≡◌, ℕ, Bool, true, false, nat_eq, List, [], ◌∷◌, Option, Some, None, Ok}
use Rattle.vf_base.specs.declared.int_type.IntType.{IntType}
use Rattle.vf_base.specs.declared.int_type.IntType.TheVariants as integers
use Rattle.vf_base.specs.declared.place.Place.{Place}
use Rattle.vf_ctypes.specs.Types.{promoted}
use Rattle.vf_declared.specs.declared.ctype.CType.{CType}
use Rattle.vf_declared.specs.declared.ctype.CType.TheVariants as types
use Rattle.vf_declared.specs.declared.declaration.Meaning.TheVariants as meanings
use Rattle.vf_declared.specs.declared.declaration.Signature.{Signature}
use Rattle.vf_declared.specs.declared.locals.Local.TheVariants as locals
use Rattle.vf_declared.specs.declared.scope.Scope.{Scope}
use Rattle.vf_declared.specs.Scopes.{declaration_of, field_of, has_fields, local_of, tag_of}
use Rattle.vf_syntax.specs.declared.operator.BinaryOperator.{BinaryOperator}
use Rattle.vf_syntax.specs.declared.operator.Level.{Level}
use Rattle.vf_syntax.specs.declared.operator.UnaryOperator.TheVariants as unaries
use Rattle.vf_syntax.specs.declared.written.CType.{CType as WrittenType}
use Rattle.vf_syntax.specs.declared.written.Name.{Name}
use Rattle.vf_syntax.specs.ExprTree.{ExprTree, ExprTrees, no_expr, more_expr, LinkTrees, no_link, more_link, PostfixTree, PostfixTrees, no_postfix, more_postfix}
use Rattle.vf_syntax.specs.ExprTree as tree
use Rattle.vf_typing.specs.Types.{choice_type, is_index, is_void, result_type}
use Rattle.vf_typing.specs.Operands.{casts, comparable, passes, takes_left, takes_right}
use Rattle.vf_typing.specs.Names.{written_type}
use Rattle.vf_typing.specs.Parts.{called, free_place}

-- operands behind one that is or is not a `0` are a `0` where there are none
abbrev pub links_null : Bool → LinkTrees → Bool
links_null z no_link = z
links_null z (more_link x xs) = links_null false xs

-- reads and calls behind an operand that is or is not a `0` are a `0` where there are none
abbrev pub parts_null : Bool → PostfixTrees → Bool
parts_null z no_postfix = z
parts_null z (more_postfix x xs) = parts_null false xs

-- an expression is a `0`, in parentheses or not, which is the null pointer where a pointer is wanted
abbrev pub is_null : ExprTree → Bool
is_null (tree.number p n i) = nat_eq n 0
is_null (tree.parenthesized p a) = is_null a
is_null (tree.chain p v a xs) = links_null (is_null a) xs
is_null (tree.postfix p a xs) = parts_null (is_null a) xs
is_null e = false

-- reads and calls begin with a call
abbrev pub begins_with_call : PostfixTrees → Bool
begins_with_call (more_postfix (tree.call_ q ys) xs) = true
begins_with_call xs = false

-- an expression and what stands behind it are a call of `free`
abbrev pub calls_free : Option Place → PostfixTrees → Bool
calls_free None xs = false
calls_free (Some q) xs = begins_with_call xs

-- `free` takes pointers of a type
pub data IsFreed (s : Scope) : CType → Type 0 where
  ints : IsFreed s types.IntPointer
  struct_ : {n : ℕ} → has_fields s n ≡ true → IsFreed s (types.StructPointer n)

mutual
  -- an expression has a type
  pub data HasType (s : Scope) : ExprTree → CType → Type 0 where
    number : {p : Place} {n : ℕ} {i : IntType} → HasType s (tree.number p n i) (types.Integer i)
    character : {p : Place} {c : ℕ} → HasType s (tree.character p c) (types.Integer integers.Int)
    truth : {p : Place} → HasType s (tree.true_ p) (types.Integer integers.Bool)
    falsehood : {p : Place} → HasType s (tree.false_ p) (types.Integer integers.Bool)
    local : {p : Place} {x : List ℕ} {t : CType} → local_of s x ≡ Some (locals.Real t) → HasType s (tree.name_ p x) t
    function : {p : Place} {x : List ℕ} {n : ℕ} → local_of s x ≡ None → declaration_of s x p.file ≡ Some (meanings.Function n) → HasType s (tree.name_ p x) (types.Function n)
    parenthesized : {p : Place} {a : ExprTree} {t : CType} → HasType s a t → HasType s (tree.parenthesized p a) t
    memory : {p : Place} {g : Name} {n : ℕ} → s.has_stdlib ≡ true → tag_of s g.text g.place.file ≡ Some n → has_fields s n ≡ true → HasType s (tree.malloc p g) (types.StructPointer n)
    int_memory : {p q : Place} {a : ExprTree} → s.has_stdlib ≡ true → s.has_arrays ≡ true → HasType s a (types.Integer integers.Int) → HasType s (tree.malloc_ints p a q) types.IntPointer
    freed : {p q c : Place} {a b : ExprTree} {t u : CType} {xs : PostfixTrees} → free_place s a ≡ Some q → s.has_stdlib ≡ true → HasType s b t → IsFreed s t → PartsHaveType s types.Void xs u → HasType s (tree.postfix p a (more_postfix (tree.call_ c (more_expr b no_expr)) xs)) u
    postfix : {p : Place} {a : ExprTree} {t u : CType} {xs : PostfixTrees} → calls_free (free_place s a) xs ≡ false → HasType s a t → PartsHaveType s t xs u → HasType s (tree.postfix p a xs) u
    negative : {p : Place} {a : ExprTree} {i : IntType} → HasType s a (types.Integer i) → HasType s (tree.unary p unaries.Minus a) (types.Integer (promoted i))
    not_ : {p : Place} {a : ExprTree} {t : CType} → HasType s a t → is_void t ≡ false → HasType s (tree.unary p unaries.Not a) (types.Integer integers.Bool)
    cast : {p : Place} {w : WrittenType} {a : ExprTree} {t u : CType} → written_type s w ≡ Ok t → HasType s a u → casts t (is_null a) u ≡ true → HasType s (tree.cast p w a) t
    chain : {p : Place} {v : Level} {a : ExprTree} {t u : CType} {xs : LinkTrees} → HasType s a t → LinksHaveType s (is_null a) t xs u → HasType s (tree.chain p v a xs) u
    conditional : {p : Place} {a b c : ExprTree} {t u v : CType} → HasType s a t → is_void t ≡ false → HasType s b u → is_void u ≡ false → HasType s c v → is_void v ≡ false → comparable s (is_null b) u (is_null c) v ≡ true → HasType s (tree.conditional p a b c) (choice_type u v)

  -- operators and their operands have a type behind a left operand, that is or is not a `0` and has a type
  pub data LinksHaveType (s : Scope) : Bool → CType → LinkTrees → CType → Type 0 where
    no_links : {z : Bool} {t : CType} → LinksHaveType s z t no_link t
    more_links : {p : Place} {o : BinaryOperator} {a : ExprTree} {z : Bool} {t u v : CType} {xs : LinkTrees} → takes_left o t ≡ true → HasType s a u → takes_right s o z t (is_null a) u ≡ true → LinksHaveType s false (result_type o t u) xs v → LinksHaveType s z t (more_link (tree.link p o a) xs) v

  -- a read or call has a type behind an operand of a type
  pub data PartHasType (s : Scope) : CType → PostfixTree → CType → Type 0 where
    field : {q : Place} {g : Name} {n : ℕ} {t : CType} → field_of s n g.text g.place.file ≡ Some t → PartHasType s (types.StructPointer n) (tree.field_ q g) t
    element : {q : Place} {a : ExprTree} {u : CType} → HasType s a u → is_index u ≡ true → s.has_arrays ≡ true → PartHasType s types.IntPointer (tree.index_ q a) (types.Integer integers.Int)
    call : {q : Place} {t : CType} {g : Signature} {ys : ExprTrees} → called s t ≡ Some g → ArePassed s g.parameters ys → PartHasType s t (tree.call_ q ys) g.result

  -- reads and calls have a type behind an operand of a type
  pub data PartsHaveType (s : Scope) : CType → PostfixTrees → CType → Type 0 where
    no_parts : {t : CType} → PartsHaveType s t no_postfix t
    more_parts : {t u v : CType} {x : PostfixTree} {xs : PostfixTrees} → PartHasType s t x u → PartsHaveType s u xs v → PartsHaveType s t (more_postfix x xs) v

  -- arguments pass for parameters of these types, one for each
  pub data ArePassed (s : Scope) : List CType → ExprTrees → Type 0 where
    none_passed : ArePassed s [] no_expr
    one_passed : {t u : CType} {ts : List CType} {a : ExprTree} {xs : ExprTrees} → HasType s a u → passes s t (is_null a) u ≡ true → ArePassed s ts xs → ArePassed s (t ∷ ts) (more_expr a xs)
