-- How far casts and parentheses are read where a look for a cast goes past one token.
use Rattle.std.proofs.Common.{◌≡◌, ℕ, suc, ◌+◌, ◌≤◌, Bool, true, false, List, [], ◌∷◌, length, refl, sym, subst, ◌∙◌, arith}
use Rattle.std.specs.Prelude.{if◌then◌else◌}
use Rattle.vf_lexer.specs.declared.punctuator.Punctuator.{Punctuator}
use Rattle.vf_lexer.specs.declared.punctuator.Punctuator.TheVariants as punctuators
use Rattle.vf_lexer.specs.declared.token.Token.{Token}
use Rattle.vf_syntax.specs.declared.keyword.Keyword.TheVariants as keywords
use Rattle.vf_syntax.specs.declared.side.Side.TheVariants.{Real}
use Rattle.vf_syntax.specs.declared.written.Name.{Name}
use Rattle.vf_syntax.specs.declared.written.TypeForm.TheVariants as forms
use Rattle.vf_syntax.specs.ExprTree.{ExprTree}
use Rattle.vf_syntax.specs.ExprTree as tree
use Rattle.vf_syntax.specs.Walks.{head_has, is_mark, is_name}
use Rattle.vf_cursor.specs.Parsing.{Read, Parser, ok, ◌>>=◌, here_at, mark_at, name_at}
use Rattle.vf_cursor.specs.Types.{type_form_at, ctype_at}
use Rattle.vf_parse_expression.specs.Operands.{sees_cast, posted}
use Rattle.vf_parse_expression.specs.Parsers.{parenthesized_at, word_primary_at, primary_at, parts_at, post_at, cast_at, unsigned_at}
use Rattle.vf_parse_expression.proofs.OperandsSound.{Reads}
use Rattle.vf_grammar_stops.proofs.types.Local.{LikeAt, Does, then_like, done_like, mark_like}
use Rattle.vf_grammar_stops.proofs.types.TypesAlike.{ctype_like}
use Rattle.vf_grammar_stops.proofs.expressions.Beyond.{Beyond, Bounded, bounded, further, beyond_bind, seen_like}
use Rattle.vf_grammar_stops.proofs.expressions.PrimaryAlike.{parts_like, post_like}
use Rattle.vf_grammar_stops.proofs.expressions.Casts.{name_seen, mark_seen, opens, names, stars, cast_told}

pub mark_taken : (m : Punctuator) (t : Token) (ts : List Token) → is_mark Real m t ≡ true → mark_at Real m (t ∷ ts) ≡ ok t.place ts
unfolding mark_at
mark_taken m t ts h = rw h refl

-- the name that a token is
abbrev pub called : Token → Name
called t = record { text = t.text; place = t.place }

pub name_taken : (t : Token) (ts : List Token) → is_name Real t ≡ true → name_at Real (t ∷ ts) ≡ ok (called t) ts
unfolding name_at
name_taken t ts h = rw h refl

-- what comes behind something that was read goes no further back
pub beyond_then : {A B : Type 0} (j n : ℕ) (r : Read A) (a : A) (mid : List Token) (g : A → Parser B) → r ≡ ok a mid → length mid + j ≤ n → Bounded (g a) → Beyond j (r >>= λ x. g x.0 x.1) n
beyond_then {A = A} j n r a mid g e le hg = subst (λ (s : Read A). Beyond j (s >>= λ x. g x.0 x.1) n) (sym e) (further 0 j (length mid) n (g a mid) (omega (arith, le)) (hg.bound mid))

pub form_name : (t : Token) (ts : List Token) → is_name Real t ≡ true → Beyond 1 (type_form_at Real (t ∷ ts)) (suc (length ts))
unfolding type_form_at
form_name t ts h =
    let f = name_seen t ts h in
    rw (f.words_are keywords.Bool, f.words_are keywords.Void, f.words_are keywords.Struct, f.names_are)
    (beyond_then 1 (suc (length ts)) (name_at Real (t ∷ ts)) (called t) ts (λ n us. mark_at Real punctuators.Star us >>= λ x. ok (forms.NamedPointer n.text) x.1) (name_taken t ts h) (omega arith)
    (bounded (then_like (mark_like Real punctuators.Star) (λ x. done_like (forms.NamedPointer t.text)))))

form_star : (t s : Token) (ts : List Token) → is_name Real t ≡ true → is_mark Real punctuators.Star s ≡ true → Beyond 2 (type_form_at Real (t ∷ s ∷ ts)) (suc (suc (length ts)))
unfolding type_form_at
form_star t s ts h k =
    let f = name_seen t (s ∷ ts) h in
    rw (f.words_are keywords.Bool, f.words_are keywords.Void, f.words_are keywords.Struct, f.names_are, name_taken t (s ∷ ts) h, mark_taken punctuators.Star s ts k) (omega arith)

pub type_of_form : (j : ℕ) (t : Token) (ts : List Token) → Beyond j (type_form_at Real (t ∷ ts)) (suc (length ts)) → Beyond j (ctype_at Real (t ∷ ts)) (suc (length ts))
unfolding ctype_at here_at
type_of_form j t ts h = beyond_bind j (suc (length ts)) (type_form_at Real (t ∷ ts)) (λ f. ok (record { place = t.place; form = f })) h (λ f. bounded (done_like (record { place = t.place; form = f })))

type_star : (t : Token) (ts : List Token) → is_name Real t ≡ true → head_has (is_mark Real punctuators.Star) ts ≡ true → Beyond 2 (ctype_at Real (t ∷ ts)) (suc (length ts))
type_star t [] h k = absurd cc
type_star t (s ∷ ts) h k = type_of_form 2 t (s ∷ ts) (form_star t s ts h k)

-- behind its parenthesis a cast gets as far as its type
cast_reach : {u v : Parser ExprTree} (j : ℕ) (t : Token) (ts : List Token) → Does false u v → is_mark Real punctuators.OpenParenthesis t ≡ true → Beyond j (ctype_at Real ts) (length ts) → Beyond (suc j) (cast_at u (t ∷ ts)) (suc (length ts))
unfolding cast_at
cast_reach {u = u} j t ts hu o h =
    rw (mark_taken punctuators.OpenParenthesis t ts o)
    (beyond_bind (suc j) (suc (length ts)) (ctype_at Real ts) (λ c us. mark_at Real punctuators.CloseParenthesis us >>= λ k. u k.1 >>= λ a. ok (tree.cast t.place c a.0) a.1) (further j (suc j) (length ts) (suc (length ts)) (ctype_at Real ts) (omega arith) h)
    (λ c. bounded (then_like (mark_like Real punctuators.CloseParenthesis) (λ k. then_like hu (λ a. done_like (tree.cast t.place c a))))))

cast_one : {u v : Parser ExprTree} → Does false u v → (ts : List Token) → opens ts ≡ true → Beyond 1 (cast_at u ts) (length ts)
cast_one hu [] o = absurd cc
cast_one hu (t ∷ ts) o = cast_reach 0 t ts hu o ((bounded (ctype_like {b = false} Real)).bound ts)

cast_two : {u v : Parser ExprTree} → Does false u v → (ts : List Token) → opens ts ≡ true → names ts ≡ true → Beyond 2 (cast_at u ts) (length ts)
cast_two hu [] o n = absurd cc
cast_two hu (t ∷ []) o n = absurd cc
cast_two hu (t ∷ s ∷ ts) o n = cast_reach 1 t (s ∷ ts) hu o (type_of_form 1 s ts (form_name s ts n))

cast_three : {u v : Parser ExprTree} → Does false u v → (ts : List Token) → opens ts ≡ true → names ts ≡ true → stars ts ≡ true → Beyond 3 (cast_at u ts) (length ts)
cast_three hu [] o n k = absurd cc
cast_three hu (t ∷ []) o n k = absurd cc
cast_three hu (t ∷ s ∷ ts) o n k = cast_reach 2 t (s ∷ ts) hu o (type_star s ts n k)

-- from a name a parser gets past it, and past a star behind it
pub record Passes (e : Parser ExprTree) : Type 0 where
  pub name : (t : Token) (ts : List Token) → is_name Real t ≡ true → Beyond 1 (e (t ∷ ts)) (suc (length ts))
  pub star : (t : Token) (ts : List Token) → is_name Real t ≡ true → head_has (is_mark Real punctuators.Star) ts ≡ true → Beyond 2 (e (t ∷ ts)) (suc (length ts))

parenthesized_reach : (e : Parser ExprTree) (j : ℕ) (t : Token) (ts : List Token) → is_mark Real punctuators.OpenParenthesis t ≡ true → Beyond j (e ts) (length ts) → Beyond (suc j) (parenthesized_at e (t ∷ ts)) (suc (length ts))
unfolding parenthesized_at
parenthesized_reach e j t ts o h =
    rw (mark_taken punctuators.OpenParenthesis t ts o)
    (beyond_bind (suc j) (suc (length ts)) (e ts) (λ a us. mark_at Real punctuators.CloseParenthesis us >>= λ k. ok (tree.parenthesized t.place a) k.1) (further j (suc j) (length ts) (suc (length ts)) (e ts) (omega arith) h)
    (λ a. bounded (then_like (mark_like Real punctuators.CloseParenthesis) (λ k. done_like (tree.parenthesized t.place a)))))

primary_reach : (e f : Parser ExprTree) (j : ℕ) (t : Token) (ts : List Token) → is_mark Real punctuators.OpenParenthesis t ≡ true → Beyond j (e ts) (length ts) → Beyond (suc j) (primary_at e f (t ∷ ts)) (suc (length ts))
unfolding primary_at word_primary_at
primary_reach e f j t ts o h =
    let s = mark_seen punctuators.OpenParenthesis t ts o in
    rw (s.numbers_are, s.characters_are, s.words_are keywords.True, s.words_are keywords.False, s.words_are keywords.Malloc, s.names_are) (parenthesized_reach e j t ts o h)

-- behind its parenthesis an operand gets as far as the expression in it
post_reach : {e g : Parser ExprTree} (f : Parser ExprTree) (d j : ℕ) (t : Token) (ts : List Token) → Does false e g → Reads 1 9 d g → is_mark Real punctuators.OpenParenthesis t ≡ true → Beyond j (e ts) (length ts) → Beyond (suc j) (post_at e f (t ∷ ts)) (suc (length ts))
unfolding post_at here_at
post_reach {e = e} f d j t ts he hg o h =
    beyond_bind (suc j) (suc (length ts)) (primary_at e f (t ∷ ts)) (λ a us. parts_at e us >>= λ xs. ok (posted t.place a xs.0) xs.1) (primary_reach e f j t ts o h)
    (λ a. bounded (then_like (parts_like d he hg) (λ xs. done_like (posted t.place a xs))))

post_one : {e g : Parser ExprTree} (f : Parser ExprTree) (d : ℕ) → Does false e g → Reads 1 9 d g → (ts : List Token) → opens ts ≡ true → Beyond 1 (post_at e f ts) (length ts)
post_one f d he hg [] o = absurd cc
post_one f d he hg (t ∷ ts) o = post_reach f d 0 t ts he hg o ((bounded he).bound ts)

post_two : {e g : Parser ExprTree} (f : Parser ExprTree) (d : ℕ) → Does false e g → Reads 1 9 d g → Passes e → (ts : List Token) → opens ts ≡ true → names ts ≡ true → Beyond 2 (post_at e f ts) (length ts)
post_two f d he hg p [] o n = absurd cc
post_two f d he hg p (t ∷ []) o n = absurd cc
post_two f d he hg p (t ∷ s ∷ ts) o n = post_reach f d 1 t (s ∷ ts) he hg o (p.name s ts n)

post_three : {e g : Parser ExprTree} (f : Parser ExprTree) (d : ℕ) → Does false e g → Reads 1 9 d g → Passes e → (ts : List Token) → opens ts ≡ true → names ts ≡ true → stars ts ≡ true → Beyond 3 (post_at e f ts) (length ts)
post_three f d he hg p [] o n k = absurd cc
post_three f d he hg p (t ∷ []) o n k = absurd cc
post_three f d he hg p (t ∷ s ∷ ts) o n k = post_reach f d 2 t (s ∷ ts) he hg o (p.star s ts n k)

cast_like : {b : Bool} {u v : Parser ExprTree} → Does b u v → Does b (cast_at u) (cast_at v)
unfolding cast_at
cast_like hu = then_like (mark_like Real punctuators.OpenParenthesis) (λ o. then_like (ctype_like Real) (λ t. then_like (mark_like Real punctuators.CloseParenthesis) (λ c. then_like hu (λ a. done_like (tree.cast o t a)))))

by_look : {e g u v f h : Parser ExprTree} (d : ℕ) → Does false e g → Does false u v → Does false f h → Reads 1 9 d g → Passes e → (ts : List Token) (w : Bool) → sees_cast ts ≡ w → LikeAt false (unsigned_at g v h) ts (if w then cast_at u ts else post_at e f ts)
unfolding unsigned_at
by_look {e = e} {g = g} {u = u} {v = v} {f = f} {h = h} d he hu hf hg p ts true seen =
    seen_like (cast_at v) (unsigned_at g v h) ts (cast_at u ts)
    (λ used rest us parts far same. rw (cast_told ts used rest us parts (record {
      one = λ o. far 1 (length ts) (cast_one hu ts o);
      two = λ o n. far 2 (length ts) (cast_two hu ts o n);
      three = λ o n k. far 3 (length ts) (cast_three hu ts o n k);
    }) same ∙ seen) refl) ((cast_like hu).run ts)
by_look {e = e} {g = g} {u = u} {v = v} {f = f} {h = h} d he hu hf hg p ts false seen =
    seen_like (post_at g h) (unsigned_at g v h) ts (post_at e f ts)
    (λ used rest us parts far same. rw (cast_told ts used rest us parts (record {
      one = λ o. far 1 (length ts) (post_one f d he hg ts o);
      two = λ o n. far 2 (length ts) (post_two f d he hg p ts o n);
      three = λ o n k. far 3 (length ts) (post_three f d he hg p ts o n k);
    }) same ∙ seen) refl) ((post_like d he hf hg).run ts)

pub unsigned_like : {e g u v f h : Parser ExprTree} (d : ℕ) → Does false e g → Does false u v → Does false f h → Reads 1 9 d g → Passes e → Does false (unsigned_at e u f) (unsigned_at g v h)
unfolding unsigned_at
unsigned_like d he hu hf hg p = record { run = λ ts. by_look d he hu hf hg p ts (sees_cast ts) refl }
