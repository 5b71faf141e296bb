-- What begins something is taken where something may nest, and anything else is refused at once.
use Rattle.std.proofs.Common.{◌≡◌, ℕ, suc, ◌+◌, ◌≤◌, Bool, true, false, ◌||◌, List, [], ◌∷◌, length, Option, Some, None, Err, refl, ap, arith}
use Rattle.std.specs.Prelude.{if◌then◌else◌}
use Rattle.vf_base.specs.declared.place.Place.{Place}
use Rattle.vf_lexer.specs.declared.punctuator.Punctuator.{Punctuator}
use Rattle.vf_lexer.specs.declared.token.Kind.{Kind}
use Rattle.vf_lexer.specs.declared.token.Token.{Token}
use Rattle.vf_syntax.specs.declared.keyword.Keyword.{Keyword}
use Rattle.vf_syntax.specs.declared.side.Side.{Side}
use Rattle.vf_syntax.specs.Walks.{head_has, is_mark, is_word, is_name}
use Rattle.vf_cursor.specs.declared.fault.Fault.TheVariants.{Syntax}
use Rattle.vf_cursor.specs.Parsing.{Read, Parser, ok, ◌>>=◌, take_at, here_at, mark_at, word_at, name_at, told_by, next_by, is_there, found_at, kind_at}
use Rattle.vf_parse_expression.specs.Parsers.{too_deep}
use Rattle.vf_grammar_depth.proofs.expressions.Deeper.{left, DeeperAt, Deeper, Keeps, keeps, done_deep, left_bind}

-- of n tokens one at least was taken, if v; else the next one was refused
abbrev pub BegunAt : {A : Type 0} → Bool → ℕ → Read A → Type 0
BegunAt true n r = 1 + left r ≤ n
BegunAt false n r = r ≡ Err (Syntax n)

-- p takes what begins so, and refuses anything else
pub record Begun {A : Type 0} (begins : List Token → Bool) (p : Parser A) : Type 0 where
  pub run : (ts : List Token) → BegunAt (begins ts) (length ts) (p ts)

bind_begun : {A B : Type 0} (v : Bool) (n : ℕ) (r : Read A) (g : A → Parser B) → BegunAt v n r → ((a : A) → Keeps (g a)) → BegunAt v n (r >>= λ x. g x.0 x.1)
bind_begun true n r g h hg = let b = left_bind r g hg in omega (arith, h, b)
bind_begun {A = A} false n r g h hg = ap (λ (z : Read A). z >>= λ x. g x.0 x.1) h

-- one parser, and then another
pub then_begun : {A B : Type 0} {begins : List Token → Bool} {p : Parser A} {g : A → Parser B} → Begun begins p → ((a : A) → Keeps (g a)) → Begun begins (λ ts. p ts >>= λ x. g x.0 x.1)
then_begun {begins = begins} {p = p} {g = g} hp hg = record { run = λ ts. bind_begun (begins ts) (length ts) (p ts) g (hp.run ts) hg }

here_at_begun : {A B : Type 0} (p : Parser A) (g : Place → A → Parser B) (ts : List Token) (v : Bool) → BegunAt v (length ts) (p ts) → ((h : Place) (a : A) → Keeps (g h a)) → BegunAt v (length ts) (here_at ts >>= λ h. p h.1 >>= λ a. g h.0 a.0 a.1)
unfolding here_at
here_at_begun p g [] true b hg = absurd (omega (arith, b))
here_at_begun p g [] false b hg = refl
here_at_begun p g (t ∷ ts) v b hg = bind_begun v (suc (length ts)) (p (t ∷ ts)) (g t.place) b (λ a. hg t.place a)

-- one behind the place of the next token
pub here_begun : {A B : Type 0} {begins : List Token → Bool} {p : Parser A} {g : Place → A → Parser B} → Begun begins p → ((h : Place) (a : A) → Keeps (g h a)) → Begun begins (λ ts. here_at ts >>= λ h. p h.1 >>= λ a. g h.0 a.0 a.1)
here_begun {begins = begins} {p = p} {g = g} hp hg = record { run = λ ts. here_at_begun p g ts (begins ts) (hp.run ts) hg }

form_begun : {A : Type 0} {begins : List Token → Bool} (f : Place → Parser A) → begins [] ≡ false → ((p : Place) → Begun begins (f p)) → (ts : List Token) → BegunAt (begins ts) (length ts) (here_at ts >>= λ h. f h.0 h.1)
unfolding here_at
form_begun f none h [] = rw none refl
form_begun f none h (t ∷ ts) = (h t.place).run (t ∷ ts)

-- what is read at the place of the next token
pub at_here_begun : {A : Type 0} {begins : List Token → Bool} (f : Place → Parser A) → begins [] ≡ false → ((p : Place) → Begun begins (f p)) → Begun begins (λ ts. here_at ts >>= λ h. f h.0 h.1)
at_here_begun f none h = record { run = form_begun f none h }

take_one : (t : Token) (ts : List Token) (v : Bool) → BegunAt v (suc (length ts)) (if v then ok t ts else Err (Syntax (suc (length ts))))
take_one t ts true = omega arith
take_one t ts false = refl

take_all : (test : Token → Bool) (ts : List Token) → BegunAt (head_has test ts) (length ts) (take_at test ts)
take_all test [] = refl
take_all test (t ∷ ts) = take_one t ts (test t)

take_begun : (test : Token → Bool) → Begun (head_has test) (take_at test)
take_begun test = record { run = take_all test }

pub mark_begun : (s : Side) (m : Punctuator) → Begun (head_has (is_mark s m)) (mark_at s m)
unfolding mark_at
mark_begun s m = then_begun (take_begun (is_mark s m)) (λ t. keeps (done_deep {j = 0} t.place))

pub word_begun : (s : Side) (k : Keyword) → Begun (head_has (is_word s k)) (word_at s k)
unfolding word_at
word_begun s k = then_begun (take_begun (is_word s k)) (λ t. keeps (done_deep {j = 0} t.place))

pub name_begun : (s : Side) → Begun (head_has (is_name s)) (name_at s)
unfolding name_at
name_begun s = then_begun (take_begun (is_name s)) (λ t. keeps (done_deep {j = 0} (record { text = t.text; place = t.place })))

found_one : {A : Type 0} (o : Option A) (ts : List Token) → BegunAt (is_there o) (suc (length ts)) (found_at o (suc (length ts)) ts)
found_one None ts = refl
found_one (Some x) ts = omega arith

kind_all : {A : Type 0} (s : Side) (f : Kind → Option A) (ts : List Token) → BegunAt (is_there (next_by s f ts)) (length ts) (kind_at s f ts)
kind_all s f [] = refl
kind_all s f (t ∷ ts) = found_one (told_by s f t) ts

pub kind_begun : {A : Type 0} (s : Side) (f : Kind → Option A) → Begun (λ ts. is_there (next_by s f ts)) (kind_at s f)
kind_begun s f = record { run = kind_all s f }

pub one_of : {A : Type 0} (v w : Bool) (n : ℕ) (x y : Read A) → BegunAt v n x → BegunAt w n y → BegunAt (v || w) n (if v then x else y)
one_of true w n x y hx hy = hx
one_of false w n x y hx hy = hy

-- a choice of two by what begins the first
pub choice_begun : {A : Type 0} {begins others : List Token → Bool} {p q : Parser A} → Begun begins p → Begun others q → Begun (λ ts. begins ts || others ts) (λ ts. if begins ts then p ts else q ts)
choice_begun {begins = begins} {others = others} {p = p} {q = q} hp hq = record { run = λ ts. one_of (begins ts) (others ts) (length ts) (p ts) (q ts) (hp.run ts) (hq.run ts) }

deep_one : {A : Type 0} (v : Bool) (ts : List Token) (r : Read A) → BegunAt v (length ts) r → DeeperAt 1 (length ts) (too_deep v ts) r
deep_one true ts r h = (omega arith, h)
deep_one false ts r h = (omega arith, h)

-- where nothing may nest, what begins so is too deep, and q gets past it
pub none_deep : {A : Type 0} {begins : List Token → Bool} {q : Parser A} → Begun begins q → Deeper 1 (λ ts. too_deep (begins ts) ts) q
none_deep {begins = begins} {q = q} h = record { run = λ ts. deep_one (begins ts) ts (q ts) (h.run ts) }

same_one : (A : Type 0) (v : Bool) (ts : List Token) → DeeperAt {A = A} 0 (length ts) (too_deep v ts) (too_deep v ts)
same_one A true ts = (omega arith, omega arith)
same_one A false ts = (omega arith, refl)

-- it does not go back
pub same_deep : {A : Type 0} (begins : List Token → Bool) → Deeper {A = A} 0 (λ ts. too_deep (begins ts) ts) (λ ts. too_deep (begins ts) ts)
same_deep {A = A} begins = record { run = λ ts. same_one A (begins ts) ts }
