-- How a parser that may nest deeper answers on the same tokens.
use Rattle.std.proofs.Common.{◌≡◌, ℕ, zero, suc, ◌+◌, ◌≤◌, ◌++◌, Bool, true, false, List, [], ◌∷◌, length, Option, Some, None, Ok, Err, refl, ap, arith}
use Rattle.std.specs.Prelude.{if◌then◌else◌}
use Rattle.vf_lexer.specs.declared.punctuator.Punctuator.{Punctuator}
use Rattle.vf_lexer.specs.declared.token.Kind.{Kind}
use Rattle.vf_lexer.specs.declared.token.Token.{Token}
use Rattle.vf_syntax.specs.declared.keyword.Keyword.{Keyword}
use Rattle.vf_syntax.specs.declared.side.Side.{Side}
use Rattle.vf_syntax.specs.declared.side.Side.TheVariants.{Real}
use Rattle.vf_syntax.specs.Walks.{head_has, is_mark, is_word, is_name}
use Rattle.vf_cursor.specs.declared.fault.Fault.TheVariants.{Syntax, Depth}
use Rattle.vf_cursor.specs.Parsing.{Read, Parser, ok, ◌>>=◌, fails_at, take_at, here_at, mark_at, word_at, name_at, told_by, found_at, kind_at, number_at, character_at, number_of, character_of, many_at, many, item_step}

-- how many tokens are left where it ended
abbrev pub left : {A : Type 0} → Read A → ℕ
left (Ok x) = length x.1
left (Err (Syntax k)) = k
left (Err (Depth k)) = k

-- of n tokens what was answered goes back to none, and more answers the same, or leaves j fewer where it was too deep
abbrev pub DeeperAt : {A : Type 0} → ℕ → ℕ → Read A → Read A → Type 0
DeeperAt j n (Ok x) more = (length x.1 ≤ n) × (more ≡ Ok x)
DeeperAt j n (Err (Syntax k)) more = (k ≤ n) × (more ≡ Err (Syntax k))
DeeperAt j n (Err (Depth k)) more = (k ≤ n) × (j + left more ≤ k)

-- q answers so where p is asked: as a record, so that the parsers are found
pub record Deeper {A : Type 0} (j : ℕ) (p q : Parser A) : Type 0 where
  pub run : (ts : List Token) → DeeperAt j (length ts) (p ts) (q ts)

-- a parser leaves no more tokens than it was given
pub record Keeps {A : Type 0} (q : Parser A) : Type 0 where
  pub kept : (ts : List Token) → left (q ts) ≤ length ts

within_at : {A : Type 0} (j n : ℕ) (r s : Read A) → DeeperAt j n r s → left s ≤ n
within_at j n (Ok x) s h = rw (h.1) (h.0)
within_at j n (Err (Syntax k)) s h = rw (h.1) (h.0)
within_at j n (Err (Depth k)) s h = omega (arith, h.0, h.1)

pub keeps : {A : Type 0} {j : ℕ} {p q : Parser A} → Deeper j p q → Keeps q
keeps {j = j} {p = p} {q = q} h = record { kept = λ ts. within_at j (length ts) (p ts) (q ts) (h.run ts) }

widen : {A : Type 0} (j n m : ℕ) (r s : Read A) → n ≤ m → DeeperAt j n r s → DeeperAt j m r s
widen j n m (Ok x) s le h = (omega (arith, le, h.0), h.1)
widen j n m (Err (Syntax k)) s le h = (omega (arith, le, h.0), h.1)
widen j n m (Err (Depth k)) s le h = (omega (arith, le, h.0), h.1)

-- what comes behind does not go back
pub left_bind : {A B : Type 0} (r : Read A) (g : A → Parser B) → ((a : A) → Keeps (g a)) → left (r >>= λ x. g x.0 x.1) ≤ left r
left_bind (Ok x) g h = (h x.0).kept x.1
left_bind (Err (Syntax k)) g h = omega arith
left_bind (Err (Depth k)) g h = omega arith

bind_deep : {A B : Type 0} (j n : ℕ) (f g : A → Parser B) (r s : Read A) → DeeperAt j n r s → ((a : A) → Deeper j (f a) (g a)) → DeeperAt j n (r >>= λ x. f x.0 x.1) (s >>= λ x. g x.0 x.1)
bind_deep j n f g (Ok x) s h hf = rw (h.1) (widen j (length x.1) n (f x.0 x.1) (g x.0 x.1) (h.0) ((hf x.0).run x.1))
bind_deep {A = A} j n f g (Err (Syntax k)) s h hf = (h.0, ap (λ (z : Read A). z >>= λ x. g x.0 x.1) (h.1))
bind_deep j n f g (Err (Depth k)) s h hf = let b = left_bind s g (λ a. keeps (hf a)) in (h.0, omega (arith, h.1, b))

-- one parser and then another
pub then_deep : {A B : Type 0} {j : ℕ} {p q : Parser A} {f g : A → Parser B} → Deeper j p q → ((a : A) → Deeper j (f a) (g a)) → Deeper j (λ ts. p ts >>= λ x. f x.0 x.1) (λ ts. q ts >>= λ x. g x.0 x.1)
then_deep {j = j} {p = p} {q = q} {f = f} {g = g} hp hf = record { run = λ ts. bind_deep j (length ts) f g (p ts) (q ts) (hp.run ts) hf }

pub done_deep : {A : Type 0} {j : ℕ} (a : A) → Deeper j (ok a) (ok a)
done_deep a = record { run = λ ts. (omega arith, refl) }

pub fail_deep : {A : Type 0} {j : ℕ} → Deeper {A = A} j fails_at fails_at
fail_deep = record { run = λ ts. (omega arith, refl) }

taken : (j : ℕ) (t : Token) (ts : List Token) (v : Bool) → DeeperAt j (suc (length ts)) (if v then ok t ts else Err (Syntax (suc (length ts)))) (if v then ok t ts else Err (Syntax (suc (length ts))))
taken j t ts true = (omega arith, refl)
taken j t ts false = (omega arith, refl)

take_all : (j : ℕ) (test : Token → Bool) (ts : List Token) → DeeperAt j (length ts) (take_at test ts) (take_at test ts)
take_all j test [] = (omega arith, refl)
take_all j test (t ∷ ts) = taken j t ts (test t)

pub take_deep : {j : ℕ} (test : Token → Bool) → Deeper j (take_at test) (take_at test)
take_deep {j = j} test = record { run = take_all j test }

here_all : (j : ℕ) (ts : List Token) → DeeperAt j (length ts) (here_at ts) (here_at ts)
unfolding here_at
here_all j [] = (omega arith, refl)
here_all j (t ∷ ts) = (omega arith, refl)

pub here_deep : {j : ℕ} → Deeper j here_at here_at
here_deep {j = j} = record { run = here_all j }

pub mark_deep : {j : ℕ} (s : Side) (m : Punctuator) → Deeper j (mark_at s m) (mark_at s m)
unfolding mark_at
mark_deep s m = then_deep (take_deep (is_mark s m)) (λ t. done_deep t.place)

pub word_deep : {j : ℕ} (s : Side) (k : Keyword) → Deeper j (word_at s k) (word_at s k)
unfolding word_at
word_deep s k = then_deep (take_deep (is_word s k)) (λ t. done_deep t.place)

pub name_deep : {j : ℕ} (s : Side) → Deeper j (name_at s) (name_at s)
unfolding name_at
name_deep s = then_deep (take_deep (is_name s)) (λ t. done_deep (record { text = t.text; place = t.place }))

found_all : {A : Type 0} (j : ℕ) (o : Option A) (ts : List Token) → DeeperAt j (suc (length ts)) (found_at o (suc (length ts)) ts) (found_at o (suc (length ts)) ts)
found_all j None ts = (omega arith, refl)
found_all j (Some x) ts = (omega arith, refl)

kind_all : {A : Type 0} (j : ℕ) (s : Side) (f : Kind → Option A) (ts : List Token) → DeeperAt j (length ts) (kind_at s f ts) (kind_at s f ts)
kind_all j s f [] = (omega arith, refl)
kind_all j s f (t ∷ ts) = found_all j (told_by s f t) ts

pub kind_deep : {A : Type 0} {j : ℕ} (s : Side) (f : Kind → Option A) → Deeper j (kind_at s f) (kind_at s f)
kind_deep {j = j} s f = record { run = kind_all j s f }

pub number_deep : {j : ℕ} (s : Side) → Deeper j (number_at s) (number_at s)
unfolding number_at
number_deep s = kind_deep s number_of

pub character_deep : {j : ℕ} → Deeper j character_at character_at
unfolding character_at
character_deep = kind_deep Real character_of

-- a choice by what is seen of the tokens, which are the same
pub found_deep : {A X : Type 0} {j : ℕ} (look : List Token → X) (p q : X → Parser A) → ((x : X) → Deeper j (p x) (q x)) → Deeper j (λ ts. p (look ts) ts) (λ ts. q (look ts) ts)
found_deep look p q h = record { run = λ ts. (h (look ts)).run ts }

by_value : {A : Type 0} (j : ℕ) (v : Bool) (p1 q1 p2 q2 : Parser A) → Deeper j p1 q1 → Deeper j p2 q2 → (ts : List Token) → DeeperAt j (length ts) (if v then p1 ts else p2 ts) (if v then q1 ts else q2 ts)
by_value j true p1 q1 p2 q2 h1 h2 ts = h1.run ts
by_value j false p1 q1 p2 q2 h1 h2 ts = h2.run ts

-- a choice of two
pub choice_deep : {A : Type 0} {j : ℕ} {p1 q1 p2 q2 : Parser A} (look : List Token → Bool) → Deeper j p1 q1 → Deeper j p2 q2 → Deeper j (λ ts. if look ts then p1 ts else p2 ts) (λ ts. if look ts then q1 ts else q2 ts)
choice_deep {j = j} {p1 = p1} {q1 = q1} {p2 = p2} {q2 = q2} look h1 h2 = record { run = λ ts. by_value j (look ts) p1 q1 p2 q2 h1 h2 ts }

-- a choice by the next token
pub head_deep : {A : Type 0} {j : ℕ} {p1 q1 p2 q2 : Parser A} (test : Token → Bool) → Deeper j p1 q1 → Deeper j p2 q2 → Deeper j (λ ts. if head_has test ts then p1 ts else p2 ts) (λ ts. if head_has test ts then q1 ts else q2 ts)
head_deep test h1 h2 = choice_deep (λ ts. head_has test ts) h1 h2

-- a choice by what was read
pub fixed_deep : {A : Type 0} {j : ℕ} {p1 q1 p2 q2 : Parser A} (v : Bool) → Deeper j p1 q1 → Deeper j p2 q2 → Deeper j (λ ts. if v then p1 ts else p2 ts) (λ ts. if v then q1 ts else q2 ts)
fixed_deep v h1 h2 = choice_deep (λ ts. v) h1 h2

turns_deep : {A : Type 0} (j : ℕ) (more : Token → Bool) (p q : A → Parser A) → ((a : A) → Deeper j (p a) (q a)) → (n : ℕ) (a : A) → Deeper j (many_at n more p a) (many_at n more q a)
turns_deep j more p q h zero a = done_deep a
turns_deep j more p q h (suc n) a = head_deep more (then_deep (h a) (λ x. turns_deep j more p q h n x)) (done_deep a)

-- a loop
pub many_deep : {A : Type 0} {j : ℕ} (more : Token → Bool) (p q : A → Parser A) → ((a : A) → Deeper j (p a) (q a)) → (a : A) → Deeper j (many more p a) (many more q a)
many_deep {j = j} more p q h a = record { run = λ ts. (turns_deep j more p q h (length ts) a).run ts }

-- a loop that collects items
pub items_deep : {A : Type 0} {j : ℕ} {p q : Parser A} (more : Token → Bool) → Deeper j p q → (xs : List A) → Deeper j (many more (item_step p) xs) (many more (item_step q) xs)
items_deep {p = p} {q = q} more h xs = many_deep more (item_step p) (item_step q) (λ ys. then_deep h (λ x. done_deep (ys ++ x ∷ []))) xs

first_at : {A : Type 0} (j n : ℕ) (r s : Read A) → DeeperAt j n r s → left r ≤ n
first_at j n (Ok x) s h = h.0
first_at j n (Err (Syntax k)) s h = h.0
first_at j n (Err (Depth k)) s h = h.0

same_at : {A : Type 0} (n : ℕ) (r : Read A) → left r ≤ n → DeeperAt 0 n r r
same_at n (Ok x) h = (h, refl)
same_at n (Err (Syntax k)) h = (h, refl)
same_at n (Err (Depth k)) h = (h, omega arith)

-- a parser that another answers so does not go back
pub same_of : {A : Type 0} {j : ℕ} {p q : Parser A} → Deeper j p q → Deeper 0 p p
same_of {j = j} {p = p} {q = q} h = record { run = λ ts. same_at (length ts) (p ts) (first_at j (length ts) (p ts) (q ts) (h.run ts)) }
