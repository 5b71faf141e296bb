-- Parsers that take a token at least, wherever they read something.
use Rattle.std.proofs.Common.{◌≡◌, ℕ, ◌≤◌, ◌<◌, Bool, true, false, List, [], ◌∷◌, length, suc, Option, Some, None, Err, subst, arith}
use Rattle.std.specs.Prelude.{if◌then◌else◌}
use Rattle.vf_lexer.specs.declared.punctuator.Punctuator.{Punctuator}
use Rattle.vf_lexer.specs.declared.token.Kind.{Kind}
use Rattle.vf_lexer.specs.declared.token.Token.{Token}
use Rattle.vf_syntax.specs.declared.keyword.Keyword.{Keyword}
use Rattle.vf_syntax.specs.declared.side.Side.{Side}
use Rattle.vf_syntax.specs.declared.written.Name.{Name}
use Rattle.vf_syntax.specs.Walks.{is_mark, is_word, is_name}
use Rattle.vf_cursor.specs.declared.fault.Fault.TheVariants.{Syntax}
use Rattle.vf_cursor.specs.Parsing.{Read, Parser, ok, ◌>>=◌, take_at, mark_at, word_at, name_at, told_by, found_at, kind_at}
use Rattle.vf_cursor.proofs.Facts.{bind_ok, moved}
use Rattle.vf_grammar_stops.proofs.types.Local.{Does}
use Rattle.vf_grammar_stops.proofs.types.LoopAlike.{Takes}
use Rattle.vf_grammar_stops.proofs.expressions.Beyond.{Beyond, bounded}

-- what is left is no more
kept : {A : Type 0} (r : Read A) (n : ℕ) (x : A) (rest : List Token) → Beyond 0 r n → r ≡ ok x rest → length rest ≤ n
kept {A = A} r n x rest h e = let s : Beyond 0 (ok x rest) n = subst (λ (z : Read A). Beyond 0 z n) e h in omega (arith, s)

-- what goes on behind what takes a token takes one
pub then_takes : {A B : Type 0} {p : Parser A} {g h : A → Parser B} → Takes p → ((a : A) → Does false (g a) (h a)) → Takes (λ ts. p ts >>= λ x. g x.0 x.1)
then_takes {p = p} {g = g} hp hg ts y rest eq =
    let x = bind_ok {r = p ts} eq in
    let one = hp ts x.0.0 x.0.1 x.1 in
    let two = kept (g x.0.0 x.0.1) (length x.0.1) y rest ((bounded (hg x.0.0)).bound x.0.1) x.2 in
    omega (arith, one, two)

-- one parser behind another, both of which take a token
pub both_take : {A B : Type 0} {p : Parser A} {g : A → Parser B} → Takes p → ((a : A) → Takes (g a)) → Takes (λ ts. p ts >>= λ x. g x.0 x.1)
both_take {p = p} hp hg ts y rest eq =
    let x = bind_ok {r = p ts} eq in
    let one = hp ts x.0.0 x.0.1 x.1 in
    let two = hg x.0.0 x.0.1 y rest x.2 in
    omega (arith, one, two)

-- what takes a token behind something else takes one
pub late_takes : {A B : Type 0} {p q : Parser A} {g : A → Parser B} → Does false p q → ((a : A) → Takes (g a)) → Takes (λ ts. p ts >>= λ x. g x.0 x.1)
late_takes {p = p} hp hg ts y rest eq =
    let x = bind_ok {r = p ts} eq in
    let one = kept (p ts) (length ts) x.0.0 x.0.1 ((bounded hp).bound ts) x.1 in
    let two = hg x.0.0 x.0.1 y rest x.2 in
    omega (arith, one, two)

one_of : {A : Type 0} (v : Bool) (p q : Parser A) → Takes p → Takes q → (ts : List Token) (x : A) (rest : List Token) → (if v then p ts else q ts) ≡ ok x rest → length rest < length ts
one_of true p q hp hq ts x rest e = hp ts x rest e
one_of false p q hp hq ts x rest e = hq ts x rest e

-- a choice of what takes a token
pub choice_takes : {A : Type 0} {p q : Parser A} (look : List Token → Bool) → Takes p → Takes q → Takes (λ ts. if look ts then p ts else q ts)
choice_takes {p = p} {q = q} look hp hq ts x rest e = one_of (look ts) p q hp hq ts x rest e

taken : (v : Bool) (t : Token) (ts rest : List Token) (x : Token) (n : ℕ) → (if v then ok t ts else Err (Syntax n)) ≡ ok x rest → length rest < suc (length ts)
taken true t ts rest x n e = moved (λ (y : Token) r. length r < suc (length ts)) e (omega arith)
taken false t ts rest x n e = absurd cc

pub take_takes : (test : Token → Bool) → Takes (take_at test)
take_takes test [] x rest e = absurd cc
take_takes test (t ∷ ts) x rest e = taken (test t) t ts rest x (suc (length ts)) e

no_more : {A : Type 0} (a : A) (ts rest : List Token) (x : A) → ok a ts ≡ ok x rest → length rest ≤ length ts
no_more {A = A} a ts rest x e = moved (λ (y : A) r. length r ≤ length ts) e (omega arith)

pub mark_takes : (s : Side) (m : Punctuator) → Takes (mark_at s m)
unfolding mark_at
mark_takes s m ts x rest eq =
    let t = bind_ok {r = take_at (is_mark s m) ts} eq in
    let one = take_takes (is_mark s m) ts t.0.0 t.0.1 t.1 in
    let two = no_more t.0.0.place t.0.1 rest x t.2 in
    omega (arith, one, two)

pub word_takes : (s : Side) (k : Keyword) → Takes (word_at s k)
unfolding word_at
word_takes s k ts x rest eq =
    let t = bind_ok {r = take_at (is_word s k) ts} eq in
    let one = take_takes (is_word s k) ts t.0.0 t.0.1 t.1 in
    let two = no_more t.0.0.place t.0.1 rest x t.2 in
    omega (arith, one, two)

pub name_takes : (s : Side) → Takes (name_at s)
unfolding name_at
name_takes s ts x rest eq =
    let t = bind_ok {r = take_at (is_name s) ts} eq in
    let one = take_takes (is_name s) ts t.0.0 t.0.1 t.1 in
    let two = no_more {A = Name} (record { text = t.0.0.text; place = t.0.0.place }) t.0.1 rest x t.2 in
    omega (arith, one, two)

found_takes : {A : Type 0} (o : Option A) (n : ℕ) (ts rest : List Token) (x : A) → found_at o n ts ≡ ok x rest → length rest < suc (length ts)
found_takes None n ts rest x e = absurd cc
found_takes (Some y) n ts rest x e = let s = no_more y ts rest x e in omega (arith, s)

pub kind_takes : {A : Type 0} (s : Side) (f : Kind → Option A) → Takes (kind_at s f)
kind_takes s f [] x rest e = absurd cc
kind_takes s f (t ∷ ts) x rest e = found_takes (told_by s f t) (suc (length ts)) ts rest x e
