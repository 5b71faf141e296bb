-- A parser does the same on other tokens that are alike up to the token in front of which it stopped.
use Rattle.std.proofs.Common.{◌≡◌, ℕ, zero, suc, ◌≤◌, ◌++◌, Bool, true, false, ◌&&◌, List, [], ◌∷◌, length, Option, Some, None, Ok, Err, refl, sym, subst, ap, ◌∙◌, append_assoc, length-append, arith}
use Rattle.std.specs.Prelude.{if◌then◌else◌}
use Rattle.vf_lexer.specs.declared.punctuator.Punctuator.{Punctuator}
use Rattle.vf_lexer.specs.declared.token.Token.{Token}
use Rattle.vf_syntax.specs.declared.keyword.Keyword.{Keyword}
use Rattle.vf_syntax.specs.declared.side.Side.{Side}
use Rattle.vf_syntax.specs.Walks.{head_has, is_mark, is_word, is_name}
use Rattle.vf_cursor.specs.declared.fault.Fault.{Fault}
use Rattle.vf_cursor.specs.declared.fault.Fault.TheVariants.{Syntax, Depth}
use Rattle.vf_cursor.specs.Parsing.{Read, Parser, ok, ◌>>=◌, fails_at, take_at, here_at, mark_at, word_at, name_at}
use Rattle.vf_grammar_stops.specs.types.Stops.{first, BeginsUpTo}

-- how many tokens are left at a fault
abbrev pub left_of : Fault → ℕ
left_of (Syntax n) = n
left_of (Depth n) = n

-- the same fault with so many tokens left
abbrev pub put : Fault → ℕ → Fault
put (Syntax n) m = Syntax m
put (Depth n) m = Depth m

-- the faults that the other parser makes too: with b all, else refused tokens alone
abbrev pub Kept : Bool → Fault → Type 0
Kept b (Syntax n) = Unit {0}
Kept b (Depth n) = b ≡ true

-- q reads a off all tokens that begin with those that were used and go on with the same token
pub record Went {A : Type 0} (q : Parser A) (ts : List Token) (a : A) (rest : List Token) : Type 0 where
  pub used : List Token
  pub parts : ts ≡ used ++ rest
  pub alike : (r : List Token) → first r ≡ first rest → q (used ++ r) ≡ ok a r

-- the same for a fault
pub record Stopped {A : Type 0} (q : Parser A) (ts : List Token) (f : Fault) : Type 0 where
  pub used : List Token
  pub rest : List Token
  pub parts : ts ≡ used ++ rest
  pub left : length rest ≡ left_of f
  pub alike : (r : List Token) → first r ≡ first rest → q (used ++ r) ≡ Err (put f (length r))

abbrev pub LikeAt : {A : Type 0} → Bool → Parser A → List Token → Read A → Type 0
LikeAt b q ts (Ok x) = Went q ts x.0 x.1
LikeAt b q ts (Err f) = Kept b f → Stopped q ts f

-- q does what p does: as a record, so that the parsers are found
pub record Does {A : Type 0} (b : Bool) (p q : Parser A) : Type 0 where
  pub run : (ts : List Token) → LikeAt b q ts (p ts)

pub first_front : (used r s : List Token) → first r ≡ first s → first (used ++ r) ≡ first (used ++ s)
first_front [] r s h = h
first_front (t ∷ used) r s h = refl

pub first_has : (more : Token → Bool) (r s : List Token) → first r ≡ first s → head_has more r ≡ head_has more s
first_has more [] [] h = refl
first_has more [] (t ∷ s) h = absurd cc
first_has more (t ∷ r) [] h = absurd cc
first_has more (t ∷ r) (u ∷ s) h = let e : t ≡ u = cc in ap (λ (v : Token). more v) e

pub after : {A B : Type 0} (b : Bool) (q : Parser A) (g : A → Parser B) (ts : List Token) (a : A) (mid : List Token) → Went q ts a mid → (r : Read B) → LikeAt b (g a) mid r → LikeAt b (λ us. q us >>= λ x. g x.0 x.1) ts r
after b q g ts a mid w (Ok y) v = record {
  used = w.used ++ v.used;
  parts = w.parts ∙ ap (λ (l : List Token). w.used ++ l) v.parts ∙ sym (append_assoc w.used v.used y.1);
  alike = λ r h. rw (append_assoc w.used v.used r, w.alike (v.used ++ r) (first_front v.used r y.1 h ∙ ap first (sym v.parts))) (v.alike r h);
}
after b q g ts a mid w (Err f) v = λ k. let s = v k in record {
  used = w.used ++ s.used;
  rest = s.rest;
  parts = w.parts ∙ ap (λ (l : List Token). w.used ++ l) s.parts ∙ sym (append_assoc w.used s.used s.rest);
  left = s.left;
  alike = λ r h. rw (append_assoc w.used s.used r, w.alike (s.used ++ r) (first_front s.used r s.rest h ∙ ap first (sym s.parts))) (s.alike r h);
}

pub bind_like : {A B : Type 0} (b : Bool) (q : Parser A) (f g : A → Parser B) (ts : List Token) (r : Read A) → LikeAt b q ts r → ((a : A) → Does b (f a) (g a)) → LikeAt b (λ us. q us >>= λ x. g x.0 x.1) ts (r >>= λ x. f x.0 x.1)
bind_like b q f g ts (Ok x) w h = after b q g ts x.0 x.1 w (f x.0 x.1) ((h x.0).run x.1)
bind_like b q f g ts (Err e) s h = λ k. let t = s k in record { used = t.used; rest = t.rest; parts = t.parts; left = t.left; alike = λ r e'. rw (t.alike r e') refl }

-- one parser and then another
pub then_like : {A B : Type 0} {b : Bool} {p q : Parser A} {f g : A → Parser B} → Does b p q → ((a : A) → Does b (f a) (g a)) → Does b (λ ts. p ts >>= λ x. f x.0 x.1) (λ ts. q ts >>= λ x. g x.0 x.1)
then_like {b = b} {p = p} {q = q} {f = f} {g = g} hp hf = record { run = λ ts. bind_like b q f g ts (p ts) (hp.run ts) hf }

pub done_like : {A : Type 0} {b : Bool} (a : A) → Does b (ok a) (ok a)
done_like {b = b} a = record { run = λ ts. record { used = []; parts = refl; alike = λ r h. refl } }

pub fail_like : {A : Type 0} {b : Bool} → Does {A = A} b fails_at fails_at
fail_like {b = b} = record { run = λ ts k. record { used = []; rest = ts; parts = refl; left = refl; alike = λ r h. refl } }

take_none : (test : Token → Bool) (r : List Token) → first r ≡ None → take_at test r ≡ Err (Syntax (length r))
take_none test [] h = refl
take_none test (t ∷ r) h = absurd cc

take_other : (test : Token → Bool) (t : Token) (r : List Token) → first r ≡ Some t → test t ≡ false → take_at test r ≡ Err (Syntax (length r))
take_other test t [] h e = absurd cc
take_other test t (u ∷ r) h e = let same : u ≡ t = cc in rw (same, e) refl

take_at_like : (b : Bool) (test : Token → Bool) (t : Token) (ts : List Token) (v : Bool) → test t ≡ v → LikeAt b (take_at test) (t ∷ ts) (if v then ok t ts else Err (Syntax (suc (length ts))))
take_at_like b test t ts true e = record { used = t ∷ []; parts = refl; alike = λ r h. rw e refl }
take_at_like b test t ts false e = λ k. record { used = []; rest = t ∷ ts; parts = refl; left = refl; alike = λ r h. take_other test t r h e }

take_all : (b : Bool) (test : Token → Bool) (ts : List Token) → LikeAt b (take_at test) ts (take_at test ts)
take_all b test [] = λ k. record { used = []; rest = []; parts = refl; left = refl; alike = take_none test }
take_all b test (t ∷ ts) = take_at_like b test t ts (test t) refl

pub take_like : {b : Bool} (test : Token → Bool) → Does b (take_at test) (take_at test)
take_like {b = b} test = record { run = take_all b test }

here_none : (r : List Token) → first r ≡ None → here_at r ≡ Err (Syntax (length r))
unfolding here_at
here_none [] h = refl
here_none (t ∷ r) h = absurd cc

here_other : (t : Token) (r : List Token) → first r ≡ Some t → here_at r ≡ ok t.place r
unfolding here_at
here_other t [] h = absurd cc
here_other t (u ∷ r) h = let same : u ≡ t = cc in ap (λ (v : Token). ok v.place (u ∷ r)) same

here_all : (b : Bool) (ts : List Token) → LikeAt b here_at ts (here_at ts)
unfolding here_at
here_all b [] = λ k. record { used = []; rest = []; parts = refl; left = refl; alike = here_none }
here_all b (t ∷ ts) = record { used = []; parts = refl; alike = here_other t }

pub here_like : {b : Bool} → Does b here_at here_at
here_like {b = b} = record { run = here_all b }

pub mark_like : {b : Bool} (s : Side) (m : Punctuator) → Does b (mark_at s m) (mark_at s m)
unfolding mark_at
mark_like s m = then_like (take_like (is_mark s m)) (λ t. done_like t.place)

pub word_like : {b : Bool} (s : Side) (k : Keyword) → Does b (word_at s k) (word_at s k)
unfolding word_at
word_like s k = then_like (take_like (is_word s k)) (λ t. done_like t.place)

pub name_like : {b : Bool} (s : Side) → Does b (name_at s) (name_at s)
unfolding name_at
name_like s = then_like (take_like (is_name s)) (λ t. done_like (record { text = t.text; place = t.place }))

if_like : {A : Type 0} (b : Bool) (more : Token → Bool) (q1 q2 : Parser A) (ts : List Token) (v : Bool) → head_has more ts ≡ v → (r1 r2 : Read A) → LikeAt b q1 ts r1 → LikeAt b q2 ts r2 → LikeAt b (λ us. if head_has more us then q1 us else q2 us) ts (if v then r1 else r2)
if_like b more q1 q2 ts true e (Ok x) r2 w h = record { used = w.used; parts = w.parts; alike = λ r g. rw (first_has more (w.used ++ r) ts (first_front w.used r x.1 g ∙ ap first (sym w.parts)) ∙ e) (w.alike r g) }
if_like b more q1 q2 ts true e (Err f) r2 w h = λ k. let s = w k in record { used = s.used; rest = s.rest; parts = s.parts; left = s.left; alike = λ r g. rw (first_has more (s.used ++ r) ts (first_front s.used r s.rest g ∙ ap first (sym s.parts)) ∙ e) (s.alike r g) }
if_like b more q1 q2 ts false e r1 (Ok x) h w = record { used = w.used; parts = w.parts; alike = λ r g. rw (first_has more (w.used ++ r) ts (first_front w.used r x.1 g ∙ ap first (sym w.parts)) ∙ e) (w.alike r g) }
if_like b more q1 q2 ts false e r1 (Err f) h w = λ k. let s = w k in record { used = s.used; rest = s.rest; parts = s.parts; left = s.left; alike = λ r g. rw (first_has more (s.used ++ r) ts (first_front s.used r s.rest g ∙ ap first (sym s.parts)) ∙ e) (s.alike r g) }

-- a choice by the next token
pub choice_like : {A : Type 0} {b : Bool} {p1 q1 p2 q2 : Parser A} (more : Token → Bool) → Does b p1 q1 → Does b p2 q2 → Does b (λ ts. if head_has more ts then p1 ts else p2 ts) (λ ts. if head_has more ts then q1 ts else q2 ts)
choice_like {b = b} {p1 = p1} {q1 = q1} {p2 = p2} {q2 = q2} more h1 h2 = record { run = λ ts. if_like b more q1 q2 ts (head_has more ts) refl (p1 ts) (p2 ts) (h1.run ts) (h2.run ts) }

both_like_at : {A : Type 0} (b v : Bool) (more : Token → Bool) (p1 q1 p2 q2 : Parser A) → Does b p1 q1 → Does b p2 q2 → (ts : List Token) → LikeAt b (λ us. if v && head_has more us then q1 us else q2 us) ts (if v && head_has more ts then p1 ts else p2 ts)
both_like_at b true more p1 q1 p2 q2 h1 h2 ts = if_like b more q1 q2 ts (head_has more ts) refl (p1 ts) (p2 ts) (h1.run ts) (h2.run ts)
both_like_at b false more p1 q1 p2 q2 h1 h2 ts = h2.run ts

-- a choice by what was read, and the next token
pub both_like : {A : Type 0} {b : Bool} {p1 q1 p2 q2 : Parser A} (v : Bool) (more : Token → Bool) → Does b p1 q1 → Does b p2 q2 → Does b (λ ts. if v && head_has more ts then p1 ts else p2 ts) (λ ts. if v && head_has more ts then q1 ts else q2 ts)
both_like {b = b} {p1 = p1} {q1 = q1} {p2 = p2} {q2 = q2} v more h1 h2 = record { run = both_like_at b v more p1 q1 p2 q2 h1 h2 }

same_split : (a b r s : List Token) → a ++ r ≡ b ++ s → length r ≡ length s → (a ≡ b) × (r ≡ s)
same_split [] [] r s e h = (refl, e)
same_split [] (y ∷ b) r s e h = absurd (omega (arith, ap length e, length-append b s))
same_split (x ∷ a) [] r s e h = absurd (omega (arith, ap length e, length-append a r))
same_split (x ∷ a) (y ∷ b) r s e h =
    let rest : a ++ r ≡ b ++ s = cc in
    let head : x ≡ y = cc in
    let both = same_split a b r s rest h in
    ((λ i. head i ∷ both.0 i), both.1)

-- a fault of p on some tokens is one of q on all others that are alike up to its place
pub stops_too : {A : Type 0} {b : Bool} {p q : Parser A} → Does b p q → (f : Fault) → Kept b f → (ts other : List Token) → p ts ≡ Err f → BeginsUpTo ts (left_of f) other → (m : ℕ) × (q other ≡ Err (put f m))
stops_too {A = A} {b = b} {p = p} {q = q} h f kept ts other e begins =
    let like : LikeAt b q ts (Err f) = subst (λ (r : Read A). LikeAt b q ts r) e (h.run ts) in
    let v : Stopped q ts f = like kept in
    let both = same_split v.used begins.used v.rest begins.left (sym v.parts ∙ begins.parts) (v.left ∙ sym begins.count) in
    let stops = v.alike begins.others (begins.alike ∙ ap first (sym both.1)) in
    let same_text : other ≡ v.used ++ begins.others = begins.other_parts ∙ ap (λ (l : List Token). l ++ begins.others) (sym both.0) in
    (length begins.others, subst (λ (l : List Token). q l ≡ Err (put f (length begins.others))) (sym same_text) stops)
