-- Loops that collect items stop alike on tokens that are alike.
use Rattle.std.proofs.Common.{◌≡◌, ℕ, zero, suc, ◌≤◌, ◌<◌, ◌++◌, Bool, true, false, List, [], ◌∷◌, length, Option, Some, None, Result, Ok, Err, refl, sym, subst, ap, ◌∙◌, arith}
use Rattle.std.specs.Prelude.{if◌then◌else◌}
use Rattle.vf_lexer.specs.declared.token.Token.{Token}
use Rattle.vf_syntax.specs.Walks.{head_has}
use Rattle.vf_cursor.specs.declared.fault.Fault.{Fault}
use Rattle.vf_cursor.specs.Parsing.{Read, Parser, ok, ◌>>=◌, many_at, many, item_step}
use Rattle.vf_cursor.proofs.Facts.{bind_ok, moved}
use Rattle.vf_cursor.proofs.Loop.{many_stops}
use Rattle.vf_grammar_stops.specs.types.Stops.{first}
use Rattle.vf_grammar_stops.proofs.types.Local.{LikeAt, Went, Stopped, Does, then_like, done_like, first_front, first_has, after}

-- what a parser reads takes a token at least
abbrev pub Takes : {A : Type 0} → Parser A → Type 0
Takes {A = A} q = (ts : List Token) (x : A) (rest : List Token) → q ts ≡ ok x rest → length rest < length ts

pub step_takes : {A : Type 0} (q : Parser A) → Takes q → (xs : List A) → Takes (item_step q xs)
step_takes {A = A} q hq xs ts ys rest e =
    let x = bind_ok {r = q ts} e in
    moved (λ (z : List A) r. length r < length ts) x.2 (hq ts x.0.0 x.0.1 x.1)

bind_same : {A B : Type 0} (r : Result A Fault) (f g : A → Result B Fault) → ((x : A) → r ≡ Ok x → f x ≡ g x) → (r >>= f) ≡ (r >>= g)
bind_same (Ok x) f g h = h x refl
bind_same (Err e) f g h = refl

if_same : {X : Type 0} (v : Bool) (x y z : X) → (v ≡ true → x ≡ y) → (if v then x else z) ≡ (if v then y else z)
if_same true x y z h = h refl
if_same false x y z h = refl

-- enough turns are enough
many_enough : {A : Type 0} (more : Token → Bool) (step : A → Parser A) → ((a : A) → Takes (step a)) → (n m : ℕ) (a : A) (ts : List Token) → length ts ≤ n → length ts ≤ m → many_at n more step a ts ≡ many_at m more step a ts
many_enough more step hs zero zero a ts hn hm = refl
many_enough more step hs zero (suc m) a [] hn hm = refl
many_enough more step hs zero (suc m) a (t ∷ ts) hn hm = absurd (omega (arith, hn))
many_enough more step hs (suc n) zero a [] hn hm = refl
many_enough more step hs (suc n) zero a (t ∷ ts) hn hm = absurd (omega (arith, hm))
many_enough more step hs (suc n) (suc m) a ts hn hm =
    if_same (head_has more ts) _ _ _ (λ h. bind_same (step a ts) (λ x. many_at n more step x.0 x.1) (λ x. many_at m more step x.0 x.1) (λ x e. let g = hs a ts x.0 x.1 e in many_enough more step hs n m x.0 x.1 (omega (arith, hn, g)) (omega (arith, hm, g))))

-- one turn of a loop
turn : {A : Type 0} (more : Token → Bool) (step : A → Parser A) → ((a : A) → Takes (step a)) → (a : A) (us : List Token) → head_has more us ≡ true → many more step a us ≡ (step a us >>= λ x. many more step x.0 x.1)
turn more step hs a [] h = absurd cc
turn more step hs a (t ∷ us) h = rw h (bind_same (step a (t ∷ us)) (λ x. many_at (length us) more step x.0 x.1) (λ x. many more step x.0 x.1) (λ x e. let g = hs a (t ∷ us) x.0 x.1 e in many_enough more step hs (length us) (length x.1) x.0 x.1 (omega (arith, g)) (omega arith)))

pub transfer : {A : Type 0} (b : Bool) (g h : Parser A) (ts : List Token) (r : Read A) → ((us : List Token) → first us ≡ first ts → h us ≡ g us) → LikeAt b g ts r → LikeAt b h ts r
transfer b g h ts (Ok x) eq w = record { used = w.used; parts = w.parts; alike = λ r e. eq (w.used ++ r) (first_front w.used r x.1 e ∙ ap first (sym w.parts)) ∙ w.alike r e }
transfer b g h ts (Err f) eq w = λ k. let s = w k in record { used = s.used; rest = s.rest; parts = s.parts; left = s.left; alike = λ r e. eq (s.used ++ r) (first_front s.used r s.rest e ∙ ap first (sym s.parts)) ∙ s.alike r e }

turn_like : {A : Type 0} (b : Bool) (more : Token → Bool) (p q : A → Parser A) (n : ℕ) (a : A) (ts : List Token) → Takes (q a) → ((x : A) (mid : List Token) → length mid ≤ n → LikeAt b (many more q x) mid (many_at n more p x mid)) → length ts ≤ suc n
    → (r : Read A) → LikeAt b (q a) ts r → LikeAt b (λ us. q a us >>= λ x. many more q x.0 x.1) ts (r >>= λ x. many_at n more p x.0 x.1)
turn_like b more p q n a ts hq ih len (Ok x) w =
    let read : q a ts ≡ ok x.0 x.1 = subst (λ us. q a us ≡ ok x.0 x.1) (sym w.parts) (w.alike x.1 refl) in
    let g = hq ts x.0 x.1 read in
    after b (q a) (many more q) ts x.0 x.1 w (many_at n more p x.0 x.1) (ih x.0 x.1 (omega (arith, len, g)))
turn_like b more p q n a ts hq ih len (Err f) s = λ k. let t = s k in record { used = t.used; rest = t.rest; parts = t.parts; left = t.left; alike = λ r e. rw (t.alike r e) refl }

by_head : {A : Type 0} (b : Bool) (more : Token → Bool) (p q : A → Parser A) (n : ℕ) (a : A) (ts : List Token) → ((x : A) → Takes (q x)) → ((x : A) (mid : List Token) → length mid ≤ n → LikeAt b (many more q x) mid (many_at n more p x mid)) → length ts ≤ suc n → LikeAt b (q a) ts (p a ts)
    → (v : Bool) → head_has more ts ≡ v → LikeAt b (many more q a) ts (if v then (p a ts >>= λ x. many_at n more p x.0 x.1) else ok a ts)
by_head b more p q n a ts hq ih len w false e = record { used = []; parts = refl; alike = λ r h. many_stops more q (length r) a r (first_has more r ts h ∙ e) }
by_head b more p q n a ts hq ih len w true e =
    transfer b (λ us. q a us >>= λ x. many more q x.0 x.1) (many more q a) ts (p a ts >>= λ x. many_at n more p x.0 x.1) (λ us h. turn more q hq a us (first_has more us ts h ∙ e))
    (turn_like b more p q n a ts (hq a) ih len (p a ts) w)

loop_like_at : {A : Type 0} (b : Bool) (more : Token → Bool) (p q : A → Parser A) → ((a : A) → Does b (p a) (q a)) → ((a : A) → Takes (q a)) → (n : ℕ) (a : A) (ts : List Token) → length ts ≤ n → LikeAt b (many more q a) ts (many_at n more p a ts)
loop_like_at b more p q hp hq zero a [] len = record { used = []; parts = refl; alike = λ r e. many_stops more q (length r) a r (first_has more r [] e) }
loop_like_at b more p q hp hq zero a (t ∷ ts) len = absurd (omega (arith, len))
loop_like_at b more p q hp hq (suc n) a ts len =
    by_head b more p q n a ts hq (λ x mid l. loop_like_at b more p q hp hq n x mid l) len ((hp a).run ts) (head_has more ts) refl

-- a loop that collects items
pub items_like : {A : Type 0} {b : Bool} {p q : Parser A} (more : Token → Bool) → Does b p q → Takes q → (xs : List A) → Does b (many more (item_step p) xs) (many more (item_step q) xs)
items_like {b = b} {p = p} {q = q} more hp hq xs = record { run = λ ts. loop_like_at b more (item_step p) (item_step q) (λ ys. then_like hp (λ x. done_like (ys ++ x ∷ []))) (λ ys. step_takes q hq ys) (length ts) xs ts (omega arith) }
