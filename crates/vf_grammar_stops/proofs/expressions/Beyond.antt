-- How far a parser gets, whether it reads something or refuses a token.
use Rattle.std.proofs.Common.{◌≡◌, ℕ, zero, suc, ◌+◌, ◌≤◌, ◌++◌, Bool, true, false, List, length, Ok, Err, ap, ◌∙◌, length-append, arith}
use Rattle.std.specs.Prelude.{if◌then◌else◌}
use Rattle.vf_lexer.specs.declared.token.Token.{Token}
use Rattle.vf_syntax.specs.Walks.{head_has}
use Rattle.vf_cursor.specs.declared.fault.Fault.TheVariants.{Syntax, Depth}
use Rattle.vf_cursor.specs.Parsing.{Read, Parser, ok, ◌>>=◌, many_at}
use Rattle.vf_grammar_stops.specs.types.Stops.{first}
use Rattle.vf_grammar_stops.proofs.types.Local.{LikeAt, Does}

-- of n tokens so many at least were gone past, unless nothing may nest so deep
abbrev pub Beyond : {A : Type 0} → ℕ → Read A → ℕ → Type 0
Beyond j (Ok x) n = length x.1 + j ≤ n
Beyond j (Err (Syntax k)) n = k + j ≤ n
Beyond j (Err (Depth k)) n = Unit {0}

-- a parser leaves no more tokens than it was given
pub record Bounded {A : Type 0} (p : Parser A) : Type 0 where
  pub bound : (ts : List Token) → Beyond 0 (p ts) (length ts)

shorter : (ts used rest : List Token) → ts ≡ used ++ rest → length rest ≤ length ts
shorter ts used rest e = omega (arith, ap length e, length-append used rest)

bounded_at : {A : Type 0} (q : Parser A) (ts : List Token) (r : Read A) → LikeAt false q ts r → Beyond 0 r (length ts)
bounded_at q ts (Ok x) w = let s = shorter ts w.used x.1 w.parts in omega (arith, s)
bounded_at q ts (Err (Syntax k)) w = let v = w tt in let s = shorter ts v.used v.rest v.parts in omega (arith, s, v.left)
bounded_at q ts (Err (Depth k)) w = tt

pub bounded : {A : Type 0} {p q : Parser A} → Does false p q → Bounded p
bounded {p = p} {q = q} h = record { bound = λ ts. bounded_at q ts (p ts) (h.run ts) }

-- a parser that is given fewer tokens gets further
pub further : {A : Type 0} (i j n m : ℕ) (r : Read A) → n + j ≤ m + i → Beyond i r n → Beyond j r m
further i j n m (Ok x) le h = omega (arith, le, h)
further i j n m (Err (Syntax k)) le h = omega (arith, le, h)
further i j n m (Err (Depth k)) le h = tt

-- what comes next does not go back
pub beyond_bind : {A B : Type 0} (j n : ℕ) (r : Read A) (g : A → Parser B) → Beyond j r n → ((x : A) → Bounded (g x)) → Beyond j (r >>= λ x. g x.0 x.1) n
beyond_bind j n (Ok x) g h hg = further 0 j (length x.1) n (g x.0 x.1) (omega (arith, h)) ((hg x.0).bound x.1)
beyond_bind j n (Err (Syntax k)) g h hg = h
beyond_bind j n (Err (Depth k)) g h hg = tt

turns : {A : Type 0} (n : ℕ) (more : Token → Bool) (step : A → Parser A) → ((a : A) → Bounded (step a)) → ((a : A) → Bounded (many_at n more step a)) → (a : A) (ts : List Token) (v : Bool)
    → Beyond 0 (if v then (step a ts >>= λ x. many_at n more step x.0 x.1) else ok a ts) (length ts)
turns n more step h ih a ts true = beyond_bind 0 (length ts) (step a ts) (many_at n more step) ((h a).bound ts) ih
turns n more step h ih a ts false = omega arith

-- so many turns of a loop do not go back either
pub many_bounded : {A : Type 0} (n : ℕ) (more : Token → Bool) (step : A → Parser A) → ((a : A) → Bounded (step a)) → (a : A) → Bounded (many_at n more step a)
many_bounded zero more step h a = record { bound = λ ts. omega arith }
many_bounded (suc n) more step h a = record { bound = λ ts. turns n more step h (many_bounded n more step h) a ts (head_has more ts) }

-- where a parser does as another one on tokens that are alike as far as something got, it stops alike there
pub seen_like : {A : Type 0} (g h : Parser A) (ts : List Token) (r : Read A)
    → ((used rest us : List Token) → ts ≡ used ++ rest → ((j n : ℕ) → Beyond j r n → length rest + j ≤ n) → first us ≡ first rest → h (used ++ us) ≡ g (used ++ us)) → LikeAt false g ts r → LikeAt false h ts r
seen_like g h ts (Ok x) eq w = record { used = w.used; parts = w.parts; alike = λ us e. eq w.used x.1 us w.parts (λ j n b. b) e ∙ w.alike us e }
seen_like g h ts (Err (Syntax k)) eq w = λ c. let s = w c in record { used = s.used; rest = s.rest; parts = s.parts; left = s.left; alike = λ us e. eq s.used s.rest us s.parts (λ j n b. omega (arith, s.left, b)) e ∙ s.alike us e }
seen_like g h ts (Err (Depth k)) eq w = λ c. absurd cc
