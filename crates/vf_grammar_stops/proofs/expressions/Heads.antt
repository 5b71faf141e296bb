-- Choices that hang on the first token alone are made alike on tokens that are alike.
use Rattle.std.proofs.Common.{◌≡◌, suc, Bool, true, false, List, [], ◌∷◌, length, Option, Some, None, Err, refl, ap, ◌∙◌}
use Rattle.std.specs.Prelude.{if◌then◌else◌}
use Rattle.vf_lexer.specs.declared.token.Kind.{Kind}
use Rattle.vf_lexer.specs.declared.token.Token.{Token}
use Rattle.vf_syntax.specs.declared.side.Side.{Side}
use Rattle.vf_syntax.specs.declared.side.Side.TheVariants.{Real}
use Rattle.vf_syntax.specs.declared.operator.Level.{Level}
use Rattle.vf_cursor.specs.declared.fault.Fault.TheVariants.{Syntax}
use Rattle.vf_cursor.specs.Parsing.{Parser, told_by, next_by, is_there, found_at, kind_at, number_at, character_at, number_of, character_of, punctuator_of}
use Rattle.vf_syntax.specs.Written.{unary_of, binary_of, assignment_of, step_of}
use Rattle.vf_cursor.specs.Types.{next_on, next_unary, next_assignment, next_step, found_then, on_level}
use Rattle.vf_grammar_stops.specs.types.Stops.{first}
use Rattle.vf_grammar_stops.proofs.types.Local.{LikeAt, Does}
use Rattle.vf_grammar_stops.proofs.types.LoopAlike.{transfer}

-- what is looked for hangs on the first token alone
abbrev pub Hangs : {X : Type 0} → (List Token → X) → Type 0
Hangs look = (r s : List Token) → first r ≡ first s → look r ≡ look s

pub next_hangs : {A : Type 0} (s : Side) (f : Kind → Option A) → Hangs (next_by s f)
next_hangs s f [] [] h = refl
next_hangs s f [] (t ∷ us) h = absurd cc
next_hangs s f (t ∷ r) [] h = absurd cc
next_hangs s f (t ∷ r) (u ∷ us) h = let e : t ≡ u = cc in ap (λ (v : Token). told_by s f v) e

pub number_hangs : Hangs (λ (ts : List Token). is_there (next_by Real number_of ts))
number_hangs r s h = ap is_there (next_hangs Real number_of r s h)

pub character_hangs : Hangs (λ (ts : List Token). is_there (next_by Real character_of ts))
character_hangs r s h = ap is_there (next_hangs Real character_of r s h)

pub unary_hangs : Hangs (next_unary Real)
unfolding next_unary
unary_hangs r s h = ap (λ o. found_then o unary_of) (next_hangs Real punctuator_of r s h)

pub level_hangs : (l : Level) → Hangs (next_on Real l)
unfolding next_on
level_hangs l r s h = ap (λ o. found_then (found_then o binary_of) (on_level l)) (next_hangs Real punctuator_of r s h)

pub assignment_hangs : Hangs next_assignment
unfolding next_assignment
assignment_hangs r s h = ap (λ o. found_then o assignment_of) (next_hangs Real punctuator_of r s h)

pub step_hangs : Hangs next_step
unfolding next_step
step_hangs r s h = ap (λ o. found_then o step_of) (next_hangs Real punctuator_of r s h)

-- a choice by what hangs on the first token
pub found_like : {A X : Type 0} {b : Bool} (look : List Token → X) → Hangs look → (p q : X → Parser A) → ((x : X) → Does b (p x) (q x)) → Does b (λ ts. p (look ts) ts) (λ ts. q (look ts) ts)
found_like {b = b} look hangs p q h = record { run = λ ts. transfer b (q (look ts)) (λ us. q (look us) us) ts (p (look ts) ts) (λ us e. ap (λ x. q x us) (hangs us ts e)) ((h (look ts)).run ts) }

by_value : {A : Type 0} (b v : Bool) (p1 q1 p2 q2 : Parser A) → Does b p1 q1 → Does b p2 q2 → Does b (λ ts. if v then p1 ts else p2 ts) (λ ts. if v then q1 ts else q2 ts)
by_value b true p1 q1 p2 q2 h1 h2 = record { run = λ ts. h1.run ts }
by_value b false p1 q1 p2 q2 h1 h2 = record { run = λ ts. h2.run ts }

-- a choice by what was read
pub fixed_like : {A : Type 0} {b : Bool} {p1 q1 p2 q2 : Parser A} (v : Bool) → Does b p1 q1 → Does b p2 q2 → Does b (λ ts. if v then p1 ts else p2 ts) (λ ts. if v then q1 ts else q2 ts)
fixed_like {b = b} {p1 = p1} {q1 = q1} {p2 = p2} {q2 = q2} v h1 h2 = by_value b v p1 q1 p2 q2 h1 h2

-- a choice of two by what hangs on the first token
pub test_like : {A : Type 0} {b : Bool} {p1 q1 p2 q2 : Parser A} (look : List Token → Bool) → Hangs look → Does b p1 q1 → Does b p2 q2 → Does b (λ ts. if look ts then p1 ts else p2 ts) (λ ts. if look ts then q1 ts else q2 ts)
test_like {b = b} {p1 = p1} {q1 = q1} {p2 = p2} {q2 = q2} look hangs h1 h2 = found_like look hangs (λ v ts. if v then p1 ts else p2 ts) (λ v ts. if v then q1 ts else q2 ts) (λ v. by_value b v p1 q1 p2 q2 h1 h2)

kind_none : {A : Type 0} (s : Side) (f : Kind → Option A) (r : List Token) → first r ≡ None → kind_at s f r ≡ Err (Syntax (length r))
kind_none s f [] h = refl
kind_none s f (t ∷ r) h = absurd cc

kind_other : {A : Type 0} (s : Side) (f : Kind → Option A) (t : Token) (r : List Token) → first r ≡ Some t → told_by s f t ≡ None → kind_at s f r ≡ Err (Syntax (length r))
kind_other s f t [] h e = absurd cc
kind_other {A = A} s f t (u ∷ r) h e = let same : u ≡ t = cc in ap (λ (o : Option A). found_at o (suc (length r)) r) (ap (λ (v : Token). told_by s f v) same ∙ e)

kind_told : {A : Type 0} (b : Bool) (s : Side) (f : Kind → Option A) (t : Token) (ts : List Token) (o : Option A) → told_by s f t ≡ o → LikeAt b (kind_at s f) (t ∷ ts) (found_at o (suc (length ts)) ts)
kind_told b s f t ts None e = λ k. record { used = []; rest = t ∷ ts; parts = refl; left = refl; alike = λ r h. kind_other s f t r h e }
kind_told {A = A} b s f t ts (Some x) e = record { used = t ∷ []; parts = refl; alike = λ r h. ap (λ (o : Option A). found_at o (suc (length r)) r) e }

kind_all : {A : Type 0} (b : Bool) (s : Side) (f : Kind → Option A) (ts : List Token) → LikeAt b (kind_at s f) ts (kind_at s f ts)
kind_all b s f [] = λ k. record { used = []; rest = []; parts = refl; left = refl; alike = kind_none s f }
kind_all b s f (t ∷ ts) = kind_told b s f t ts (told_by s f t) refl

pub kind_like : {A : Type 0} {b : Bool} (s : Side) (f : Kind → Option A) → Does b (kind_at s f) (kind_at s f)
kind_like {b = b} s f = record { run = kind_all b s f }

pub number_like : {b : Bool} → Does b (number_at Real) (number_at Real)
unfolding number_at
number_like = kind_like Real number_of

pub character_like : {b : Bool} → Does b character_at character_at
unfolding character_at
character_like = kind_like Real character_of
