-- One part of the text after the other: what follows is looked at where nothing in front of it was refused.
use Rattle.std.specs.Prelude.{Bool, true, false, Option, Some, None, Result, Ok, Err}
use Rattle.vf_base.specs.declared.refusal.Refusal.{Refusal}

-- what comes of a part and of what follows it: the refusal of the part, or else what what follows comes to
unfoldable pub after : {A B : Type 0} → (A → Result B Refusal) → Result A Refusal → Result B Refusal
after f (Ok a) = f a
after f (Err x) = Err x

-- a choice by a test
unfoldable pub choose : {A : Type 0} → Bool → A → A → A
choose true x y = x
choose false x y = y

-- something, unless it is refused
unfoldable pub unless_refused : {A : Type 0} → A → Option Refusal → Result A Refusal
unless_refused a None = Ok a
unless_refused a (Some x) = Err x

-- two things together
abbrev pub pair : {A B : Type 0} → A → B → A × B
pair a b = (a, b)
