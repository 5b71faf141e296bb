-- What leads to what along a relation.
use Rattle.std.specs.Prelude.{List, [], ◌∷◌}

-- a way from one thing to another in one step or more, each as the relation has it, through these things in between
abbrev pub Way : {A : Type 0} → (A → A → Type 0) → A → List A → A → Type 0
Way R a [] b = R a b
Way R a (c ∷ cs) b = R a c × Way R c cs b

-- a thing reaches another in one step or more
pub record Reaches {A : Type 0} (R : A → A → Type 0) (a b : A) : Type 0 where
  pub through : List A
  pub way : Way R a through b
