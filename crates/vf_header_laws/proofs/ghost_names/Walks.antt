-- How a declaration of annotations that comes to its end went.
use Rattle.std.proofs.Common.{◌≡◌, refl, sym, ◌∙◌, ℕ, List, [], ◌∷◌, ◌++◌, append_assoc, append-nil, Option, Some, None, Result, Ok, Err}
use Rattle.vf_base.specs.declared.refusal.Refusal.{Refusal}
use Rattle.vf_declared.specs.declared.scope.Scope.{Scope}
use Rattle.vf_syntax.specs.declared.written.Name.{Name}
use Rattle.vf_datatypes.specs.NewNames.{parameter_refusal, parameters_behind}
use Rattle.vf_datatypes.specs.Walking.{behind, unless}
use Rattle.vf_header_laws.proofs.c_names.Steps.{apart, ok_same}

-- what a part gives, and what comes next
pub record Through {A B : Type 0} (f : A → Result B Refusal) (w : Result A Refusal) (t : B) : Type 0 where
  pub at : A
  pub first : w ≡ Ok at
  pub next : f at ≡ Ok t

pub through : {A B : Type 0} {t : B} (f : A → Result B Refusal) (w : Result A Refusal) → behind f w ≡ Ok t → Through f w t
through f (Ok a) h = record { at = a; first = refl; next = h }
through f (Err x) h = absurd (apart h)

-- nothing is refused in front of what is given
pub record Unrefused {A : Type 0} (o : Option Refusal) (w : Result A Refusal) (t : A) : Type 0 where
  pub none : o ≡ None
  pub gives : w ≡ Ok t

pub unrefused : {A : Type 0} {t : A} (o : Option Refusal) (w : Result A Refusal) → unless o w ≡ Ok t → Unrefused o w t
unrefused None w h = record { none = refl; gives = h }
unrefused (Some x) w h = absurd (apart h)

-- ---- type parameters
abbrev pub texts : List Name → List (List ℕ)
texts [] = []
texts (n ∷ ns) = n.text ∷ texts ns

-- type parameters are as they are written
pub parameters_are : (s : Scope) (ns : List Name) (ps qs : List (List ℕ)) → parameters_behind s ns ps ≡ Ok qs → qs ≡ ps ++ texts ns
parameters_are s [] ps qs h = sym (ok_same h) ∙ sym (append-nil ps)
parameters_are s (n ∷ ns) ps qs h =
    let k = unrefused (parameter_refusal s ps n) (parameters_behind s ns (ps ++ n.text ∷ [])) h in
    parameters_are s ns (ps ++ n.text ∷ []) qs k.gives ∙ append_assoc ps (n.text ∷ []) (texts ns)

pub parameters_alike : {qs rs : List (List ℕ)} (s t : Scope) (ns : List Name) → parameters_behind s ns [] ≡ Ok qs → parameters_behind t ns [] ≡ Ok rs → qs ≡ rs
parameters_alike {qs} {rs} s t ns h k = parameters_are s ns [] qs h ∙ sym (parameters_are t ns [] rs k)
