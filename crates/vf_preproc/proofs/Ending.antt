-- The end of a file, and the place of a header that is complete.
use Rattle.std.proofs.Common.{◌≡◌, ◌≤◌, ℕ, zero, suc, List, [], ◌∷◌, ◌++◌, length, get_or, reverse, map, set, refl, sym, ap, ◌∙◌, arith}
use Rattle.std.proofs.lemmas.List.{reverse-append}
use Rattle.vf_preproc.specs.declared.groups.Group.{Group}
use Rattle.vf_preproc.specs.Directives.{outermost, no_directive}
use Rattle.vf_preproc.specs.UnitText.{Unit_so_far, Scope, closed}

-- the outermost group is the one that stands last
outermost-append : (g : Group) (gs : List Group) (f : Group) → outermost g (gs ++ f ∷ []) ≡ f.opened
outermost-append g [] f = refl
outermost-append g (h ∷ hs) f = outermost-append h hs f

closed-append : (unit : Unit_so_far) (scope : Scope) (gs : List Group) (f : Group) → closed unit scope (gs ++ f ∷ []) ≡ no_directive f.opened
closed-append unit scope [] f = refl
closed-append unit scope (g ∷ gs) f = ap no_directive (outermost-append g gs f)

-- the first group of a stack is the outermost one
pub closed_first : (unit : Unit_so_far) (scope : Scope) (stack : List Group) (f : Group) → 1 ≤ length stack → f ≡ get_or stack 0 f → closed unit scope (reverse stack) ≡ no_directive f.opened
closed_first unit scope [] f some is = absurd (omega arith)
closed_first unit scope (g ∷ gs) f some is = ap (closed unit scope) (reverse-append (g ∷ []) gs) ∙ closed-append unit scope (reverse gs) g ∙ ap (λ (x : Group). no_directive x.opened) (sym is)

-- what is written in a list stands in its image
pub map-written : {A B : Type 0} (f : A → B) (xs : List A) (i : ℕ) (x : A) → map f (set xs i x) ≡ set (map f xs) i (f x)
map-written f [] i x = refl
map-written f (y ∷ ys) zero x = refl
map-written f (y ∷ ys) (suc i) x = ap (λ zs. f y ∷ zs) (map-written f ys i x)
