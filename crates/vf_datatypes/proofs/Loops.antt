-- Loops over lists: the walk over what is left comes to the same after each item.
use Rattle.std.proofs.Common.{◌≡◌, ℕ, ◌+◌, ◌≤◌, List, [], ◌∷◌, ◌++◌, length, drop, Some, None, Result, Ok, Err, slice_get, sym, ap, ◌∙◌, subst}
use Rattle.vf_base.specs.declared.refusal.Refusal.{Refusal}
use Rattle.vf_base.specs.declared.refusal.RuleFault.{RuleFault}
use Rattle.vf_declared.specs.declared.scope.Scope.{Scope}
use Rattle.vf_syntax.specs.declared.item.Constructor.{Constructor as Written}
use Rattle.vf_syntax.specs.declared.written.Name.{Name}
use Rattle.vf_datatypes.specs.declared.own.Own.{Own}
use Rattle.vf_datatypes.specs.declared.stated.Stated.{Stated}
use Rattle.vf_datatypes.specs.Datatypes.{constructor_behind, constructors_behind}
use Rattle.vf_datatypes.specs.NewNames.{parameter_refusal, parameters_behind}
use Rattle.vf_datatypes.specs.Walking.{Gives, behind, unless}
use Rattle.vf_datatypes.proofs.Lists.{left_at, left_end, left_none}
use Rattle.vf_datatypes.proofs.Steps.{stop}

-- what the type parameters that are left come to, where one stands first
parameters_at : (s : Scope) (ns : List Name) (i : ℕ) (n : Name) (ps : List (List ℕ)) → slice_get ns i ≡ Some n → parameters_behind s (drop i ns) ps ≡ unless (parameter_refusal s ps n) (parameters_behind s (drop (i + 1) ns) (ps ++ n.text ∷ []))
parameters_at s ns i n ps h = ap (λ ys. parameters_behind s ys ps) (left_at ns i n h)

-- one more type parameter
pub parameters_more : (s : Scope) (ns : List Name) (i : ℕ) (n : Name) (ps qs : List (List ℕ)) (whole : Result (List (List ℕ)) Refusal) → slice_get ns i ≡ Some n → parameter_refusal s ps n ≡ None → qs ≡ ps ++ n.text ∷ [] → parameters_behind s (drop i ns) ps ≡ whole → parameters_behind s (drop (i + 1) ns) qs ≡ whole
parameters_more s ns i n ps qs whole h none q kept =
    ap (parameters_behind s (drop (i + 1) ns)) q
    ∙ sym (parameters_at s ns i n ps h ∙ ap (λ o. unless o (parameters_behind s (drop (i + 1) ns) (ps ++ n.text ∷ []))) none)
    ∙ kept

-- a type parameter is refused
pub parameters_stop : (s : Scope) (ns : List Name) (i : ℕ) (n : Name) (ps : List (List ℕ)) (x : Refusal) (whole : Result (List (List ℕ)) Refusal) → slice_get ns i ≡ Some n → parameter_refusal s ps n ≡ Some x → parameters_behind s (drop i ns) ps ≡ whole → whole ≡ Err x
parameters_stop s ns i n ps x whole h some kept = sym kept ∙ parameters_at s ns i n ps h ∙ ap (λ o. unless o (parameters_behind s (drop (i + 1) ns) (ps ++ n.text ∷ []))) some

-- no type parameter stands at an index
pub parameters_none : (s : Scope) (ns : List Name) (i : ℕ) (ps : List (List ℕ)) → slice_get ns i ≡ None → parameters_behind s (drop i ns) ps ≡ Ok ps
parameters_none s ns i ps h = ap (λ ys. parameters_behind s ys ps) (left_none ns i h)

-- the type parameters are done
pub parameters_end : (s : Scope) (ns : List Name) (i : ℕ) (ps : List (List ℕ)) → length ns ≤ i → parameters_behind s (drop i ns) ps ≡ Ok ps
parameters_end s ns i ps h = ap (λ ys. parameters_behind s ys ps) (left_end ns i h)

-- what the constructors that are left come to, where one stands first
constructors_at : (d : Stated) (o : Own) (cs : List Written) (i : ℕ) (c : Written) (s : Scope) → slice_get cs i ≡ Some c → constructors_behind d o (drop i cs) s ≡ behind (constructors_behind d o (drop (i + 1) cs)) (constructor_behind d o c s)
constructors_at d o cs i c s h = ap (λ ys. constructors_behind d o ys s) (left_at cs i c h)

-- one more constructor
pub constructors_more : (d : Stated) (o : Own) (cs : List Written) (i : ℕ) (c : Written) (s u : Scope) (whole : Result Scope Refusal) → slice_get cs i ≡ Some c → constructor_behind d o c s ≡ Ok u → constructors_behind d o (drop i cs) s ≡ whole → constructors_behind d o (drop (i + 1) cs) u ≡ whole
constructors_more d o cs i c s u whole h step kept = sym (constructors_at d o cs i c s h ∙ ap (behind (constructors_behind d o (drop (i + 1) cs))) step) ∙ kept

-- a constructor is refused
pub constructors_stop : (d : Stated) (o : Own) (cs : List Written) (i : ℕ) (c : Written) (s u t : Scope) (e : RuleFault) (whole : Result Scope Refusal) → slice_get cs i ≡ Some c → Gives (Err e) u (constructor_behind d o c s) → constructors_behind d o (drop i cs) s ≡ whole → Gives (Err e) t whole
constructors_stop d o cs i c s u t e whole h step kept = subst (Gives (Err e) t) (sym (constructors_at d o cs i c s h) ∙ kept) (stop (constructors_behind d o (drop (i + 1) cs)) (constructor_behind d o c s) e u t step)

-- no constructor stands at an index
pub constructors_none : (d : Stated) (o : Own) (cs : List Written) (i : ℕ) (s : Scope) → slice_get cs i ≡ None → constructors_behind d o (drop i cs) s ≡ Ok s
constructors_none d o cs i s h = ap (λ ys. constructors_behind d o ys s) (left_none cs i h)

-- the constructors are done
pub constructors_end : (d : Stated) (o : Own) (cs : List Written) (i : ℕ) (s : Scope) → length cs ≤ i → constructors_behind d o (drop i cs) s ≡ Ok s
constructors_end d o cs i s h = ap (λ ys. constructors_behind d o ys s) (left_end cs i h)
