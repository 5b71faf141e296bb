-- Locals that stand for arguments have values of their sorts.
use Rattle.std.proofs.Common.{◌≡◌, ℕ, zero, suc, ◌+◌, List, [], ◌∷◌, Some, sym, subst, ap, arith}
use Rattle.std.specs.Prelude.{map, slice_get}
use Rattle.vf_model.specs.Values.{Values, none, more}
use Rattle.vf_meaning.specs.Valuations.{value_at, of_arguments}
use Rattle.vf_meaning.specs.GhostValues.{Interpretation}
use Rattle.vf_closure.specs.Values.{value}
use Rattle.vf_sorts.specs.Sorts.{Sort}
use Rattle.vf_sorts.specs.Unknowns.{Known, any_sort}
use Rattle.vf_declared.specs.declared.locals.Local.{Local}
use Rattle.vf_declared.specs.declared.scope.Scope.{Scope}
use Rattle.vf_declared.specs.Changes.{IsAligned}
use Rattle.vf_sorting.specs.Schemes.{sort_of_local}
use Rattle.vf_binding.specs.Bound.{bound_local}
use Rattle.vf_equations.specs.Fixpoints.{around_fixpoint}
use Rattle.vf_terms.specs.Settings.{Setting, settled}
use Rattle.vf_terms.specs.Named.{local_term}
use Rattle.vf_defining.specs.Symbols.{symbol_of, symbols_from, with_symbols}
use Rattle.vf_fixpoint_laws.specs.values.Instances.{Instance, settled_at}
use Rattle.vf_fixpoint_laws.specs.values.Declares.{Declared}
use Rattle.vf_fixpoint_laws.specs.values.Worth.{HasValue, HaveValues, Sets}
use Rattle.vf_fixpoint_laws.specs.values.Given.{GivesValues}
use Rattle.vf_fixpoint_laws.proofs.values.Having.{kinded}

-- the symbol of a local
symbol_there : (k : Known) (ms : List Local) (from m j : ℕ) (l : Local) → from + m ≡ j → slice_get ms m ≡ Some l → slice_get (symbols_from k from ms) m ≡ Some (symbol_of k j l)
symbol_there k [] from m j l p e = absurd cc
symbol_there k (y ∷ ms) from zero j l p e =
    let q : y ≡ l = cc in
    let r : from ≡ j = omega (arith, p) in
    subst (λ (z : Local). Some (symbol_of k from y) ≡ Some (symbol_of k j z)) q (ap (λ (n : ℕ). Some (symbol_of k n y)) r)
symbol_there k (y ∷ ms) from (suc m) j l p e = symbol_there k ms (suc from) m j l (omega (arith, p)) e

-- the value of an argument
value_there : (d : Declared) (sets : Sets) (F : Sort → Sort) (ts : List Sort) (ws : Values) (m : ℕ) (l : Local) → HaveValues d sets ws (map F ts) → slice_get (map bound_local ts) m ≡ Some l → HasValue d sets (value_at ws m) (F (sort_of_local l))
value_there d sets F [] ws m l h e = absurd cc
value_there d sets F (t ∷ ts) none m l h e = absurd h
value_there d sets F (t ∷ ts) (more w ws) zero l h e = let q : bound_local t ≡ l = cc in subst (λ (z : Local). HasValue d sets w (F (sort_of_local z))) q h.0
value_there d sets F (t ∷ ts) (more w ws) (suc m) l h e = value_there d sets F ts ws m l h.1 e

module _ (d : Declared) (u : Scope) (n : ℕ) (k : Known) (paths : List (List ℕ)) (i : Interpretation) (sets : Sets) (g : Instance) where
  -- the setting in which locals stand for arguments
  abbrev pub In : Setting
  In = with_symbols u (around_fixpoint n) k paths

  -- its locals have values, where the arguments have
  pub gives_symbols : (ts : List Sort) (ws : Values) → IsAligned u.locals → u.locals.meanings ≡ map bound_local ts → HaveValues d sets ws (map (settled_at In g) ts) → GivesValues d In i (of_arguments ws) sets g
  gives_symbols ts ws aligned same have = record {
    aligned = aligned;
    locals = λ m l e.
        subst (λ o. HasValue d sets (value i (of_arguments ws) (local_term o)) (settled_at In g (sort_of_local l))) (sym (symbol_there k u.locals.meanings 0 m m l (omega arith) e))
        (kinded d sets g any_sort (value_at ws m) (settled In (sort_of_local l))
        (value_there d sets (settled_at In g) ts ws m l have (subst (λ (ms : List Local). slice_get ms m ≡ Some l) same e)));
    result = λ t e. absurd cc;
    this_value = λ e. absurd cc;
    thread = λ e. absurd cc;
  }
