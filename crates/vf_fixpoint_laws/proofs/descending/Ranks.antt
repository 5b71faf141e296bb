-- The rank of an identity is the number of its name.
use Rattle.std.proofs.Common.{◌≡◌, refl, ap, ◌∙◌, ℕ, Bool, true, false, List, [], ◌∷◌, ◌++◌, Some, None}
use Rattle.std.specs.Prelude.{◌||◌, nat_eq, if◌then◌else◌, codes, is_some}
use Rattle.std.specs.Option.{option_or}
use Rattle.vf_names.specs.Names.{number_of}
use Rattle.vf_declared.specs.declared.scope.Scope.{Scope}
use Rattle.vf_terms.specs.Named.{first_path, identity_of}
use Rattle.vf_defining.specs.Bodies.{place_or_first}
use Rattle.vf_fixpoint_laws.specs.well_declared.Names.{is_marked, mark}
use Rattle.vf_fixpoint_laws.specs.descending.Ranks.{HavePlainNames, name_in, rank_of, ranks_of}

-- no name stands in what has no `#`
plain_alone : (x : List ℕ) → is_marked x ≡ false → name_in x ≡ None
plain_alone [] e = refl
plain_alone (c ∷ cs) e = by (nat_eq mark c) e (plain_alone cs)
  where
    by : (b : Bool) → (b || is_marked cs) ≡ false → (is_marked cs ≡ false → name_in cs ≡ None) → option_or (name_in cs) (if b then Some cs else None) ≡ None
    by true e h = absurd cc
    by false e h = ap (λ o. option_or o None) (h e)

-- a name without a `#` is what stands behind the last one
pub name_behind : (p x : List ℕ) → is_marked x ≡ false → name_in (p ++ codes "#" ++ x) ≡ Some x
name_behind [] x e = ap (λ o. option_or o (Some x)) (plain_alone x e)
name_behind (c ∷ p) x e = ap (λ o. option_or o (if nat_eq mark c then Some (p ++ codes "#" ++ x) else None)) (name_behind p x e)

module _ (s : Scope) (plain : HavePlainNames s) (paths : List (List ℕ)) (files x : List ℕ) (j : ℕ) (there : number_of s.names x ≡ Some j) where
  is_plain : is_marked x ≡ false
  is_plain = plain x (ap is_some there)

  -- an identity tells its name
  pub named : name_in (identity_of paths files x) ≡ Some x
  named = name_behind (first_path paths files) x is_plain

  pub rank_is : ranks_of s (identity_of paths files x) ≡ j
  rank_is = ap (rank_of s) named ∙ ap place_or_first there
