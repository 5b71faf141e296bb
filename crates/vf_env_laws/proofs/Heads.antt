-- Names that C text may declare, and what stands for them already.
use Rattle.std.proofs.Common.{◌≡◌, refl, sym, ap, ◌∙◌, ℕ, zero, suc, Bool, true, false, not, ◌&&◌, if◌then◌else◌, List, [], ◌∷◌, length, is_some, slice_get, Option, Some, None, Result, Err, arith}
use Rattle.vf_base.specs.declared.refusal.Refusal.{Refusal}
use Rattle.vf_names.specs.Names.{number_of}
use Rattle.vf_names.proofs.Numbering.{name_there}
use Rattle.vf_declared.specs.declared.declaration.Declaration.{Declaration}
use Rattle.vf_declared.specs.declared.scope.Scope.{Scope}
use Rattle.vf_declared.specs.Scopes.{at_index, at_name}
use Rattle.vf_syntax.specs.declared.written.Name.{Name}
use Rattle.vf_walk.specs.Names.{earlier, earlier_in, extended, extends, is_new, is_taken}
use Rattle.vf_erasure_laws.proofs.hidden.Coming.{Comes, none_some, ok_comes}
use Rattle.vf_env_laws.proofs.Keeping.{IsBeside, Keeps, Stands, err_comes}

-- a name keeps its number where names are kept
pub stands_kept : {s t : Scope} (x : List ℕ) (o : Option ℕ) → Keeps s t → Stands s x o → Stands t x o
stands_kept x None h e = ap (λ ns. number_of ns x) h.names ∙ e
stands_kept x (Some k) h e = (e.0, ap (λ ns. number_of ns x) h.names ∙ e.1)

-- ---- functions
-- beside each of some things stands another
nothing_beside : {A B : Type 0} (xs : List A) (ys : List B) (x : A) (k : ℕ) → length xs ≡ length ys → slice_get xs k ≡ Some x → slice_get ys k ≡ None → ⊥
nothing_beside [] ys x k e there none = absurd (none_some there)
nothing_beside (y ∷ xs) [] x k e there none = absurd (grind (arith, e))
nothing_beside (y ∷ xs) (z ∷ ys) x zero e there none = none_some (sym none)
nothing_beside (y ∷ xs) (z ∷ ys) x (suc k) e there none = nothing_beside xs ys x k (grind (arith, e)) there none

extends_stands : (s : Scope) (n : Name) (o : Option ℕ) (j : ℕ) → number_of s.names n.text ≡ Some j → Comes (Stands s n.text) (extends n o)
extends_stands s n None j e = err_comes (Stands s n.text) _
extends_stands s n (Some k) j e = ok_comes (Stands s n.text) (j, e)

placed_stands : (s : Scope) (n : Name) (b : Bool) (j : ℕ) (o : Option Declaration) → IsBeside s → number_of s.names n.text ≡ Some j → slice_get s.declarations j ≡ o → Comes (Stands s n.text) (earlier_in s n b o)
placed_stands s n b j None a e f = λ k h. absurd (nothing_beside s.names s.declarations n.text j a (name_there s.names n.text j e) f)
placed_stands s n b j (Some d) a e f = extends_stands s n (extended s n.place.file b d) j e

named_stands : (s : Scope) (n : Name) (b : Bool) (o : Option ℕ) → IsBeside s → number_of s.names n.text ≡ o → Comes (Stands s n.text) (earlier_in s n b (at_index s.declarations o))
named_stands s n b None a e = ok_comes (Stands s n.text) e
named_stands s n b (Some j) a e = placed_stands s n b j (slice_get s.declarations j) a e refl

taken_stands : (s : Scope) (n : Name) (b : Bool) (r : Result (Option ℕ) Refusal) (x : Refusal) → Comes (Stands s n.text) r → Comes (Stands s n.text) (if b then Err x else r)
taken_stands s n true r x h = err_comes (Stands s n.text) x
taken_stands s n false r x h = h

-- what a prototype or a body is of: of nothing where its name is new
pub earlier_stands : (s : Scope) (n : Name) (b : Bool) → IsBeside s → Comes (Stands s n.text) (earlier s n b)
earlier_stands s n b a = taken_stands s n (is_taken s n.text) (earlier_in s n b (at_name s.names s.declarations n.text)) _ (named_stands s n b (number_of s.names n.text) a refl)

-- ---- new names
neither : (a : Bool) (o : Option ℕ) → (not a && not (is_some o)) ≡ true → o ≡ None
neither true o e = absurd (let f : false ≡ true = e in cc)
neither false None e = refl
neither false (Some k) e = absurd (let f : false ≡ true = e in cc)

pub new_name : (s : Scope) (x : List ℕ) → is_new s x ≡ true → number_of s.names x ≡ None
new_name s x e = neither (is_taken s x) (number_of s.names x) e
