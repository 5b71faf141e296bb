-- Names of annotations that are added to locals.
use Rattle.std.proofs.Common.{◌≡◌, refl, sym, subst, ◌∙◌, ap, ℕ, List, [], ◌∷◌, ◌++◌, length, map, false, true, append_assoc, append-nil}
use Rattle.std.proofs.lemmas.List.{length-map}
use Rattle.vf_sorts.specs.Sorts.{Sort}
use Rattle.vf_declared.specs.declared.locals.GhostLocal.{GhostLocal}
use Rattle.vf_declared.specs.declared.locals.Local.{Local}
use Rattle.vf_declared.specs.declared.locals.Local.TheVariants as locals
use Rattle.vf_declared.specs.declared.scope.Scope.{Scope}
use Rattle.vf_declared.specs.Changes.{IsAligned, with_local}
use Rattle.vf_binding.specs.declared.bound.Bound.{Bound}
use Rattle.vf_binding.specs.Bound.{bound_local, with_names}
use Rattle.vf_asserting.specs.Leaving.{count, left}
use Rattle.vf_commands.specs.Locals.{with_ghost}
use Rattle.vf_erasure_laws.specs.seen.Unseen.{AddsGhosts}
use Rattle.vf_erasure_laws.proofs.hidden.Lists.{beside, front, mapped}

-- some locals and others behind them
abbrev pub more : Scope → List (List ℕ) → List Local → Scope
more s names meanings = record s { locals = record { names = s.locals.names ++ names; meanings = s.locals.meanings ++ meanings } }

pub adds_none : (s : Scope) → AddsGhosts s s
adds_none s = record {
  names = [];
  ghosts = [];
  beside = refl;
  is = λ i. record s { locals = record { names = sym (append-nil s.locals.names) i; meanings = sym (append-nil s.locals.meanings) i } };
}

regrouped : (s : Scope) (xs ys : List (List ℕ)) (gs hs : List GhostLocal) → more (more s xs (map locals.Ghost gs)) ys (map locals.Ghost hs) ≡ more s (xs ++ ys) (map locals.Ghost (gs ++ hs))
regrouped s xs ys gs hs =
    let e : (s.locals.meanings ++ map locals.Ghost gs) ++ map locals.Ghost hs ≡ s.locals.meanings ++ map locals.Ghost (gs ++ hs) = append_assoc s.locals.meanings (map locals.Ghost gs) (map locals.Ghost hs) ∙ ap (λ l. s.locals.meanings ++ l) (sym (mapped locals.Ghost gs hs)) in
    λ i. record s { locals = record { names = append_assoc s.locals.names xs ys i; meanings = e i } }

pub adds_both : {s t u : Scope} → AddsGhosts s t → AddsGhosts t u → AddsGhosts s u
adds_both {s = s} h k = record {
  names = h.names ++ k.names;
  ghosts = h.ghosts ++ k.ghosts;
  beside = beside h.names k.names h.ghosts k.ghosts h.beside k.beside;
  is = k.is ∙ (ap (λ (t : Scope). more t k.names (map locals.Ghost k.ghosts)) h.is ∙ regrouped s h.names k.names h.ghosts k.ghosts);
}

pub adds_one : (s : Scope) (x : List ℕ) (g : GhostLocal) → AddsGhosts s (record s { locals = with_local s.locals x (locals.Ghost g) })
adds_one s x g = record { names = x ∷ []; ghosts = g ∷ []; beside = refl; is = refl }

-- the local that a bound name is
abbrev bound_ghost : Sort → GhostLocal
bound_ghost t = record { is_variable = false; sort = t }

bound_locals : (ts : List Sort) → map bound_local ts ≡ map locals.Ghost (map bound_ghost ts)
bound_locals [] = refl
bound_locals (t ∷ ts) = ap (λ l. bound_local t ∷ l) (bound_locals ts)

pub adds_bound : (s : Scope) (b : Bound) → length b.names ≡ length b.sorts → AddsGhosts s (with_names s b)
adds_bound s b e = record {
  names = b.names;
  ghosts = map bound_ghost b.sorts;
  beside = e ∙ sym (length-map b.sorts bound_ghost);
  is = ap (more s b.names) (bound_locals b.sorts);
}

still_aligned : {s t : Scope} → AddsGhosts s t → IsAligned s.locals → IsAligned t.locals
still_aligned {s = s} h e = subst (λ (t : Scope). IsAligned t.locals) (sym h.is) (beside s.locals.names h.names s.locals.meanings (map locals.Ghost h.ghosts) e (h.beside ∙ sym (length-map h.ghosts locals.Ghost)))

-- what was added is gone where the first locals alone are left
all_gone : {s t : Scope} → IsAligned s.locals → AddsGhosts s t → left (count s) t ≡ s
all_gone {s = s} e h = ap (left (count s)) h.is ∙ (λ i. record s { locals = record { names = front s.locals.names s.locals.names h.names refl i; meanings = front s.locals.names s.locals.meanings (map locals.Ghost h.ghosts) e i } })

-- a relation between scopes holds from each scope to itself, and to those with more names of annotations, over several steps, and where the names added are gone
pub record IsKept (P : Scope → Scope → Type 0) : Type 0 where
  pub same : (s : Scope) → P s s
  pub both : {s t u : Scope} → P s t → P t u → P s u
  pub named : (s : Scope) (b : Bound) → length b.names ≡ length b.sorts → P s (with_names s b)
  pub one : (s : Scope) (x : List ℕ) (t : Sort) → P s (with_ghost s x t)
  pub gone : {s t : Scope} → P s t → P s (left (count s) t)

-- names of annotations are added, where the locals stand beside their names
abbrev pub Adds : Scope → Scope → Type 0
Adds s t = IsAligned s.locals → AddsGhosts s t

adds_gone : {s t : Scope} → Adds s t → Adds s (left (count s) t)
adds_gone {s = s} h e = subst (AddsGhosts s) (sym (all_gone e (h e))) (adds_none s)

pub adds_kept : IsKept Adds
adds_kept = record {
  same = λ s e. adds_none s;
  both = λ h k e. adds_both (h e) (k (still_aligned (h e) e));
  named = λ s b l e. adds_bound s b l;
  one = λ s x t e. adds_one s x (record { is_variable = true; sort = t });
  gone = λ h. adds_gone h;
}
