-- What parameters, bodies and contracts of annotations leave as it is: all but locals, and what is declared beside heads.
use Rattle.std.proofs.Common.{◌≡◌, refl, sym, ap, ◌∙◌, ℕ, [], List}
use Rattle.vf_declared.specs.declared.scope.Scope.{Scope}
use Rattle.vf_declared.specs.Scopes.{datatype_of, declaration_of, ghost_of, tag_of}
use Rattle.vf_walk.specs.Items.{no_locals}
use Rattle.vf_header_laws.proofs.c_names.Files.{name_unit, of_one, of_one_both, OfOneUnit, tag_unit}
use Rattle.vf_erasure_laws.proofs.hidden.Adding.{IsKept}

-- a scope without locals, and without what predicates, lemmas and families are declared with beside their heads
abbrev pub rest : Scope → Scope
rest s = record s { locals = no_locals; ghost_sides = [] }

-- all but these is the same in both scopes
pub record IsRest (s t : Scope) : Type 0 where
  pub is : rest t ≡ rest s

pub rest_itself : (s : Scope) → IsRest s s
rest_itself s = record { is = refl }

pub rest_same : {s t : Scope} → t ≡ s → IsRest s t
rest_same e = record { is = ap rest e }

pub rest_both : {s t u : Scope} → IsRest s t → IsRest t u → IsRest s u
rest_both h k = record { is = k.is ∙ h.is }

pub rest_back : {s t : Scope} → IsRest s t → IsRest t s
rest_back h = record { is = sym h.is }

pub rest_kept : IsKept IsRest
rest_kept = record {
  same = λ s. rest_itself s;
  both = λ h k. rest_both h k;
  named = λ s b e. record { is = refl };
  one = λ s x t. record { is = refl };
  gone = λ h. record { is = h.is };
}

-- ---- lookups
pub rest_unit : {s t : Scope} → IsRest s t → OfOneUnit s t
rest_unit h = record { file = ap (λ (u : Scope). u.file) h.is; headers = ap (λ (u : Scope). u.headers) h.is }

pub rest_name : {s t : Scope} (name : List ℕ) (from : ℕ) → IsRest s t → declaration_of t name from ≡ declaration_of s name from
rest_name {s} {t} name from h = name_unit s t name from (rest_unit h) (ap (λ (u : Scope). u.names) h.is) (ap (λ (u : Scope). u.declarations) h.is)

pub rest_tag : {s t : Scope} (tag : List ℕ) (from : ℕ) → IsRest s t → tag_of t tag from ≡ tag_of s tag from
rest_tag {s} {t} tag from h = tag_unit s t tag from (rest_unit h) (ap (λ (u : Scope). u.tags) h.is) (ap (λ (u : Scope). u.structures) h.is)

pub rest_ghost : {s t : Scope} (n : ℕ) → IsRest s t → ghost_of t n ≡ ghost_of s n
rest_ghost n h = ap (λ (u : Scope). ghost_of u n) h.is

pub rest_datatype : {s t : Scope} (n : ℕ) → IsRest s t → datatype_of t n ≡ datatype_of s n
rest_datatype n h = ap (λ (u : Scope). datatype_of u n) h.is

-- ---- tables
-- what is known of the predicates that stand anywhere in a unit stays as it is
pub record KeepsPredicates (s t : Scope) : Type 0 where
  pub unit : OfOneUnit s t
  pub predicates : t.predicates ≡ s.predicates
  pub predicate_files : t.predicate_files ≡ s.predicate_files
  pub predicate_sorts : t.predicate_sorts ≡ s.predicate_sorts

pub predicates_itself : (s : Scope) → KeepsPredicates s s
predicates_itself s = record { unit = of_one s; predicates = refl; predicate_files = refl; predicate_sorts = refl }

pub predicates_both : {s t u : Scope} → KeepsPredicates s t → KeepsPredicates t u → KeepsPredicates s u
predicates_both h k = record { unit = of_one_both h.unit k.unit; predicates = k.predicates ∙ h.predicates; predicate_files = k.predicate_files ∙ h.predicate_files; predicate_sorts = k.predicate_sorts ∙ h.predicate_sorts }

pub rest_predicates : {s t : Scope} → IsRest s t → KeepsPredicates s t
rest_predicates h = record { unit = rest_unit h; predicates = ap (λ (u : Scope). u.predicates) h.is; predicate_files = ap (λ (u : Scope). u.predicate_files) h.is; predicate_sorts = ap (λ (u : Scope). u.predicate_sorts) h.is }

-- tags and what they mean stay as they are, and what is known of predicates
pub record KeepsTags (s t : Scope) : Type 0 where
  pub tags : t.tags ≡ s.tags
  pub structures : t.structures ≡ s.structures
  pub foreseen : KeepsPredicates s t

pub tags_itself : (s : Scope) → KeepsTags s s
tags_itself s = record { tags = refl; structures = refl; foreseen = predicates_itself s }

pub tags_both : {s t u : Scope} → KeepsTags s t → KeepsTags t u → KeepsTags s u
tags_both h k = record { tags = k.tags ∙ h.tags; structures = k.structures ∙ h.structures; foreseen = predicates_both h.foreseen k.foreseen }

pub rest_tags : {s t : Scope} → IsRest s t → KeepsTags s t
rest_tags h = record { tags = ap (λ (u : Scope). u.tags) h.is; structures = ap (λ (u : Scope). u.structures) h.is; foreseen = rest_predicates h }
