-- What holds where more is declared, and may be built, than in another scope.
use Rattle.std.proofs.Common.{List, [], ◌∷◌, inl, inr, map}
use Rattle.vf_model.specs.Values.{Value, Values, none, more}
use Rattle.vf_model.specs.Values as values
use Rattle.vf_sorts.specs.declared.sort.Head.{Head}
use Rattle.vf_sorts.specs.declared.sort.Head.TheVariants as heads
use Rattle.vf_sorts.specs.Sorts.{Sort}
use Rattle.vf_sorts.specs.Pairs.{head_of}
use Rattle.vf_fixpoint_laws.specs.values.Instances.{placed}
use Rattle.vf_fixpoint_laws.specs.values.Declares.{Covers, Declared}
use Rattle.vf_fixpoint_laws.specs.values.Worth.{HasOwn, HasValue, HaveValues, Sets, TakesBy, passing}
use Rattle.vf_fixpoint_laws.specs.values.Covering.{CoversCompose, CoversKeepIn, CoversKeepValues, EachCoversItself}

pub covers_itself : EachCoversItself
covers_itself d = record { declares = λ c g is. is; terms = λ c x is. is; predicates = λ c x is. is }

pub covers_compose : CoversCompose
covers_compose d e f p q = record {
  declares = λ c g is. p.declares c g (q.declares c g is);
  terms = λ c x is. p.terms c x (q.terms c x is);
  predicates = λ c x is. p.predicates c x (q.predicates c x is);
}

-- a head takes what it takes where there are more sorts of a value's own
takes_wider : (sets : Sets) (v : Value) (Own More : Sort → Type 0) (h : Head) (t : Sort) → ((u : Sort) → Own u → More u) → TakesBy sets v Own h t → TakesBy sets v More h t
takes_wider sets v Own More heads.Int t f x = f t x
takes_wider sets v Own More heads.Bool t f x = f t x
takes_wider sets v Own More (heads.Pointer w) t f x = f t x
takes_wider sets v Own More heads.Real t f x = f t x
takes_wider sets v Own More heads.Any t f (inl x) = inl x
takes_wider sets v Own More heads.Any t f (inr (u, x)) = inr (u, f u x)
takes_wider sets v Own More (heads.Parameter i) t f x = x
takes_wider sets v Own More (heads.Unknown w) t f x = f t x
takes_wider sets v Own More (heads.Datatype n) t f x = f t x
takes_wider sets v Own More heads.Predicate t f x = f t x

module _ (sets : Sets) (d e : Declared) (covers : Covers d e) where
  mutual
    own_kept : (v : Value) (t : Sort) → HasOwn e sets v t → HasOwn d sets v t
    own_kept (values.Number z) t h = h
    own_kept (values.Truth b) t h = h
    own_kept values.Null t h = h
    own_kept (values.Pointer b o) t h = h
    own_kept (values.Function g) t h = h
    own_kept (values.Constructed c vs) t (x, is, g, f, whole, have) = (x, covers.terms c x is, g, f, whole, values_kept vs (map (placed g f) x.arguments) have)
    own_kept (values.Predicate p vs) t (x, is, g, f, whole, have) = (x, covers.predicates p x is, g, f, whole, values_kept vs (map (placed g f) x.arguments) have)
    own_kept (values.Fraction q) t h = h

    values_kept : (vs : Values) (ts : List Sort) → HaveValues e sets vs ts → HaveValues d sets vs ts
    values_kept none [] h = h
    values_kept none (t ∷ ts) h = h
    values_kept (more v vs) [] h = h
    values_kept (more v vs) (t ∷ ts) h = (takes_wider sets v (HasOwn e sets v) (HasOwn d sets v) (head_of t) t (own_kept v) h.0, values_kept vs ts h.1)

  value_kept : (v : Value) (t : Sort) → HasValue e sets v t → HasValue d sets v t
  value_kept v t h = takes_wider sets v (HasOwn e sets v) (HasOwn d sets v) (head_of t) t (own_kept v) h

pub covers_keep_in : (sets : Sets) → CoversKeepIn sets
covers_keep_in sets d e covers v t h = value_kept sets d e covers v t h

pub covers_keep_values : CoversKeepValues
covers_keep_values tests = covers_keep_in (passing tests)
