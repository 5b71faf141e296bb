-- Typing and the types that expressions have agree.
use Rattle.std.proofs.Common.{◌≡◌, Result, Ok, Err, refl, sym, ap, subst, ◌∙◌}
use Rattle.vf_base.specs.declared.refusal.Refusal.{Refusal}
use Rattle.vf_declared.specs.declared.ctype.CType.{CType}
use Rattle.vf_declared.specs.declared.scope.Scope.{Scope}
use Rattle.vf_syntax.specs.ExprTree.{ExprTree}
use Rattle.vf_typing.specs.declared.operand.Operand.{Operand}
use Rattle.vf_typing.specs.HasType.{is_null, HasType}
use Rattle.vf_typing.specs.Operands.{operand}
use Rattle.vf_typing.specs.Laws.{IsTyped, TypesAreDetermined, TypesAreFound}
use Rattle.vf_typing.proofs.Sound.{Answer, refused_, has_, sound}
use Rattle.vf_typing.proofs.Gives.{Gives, gives_at, gives}

-- the type of an operand, and another of a refusal
abbrev type_in : CType → Result Operand Refusal → CType
type_in d (Ok o) = o.ctype
type_in d (Err x) = d

-- two types that typing answers with
one_type : {s : Scope} {e : ExprTree} {t u : CType} → Gives s e t → Gives s e u → t ≡ u
one_type {s} {e} {t} {u} (gives_at p h) (gives_at q k) = ap (type_in t) (sym h ∙ k)

-- an expression has one type at most
pub determined : TypesAreDetermined
determined s e t u h k = one_type (gives h) (gives k)

-- typing answers with a type that an expression has
found : {s : Scope} {e : ExprTree} {t : CType} → Gives s e t → IsTyped s e t
found {s} {e} {t} (gives_at q h) = (operand q t (is_null e), h, refl)

-- an expression has the type that typing answers with
has_found : {s : Scope} {e : ExprTree} {r : Result Operand Refusal} (o : Operand) → Answer s e r → r ≡ Ok o → HasType s e o.ctype
has_found o refused_ h = absurd cc
has_found {s} {e} o (has_ {q} {t} k) h = subst (HasType s e) (ap (type_in t) h) k

-- the same
has_type : {s : Scope} {e : ExprTree} {t : CType} → IsTyped s e t → HasType s e t
has_type {s} {e} {t} (o, h, k) = subst (HasType s e) k (has_found o (sound s e) h)

-- typing answers with a type exactly where the expression has it
pub found_exactly : TypesAreFound
found_exactly s e t = (λ h. found (gives h), has_type)
