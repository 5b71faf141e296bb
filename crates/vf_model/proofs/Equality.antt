-- The tests on identities, types and signatures decide equality.
use Rattle.std.proofs.Common.{◌≡◌, ℕ, true, [], ◌∷◌, ◌==◌, refl, sym, ap, subst, ◌∙◌}
use Rattle.std.specs.Prelude.{slice_index_or}
use Rattle.std.specs.Cmp.Lexicographic.{pointwise, pointwise_decides, bytes_decides}
use Rattle.std.proofs.lemmas.Bool.{false≢true, eqb-true, eq-eqb, and_parts, and_from}
use Rattle.vf_base.specs.declared.int_type.IntType.{IntType}
use Rattle.vf_base.specs.declared.int_type.IntType.TheVariants as types
use Rattle.vf_tree.specs.Core.{TypeTree, Void, Integer, PointerToVoid, PointerToInt, PointerToStruct, PointerToFunction, Signature}
use Rattle.vf_model.specs.Values.{type_number, same_type, same_signature}
use Rattle.vf_model.specs.Laws.{TellsIdentities, TellsSignatures}

pub identities_told : TellsIdentities
identities_told g h = bytes_decides g h

numbered : ℕ → IntType
numbered n =
    slice_index_or (types.Bool ∷ types.Char ∷ types.UChar ∷ types.Short ∷ types.UShort ∷ types.Int ∷ types.UInt ∷ types.Long ∷ types.ULong ∷ types.LongLong ∷ types.ULongLong ∷ []) n types.Bool

own_number : (t : IntType) → numbered (type_number t) ≡ t
unfolding numbered
own_number types.Bool = refl
own_number types.Char = refl
own_number types.UChar = refl
own_number types.Short = refl
own_number types.UShort = refl
own_number types.Int = refl
own_number types.UInt = refl
own_number types.Long = refl
own_number types.ULong = refl
own_number types.LongLong = refl
own_number types.ULongLong = refl

integer_told : (t u : IntType) → (type_number t == type_number u) ≡ true → t ≡ u
integer_told t u h = sym (own_number t) ∙ ap numbered (eqb-true (type_number t) (type_number u) h) ∙ own_number u

type_told : (a b : TypeTree) → same_type a b ≡ true → a ≡ b
type_told Void Void h = refl
type_told (Integer t) (Integer u) h = ap Integer (integer_told t u h)
type_told PointerToVoid PointerToVoid h = refl
type_told PointerToInt PointerToInt h = refl
type_told (PointerToStruct g) (PointerToStruct k) h = ap PointerToStruct ((bytes_decides g k).0 h)
type_told (PointerToFunction g) (PointerToFunction k) h = ap PointerToFunction ((bytes_decides g k).0 h)
type_told _ _ h = absurd (false≢true h)

type_own : (a : TypeTree) → same_type a a ≡ true
type_own Void = refl
type_own (Integer t) = eq-eqb (type_number t) (type_number t) refl
type_own PointerToVoid = refl
type_own PointerToInt = refl
type_own (PointerToStruct g) = (bytes_decides g g).1 refl
type_own (PointerToFunction g) = (bytes_decides g g).1 refl

types_decide : (a b : TypeTree) → (same_type a b ≡ true → a ≡ b) × (a ≡ b → same_type a b ≡ true)
types_decide a b = (type_told a b, λ e. subst (λ c. same_type a c ≡ true) e (type_own a))

signature_told : (s r : Signature) → same_signature s r ≡ true → s ≡ r
signature_told s r h =
    let parts = and_parts (same_type s.result r.result) (pointwise same_type s.parameters r.parameters) h in
    let results = type_told s.result r.result parts.0 in
    let parameters = (pointwise_decides types_decide s.parameters r.parameters).0 parts.1 in
    λ i. record { result = results i; parameters = parameters i }

signature_own : (s : Signature) → same_signature s s ≡ true
signature_own s = and_from _ _ (type_own s.result) ((pointwise_decides types_decide s.parameters s.parameters).1 refl)

pub signatures_told : TellsSignatures
signatures_told s r = (signature_told s r, λ e. subst (λ c. same_signature s c ≡ true) e (signature_own s))
