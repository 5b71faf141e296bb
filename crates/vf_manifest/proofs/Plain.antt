-- Types of C without names are short.
use Rattle.std.proofs.Common.{◌≡◌, ℕ, ◌<◌, Bool, true, false, List, [], ◌∷◌, length, refl, ap, ◌∙◌, arith}
use Rattle.std.specs.Prelude.{◌||◌, nat_le}
use Rattle.std.specs.List.{list_all, list_any}
use Rattle.std.specs.Str.{bytes_eq}
use Rattle.std.proofs.lemmas.Bool.{and_parts, leb-true}
use Rattle.std.proofs.lemmas.Slice.Eq.{bytes_eq-Decides}
use Rattle.vf_manifest.specs.Signatures.{plain_types}

none_longer : (n : ℕ) (text : List ℕ) (ts : List (List ℕ)) → list_all (λ t. nat_le (length t) n) ts ≡ true → n < length text → list_any (λ t. bytes_eq text t) ts ≡ false
none_longer n text [] all long = refl
none_longer n text (t ∷ ts) all long =
    let parts = and_parts (nat_le (length t) n) (list_all (λ t. nat_le (length t) n) ts) all in
    ap (λ b. b || list_any (λ t. bytes_eq text t) ts) (apart (bytes_eq text t) refl parts.0) ∙ none_longer n text ts parts.1 long
  where
    apart : (b : Bool) → bytes_eq text t ≡ b → nat_le (length t) n ≡ true → bytes_eq text t ≡ false
    apart false e short = e
    apart true e short =
        let same : length text ≡ length t = ap length ((bytes_eq-Decides text t).0 e) in
        let few = leb-true (length t) n short in
        absurd (omega arith)

-- a text of more than six bytes is none of them
pub long_is_not_plain : (text : List ℕ) → 6 < length text → list_any (λ t. bytes_eq text t) plain_types ≡ false
long_is_not_plain text long = none_longer 6 text plain_types refl long
