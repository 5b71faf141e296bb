-- The texts of words, one by one.
use Rattle.std.proofs.Common.{◌≡◌, ◌∙◌, refl, sym, ap, ℕ, zero, suc, ◌+◌, ◌≤◌, ◌<◌, List, [], ◌∷◌, ◌++◌, length, map, take, get_or, string_bytes, IsUtf8, arith}
use Rattle.std.specs.List.{All}
use Rattle.std.specs.Borrow.{Bor}
use Rattle.std.specs.declared.string.String.{String as OwnText}
use Rattle.std.specs.declared.alloc.Global.{Global}
use Rattle.std.proofs.lemmas.List.{map-append, take_all, take_more}
use Rattle.std.proofs.lemmas.List.Elements.{All-append}
use Rattle.vf_words.specs.Positionals.{texts}

abbrev Own : Type 0
Own = OwnText Global

-- the texts of the first n words
pub record Borrowed (words : List Own) (n : ℕ) (ts : List (Bor (List ℕ))) : Type 0 where
  pub same : texts ts ≡ map (λ w. string_bytes w) (take n words)
  pub text : All (λ w. IsUtf8 w.now) ts

pub nothing_borrowed : (words : List Own) → Borrowed words 0 []
nothing_borrowed words = record { same = refl; text = λ k x low. absurd (omega (arith, low)) }

pub one_borrowed : (words : List Own) (n : ℕ) (ts : List (Bor (List ℕ))) (w : Own) (t : Bor (List ℕ)) → n < length words → w ≡ get_or words n w → t.now ≡ string_bytes w → IsUtf8 t.now → Borrowed words n ts → Borrowed words (n + 1) (ts ++ t ∷ [])
one_borrowed words n ts w t low at is text b = record {
  same = map-append (λ (x : Bor (List ℕ)). x.now) ts (t ∷ [])
      ∙ ap (λ l. l ++ t.now ∷ []) b.same
      ∙ ap (λ x. map (λ (y : Own). string_bytes y) (take n words) ++ x ∷ []) (is ∙ ap (λ (y : Own). string_bytes y) at)
      ∙ sym (map-append (λ (y : Own). string_bytes y) (take n words) (get_or words n w ∷ []))
      ∙ ap (map (λ (y : Own). string_bytes y)) (sym (take_more words n w low));
  text = All-append (λ (x : Bor (List ℕ)). IsUtf8 x.now) ts (t ∷ []) b.text (λ k x less. only k x less);
}
  where
    only : (k : ℕ) (x : Bor (List ℕ)) → k < length (t ∷ []) → IsUtf8 (get_or (t ∷ []) k x).now
    only zero x less = text
    only (suc k) x less = absurd (omega (arith, less))

pub all_borrowed : (words : List Own) (n : ℕ) (ts : List (Bor (List ℕ))) → length words ≤ n → Borrowed words n ts → texts ts ≡ map (λ w. string_bytes w) words
all_borrowed words n ts high b = b.same ∙ ap (map (λ (y : Own). string_bytes y)) (take_all n words high)
