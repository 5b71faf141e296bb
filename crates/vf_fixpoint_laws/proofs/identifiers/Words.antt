-- No mark of identities stands in a word.
use Rattle.std.proofs.Common.{◌≡◌, ℕ, zero, suc, ◌<◌, Bool, true, false, ◌||◌, List, [], ◌∷◌, length, nat_eq, refl, sym, ap, subst, arith}
use Rattle.std.specs.Prelude.{slice_index_or}
use Rattle.std.specs.Char.{is_ascii_digit}
use Rattle.std.specs.List.{AllByRecursion, list_all, list_any}
use Rattle.std.proofs.lemmas.Bool.{eqb-true, false_from_ne_true}
use Rattle.vf_lexer.specs.Bytes.{is_word_byte}
use Rattle.vf_lexer.specs.Spellings.{IsWord}
use Rattle.vf_lexer.specs.declared.token.Token.{Token}
use Rattle.vf_grammar_read.proofs.expressions.Same.{no_true, both}
use Rattle.vf_fixpoint_laws.specs.well_declared.Names.{is_marked, mark}
use Rattle.vf_fixpoint_laws.specs.identifiers.Names.{AreNamesAmong, IsNameAmong, IsWrittenAsWord, NamesAreWords}

neither : (a b : Bool) → a ≡ false → b ≡ false → (a || b) ≡ false
neither true b h k = no_true (sym h)
neither false b h k = k

byte_unmarked : (b : ℕ) → is_word_byte b ≡ true → nat_eq mark b ≡ false
byte_unmarked b h = false_from_ne_true (nat_eq mark b) (λ e. no_true (subst (λ c. is_word_byte c ≡ true) (sym (eqb-true mark b e)) h))

bytes_unmarked : (bs : List ℕ) → list_all is_word_byte bs ≡ true → is_marked bs ≡ false
bytes_unmarked [] h = refl
bytes_unmarked (b ∷ bs) h = let c = both _ _ h in neither (nat_eq mark b) (is_marked bs) (byte_unmarked b c.0) (bytes_unmarked bs c.1)

word_unmarked : (x : List ℕ) → IsWord x → is_marked x ≡ false
word_unmarked [] h = absurd h
word_unmarked (b ∷ bs) h = neither (nat_eq mark b) (is_marked bs) (byte_unmarked b (ap (λ z. z || is_ascii_digit b) h.0)) (bytes_unmarked bs h.1)

-- what is so of all is so of each
of_each : {A : Type 0} (P : A → Type 0) (xs : List A) (x : A) (k : ℕ) → AllByRecursion P xs → k < length xs → slice_index_or xs k x ≡ x → P x
of_each P [] x k a less is = absurd (omega (arith, less))
of_each P (y ∷ ys) x zero a less is = subst P is a.0
of_each P (y ∷ ys) x (suc k) a less is = of_each P ys x k a.1 (omega (arith, less)) is

name_unmarked : (tokens : List Token) (x : List ℕ) → NamesAreWords tokens → IsNameAmong tokens x → is_marked x ≡ false
name_unmarked tokens x words a =
    let written : IsWrittenAsWord a.token = of_each IsWrittenAsWord tokens a.token a.among.0 words a.among.1 a.among.2 in
    word_unmarked x (subst IsWord a.text (written a.kind))

-- where the names among tokens are words, no mark stands in any of them
pub names_unmarked : (tokens : List Token) (xs : List (List ℕ)) → NamesAreWords tokens → AreNamesAmong tokens xs → list_any is_marked xs ≡ false
names_unmarked tokens [] words a = refl
names_unmarked tokens (x ∷ xs) words a = neither (is_marked x) (list_any is_marked xs) (name_unmarked tokens x words a.0) (names_unmarked tokens xs words a.1)
