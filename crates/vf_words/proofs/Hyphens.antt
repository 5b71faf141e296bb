-- Which words ask for options, as clap tells them.
use Rattle.std.proofs.Common.{◌≡◌, ◌∙◌, refl, sym, ap, ℕ, Bool, true, false, ◌==◌, List, [], ◌∷◌, ◌++◌, length, Option, Some, None, codes, chars, bytes_eq, IsUtf8, eqb-true, arith}
use Rattle.std.proofs.lemmas.Str.{encode_ascii, encodes-chars, chars_past_char}
use Rattle.std.specs.Str.{encode_utf8_all as encodes}
use Rattle.clap.specs.Lexer.{long_of, name_and_value, short_of}
use Rattle.clap.specs.Walk.{Text}
use Rattle.vf_words.specs.Positionals.{is_option}

-- what a word is to clap, where no option is known
pub data Kind (w : Text) : Type 0 where
  ends : bytes_eq w (codes "--") ≡ true → Kind w
  plain : bytes_eq w (codes "--") ≡ false → is_option w ≡ false → long_of w ≡ None → short_of w ≡ None → Kind w
  long : bytes_eq w (codes "--") ≡ false → is_option w ≡ true → (p : Text × Option Text) → long_of w ≡ Some p → Kind w
  short : bytes_eq w (codes "--") ≡ false → is_option w ≡ true → long_of w ≡ None → (x : ℕ) (xs : List ℕ) → short_of w ≡ Some (x ∷ xs) → w ≡ 45 ∷ x ∷ xs → Kind w

-- a word of two bytes or more, by whether its first two are hyphens
by_bytes : (b c : ℕ) (bs : List ℕ) (first second : Bool) → (b == 45) ≡ first → (c == 45) ≡ second → Kind (b ∷ c ∷ bs)
by_bytes b c bs false second one two = plain (rw one refl) one (rw one refl) (rw one refl)
by_bytes b c bs true false one two = short (rw (one, two) refl) one (rw (one, two) refl) c bs (rw (one, two) refl) (ap (λ x. x ∷ c ∷ bs) (eqb-true b 45 one))
by_bytes b c [] true true one two = ends (rw (one, two) refl)
by_bytes b c (d ∷ ds) true true one two = long (rw (one, two) refl) one (name_and_value (d ∷ ds)) (rw (one, two) refl)

one_byte : (b : ℕ) (first : Bool) → (b == 45) ≡ first → Kind (b ∷ [])
one_byte b true one = plain (rw one refl) refl (rw one refl) (rw one refl)
one_byte b false one = plain (rw one refl) refl (rw one refl) (rw one refl)

pub kind_of : (w : Text) → Kind w
kind_of [] = plain refl refl refl refl
kind_of (b ∷ []) = one_byte b (b == 45) refl
kind_of (b ∷ c ∷ bs) = by_bytes b c bs (b == 45) (c == 45) refl refl

-- what follows the hyphen of a word that is text is spelt by a character at least
pub spelt : (x : ℕ) (xs : List ℕ) → IsUtf8 (45 ∷ x ∷ xs) → (c : ℕ) × (cs : List ℕ) × (chars (x ∷ xs) ≡ c ∷ cs)
spelt x xs u = by (chars (x ∷ xs)) refl
  where
    by : (l : List ℕ) → chars (x ∷ xs) ≡ l → (c : ℕ) × (cs : List ℕ) × (chars (x ∷ xs) ≡ c ∷ cs)
    by (c ∷ cs) e = (c, cs, e)
    by [] e =
        let whole : chars (45 ∷ x ∷ xs) ≡ 45 ∷ [] = chars_past_char (45 ∷ x ∷ xs) (x ∷ xs) 45 u (ap (λ l. l ++ x ∷ xs) (sym (encode_ascii 45 (omega arith)))) ∙ ap (λ l. 45 ∷ l) e in
        let one : encodes (45 ∷ []) ≡ 45 ∷ [] = ap (λ l. l ++ []) (encode_ascii 45 (omega arith)) in
        let same : 45 ∷ [] ≡ 45 ∷ x ∷ xs = sym one ∙ ap encodes (sym whole) ∙ encodes-chars (45 ∷ x ∷ xs) u in
        absurd (omega (arith, ap length same))
