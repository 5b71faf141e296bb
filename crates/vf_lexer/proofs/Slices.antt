-- Each token is the bytes of its text from its start to its end, and its place is counted from the beginning of the text.
use Rattle.std.proofs.Common.{◌≡◌, ℕ, zero, suc, ◌+◌, ◌-◌, Bool, true, false, List, [], ◌∷◌, take, drop, Option, Some, None, refl, sym, ap, subst, ◌∙◌, arith}
use Rattle.std.specs.Prelude.{Result, Ok, Err, IfSome, if◌then◌else◌}
use Rattle.std.specs.List.{AllByRecursion}
use Rattle.std.proofs.Math.Seq.{drop-drop}
use Rattle.vf_base.specs.declared.place.Place.{Place}
use Rattle.vf_lexer.specs.declared.token.Token.{Token}
use Rattle.vf_lexer.specs.declared.piece.Shape.{Shape}
use Rattle.vf_lexer.specs.declared.piece.Shape.TheVariants as shapes
use Rattle.vf_lexer.specs.declared.piece.Piece.{Piece}
use Rattle.vf_lexer.specs.Bytes.{is_barred}
use Rattle.vf_lexer.specs.Tokens.{place_behind, place_after, IsPlaced, Spot, Piece_is, walk, token_of, spot_behind, next_walked, next_piece, next_in, piece_at, next_at, IsSlice}
use Rattle.vf_lexer.specs.Cuts.{with_first}
use Rattle.vf_lexer.proofs.Runs.{Gives, ended, passed}

-- a token that stands here is so many bytes
IsFront : Spot → ℕ → Token → Type 0
IsFront s size k = (k.start ≡ s.start) × (k.«end» ≡ s.start + size) × (k.text ≡ take size s.text) × (k.place ≡ s.place)

-- what is gone over between two spots, and the token that it is
record Step (s : Spot) (x : Option Token) (t : Spot) : Type 0 where
  size : ℕ
  text : t.text ≡ drop size s.text
  start : t.start ≡ s.start + size
  place : t.place ≡ place_after s.place (take size s.text)
  token : IfSome x (IsFront s size)

token_is : (s : Spot) (shape : Shape) (size : ℕ) → IfSome (token_of s shape size) (IsFront s size)
unfolding IsFront
token_is s shapes.Gap size = tt
token_is s (shapes.Token kind) size = (refl, refl, refl, refl)

walked_over : (p q : Place) (rest : List ℕ) (barred : Bool) (more : Result Place Place) → (more ≡ Ok q → q ≡ place_after p rest) → (if barred then Err p else more) ≡ Ok q → q ≡ place_after p rest
walked_over p q rest true more h e = absurd cc
walked_over p q rest false more h e = h e

-- the place behind n bytes is the one behind those
walked : (p : Place) (n : ℕ) (text : List ℕ) (q : Place) → walk p n text ≡ Ok q → q ≡ place_after p (take n text)
walked p zero text q e = cc
walked p (suc n) [] q e = cc
walked p (suc n) (b ∷ bs) q e = walked_over p q (b ∷ take n bs) (is_barred (b ∷ bs)) (walk (place_behind p b) n bs) (λ f. walked (place_behind p b) n bs q f) e

step_walked : (s : Spot) (piece : Piece) (r : Result Place Place) (x : Option Token) (t : Spot) → walk s.place piece.size s.text ≡ r → next_walked s piece r ≡ Piece_is x t → Step s x t
step_walked s piece (Ok p) x t w e =
    let token : token_of s piece.shape piece.size ≡ x = cc in
    let behind : spot_behind s piece p ≡ t = cc in
    subst (λ y. Step s y t) token (subst (λ u. Step s (token_of s piece.shape piece.size) u) behind
    (record { size = piece.size; text = refl; start = refl; place = walked s.place piece.size s.text p w; token = token_is s piece.shape piece.size }))
step_walked s piece (Err p) x t w e = absurd cc

step_piece : (s : Spot) (o : Option Piece) (x : Option Token) (t : Spot) → next_piece s o ≡ Piece_is x t → Step s x t
step_piece s None x t e = absurd cc
step_piece s (Some piece) x t e = step_walked s piece (walk s.place piece.size s.text) x t refl e

step_in : (s : Spot) (text : List ℕ) (x : Option Token) (t : Spot) → next_in s text ≡ Piece_is x t → Step s x t
step_in s [] x t e = absurd cc
step_in s (b ∷ bs) x t e = step_piece s (piece_at s) x t e

step : (s : Spot) (x : Option Token) (t : Spot) → next_at s ≡ Piece_is x t → Step s x t
unfolding next_at
step s x t e = step_in s s.text x t e

further : (bytes : List ℕ) (s : Spot) (x : Option Token) (t : Spot) → Step s x t → s.text ≡ drop s.start bytes → t.text ≡ drop t.start bytes
further bytes s x t h e =
    let gone : drop h.size s.text ≡ drop (s.start + h.size) bytes = ap (drop h.size) e ∙ drop-drop h.size s.start bytes in
    h.text ∙ gone ∙ ap (λ n. drop n bytes) (sym h.start)

is_slice : (bytes : List ℕ) (s : Spot) (k : Token) (t : Spot) → Step s (Some k) t → s.text ≡ drop s.start bytes → IsSlice bytes k
unfolding IsFront
is_slice bytes s k t h e =
    let front = h.token in
    let size : k.«end» - k.start ≡ h.size = omega (arith, front.0, front.1) in
    let rest : take h.size s.text ≡ take h.size (drop k.start bytes) = ap (take h.size) (e ∙ ap (λ n. drop n bytes) (sym front.0)) in
    (omega (arith, front.0, front.1), front.2 ∙ rest ∙ ap (λ n. take n (drop k.start bytes)) (sym size))

with_all : (P : Token → Type 0) (x : Option Token) (tokens : List Token) → IfSome x P → AllByRecursion P tokens → AllByRecursion P (with_first x tokens)
with_all P None tokens h k = k
with_all P (Some t) tokens h k = (h, k)

slice_if : (bytes : List ℕ) (s : Spot) (x : Option Token) (t : Spot) → Step s x t → s.text ≡ drop s.start bytes → IfSome x (IsSlice bytes)
slice_if bytes s None t h e = tt
slice_if bytes s (Some k) t h e = is_slice bytes s k t h e

pub slices : (bytes : List ℕ) {s : Spot} {tokens : List Token} → Gives s tokens → s.text ≡ drop s.start bytes → AllByRecursion (IsSlice bytes) tokens
slices bytes (ended e) h = tt
slices bytes (passed {s = s} {t = t} {x = x} {tokens = tokens} e g) h =
    let taken = step s x t e in
    with_all (IsSlice bytes) x tokens (slice_if bytes s x t taken h) (slices bytes g (further bytes s x t taken h))

take_none : (p : Place) (b : ℕ) → place_after p (take b []) ≡ p
take_none p zero = refl
take_none p (suc b) = refl

-- going over some bytes and then over more
place_on : (p : Place) (a b : ℕ) (bytes : List ℕ) → place_after (place_after p (take a bytes)) (take b (drop a bytes)) ≡ place_after p (take (a + b) bytes)
place_on p zero b bytes = let e : b ≡ 0 + b = omega arith in ap (λ n. place_after p (take n bytes)) e
place_on p (suc a) b [] = take_none p b ∙ sym (take_none p (suc a + b))
place_on p (suc a) b (x ∷ xs) = let e : suc (a + b) ≡ suc a + b = omega arith in place_on (place_behind p x) a b xs ∙ ap (λ n. place_after p (take n (x ∷ xs))) e

further_place : (start : Place) (bytes : List ℕ) (s : Spot) (x : Option Token) (t : Spot) → Step s x t → s.text ≡ drop s.start bytes
    → s.place ≡ place_after start (take s.start bytes) → t.place ≡ place_after start (take t.start bytes)
further_place start bytes s x t h e f =
    h.place ∙ ap (λ p. place_after p (take h.size s.text)) f
    ∙ ap (λ text. place_after (place_after start (take s.start bytes)) (take h.size text)) e
    ∙ place_on start s.start h.size bytes ∙ ap (λ n. place_after start (take n bytes)) (sym h.start)

is_placed : (file : ℕ) (bytes : List ℕ) (s : Spot) (k : Token) (t : Spot) → Step s (Some k) t
    → s.place ≡ place_after (record { file = file; line = 1; column = 1 }) (take s.start bytes) → IsPlaced file bytes k
unfolding IsFront
is_placed file bytes s k t h f =
    let front = h.token in
    front.3 ∙ f ∙ ap (λ n. place_after (record { file = file; line = 1; column = 1 }) (take n bytes)) (sym front.0)

placed_if : (file : ℕ) (bytes : List ℕ) (s : Spot) (x : Option Token) (t : Spot) → Step s x t
    → s.place ≡ place_after (record { file = file; line = 1; column = 1 }) (take s.start bytes) → IfSome x (IsPlaced file bytes)
placed_if file bytes s None t h f = tt
placed_if file bytes s (Some k) t h f = is_placed file bytes s k t h f

pub places : (file : ℕ) (bytes : List ℕ) {s : Spot} {tokens : List Token} → Gives s tokens → s.text ≡ drop s.start bytes
    → s.place ≡ place_after (record { file = file; line = 1; column = 1 }) (take s.start bytes) → AllByRecursion (IsPlaced file bytes) tokens
places file bytes (ended e) h f = tt
places file bytes (passed {s = s} {t = t} {x = x} {tokens = tokens} e g) h f =
    let taken = step s x t e in
    with_all (IsPlaced file bytes) x tokens (placed_if file bytes s x t taken f)
    (places file bytes g (further bytes s x t taken h) (further_place (record { file = file; line = 1; column = 1 }) bytes s x t taken h f))
