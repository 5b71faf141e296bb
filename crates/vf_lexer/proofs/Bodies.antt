-- Where comments and annotations end.
use Rattle.std.proofs.Common.{◌≡◌, ℕ, zero, suc, ◌+◌, Bool, true, false, List, [], ◌∷◌, ◌++◌, length, take, drop, Some, refl, sym, ap, arith}
use Rattle.std.specs.Prelude.{nat_eq, not, ◌&&◌, codes, if◌then◌else◌}
use Rattle.std.specs.Cmp.Lexicographic.{pointwise}
use Rattle.std.specs.List.{starts_with, list_all}
use Rattle.std.proofs.lemmas.Bool.{eqb-true}
use Rattle.vf_lexer.specs.declared.class.Class.TheVariants as classes
use Rattle.vf_lexer.specs.Bytes.{is_in_line}
use Rattle.vf_lexer.specs.Pieces.{run_len, ended_from}
use Rattle.vf_lexer.specs.Cuts.{AtLineEnd, InLine, Unclosed}
use Rattle.vf_lexer.proofs.Sizes.{and_left, and_right}

-- ---- fronts

front_by : (needle text : List ℕ) → pointwise nat_eq needle (take (length needle) text) ≡ true → text ≡ needle ++ drop (length needle) text
front_by [] text h = refl
front_by (x ∷ xs) [] h = absurd cc
front_by (x ∷ xs) (y ∷ ys) h =
    let first : x ≡ y = eqb-true x y (and_left (nat_eq x y) (pointwise nat_eq xs (take (length xs) ys)) h) in
    let rest : ys ≡ xs ++ drop (length xs) ys = front_by xs ys (and_right (nat_eq x y) (pointwise nat_eq xs (take (length xs) ys)) h) in
    cc

-- what a text begins with stands in front of it
pub front_of : (text needle : List ℕ) → starts_with nat_eq text needle ≡ true → text ≡ needle ++ drop (length needle) text
front_of text needle h = front_by needle text h

-- ---- lines

pub line_len : (body rest : List ℕ) → InLine body → AtLineEnd rest → run_len classes.Line (body ++ rest) ≡ length body
line_len [] [] h e = refl
line_len [] (b ∷ bs) h e = rw e refl
line_len (x ∷ xs) rest h e =
    let first : is_in_line x ≡ true = and_left (is_in_line x) (list_all is_in_line xs) h in
    let more : run_len classes.Line (xs ++ rest) ≡ length xs = line_len xs rest (and_right (is_in_line x) (list_all is_in_line xs) h) e in
    rw first (omega arith)

-- a text, up to the end of its first line and from there on
pub record LineSplit (text : List ℕ) : Type 0 where
  pub body : List ℕ
  pub rest : List ℕ
  pub whole : text ≡ body ++ rest
  pub line : InLine body
  pub ends : AtLineEnd rest

in_line_by : (b : ℕ) (bs : List ℕ) (t : Bool) → is_in_line b ≡ t → LineSplit bs → LineSplit (b ∷ bs)
in_line_by b bs true h s = record { body = b ∷ s.body; rest = s.rest; whole = ap (λ x. b ∷ x) s.whole; line = rw h s.line; ends = s.ends }
in_line_by b bs false h s = record { body = []; rest = b ∷ bs; whole = refl; line = refl; ends = feed (nat_eq b 10) refl h }
  where
    feed : (t : Bool) → nat_eq b 10 ≡ t → not t ≡ false → b ≡ 10
    feed true e f = eqb-true b 10 e
    feed false e f = absurd cc

pub line_split : (text : List ℕ) → LineSplit text
line_split [] = record { body = []; rest = []; whole = refl; line = refl; ends = tt }
line_split (b ∷ bs) = in_line_by b bs (is_in_line b) refl (line_split bs)

-- ---- `*/`

and_none : (a : Bool) → (a && false) ≡ false
and_none true = refl
and_none false = refl

not_closed : (b : ℕ) → starts_with nat_eq (b ∷ []) (codes "*/") ≡ false
not_closed b = and_none (nat_eq 42 b)

-- what does not begin with `*/` does so with nothing of its end, and not with a byte behind it that is no `/`
front_unclosed : (b : ℕ) (bs more : List ℕ) → starts_with nat_eq (b ∷ (bs ++ more)) (codes "*/") ≡ false → starts_with nat_eq (b ∷ bs) (codes "*/") ≡ false
front_unclosed b [] more h = not_closed b
front_unclosed b (c ∷ bs) more h = h

still_unclosed : (b : ℕ) (bs : List ℕ) (c : ℕ) (more : List ℕ) → nat_eq 47 c ≡ false → starts_with nat_eq (b ∷ bs) (codes "*/") ≡ false → starts_with nat_eq (b ∷ (bs ++ (c ∷ more))) (codes "*/") ≡ false
still_unclosed b [] c more e h = rw e (and_none (nat_eq 42 b))
still_unclosed b (d ∷ bs) c more e h = h

pub unclosed_front : (a b : List ℕ) → Unclosed (a ++ b) → Unclosed a
unclosed_front [] b h = tt
unclosed_front (x ∷ xs) b h = (front_unclosed x xs b h.0, unclosed_front xs b h.1)

pub unclosed_at : (a : List ℕ) → Unclosed a → Unclosed (a ++ codes "@")
unclosed_at [] h = (refl, tt)
unclosed_at (x ∷ xs) h = (still_unclosed x xs 64 [] refl h.0, unclosed_at xs h.1)

pub ended_is : (n : ℕ) (body rest : List ℕ) → Unclosed body → ended_from n ((body ++ codes "*/") ++ rest) ≡ Some (n + (length body + 2))
ended_is n [] rest h = let same : n + (0 + 2) ≡ n + 2 = omega arith in rw same refl
ended_is n (b ∷ bs) rest h =
    let still : starts_with nat_eq (b ∷ ((bs ++ codes "*/") ++ rest)) (codes "*/") ≡ false = not_here bs h.0 in
    let same : n + (suc (length bs) + 2) ≡ (n + 1) + (length bs + 2) = omega arith in
    rw (still, same) (ended_is (n + 1) bs rest h.1)
  where
    not_here : (bs : List ℕ) → starts_with nat_eq (b ∷ bs) (codes "*/") ≡ false → starts_with nat_eq (b ∷ ((bs ++ codes "*/") ++ rest)) (codes "*/") ≡ false
    not_here [] e = and_none (nat_eq 42 b)
    not_here (c ∷ cs) e = e

-- a text, up to the first `*/` and behind that, where so many bytes stand before and behind it
pub record ClosedSplit (n : ℕ) (text : List ℕ) (k : ℕ) : Type 0 where
  pub body : List ℕ
  pub rest : List ℕ
  pub whole : text ≡ (body ++ codes "*/") ++ rest
  pub unclosed : Unclosed body
  pub count : k ≡ n + (length body + 2)

closed_by : (n b : ℕ) (bs : List ℕ) (k : ℕ) (t : Bool) → starts_with nat_eq (b ∷ bs) (codes "*/") ≡ t → (ended_from (n + 1) bs ≡ Some k → ClosedSplit (n + 1) bs k) → (if t then Some (n + 2) else ended_from (n + 1) bs) ≡ Some k → ClosedSplit n (b ∷ bs) k
closed_by n b bs k true h later e = record {
  body = [];
  rest = drop 2 (b ∷ bs);
  whole = front_of (b ∷ bs) (codes "*/") h;
  unclosed = tt;
  count = let same : n + 2 ≡ k = cc in omega arith;
}
closed_by n b bs k false h later e =
    let s = later e in
    record {
      body = b ∷ s.body;
      rest = s.rest;
      whole = ap (λ x. b ∷ x) s.whole;
      unclosed = (front_unclosed b s.body (codes "*/" ++ s.rest) (rw (sym (parts s.body s.rest), sym s.whole) h), s.unclosed);
      count = let c = s.count in omega arith;
    }
  where
    parts : (x y : List ℕ) → (x ++ codes "*/") ++ y ≡ x ++ (codes "*/" ++ y)
    parts [] y = refl
    parts (z ∷ x) y = ap (λ w. z ∷ w) (parts x y)

pub closed_split : (n : ℕ) (text : List ℕ) (k : ℕ) → ended_from n text ≡ Some k → ClosedSplit n text k
closed_split n [] k e = absurd cc
closed_split n (b ∷ bs) k e = closed_by n b bs k (starts_with nat_eq (b ∷ bs) (codes "*/")) refl (λ f. closed_split (n + 1) bs k f) e

-- a text whose last byte is `@`
pub at_last : (k : ℕ) (text more : List ℕ) → suc k ≡ length text → starts_with nat_eq (drop k (text ++ more)) (codes "@") ≡ true → (body : List ℕ) × (text ≡ body ++ codes "@")
at_last k [] more l h = absurd (omega arith)
at_last zero (b ∷ []) more l h = let same : 64 ≡ b = eqb-true 64 b (and_left (nat_eq 64 b) _ h) in ([], ap (λ x. x ∷ []) (sym same))
at_last zero (b ∷ c ∷ cs) more l h = absurd (omega arith)
at_last (suc k) (b ∷ bs) more l h = let r = at_last k bs more (omega arith) h in (b ∷ r.0, ap (λ x. b ∷ x) r.1)
