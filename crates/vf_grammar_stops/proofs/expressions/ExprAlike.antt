-- Expressions stop alike on tokens that are alike, also where the others may nest deeper.
use Rattle.std.proofs.Common.{◌≡◌, ℕ, zero, suc, ◌+◌, ◌≤◌, Bool, true, false, List, [], ◌∷◌, ◌++◌, length, Option, Some, None, refl, ◌∙◌, arith}
use Rattle.vf_base.specs.declared.place.Place.{Place}
use Rattle.vf_lexer.specs.declared.punctuator.Punctuator.TheVariants as punctuators
use Rattle.vf_lexer.specs.declared.token.Token.{Token}
use Rattle.vf_syntax.specs.declared.keyword.Keyword.TheVariants as keywords
use Rattle.vf_syntax.specs.declared.side.Side.TheVariants.{Real}
use Rattle.vf_syntax.specs.declared.operator.UnaryOperator.{UnaryOperator}
use Rattle.vf_syntax.specs.declared.operator.BinaryOperator.TheVariants as binaries
use Rattle.vf_syntax.specs.declared.operator.Level.{Level}
use Rattle.vf_syntax.specs.declared.operator.Level.TheVariants as levels
use Rattle.vf_syntax.specs.ExprTree.{ExprTree, LinkTree}
use Rattle.vf_syntax.specs.ExprTree as tree
use Rattle.vf_syntax.specs.Walks.{head_has, is_mark, is_name}
use Rattle.vf_syntax.specs.Written.{unary_mark}
use Rattle.vf_cursor.specs.Parsing.{Parser, ok, ◌>>=◌, here_at, many_at, item_step}
use Rattle.vf_cursor.specs.Types.{next_unary, next_on}
use Rattle.vf_cursor.proofs.Loop.{many_stops}
use Rattle.vf_parse_expression.specs.Operands.{sees_cast, sees_primary, sees_operand, joins, nth_level, operator_at, chained, posted, is_part}
use Rattle.vf_parse_expression.specs.Parsers.{too_deep, word_primary_at, primary_at, part_at, parts_at, post_at, signed_at, unsigned_at, found_operand, whole_operand_at, link_at, links_at, chain_at, tier_at, choice_at, conditional_at, expr_at, unary_at, factor_at}
use Rattle.vf_parse_expression.proofs.OperandsSound.{Reads}
use Rattle.vf_parse_expression.proofs.Sound.{operand_sound, tier_sound, expr_sound, unary_sound, factor_sound}
use Rattle.vf_grammar_read.proofs.expressions.Fronts.{a_mark}
use Rattle.vf_grammar_read.proofs.expressions.Behind.{front_looser, no_part, joined}
use Rattle.vf_grammar_stops.specs.types.Stops.{first}
use Rattle.vf_grammar_stops.proofs.types.Local.{LikeAt, Does, then_like, done_like, here_like, mark_like, choice_like}
use Rattle.vf_grammar_stops.proofs.types.LoopAlike.{Takes, items_like}
use Rattle.vf_grammar_stops.proofs.expressions.Heads.{Hangs, found_like, unary_hangs}
use Rattle.vf_grammar_stops.proofs.expressions.OperandsAlike.{operator_like}
use Rattle.vf_grammar_stops.proofs.expressions.Beyond.{Beyond, bounded, further, beyond_bind, many_bounded}
use Rattle.vf_grammar_stops.proofs.expressions.PrimaryAlike.{reads_take, link_takes, parts_like, post_like}
use Rattle.vf_grammar_stops.proofs.expressions.Casts.{name_seen, mark_seen}
use Rattle.vf_grammar_stops.proofs.expressions.Refused.{Refuses, expr_refuses, unary_refuses, factor_refuses, primary_hangs, operand_hangs}
use Rattle.vf_grammar_stops.proofs.expressions.Reached.{Passes, mark_taken, name_taken, beyond_then, unsigned_like}

signed_like : {b : Bool} {u v : Parser ExprTree} → Does b u v → (o : UnaryOperator) → Does b (signed_at u o) (signed_at v o)
unfolding signed_at
signed_like hu o = then_like (mark_like Real (unary_mark o)) (λ m. then_like hu (λ a. done_like (tree.unary m o a)))

found_operand_like : {e g u v f h : Parser ExprTree} (d : ℕ) → Does false e g → Does false u v → Does false f h → Reads 1 9 d g → Passes e → (o : Option UnaryOperator) → Does false (found_operand e u f o) (found_operand g v h o)
found_operand_like d he hu hf hg p None = unsigned_like d he hu hf hg p
found_operand_like d he hu hf hg p (Some o) = signed_like hu o

pub operand_like : {e g u v f h : Parser ExprTree} (d : ℕ) → Does false e g → Does false u v → Does false f h → Reads 1 9 d g → Passes e → Does false (whole_operand_at e u f) (whole_operand_at g v h)
unfolding whole_operand_at
operand_like {e = e} {g = g} {u = u} {v = v} {f = f} {h = h} d he hu hf hg p = found_like (next_unary Real) unary_hangs (found_operand e u f) (found_operand g v h) (λ o. found_operand_like d he hu hf hg p o)

link_like : {b : Bool} {p q : Parser ExprTree} (l : Level) → Does b p q → Does b (link_at l p) (link_at l q)
unfolding link_at
link_like l hp = then_like (operator_like l) (λ o. then_like hp (λ a. done_like (tree.link o.0 o.1 a)))

links_like : {b : Bool} {p q : Parser ExprTree} (l : Level) → Does b p q → Takes q → Does b (links_at l p) (links_at l q)
unfolding links_at
links_like {q = q} l hp hq = items_like (joins l) (link_like l hp) (link_takes l q hq) []

chain_like : {b : Bool} {p q : Parser ExprTree} (l : Level) → Does b p q → Takes q → Does b (chain_at l p) (chain_at l q)
unfolding chain_at
chain_like l hp hq = then_like here_like (λ h. then_like hp (λ a. then_like (links_like l hp hq) (λ xs. done_like (chained h l a xs))))

pub tier_like : {b : Bool} {u v : Parser ExprTree} (d : ℕ) → Does b u v → Reads 0 2 d v → (j : ℕ) → j ≤ 6 → Does b (tier_at u j) (tier_at v j)
unfolding tier_at
tier_like d hu hv zero le = hu
tier_like {v = v} d hu hv (suc j) le = chain_like (nth_level j) (tier_like d hu hv j (omega (arith, le))) (reads_take 0 (j + 2) d (tier_at v j) (tier_sound v d hv j (omega (arith, le))))

choice_at_like : {b : Bool} {e g : Parser ExprTree} → Does b e g → (p : Place) (c : ExprTree) → Does b (choice_at e p c) (choice_at g p c)
unfolding choice_at
choice_at_like he p c =
    choice_like (is_mark Real punctuators.Question)
    (then_like (mark_like Real punctuators.Question) (λ q. then_like he (λ a. then_like (mark_like Real punctuators.Colon) (λ k. then_like he (λ d. done_like (tree.conditional p c a d))))))
    (done_like c)

conditional_like : {b : Bool} {e g u v : Parser ExprTree} (d : ℕ) → Does b e g → Does b u v → Reads 0 2 d v → Does b (conditional_at e u) (conditional_at g v)
unfolding conditional_at
conditional_like d he hu hv = then_like here_like (λ h. then_like (tier_like d hu hv 6 (omega arith)) (λ c. choice_at_like he h c))

-- where nothing may stand one level further down
deep_at : {A : Type 0} (q : Parser A) (ts : List Token) (v : Bool) → (v ≡ false → (us : List Token) → first us ≡ first ts → Refuses q us) → LikeAt false q ts (too_deep v ts)
deep_at q ts true h = λ k. absurd cc
deep_at q ts false h = λ k. record { used = []; rest = ts; parts = refl; left = refl; alike = h refl }

pub deep_like : {A : Type 0} (begins : List Token → Bool) (q : Parser A) → Hangs begins → ((ts : List Token) → begins ts ≡ false → Refuses q ts) → Does false (λ ts. too_deep (begins ts) ts) q
deep_like begins q hangs h = record { run = λ ts. deep_at q ts (begins ts) (λ none us same. h us (hangs us ts same ∙ none)) }

-- from a name on, an operand is read as a primary expression
named_primary : (e f : Parser ExprTree) (t : Token) (ts : List Token) → is_name Real t ≡ true → primary_at e f (t ∷ ts) ≡ ok (tree.name_ t.place t.text) ts
unfolding primary_at word_primary_at
named_primary e f t ts h =
    let s = name_seen t ts h in
    rw (s.numbers_are, s.characters_are, s.words_are keywords.True, s.words_are keywords.False, s.words_are keywords.Malloc, s.names_are, name_taken t ts h) refl

pub named_post : (e f : Parser ExprTree) (t : Token) (ts : List Token) → is_name Real t ≡ true → post_at e f (t ∷ ts) ≡ (parts_at e ts >>= λ xs. ok (posted t.place (tree.name_ t.place t.text) xs.0) xs.1)
unfolding post_at here_at
named_post e f t ts h = rw (named_primary e f t ts h) refl

named_operand : (e u f : Parser ExprTree) (t : Token) (ts : List Token) → is_name Real t ≡ true → whole_operand_at e u f (t ∷ ts) ≡ (parts_at e ts >>= λ xs. ok (posted t.place (tree.name_ t.place t.text) xs.0) xs.1)
unfolding whole_operand_at next_unary unsigned_at sees_cast
named_operand e u f t ts h =
    let s = name_seen t ts h in
    rw (s.next_is, s.marks_are punctuators.OpenParenthesis) (named_post e f t ts h)

operand_passes : {e g : Parser ExprTree} (u f : Parser ExprTree) (d : ℕ) → Does false e g → Reads 1 9 d g → (t : Token) (ts : List Token) → is_name Real t ≡ true → Beyond 1 (whole_operand_at e u f (t ∷ ts)) (suc (length ts))
operand_passes {e = e} u f d he hg t ts h =
    rw (named_operand e u f t ts h)
    (beyond_bind 1 (suc (length ts)) (parts_at e ts) (λ xs. ok (posted t.place (tree.name_ t.place t.text) xs)) (further 0 1 (length ts) (suc (length ts)) (parts_at e ts) (omega arith) ((bounded (parts_like d he hg)).bound ts))
    (λ xs. bounded (done_like (posted t.place (tree.name_ t.place t.text) xs))))

no_parts : (e : Parser ExprTree) (s : Token) (ts : List Token) → is_mark Real punctuators.Star s ≡ true → parts_at e (s ∷ ts) ≡ ok [] (s ∷ ts)
unfolding parts_at
no_parts e s ts h = many_stops is_part (item_step (part_at e)) (suc (length ts)) [] (s ∷ ts) (no_part (s ∷ ts) (front_looser 1 (a_mark punctuators.Star) (s ∷ ts) (mark_seen punctuators.Star s ts h) (omega arith)))

-- what is read of a name before a star
operand_alone : (e u f : Parser ExprTree) (t s : Token) (ts : List Token) → is_name Real t ≡ true → is_mark Real punctuators.Star s ≡ true → whole_operand_at e u f (t ∷ s ∷ ts) ≡ ok (posted t.place (tree.name_ t.place t.text) []) (s ∷ ts)
operand_alone e u f t s ts h k = named_operand e u f t (s ∷ ts) h ∙ rw (no_parts e s ts k) refl

star_taken : (s : Token) (ts : List Token) → is_mark Real punctuators.Star s ≡ true → operator_at levels.Multiplicative (s ∷ ts) ≡ ok (s.place, binaries.Times) ts
unfolding operator_at next_on
star_taken s ts h =
    let f = mark_seen punctuators.Star s ts h in
    rw (f.next_is, mark_taken punctuators.Star s ts h) refl

star_link : {p q : Parser ExprTree} (s : Token) (ts : List Token) → Does false p q → is_mark Real punctuators.Star s ≡ true → Beyond 1 (link_at levels.Multiplicative p (s ∷ ts)) (suc (length ts))
unfolding link_at
star_link {p = p} s ts hp h =
    beyond_then 1 (suc (length ts)) (operator_at levels.Multiplicative (s ∷ ts)) (s.place, binaries.Times) ts (λ o us. p us >>= λ b. ok (tree.link o.0 o.1 b.0) b.1) (star_taken s ts h) (omega arith)
    (bounded (then_like hp (λ b. done_like (tree.link s.place binaries.Times b))))

star_item : {p q : Parser ExprTree} (s : Token) (ts : List Token) → Does false p q → is_mark Real punctuators.Star s ≡ true → Beyond 1 (item_step (link_at levels.Multiplicative p) [] (s ∷ ts)) (suc (length ts))
star_item {p = p} s ts hp h =
    beyond_bind 1 (suc (length ts)) (link_at levels.Multiplicative p (s ∷ ts)) (λ x. ok ([] ++ x ∷ [])) (star_link s ts hp h) (λ x. bounded (done_like ([] ++ x ∷ [])))

star_links : {p q : Parser ExprTree} (s : Token) (ts : List Token) → Does false p q → is_mark Real punctuators.Star s ≡ true → Beyond 1 (links_at levels.Multiplicative p (s ∷ ts)) (suc (length ts))
unfolding links_at
star_links {p = p} s ts hp h =
    rw (joined levels.Multiplicative binaries.Times (s ∷ ts) (mark_seen punctuators.Star s ts h) refl)
    (beyond_bind 1 (suc (length ts)) (item_step (link_at levels.Multiplicative p) [] (s ∷ ts)) (many_at (length ts) (joins levels.Multiplicative) (item_step (link_at levels.Multiplicative p))) (star_item s ts hp h)
    (λ xs. many_bounded (length ts) (joins levels.Multiplicative) (item_step (link_at levels.Multiplicative p)) (λ ys. bounded (then_like (link_like levels.Multiplicative hp) (λ x. done_like (ys ++ x ∷ [])))) xs))

star_chain : {u v : Parser ExprTree} (t s : Token) (ts : List Token) (a : ExprTree) → Does false u v → is_mark Real punctuators.Star s ≡ true → u (t ∷ s ∷ ts) ≡ ok a (s ∷ ts) → Beyond 2 (tier_at u 1 (t ∷ s ∷ ts)) (suc (suc (length ts)))
unfolding tier_at chain_at here_at
star_chain {u = u} t s ts a hu h e =
    rw e
    (beyond_bind 2 (suc (suc (length ts))) (links_at levels.Multiplicative u (s ∷ ts)) (λ xs. ok (chained t.place levels.Multiplicative a xs)) (further 1 2 (suc (length ts)) (suc (suc (length ts))) (links_at levels.Multiplicative u (s ∷ ts)) (omega arith) (star_links s ts hu h))
    (λ xs. bounded (done_like (chained t.place levels.Multiplicative a xs))))

-- more levels of operators get no less far
tier_further : {u v : Parser ExprTree} (d i n : ℕ) (t : Token) (ts : List Token) → Does false u v → Reads 0 2 d v → (j : ℕ) → j ≤ 5 → Beyond i (tier_at u j (t ∷ ts)) n → Beyond i (tier_at u (suc j) (t ∷ ts)) n
unfolding tier_at chain_at here_at
tier_further {u = u} {v = v} d i n t ts hu hv j le h =
    let takes = reads_take 0 (j + 2) d (tier_at v j) (tier_sound v d hv j (omega (arith, le))) in
    let same = tier_like d hu hv j (omega (arith, le)) in
    beyond_bind i n (tier_at u j (t ∷ ts)) (λ a us. links_at (nth_level j) (tier_at u j) us >>= λ xs. ok (chained t.place (nth_level j) a xs.0) xs.1) h
    (λ a. bounded (then_like (links_like (nth_level j) same takes) (λ xs. done_like (chained t.place (nth_level j) a xs))))

conditional_further : {e g : Parser ExprTree} (u : Parser ExprTree) (i n : ℕ) (t : Token) (ts : List Token) → Does false e g → Beyond i (tier_at u 6 (t ∷ ts)) n → Beyond i (conditional_at e u (t ∷ ts)) n
unfolding conditional_at here_at
conditional_further {e = e} u i n t ts he h = beyond_bind i n (tier_at u 6 (t ∷ ts)) (λ c. choice_at e t.place c) h (λ c. bounded (choice_at_like he t.place c))

tiers_further : {u v : Parser ExprTree} (d i n : ℕ) (t : Token) (ts : List Token) → Does false u v → Reads 0 2 d v → (k : ℕ) → k ≤ 5 → Beyond i (tier_at u 1 (t ∷ ts)) n → Beyond i (tier_at u (suc k) (t ∷ ts)) n
tiers_further d i n t ts hu hv zero le h = h
tiers_further d i n t ts hu hv (suc k) le h = tier_further d i n t ts hu hv (suc k) le (tiers_further d i n t ts hu hv k (omega (arith, le)) h)

first_tier : {u v : Parser ExprTree} (d i n : ℕ) (t : Token) (ts : List Token) → Does false u v → Reads 0 2 d v → Beyond i (u (t ∷ ts)) n → Beyond i (tier_at u 1 (t ∷ ts)) n
unfolding tier_at
first_tier d i n t ts hu hv h = tier_further d i n t ts hu hv 0 (omega arith) h

past_star : {v : Parser ExprTree} (e g f : Parser ExprTree) (d : ℕ) → Does false (whole_operand_at e g f) v → Reads 0 2 d v → (t : Token) (ts : List Token) → is_name Real t ≡ true → head_has (is_mark Real punctuators.Star) ts ≡ true → Beyond 2 (tier_at (whole_operand_at e g f) 1 (t ∷ ts)) (suc (length ts))
past_star e g f d ho hv t [] h k = absurd cc
past_star e g f d ho hv t (s ∷ ts) h k = star_chain t s ts (posted t.place (tree.name_ t.place t.text) []) ho k (operand_alone e g f t s ts h k)

passes_more : {e g u v f h : Parser ExprTree} (d : ℕ) → Does false e g → Does false u v → Does false f h → Reads 1 9 d g → Reads 1 2 d v → Reads 1 1 d h → Passes e → Passes (conditional_at e (whole_operand_at e u f))
passes_more {e = e} {g = g} {u = u} {v = v} {f = f} {h = h} d he hu hf hg hv hh p =
    let o = operand_like d he hu hf hg p in
    let sound = operand_sound g v h d hg hv hh in
    record {
      name = λ t ts named. conditional_further (whole_operand_at e u f) 1 (suc (length ts)) t ts he (tiers_further d 1 (suc (length ts)) t ts o sound 5 (omega arith) (first_tier d 1 (suc (length ts)) t ts o sound (operand_passes u f d he hg t ts named)));
      star = λ t ts named starred. conditional_further (whole_operand_at e u f) 2 (suc (length ts)) t ts he (tiers_further d 2 (suc (length ts)) t ts o sound 5 (omega arith) (past_star e u f d o sound t ts named starred));
    }

-- a name begins an expression
named_begins : (t : Token) (ts : List Token) → is_name Real t ≡ true → sees_operand (t ∷ ts) ≡ true
unfolding sees_operand sees_primary next_unary
named_begins t ts h =
    let s = name_seen t ts h in
    rw (s.next_is, s.numbers_are, s.characters_are, s.words_are keywords.True, s.words_are keywords.False, s.words_are keywords.Malloc, s.names_are) refl

deep_passes : (j : ℕ) (t : Token) (ts : List Token) → is_name Real t ≡ true → Beyond {A = ExprTree} j (too_deep (sees_operand (t ∷ ts)) (t ∷ ts)) (suc (length ts))
deep_passes j t ts h = rw (named_begins t ts h) tt

mutual
  unfolding expr_at unary_at factor_at

  pub expr_like : (d m : ℕ) → d ≤ m → Does false (expr_at d) (expr_at m)
  expr_like zero m le = deep_like sees_operand (expr_at m) operand_hangs (expr_refuses m)
  expr_like (suc d) zero le = absurd (omega (arith, le))
  expr_like (suc d) (suc m) le =
      let below : d ≤ m = omega (arith, le) in
      conditional_like m (expr_like d m below) (operand_like m (expr_like d m below) (unary_like d m below) (factor_like d m below) (expr_sound m) (expr_passes d))
      (operand_sound (expr_at m) (unary_at m) (factor_at m) m (expr_sound m) (unary_sound m) (factor_sound m))

  pub unary_like : (d m : ℕ) → d ≤ m → Does false (unary_at d) (unary_at m)
  unary_like zero m le = deep_like sees_operand (unary_at m) operand_hangs (unary_refuses m)
  unary_like (suc d) zero le = absurd (omega (arith, le))
  unary_like (suc d) (suc m) le =
      let below : d ≤ m = omega (arith, le) in
      operand_like m (expr_like d m below) (unary_like d m below) (factor_like d m below) (expr_sound m) (expr_passes d)

  pub factor_like : (d m : ℕ) → d ≤ m → Does false (factor_at d) (factor_at m)
  factor_like zero m le = deep_like sees_primary (factor_at m) primary_hangs (factor_refuses m)
  factor_like (suc d) zero le = absurd (omega (arith, le))
  factor_like (suc d) (suc m) le =
      let below : d ≤ m = omega (arith, le) in
      post_like m (expr_like d m below) (factor_like d m below) (expr_sound m)

  pub expr_passes : (d : ℕ) → Passes (expr_at d)
  expr_passes zero = record { name = λ t ts h. deep_passes 1 t ts h; star = λ t ts h k. deep_passes 2 t ts h }
  expr_passes (suc d) = passes_more d (expr_like d d (omega arith)) (unary_like d d (omega arith)) (factor_like d d (omega arith)) (expr_sound d) (unary_sound d) (factor_sound d) (expr_passes d)

pub postfix_like : (d m : ℕ) → d ≤ m → Does false (post_at (expr_at d) (factor_at d)) (post_at (expr_at m) (factor_at m))
postfix_like d m le = post_like m (expr_like d m le) (factor_like d m le) (expr_sound m)
