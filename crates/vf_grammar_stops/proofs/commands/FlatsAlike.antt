-- Ghost commands in which no other stands stop alike on tokens that are alike, also where more may nest.
use Rattle.std.proofs.Common.{◌≡◌, ℕ, zero, suc, ◌+◌, ◌≤◌, ◌++◌, Bool, true, false, ◌&&◌, List, [], ◌∷◌, length, Option, refl, sym, subst, ap, ◌∙◌, length-append, arith}
use Rattle.std.specs.Prelude.{if◌then◌else◌}
use Rattle.std.proofs.lemmas.Slice.Eq.{bytes_eq-Decides}
use Rattle.vf_base.specs.declared.place.Place.{Place}
use Rattle.vf_lexer.specs.declared.punctuator.Punctuator.TheVariants as punctuators
use Rattle.vf_lexer.specs.declared.token.Token.{Token}
use Rattle.vf_syntax.specs.declared.keyword.Keyword.TheVariants as keywords
use Rattle.vf_syntax.specs.declared.side.Side.TheVariants.{Ghost}
use Rattle.vf_syntax.specs.declared.written.Name.{Name}
use Rattle.vf_syntax.specs.declared.pattern.Pattern.{Pattern}
use Rattle.vf_syntax.specs.declared.pattern.Share.{Share}
use Rattle.vf_syntax.specs.SortTree.{SortTree}
use Rattle.vf_syntax.specs.GhostCommandTree.{GhostCommandTree}
use Rattle.vf_syntax.specs.GhostCommandTree as tree
use Rattle.vf_syntax.specs.Walks.{head_has, is_mark, is_word, is_name, identifier}
use Rattle.vf_cursor.specs.Parsing.{Parser, ok, ◌>>=◌, here_at, mark_at, name_at}
use Rattle.vf_parse_term.specs.Pieces.{too_deep_at}
use Rattle.vf_parse_term.specs.Sorts.{begins_sort, named_sort_at, sort_form_at, sort_at}
use Rattle.vf_parse_term.specs.Terms.{term_at, arguments_at}
use Rattle.vf_parse_command.specs.declared.flat.Target.{Target}
use Rattle.vf_parse_command.specs.Flats.{second_has, sees_assignment, sees_call, applied_at, open_at, close_at, leak_at, assert_at, declaration_at, assignment_at, call_at, value_at, flat_at}
use Rattle.vf_grammar_read.proofs.expressions.Fronts.{a_name, Front, identifier_front}
use Rattle.vf_grammar_stops.specs.types.Stops.{first}
use Rattle.vf_grammar_stops.proofs.types.Local.{LikeAt, Does, then_like, done_like, here_like, mark_like, word_like, name_like, choice_like, first_front, first_has}
use Rattle.vf_grammar_stops.proofs.expressions.Beyond.{Beyond, bounded, beyond_bind, seen_like}
use Rattle.vf_grammar_stops.proofs.expressions.Casts.{and_same}
use Rattle.vf_grammar_stops.proofs.expressions.Reached.{called, beyond_then}
use Rattle.vf_grammar_stops.proofs.terms.SortsAlike.{named_sort_like, sort_takes, sort_like}
use Rattle.vf_grammar_stops.proofs.terms.TermsAlike.{arguments_like, term_takes, term_like}
use Rattle.vf_grammar_stops.proofs.patterns.PatternsAlike.{any_share_like, patterns_like, any_patterns_like}
use Rattle.vf_grammar_stops.proofs.assertions.AssertionsAlike.{assertion_like}

-- what a command is for
abbrev target_of : Option Share → Name → List Pattern → Option (List Pattern) → Target
target_of s n xs ys = record { share = s; name = n; first = xs; second = ys }

applied_like : (d m : ℕ) → d ≤ m → Does false (applied_at d) (applied_at m)
unfolding applied_at
applied_like d m le =
    then_like any_share_like (λ s. then_like (name_like Ghost) (λ n. then_like (patterns_like d m le) (λ xs. then_like (any_patterns_like d m le) (λ ys. then_like (mark_like Ghost punctuators.Semicolon) (λ z. done_like (target_of s n xs ys))))))

open_like : (d m : ℕ) → d ≤ m → Does false (open_at d) (open_at m)
unfolding open_at
open_like d m le = then_like (word_like Ghost keywords.Open) (λ w. then_like (applied_like d m le) (λ x. done_like (tree.open_ w x.share x.name x.first x.second)))

close_like : (d m : ℕ) → d ≤ m → Does false (close_at d) (close_at m)
unfolding close_at
close_like d m le = then_like (word_like Ghost keywords.Close) (λ w. then_like (applied_like d m le) (λ x. done_like (tree.close_ w x.share x.name x.first x.second)))

leak_like : (d m : ℕ) → d ≤ m → Does false (leak_at d) (leak_at m)
unfolding leak_at
leak_like d m le = then_like (word_like Ghost keywords.Leak) (λ w. then_like (assertion_like d m le) (λ a. then_like (mark_like Ghost punctuators.Semicolon) (λ z. done_like (tree.leak_ w a))))

assert_like : (d m : ℕ) → d ≤ m → Does false (assert_at d) (assert_at m)
unfolding assert_at
assert_like d m le = then_like (word_like Ghost keywords.Assert) (λ w. then_like (assertion_like d m le) (λ a. then_like (mark_like Ghost punctuators.Semicolon) (λ z. done_like (tree.assert_ w a))))

-- what a declaration has behind its sort
abbrev declared_behind : ℕ → Place → SortTree → Parser GhostCommandTree
declared_behind d p s ts = name_at Ghost ts >>= λ n. mark_at Ghost punctuators.Becomes n.1 >>= λ m. term_at d m.1 >>= λ e. mark_at Ghost punctuators.Semicolon e.1 >>= λ z. ok (tree.declaration p s n.0 e.0) z.1

declared_behind_like : (d m : ℕ) → d ≤ m → (p : Place) (s : SortTree) → Does false (declared_behind d p s) (declared_behind m p s)
declared_behind_like d m le p s = then_like (name_like Ghost) (λ n. then_like (mark_like Ghost punctuators.Becomes) (λ k. then_like (term_like d m le) (λ e. then_like (mark_like Ghost punctuators.Semicolon) (λ z. done_like (tree.declaration p s n e)))))

declaration_like : (d m : ℕ) → d ≤ m → Does false (declaration_at d) (declaration_at m)
unfolding declaration_at
declaration_like d m le = then_like here_like (λ p. then_like (sort_like d m le) (λ s. declared_behind_like d m le p s))

-- what an assignment has behind its name
abbrev assigned_behind : ℕ → Name → Parser GhostCommandTree
assigned_behind d n ts = mark_at Ghost punctuators.Becomes ts >>= λ m. term_at d m.1 >>= λ e. mark_at Ghost punctuators.Semicolon e.1 >>= λ z. ok (tree.assignment n.place n.text e.0) z.1

assigned_behind_like : (d m : ℕ) → d ≤ m → (n : Name) → Does false (assigned_behind d n) (assigned_behind m n)
assigned_behind_like d m le n = then_like (mark_like Ghost punctuators.Becomes) (λ k. then_like (term_like d m le) (λ e. then_like (mark_like Ghost punctuators.Semicolon) (λ z. done_like (tree.assignment n.place n.text e))))

assignment_like : (d m : ℕ) → d ≤ m → Does false (assignment_at d) (assignment_at m)
unfolding assignment_at
assignment_like d m le = then_like (name_like Ghost) (λ n. assigned_behind_like d m le n)

-- what a call has behind its name
abbrev called_behind : ℕ → Name → Parser GhostCommandTree
called_behind d n ts = arguments_at (term_at d) ts >>= λ xs. mark_at Ghost punctuators.Semicolon xs.1 >>= λ z. ok (tree.call_ n.place n.text xs.0) z.1

called_behind_like : (d m : ℕ) → d ≤ m → (n : Name) → Does false (called_behind d n) (called_behind m n)
called_behind_like d m le n = then_like (arguments_like (term_like d m le) (term_takes m)) (λ xs. then_like (mark_like Ghost punctuators.Semicolon) (λ z. done_like (tree.call_ n.place n.text xs)))

call_like : (d m : ℕ) → d ≤ m → Does false (call_at d) (call_at m)
unfolding call_at
call_like d m le = then_like (name_like Ghost) (λ n. called_behind_like d m le n)

-- a name comes next
abbrev named : List Token → Bool
named ts = head_has (is_name Ghost) ts

-- the second token is the same where one was used
second_same : (test : Token → Bool) (used rest us : List Token) → first us ≡ first rest → 1 ≤ length used → second_has test (used ++ us) ≡ second_has test (used ++ rest)
second_same test [] rest us h le = absurd (omega (arith, le))
second_same test (t ∷ used) rest us h le = first_has test (used ++ us) (used ++ rest) (first_front used us rest h)

look_same : (test : Token → Bool) (used rest us : List Token) → (named (used ++ rest) ≡ true → 1 ≤ length used) → first us ≡ first rest → (named (used ++ us) && second_has test (used ++ us)) ≡ (named (used ++ rest) && second_has test (used ++ rest))
look_same test used rest us e h = and_same _ _ _ _ (first_has (is_name Ghost) (used ++ us) (used ++ rest) (first_front used us rest h)) (λ n. second_same test used rest us h (e n))

-- a look at a name and the token behind it goes past one token only where that is a name
look_told : (test : Token → Bool) (ts used rest us : List Token) → ts ≡ used ++ rest → (named ts ≡ true → length rest + 1 ≤ length ts) → first us ≡ first rest → (named (used ++ us) && second_has test (used ++ us)) ≡ (named ts && second_has test ts)
look_told test ts used rest us e n h =
    let size = length-append used rest in
    let enough = subst (λ vs. named vs ≡ true → length rest + 1 ≤ length vs) e n in
    look_same test used rest us (λ v. omega (arith, enough v, size)) h ∙ ap (λ (vs : List Token). named vs && second_has test vs) (sym e)

assignment_told : (ts used rest us : List Token) → ts ≡ used ++ rest → (named ts ≡ true → length rest + 1 ≤ length ts) → first us ≡ first rest → sees_assignment (used ++ us) ≡ sees_assignment ts
unfolding sees_assignment
assignment_told ts used rest us e n h = look_told (is_mark Ghost punctuators.Becomes) ts used rest us e n h

call_told : (ts used rest us : List Token) → ts ≡ used ++ rest → (named ts ≡ true → length rest + 1 ≤ length ts) → first us ≡ first rest → sees_call (used ++ us) ≡ sees_call ts
unfolding sees_call
call_told ts used rest us e n h = look_told (is_mark Ghost punctuators.OpenParenthesis) ts used rest us e n h

name_seen : (t : Token) (ts : List Token) → is_name Ghost t ≡ true → Front Ghost a_name (t ∷ ts)
unfolding identifier
name_seen t ts h = identifier_front Ghost t.text (t ∷ ts) ts (rw (h, (bytes_eq-Decides t.text t.text).1 refl) refl)

name_taken : (t : Token) (ts : List Token) → is_name Ghost t ≡ true → name_at Ghost (t ∷ ts) ≡ ok (called t) ts
unfolding name_at
name_taken t ts h = rw h refl

-- from a name on, each of the three gets past it
assignment_named : (d : ℕ) (ts : List Token) → named ts ≡ true → Beyond 1 (assignment_at d ts) (length ts)
unfolding assignment_at
assignment_named d [] h = absurd cc
assignment_named d (t ∷ ts) h = beyond_then 1 (suc (length ts)) (name_at Ghost (t ∷ ts)) (called t) ts (assigned_behind d) (name_taken t ts h) (omega arith) (bounded (assigned_behind_like d d (omega arith) (called t)))

call_named : (d : ℕ) (ts : List Token) → named ts ≡ true → Beyond 1 (call_at d ts) (length ts)
unfolding call_at
call_named d [] h = absurd cc
call_named d (t ∷ ts) h = beyond_then 1 (suc (length ts)) (name_at Ghost (t ∷ ts)) (called t) ts (called_behind d) (name_taken t ts h) (omega arith) (bounded (called_behind_like d d (omega arith) (called t)))

begins_named : (t : Token) (ts : List Token) → is_name Ghost t ≡ true → begins_sort t ≡ true
unfolding begins_sort
begins_named t ts h =
    let f = name_seen t ts h in
    let a : is_word Ghost keywords.Real t ≡ false = f.words_are keywords.Real in
    let b : is_word Ghost keywords.Any t ≡ false = f.words_are keywords.Any in
    let c : is_word Ghost keywords.Predicate t ≡ false = f.words_are keywords.Predicate in
    rw (a, b, c, h) refl

sort_form_named : (d : ℕ) (p : Place) (t : Token) (ts : List Token) → is_name Ghost t ≡ true → Beyond 1 (sort_form_at (sort_at d) p (t ∷ ts)) (suc (length ts))
unfolding sort_form_at
sort_form_named d p t ts h =
    let f = name_seen t ts h in
    rw (f.words_are keywords.Real, f.words_are keywords.Any, f.words_are keywords.Predicate, f.names_are)
    (beyond_then 1 (suc (length ts)) (name_at Ghost (t ∷ ts)) (called t) ts (λ n. named_sort_at (sort_at d) p n.text) (name_taken t ts h) (omega arith) (bounded (named_sort_like (sort_like d d (omega arith)) (sort_takes d) p t.text)))

sort_named : (d : ℕ) (t : Token) (ts : List Token) → is_name Ghost t ≡ true → Beyond 1 (sort_at d (t ∷ ts)) (suc (length ts))
unfolding sort_at too_deep_at here_at
sort_named zero t ts h = rw (begins_named t ts h) tt
sort_named (suc d) t ts h = sort_form_named d t.place t ts h

declaration_named : (d : ℕ) (ts : List Token) → named ts ≡ true → Beyond 1 (declaration_at d ts) (length ts)
unfolding declaration_at here_at
declaration_named d [] h = absurd cc
declaration_named d (t ∷ ts) h = beyond_bind 1 (suc (length ts)) (sort_at d (t ∷ ts)) (declared_behind d t.place) (sort_named d t ts h) (λ s. bounded (declared_behind_like d d (omega arith) t.place s))

by_look : (d m : ℕ) → d ≤ m → (ts : List Token) (v w : Bool) → sees_assignment ts ≡ v → sees_call ts ≡ w → LikeAt false (value_at m) ts (if v then assignment_at d ts else (if w then call_at d ts else declaration_at d ts))
unfolding value_at
by_look d m le ts true w seen other =
    seen_like (assignment_at m) (value_at m) ts (assignment_at d ts)
    (λ used rest us parts far same. rw (assignment_told ts used rest us parts (λ n. far 1 (length ts) (assignment_named d ts n)) same ∙ seen) refl) ((assignment_like d m le).run ts)
by_look d m le ts false true seen other =
    seen_like (call_at m) (value_at m) ts (call_at d ts)
    (λ used rest us parts far same. let enough : named ts ≡ true → length rest + 1 ≤ length ts = λ n. far 1 (length ts) (call_named d ts n) in rw (assignment_told ts used rest us parts enough same ∙ seen, call_told ts used rest us parts enough same ∙ other) refl) ((call_like d m le).run ts)
by_look d m le ts false false seen other =
    seen_like (declaration_at m) (value_at m) ts (declaration_at d ts)
    (λ used rest us parts far same. let enough : named ts ≡ true → length rest + 1 ≤ length ts = λ n. far 1 (length ts) (declaration_named d ts n) in rw (assignment_told ts used rest us parts enough same ∙ seen, call_told ts used rest us parts enough same ∙ other) refl) ((declaration_like d m le).run ts)

value_like : (d m : ℕ) → d ≤ m → Does false (value_at d) (value_at m)
unfolding value_at
value_like d m le = record { run = λ ts. by_look d m le ts (sees_assignment ts) (sees_call ts) refl refl }

pub flat_like : (d m : ℕ) → d ≤ m → Does false (flat_at d) (flat_at m)
unfolding flat_at
flat_like d m le =
    choice_like (is_word Ghost keywords.Open) (open_like d m le) (choice_like (is_word Ghost keywords.Close) (close_like d m le)
    (choice_like (is_word Ghost keywords.Leak) (leak_like d m le) (choice_like (is_word Ghost keywords.Assert) (assert_like d m le) (value_like d m le))))
