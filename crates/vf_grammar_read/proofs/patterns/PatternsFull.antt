-- Patterns and what cases are for are read where they are spelled.
use Rattle.std.proofs.Common.{◌≡◌, ℕ, ◌≤◌, true, false, List, [], ◌∷◌, Option, Some, None, refl, sym, subst, ◌∙◌, arith}
use Rattle.vf_lexer.specs.declared.punctuator.Punctuator.TheVariants as punctuators
use Rattle.vf_lexer.specs.declared.token.Token.{Token}
use Rattle.vf_syntax.specs.declared.side.Side.TheVariants.{Ghost}
use Rattle.vf_syntax.specs.declared.written.Name.{Name}
use Rattle.vf_syntax.specs.declared.pattern.Pattern.{Pattern}
use Rattle.vf_syntax.specs.declared.pattern.Pattern.TheVariants as patterns
use Rattle.vf_syntax.specs.declared.pattern.CasePattern.{CasePattern}
use Rattle.vf_syntax.specs.Walks.{at, mark, head_has, is_mark, is_wild}
use Rattle.vf_syntax.specs.Written.{name}
use Rattle.vf_syntax.specs.Lists.{optional, separated, greatest, or_none}
use Rattle.vf_syntax.specs.Assertions.{pattern, pattern_list, name_list, case_pattern, pattern_nesting}
use Rattle.vf_cursor.specs.Parsing.{ok, name_at}
use Rattle.vf_parse_pattern.specs.Laws.{flat}
use Rattle.vf_parse_pattern.specs.Patterns.{pattern_at, patterns_at, any_patterns_at, names_at, any_names_at, case_pattern_at}
use Rattle.vf_grammar_read.proofs.expressions.Same.{some_same, no_true}
use Rattle.vf_grammar_read.proofs.expressions.Fronts.{Class, a_mark, a_word, a_name, a_number, a_character, class_mark, Front, gone, at_stays, mark_front}
use Rattle.vf_grammar_read.proofs.expressions.Taken.{mark_read, mark_here, name_read}
use Rattle.vf_grammar_read.proofs.expressions.Eaten.{Eats, keeps, eat_then, then_eat, at_keeps, mark_eats, name_eats}
use Rattle.vf_grammar_read.proofs.terms.Lists.{Listed, any_full}
use Rattle.vf_grammar_read.proofs.terms.Eaten.{term_eats}
use Rattle.vf_grammar_read.proofs.terms.Begins.{class_term, behind, term_begins}
use Rattle.vf_grammar_read.proofs.terms.Behind.{Looser, front_looser}
use Rattle.vf_grammar_read.proofs.terms.TermsFull.{term_full, term_open, most_loose}
use Rattle.vf_grammar_read.proofs.patterns.Wild.{unwild, wild_eats, wild_head, wild_marks, wild_here}
use Rattle.vf_grammar_read.proofs.patterns.SharesFull.{name_front}

-- no expression begins with a `?`
unasked : (c : Class) → class_term c ≡ true → class_mark c punctuators.Question ≡ false
unasked (a_mark punctuators.OpenParenthesis) h = refl
unasked (a_mark punctuators.Minus) h = refl
unasked (a_mark punctuators.Not) h = refl
unasked (a_mark p) h = no_true h
unasked (a_word k) h = refl
unasked a_name h = refl
unasked a_number h = refl
unasked a_character h = refl

pub pattern_full : (d : ℕ) (x : Pattern) (ts rest : List Token) → pattern x ts ≡ Some rest → pattern_nesting x ≤ d → Looser 8 rest → pattern_at d ts ≡ ok x rest
unfolding pattern pattern_at
pattern_full d (patterns.Is e) ts rest h deep lo =
    let b = term_begins e ts rest h in
    rw (b.front.marks_are punctuators.Question ∙ unasked b.class b.begins, unwild b.class ts b.front, term_full d e ts rest h deep (most_loose e) lo) refl
pattern_full d (patterns.Binds p n) ts rest h deep lo =
    let g = gone (at p ts) h in
    let m = gone (mark Ghost punctuators.Question g.0) g.2 in
    let k = behind p g.1 (mark_front Ghost punctuators.Question g.0 m.0 m.1) in
    rw (k.marks_are punctuators.Question, mark_here Ghost _ p ts g.0 m.0 g.1 m.1, name_read Ghost n m.0 rest m.2) refl
pattern_full d (patterns.Wild p) ts rest h deep lo =
    let g = gone (at p ts) h in
    let same = sym (at_stays p ts g.0 g.1) in
    let mark_none = subst (λ us. head_has (is_mark Ghost punctuators.Question) us ≡ false) same (wild_marks g.0 rest punctuators.Question g.2) in
    let seen = subst (λ us. head_has is_wild us ≡ true) same (wild_head g.0 rest g.2) in
    rw (mark_none, seen, wild_here p ts g.0 rest g.1 g.2) refl

pattern_open : (x : Pattern) (ts rest : List Token) → pattern x ts ≡ Some rest → head_has (is_mark Ghost punctuators.CloseParenthesis) ts ≡ false
unfolding pattern
pattern_open (patterns.Is e) ts rest h = term_open e ts rest h
pattern_open (patterns.Binds p n) ts rest h =
    let g = gone (at p ts) h in
    let m = gone (mark Ghost punctuators.Question g.0) g.2 in
    (behind p g.1 (mark_front Ghost punctuators.Question g.0 m.0 m.1)).marks_are punctuators.CloseParenthesis
pattern_open (patterns.Wild p) ts rest h =
    let g = gone (at p ts) h in
    subst (λ us. head_has (is_mark Ghost punctuators.CloseParenthesis) us ≡ false) (sym (at_stays p ts g.0 g.1)) (wild_marks g.0 rest punctuators.CloseParenthesis g.2)

pub pattern_eats : (x : Pattern) → Eats (pattern x)
unfolding pattern
pattern_eats (patterns.Is e) = term_eats e
pattern_eats (patterns.Binds p n) = then_eat (at_keeps p) (eat_then (mark_eats _ _) (keeps (name_eats _ n)))
pattern_eats (patterns.Wild p) = then_eat (at_keeps p) wild_eats

pattern_listed : (d : ℕ) → Listed pattern pattern_nesting d (Looser 8) (pattern_at d)
pattern_listed d = record {
  full = pattern_full d;
  commas = λ ts rest h. front_looser 8 _ ts (mark_front Ghost punctuators.Comma ts rest h) (omega arith);
  eats = pattern_eats;
}

pub list_front : (xs : List Pattern) (ts rest : List Token) → pattern_list xs ts ≡ Some rest → Front Ghost (a_mark punctuators.OpenParenthesis) ts
unfolding pattern_list
list_front xs ts rest h = let a = gone (mark Ghost punctuators.OpenParenthesis ts) h in mark_front Ghost punctuators.OpenParenthesis ts a.0 a.1

pub patterns_full : (d : ℕ) (xs : List Pattern) (ts rest : List Token) → pattern_list xs ts ≡ Some rest → greatest pattern_nesting xs ≤ d → patterns_at d ts ≡ ok xs rest
unfolding pattern_list patterns_at
patterns_full d xs ts rest h deep =
    let a = gone (mark Ghost punctuators.OpenParenthesis ts) h in
    let b = gone (separated Ghost pattern xs a.0) a.2 in
    let z = mark_front Ghost punctuators.CloseParenthesis b.0 rest b.2 in
    let read = any_full (is_mark Ghost punctuators.CloseParenthesis) pattern pattern_nesting d (Looser 8) (pattern_at d) (pattern_listed d) pattern_open xs a.0 b.0 b.1 deep (front_looser 8 _ b.0 z (omega arith)) (z.marks_are punctuators.Comma) (z.marks_are punctuators.CloseParenthesis) in
    rw ((mark_read Ghost _ ts a.0 a.1).1, read, (mark_read Ghost _ b.0 rest b.2).1) refl

pub any_patterns_full : (d : ℕ) (x : Option (List Pattern)) (ts rest : List Token) → optional pattern_list x ts ≡ Some rest → or_none (greatest pattern_nesting) x ≤ d → head_has (is_mark Ghost punctuators.OpenParenthesis) rest ≡ false → any_patterns_at d ts ≡ ok x rest
unfolding any_patterns_at
any_patterns_full d None ts rest h deep stop =
    let same : ts ≡ rest = some_same h in
    rw (subst (λ us. head_has (is_mark Ghost punctuators.OpenParenthesis) us ≡ false) (sym same) stop) (λ i. ok None (same i))
any_patterns_full d (Some xs) ts rest h deep stop =
    rw ((list_front xs ts rest h).marks_are punctuators.OpenParenthesis, patterns_full d xs ts rest h deep) refl

pub name_listed : Listed (name Ghost) flat 0 (λ ts. Unit {0}) (name_at Ghost)
name_listed = record { full = λ n ts rest h deep u. name_read Ghost n ts rest h; commas = λ ts rest h. tt; eats = λ n. name_eats Ghost n }

pub all_flat : {A : Type 0} (xs : List A) → greatest flat xs ≤ 0
all_flat [] = omega arith
all_flat (x ∷ xs) = omega (arith, all_flat xs)

names_full : (xs : List Name) (ts rest : List Token) → name_list xs ts ≡ Some rest → names_at ts ≡ ok xs rest
unfolding name_list names_at
names_full xs ts rest h =
    let a = gone (mark Ghost punctuators.OpenParenthesis ts) h in
    let b = gone (separated Ghost (name Ghost) xs a.0) a.2 in
    let z = mark_front Ghost punctuators.CloseParenthesis b.0 rest b.2 in
    let read = any_full (is_mark Ghost punctuators.CloseParenthesis) (name Ghost) flat 0 (λ ts. Unit {0}) (name_at Ghost) name_listed (λ n us vs e. (name_front n us vs e).marks_are punctuators.CloseParenthesis) xs a.0 b.0 b.1 (all_flat xs) tt (z.marks_are punctuators.Comma) (z.marks_are punctuators.CloseParenthesis) in
    rw ((mark_read Ghost _ ts a.0 a.1).1, read, (mark_read Ghost _ b.0 rest b.2).1) refl

names_front : (xs : List Name) (ts rest : List Token) → name_list xs ts ≡ Some rest → Front Ghost (a_mark punctuators.OpenParenthesis) ts
unfolding name_list
names_front xs ts rest h = let a = gone (mark Ghost punctuators.OpenParenthesis ts) h in mark_front Ghost punctuators.OpenParenthesis ts a.0 a.1

any_names_full : (x : Option (List Name)) (ts rest : List Token) → optional name_list x ts ≡ Some rest → head_has (is_mark Ghost punctuators.OpenParenthesis) rest ≡ false → any_names_at ts ≡ ok x rest
unfolding any_names_at
any_names_full None ts rest h stop =
    let same : ts ≡ rest = some_same h in
    rw (subst (λ us. head_has (is_mark Ghost punctuators.OpenParenthesis) us ≡ false) (sym same) stop) (λ i. ok None (same i))
any_names_full (Some xs) ts rest h stop =
    rw ((names_front xs ts rest h).marks_are punctuators.OpenParenthesis, names_full xs ts rest h) refl

pub case_full : (x : CasePattern) (ts rest : List Token) → case_pattern x ts ≡ Some rest → head_has (is_mark Ghost punctuators.OpenParenthesis) rest ≡ false → case_pattern_at ts ≡ ok x rest
unfolding case_pattern case_pattern_at
case_full x ts rest h stop =
    let n = gone (name Ghost x.constructor ts) h in
    rw (name_read Ghost x.constructor ts n.0 n.1, any_names_full x.names n.0 rest n.2 stop) refl
