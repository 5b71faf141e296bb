-- Ghost parameters and type parameters that are spelled are read.
use Rattle.std.proofs.Common.{◌≡◌, ℕ, ◌≤◌, Bool, true, false, ◌||◌, List, [], ◌∷◌, length, Some, refl, sym, subst, ◌∙◌, arith}
use Rattle.std.specs.Prelude.{if◌then◌else◌}
use Rattle.vf_lexer.specs.declared.punctuator.Punctuator.TheVariants as punctuators
use Rattle.vf_lexer.specs.declared.token.Token.{Token}
use Rattle.vf_syntax.specs.declared.side.Side.TheVariants.{Ghost}
use Rattle.vf_syntax.specs.declared.written.Name.{Name}
use Rattle.vf_syntax.specs.declared.item.GhostParameter.{GhostParameter}
use Rattle.vf_syntax.specs.SortTree.{SortTree}
use Rattle.vf_syntax.specs.Walks.{Walk, goes_on, ◌⨾◌, never, mark, head_has, is_mark}
use Rattle.vf_syntax.specs.Written.{name}
use Rattle.vf_syntax.specs.Lists.{behind_commas, greatest}
use Rattle.vf_syntax.specs.GhostExpressions.{sort}
use Rattle.vf_syntax.specs.Units.{ghost_parameter, more_ghost_parameters, first_ghost_parameter, ghost_parameters_inside, ghost_parameters, type_parameters, ghost_parameter_nesting}
use Rattle.vf_cursor.specs.Parsing.{ok, name_at}
use Rattle.vf_parse_expression.proofs.Collected.{Collects}
use Rattle.vf_parse_term.specs.Sorts.{sort_at}
use Rattle.vf_parse_term.specs.Laws.{sort_depth}
use Rattle.vf_parse_pattern.specs.Laws.{flat}
use Rattle.vf_parse_ghost.specs.declared.parameters.Heading.{Heading}
use Rattle.vf_parse_ghost.specs.Parameters.{parameter_at, is_separator, next_parameter_at, parameter_step, parameters_inside_at, parameters_at, type_parameters_at, head_at}
use Rattle.vf_grammar_read.proofs.expressions.Same.{some_same}
use Rattle.vf_grammar_read.proofs.expressions.Fronts.{a_mark, Front, gone, mark_front}
use Rattle.vf_grammar_read.proofs.expressions.Taken.{mark_read, name_read}
use Rattle.vf_grammar_read.proofs.expressions.TypesFull.{width_of}
use Rattle.vf_grammar_read.proofs.expressions.Eaten.{Eats, keeps, eat_then, mark_eats, name_eats}
use Rattle.vf_grammar_read.proofs.expressions.Items.{Item, items_full}
use Rattle.vf_grammar_read.proofs.terms.Eaten.{sort_eats}
use Rattle.vf_grammar_read.proofs.terms.Lists.{some_full, two_ways}
use Rattle.vf_grammar_read.proofs.terms.SortsFull as sorts_full
use Rattle.vf_grammar_read.proofs.patterns.SharesFull.{name_front}
use Rattle.vf_grammar_read.proofs.patterns.PatternsFull.{name_listed, all_flat}

-- a sort in front of a name is read
pub sort_then_name : (d : ℕ) (s : SortTree) (n : Name) (ts mid rest : List Token) → sort s ts ≡ Some mid → name Ghost n mid ≡ Some rest → sort_depth s ≤ d → sort_at d ts ≡ ok s mid
sort_then_name d s n ts mid rest h k deep =
    let f = name_front n mid rest k in
    sorts_full.sort_full d s ts mid h deep (sorts_full.mark_ended _ mid f refl refl (width_of Ghost _ mid f))

parameter_full : (d : ℕ) (x : GhostParameter) (ts rest : List Token) → ghost_parameter x ts ≡ Some rest → ghost_parameter_nesting x ≤ d → parameter_at x.after_semicolon d ts ≡ ok x rest
unfolding ghost_parameter parameter_at
parameter_full d x ts rest h deep =
    let g = gone (sort x.sort ts) h in
    rw (sort_then_name d x.sort x.name ts g.0 rest g.1 g.2 deep, name_read Ghost x.name g.0 rest g.2) refl

parameter_eats : (x : GhostParameter) → Eats (ghost_parameter x)
unfolding ghost_parameter
parameter_eats x = eat_then (sort_eats x.sort) (keeps (name_eats _ x.name))

-- a parameter behind a comma or a semicolon
abbrev next_parameter : GhostParameter → Walk
next_parameter x ts = goes_on (mark Ghost (if x.after_semicolon then punctuators.Semicolon else punctuators.Comma) ts) (ghost_parameter x)

parameters_collect : Collects next_parameter ghost_parameter_nesting more_ghost_parameters (greatest ghost_parameter_nesting)
parameters_collect = record {
  nothing_walk = λ ts. refl;
  item_walk = λ x xs ts. two_ways (mark Ghost (if x.after_semicolon then punctuators.Semicolon else punctuators.Comma) ts) (ghost_parameter x) (more_ghost_parameters xs);
  nothing_deep = refl;
  item_deep = λ x xs. refl;
}

separator_is : (ts : List Token) → head_has is_separator ts ≡ (head_has (is_mark Ghost punctuators.Comma) ts || head_has (is_mark Ghost punctuators.Semicolon) ts)
unfolding is_separator
separator_is [] = refl
separator_is (t ∷ ts) = refl

separated_front : (b : Bool) (ts rest : List Token) → mark Ghost (if b then punctuators.Semicolon else punctuators.Comma) ts ≡ Some rest → head_has is_separator ts ≡ true
separated_front true ts rest h = let f = mark_front Ghost punctuators.Semicolon ts rest h in separator_is ts ∙ (λ i. f.marks_are punctuators.Comma i || f.marks_are punctuators.Semicolon i)
separated_front false ts rest h = let f = mark_front Ghost punctuators.Comma ts rest h in separator_is ts ∙ (λ i. f.marks_are punctuators.Comma i || f.marks_are punctuators.Semicolon i)

next_by : (d : ℕ) (b : Bool) (x : GhostParameter) (ts mid rest : List Token) → x.after_semicolon ≡ b → mark Ghost (if b then punctuators.Semicolon else punctuators.Comma) ts ≡ Some mid → parameter_at b d mid ≡ ok x rest → next_parameter_at d ts ≡ ok x rest
unfolding next_parameter_at
next_by d true x ts mid rest same h read = rw ((mark_front Ghost punctuators.Semicolon ts mid h).marks_are punctuators.Semicolon, (mark_read Ghost _ ts mid h).1) read
next_by d false x ts mid rest same h read = rw ((mark_front Ghost punctuators.Comma ts mid h).marks_are punctuators.Semicolon, (mark_read Ghost _ ts mid h).1) read

parameter_item : (d : ℕ) → Item next_parameter ghost_parameter_nesting d (λ ts. Unit {0}) is_separator (next_parameter_at d)
parameter_item d = record {
  full = λ x ts rest h deep u. let g = gone {g = ghost_parameter x} (mark Ghost (if x.after_semicolon then punctuators.Semicolon else punctuators.Comma) ts) h in next_by d x.after_semicolon x ts g.0 rest refl g.1 (parameter_full d x g.0 rest g.2 deep);
  heads = λ x ts rest h. let g = gone {g = ghost_parameter x} (mark Ghost (if x.after_semicolon then punctuators.Semicolon else punctuators.Comma) ts) h in separated_front x.after_semicolon ts g.0 g.1;
  fine = λ x ts rest h. tt;
  eats = λ x. eat_then (mark_eats Ghost _) (keeps (parameter_eats x));
}

first_is : (b : Bool) (w : Walk) (ts rest : List Token) → (if b then never else w) ts ≡ Some rest → (b ≡ false) × (w ts ≡ Some rest)
first_is true w ts rest h = absurd cc
first_is false w ts rest h = (refl, h)

first_full : (d : ℕ) (x : GhostParameter) (ts rest : List Token) → x.after_semicolon ≡ false → ghost_parameter x ts ≡ Some rest → ghost_parameter_nesting x ≤ d → parameter_at false d ts ≡ ok x rest
first_full d x ts rest same h deep = subst (λ b. parameter_at b d ts ≡ ok x rest) same (parameter_full d x ts rest h deep)

parameter_open : (x : GhostParameter) (ts rest : List Token) → ghost_parameter x ts ≡ Some rest → head_has (is_mark Ghost punctuators.CloseParenthesis) ts ≡ false
unfolding ghost_parameter
parameter_open x ts rest h = let g = gone (sort x.sort ts) h in sorts_full.sort_open x.sort ts g.0 g.1

inside_full : (d : ℕ) (xs : List GhostParameter) (ts rest : List Token) → ghost_parameters_inside xs ts ≡ Some rest → greatest ghost_parameter_nesting xs ≤ d → Front Ghost (a_mark punctuators.CloseParenthesis) rest → parameters_inside_at d ts ≡ ok xs rest
unfolding parameters_inside_at parameter_step
inside_full d [] ts rest h deep z =
    let same : ts ≡ rest = some_same h in
    rw (subst (λ us. head_has (is_mark Ghost punctuators.CloseParenthesis) us ≡ true) (sym same) (z.marks_are punctuators.CloseParenthesis)) (λ i. ok [] (same i))
inside_full d (x ∷ xs) ts rest h deep z =
    let g = gone {g = more_ghost_parameters xs} (first_ghost_parameter x ts) h in
    let f = first_is x.after_semicolon (ghost_parameter x) ts g.0 g.1 in
    let stop = separator_is rest ∙ (λ i. z.marks_are punctuators.Comma i || z.marks_are punctuators.Semicolon i) in
    rw (parameter_open x ts g.0 f.1, first_full d x ts g.0 f.0 f.1 (omega (arith, deep)))
    (items_full parameters_collect (parameter_item d) (length g.0) xs (x ∷ []) g.0 rest g.2 (omega (arith, deep)) tt stop (omega arith))

pub parameters_full : (d : ℕ) (xs : List GhostParameter) (ts rest : List Token) → ghost_parameters xs ts ≡ Some rest → greatest ghost_parameter_nesting xs ≤ d → parameters_at d ts ≡ ok xs rest
unfolding ghost_parameters parameters_at
parameters_full d xs ts rest h deep =
    let a = gone (mark Ghost punctuators.OpenParenthesis ts) h in
    let b = gone (ghost_parameters_inside xs a.0) a.2 in
    rw ((mark_read Ghost _ ts a.0 a.1).1, inside_full d xs a.0 b.0 b.1 deep (mark_front Ghost punctuators.CloseParenthesis b.0 rest b.2), (mark_read Ghost _ b.0 rest b.2).1) refl

pub parameters_front : (xs : List GhostParameter) (ts rest : List Token) → ghost_parameters xs ts ≡ Some rest → Front Ghost (a_mark punctuators.OpenParenthesis) ts
unfolding ghost_parameters
parameters_front xs ts rest h = let a = gone (mark Ghost punctuators.OpenParenthesis ts) h in mark_front Ghost punctuators.OpenParenthesis ts a.0 a.1

-- the parameter that stands for the index of a family
pub index_full : (d : ℕ) (x : GhostParameter) (ts rest : List Token) → first_ghost_parameter x ts ≡ Some rest → ghost_parameter_nesting x ≤ d → parameter_at false d ts ≡ ok x rest
index_full d x ts rest h deep = let f = first_is x.after_semicolon (ghost_parameter x) ts rest h in first_full d x ts rest f.0 f.1 deep

type_walk : (x : Name) (xs : List Name) (ts mid rest : List Token) → name Ghost x ts ≡ Some mid → behind_commas Ghost (name Ghost) xs mid ≡ Some rest → (name Ghost x ⨾ behind_commas Ghost (name Ghost) xs) ts ≡ Some rest
type_walk x xs ts mid rest h k = rw h k

pub types_full : (xs : List Name) (ts rest : List Token) → type_parameters xs ts ≡ Some rest → head_has (is_mark Ghost punctuators.Less) rest ≡ false → type_parameters_at ts ≡ ok xs rest
unfolding type_parameters type_parameters_at
types_full [] ts rest h stop =
    let same : ts ≡ rest = some_same h in
    rw (subst (λ us. head_has (is_mark Ghost punctuators.Less) us ≡ false) (sym same) stop) (λ i. ok [] (same i))
types_full (x ∷ xs) ts rest h stop =
    let a = gone (mark Ghost punctuators.Less ts) h in
    let b = gone (name Ghost x a.0) a.2 in
    let c = gone (behind_commas Ghost (name Ghost) xs b.0) b.2 in
    let z = mark_front Ghost punctuators.Greater c.0 rest c.2 in
    let read = some_full (name Ghost) flat 0 (λ us. Unit {0}) (name_at Ghost) name_listed x xs a.0 c.0 (type_walk x xs a.0 b.0 c.0 b.1 c.1) (all_flat (x ∷ xs)) tt (z.marks_are punctuators.Comma) in
    rw ((mark_front Ghost punctuators.Less ts a.0 a.1).marks_are punctuators.Less, (mark_read Ghost _ ts a.0 a.1).1, read, (mark_read Ghost _ c.0 rest c.2).1) refl

-- a name, type parameters and parameters
abbrev pub heading : Name → List Name → List GhostParameter → Heading
heading n ts ps = record { name = n; type_parameters = ts; parameters = ps }

pub head_full : (d : ℕ) (n : Name) (xs : List Name) (ps : List GhostParameter) (ts named typed rest : List Token) → name Ghost n ts ≡ Some named → type_parameters xs named ≡ Some typed → ghost_parameters ps typed ≡ Some rest → greatest ghost_parameter_nesting ps ≤ d → head_at d ts ≡ ok (heading n xs ps) rest
unfolding head_at
head_full d n xs ps ts named typed rest h k m deep =
    rw (name_read Ghost n ts named h, types_full xs named typed k ((parameters_front ps typed rest m).marks_are punctuators.Less), parameters_full d ps typed rest m deep) refl
