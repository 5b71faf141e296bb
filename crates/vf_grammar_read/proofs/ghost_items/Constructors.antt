-- Constructors of datatypes that are spelled are read.
use Rattle.std.proofs.Common.{◌≡◌, ℕ, ◌≤◌, Bool, true, false, List, [], ◌∷◌, length, Option, Some, None, refl, sym, subst, ◌∙◌, arith}
use Rattle.vf_lexer.specs.declared.punctuator.Punctuator.TheVariants as punctuators
use Rattle.vf_lexer.specs.declared.token.Token.{Token}
use Rattle.vf_syntax.specs.declared.side.Side.TheVariants.{Ghost}
use Rattle.vf_syntax.specs.declared.written.Name.{Name}
use Rattle.vf_syntax.specs.declared.item.Constructor.{Constructor}
use Rattle.vf_syntax.specs.declared.item.ConstructorArgument.{ConstructorArgument}
use Rattle.vf_syntax.specs.SortTree.{SortTree}
use Rattle.vf_syntax.specs.Walks.{mark, head_has, is_mark, is_name}
use Rattle.vf_syntax.specs.Written.{name}
use Rattle.vf_syntax.specs.Lists.{optional, each, separated, greatest, or_none}
use Rattle.vf_syntax.specs.GhostExpressions.{sort}
use Rattle.vf_syntax.specs.Units.{constructor_argument, constructor_arguments, constructor, other_constructor, constructors, leading_bar, constructor_argument_nesting, constructor_nesting}
use Rattle.vf_cursor.specs.Parsing.{ok}
use Rattle.vf_cursor.specs.Types.{is_width}
use Rattle.vf_parse_expression.proofs.Collected.{Collects}
use Rattle.vf_parse_term.specs.Sorts.{sort_at}
use Rattle.vf_parse_term.specs.Laws.{sort_depth}
use Rattle.vf_parse_ghost.specs.Constructors.{any_name_at, argument_at, arguments_at, any_arguments_at, constructor_at, other_constructor_at, constructor_step, constructors_at, bar_at}
use Rattle.vf_grammar_read.proofs.expressions.Same.{some_same}
use Rattle.vf_grammar_read.proofs.expressions.Fronts.{Class, a_mark, a_name, class_mark, class_name, Front, gone, mark_front}
use Rattle.vf_grammar_read.proofs.expressions.Taken.{mark_read, name_read}
use Rattle.vf_grammar_read.proofs.expressions.TypesFull.{width_of}
use Rattle.vf_grammar_read.proofs.expressions.Eaten.{Keeps, Eats, keeps, keep_then, eat_then, nothing_keeps, mark_eats, name_eats}
use Rattle.vf_grammar_read.proofs.expressions.Items.{Item, first_fine, items_full}
use Rattle.vf_grammar_read.proofs.terms.Eaten.{sort_eats}
use Rattle.vf_grammar_read.proofs.terms.Lists.{Listed, any_full, separated_keep}
use Rattle.vf_grammar_read.proofs.terms.SortsFull as sorts_full
use Rattle.vf_grammar_read.proofs.patterns.SharesFull.{name_front}
use Rattle.vf_grammar_read.proofs.ghost_items.Parameters.{sort_then_name}

-- what stands behind does not go on with an argument
record ArgumentEnded (ts : List Token) : Type 0 where
  sort_ended : sorts_full.Ended ts
  no_name : head_has (is_name Ghost) ts ≡ false

mark_argument : (c : Class) (ts : List Token) → Front Ghost c ts → class_mark c punctuators.Less ≡ false → class_mark c punctuators.Star ≡ false → head_has (is_width Ghost) ts ≡ false → class_name c ≡ false → ArgumentEnded ts
mark_argument c ts f a b w n = record { sort_ended = sorts_full.mark_ended c ts f a b w; no_name = f.names_are ∙ n }

named_full : (x : Option Name) (ts rest : List Token) → optional (name Ghost) x ts ≡ Some rest → head_has (is_name Ghost) rest ≡ false → any_name_at ts ≡ ok x rest
unfolding any_name_at
named_full None ts rest h stop =
    let same : ts ≡ rest = some_same h in
    rw (subst (λ us. head_has (is_name Ghost) us ≡ false) (sym same) stop) (λ i. ok None (same i))
named_full (Some n) ts rest h stop = rw ((name_front n ts rest h).names_are, name_read Ghost n ts rest h) refl

-- a sort in front of a name, or of what ends the argument
argument_sort : (d : ℕ) (s : SortTree) (x : Option Name) (ts mid rest : List Token) → sort s ts ≡ Some mid → optional (name Ghost) x mid ≡ Some rest → sort_depth s ≤ d → ArgumentEnded rest → sort_at d ts ≡ ok s mid
argument_sort d s None ts mid rest h k deep e = sorts_full.sort_full d s ts mid h deep (subst sorts_full.Ended (sym (some_same k)) e.sort_ended)
argument_sort d s (Some n) ts mid rest h k deep e = sort_then_name d s n ts mid rest h k deep

argument_full : (d : ℕ) (x : ConstructorArgument) (ts rest : List Token) → constructor_argument x ts ≡ Some rest → constructor_argument_nesting x ≤ d → ArgumentEnded rest → argument_at d ts ≡ ok x rest
unfolding constructor_argument argument_at
argument_full d x ts rest h deep e =
    let g = gone (sort x.sort ts) h in
    rw (argument_sort d x.sort x.name ts g.0 rest g.1 g.2 deep e, named_full x.name g.0 rest g.2 e.no_name) refl

any_name_keeps : (x : Option Name) → Keeps (optional (name Ghost) x)
any_name_keeps None = nothing_keeps
any_name_keeps (Some n) = keeps (name_eats Ghost n)

argument_eats : (x : ConstructorArgument) → Eats (constructor_argument x)
unfolding constructor_argument
argument_eats x = eat_then (sort_eats x.sort) (any_name_keeps x.name)

argument_open : (x : ConstructorArgument) (ts rest : List Token) → constructor_argument x ts ≡ Some rest → head_has (is_mark Ghost punctuators.CloseParenthesis) ts ≡ false
unfolding constructor_argument
argument_open x ts rest h = let g = gone (sort x.sort ts) h in sorts_full.sort_open x.sort ts g.0 g.1

argument_listed : (d : ℕ) → Listed constructor_argument constructor_argument_nesting d ArgumentEnded (argument_at d)
argument_listed d = record {
  full = argument_full d;
  commas = λ ts rest h. let f = mark_front Ghost punctuators.Comma ts rest h in mark_argument _ ts f refl refl (width_of Ghost _ ts f) refl;
  eats = argument_eats;
}

arguments_full : (d : ℕ) (xs : List ConstructorArgument) (ts rest : List Token) → constructor_arguments xs ts ≡ Some rest → greatest constructor_argument_nesting xs ≤ d → arguments_at d ts ≡ ok xs rest
unfolding constructor_arguments arguments_at
arguments_full d xs ts rest h deep =
    let a = gone (mark Ghost punctuators.OpenParenthesis ts) h in
    let b = gone (separated Ghost constructor_argument xs a.0) a.2 in
    let z = mark_front Ghost punctuators.CloseParenthesis b.0 rest b.2 in
    let ends = mark_argument _ b.0 z refl refl (width_of Ghost _ b.0 z) refl in
    let read = any_full (is_mark Ghost punctuators.CloseParenthesis) constructor_argument constructor_argument_nesting d ArgumentEnded (argument_at d) (argument_listed d) argument_open xs a.0 b.0 b.1 deep ends (z.marks_are punctuators.Comma) (z.marks_are punctuators.CloseParenthesis) in
    rw ((mark_read Ghost _ ts a.0 a.1).1, read, (mark_read Ghost _ b.0 rest b.2).1) refl

arguments_front : (xs : List ConstructorArgument) (ts rest : List Token) → constructor_arguments xs ts ≡ Some rest → Front Ghost (a_mark punctuators.OpenParenthesis) ts
unfolding constructor_arguments
arguments_front xs ts rest h = let a = gone (mark Ghost punctuators.OpenParenthesis ts) h in mark_front Ghost punctuators.OpenParenthesis ts a.0 a.1

any_arguments_full : (d : ℕ) (x : Option (List ConstructorArgument)) (ts rest : List Token) → optional constructor_arguments x ts ≡ Some rest → or_none (greatest constructor_argument_nesting) x ≤ d → head_has (is_mark Ghost punctuators.OpenParenthesis) rest ≡ false → any_arguments_at d ts ≡ ok x rest
unfolding any_arguments_at
any_arguments_full d None ts rest h deep stop =
    let same : ts ≡ rest = some_same h in
    rw (subst (λ us. head_has (is_mark Ghost punctuators.OpenParenthesis) us ≡ false) (sym same) stop) (λ i. ok None (same i))
any_arguments_full d (Some xs) ts rest h deep stop = rw ((arguments_front xs ts rest h).marks_are punctuators.OpenParenthesis, arguments_full d xs ts rest h deep) refl

-- no list of arguments stands behind
abbrev Unopened : List Token → Type 0
Unopened ts = head_has (is_mark Ghost punctuators.OpenParenthesis) ts ≡ false

constructor_full : (d : ℕ) (x : Constructor) (ts rest : List Token) → constructor x ts ≡ Some rest → constructor_nesting x ≤ d → Unopened rest → constructor_at d ts ≡ ok x rest
unfolding constructor constructor_at
constructor_full d x ts rest h deep stop =
    let n = gone (name Ghost x.name ts) h in
    rw (name_read Ghost x.name ts n.0 n.1, any_arguments_full d x.arguments n.0 rest n.2 deep stop) refl

arguments_eat : (xs : List ConstructorArgument) → Eats (constructor_arguments xs)
unfolding constructor_arguments
arguments_eat xs = eat_then (mark_eats _ _) (keep_then (separated_keep constructor_argument argument_eats xs) (keeps (mark_eats _ _)))

any_arguments_keep : (x : Option (List ConstructorArgument)) → Keeps (optional constructor_arguments x)
any_arguments_keep None = nothing_keeps
any_arguments_keep (Some xs) = keeps (arguments_eat xs)

constructor_eats : (x : Constructor) → Eats (constructor x)
unfolding constructor
constructor_eats x = eat_then (name_eats _ x.name) (any_arguments_keep x.arguments)

constructor_front : (x : Constructor) (ts rest : List Token) → constructor x ts ≡ Some rest → Front Ghost a_name ts
unfolding constructor
constructor_front x ts rest h = let n = gone (name Ghost x.name ts) h in name_front x.name ts n.0 n.1

others_collect : Collects other_constructor constructor_nesting (each other_constructor) (greatest constructor_nesting)
others_collect = record { nothing_walk = λ ts. refl; item_walk = λ x xs ts. refl; nothing_deep = refl; item_deep = λ x xs. refl }

other_front : (x : Constructor) (ts rest : List Token) → other_constructor x ts ≡ Some rest → Front Ghost (a_mark punctuators.Bar) ts
unfolding other_constructor
other_front x ts rest h = let m = gone (mark Ghost punctuators.Bar ts) h in mark_front Ghost punctuators.Bar ts m.0 m.1

other_full : (d : ℕ) (x : Constructor) (ts rest : List Token) → other_constructor x ts ≡ Some rest → constructor_nesting x ≤ d → Unopened rest → other_constructor_at d ts ≡ ok x rest
unfolding other_constructor other_constructor_at
other_full d x ts rest h deep stop =
    let m = gone (mark Ghost punctuators.Bar ts) h in
    rw ((mark_read Ghost _ ts m.0 m.1).1) (constructor_full d x m.0 rest m.2 deep stop)

other_eats : (x : Constructor) → Eats (other_constructor x)
unfolding other_constructor
other_eats x = eat_then (mark_eats _ _) (keeps (constructor_eats x))

other_item : (d : ℕ) → Item other_constructor constructor_nesting d Unopened (is_mark Ghost punctuators.Bar) (other_constructor_at d)
other_item d = record {
  full = other_full d;
  heads = λ x ts rest h. (other_front x ts rest h).marks_are punctuators.Bar;
  fine = λ x ts rest h. (other_front x ts rest h).marks_are punctuators.OpenParenthesis;
  eats = other_eats;
}

pub constructors_full : (d : ℕ) (xs : List Constructor) (ts rest : List Token) → constructors xs ts ≡ Some rest → greatest constructor_nesting xs ≤ d → Front Ghost (a_mark punctuators.Semicolon) rest → constructors_at d ts ≡ ok xs rest
unfolding constructors constructors_at constructor_step
constructors_full d [] ts rest h deep z = absurd cc
constructors_full d (x ∷ xs) ts rest h deep z =
    let g = gone {g = each other_constructor xs} (constructor x ts) h in
    let stop : Unopened rest = z.marks_are punctuators.OpenParenthesis in
    let one = constructor_full d x ts g.0 g.1 (omega (arith, deep)) (first_fine others_collect (other_item d) xs g.0 rest g.2 stop) in
    rw one (items_full others_collect (other_item d) (length g.0) xs (x ∷ []) g.0 rest g.2 (omega (arith, deep)) stop (z.marks_are punctuators.Bar) (omega arith))

constructors_front : (xs : List Constructor) (ts rest : List Token) → constructors xs ts ≡ Some rest → Front Ghost a_name ts
unfolding constructors
constructors_front [] ts rest h = absurd cc
constructors_front (x ∷ xs) ts rest h = let g = gone {g = each other_constructor xs} (constructor x ts) h in constructor_front x ts g.0 g.1

pub bar_full : (b : Bool) (xs : List Constructor) (ts mid rest : List Token) → leading_bar b ts ≡ Some mid → constructors xs mid ≡ Some rest → bar_at ts ≡ ok b mid
unfolding bar_at
bar_full true xs ts mid rest h k = rw ((mark_front Ghost punctuators.Bar ts mid h).marks_are punctuators.Bar, (mark_read Ghost _ ts mid h).1) refl
bar_full false xs ts mid rest h k =
    let same : ts ≡ mid = some_same h in
    let f = constructors_front xs mid rest k in
    rw (subst (λ us. head_has (is_mark Ghost punctuators.Bar) us ≡ false) (sym same) (f.marks_are punctuators.Bar)) (λ i. ok false (same i))
