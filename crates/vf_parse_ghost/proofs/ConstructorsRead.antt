-- The constructors that are read are spelled, and nest no deeper than is allowed.
use Rattle.std.proofs.Common.{◌≡◌, ℕ, ◌≤◌, Bool, true, false, List, [], ◌∷◌, ◌++◌, length, Option, Some, None, refl, sym, subst, arith, inl, inr}
use Rattle.vf_lexer.specs.declared.punctuator.Punctuator.TheVariants as punctuators
use Rattle.vf_lexer.specs.declared.token.Token.{Token}
use Rattle.vf_syntax.specs.declared.side.Side.TheVariants.{Ghost}
use Rattle.vf_syntax.specs.declared.written.Name.{Name}
use Rattle.vf_syntax.specs.declared.item.Constructor.{Constructor}
use Rattle.vf_syntax.specs.declared.item.ConstructorArgument.{ConstructorArgument}
use Rattle.vf_syntax.specs.Walks.{Walk, head_has, is_mark, is_name, mark}
use Rattle.vf_syntax.specs.Written.{name}
use Rattle.vf_syntax.specs.Lists.{optional, each, separated, greatest, or_none}
use Rattle.vf_syntax.specs.Units.{constructor_argument, constructor_arguments, constructor, other_constructor, constructors, leading_bar, constructor_argument_nesting, constructor_nesting}
use Rattle.vf_cursor.specs.Parsing.{ok, mark_at, name_at}
use Rattle.vf_cursor.proofs.Facts.{bind_ok, moved, chose}
use Rattle.vf_parse_term.specs.Pieces.{any_at}
use Rattle.vf_parse_term.specs.Sorts.{sort_at}
use Rattle.vf_parse_term.specs.Laws.{IsSpelled}
use Rattle.vf_parse_term.proofs.Taken.{mark_sound, name_sound}
use Rattle.vf_parse_term.proofs.Lists.{items_sound, any_sound}
use Rattle.vf_parse_term.proofs.SortsRead.{sort_sound}
use Rattle.vf_parse_ghost.specs.Constructors.{any_name_at, argument_at, arguments_at, any_arguments_at, constructor_at, other_constructor_at, constructor_step, more_constructors_at, constructors_at, bar_at}

any_name_sound : (ts : List Token) (x : Option Name) (rest : List Token) → any_name_at ts ≡ ok x rest → optional (name Ghost) x ts ≡ Some rest
unfolding any_name_at
any_name_sound ts x rest eq =
    elim (chose (head_has (is_name Ghost) ts) _ _ _ eq) [
      | inl h ↦ let n = bind_ok {r = name_at Ghost ts} h.1 in moved (λ (y : Option Name) r. optional (name Ghost) y ts ≡ Some r) n.2 (name_sound Ghost ts n.0.0 n.0.1 n.1).0
      | inr h ↦ moved (λ (y : Option Name) r. optional (name Ghost) y ts ≡ Some r) h.1 refl
    ]

-- an argument is spelled, and nests at most so deep
abbrev IsArgument : ℕ → List Token → ConstructorArgument → List Token → Type 0
IsArgument d ts x rest = (constructor_argument x ts ≡ Some rest) × (constructor_argument_nesting x ≤ d)

argument_sound : (d : ℕ) → IsSpelled (argument_at d) constructor_argument constructor_argument_nesting d
unfolding argument_at constructor_argument
argument_sound d ts x rest eq =
    let s = bind_ok {r = sort_at d ts} eq in
    let n = bind_ok {r = any_name_at s.0.1} s.2 in
    let k = sort_sound d ts s.0.0 s.0.1 s.1 in
    moved (λ (y : ConstructorArgument) r. IsArgument d ts y r) n.2 (rw (k.0) (any_name_sound s.0.1 n.0.0 n.0.1 n.1), k.1)

-- arguments between parentheses are spelled, and nest at most so deep
abbrev AreArguments : ℕ → List Token → List ConstructorArgument → List Token → Type 0
AreArguments d ts xs rest = (constructor_arguments xs ts ≡ Some rest) × (greatest constructor_argument_nesting xs ≤ d)

arguments_walk : (xs : List ConstructorArgument) (ts inside behind rest : List Token) → mark Ghost punctuators.OpenParenthesis ts ≡ Some inside → separated Ghost constructor_argument xs inside ≡ Some behind → mark Ghost punctuators.CloseParenthesis behind ≡ Some rest → constructor_arguments xs ts ≡ Some rest
unfolding constructor_arguments
arguments_walk xs ts inside behind rest opens walk closes = rw (opens, walk) closes

arguments_sound : (d : ℕ) (ts : List Token) (xs : List ConstructorArgument) (rest : List Token) → arguments_at d ts ≡ ok xs rest → AreArguments d ts xs rest
unfolding arguments_at
arguments_sound d ts xs rest eq =
    let o = bind_ok {r = mark_at Ghost punctuators.OpenParenthesis ts} eq in
    let ys = bind_ok {r = any_at (is_mark Ghost punctuators.CloseParenthesis) (argument_at d) o.0.1} o.2 in
    let z = bind_ok {r = mark_at Ghost punctuators.CloseParenthesis ys.0.1} ys.2 in
    let k = any_sound (is_mark Ghost punctuators.CloseParenthesis) (argument_at d) constructor_argument constructor_argument_nesting d (argument_sound d) o.0.1 ys.0.0 ys.0.1 ys.1 in
    let opens = (mark_sound Ghost punctuators.OpenParenthesis ts o.0.0 o.0.1 o.1).0 in
    let closes = (mark_sound Ghost punctuators.CloseParenthesis ys.0.1 z.0.0 z.0.1 z.1).0 in
    moved (λ (y : List ConstructorArgument) r. AreArguments d ts y r) z.2 (arguments_walk ys.0.0 ts o.0.1 ys.0.1 z.0.1 opens k.0 closes, k.1)

-- the same where they may be absent
abbrev AreAnyArguments : ℕ → List Token → Option (List ConstructorArgument) → List Token → Type 0
AreAnyArguments d ts xs rest = (optional constructor_arguments xs ts ≡ Some rest) × (or_none (greatest constructor_argument_nesting) xs ≤ d)

any_arguments_sound : (d : ℕ) (ts : List Token) (xs : Option (List ConstructorArgument)) (rest : List Token) → any_arguments_at d ts ≡ ok xs rest → AreAnyArguments d ts xs rest
unfolding any_arguments_at
any_arguments_sound d ts xs rest eq =
    elim (chose (head_has (is_mark Ghost punctuators.OpenParenthesis) ts) _ _ _ eq) [
      | inl h ↦ let ys = bind_ok {r = arguments_at d ts} h.1 in moved (λ (y : Option (List ConstructorArgument)) r. AreAnyArguments d ts y r) ys.2 (arguments_sound d ts ys.0.0 ys.0.1 ys.1)
      | inr h ↦ moved (λ (y : Option (List ConstructorArgument)) r. AreAnyArguments d ts y r) h.1 (refl, omega arith)
    ]

-- a constructor is spelled, and nests at most so deep
abbrev IsConstructor : ℕ → List Token → Constructor → List Token → Type 0
IsConstructor d ts x rest = (constructor x ts ≡ Some rest) × (constructor_nesting x ≤ d)

constructor_sound : (d : ℕ) → IsSpelled (constructor_at d) constructor constructor_nesting d
unfolding constructor_at constructor
constructor_sound d ts x rest eq =
    let n = bind_ok {r = name_at Ghost ts} eq in
    let xs = bind_ok {r = any_arguments_at d n.0.1} n.2 in
    let k = any_arguments_sound d n.0.1 xs.0.0 xs.0.1 xs.1 in
    moved (λ (y : Constructor) r. IsConstructor d ts y r) xs.2 (rw ((name_sound Ghost ts n.0.0 n.0.1 n.1).0) (k.0), k.1)

other_constructor_sound : (d : ℕ) → IsSpelled (other_constructor_at d) other_constructor constructor_nesting d
unfolding other_constructor_at other_constructor
other_constructor_sound d ts x rest eq =
    let m = bind_ok {r = mark_at Ghost punctuators.Bar ts} eq in
    let k = constructor_sound d m.0.1 x rest m.2 in
    (rw ((mark_sound Ghost punctuators.Bar ts m.0.0 m.0.1 m.1).0) (k.0), k.1)

-- constructors are spelled, and nest at most so deep
abbrev AreConstructors : ℕ → List Token → List Constructor → List Token → Type 0
AreConstructors d ts xs rest = (constructors xs ts ≡ Some rest) × (greatest constructor_nesting xs ≤ d)

constructors_of : (d : ℕ) (x : Constructor) (xs : List Constructor) (ts mid rest : List Token) → IsConstructor d ts x mid → each other_constructor xs mid ≡ Some rest → greatest constructor_nesting xs ≤ d → AreConstructors d ts (x ∷ xs) rest
unfolding constructors
constructors_of d x xs ts mid rest one others low = let deep = one.1 in (rw (one.0) others, omega (arith, deep, low))

pub constructors_sound : (d : ℕ) → IsSpelled (constructors_at d) constructors (greatest constructor_nesting) d
unfolding constructors_at constructor_step
constructors_sound d ts xs rest eq =
    let x = bind_ok {r = constructor_at d ts} eq in
    let k = items_sound (other_constructor_at d) other_constructor constructor_nesting d (other_constructor_sound d) (is_mark Ghost punctuators.Bar) (length x.0.1) (x.0.0 ∷ []) x.0.1 xs rest x.2 in
    let whole : AreConstructors d ts (x.0.0 ∷ k.0) rest = constructors_of d x.0.0 k.0 ts x.0.1 rest (constructor_sound d ts x.0.0 x.0.1 x.1) k.2 k.3 in
    subst (λ (y : List Constructor). AreConstructors d ts y rest) (sym k.1) whole

pub bar_sound : (ts : List Token) (b : Bool) (rest : List Token) → bar_at ts ≡ ok b rest → leading_bar b ts ≡ Some rest
unfolding bar_at
bar_sound ts b rest eq =
    elim (chose (head_has (is_mark Ghost punctuators.Bar) ts) _ _ _ eq) [
      | inl h ↦ let m = bind_ok {r = mark_at Ghost punctuators.Bar ts} h.1 in moved (λ (y : Bool) r. leading_bar y ts ≡ Some r) m.2 (mark_sound Ghost punctuators.Bar ts m.0.0 m.0.1 m.1).0
      | inr h ↦ moved (λ (y : Bool) r. leading_bar y ts ≡ Some r) h.1 refl
    ]
