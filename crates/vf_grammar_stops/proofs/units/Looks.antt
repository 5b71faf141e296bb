-- Whether `void` or a struct comes next is told by tokens that are used up before anything can be refused.
use Rattle.std.proofs.Common.{◌≡◌, suc, ◌+◌, ◌≤◌, ◌++◌, Bool, true, not, ◌||◌, List, [], ◌∷◌, length, refl, sym, subst, ap, ◌∙◌, length-append, arith}
use Rattle.vf_lexer.specs.declared.punctuator.Punctuator.TheVariants as punctuators
use Rattle.vf_lexer.specs.declared.token.Token.{Token}
use Rattle.vf_syntax.specs.declared.keyword.Keyword.{Keyword}
use Rattle.vf_syntax.specs.declared.keyword.Keyword.TheVariants as keywords
use Rattle.vf_syntax.specs.declared.side.Side.TheVariants.{Real}
use Rattle.vf_syntax.specs.declared.written.TypeForm.TheVariants as forms
use Rattle.vf_syntax.specs.Walks.{head_has, is_mark, is_word, is_name, word}
use Rattle.vf_cursor.specs.Parsing.{ok, ◌>>=◌, mark_at, word_at, name_at}
use Rattle.vf_cursor.specs.Types.{struct_pointer_at, type_form_at, ctype_at}
use Rattle.vf_parse_expression.specs.Operands.{after}
use Rattle.vf_parse_item.specs.Parsers.{sees_struct, sees_void}
use Rattle.vf_grammar_read.proofs.expressions.Fronts.{a_word, Front, word_front}
use Rattle.vf_grammar_stops.specs.types.Stops.{first}
use Rattle.vf_grammar_stops.proofs.types.Local.{then_like, done_like, mark_like, first_front, first_has}
use Rattle.vf_grammar_stops.proofs.expressions.Beyond.{Beyond, bounded}
use Rattle.vf_grammar_stops.proofs.expressions.Casts.{front_1, front_2, and_same}
use Rattle.vf_grammar_stops.proofs.expressions.Reached.{called, name_taken, beyond_then, type_of_form}

-- a keyword in front
pub word_seen : (k : Keyword) (t : Token) (ts : List Token) → is_word Real k t ≡ true → Front Real (a_word k) (t ∷ ts)
unfolding word
word_seen k t ts h = word_front Real k (t ∷ ts) ts (rw h refl)

pub word_taken : (k : Keyword) (t : Token) (ts : List Token) → is_word Real k t ≡ true → word_at Real k (t ∷ ts) ≡ ok t.place ts
unfolding word_at
word_taken k t ts h = rw h refl

-- `void` comes next
abbrev pub voids : List Token → Bool
voids ts = head_has (is_word Real keywords.Void) ts

-- `struct` comes next
abbrev pub structs : List Token → Bool
structs ts = head_has (is_word Real keywords.Struct) ts

void_same : (used rest us : List Token) → (voids (used ++ rest) ≡ true → 1 ≤ length used) → first us ≡ first rest → sees_void (used ++ us) ≡ sees_void (used ++ rest)
unfolding sees_void
void_same used rest us e h =
    and_same _ _ _ _ (first_has (is_word Real keywords.Void) (used ++ us) (used ++ rest) (first_front used us rest h))
    (λ v. ap not (first_has (is_mark Real punctuators.Star) (after (used ++ us)) (after (used ++ rest)) (front_1 used us rest h (e v))))

-- a look for `void` goes past one token only where that is `void`
pub void_told : (ts used rest us : List Token) → ts ≡ used ++ rest → (voids ts ≡ true → length rest + 1 ≤ length ts) → first us ≡ first rest → sees_void (used ++ us) ≡ sees_void ts
void_told ts used rest us e n h =
    let size = length-append used rest in
    let enough = subst (λ vs. voids vs ≡ true → length rest + 1 ≤ length vs) e n in
    void_same used rest us (λ v. omega (arith, enough v, size)) h ∙ ap sees_void (sym e)

struct_same : (used rest us : List Token) → (structs (used ++ rest) ≡ true → 2 ≤ length used) → first us ≡ first rest → sees_struct (used ++ us) ≡ sees_struct (used ++ rest)
unfolding sees_struct
struct_same used rest us e h =
    and_same _ _ _ _ (first_has (is_word Real keywords.Struct) (used ++ us) (used ++ rest) (first_front used us rest h)) (λ v.
    let third = front_2 used us rest h (e v) in
    let semicolon = first_has (is_mark Real punctuators.Semicolon) (after (after (used ++ us))) (after (after (used ++ rest))) third in
    let brace = first_has (is_mark Real punctuators.OpenBrace) (after (after (used ++ us))) (after (after (used ++ rest))) third in
    λ i. semicolon i || brace i)

-- a look for a struct goes past one token only where that is `struct`
pub struct_told : (ts used rest us : List Token) → ts ≡ used ++ rest → (structs ts ≡ true → length rest + 2 ≤ length ts) → first us ≡ first rest → sees_struct (used ++ us) ≡ sees_struct ts
struct_told ts used rest us e n h =
    let size = length-append used rest in
    let enough = subst (λ vs. structs vs ≡ true → length rest + 2 ≤ length vs) e n in
    struct_same used rest us (λ v. omega (arith, enough v, size)) h ∙ ap sees_struct (sym e)

-- from `void` on, a type gets past it
void_form : (t : Token) (ts : List Token) → is_word Real keywords.Void t ≡ true → Beyond 1 (type_form_at Real (t ∷ ts)) (suc (length ts))
unfolding type_form_at
void_form t ts h =
    let f = word_seen keywords.Void t ts h in
    rw (f.words_are keywords.Bool, f.words_are keywords.Void)
    (beyond_then 1 (suc (length ts)) (word_at Real keywords.Void (t ∷ ts)) t.place ts (λ x us. mark_at Real punctuators.Star us >>= λ y. ok forms.VoidPointer y.1) (word_taken keywords.Void t ts h) (omega arith)
    (bounded (then_like (mark_like Real punctuators.Star) (λ y. done_like forms.VoidPointer))))

pub void_type : (ts : List Token) → voids ts ≡ true → Beyond 1 (ctype_at Real ts) (length ts)
void_type [] h = absurd cc
void_type (t ∷ ts) h = type_of_form 1 t ts (void_form t ts h)

-- from `struct` and a name on, a type gets past both
struct_form : (t s : Token) (ts : List Token) → is_word Real keywords.Struct t ≡ true → is_name Real s ≡ true → Beyond 2 (type_form_at Real (t ∷ s ∷ ts)) (suc (suc (length ts)))
unfolding type_form_at struct_pointer_at
struct_form t s ts h k =
    let f = word_seen keywords.Struct t (s ∷ ts) h in
    rw (f.words_are keywords.Bool, f.words_are keywords.Void, f.words_are keywords.Struct, word_taken keywords.Struct t (s ∷ ts) h)
    (beyond_then 2 (suc (suc (length ts))) (name_at Real (s ∷ ts)) (called s) ts (λ n us. mark_at Real punctuators.Star us >>= λ y. ok (forms.StructPointer n) y.1) (name_taken s ts k) (omega arith)
    (bounded (then_like (mark_like Real punctuators.Star) (λ y. done_like (forms.StructPointer (called s))))))

pub struct_type : (t s : Token) (ts : List Token) → is_word Real keywords.Struct t ≡ true → is_name Real s ≡ true → Beyond 2 (ctype_at Real (t ∷ s ∷ ts)) (suc (suc (length ts)))
struct_type t s ts h k = type_of_form 2 t (s ∷ ts) (struct_form t s ts h k)
