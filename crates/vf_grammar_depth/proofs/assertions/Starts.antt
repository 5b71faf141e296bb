-- What begins an assertion is taken, and what does not is refused at once.
use Rattle.std.proofs.Common.{◌≡◌, ℕ, Bool, false, ◌||◌, List, [], ◌∷◌, refl}
use Rattle.std.proofs.lemmas.Bool.{or_parts}
use Rattle.vf_base.specs.declared.place.Place.{Place}
use Rattle.vf_lexer.specs.declared.punctuator.Punctuator.TheVariants as punctuators
use Rattle.vf_lexer.specs.declared.token.Token.{Token}
use Rattle.vf_syntax.specs.declared.keyword.Keyword.TheVariants as keywords
use Rattle.vf_syntax.specs.declared.side.Side.TheVariants.{Ghost}
use Rattle.vf_syntax.specs.Walks.{head_has, is_mark, is_word, is_name}
use Rattle.vf_cursor.specs.Parsing.{Parser, ◌>>=◌, number_of, told_by, is_there}
use Rattle.vf_cursor.specs.Types.{next_unary}
use Rattle.vf_parse_term.specs.Terms.{is_constant_word, begins_term}
use Rattle.vf_parse_assertion.specs.declared.contents.Content.{Content}
use Rattle.vf_parse_assertion.specs.Parsers.{begins_part, switch_at, enclosed_at, opening_at, piece_by, piece_at, joined_at}
use Rattle.vf_grammar_depth.proofs.expressions.Deeper.{Deeper, keeps}
use Rattle.vf_grammar_depth.proofs.expressions.Begun.{Begun, then_begun, mark_begun, choice_begun, at_here_begun}
use Rattle.vf_grammar_depth.proofs.expressions.TypeStarts.{begun_by, same_truth}
use Rattle.vf_grammar_depth.proofs.chunks.Chunks.{TermsDeeper}
use Rattle.vf_grammar_depth.proofs.chunks.Starts.{begun_seen, begun_starts}
use Rattle.vf_grammar_depth.proofs.assertions.Heads.{switch_head_starts}
use Rattle.vf_grammar_depth.proofs.assertions.Parts.{cased_deep, closed_deep, piece_by_deep, behind_deep}

-- what begins a part, in the order in which it is looked for
abbrev parts_seen : List Token → Bool
parts_seen ts = head_has (is_mark Ghost punctuators.OpenParenthesis) ts || (head_has (is_word Ghost keywords.Switch) ts || begun_seen ts)

no_term : (t : Token) → begins_term t ≡ false → (is_mark Ghost punctuators.OpenParenthesis t ≡ false) × (is_name Ghost t ≡ false)
unfolding begins_term
no_term t h =
    let a = or_parts _ (is_there (next_unary Ghost (t ∷ []))) h in
    let b = or_parts _ (is_there (told_by Ghost number_of t)) a.0 in
    let c = or_parts _ (is_constant_word t) b.0 in
    or_parts (is_mark Ghost punctuators.OpenParenthesis t) (is_name Ghost t) c.0

parts_none : (t : Token) (ts : List Token) → parts_seen (t ∷ ts) ≡ false → begins_part t ≡ false
unfolding begins_part
parts_none t ts h =
    let a = or_parts (is_mark Ghost punctuators.OpenParenthesis t) _ h in
    let b = or_parts (is_word Ghost keywords.Switch t) _ a.1 in
    let c = or_parts (is_mark Ghost punctuators.OpenBracket t) _ b.1 in
    let d = or_parts (is_word Ghost keywords.Emp t) _ c.1 in
    let e = or_parts (is_name Ghost t) _ d.1 in
    rw (e.1, c.0, d.0, b.0) refl

none_parts : (t : Token) (ts : List Token) → begins_part t ≡ false → parts_seen (t ∷ ts) ≡ false
unfolding begins_part
none_parts t ts h =
    let a = or_parts _ (is_word Ghost keywords.Switch t) h in
    let b = or_parts _ (is_word Ghost keywords.Emp t) a.0 in
    let c = or_parts (begins_term t) (is_mark Ghost punctuators.OpenBracket t) b.0 in
    let d = no_term t c.0 in
    rw (d.0, a.1, c.1, b.1, d.1, c.0) refl

parts_told : (ts : List Token) → parts_seen ts ≡ head_has begins_part ts
parts_told [] = refl
parts_told (t ∷ ts) = same_truth (parts_seen (t ∷ ts)) (begins_part t) (parts_none t ts) (none_parts t ts)

enclosed_starts : {a : Parser Content} → Deeper 0 a a → (p : Place) → Begun (head_has (is_mark Ghost punctuators.OpenParenthesis)) (enclosed_at a p)
unfolding enclosed_at
enclosed_starts ha p = then_begun (mark_begun Ghost punctuators.OpenParenthesis) (λ o. keeps (closed_deep ha p))

switch_starts : {a : Parser Content} (d : ℕ) → Deeper 0 a a → (p : Place) → Begun (head_has (is_word Ghost keywords.Switch)) (switch_at d a p)
unfolding switch_at
switch_starts d ha p = then_begun (switch_head_starts d) (λ e. keeps (cased_deep ha p e))

opening_starts : {d : ℕ} {a : Parser Content} → TermsDeeper 0 d d → Deeper 0 a a → (p : Place) → Begun (head_has begins_part) (opening_at d a p)
unfolding opening_at
opening_starts {d = d} h ha p = begun_by parts_told (choice_begun (enclosed_starts ha p) (choice_begun (switch_starts d ha p) (begun_starts h p)))

piece_starts : {d : ℕ} {a : Parser Content} → TermsDeeper 0 d d → Deeper 0 a a → Begun (head_has begins_part) (piece_at d a)
unfolding piece_at
piece_starts {d = d} {a = a} h ha = at_here_begun (λ p ts. opening_at d a p ts >>= λ b. piece_by d a p b.0 b.1) refl (λ p. then_begun (opening_starts h ha p) (λ b. keeps (piece_by_deep h ha p b)))

pub joined_starts : {d : ℕ} {a : Parser Content} → TermsDeeper 0 d d → Deeper 0 a a → Begun (head_has begins_part) (joined_at d a)
unfolding joined_at
joined_starts h ha = then_begun (piece_starts h ha) (λ x. keeps (behind_deep h ha x))
