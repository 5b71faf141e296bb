-- Claims, contracts and invariants that are spelled are read.
use Rattle.std.proofs.Common.{◌≡◌, ℕ, ◌+◌, ◌≤◌, false, List, Option, Some, None, refl, sym, subst, arith}
use Rattle.vf_base.specs.declared.place.Place.{Place}
use Rattle.vf_lexer.specs.declared.punctuator.Punctuator.TheVariants as punctuators
use Rattle.vf_lexer.specs.declared.token.Token.{Token}
use Rattle.vf_syntax.specs.declared.keyword.Keyword.{Keyword}
use Rattle.vf_syntax.specs.declared.keyword.Keyword.TheVariants as keywords
use Rattle.vf_syntax.specs.declared.side.Side.TheVariants.{Ghost}
use Rattle.vf_syntax.specs.declared.contract.Claim.{Claim}
use Rattle.vf_syntax.specs.declared.contract.Contract.{Contract}
use Rattle.vf_syntax.specs.declared.contract.Invariant.{Invariant}
use Rattle.vf_syntax.specs.AssertionTree.{PartTree, part_list}
use Rattle.vf_syntax.specs.Walks.{at, mark, word, head_has, is_word}
use Rattle.vf_syntax.specs.Lists.{optional, or_none}
use Rattle.vf_syntax.specs.Assertions.{assertion, parts_nesting}
use Rattle.vf_syntax.specs.Statements.{claim, contract, invariant_walk, contract_nesting, invariant_nesting}
use Rattle.vf_cursor.specs.Parsing.{ok, word_at}
use Rattle.vf_parse_ghost.specs.Clauses.{claim_at, clause_at, contract_at, invariant_at, any_contract_at}
use Rattle.vf_grammar_read.proofs.expressions.Same.{some_same}
use Rattle.vf_grammar_read.proofs.expressions.Fronts.{a_word, Front, gone, word_front}
use Rattle.vf_grammar_read.proofs.expressions.Taken.{mark_read, mark_here, word_read, word_here, name_read}
use Rattle.vf_grammar_read.proofs.terms.Begins.{behind}
use Rattle.vf_grammar_read.proofs.assertions.Ends.{semicolon_ends}
use Rattle.vf_grammar_read.proofs.assertions.AssertionsFull.{assertion_full}

pub claim_full : (x : Claim) (ts rest : List Token) → claim x ts ≡ Some rest → claim_at ts ≡ ok x rest
unfolding claim claim_at
claim_full x ts rest h =
    let g = gone (at x.place ts) h in
    let m = gone (mark Ghost punctuators.Colon g.0) g.2 in
    rw (mark_here Ghost _ x.place ts g.0 m.0 g.1 m.1, name_read Ghost x.name m.0 rest m.2) refl

-- a word, an assertion and ";"
clause_full : (k : Keyword) (d : ℕ) (p : Place) (a : List PartTree) (ts worded behind_it rest : List Token) → word_at Ghost k ts ≡ ok p worded → assertion (part_list a) worded ≡ Some behind_it → mark Ghost punctuators.Semicolon behind_it ≡ Some rest → parts_nesting (part_list a) + 1 ≤ d → clause_at k d ts ≡ ok (p, a) rest
unfolding clause_at
clause_full k d p a ts worded behind_it rest read walk ends deep =
    rw (read, assertion_full d a worded behind_it walk deep (semicolon_ends behind_it rest ends), (mark_read Ghost _ behind_it rest ends).1) refl

pub contract_full : (d : ℕ) (x : Contract) (ts rest : List Token) → contract x ts ≡ Some rest → contract_nesting x ≤ d → contract_at d ts ≡ ok x rest
unfolding contract contract_at
contract_full d x ts rest h deep =
    let g = gone (at x.place ts) h in
    let w = gone (word Ghost keywords.Requires g.0) g.2 in
    let a = gone (assertion (part_list x.precondition) w.0) w.2 in
    let m = gone (mark Ghost punctuators.Semicolon a.0) a.2 in
    let v = gone (word Ghost keywords.Ensures m.0) m.2 in
    let b = gone (assertion (part_list x.postcondition) v.0) v.2 in
    let q = word_read Ghost keywords.Ensures m.0 v.0 v.1 in
    let one = clause_full keywords.Requires d x.place x.precondition ts w.0 a.0 m.0 (word_here Ghost _ x.place ts g.0 w.0 g.1 w.1) a.1 m.1 (omega (arith, deep)) in
    let two = clause_full keywords.Ensures d q.0 x.postcondition m.0 v.0 b.0 rest q.1 b.1 b.2 (omega (arith, deep)) in
    rw (one, two) refl

pub invariant_full : (d : ℕ) (x : Invariant) (ts rest : List Token) → invariant_walk x ts ≡ Some rest → invariant_nesting x ≤ d → invariant_at d ts ≡ ok x rest
unfolding invariant_walk invariant_at
invariant_full d x ts rest h deep =
    let g = gone (at x.place ts) h in
    let w = gone (word Ghost keywords.Invariant g.0) g.2 in
    let a = gone (assertion (part_list x.assertion) w.0) w.2 in
    let one = clause_full keywords.Invariant d x.place x.assertion ts w.0 a.0 rest (word_here Ghost _ x.place ts g.0 w.0 g.1 w.1) a.1 a.2 deep in
    rw one refl

pub contract_front : (x : Contract) (ts rest : List Token) → contract x ts ≡ Some rest → Front Ghost (a_word keywords.Requires) ts
unfolding contract
contract_front x ts rest h =
    let g = gone (at x.place ts) h in
    let w = gone (word Ghost keywords.Requires g.0) g.2 in
    behind x.place g.1 (word_front Ghost keywords.Requires g.0 w.0 w.1)

pub any_contract_full : (d : ℕ) (x : Option Contract) (ts rest : List Token) → optional contract x ts ≡ Some rest → or_none contract_nesting x ≤ d → head_has (is_word Ghost keywords.Requires) rest ≡ false → any_contract_at d ts ≡ ok x rest
unfolding any_contract_at
any_contract_full d None ts rest h deep stop =
    let same : ts ≡ rest = some_same h in
    rw (subst (λ us. head_has (is_word Ghost keywords.Requires) us ≡ false) (sym same) stop) (λ i. ok None (same i))
any_contract_full d (Some x) ts rest h deep stop =
    rw ((contract_front x ts rest h).words_are keywords.Requires, contract_full d x ts rest h deep) refl
