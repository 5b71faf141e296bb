-- The claims, contracts and invariants that are read are spelled, and nest no deeper than is allowed.
use Rattle.std.proofs.Common.{◌≡◌, ℕ, ◌≤◌, List, Option, Some, None, refl, arith, inl, inr}
use Rattle.vf_base.specs.declared.place.Place.{Place}
use Rattle.vf_lexer.specs.declared.punctuator.Punctuator.TheVariants as punctuators
use Rattle.vf_lexer.specs.declared.token.Token.{Token}
use Rattle.vf_syntax.specs.declared.keyword.Keyword.{Keyword}
use Rattle.vf_syntax.specs.declared.keyword.Keyword.TheVariants as keywords
use Rattle.vf_syntax.specs.declared.side.Side.TheVariants.{Ghost}
use Rattle.vf_syntax.specs.declared.contract.Contract.{Contract}
use Rattle.vf_syntax.specs.declared.contract.Claim.{Claim}
use Rattle.vf_syntax.specs.declared.contract.Invariant.{Invariant}
use Rattle.vf_syntax.specs.AssertionTree.{PartTree, part_list}
use Rattle.vf_syntax.specs.Walks.{Walk, at, mark, word, head_has, is_word}
use Rattle.vf_syntax.specs.Lists.{optional, or_none}
use Rattle.vf_syntax.specs.Statements.{claim, contract, contract_nesting, invariant_walk, invariant_nesting}
use Rattle.vf_cursor.specs.Parsing.{ok, mark_at, word_at, name_at}
use Rattle.vf_cursor.proofs.Facts.{bind_ok, moved, chose}
use Rattle.vf_parse_term.specs.Laws.{IsSpelled}
use Rattle.vf_parse_term.proofs.Taken.{mark_sound, word_sound, name_sound}
use Rattle.vf_parse_assertion.specs.Parsers.{assertion_at}
use Rattle.vf_parse_assertion.specs.Laws.{assertion_walk, assertion_depth}
use Rattle.vf_parse_assertion.proofs.PartsRead.{assertion_sound}
use Rattle.vf_parse_ghost.specs.Clauses.{claim_at, clause_at, contract_at, invariant_at, any_contract_at}
use Rattle.vf_parse_ghost.specs.Laws.{ClaimsAreSpelled, ContractsAreSpelled, InvariantsAreSpelled}

pub claim_sound : ClaimsAreSpelled
unfolding claim_at claim
claim_sound ts x rest eq =
    let p = bind_ok {r = mark_at Ghost punctuators.Colon ts} eq in
    let n = bind_ok {r = name_at Ghost p.0.1} p.2 in
    let colon = mark_sound Ghost punctuators.Colon ts p.0.0 p.0.1 p.1 in
    moved (λ (y : Claim) r. claim y ts ≡ Some r) n.2 (rw (colon.1, colon.0) (name_sound Ghost p.0.1 n.0.0 n.0.1 n.1).0)

-- a word at a place, an assertion behind it and ";"
pub record Clause (k : Keyword) (d : ℕ) (ts : List Token) (p : Place) (a : List PartTree) (rest : List Token) : Type 0 where
  pub worded : List Token
  pub behind : List Token
  pub here : at p ts ≡ Some ts
  pub first : word Ghost k ts ≡ Some worded
  pub walk : assertion_walk a worded ≡ Some behind
  pub semicolon : mark Ghost punctuators.Semicolon behind ≡ Some rest
  pub deep : assertion_depth a ≤ d

clause_sound : (k : Keyword) (d : ℕ) (ts : List Token) (x : Place × List PartTree) (rest : List Token) → clause_at k d ts ≡ ok x rest → Clause k d ts x.0 x.1 rest
unfolding clause_at
clause_sound k d ts x rest eq =
    let w = bind_ok {r = word_at Ghost k ts} eq in
    let a = bind_ok {r = assertion_at d w.0.1} w.2 in
    let z = bind_ok {r = mark_at Ghost punctuators.Semicolon a.0.1} a.2 in
    let first = word_sound Ghost k ts w.0.0 w.0.1 w.1 in
    let h = assertion_sound d w.0.1 a.0.0 a.0.1 a.1 in
    moved (λ (y : Place × List PartTree) r. Clause k d ts y.0 y.1 r) z.2 (record {
      worded = w.0.1;
      behind = a.0.1;
      here = first.1;
      first = first.0;
      walk = h.0;
      semicolon = (mark_sound Ghost punctuators.Semicolon a.0.1 z.0.0 z.0.1 z.1).0;
      deep = h.1;
    })

-- a contract is spelled, and nests at most so deep
abbrev IsContract : ℕ → List Token → Contract → List Token → Type 0
IsContract d ts c rest = (contract c ts ≡ Some rest) × (contract_nesting c ≤ d)

contract_of : (d : ℕ) (p q : Place) (a b : List PartTree) (ts mid rest : List Token) → Clause keywords.Requires d ts p a mid → Clause keywords.Ensures d mid q b rest → IsContract d ts (record { place = p; precondition = a; postcondition = b }) rest
unfolding contract
contract_of d p q a b ts mid rest one two =
    let low_one = one.deep in
    let low_two = two.deep in
    (rw (one.here, one.first, one.walk, one.semicolon, two.first, two.walk) (two.semicolon), omega (arith, low_one, low_two))

pub contract_sound : ContractsAreSpelled
unfolding contract_at
contract_sound d ts c rest eq =
    let a = bind_ok {r = clause_at keywords.Requires d ts} eq in
    let b = bind_ok {r = clause_at keywords.Ensures d a.0.1} a.2 in
    moved (λ (y : Contract) r. IsContract d ts y r) b.2 (contract_of d a.0.0.0 b.0.0.0 a.0.0.1 b.0.0.1 ts a.0.1 b.0.1 (clause_sound keywords.Requires d ts a.0.0 a.0.1 a.1) (clause_sound keywords.Ensures d a.0.1 b.0.0 b.0.1 b.1))

-- an invariant is spelled, and nests at most so deep
abbrev IsInvariant : ℕ → List Token → Invariant → List Token → Type 0
IsInvariant d ts i rest = (invariant_walk i ts ≡ Some rest) × (invariant_nesting i ≤ d)

invariant_of : (d : ℕ) (p : Place) (a : List PartTree) (ts rest : List Token) → Clause keywords.Invariant d ts p a rest → IsInvariant d ts (record { place = p; assertion = a }) rest
unfolding invariant_walk
invariant_of d p a ts rest one = (rw (one.here, one.first, one.walk) (one.semicolon), one.deep)

pub invariant_sound : InvariantsAreSpelled
unfolding invariant_at
invariant_sound d ts i rest eq =
    let a = bind_ok {r = clause_at keywords.Invariant d ts} eq in
    moved (λ (y : Invariant) r. IsInvariant d ts y r) a.2 (invariant_of d a.0.0.0 a.0.0.1 ts a.0.1 (clause_sound keywords.Invariant d ts a.0.0 a.0.1 a.1))

-- a contract is spelled where there is one, and nests at most so deep
abbrev IsAnyContract : ℕ → List Token → Option Contract → List Token → Type 0
IsAnyContract d ts c rest = (optional contract c ts ≡ Some rest) × (or_none contract_nesting c ≤ d)

pub any_contract_sound : (d : ℕ) (ts : List Token) (c : Option Contract) (rest : List Token) → any_contract_at d ts ≡ ok c rest → IsAnyContract d ts c rest
unfolding any_contract_at
any_contract_sound d ts c rest eq =
    elim (chose (head_has (is_word Ghost keywords.Requires) ts) _ _ _ eq) [
      | inl h ↦ let a = bind_ok {r = contract_at d ts} h.1 in moved (λ (y : Option Contract) r. IsAnyContract d ts y r) a.2 (contract_sound d ts a.0.0 a.0.1 a.1)
      | inr h ↦ moved (λ (y : Option Contract) r. IsAnyContract d ts y r) h.1 (refl, omega arith)
    ]
