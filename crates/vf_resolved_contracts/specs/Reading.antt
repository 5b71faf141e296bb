-- Contracts, invariants and bodies of predicates as resolved trees, where what is known of unknown sorts in the end is given.
use Rattle.std.specs.Prelude.{ℕ, List, [], map}
use Rattle.vf_base.specs.declared.place.Place.{Place}
use Rattle.vf_meaning.specs.Ghost.{Result, This, CurrentThread}
use Rattle.vf_closure.specs.Terms.{Integer, Other, Symbol, Term, term, no_terms}
use Rattle.vf_sorts.specs.Unknowns.{Known}
use Rattle.vf_declared.specs.declared.scope.Scope.{Scope}
use Rattle.vf_syntax.specs.declared.contract.Contract as written
use Rattle.vf_syntax.specs.AssertionTree.{PartTree, part_list}
use Rattle.vf_sorting.specs.declared.context.Context.{Context}
use Rattle.vf_sorting.specs.Schemes.{sort_of_local}
use Rattle.vf_asserting.specs.Leaving.{count}
use Rattle.vf_terms.specs.Settings.{kind_of_sort}
use Rattle.vf_terms.specs.Readings.{sort_or_int}
use Rattle.vf_resolved.specs.declared.contract.Body.{Body}
use Rattle.vf_resolved.specs.declared.contract.Contract.{Contract}
use Rattle.vf_resolved.specs.declared.contract.Names.{Names}
use Rattle.vf_resolving.specs.Standings.{Around, Standing, leaving, standing_of, with_sorts}
use Rattle.vf_resolving.specs.Assertions.{PartsResolved, parts_resolved}
use Rattle.vf_resolved_contracts.specs.declared.contracts.ContractRead as code
use Rattle.vf_resolved_contracts.specs.declared.bodies.BodyRead as code_bodies

-- the symbol of `result`, of the kind of its sort
abbrev pub result_symbol : Context → Term
result_symbol c = term (Symbol (kind_of_sort (sort_or_int c.result)) Result) no_terms

-- the symbols of `this` and `currentThread`
abbrev pub this_symbol : Term
this_symbol = term (Symbol Other This) no_terms

abbrev pub thread_symbol : Term
thread_symbol = term (Symbol Integer CurrentThread) no_terms

-- what stands around a text in which these words are symbols
abbrev pub around_with : Context → Known → List (List ℕ) → Around
around_with c k paths = record {
  context = c;
  known = k;
  paths = paths;
  «result» = result_symbol c;
  this_value = this_symbol;
  thread = thread_symbol;
}

-- the same around another text, in which the words that may stand there and the result are others
abbrev pub around_after : Around → Context → Around
around_after a c = record {
  context = c;
  known = a.known;
  paths = a.paths;
  «result» = result_symbol c;
  this_value = a.this_value;
  thread = a.thread;
}

-- what is declared, where no name has a number yet
abbrev pub unnumbered : Scope → Standing
unnumbered s = record { scope = s; terms = []; sorts = []; next = 0 }

-- what is declared and numbered where a text begins: the locals are its parameters
abbrev pub starting : Around → Scope → Standing
starting a s = with_sorts a (map sort_of_local s.locals.meanings) (unnumbered s)

-- the names of a text with so many parameters
abbrev pub names_of : ℕ → Standing → Names
names_of n s = record { sorts = s.sorts; parameters = n }

-- a contract behind its parameters, and what is declared and numbered behind it: the names of its postcondition are gone, and keep their numbers
pub record ContractRead : Type 0 where
  pub contract : Contract
  pub standing : Standing

-- the same as the code has it
abbrev pub read_of : code.ContractRead → ContractRead
read_of x = record { contract = x.contract; standing = standing_of x.standing }

-- a contract whose conditions are resolved
abbrev pub contract_of : ℕ → Place → PartsResolved → PartsResolved → ContractRead
contract_of n p xs ys = record {
  contract = record { place = p; names = names_of n ys.standing; precondition = xs.parts; postcondition = ys.parts };
  standing = leaving (count xs.standing.scope) ys.standing;
}

-- the same where its precondition is resolved
abbrev pub postcondition_read : Around → ℕ → written.Contract → PartsResolved → ContractRead
postcondition_read b n x xs = contract_of n x.place xs (parts_resolved b xs.standing (part_list x.postcondition))

-- a contract behind its parameters
abbrev pub contract_read : Context → Context → Known → List (List ℕ) → written.Contract → Scope → ContractRead
contract_read c d k paths x s =
    postcondition_read (around_with d k paths) (count s) x (parts_resolved (around_with c k paths) (starting (around_with c k paths) s) (part_list x.precondition))

-- the body of a predicate behind its parameters, or an invariant, and what is declared and numbered behind it
pub record BodyRead : Type 0 where
  pub body : Body
  pub standing : Standing

-- the same as the code has it
abbrev pub body_read_of : code_bodies.BodyRead → BodyRead
body_read_of x = record { body = x.body; standing = standing_of x.standing }

-- a body whose assertion is resolved
abbrev pub body_of : ℕ → PartsResolved → BodyRead
body_of n xs = record { body = record { names = names_of n xs.standing; assertion = xs.parts }; standing = xs.standing }

abbrev pub body_read : Context → Known → List (List ℕ) → List PartTree → Scope → BodyRead
body_read c k paths xs s = body_of (count s) (parts_resolved (around_with c k paths) (starting (around_with c k paths) s) (part_list xs))
