-- Small lemmas that are accepted: one opens a predicate and closes it again, one takes a number, and one goes through a list of numbers by calling the second with the first of it, and itself with the rest.
use Rattle.std.specs.Prelude.{true, false, cond, List, [], ◌∷◌, Option, Some, None, codes}
use Rattle.vf_tree.specs.Core.{Identity, Field, ProgramTree}
use Rattle.vf_model.specs.Values.{same_identity}
use Rattle.vf_meaning.specs.Ghost.{Sort, Integers, Pointers, Parameter, Datatype, none, more, Numbered, ConstructorTree, Truth}
use Rattle.vf_meaning.specs.Assertions.{Is, Wild, Named, Assertion, Pure, Empty, Switch, Cell, Chunk, no_branches, branch, BodyName, Plain, Instance, BodyTree, Environment}
use Rattle.vf_rules.specs.Mutexes.{full, name}
use Rattle.vf_rules.specs.Inhabited.{HaveDatatypesValues}
use Rattle.vf_rules.specs.Lemmas.{OnArgument, LemmaTree}
use Rattle.vf_lemmas.specs.Proves.{AreAcceptedLemmas}

-- the field of a struct
abbrev pub content : Field
content = record { structure = codes "one.c#box"; index = 0 }

-- a predicate's identity
abbrev pub boxed : Identity
boxed = codes "one.c#boxed"

-- `predicate boxed(struct box *p) = p->content |-> _`
abbrev pub boxed_body : BodyTree
boxed_body = record { sorts = Pointers ∷ []; parameters = 1; assertion = Cell full (name 0) content Wild }

-- the bodies of the example
abbrev pub body_of : BodyName → Option BodyTree
body_of (Plain q) = cond (same_identity boxed q) (Some boxed_body) None
body_of (Instance q g) = None

-- the identity of a datatype of lists
abbrev pub list_name : Identity
list_name = codes "one.c#list"

-- its constructor of the empty list
abbrev pub nil_name : Identity
nil_name = codes "one.c#nil"

-- and that of a list with a head and a rest
abbrev pub cons_name : Identity
cons_name = codes "one.c#cons"

-- `inductive list<t> = nil | cons(t, list<t>)`
abbrev pub constructor_of : Identity → Option ConstructorTree
constructor_of c =
    cond (same_identity nil_name c) (Some (record { datatype = list_name; parameters = 1; arguments = [] }))
    (cond (same_identity cons_name c) (Some (record { datatype = list_name; parameters = 1; arguments = Parameter 0 ∷ Datatype list_name (more (Parameter 0) none) ∷ [] })) None)

-- the sort `list<int>`
abbrev pub ints : Sort
ints = Datatype list_name (more Integers none)

-- what is declared
abbrev pub lemma_environment : Environment
lemma_environment = record {
  constructors = constructor_of;
  fixpoints = [];
  claims = λ g t. false;
  predicates = λ q. None;
  bodies = body_of;
  functions = λ g. None;
  prototypes = λ g. None;
  types = λ t. None;
  called = λ g n. None;
  leaks = λ text. false;
  calls = λ text g. false;
}

-- a program without functions
abbrev pub no_program : ProgramTree
no_program = record { functions = []; structs = []; main = 0 }

-- `boxed(p)`
abbrev pub is_boxed : Assertion
is_boxed = Chunk full (Named boxed) (Is (name 0) ∷ [])

-- `lemma void reopen(struct box *p) requires boxed(p); ensures boxed(p); { open boxed(p); close boxed(p); }`
abbrev pub reopen : LemmaTree
reopen = record {
  identity = codes "one.c#reopen";
  contract = record { sorts = Pointers ∷ []; parameters = 1; result = None; requires_this = is_boxed; ensures_this = is_boxed };
  falls = OnArgument 0;
}

-- the cases of a list
abbrev pub cases_of_list : Assertion
cases_of_list = Switch (name 0) (branch nil_name [] Empty (branch cons_name (Numbered 1 ∷ Numbered 2 ∷ []) Empty no_branches))

-- the sorts of the list, its head and its rest
abbrev pub sorts_of_cases : List Sort
sorts_of_cases = ints ∷ Integers ∷ ints ∷ []

-- `lemma void visit(int x) requires true; ensures true; { }`
abbrev pub visit : LemmaTree
visit = record {
  identity = codes "one.c#visit";
  contract = record { sorts = Integers ∷ []; parameters = 1; result = None; requires_this = Pure (Truth true); ensures_this = Pure (Truth true) };
  falls = OnArgument 0;
}

-- `lemma void walk(list<int> xs) requires true; ensures true; { switch (xs) { case nil: case cons(x, rest): visit(x); walk(rest); } }`
abbrev pub walk : LemmaTree
walk = record {
  identity = codes "one.c#walk";
  contract = record { sorts = ints ∷ []; parameters = 1; result = None; requires_this = Pure (Truth true); ensures_this = Pure (Truth true) };
  falls = OnArgument 0;
}

-- each datatype that is declared has a value at sorts that have one
abbrev pub ListsHaveValues : Type 0
ListsHaveValues = HaveDatatypesValues lemma_environment

-- the three of them are accepted
abbrev pub LemmasAreAccepted : Type 0
LemmasAreAccepted = AreAcceptedLemmas lemma_environment no_program (reopen ∷ visit ∷ walk ∷ [])
