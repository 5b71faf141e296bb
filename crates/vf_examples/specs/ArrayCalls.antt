-- A lemma whose body calls `ints_split`, and two functions that read and write an array at an index.
use Rattle.std.specs.Prelude.{◌≡◌, pos, false, cond, List, [], ◌∷◌, Option, Some, None, codes}
use Rattle.vf_base.specs.declared.int_type.IntType.TheVariants as types
use Rattle.vf_tree.specs.Core.{Identity, Subtract, Equal, Less, LessEqual, Void, Integer, PointerToInt, Read, LoadAt, StoreAt, Return, FunctionTree, ProgramTree}
use Rattle.vf_model.specs.Values.{same_identity}
use Rattle.vf_meaning.specs.Ghost.{Integers, Pointers, Datatype, Numbered, Result, ConstructorTree, Variable, Number, Arithmetic, PointerSum, Compare}
use Rattle.vf_meaning.specs.Assertions.{Is, Names, Assertion, Pure, Both, ContractTree, Environment}
use Rattle.vf_rules.specs.Mutexes.{full, name}
use Rattle.vf_rules.specs.Lemmas.{OnArgument, LemmaTree}
use Rattle.vf_rules.specs.Accept.{IsAcceptedFunction}
use Rattle.vf_lemmas.specs.Proves.{AreAcceptedLemmas}
use Rattle.vf_safety.specs.ArrayLaws.{numbers, take_name, drop_name, apply, take_fixpoint, drop_fixpoint, append_fixpoint, row, split_contract}
use Rattle.vf_safety.specs.ElementLaws.{nth_name, set_name, apply_three, nth_fixpoint, set_fixpoint}
use Rattle.vf_examples.specs.BoxProgram.{somewhere}
use Rattle.vf_examples.specs.SmallLemmas.{no_program}

-- `inductive ints_list = ints_nil | ints_cons(int, ints_list)`
abbrev pub constructor_of : Identity → Option ConstructorTree
constructor_of c =
    cond (same_identity (codes "<vf_arrays.h>#ints_nil") c) (Some (record { datatype = codes "<vf_arrays.h>#ints_list"; parameters = 0; arguments = [] }))
    (cond (same_identity (codes "<vf_arrays.h>#ints_cons") c) (Some (record { datatype = codes "<vf_arrays.h>#ints_list"; parameters = 0; arguments = Integers ∷ numbers ∷ [] })) None)

-- ---- the contracts
-- `0 <= i &*& i < n`, where n and i have the numbers 1 and 2
abbrev pub is_index : Assertion
is_index = Both (Pure (Compare LessEqual (Number (pos 0)) (name 2))) (Pure (Compare Less (name 2) (name 1)))

-- `int get(int *a, int n, int i) requires ints(a, n, ?vs) &*& 0 <= i &*& i < n; ensures ints(a, n, vs) &*& result == ints_nth(vs, i);`
abbrev pub get_contract : ContractTree
get_contract = record {
  sorts = Pointers ∷ Integers ∷ Integers ∷ numbers ∷ [];
  parameters = 3;
  result = Some Integers;
  requires_this = Both (row full (name 0) (Is (name 1)) (Names (Numbered 3))) is_index;
  ensures_this = Both (row full (name 0) (Is (name 1)) (Is (name 3))) (Pure (Compare Equal (Variable Result) (apply nth_name (name 3) (name 2))));
}

-- `void put(int *a, int n, int i, int v) requires ints(a, n, ?vs) &*& 0 <= i &*& i < n; ensures ints(a, n, ints_set(vs, i, v));`
abbrev pub put_contract : ContractTree
put_contract = record {
  sorts = Pointers ∷ Integers ∷ Integers ∷ Integers ∷ numbers ∷ [];
  parameters = 4;
  result = None;
  requires_this = Both (row full (name 0) (Is (name 1)) (Names (Numbered 4))) is_index;
  ensures_this = row full (name 0) (Is (name 1)) (Is (apply_three set_name (name 4) (name 2) (name 3)));
}

-- their identities
abbrev pub get_name : Identity
get_name = codes "one.c#get"

abbrev pub put_name : Identity
put_name = codes "one.c#put"

-- what is declared
abbrev pub arrays : Environment
arrays = record {
  constructors = constructor_of;
  fixpoints = nth_fixpoint ∷ set_fixpoint ∷ take_fixpoint ∷ drop_fixpoint ∷ append_fixpoint ∷ [];
  claims = λ g t. false;
  predicates = λ q. None;
  bodies = λ b. None;
  functions = λ g. cond (same_identity g get_name) (Some get_contract) (cond (same_identity g put_name) (Some put_contract) None);
  prototypes = λ g. None;
  types = λ t. None;
  called = λ g n. None;
  leaks = λ text. false;
  calls = λ text g. false;
}

-- ---- a lemma
-- `lemma void split_none(int *p) requires ints(p, ?n, ?vs); ensures ints(p, 0, ints_take(vs, 0)) &*& ints(p + 0, n - 0, ints_drop(vs, 0)); { ints_split(p, 0); }`: that n is not less than 0 is known as soon as the row is produced
abbrev pub split_none : LemmaTree
split_none = record {
  identity = codes "one.c#split_none";
  contract = record {
    sorts = Pointers ∷ Integers ∷ numbers ∷ [];
    parameters = 1;
    result = None;
    requires_this = row full (name 0) (Names (Numbered 1)) (Names (Numbered 2));
    ensures_this = Both (row full (name 0) (Is (Number (pos 0))) (Is (apply take_name (name 2) (Number (pos 0))))) (row full (PointerSum (name 0) (Number (pos 0))) (Is (Arithmetic Subtract (name 1) (Number (pos 0)))) (Is (apply drop_name (name 2) (Number (pos 0)))));
  };
  falls = OnArgument 0;
}

-- `ints_split`
abbrev pub ints_split : LemmaTree
ints_split = record { identity = codes "<vf_arrays.h>#ints_split"; contract = split_contract; falls = OnArgument 0 }

-- it is accepted, where no lemma stands before it
abbrev pub SplittingIsAccepted : Type 0
SplittingIsAccepted = AreAcceptedLemmas arrays no_program (split_none ∷ [])

-- ---- two functions
-- `{ return a[i]; }`
abbrev pub get : FunctionTree
get = record {
  identity = get_name;
  signature = record { result = Integer types.Int; parameters = PointerToInt ∷ Integer types.Int ∷ Integer types.Int ∷ [] };
  locals = PointerToInt ∷ Integer types.Int ∷ Integer types.Int ∷ Integer types.Int ∷ [];
  steps = LoadAt 3 (Read 0 somewhere) (Read 2 somewhere) somewhere 1 ∷ Return (Some (Read 3 somewhere)) ∷ [];
  closing = somewhere;
}

-- `{ a[i] = v; }`
abbrev pub put : FunctionTree
put = record {
  identity = put_name;
  signature = record { result = Void; parameters = PointerToInt ∷ Integer types.Int ∷ Integer types.Int ∷ Integer types.Int ∷ [] };
  locals = PointerToInt ∷ Integer types.Int ∷ Integer types.Int ∷ Integer types.Int ∷ [];
  steps = StoreAt (Read 0 somewhere) (Read 2 somewhere) (Read 3 somewhere) somewhere 1 ∷ Return None ∷ [];
  closing = somewhere;
}

-- the program of both
abbrev pub array_program : ProgramTree
array_program = record { functions = get ∷ put ∷ []; structs = []; main = 0 }

-- both are accepted
abbrev pub ElementsAreAccepted : Type 0
ElementsAreAccepted = IsAcceptedFunction arrays array_program get get_contract × IsAcceptedFunction arrays array_program put put_contract
