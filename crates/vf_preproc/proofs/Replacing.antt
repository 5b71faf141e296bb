-- How the replacement of macros goes on token by token.
use Rattle.std.proofs.Common.{◌≡◌, ℕ, zero, suc, ◌+◌, ◌-◌, ◌<◌, ◌≤◌, arith, refl, sym, ap, subst, ◌∙◌, Bool, true, false, List, [], ◌∷◌, ◌++◌, append_assoc, length, map, take, drop, Result, Ok, Err, OnOk, get_or, reverse, Option, Some, None, slice_get, inl, inr, ◌⊎◌, nat_eq, add-one, length-append, cond}
use Rattle.std.specs.List.{list_any}
use Rattle.std.proofs.lemmas.List.{append-nil, reverse-append, length-reverse, length-take, take_at, take_all, take-append-le}
use Rattle.std.proofs.lemmas.Grind.{flat_map-append}
use Rattle.std.proofs.Math.Dec.{leb}
use Rattle.std.proofs.lemmas.Option.{slice_get_within, get_or_from_slice_get}
use Rattle.std.proofs.lemmas.Bool.{leb-true, leb-false}
use Rattle.std.proofs.Math.Seq.{drop-cons, take-suc}
use Rattle.vf_lexer.specs.declared.token.Token.{Token}
use Rattle.vf_preproc.specs.declared.stack.Frame.{Frame}
use Rattle.vf_names.specs.Names.{number_of}
use Rattle.vf_preproc.specs.Macros.{Table, body, is_name, unless_among, macro_at, in_place, replaced, at_use, expansion}
use Rattle.vf_preproc.specs.Frames.{numbers_of, rest_of, front, done, due, opened, Opens}

-- tokens are replaced one after another
pub replaced-cons : (n : ℕ) (table : Table) (hidden : List ℕ) (t : Token) (ts : List Token) → replaced n table hidden (t ∷ ts) ≡ replaced n table hidden (t ∷ []) ++ replaced n table hidden ts
replaced-cons zero table hidden t ts = refl
replaced-cons (suc n) table hidden t ts = ap (λ xs. xs ++ replaced (suc n) table hidden ts) (sym (append-nil _))

pub replaced-nil : (n : ℕ) (table : Table) (hidden : List ℕ) → replaced n table hidden [] ≡ []
replaced-nil zero table hidden = refl
replaced-nil (suc n) table hidden = refl

-- a token that no macro replaces stays
pub replaced-kept : (n : ℕ) (table : Table) (hidden : List ℕ) (t : Token) → opened n table hidden t ≡ None → replaced n table hidden (t ∷ []) ≡ t ∷ []
replaced-kept zero table hidden t h = refl
replaced-kept (suc n) table hidden t h = append-nil _ ∙ ap (λ o. in_place o t (λ number. replaced n table (number ∷ hidden) (map (at_use t) (body table number)))) h

-- in the place of another stand the macro's tokens
pub replaced-opened : (n : ℕ) (table : Table) (hidden : List ℕ) (t : Token) (number : ℕ) → opened n table hidden t ≡ Some number → replaced n table hidden (t ∷ []) ≡ replaced (n - 1) table (number ∷ hidden) (map (at_use t) (body table number))
replaced-opened zero table hidden t number h = absurd cc
replaced-opened (suc n) table hidden t number h =
    let less : suc n - 1 ≡ n = omega arith in
    append-nil _ ∙ ap (λ o. in_place o t (λ k. replaced n table (k ∷ hidden) (map (at_use t) (body table k)))) h
    ∙ ap (λ m. replaced m table (number ∷ hidden) (map (at_use t) (body table number))) (sym less)

reverse-frame : (stack : List Frame) (f : Frame) → reverse (stack ++ f ∷ []) ≡ f ∷ reverse stack
reverse-frame stack f = reverse-append stack (f ∷ [])

-- what a stack with one more frame on it owes
pub rest_of-push : (table : Table) (name : Token) (stack : List Frame) (f : Frame) → rest_of table name (reverse (stack ++ f ∷ []))
    ≡ replaced (length table.names - suc (length stack)) table (f.number ∷ numbers_of (reverse stack)) (map (at_use name) (drop f.at f.body.value)) ++ rest_of table name (reverse stack)
rest_of-push table name stack f =
    ap (rest_of table name) (reverse-frame stack f)
    ∙ ap (λ k. replaced (length table.names - suc k) table (f.number ∷ numbers_of (reverse stack)) (map (at_use name) (drop f.at f.body.value)) ++ rest_of table name (reverse stack)) (length-reverse stack)

-- a token that no macro replaces is put
pub put_done : (table : Table) (out : List Token) (stack : List Frame) (t : Token) → opened (length table.names - length stack) table (numbers_of (reverse stack)) t ≡ None
    → done table t (out ++ t ∷ []) stack ≡ front (out ++ due table stack t)
put_done table out stack t h =
    ap front (append_assoc out (t ∷ []) (rest_of table t (reverse stack)) ∙ ap (λ xs. out ++ (xs ++ rest_of table t (reverse stack))) (sym (replaced-kept (length table.names - length stack) table (numbers_of (reverse stack)) t h)))

-- a macro's tokens are begun
pub open_done : (table : Table) (out : List Token) (stack new : List Frame) (t : Token) (number : ℕ) → opened (length table.names - length stack) table (numbers_of (reverse stack)) t ≡ Some number → Opens table number stack new
    → done table t out new ≡ front (out ++ due table stack t)
open_done table out stack new t number h (inl (none, same)) =
    let n : ℕ = length table.names - length stack in
    let owed : replaced n table (numbers_of (reverse stack)) (t ∷ []) ≡ [] =
    replaced-opened n table (numbers_of (reverse stack)) t number h ∙ ap (λ ts. replaced (n - 1) table (number ∷ numbers_of (reverse stack)) (map (at_use t) ts)) none ∙ replaced-nil (n - 1) table (number ∷ numbers_of (reverse stack)) in
    ap (done table t out) same ∙ ap (λ xs. front (out ++ (xs ++ rest_of table t (reverse stack)))) (sym owed)
open_done table out stack new t number h (inr (f, same_number, start, tokens, pushed)) =
    let n : ℕ = length table.names - length stack in
    let less : length table.names - suc (length stack) ≡ n - 1 = omega arith in
    let owed : rest_of table t (reverse new) ≡ due table stack t =
    ap (λ s. rest_of table t (reverse s)) pushed ∙ rest_of-push table t stack f
    ∙ ap (λ k. replaced k table (f.number ∷ numbers_of (reverse stack)) (map (at_use t) (drop f.at f.body.value)) ++ rest_of table t (reverse stack)) less
    ∙ ap (λ k. replaced (n - 1) table (k ∷ numbers_of (reverse stack)) (map (at_use t) (drop f.at f.body.value)) ++ rest_of table t (reverse stack)) same_number
    ∙ ap (λ k. replaced (n - 1) table (number ∷ numbers_of (reverse stack)) (map (at_use t) (drop k f.body.value)) ++ rest_of table t (reverse stack)) start
    ∙ ap (λ ts. replaced (n - 1) table (number ∷ numbers_of (reverse stack)) (map (at_use t) ts) ++ rest_of table t (reverse stack)) tokens
    ∙ ap (λ xs. xs ++ rest_of table t (reverse stack)) (sym (replaced-opened n table (numbers_of (reverse stack)) t number h)) in
    ap (λ xs. front (out ++ xs)) owed

-- a macro that replaces a token is none of those that are being replaced
unless_apart : (hidden : List ℕ) (o : Option ℕ) (number : ℕ) → unless_among hidden o ≡ Some number → list_any (nat_eq number) hidden ≡ false
unless_apart hidden None number h = absurd cc
unless_apart hidden (Some n) number h = by_test (list_any (nat_eq n) hidden) refl h
  where
    by_test : (b : Bool) → list_any (nat_eq n) hidden ≡ b → cond b None (Some n) ≡ Some number → list_any (nat_eq number) hidden ≡ false
    by_test true is found = absurd cc
    by_test false is found = let same : n ≡ number = cc in subst (λ k. list_any (nat_eq k) hidden ≡ false) same is

macro_apart : (table : Table) (hidden : List ℕ) (t : Token) (number : ℕ) → macro_at table hidden t ≡ Some number → list_any (nat_eq number) hidden ≡ false
macro_apart table hidden t number h = by_name (is_name t) h
  where
    by_name : (b : Bool) → cond b (unless_among hidden (number_of table.names t.text)) None ≡ Some number → list_any (nat_eq number) hidden ≡ false
    by_name true found = unless_apart hidden (number_of table.names t.text) number found
    by_name false found = absurd cc

pub opened_apart : (n : ℕ) (table : Table) (hidden : List ℕ) (t : Token) (number : ℕ) → opened n table hidden t ≡ Some number → list_any (nat_eq number) hidden ≡ false
opened_apart zero table hidden t number h = absurd cc
opened_apart (suc n) table hidden t number h = macro_apart table hidden t number h

-- behind the end nothing is left
nothing_behind : (ts : List Token) (i : ℕ) → slice_get ts i ≡ None → drop i ts ≡ []
nothing_behind [] zero h = refl
nothing_behind [] (suc i) h = refl
nothing_behind (t ∷ ts) zero h = absurd cc
nothing_behind (t ∷ ts) (suc i) h = nothing_behind ts i h

-- an innermost macro that is at its end owes nothing
pub ended : (table : Table) (name : Token) (out : List Token) (stack : List Frame) (f : Frame) → slice_get f.body.value f.at ≡ None → done table name out (stack ++ f ∷ []) ≡ done table name out stack
ended table name out stack f none =
    let nothing : drop f.at f.body.value ≡ [] = nothing_behind f.body.value f.at none in
    ap (λ r. front (out ++ r)) (rest_of-push table name stack f
    ∙ ap (λ ts. replaced (length table.names - suc (length stack)) table (f.number ∷ numbers_of (reverse stack)) (map (at_use name) ts) ++ rest_of table name (reverse stack)) nothing
    ∙ ap (λ xs. xs ++ rest_of table name (reverse stack)) (replaced-nil (length table.names - suc (length stack)) table (f.number ∷ numbers_of (reverse stack))))

-- one token of the innermost macro is taken
pub taken : (table : Table) (name : Token) (stack : List Frame) (f rest : Frame) (t : Token) → slice_get f.body.value f.at ≡ Some t → rest.number ≡ f.number → rest.body.value ≡ f.body.value → rest.at ≡ f.at + 1
    → due table (stack ++ rest ∷ []) (at_use name t) ≡ rest_of table name (reverse (stack ++ f ∷ []))
taken table name stack f rest t at same_number same_body next =
    let n : ℕ = length table.names - suc (length stack) in
    let hidden : List ℕ = f.number ∷ numbers_of (reverse stack) in
    let ts : List Token = map (at_use name) (drop (f.at + 1) f.body.value) in
    let size : length (stack ++ rest ∷ []) ≡ suc (length stack) = omega (arith, length-append stack (rest ∷ [])) in
    let within : f.at < length f.body.value = slice_get_within f.body.value f.at t at in
    let cut : drop f.at f.body.value ≡ t ∷ drop (f.at + 1) f.body.value =
    drop-cons f.body.value f.at t within ∙ ap (λ x. x ∷ drop (suc f.at) f.body.value) (get_or_from_slice_get f.body.value f.at t t at) ∙ ap (λ k. t ∷ drop k f.body.value) (let e : suc f.at ≡ f.at + 1 = omega arith in e) in
    let inner : replaced (length table.names - length (stack ++ rest ∷ [])) table (numbers_of (reverse (stack ++ rest ∷ []))) (at_use name t ∷ []) ≡ replaced n table hidden (at_use name t ∷ []) =
    ap (λ k. replaced (length table.names - k) table (numbers_of (reverse (stack ++ rest ∷ []))) (at_use name t ∷ [])) size
    ∙ ap (λ s. replaced n table (numbers_of s) (at_use name t ∷ [])) (reverse-frame stack rest)
    ∙ ap (λ k. replaced n table (k ∷ numbers_of (reverse stack)) (at_use name t ∷ [])) same_number in
    let outer : rest_of table (at_use name t) (reverse (stack ++ rest ∷ [])) ≡ replaced n table hidden ts ++ rest_of table name (reverse stack) =
    rest_of-push table (at_use name t) stack rest
    ∙ ap (λ k. replaced n table (k ∷ numbers_of (reverse stack)) (map (at_use name) (drop rest.at rest.body.value)) ++ rest_of table name (reverse stack)) same_number
    ∙ ap (λ k. replaced n table hidden (map (at_use name) (drop k rest.body.value)) ++ rest_of table name (reverse stack)) next
    ∙ ap (λ b. replaced n table hidden (map (at_use name) (drop (f.at + 1) b)) ++ rest_of table name (reverse stack)) same_body in
    ap (λ xs. xs ++ rest_of table (at_use name t) (reverse (stack ++ rest ∷ []))) inner
    ∙ ap (λ xs. replaced n table hidden (at_use name t ∷ []) ++ xs) outer
    ∙ sym (append_assoc (replaced n table hidden (at_use name t ∷ [])) (replaced n table hidden ts) (rest_of table name (reverse stack)))
    ∙ ap (λ xs. xs ++ rest_of table name (reverse stack)) (sym (replaced-cons n table hidden (at_use name t) ts))
    ∙ ap (λ xs. replaced n table hidden (map (at_use name) xs) ++ rest_of table name (reverse stack)) (sym cut)
    ∙ sym (rest_of-push table name stack f)

-- the first tokens are all that there will be, where they are 200,001
pub full_done : (table : Table) (name : Token) (out : List Token) (stack : List Frame) → length out ≤ 200001 → 200000 < length out → done table name out stack ≡ out
full_done table name out stack few full =
    let exact : length out ≡ 200001 = omega arith in
    take_at out (rest_of table name (reverse stack)) 200001 exact

-- nothing is owed by no frames
pub none_done : (table : Table) (name : Token) (out : List Token) → length out ≤ 200001 → done table name out [] ≡ out
none_done table name out few = ap front (append-nil out) ∙ take_all 200001 out few

-- after a push, or for want of memory
pub put_result : {E : Type 0} (r : Result (Unit {0}) E) (table : Table) (out new : List Token) (stack : List Frame) (t : Token) → opened (length table.names - length stack) table (numbers_of (reverse stack)) t ≡ None
    → OnOk r (new ≡ out ++ t ∷ []) → OnOk r (done table t new stack ≡ front (out ++ due table stack t))
put_result (Ok x) table out new stack t h is = ap (λ ts. done table t ts stack) is ∙ put_done table out stack t h
put_result (Err e) table out new stack t h is = tt

pub open_result : {E : Type 0} (r : Result (Unit {0}) E) (table : Table) (out : List Token) (stack new : List Frame) (t : Token) (number : ℕ) → opened (length table.names - length stack) table (numbers_of (reverse stack)) t ≡ Some number
    → OnOk r (Opens table number stack new) → OnOk r (done table t out new ≡ front (out ++ due table stack t))
open_result (Ok x) table out stack new t number h is = open_done table out stack new t number h is
open_result (Err e) table out stack new t number h is = tt

-- one step of the innermost macro
pub taken_result : {E : Type 0} (r : Result (Unit {0}) E) (table : Table) (name : Token) (out new : List Token) (stack pushed after : List Frame) (f rest : Frame) (t used : Token)
    → slice_get f.body.value f.at ≡ Some t → rest.number ≡ f.number → rest.body.value ≡ f.body.value → rest.at ≡ f.at + 1 → used ≡ at_use name t → pushed ≡ stack ++ rest ∷ []
    → OnOk r (done table used new after ≡ front (out ++ due table pushed used)) → OnOk r (done table name new after ≡ done table name out (stack ++ f ∷ []))
taken_result (Ok x) table name out new stack pushed after f rest t used at same_number same_body next is push h =
    let there : done table (at_use name t) new after ≡ front (out ++ due table pushed (at_use name t)) = subst (λ u. done table u new after ≡ front (out ++ due table pushed u)) is h in
    there ∙ ap (λ s. front (out ++ due table s (at_use name t))) push ∙ ap (λ xs. front (out ++ xs)) (taken table name stack f rest t at same_number same_body next)
taken_result (Err e) table name out new stack pushed after f rest t used at same_number same_body next is push h = tt

-- what is due for a token outside of macros is its expansion
pub due_alone : (table : Table) (t : Token) → due table [] t ≡ expansion table (t ∷ [])
due_alone table t = append-nil _ ∙ ap (λ n. replaced n table [] (t ∷ [])) (let e : length table.names - 0 ≡ length table.names = omega arith in e)

-- what is full stays
pub full : (out more : List Token) → length out ≤ 200001 → 200000 < length out → out ≡ front (out ++ more)
full out more few over = let exact : length out ≡ 200001 = omega arith in sym (take_at out more 200001 exact)

-- a list of no length is empty
pub no_items : {A : Type 0} (xs : List A) → length xs ≡ 0 → xs ≡ []
no_items [] h = refl
no_items (x ∷ xs) h = absurd (omega arith)

-- tokens are replaced in parts
pub replaced-append : (n : ℕ) (table : Table) (hidden : List ℕ) (xs ys : List Token) → replaced n table hidden (xs ++ ys) ≡ replaced n table hidden xs ++ replaced n table hidden ys
replaced-append zero table hidden xs ys = refl
replaced-append (suc n) table hidden xs ys = flat_map-append (λ t. in_place (macro_at table hidden t) t (λ number. replaced n table (number ∷ hidden) (map (at_use t) (body table number)))) xs ys

by_size : (xs ys : List Token) → (length xs ≤ 200001) ⊎ (200001 < length xs) → front (front xs ++ ys) ≡ front (xs ++ ys)
by_size xs ys (inl few) = ap (λ zs. front (zs ++ ys)) (take_all 200001 xs few)
by_size xs ys (inr many) =
    let size : length (front xs) ≡ 200001 = omega (arith, length-take 200001 xs) in
    take_at (front xs) ys 200001 size ∙ sym (take-append-le 200001 xs ys (omega arith))

-- what is cut before more comes is cut the same behind it
pub front-append : (xs ys : List Token) → front (front xs ++ ys) ≡ front (xs ++ ys)
front-append xs ys = by_size xs ys (sizes (leb (length xs) 200001) refl)
  where
    sizes : (b : Bool) → leb (length xs) 200001 ≡ b → (length xs ≤ 200001) ⊎ (200001 < length xs)
    sizes true e = inl (leb-true (length xs) 200001 e)
    sizes false e = inr (leb-false (length xs) 200001 e)

pub length-front : (xs : List Token) → length (front xs) ≤ 200001
length-front xs = omega (arith, length-take 200001 xs)

-- one more token of a line
pub put_more : (table : Table) (old : List Token) (ts : List Token) (n : ℕ) (d : Token) → n < length ts → front (front (old ++ expansion table (take n ts)) ++ expansion table (get_or ts n d ∷ [])) ≡ front (old ++ expansion table (take (n + 1) ts))
put_more table old ts n d within =
    let cut : take (n + 1) ts ≡ take n ts ++ get_or ts n d ∷ [] = rw add-one (take-suc ts n d within) in
    front-append (old ++ expansion table (take n ts)) (expansion table (get_or ts n d ∷ []))
    ∙ ap front (append_assoc old (expansion table (take n ts)) (expansion table (get_or ts n d ∷ [])) ∙ ap (λ xs. old ++ xs) (sym (replaced-append (length table.names) table [] (take n ts) (get_or ts n d ∷ []))) ∙ ap (λ xs. old ++ expansion table xs) (sym cut))

-- no tokens of a line
pub put_none : (table : Table) (old : List Token) → length old ≤ 200001 → old ≡ front (old ++ expansion table [])
put_none table old few = sym (take_all 200001 old few) ∙ ap front (sym (ap (λ xs. old ++ xs) (replaced-nil (length table.names) table []) ∙ append-nil old))
