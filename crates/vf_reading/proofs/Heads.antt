-- What a head of the table says of the head that it stands for, and the other way round.
use Rattle.std.proofs.Common.{◌≡◌, ℕ, ap, sym, ◌∙◌, refl, subst}
use Rattle.std.specs.Prelude.{ℤ, Bool}
use Rattle.vf_tree.specs.Core.{Identity}
use Rattle.vf_table.specs.declared.node.Head.{Head}
use Rattle.vf_table.specs.declared.node.Head.TheVariants as heads
use Rattle.vf_table.specs.Tables as tables
use Rattle.vf_table.specs.Tables.{IsInjective, IsOfIntegers}
use Rattle.vf_closure.specs.Terms as terms
use Rattle.vf_closure.specs.Terms.{Integer, Other, kind_of}
use Rattle.vf_closure.specs.Closure.{AreClashing, two_constructors, two_numbers, two_truths, two_functions, null_and_function}
use Rattle.vf_reading.specs.Reading.{IsOpaque, StandsFor, a_number, a_truth, a_null, a_function, a_constructor, a_plus, an_integer, another}

pub integer_up : {h : Head} {k : terms.Head} → StandsFor h k → IsOfIntegers h → kind_of k ≡ Integer
integer_up a_number i = refl
integer_up a_truth i = absurd i
integer_up a_null i = absurd i
integer_up a_function i = absurd i
integer_up a_constructor i = absurd i
integer_up a_plus i = refl
integer_up (an_integer e o) i = e
integer_up (another e o) i = absurd i

pub integer_down : {h : Head} {k : terms.Head} → StandsFor h k → kind_of k ≡ Integer → IsOfIntegers h
integer_down a_number i = tt
integer_down a_truth i = cc
integer_down a_null i = cc
integer_down a_function i = cc
integer_down a_constructor i = cc
integer_down a_plus i = tt
integer_down (an_integer e o) i = tt
integer_down (another e o) i = absurd (cc)

-- an injective head stands for a constructor
pub constructor_up : {h : Head} {k : terms.Head} → StandsFor h k → IsInjective h → (c : Identity) × (k ≡ terms.Constructor c)
constructor_up a_number i = absurd i
constructor_up a_truth i = absurd i
constructor_up a_null i = absurd i
constructor_up a_function i = absurd i
constructor_up (a_constructor {c = c}) i = (c, refl)
constructor_up a_plus i = absurd i
constructor_up (an_integer e o) i = absurd i
constructor_up (another e o) i = absurd i

-- the heads that the closure knows are told by what they stand for
pub constructor_down : {h : Head} {k : terms.Head} {c : Identity} → StandsFor h k → k ≡ terms.Constructor c → (n : ℕ) × (h ≡ heads.Constructor n)
constructor_down a_number e = absurd (cc)
constructor_down a_truth e = absurd (cc)
constructor_down a_null e = absurd (cc)
constructor_down a_function e = absurd (cc)
constructor_down (a_constructor {n = n}) e = (n, refl)
constructor_down a_plus e = absurd (cc)
constructor_down (an_integer i o) e = absurd (subst IsOpaque e o)
constructor_down (another i o) e = absurd (subst IsOpaque e o)

pub function_down : {h : Head} {k : terms.Head} {g : Identity} → StandsFor h k → k ≡ terms.Function g → (n : ℕ) × (h ≡ heads.Function n)
function_down a_number e = absurd (cc)
function_down a_truth e = absurd (cc)
function_down a_null e = absurd (cc)
function_down (a_function {n = n}) e = (n, refl)
function_down a_constructor e = absurd (cc)
function_down a_plus e = absurd (cc)
function_down (an_integer i o) e = absurd (subst IsOpaque e o)
function_down (another i o) e = absurd (subst IsOpaque e o)

pub number_down : {h : Head} {k : terms.Head} {z : ℤ} → StandsFor h k → k ≡ terms.Number z → h ≡ heads.Number z
number_down (a_number {z = y}) e = ap heads.Number (cc)
number_down a_truth e = absurd (cc)
number_down a_null e = absurd (cc)
number_down a_function e = absurd (cc)
number_down a_constructor e = absurd (cc)
number_down a_plus e = absurd (cc)
number_down (an_integer i o) e = absurd (subst IsOpaque e o)
number_down (another i o) e = absurd (subst IsOpaque e o)

pub truth_down : {h : Head} {k : terms.Head} {b : Bool} → StandsFor h k → k ≡ terms.Truth b → h ≡ heads.Truth b
truth_down a_number e = absurd (cc)
truth_down (a_truth {b = a}) e = ap heads.Truth (cc)
truth_down a_null e = absurd (cc)
truth_down a_function e = absurd (cc)
truth_down a_constructor e = absurd (cc)
truth_down a_plus e = absurd (cc)
truth_down (an_integer i o) e = absurd (subst IsOpaque e o)
truth_down (another i o) e = absurd (subst IsOpaque e o)

pub null_down : {h : Head} {k : terms.Head} → StandsFor h k → k ≡ terms.Null → h ≡ heads.Null
null_down a_number e = absurd (cc)
null_down a_truth e = absurd (cc)
null_down a_null e = refl
null_down a_function e = absurd (cc)
null_down a_constructor e = absurd (cc)
null_down a_plus e = absurd (cc)
null_down (an_integer i o) e = absurd (subst IsOpaque e o)
null_down (another i o) e = absurd (subst IsOpaque e o)

pub plus_down : {h : Head} {k : terms.Head} → StandsFor h k → k ≡ terms.Plus → h ≡ heads.Plus
plus_down a_number e = absurd (cc)
plus_down a_truth e = absurd (cc)
plus_down a_null e = absurd (cc)
plus_down a_function e = absurd (cc)
plus_down a_constructor e = absurd (cc)
plus_down a_plus e = refl
plus_down (an_integer i o) e = absurd (subst IsOpaque e o)
plus_down (another i o) e = absurd (subst IsOpaque e o)

pub number_up : {h : Head} {k : terms.Head} (z : ℤ) → StandsFor h k → h ≡ heads.Number z → k ≡ terms.Number z
number_up z (a_number {z = y}) e = ap terms.Number (cc)
number_up z a_truth e = absurd (cc)
number_up z a_null e = absurd (cc)
number_up z a_function e = absurd (cc)
number_up z a_constructor e = absurd (cc)
number_up z a_plus e = absurd (cc)
number_up z (an_integer i o) e = absurd (cc)
number_up z (another i o) e = absurd (cc)

pub plus_up : {h : Head} {k : terms.Head} → StandsFor h k → h ≡ heads.Plus → k ≡ terms.Plus
plus_up a_number e = absurd (cc)
plus_up a_truth e = absurd (cc)
plus_up a_null e = absurd (cc)
plus_up a_function e = absurd (cc)
plus_up a_constructor e = absurd (cc)
plus_up a_plus e = refl
plus_up (an_integer i o) e = absurd (cc)
plus_up (another i o) e = absurd (cc)

-- heads that clash stand for heads that clash, where different heads stand for different ones
pub clash_up : {h j : Head} {k l : terms.Head} → StandsFor h k → StandsFor j l → (k ≡ l → h ≡ j) → tables.AreClashing h j → AreClashing k l
clash_up a_constructor a_constructor one n = two_constructors (λ e. n (let f = one (ap terms.Constructor e) in cc))
clash_up a_number a_number one n = two_numbers n
clash_up a_truth a_truth one n = two_truths n
clash_up a_function a_function one n = two_functions (λ e. n (let f = one (ap terms.Function e) in cc))
clash_up a_null a_function one n = null_and_function
clash_up _ _ one n = absurd n

pub clash_down : {h j : Head} {k l : terms.Head} → StandsFor h k → StandsFor j l → (h ≡ j → k ≡ l) → AreClashing k l → tables.AreClashing h j
clash_down p q one (two_constructors n) = let e = constructor_down p refl in let f = constructor_down q refl in
    rw (e.1, f.1) (λ i. n (let g = one (e.1 ∙ ap heads.Constructor i ∙ sym f.1) in cc))
clash_down p q one (two_numbers n) = rw (number_down p refl, number_down q refl) n
clash_down p q one (two_truths n) = rw (truth_down p refl, truth_down q refl) n
clash_down p q one (two_functions n) = let e = function_down p refl in let f = function_down q refl in
    rw (e.1, f.1) (λ i. n (let g = one (e.1 ∙ ap heads.Function i ∙ sym f.1) in cc))
clash_down p q one null_and_function = let f = function_down q refl in rw (null_down p refl, f.1) tt
