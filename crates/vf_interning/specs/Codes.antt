-- How the logic stores literals, and what a contract sees of literals along a path.
use Rattle.std.proofs.Common.{◌≡◌, ap}
use Rattle.std.specs.Coded.{Coded, coded_ℤ, coded_list}
use base.Stored.{Gv, gnum, gcons}
use Rattle.vf_closure.specs.Literals.{Literal, Equal, NotEqual, AtMost, Difference, NotDifference, False}
use Rattle.vf_formula.specs.Codes.{front, back, term_code, term_inj}
use Rattle.vf_interning.specs.Interned.{Interned}

-- a literal is stored as the number of its variant, and its number and terms
abbrev pub literal_code : Literal → Gv
literal_code (Equal a b) = gcons (gnum 0) (gcons (term_code a) (term_code b))
literal_code (NotEqual a b) = gcons (gnum 1) (gcons (term_code a) (term_code b))
literal_code (AtMost p n c) = gcons (gnum 2) (gcons (coded_ℤ.code c) (gcons (term_code p) (term_code n)))
literal_code (Difference p n c) = gcons (gnum 3) (gcons (coded_ℤ.code c) (gcons (term_code p) (term_code n)))
literal_code (NotDifference p n c) = gcons (gnum 4) (gcons (coded_ℤ.code c) (gcons (term_code p) (term_code n)))
literal_code False = gcons (gnum 5) (gnum 0)

pub literal_inj : (l k : Literal) → literal_code l ≡ literal_code k → l ≡ k
literal_inj (Equal a b) (Equal c d) p = λ i. Equal (term_inj a c (ap (λ g. front (back g)) p) i) (term_inj b d (ap (λ g. back (back g)) p) i)
literal_inj (NotEqual a b) (NotEqual c d) p = λ i. NotEqual (term_inj a c (ap (λ g. front (back g)) p) i) (term_inj b d (ap (λ g. back (back g)) p) i)
literal_inj (AtMost a b m) (AtMost c d n) p = λ i. AtMost (term_inj a c (ap (λ g. front (back (back g))) p) i) (term_inj b d (ap (λ g. back (back (back g))) p) i) (coded_ℤ.inj m n (ap (λ g. front (back g)) p) i)
literal_inj (Difference a b m) (Difference c d n) p = λ i. Difference (term_inj a c (ap (λ g. front (back (back g))) p) i) (term_inj b d (ap (λ g. back (back (back g))) p) i) (coded_ℤ.inj m n (ap (λ g. front (back g)) p) i)
literal_inj (NotDifference a b m) (NotDifference c d n) p = λ i. NotDifference (term_inj a c (ap (λ g. front (back (back g))) p) i) (term_inj b d (ap (λ g. back (back (back g))) p) i) (coded_ℤ.inj m n (ap (λ g. front (back g)) p) i)
literal_inj False False p = λ i. False
literal_inj l k p = cc

-- how a literal is stored tells it
abbrev pub coded_literal : Coded Literal
coded_literal = record { code = literal_code; inj = literal_inj }

-- the literals and those of the levels are stored one after the other
abbrev pub interned_code : Interned → Gv
interned_code r = gcons ((coded_list coded_literal).code r.literals) ((coded_list (coded_list coded_literal)).code r.levels)

pub interned_inj : (r s : Interned) → interned_code r ≡ interned_code s → r ≡ s
interned_inj r s p = λ i. record { literals = (coded_list coded_literal).inj r.literals s.literals (ap front p) i; levels = (coded_list (coded_list coded_literal)).inj r.levels s.levels (ap back p) i }

-- and tell what there is
abbrev pub coded_interned : Coded Interned
coded_interned = record { code = interned_code; inj = interned_inj }
