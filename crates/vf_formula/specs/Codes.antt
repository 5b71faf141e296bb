-- How the logic stores a term.
use Rattle.std.proofs.Common.{◌≡◌, List, refl, sym, ◌∙◌, ap}
use Rattle.std.specs.Prelude.{ℤ}
use Rattle.std.specs.Ordering.{nat_cmp, int_cmp, ordering_then}
use Rattle.std.specs.Cmp.{tied_itself}
use Rattle.std.specs.Cmp.Lexicographic.{slice_cmp}
use Rattle.std.specs.Coded.{Coded, coded_ℤ, coded_list}
use base.Stored.{Gv, gnil, gnum, gcons, num as stored_number}
use Rattle.vf_closure.specs.Terms.{Head, Term, Terms, term, no_terms, and_term}
use Rattle.vf_normal.specs.Order.{variant, name_numbers, kind_place}
use Rattle.vf_normal.proofs.Order.{heads_total, heads_told}

-- the first and the second of what is stored as a pair
abbrev pub front : Gv → Gv
front gnil = gnil
front (gnum n) = gnil
front (gcons a b) = a

abbrev pub back : Gv → Gv
back gnil = gnil
back (gnum n) = gnil
back (gcons a b) = b

-- numbers in a row are stored as their list is
abbrev pub numbers_code : List ℤ → Gv
numbers_code = (coded_list coded_ℤ).code

-- a head is stored by what orders it: its variant, its name or number, and its kind
abbrev pub head_code : Head → Gv
head_code h = gcons (gnum (variant h)) (gcons (numbers_code (name_numbers h)) (gnum (kind_place h)))

pub head_inj : (h k : Head) → head_code h ≡ head_code k → h ≡ k
head_inj h k p =
    let v : variant h ≡ variant k = ap (λ g. stored_number (front g)) p in
    let n : name_numbers h ≡ name_numbers k = (coded_list coded_ℤ).inj (name_numbers h) (name_numbers k) (ap (λ g. front (back g)) p) in
    let q : kind_place h ≡ kind_place k = ap (λ g. stored_number (back (back g))) p in
    heads_told h k
    ((λ i. ordering_then (nat_cmp (variant h) (sym v i)) (ordering_then (slice_cmp int_cmp (name_numbers h) (sym n i)) (nat_cmp (kind_place h) (sym q i)))) ∙ tied_itself heads_total h)

abbrev mutual
  -- a term is stored as its head and its parts
  pub term_code : Term → Gv
  term_code (term h ts) = gcons (head_code h) (terms_code ts)

  -- terms in a row are stored one after the other
  pub terms_code : Terms → Gv
  terms_code no_terms = gnil
  terms_code (and_term t ts) = gcons (term_code t) (terms_code ts)

mutual
  pub term_inj : (t u : Term) → term_code t ≡ term_code u → t ≡ u
  term_inj (term h ts) (term k us) p = λ i. term (head_inj h k (ap front p) i) (terms_inj ts us (ap back p) i)

  pub terms_inj : (ts us : Terms) → terms_code ts ≡ terms_code us → ts ≡ us
  terms_inj (and_term t ts) (and_term u us) p = λ i. and_term (term_inj t u (ap front p) i) (terms_inj ts us (ap back p) i)
  terms_inj no_terms no_terms p = refl
  terms_inj ts us p = cc

-- how a term is stored tells it
abbrev pub coded_term : Coded Term
coded_term = record { code = term_code; inj = term_inj }

-- so does how a list of terms is stored
abbrev pub coded_term_list : Coded (List Term)
coded_term_list = coded_list coded_term
