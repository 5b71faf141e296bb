-- What the loops over links and statements do at each turn, and lists of one item.
use Rattle.std.proofs.Common.{◌≡◌, ℕ, zero, suc, ◌+◌, ◌<◌, ◌≤◌, Bool, true, false, cond, List, [], ◌∷◌, ◌++◌, length, drop, Option, Some, None, slice_get, refl, sym, ap, ◌∙◌, append_assoc, arith}
use Rattle.std.proofs.lemmas.List.{append-nil, drop_all}
use Rattle.std.proofs.lemmas.Option.{slice_get_within, get_or_from_slice_get}
use Rattle.std.proofs.Math.Seq.{drop-cons}
use Rattle.vf_tree.specs.declared.unit.Link.{Link}
use Rattle.vf_tree.specs.declared.unit.CoreStep.{CoreStep}
use Rattle.vf_syntax.specs.ExprTree.{LinkTree, LinkTrees, link_list}
use Rattle.vf_syntax.specs.StmtTree.{StmtTree}
use Rattle.vf_syntax.specs.GhostExprTree.{GhostLinkTree, ghost_link_list}
use Rattle.vf_first.specs.declared.stop.Stop.{Stop}
use Rattle.vf_first.specs.declared.stop.Stop.TheVariants as stops
use Rattle.vf_first.specs.FirstForm.{◌>>=◌, Names, Stepped, Steps, Fails, link_of, link_in, links_of, statement_of, statement_in, steps_of, last_of, is_return, equal_of, one_equal_of}

-- ---- one item

pub not_one : (xs : List GhostLinkTree) → (length xs ≡ 1 → ⊥) → one_equal_of (ghost_link_list xs) ≡ None
not_one [] h = refl
not_one (x ∷ []) h = absurd (h refl)
not_one (x ∷ y ∷ xs) h = refl

pub just_one : (xs : List GhostLinkTree) (x : GhostLinkTree) → length xs ≡ 1 → slice_get xs 0 ≡ Some x → one_equal_of (ghost_link_list xs) ≡ equal_of x
just_one [] x h e = absurd (omega arith)
just_one (y ∷ []) x h e = let same : y ≡ x = cc in ap equal_of same
just_one (y ∷ z ∷ xs) x h e = absurd (omega arith)

pub none_there : (xs : List GhostLinkTree) → slice_get xs 0 ≡ None → one_equal_of (ghost_link_list xs) ≡ None
none_there [] h = refl
none_there (x ∷ xs) h = absurd cc

-- ---- what is left of a list

pub drop_at : {A : Type 0} (xs : List A) (i : ℕ) (x : A) → slice_get xs i ≡ Some x → drop i xs ≡ x ∷ drop (i + 1) xs
drop_at xs i x e =
    let next : suc i ≡ i + 1 = omega arith in
    drop-cons xs i x (slice_get_within xs i x e) ∙ ap (λ y. y ∷ drop (suc i) xs) (get_or_from_slice_get xs i x x e) ∙ ap (λ n. x ∷ drop n xs) next

pub none_past : {A : Type 0} (xs : List A) (i : ℕ) → slice_get xs i ≡ None → length xs ≤ i
none_past [] i h = omega arith
none_past (x ∷ xs) zero h = absurd cc
none_past (x ∷ xs) (suc i) h = let rest : length xs ≤ i = none_past xs i h in omega arith

-- ---- links

-- the links that were read before, and those that are still read
abbrev pub with_links : List Link → Option (List Link) → Option (List Link)
with_links front read = read >>= λ y. Some (front ++ y)

regroup_links : (front : List Link) (l : Link) (read : Option (List Link)) → with_links front (read >>= λ y. Some (l ∷ y)) ≡ with_links (front ++ l ∷ []) read
regroup_links front l None = refl
regroup_links front l (Some y) = ap Some (sym (append_assoc front (l ∷ []) y))

pub links_begin : (read : Option (List Link)) → with_links [] read ≡ read
links_begin None = refl
links_begin (Some y) = refl

in_list : (names : Names) (o : Option LinkTree) (l : Link) → link_in names o ≡ Some l → (x : LinkTree) × (o ≡ Some x) × (link_of names x ≡ Some l)
in_list names (Some x) l e = (x, refl, e)
in_list names None l e = absurd cc

pub links_go : (front : List Link) (names : Names) (all : List LinkTree) (i : ℕ) (l : Link) (total : Option (List Link)) → link_in names (slice_get all i) ≡ Some l
    → with_links front (links_of names (link_list (drop i all))) ≡ total → with_links (front ++ l ∷ []) (links_of names (link_list (drop (i + 1) all))) ≡ total
links_go front names all i l total h so_far =
    let x = in_list names (slice_get all i) l h in
    let one : with_links front (links_of names (link_list (drop i all))) ≡ with_links (front ++ l ∷ []) (links_of names (link_list (drop (i + 1) all))) = rw (drop_at all i x.0 x.1, x.2) (regroup_links front l (links_of names (link_list (drop (i + 1) all)))) in
    sym one ∙ so_far

no_link : (names : Names) (o : Option LinkTree) (all : List LinkTree) (i : ℕ) → o ≡ slice_get all i → i < length all → link_in names o ≡ None → links_of names (link_list (drop i all)) ≡ None
no_link names (Some x) all i same lt e = rw (drop_at all i x (sym same), e) refl
no_link names None all i same lt e = absurd (omega (arith, none_past all i (sym same)))

pub links_fail : (front : List Link) (names : Names) (all : List LinkTree) (i n : ℕ) (total : Option (List Link)) → n ≡ length all → i < n → link_in names (slice_get all i) ≡ None
    → with_links front (links_of names (link_list (drop i all))) ≡ total → total ≡ None
links_fail front names all i n total count lt h so_far =
    let one : with_links front (links_of names (link_list (drop i all))) ≡ None = rw (no_link names (slice_get all i) all i refl (omega (arith, count)) h) refl in
    sym so_far ∙ one

pub links_out : (front : List Link) (names : Names) (all : List LinkTree) (i : ℕ) (total : Option (List Link)) → length all ≤ i
    → with_links front (links_of names (link_list (drop i all))) ≡ total → total ≡ Some front
links_out front names all i total le so_far =
    let one : with_links front (links_of names (link_list (drop i all))) ≡ Some front = rw (drop_all i all le) (ap Some (append-nil front)) in
    sym so_far ∙ one

pub ruleset linking = (links_go, links_fail, links_out)

-- ---- statements

-- the steps that were read before, and those that are still read
abbrev pub with_steps : List CoreStep → Option Steps → Option Steps
with_steps front read = read >>= λ y. Some (front ++ y.0, y.1)

regroup_steps : (front : List CoreStep) (x : CoreStep) (read : Option Steps) → with_steps front (read >>= λ y. Some (x ∷ y.0, y.1)) ≡ with_steps (front ++ x ∷ []) read
regroup_steps front x None = refl
regroup_steps front x (Some y) = ap (λ (xs : List CoreStep). Some (xs, y.1)) (sym (append_assoc front (x ∷ []) y.0))

pub steps_begin : (read : Option Steps) → with_steps [] read ≡ read
steps_begin None = refl
steps_begin (Some y) = refl

in_body : (names : Names) (k : ℕ) (o : Option StmtTree) (x : Stepped) → statement_in names k o ≡ Some x → (s : StmtTree) × (o ≡ Some s) × (statement_of names (k + 1) s ≡ Some x)
in_body names k (Some s) x e = (s, refl, e)
in_body names k None x e = absurd cc

pub steps_go : (front : List CoreStep) (names after : Names) (all : List StmtTree) (i : ℕ) (x : CoreStep) (total : Option Steps) → statement_in names i (slice_get all i) ≡ Some (x, after) → is_return x ≡ false
    → with_steps front (steps_of names i (drop i all)) ≡ total → with_steps (front ++ x ∷ []) (steps_of after (i + 1) (drop (i + 1) all)) ≡ total
steps_go front names after all i x total h r so_far =
    let s = in_body names i (slice_get all i) (x, after) h in
    let one : with_steps front (steps_of names i (drop i all)) ≡ with_steps (front ++ x ∷ []) (steps_of after (i + 1) (drop (i + 1) all)) = rw (drop_at all i s.0 s.1, s.2, r) (regroup_steps front x (steps_of after (i + 1) (drop (i + 1) all))) in
    sym one ∙ so_far

pub steps_stop : (front : List CoreStep) (names after : Names) (all : List StmtTree) (i : ℕ) (x : CoreStep) (total : Option Steps) → statement_in names i (slice_get all i) ≡ Some (x, after) → is_return x ≡ true → length all ≤ i + 1
    → with_steps front (steps_of names i (drop i all)) ≡ total → total ≡ Some (front ++ x ∷ [], length after)
steps_stop front names after all i x total h r le so_far =
    let s = in_body names i (slice_get all i) (x, after) h in
    let one : with_steps front (steps_of names i (drop i all)) ≡ Some (front ++ x ∷ [], length after) = rw (drop_at all i s.0 s.1, s.2, r, drop_all (i + 1) all le) refl in
    sym so_far ∙ one

pub steps_more : (front : List CoreStep) (names after : Names) (all : List StmtTree) (i : ℕ) (x : CoreStep) (total : Option Steps) → statement_in names i (slice_get all i) ≡ Some (x, after) → is_return x ≡ true → i + 1 < length all
    → with_steps front (steps_of names i (drop i all)) ≡ total → total ≡ None
steps_more front names after all i x total h r lt so_far =
    let s = in_body names i (slice_get all i) (x, after) h in
    let one : with_steps front (steps_of names i (drop i all)) ≡ None = rw (drop_at all i s.0 s.1, s.2, r, drop-cons all (i + 1) s.0 lt) refl in
    sym so_far ∙ one

no_step : (names : Names) (o : Option StmtTree) (all : List StmtTree) (i : ℕ) → o ≡ slice_get all i → statement_in names i o ≡ None → steps_of names i (drop i all) ≡ None
no_step names (Some s) all i same e = rw (drop_at all i s (sym same), e) refl
no_step names None all i same e = rw (drop_all i all (none_past all i (sym same))) refl

pub steps_fail : (e : Stop) (front : List CoreStep) (names : Names) (all : List StmtTree) (i : ℕ) (total : Option Steps) → Fails e (statement_in names i (slice_get all i))
    → with_steps front (steps_of names i (drop i all)) ≡ total → Fails e total
steps_fail stops.Memory front names all i total h so_far = tt
steps_fail stops.Other front names all i total h so_far =
    let one : with_steps front (steps_of names i (drop i all)) ≡ None = rw (no_step names (slice_get all i) all i refl h) refl in
    sym so_far ∙ one
