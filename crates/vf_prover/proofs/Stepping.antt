-- Paths along the nodes of a trail.
use Rattle.std.proofs.Common.{◌≡◌, ◌≤◌, ◌<◌, ◌+◌, ◌-◌, ℕ, zero, suc, List, [], ◌∷◌, ◌++◌, length, map, take, reverse, get_or, Bool, Some, nat_le, refl, sym, ap, ap₂, ◌∙◌, subst, arith, add-one}
use Rattle.std.specs.List.{AllZip}
use Rattle.std.specs.Prelude.{option_map, slice_get, slice_index, IsTrue, ◌↔◌}
use Rattle.std.proofs.lemmas.Bool.{leb-true, le-leb}
use Rattle.std.proofs.lemmas.List.{length-append, length_push, length-map, length-take-le, map_push, reverse-append}
use Rattle.std.proofs.Math.Seq.{take-append_seam}
use Rattle.vf_trail.specs.declared.node.Node.{Node}
use Rattle.vf_trail.specs.Trail.{path_of}
use Rattle.vf_trail.proofs.Paths.{path_kept, path_root}
use Rattle.vf_closure.specs.Closure.{Unfoldings}
use Rattle.vf_formula.specs.declared.literal.Literal as declared
use Rattle.vf_formula.specs.Literals.{shown_literal}
use Rattle.vf_unfolding.specs.Rounds.{AreEnough}
use Rattle.vf_unfolding.specs.Walked.{Stand, Walked}
use Rattle.vf_unfolding.proofs.Marks.{no_fewer_terms}
use Rattle.vf_definitions.specs.declared.fixpoint.Fixpoint.{Fixpoint}
use Rattle.vf_definitions.specs.Unfolded.{unfoldings_of}
use Rattle.vf_question.specs.Numbered.{terms_of}
use Rattle.vf_question.specs.declared.numbering.TheConstants.{MOST_TERMS}
use Rattle.vf_question.specs.Plain.{IsPlainLiteral}
use Rattle.vf_asking.specs.Plain.{is_plain_literal}
use Rattle.vf_asking.specs.Journal.{path_to}
use Rattle.vf_asking.specs.Whole.{ArePlainFacts}
use Rattle.vf_asking.proofs.Testing.{plain_literals_decide}
use Rattle.vf_prover.specs.Held.{last_definitions}
use Rattle.vf_prover.specs.Along.{from_root, IsChild, LeadTo, IsStandAt, stands, IsAlong, HasCome, StandBy, IsStanding}

-- ---- lists that go together
module _ {A B : Type 0} (R : A → B → Type 0) where
  pub zip_push : (xs : List A) (ys : List B) (x : A) (y : B) → AllZip R xs ys → R x y → AllZip R (xs ++ x ∷ []) (ys ++ y ∷ [])
  zip_push [] [] x y h r = (r, tt)
  zip_push [] (z ∷ zs) x y h r = absurd h
  zip_push (z ∷ zs) [] x y h r = absurd h
  zip_push (w ∷ ws) (z ∷ zs) x y h r = (h.0, zip_push ws zs x y h.1 r)

  pub zip_pop : (xs : List A) (ys : List B) (x : A) (y : B) → AllZip R (xs ++ x ∷ []) (ys ++ y ∷ []) → AllZip R xs ys
  zip_pop [] [] x y h = tt
  zip_pop [] (z ∷ []) x y h = absurd h.1
  zip_pop [] (z ∷ w ∷ ws) x y h = absurd h.1
  zip_pop (w ∷ []) [] x y h = absurd h.1
  zip_pop (w ∷ v ∷ vs) [] x y h = absurd h.1
  zip_pop (w ∷ ws) (z ∷ zs) x y h = (h.0, zip_pop ws zs x y h.1)

  pub zip_last : (xs : List A) (ys : List B) (x : A) (y : B) → AllZip R (xs ++ x ∷ []) (ys ++ y ∷ []) → R x y
  zip_last [] [] x y h = h.0
  zip_last [] (z ∷ []) x y h = absurd h.1
  zip_last [] (z ∷ w ∷ ws) x y h = absurd h.1
  zip_last (w ∷ []) [] x y h = absurd h.1
  zip_last (w ∷ v ∷ vs) [] x y h = absurd h.1
  zip_last (w ∷ ws) (z ∷ zs) x y h = zip_last ws zs x y h.1

  pub zip_long : (xs : List A) (ys : List B) → AllZip R xs ys → length xs ≡ length ys
  zip_long [] [] h = refl
  zip_long [] (y ∷ ys) h = absurd h
  zip_long (x ∷ xs) [] h = absurd h
  zip_long (x ∷ xs) (y ∷ ys) h = let r = zip_long xs ys h.1 in omega arith

pub zip_other : {A B : Type 0} (R S : A → B → Type 0) → ((x : A) (y : B) → R x y → S x y) → (xs : List A) (ys : List B) → AllZip R xs ys → AllZip S xs ys
zip_other R S f [] [] h = tt
zip_other R S f [] (y ∷ ys) h = absurd h
zip_other R S f (x ∷ xs) [] h = absurd h
zip_other R S f (x ∷ xs) (y ∷ ys) h = (f x y h.0, zip_other R S f xs ys h.1)

-- a list that is not empty and its last
pub record EndsIn {X : Type 0} (xs : List X) : Type 0 where
  pub front : List X
  pub last : X
  pub is : xs ≡ front ++ last ∷ []

pub ends_with : {X : Type 0} (x : X) (xs : List X) → EndsIn (x ∷ xs)
ends_with x [] = record { front = []; last = x; is = refl }
ends_with x (y ∷ ys) = let r = ends_with y ys in record { front = x ∷ r.front; last = r.last; is = ap (λ zs. x ∷ zs) r.is }

last_at : {X : Type 0} (xs : List X) (x d : X) → get_or (xs ++ x ∷ []) (length xs) d ≡ x
last_at [] x d = refl
last_at (y ∷ ys) x d = last_at ys x d

-- ---- more facts of the trail
pub stand_stays : (u : Unfoldings) (facts more : List (ℕ × declared.Literal)) (n : ℕ) (s : Stand) → IsStandAt u facts n s → IsStandAt u (facts ++ more) n s
stand_stays u facts more n s h = record {
  there = let l = length-append facts more in let t = h.there in omega arith;
  facts = h.facts ∙ sym (ap (map shown_literal) (path_kept facts more n h.there));
  enough = h.enough;
}

pub along_stays : (u : Unfoldings) (facts more : List (ℕ × declared.Literal)) (nodes : List Node) (w : Walked) → IsAlong u facts nodes w → IsAlong u (facts ++ more) nodes w
along_stays u facts more nodes w h = zip_other (IsStandAt u facts) (IsStandAt u (facts ++ more)) (stand_stays u facts more) (from_root nodes) (stands w) h

-- ---- back
pub as_many_levels : (u : Unfoldings) (facts : List (ℕ × declared.Literal)) (nodes : List Node) (w : Walked) → IsAlong u facts nodes w → length w.levels ≡ length nodes
as_many_levels u facts nodes w h = let l = zip_long (IsStandAt u facts) (from_root nodes) (stands w) h in let m = length-map nodes (λ (n : Node). n.number) in let k = length_push w.levels w.now in omega arith

pub goes_back : (u : Unfoldings) (facts : List (ℕ × declared.Literal)) (nodes front : List Node) (last : Node) (w v : Walked) → nodes ≡ front ++ last ∷ []
    → ((before : List Stand) (level : Stand) → w.levels ≡ before ++ level ∷ [] → (v.levels ≡ before) × (v.now ≡ level)) → IsAlong u facts nodes w → IsAlong u facts front v
goes_back u facts nodes front last w v e popped h = by_levels w.levels refl
  where
    roots : from_root nodes ≡ from_root front ++ last.number ∷ []
    roots = ap from_root e ∙ ap (λ ks. 0 ∷ ks) (map_push (λ (n : Node). n.number) front last)

    whole : AllZip (IsStandAt u facts) (from_root front ++ last.number ∷ []) (stands w)
    whole = subst (λ ks. AllZip (IsStandAt u facts) ks (stands w)) roots h

    by_levels : (ls : List Stand) → w.levels ≡ ls → IsAlong u facts front v
    by_levels [] q = let m = as_many_levels u facts nodes w h in let k = ap length e ∙ length_push front last in absurd (let z = ap length q in omega arith)
    by_levels (l ∷ ls) q =
        let r = ends_with l ls in
        let p = popped r.front r.last (q ∙ r.is) in
        subst (AllZip (IsStandAt u facts) (from_root front)) (ap₂ (λ (bs : List Stand) (s : Stand). bs ++ s ∷ []) (sym p.0) (sym p.1))
        (zip_pop (IsStandAt u facts) (from_root front) (r.front ++ r.last ∷ []) last.number w.now (subst (λ bs. AllZip (IsStandAt u facts) (from_root front ++ last.number ∷ []) (bs ++ w.now ∷ [])) (q ∙ r.is) whole))

-- ---- where a path stands
module _ (u : Unfoldings) (facts : List (ℕ × declared.Literal)) (nodes : List Node) (w : Walked) (h : IsAlong u facts nodes w) where
  here : EndsIn (from_root nodes)
  here = ends_with 0 (map (λ (n : Node). n.number) nodes)

  here_is : slice_index (from_root nodes) (length nodes) ≡ here.last
  here_is =
      let l = length-map nodes (λ (n : Node). n.number) in
      let k : length (from_root nodes) ≡ length here.front + 1 = ap length here.is ∙ length_push here.front here.last in
      let j : length nodes ≡ length here.front = omega arith in
      ap (λ ks. slice_index ks (length nodes)) here.is ∙ ap (slice_index (here.front ++ here.last ∷ [])) j ∙ last_at here.front here.last 0

  pub stands_here : IsStandAt u facts (slice_index (from_root nodes) (length nodes)) w.now
  stands_here = subst (λ n. IsStandAt u facts n w.now) (sym here_is) (zip_last (IsStandAt u facts) here.front w.levels here.last w.now (subst (λ ks. AllZip (IsStandAt u facts) ks (stands w)) here.is h))

-- ---- on
pub goes_on : (u : Unfoldings) (facts : List (ℕ × declared.Literal)) (nodes now : List Node) (node : Node) (fact : declared.Literal) (w v : Walked) → now ≡ nodes ++ node ∷ [] → IsAlong u facts nodes w → node.number ≤ length facts
    → path_of facts node.number ≡ path_of facts (slice_index (from_root nodes) (length nodes)) ++ fact ∷ [] → v.levels ≡ w.levels ++ w.now ∷ [] → v.now.facts ≡ w.now.facts ++ shown_literal fact ∷ [] → AreEnough u v.now.facts v.now.made → IsAlong u facts now v
goes_on u facts nodes now node fact w v e h there step levels added enough =
    let s = stands_here u facts nodes w h in
    let new : IsStandAt u facts node.number v.now = record {
      there = there;
      facts = added ∙ ap (λ ls. ls ++ shown_literal fact ∷ []) s.facts ∙ sym (ap (map shown_literal) step ∙ map_push shown_literal (path_of facts (slice_index (from_root nodes) (length nodes))) fact);
      enough = enough;
    } in
    subst (λ ks. AllZip (IsStandAt u facts) ks (stands v)) (sym (ap from_root e ∙ ap (λ ks. 0 ∷ ks) (map_push (λ (n : Node). n.number) nodes node)))
    (subst (λ ls. AllZip (IsStandAt u facts) (from_root nodes ++ node.number ∷ []) (ls ++ v.now ∷ [])) (sym levels) (zip_push (IsStandAt u facts) (from_root nodes) (stands w) node.number v.now h new))

pub at_root : (u : Unfoldings) (facts : List (ℕ × declared.Literal)) (nodes : List Node) (w : Walked) → nodes ≡ [] → w.now.facts ≡ [] → w.levels ≡ [] → AreEnough u w.now.facts w.now.made → IsAlong u facts nodes w
at_root u facts nodes w n f l enough =
    let s : IsStandAt u facts 0 w.now = record { there = omega arith; facts = f ∙ sym (ap (map shown_literal) (path_root facts)); enough = enough } in
    subst (λ ns. IsAlong u facts ns w) (sym n) (subst (λ ls. AllZip (IsStandAt u facts) (0 ∷ []) (ls ++ w.now ∷ [])) (sym l) (s, tt))

-- ---- lines of nodes

-- nodes lead from one to another
abbrev pub IsLine : List (ℕ × declared.Literal) → ℕ → List Node → ℕ → Type 0
IsLine facts p [] q = p ≡ q
IsLine facts p (n ∷ ns) q = IsChild facts p n.number × IsLine facts n.number ns q

line_linked : (facts : List (ℕ × declared.Literal)) (p : ℕ) (ns : List Node) (q : ℕ) → IsLine facts p ns q → (k : ℕ) → k < length ns → IsChild facts (slice_index (p ∷ map (λ (n : Node). n.number) ns) k) (slice_index (p ∷ map (λ (n : Node). n.number) ns) (suc k))
line_linked facts p [] q h k l = absurd (omega arith)
line_linked facts p (n ∷ ns) q h zero l = h.0
line_linked facts p (n ∷ ns) q h (suc k) l = line_linked facts n.number ns q h.1 k (omega arith)

line_ends : (facts : List (ℕ × declared.Literal)) (p : ℕ) (ns : List Node) (q : ℕ) → IsLine facts p ns q → slice_index (p ∷ map (λ (n : Node). n.number) ns) (length ns) ≡ q
line_ends facts p [] q h = h
line_ends facts p (n ∷ ns) q h = line_ends facts n.number ns q h.1

pub line_leads : (facts : List (ℕ × declared.Literal)) (nodes : List Node) (p q : ℕ) → p ≡ 0 → IsLine facts p nodes q → LeadTo facts nodes q
line_leads facts nodes p q z h =
    let k = subst (λ r. IsLine facts r nodes q) z h in record {
      linked = λ i l. rw add-one (line_linked facts 0 nodes q k i l);
      ends = line_ends facts 0 nodes q k;
    }

-- a node that is passed on the way up
pub line_up : (facts : List (ℕ × declared.Literal)) (seen now : List Node) (node parent : Node) (q : ℕ) → now ≡ seen ++ node ∷ [] → IsChild facts parent.number node.number → IsLine facts node.number (reverse seen) q → IsLine facts parent.number (reverse now) q
line_up facts seen now node parent q e c h = subst (λ ns. IsLine facts parent.number ns q) (sym (ap reverse e ∙ reverse-append seen (node ∷ []))) (c, h)

-- the front of a line is where the whole is
front_at : (p : ℕ) (ns : List Node) (i k : ℕ) → i ≤ length ns → k ≤ i → slice_index (p ∷ map (λ (x : Node). x.number) (take i ns)) k ≡ slice_index (p ∷ map (λ (x : Node). x.number) ns) k
front_at p ns i zero l m = refl
front_at p [] i (suc k) l m = absurd (omega arith)
front_at p (n ∷ ns) zero (suc k) l m = absurd (omega arith)
front_at p (n ∷ ns) (suc i) (suc k) l m = front_at n.number ns i k (omega arith) (omega arith)

number_at : (p : ℕ) (ns : List Node) (i : ℕ) (n : Node) → i < length ns → n ≡ get_or ns i n → slice_index (p ∷ map (λ (x : Node). x.number) ns) (suc i) ≡ n.number
number_at p [] i n l e = absurd (omega arith)
number_at p (m ∷ ms) zero n l e = ap (λ (x : Node). x.number) (sym e)
number_at p (m ∷ ms) (suc i) n l e = number_at m.number ms i n (omega arith) e

-- the next node of a line hangs on the last of its front
pub next_child : (facts : List (ℕ × declared.Literal)) (line nodes : List Node) (i : ℕ) (n : Node) → ((k : ℕ) → k < length line → IsChild facts (slice_index (from_root line) k) (slice_index (from_root line) (k + 1)))
    → nodes ≡ take i line → i < length line → length nodes ≡ i → n ≡ get_or line i n → IsChild facts (slice_index (from_root nodes) (length nodes)) n.number
next_child facts line nodes i n linked e l long is =
    let k = linked i l in
    let c : IsChild facts (slice_index (from_root line) i) (slice_index (from_root line) (suc i)) = rw add-one at k in
    subst (λ p. IsChild facts p n.number) (sym (ap (slice_index (from_root nodes)) long ∙ ap (λ ns. slice_index (from_root ns) i) e ∙ front_at 0 line i i (omega arith) (omega arith)))
    (subst (IsChild facts (slice_index (from_root line) i)) (number_at 0 line i n l is) c)

-- ---- terms along a line of nodes

-- what stands at a place of a trail
record HasRow (facts : List (ℕ × declared.Literal)) (k : ℕ) : Type 0 where
  fact : declared.Literal
  is : option_map (λ row. row.1) (slice_get facts k) ≡ Some fact

row_at : (facts : List (ℕ × declared.Literal)) (k : ℕ) → k < length facts → HasRow facts k
row_at [] k l = absurd (omega arith)
row_at (r ∷ rs) zero l = record { fact = r.1; is = refl }
row_at (r ∷ rs) (suc k) l = let f = row_at rs k (omega arith) in record { fact = f.fact; is = f.is }

-- a node has no fewer terms than the one that it hangs on
child_terms : (facts : List (ℕ × declared.Literal)) (p n : ℕ) → IsChild facts p n → length (terms_of (path_to facts p)) ≤ length (terms_of (path_to facts n))
child_terms facts p n c =
    let r = row_at facts (n - 1) (omega (arith, c.positive, c.there)) in
    let e : path_to facts n ≡ path_to facts p ++ shown_literal r.fact ∷ [] = ap (map shown_literal) (c.path r.fact r.is) ∙ map_push shown_literal (path_of facts p) r.fact in
    let l = no_fewer_terms (path_to facts p) (shown_literal r.fact ∷ []) in
    omega (arith, l, ap (λ ls. length (terms_of ls)) e)

-- the end of a line has no fewer terms than a node of it
end_terms : (facts : List (ℕ × declared.Literal)) (line : List Node) (at : ℕ) → LeadTo facts line at → (left k : ℕ) → k + left ≡ length line → length (terms_of (path_to facts (slice_index (from_root line) k))) ≤ length (terms_of (path_to facts at))
end_terms facts line at h zero k e =
    let q : k ≡ length line = omega (arith, e) in
    omega (arith, ap (λ (n : ℕ). length (terms_of (path_to facts n))) (ap (slice_index (from_root line)) q ∙ h.ends))
end_terms facts line at h (suc left) k e =
    let c = child_terms facts (slice_index (from_root line) k) (slice_index (from_root line) (k + 1)) (h.linked k (omega (arith, e))) in
    let r = end_terms facts line at h left (k + 1) (omega (arith, e)) in
    omega (arith, c, r)

module _ (u : Unfoldings) (facts : List (ℕ × declared.Literal)) (line nodes : List Node) (at : ℕ) (w : Walked) (leads : LeadTo facts line at) (along : IsAlong u facts nodes w) where
  -- at the end of the line the path has the facts of the node
  pub facts_at_end : nodes ≡ line → w.now.facts ≡ path_to facts at
  facts_at_end e = (stands_here u facts nodes w along).facts ∙ ap (path_to facts) (ap (λ ns. slice_index (from_root ns) (length ns)) e ∙ leads.ends)

  module _ (come : HasCome line nodes w) where
    its_node : slice_index (from_root nodes) (length nodes) ≡ slice_index (from_root line) come.passed
    its_node =
        let long : length nodes ≡ come.passed = ap length come.front ∙ length-take-le come.passed line come.within in
        ap (slice_index (from_root nodes)) long ∙ ap (λ ns. slice_index (from_root ns) come.passed) come.front ∙ front_at 0 line come.passed come.passed come.within (omega arith)

    -- the node has no fewer terms than where the path has come to
    no_fewer_at_end : length (terms_of w.now.facts) ≤ length (terms_of (path_to facts at))
    no_fewer_at_end =
        let e = (stands_here u facts nodes w along).facts ∙ ap (path_to facts) its_node in
        let l = end_terms facts line at leads (length line - come.passed) come.passed (omega (arith, come.within)) in
        omega (arith, l, ap (λ ls. length (terms_of ls)) e)

    -- where the path has come to tells whether the node has few terms
    pub few_at_end : (few : Bool) (count : ℕ) → few ≡ nat_le count MOST_TERMS → count ≡ length (terms_of w.now.facts) → IsTrue few ↔ length (terms_of (path_to facts at)) ≤ MOST_TERMS
    few_at_end few count e n = (
      (λ t.
          let l = leb-true count MOST_TERMS (sym e ∙ t) in
          let f = facts_at_end (come.ends (omega (arith, l, n))) in
          omega (arith, l, n, ap (λ ls. length (terms_of ls)) f)),
      (λ m. e ∙ le-leb count MOST_TERMS (omega (arith, m, n, no_fewer_at_end))),
    )

    pub facts_where_few : (few : Bool) (count : ℕ) → few ≡ nat_le count MOST_TERMS → count ≡ length (terms_of w.now.facts) → IsTrue few → w.now.facts ≡ path_to facts at
    facts_where_few few count e n t = let l = leb-true count MOST_TERMS (sym e ∙ t) in facts_at_end (come.ends (omega (arith, l, n)))

-- a fact of a trail of plain facts is plain
plain_at : (facts : List (ℕ × declared.Literal)) (k : ℕ) (fact : declared.Literal) → ArePlainFacts facts → option_map (λ row. row.1) (slice_get facts k) ≡ Some fact → IsPlainLiteral (shown_literal fact)
plain_at [] k fact h e = cc
plain_at (r ∷ rs) zero fact h e = let f : r.1 ≡ fact = cc in (plain_literals_decide (shown_literal fact)).0 (subst (λ (l : declared.Literal). IsTrue (is_plain_literal (shown_literal l))) f (h 0 r (omega arith)))
plain_at (r ∷ rs) (suc k) fact h e = plain_at rs k fact (λ i d l. h (suc i) d (omega (arith, l))) e

pub fact_plain : (facts : List (ℕ × declared.Literal)) (k : ℕ) (fact : declared.Literal) → ArePlainFacts facts → option_map (λ row. row.1) (slice_get facts k) ≡ Some fact → IsPlainLiteral (shown_literal fact)
fact_plain = plain_at

-- ---- what is kept beside the journal
pub standing_before : (units units' : List (List Fixpoint)) (facts facts' : List (ℕ × declared.Literal)) (paths : List Walked) (nodes : List Node) → units' ≡ units → facts' ≡ facts → IsStanding units facts paths nodes → IsStanding units' facts' paths nodes
standing_before units units' facts facts' paths nodes e f h = subst (λ us. IsStanding us facts' paths nodes) (sym e) (subst (λ rows. IsStanding units rows paths nodes) (sym f) h)

by_more : (u : Unfoldings) (facts more : List (ℕ × declared.Literal)) (paths : List Walked) (nodes : List Node) → StandBy u facts paths nodes → StandBy u (facts ++ more) paths nodes
by_more u facts more [] nodes h = h
by_more u facts more (w ∷ []) nodes h = along_stays u facts more nodes w h
by_more u facts more (w ∷ v ∷ vs) nodes h = h

pub standing_pushed : (units units' : List (List Fixpoint)) (facts facts' more : List (ℕ × declared.Literal)) (paths : List Walked) (nodes : List Node) → units' ≡ units → facts' ≡ facts ++ more → IsStanding units facts paths nodes → IsStanding units' facts' paths nodes
standing_pushed units units' facts facts' more paths nodes e f h =
    subst (λ us. IsStanding us facts' paths nodes) (sym e) (subst (λ rows. IsStanding units rows paths nodes) (sym f) (by_more (unfoldings_of (last_definitions units)) facts more paths nodes h))

-- at most one path is kept
pub at_most_one : (u : Unfoldings) (facts : List (ℕ × declared.Literal)) (paths : List Walked) (nodes : List Node) → StandBy u facts paths nodes → length paths ≤ 1
at_most_one u facts [] nodes h = omega arith
at_most_one u facts (w ∷ []) nodes h = omega arith
at_most_one u facts (w ∷ v ∷ vs) nodes h = absurd h

-- and the last is the one
pub the_one : (u : Unfoldings) (facts : List (ℕ × declared.Literal)) (paths front : List Walked) (nodes : List Node) (w : Walked) → paths ≡ front ++ w ∷ [] → StandBy u facts paths nodes → IsAlong u facts nodes w
the_one u facts paths [] nodes w e h = subst (λ (ws : List Walked). StandBy u facts ws nodes) e h
the_one u facts paths (v ∷ vs) nodes w e h = let l = at_most_one u facts paths nodes h in let k = ap length e in let m = length_push vs w in absurd (omega arith)

pub none_left : (paths front : List Walked) (w : Walked) → paths ≡ front ++ w ∷ [] → length paths ≤ 1 → front ≡ []
none_left paths [] w e l = refl
none_left paths (v ∷ vs) w e l = let k = ap length e in let m = length_push vs w in absurd (omega arith)

-- ---- a list without its last
pub record IsLast {X : Type 0} (xs now : List X) : Type 0 where
  pub last : X
  pub is : xs ≡ now ++ last ∷ []

pub popped_last : {X : Type 0} (xs now : List X) → 0 < length xs → now ≡ take (length xs - 1) xs → IsLast xs now
popped_last [] now l e = absurd (omega arith)
popped_last (x ∷ xs) now l e =
    let r = ends_with x xs in
    let k : length (x ∷ xs) - 1 ≡ length r.front = omega (arith, ap length r.is, length_push r.front r.last) in
    let f : now ≡ r.front = e ∙ ap (λ n. take n (x ∷ xs)) k ∙ ap (take (length r.front)) r.is ∙ take-append_seam r.front (r.last ∷ []) in
    record { last = r.last; is = r.is ∙ ap (λ ys. ys ++ r.last ∷ []) (sym f) }

pub one_level_less : (w v : Walked) (n : ℕ) → ((before : List Stand) (level : Stand) → w.levels ≡ before ++ level ∷ [] → (v.levels ≡ before) × (v.now ≡ level)) → length w.levels ≡ n + 1 → length v.levels ≡ n
one_level_less w v n popped e = by_levels w.levels refl
  where
    by_levels : (ls : List Stand) → w.levels ≡ ls → length v.levels ≡ n
    by_levels [] q = let k = ap length q in absurd (omega (arith, e, k))
    by_levels (l ∷ ls) q =
        let r = ends_with l ls in
        let p = popped r.front r.last (q ∙ r.is) in
        omega (arith, e, ap length p.0, ap length (q ∙ r.is), length_push r.front r.last)
