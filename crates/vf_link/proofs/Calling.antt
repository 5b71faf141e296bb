-- Calls of lemmas by their names and by the places where these are mentioned first.
use Rattle.std.proofs.Common.{◌≡◌, ◌⊎◌, ℕ, ◌<◌, Bool, true, List, [], ◌∷◌, ◌++◌, length, map, take, drop, get_or, Option, refl, sym, ap, subst, ◌∙◌, arith}
use Rattle.std.specs.Prelude.{Contains, ◌==◌, filter, slice_index}
use Rattle.std.proofs.lemmas.Bool.Decides.{Decides-eqb}
use Rattle.std.proofs.lemmas.List.{length-map, map-append, take_at, drop_at, get_or-map}
use Rattle.std.proofs.lemmas.List.Elements.{Contains-append_cases, Contains-append_left, Contains-append_right}
use Rattle.vf_cycles.specs.Reaching.{Way, Reaches}
use Rattle.vf_cycles.specs.Graphs.{Edge, AreEdges, MarksCycles, HasNoCycle, EachOnce, IsOrder}
use Rattle.vf_cycles.proofs.Ways.{carried}
use Rattle.vf_manifest.specs.declared.line.Line.{Line}
use Rattle.vf_link.specs.declared.statement.Topic.TheVariants.{Calls}
use Rattle.vf_link.specs.Statements.{Statement}
use Rattle.vf_link.specs.Statements.{statements, subjects, contents, place}
use Rattle.vf_link.specs.Least.{HasNone, IsLeastOf, IsMarkedText}
use Rattle.vf_link.specs.Linking.{CallsItself, IsCallOrder}
use Rattle.vf_link.proofs.Lists.{contains_at, at_place, in_map, from_map, from_filter, in_filter, once_filter, once_map, map_parts, filter_parts}
use Rattle.vf_link.proofs.Places.{place_within, place_is}
use Rattle.vf_link.proofs.Stated.{nothing, subject_at, content_at}
use Rattle.vf_link.proofs.Leasts.{same_least}

-- the callers and the lemmas that are called, by name, and by the places where these are mentioned first
abbrev pub names : List Statement → List (List ℕ)
names xs = subjects xs ++ contents xs

abbrev pub callers : List Statement → List ℕ
callers xs = map (place (names xs)) (subjects xs)

abbrev pub callees : List Statement → List ℕ
callees xs = map (place (names xs)) (contents xs)

abbrev pub Call : List Statement → List ℕ → List ℕ → Type 0
Call xs a b = Contains xs (record { subject = a; content = b })

-- the name with a number
abbrev pub named : List Statement → ℕ → List ℕ
named xs u = get_or (names xs) u []

module _ (xs : List Statement) where
  pub callers_are : take (length (subjects xs)) (map (place (names xs)) (names xs)) ≡ callers xs
  callers_are =
      ap (take (length (subjects xs))) (map-append (place (names xs)) (subjects xs) (contents xs))
      ∙ take_at (callers xs) (callees xs) (length (subjects xs)) (length-map (subjects xs) (place (names xs)))

  pub callees_are : drop (length (subjects xs)) (map (place (names xs)) (names xs)) ≡ callees xs
  callees_are =
      ap (drop (length (subjects xs))) (map-append (place (names xs)) (subjects xs) (contents xs))
      ∙ drop_at (callers xs) (callees xs) (length (subjects xs)) (length-map (subjects xs) (place (names xs)))

  caller_in : (k : ℕ) → k < length xs → Contains (names xs) (get_or xs k nothing).subject
  caller_in k within = Contains-append_left (subjects xs) (contents xs) (get_or xs k nothing).subject
      (contains_at (subjects xs) k (get_or xs k nothing).subject [] (subst (λ n. k < n) (sym (length-map xs (λ s. s.subject))) within) (subject_at xs k))

  callee_in : (k : ℕ) → k < length xs → Contains (names xs) (get_or xs k nothing).content
  callee_in k within = Contains-append_right (subjects xs) (contents xs) (get_or xs k nothing).content
      (contains_at (contents xs) k (get_or xs k nothing).content [] (subst (λ n. k < n) (sym (length-map xs (λ s. s.content))) within) (content_at xs k))

  many_callers : length (callers xs) ≡ length xs
  many_callers = length-map (subjects xs) (place (names xs)) ∙ length-map xs (λ s. s.subject)

  many_callees : length (callees xs) ≡ length xs
  many_callees = length-map (contents xs) (place (names xs)) ∙ length-map xs (λ s. s.content)

  caller_at : (k : ℕ) → k < length xs → slice_index (callers xs) k ≡ place (names xs) (get_or xs k nothing).subject
  caller_at k within = get_or-map (place (names xs)) (subjects xs) k [] 0 (subst (λ n. k < n) (sym (length-map xs (λ s. s.subject))) within) ∙ ap (place (names xs)) (subject_at xs k)

  callee_at : (k : ℕ) → k < length xs → slice_index (callees xs) k ≡ place (names xs) (get_or xs k nothing).content
  callee_at k within = get_or-map (place (names xs)) (contents xs) k [] 0 (subst (λ n. k < n) (sym (length-map xs (λ s. s.content))) within) ∙ ap (place (names xs)) (content_at xs k)

  pub are_edges : AreEdges (length (names xs)) (callers xs) (callees xs)
  are_edges = record {
    pairs = many_callers ∙ sym many_callees;
    begin = λ k b. let within = subst (λ n. k < n) many_callers b in
        subst (λ u. u < length (names xs)) (sym (caller_at k within)) (place_within (names xs) (get_or xs k nothing).subject (caller_in k within));
    end = λ k b. let within = subst (λ n. k < n) many_callees b in
        subst (λ u. u < length (names xs)) (sym (callee_at k within)) (place_within (names xs) (get_or xs k nothing).content (callee_in k within));
  }

  -- an edge is a call, and a call an edge
  call_of_edge : (u w : ℕ) → Edge (callers xs) (callees xs) u w → Call xs (named xs u) (named xs w)
  call_of_edge u w e =
      let within : e.at < length xs = subst (λ n. e.at < n) many_callers e.within in
      let s = get_or xs e.at nothing in
      let from : s.subject ≡ named xs u = sym (place_is (names xs) s.subject [] (caller_in e.at within)) ∙ ap (named xs) (sym (caller_at e.at within) ∙ e.begins) in
      let to : s.content ≡ named xs w = sym (place_is (names xs) s.content [] (callee_in e.at within)) ∙ ap (named xs) (sym (callee_at e.at within) ∙ e.ends) in
      let same : s ≡ record { subject = named xs u; content = named xs w } = λ i. record { subject = from i; content = to i } in
      contains_at xs e.at (record { subject = named xs u; content = named xs w }) nothing within same

  edge_of_call : (a b : List ℕ) → Call xs a b → Edge (callers xs) (callees xs) (place (names xs) a) (place (names xs) b)
  edge_of_call a b c =
      let is = at_place xs (record { subject = a; content = b }) nothing c in
      record {
        at = c.0;
        within = subst (λ n. c.0 < n) (sym many_callers) c.1;
        begins = caller_at c.0 c.1 ∙ ap (λ (s : Statement). place (names xs) s.subject) is;
        ends = callee_at c.0 c.1 ∙ ap (λ (s : Statement). place (names xs) s.content) is;
      }

  call_in : (a b : List ℕ) → Call xs a b → Contains (names xs) a × Contains (names xs) b
  call_in a b c =
      let is = at_place xs (record { subject = a; content = b }) nothing c in (
        subst (λ t. Contains (names xs) t) (ap (λ (s : Statement). s.subject) is) (caller_in c.0 c.1),
        subst (λ t. Contains (names xs) t) (ap (λ (s : Statement). s.content) is) (callee_in c.0 c.1),
      )

  first_in : (a b : List ℕ) (through : List (List ℕ)) → Way (Call xs) a through b → Contains (names xs) a
  first_in a b [] w = (call_in a b w).0
  first_in a b (c ∷ cs) w = (call_in a c w.0).0

  pub itself_from_mark : (marks : List Bool) → MarksCycles (length (names xs)) (callers xs) (callees xs) marks → (x : List ℕ) → IsMarkedText Calls (names xs) marks x → Reaches (Call xs) x x
  itself_from_mark marks m x k =
      subst (λ t. Reaches (Call xs) t t) (sym k.is) (carried (Edge (callers xs) (callees xs)) (Call xs) (named xs) call_of_edge k.at k.at (m.reach k.at k.marked))

  pub mark_from_itself : (marks : List Bool) → MarksCycles (length (names xs)) (callers xs) (callees xs) marks → (x : List ℕ) → Reaches (Call xs) x x → IsMarkedText Calls (names xs) marks x
  mark_from_itself marks m x r =
      let c = first_in x x r.through r.way in
      let within = place_within (names xs) x c in
      record {
        at = place (names xs) x;
        within = within;
        marked = m.each (place (names xs) x) within (carried (Call xs) (Edge (callers xs) (callees xs)) (place (names xs)) edge_of_call x x r);
        is = sym (place_is (names xs) x [] c);
      }

  pub no_cycle : HasNone (λ x. Reaches (Call xs) x x) → HasNoCycle (callers xs) (callees xs)
  no_cycle none u r = none (named xs u) (carried (Edge (callers xs) (callees xs)) (Call xs) (named xs) call_of_edge u u r)

  -- ---- the order

  -- a number is that of the place where its name is mentioned first
  abbrev is_first : ℕ → Bool
  is_first u = slice_index (map (place (names xs)) (names xs)) u == u

  -- the names of the numbers in an order, each where it is mentioned first
  abbrev pub ordered : List ℕ → List (List ℕ)
  ordered order = map (λ u. get_or (names xs) u []) (filter (λ u. slice_index (map (place (names xs)) (names xs)) u == u) order)

  first_is : (u : ℕ) → u < length (names xs) → is_first u ≡ true → place (names xs) (named xs u) ≡ u
  first_is u within h = sym (get_or-map (place (names xs)) (names xs) u [] 0 within) ∙ (Decides-eqb (slice_index (map (place (names xs)) (names xs)) u) u).0 h

  place_first : (t : List ℕ) → Contains (names xs) t → is_first (place (names xs) t) ≡ true
  place_first t c = (Decides-eqb (slice_index (map (place (names xs)) (names xs)) (place (names xs) t)) (place (names xs) t)).1
      (get_or-map (place (names xs)) (names xs) (place (names xs) t) [] 0 (place_within (names xs) t c) ∙ ap (place (names xs)) (place_is (names xs) t [] c))

  in_order : (order : List ℕ) → IsOrder (length (names xs)) (callers xs) (callees xs) order → (t : List ℕ) → Contains (names xs) t → Contains (ordered order) t
  in_order order o t c =
      subst (λ s. Contains (ordered order) s) (place_is (names xs) t [] c)
      (in_map (λ u. get_or (names xs) u []) (filter is_first order) (place (names xs) t)
      (in_filter is_first order (place (names xs) t) (o.each (place (names xs) t) (place_within (names xs) t c)) (place_first t c)))

  pub is_call_order : (order : List ℕ) → IsOrder (length (names xs)) (callers xs) (callees xs) order
      → (calls : (x : List ℕ) → Contains (ordered order) x → Contains (subjects xs) x ⊎ Contains (contents xs) x)
      × (callers : (x : List ℕ) → Contains (subjects xs) x → Contains (ordered order) x)
      × (callees : (x : List ℕ) → Contains (contents xs) x → Contains (ordered order) x)
      × (once : EachOnce (ordered order))
      × ((before after : List (List ℕ)) (a b : List ℕ) → ordered order ≡ before ++ a ∷ after → Call xs a b → Contains before b)
  is_call_order order o = (from_names, callers_in, callees_in, once, back)
    where
      numbered : (x : List ℕ) → Contains (ordered order) x → (u : ℕ) × (u < length (names xs)) × (named xs u ≡ x)
      numbered x c =
          let r = from_map (λ u. get_or (names xs) u []) (filter is_first order) x c in
          (r.0, o.nodes r.0 (from_filter is_first order r.0 r.1).0, r.2)

      from_names : (x : List ℕ) → Contains (ordered order) x → Contains (subjects xs) x ⊎ Contains (contents xs) x
      from_names x c = let n = numbered x c in Contains-append_cases (subjects xs) (contents xs) x (contains_at (names xs) n.0 x [] n.1 n.2)

      callers_in : (x : List ℕ) → Contains (subjects xs) x → Contains (ordered order) x
      callers_in x c = in_order order o x (Contains-append_left (subjects xs) (contents xs) x c)

      callees_in : (x : List ℕ) → Contains (contents xs) x → Contains (ordered order) x
      callees_in x c = in_order order o x (Contains-append_right (subjects xs) (contents xs) x c)

      same_number : (u w : ℕ) → Contains (filter is_first order) u → Contains (filter is_first order) w → named xs u ≡ named xs w → u ≡ w
      same_number u w cu cw same =
          let fu = from_filter is_first order u cu in
          let fw = from_filter is_first order w cw in
          sym (first_is u (o.nodes u fu.0) fu.1) ∙ ap (place (names xs)) same ∙ first_is w (o.nodes w fw.0) fw.1

      once : EachOnce (ordered order)
      once = once_map (λ u. get_or (names xs) u []) (filter is_first order) same_number (once_filter is_first order o.once)

      back : (before after : List (List ℕ)) (a b : List ℕ) → ordered order ≡ before ++ a ∷ after → Call xs a b → Contains before b
      back before after a b e call =
          let m = map_parts (λ u. get_or (names xs) u []) (filter is_first order) before a after e in
          let f = filter_parts is_first order m.0 m.1 m.2 m.3 in
          let u_in : Contains order m.1 = subst (λ l. Contains l m.1) (sym f.2) (Contains-append_right f.0 (m.1 ∷ f.1) m.1 (0, omega arith, refl)) in
          let kept : is_first m.1 ≡ true = (from_filter is_first order m.1 (subst (λ l. Contains l m.1) (sym m.3) (Contains-append_right m.0 (m.1 ∷ m.2) m.1 (0, omega arith, refl)))).1 in
          let number : place (names xs) a ≡ m.1 = ap (place (names xs)) m.5 ∙ first_is m.1 (o.nodes m.1 u_in) kept in
          let edge : Edge (callers xs) (callees xs) m.1 (place (names xs) b) = subst (λ u. Edge (callers xs) (callees xs) u (place (names xs) b)) number (edge_of_call a b call) in
          let before_in : Contains f.0 (place (names xs) b) = o.back f.0 f.1 m.1 (place (names xs) b) f.2 edge in
          let b_in = (call_in a b call).1 in
          let there_ : Contains m.0 (place (names xs) b) = subst (λ l. Contains l (place (names xs) b)) (sym f.3) (in_filter is_first f.0 (place (names xs) b) before_in (place_first b b_in)) in
          subst (λ l. Contains l b) (sym m.4) (subst (λ t. Contains (map (λ u. get_or (names xs) u []) m.0) t) (place_is (names xs) b [] b_in) (in_map (λ u. get_or (names xs) u []) m.0 (place (names xs) b) there_))

-- ---- the same of lists that are these

call_order : (ls : List Line) (order : List ℕ) → IsOrder (length (names (statements Calls ls))) (callers (statements Calls ls)) (callees (statements Calls ls)) order → IsCallOrder ls (ordered (statements Calls ls) order)
call_order ls order o =
    let t = is_call_order (statements Calls ls) order o in
    record { calls = t.0; callers = t.1; callees = t.2; once = t.3; back = t.4 }

module _ (ls : List Line) (texts : List (List ℕ)) (firsts front behind : List ℕ) (count : ℕ)
    (texts_are : texts ≡ names (statements Calls ls)) (firsts_are : firsts ≡ map (place texts) texts) (counted : count ≡ length (subjects (statements Calls ls)))
    (front_is : front ≡ take count firsts) (behind_is : behind ≡ drop count firsts) where
  all_firsts : firsts ≡ map (place (names (statements Calls ls))) (names (statements Calls ls))
  all_firsts = firsts_are ∙ ap (λ ts. map (place ts) ts) texts_are

  front_callers : front ≡ callers (statements Calls ls)
  front_callers = front_is ∙ ap (λ n. take n firsts) counted ∙ ap (take (length (subjects (statements Calls ls)))) all_firsts ∙ callers_are (statements Calls ls)

  behind_callees : behind ≡ callees (statements Calls ls)
  behind_callees = behind_is ∙ ap (λ n. drop n firsts) counted ∙ ap (drop (length (subjects (statements Calls ls)))) all_firsts ∙ callees_are (statements Calls ls)

  there : (P : List (List ℕ) → List ℕ → List ℕ → Type 0) → P texts front behind → P (names (statements Calls ls)) (callers (statements Calls ls)) (callees (statements Calls ls))
  there P h =
      subst (λ ts. P ts (callers (statements Calls ls)) (callees (statements Calls ls))) texts_are
      (subst (λ s. P texts s (callees (statements Calls ls))) front_callers
      (subst (λ t. P texts front t) behind_callees h))

  back_again : (P : List (List ℕ) → List ℕ → List ℕ → Type 0) → P (names (statements Calls ls)) (callers (statements Calls ls)) (callees (statements Calls ls)) → P texts front behind
  back_again P h =
      subst (λ ts. P ts front behind) (sym texts_are)
      (subst (λ s. P (names (statements Calls ls)) s behind) (sym front_callers)
      (subst (λ t. P (names (statements Calls ls)) (callers (statements Calls ls)) t) (sym behind_callees) h))

  pub edges : AreEdges (length texts) front behind
  edges = back_again (λ ts s t. AreEdges (length ts) s t) (are_edges (statements Calls ls))

  pub least_itself : (marks : List Bool) → MarksCycles (length texts) front behind marks → (o : Option (List ℕ)) → IsLeastOf (IsMarkedText Calls texts marks) o → IsLeastOf (CallsItself ls) o
  least_itself marks m o h =
      let all = there (λ ts s t. MarksCycles (length ts) s t marks) m in
      same_least (IsMarkedText Calls (names (statements Calls ls)) marks) (CallsItself ls) o
      (itself_from_mark (statements Calls ls) marks all) (mark_from_itself (statements Calls ls) marks all)
      (subst (λ ts. IsLeastOf (IsMarkedText Calls ts marks) o) texts_are h)

  pub acyclic : HasNone (CallsItself ls) → HasNoCycle front behind
  acyclic none = back_again (λ ts s t. HasNoCycle s t) (no_cycle (statements Calls ls) none)

  pub order_is : (order : List ℕ) → IsOrder (length texts) front behind order → IsCallOrder ls (map (λ u. get_or texts u []) (filter (λ u. slice_index firsts u == u) order))
  order_is order o =
      let all = there (λ ts s t. IsOrder (length ts) s t order) o in
      subst (λ fs. IsCallOrder ls (map (λ u. get_or texts u []) (filter (λ u. slice_index fs u == u) order))) (sym firsts_are)
      (subst (λ ts. IsCallOrder ls (map (λ u. get_or ts u []) (filter (λ u. slice_index (map (place ts) ts) u == u) order))) (sym texts_are) (call_order ls order all))
