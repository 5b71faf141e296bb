-- Which texts fail a clause, by the places where they are mentioned first.
use Rattle.std.proofs.Common.{◌≡◌, ◌≢◌, ◌⊎◌, ℕ, ◌+◌, ◌-◌, ◌<◌, ◌≤◌, Bool, true, false, List, [], ◌++◌, length, get_or, Some, refl, sym, ap, subst, ◌∙◌, inl, inr, arith}
use Rattle.std.specs.Prelude.{Contains}
use Rattle.std.specs.Str.{bytes_eq}
use Rattle.std.proofs.lemmas.List.{length-map, length-append, get_or_append_left, get_or-append-add}
use Rattle.std.proofs.lemmas.List.Elements.{Contains-append_cases, Contains-append_right}
use Rattle.std.proofs.lemmas.Slice.Eq.{bytes_eq-Decides}
use Rattle.vf_manifest.specs.declared.line.Line.{Line}
use Rattle.vf_link.specs.declared.statement.Topic.{Topic}
use Rattle.vf_link.specs.declared.statement.Topic.TheVariants.{Provided, Required}
use Rattle.vf_link.specs.Statements.{Statement}
use Rattle.vf_link.specs.Statements.{statements, subjects, contents, shown, place}
use Rattle.vf_link.specs.Least.{HasNone, IsMarkedText}
use Rattle.vf_link.specs.Linking.{StandsTwice, Differ, IsUnmet, HasOtherSignature, agree}
use Rattle.vf_link.specs.Marks.{Marks, IsRepeated, IsContradicted, IsNoneOf, DisagreesWith}
use Rattle.vf_link.proofs.Lists.{get_at, got_within, got_is, contains_at, at_place}
use Rattle.vf_link.proofs.Places.{place_le, place_within, place_is, none_before}
use Rattle.vf_link.proofs.Stated.{nothing, subject_at, content_at}

below : (m n : ℕ) → m ≤ n → m ≢ n → m < n
below m n le ne = by (cases m n)
  where
    cases : (m n : ℕ) → (m < n) ⊎ ((m ≡ n) ⊎ (n < m))
    cases m n = grind arith

    by : (m < n) ⊎ ((m ≡ n) ⊎ (n < m)) → m < n
    by (inl lt) = lt
    by (inr (inl same)) = absurd (ne same)
    by (inr (inr gt)) = absurd (let none : ⊥ = omega arith in none)

-- ---- what stands twice

pub twice_from_mark : (texts : List (List ℕ)) (marks : List Bool) → Marks (length texts) marks (IsRepeated texts) → (x : List ℕ) → IsMarkedText Provided texts marks x → StandsTwice texts x
twice_from_mark texts marks m x k =
    let t = get_or texts k.at [] in
    let c : Contains texts t = contains_at texts k.at t [] k.within refl in
    let ne : place texts t ≢ k.at = m.is k.at k.within k.marked in
    record {
      first = place texts t;
      second = k.at;
      order = below (place texts t) k.at (place_le texts t [] k.at refl) ne;
      one = get_at texts (place texts t) [] (place_within texts t c) ∙ ap Some (place_is texts t [] c ∙ sym k.is);
      other = get_at texts k.at [] k.within ∙ ap Some (sym k.is);
    }

pub mark_from_twice : (texts : List (List ℕ)) (marks : List Bool) → Marks (length texts) marks (IsRepeated texts) → (x : List ℕ) → StandsTwice texts x → IsMarkedText Provided texts marks x
mark_from_twice texts marks m x h =
    let within : h.second < length texts = got_within texts h.second x h.other in
    let is : get_or texts h.second [] ≡ x = got_is texts h.second x [] h.other in
    record {
      at = h.second;
      within = within;
      marked = m.each h.second within (λ same.
          let first : place texts (get_or texts h.second []) ≤ h.first = place_le texts (get_or texts h.second []) [] h.first (got_is texts h.first x [] h.one ∙ sym is) in
          let order = h.order in
          let none : ⊥ = omega arith in none);
      is = sym is;
    }

-- ---- what is said in two ways

pub differ_from_mark : (topic : Topic) (xs : List Statement) (marks : List Bool) → Marks (length (subjects xs)) marks (IsContradicted (subjects xs) (contents xs))
    → (x : List ℕ) → IsMarkedText topic (subjects xs) marks x → Differ (shown topic) xs x
differ_from_mark topic xs marks m x k =
    let s = get_or (subjects xs) k.at [] in
    let p = place (subjects xs) s in
    let c : Contains (subjects xs) s = contains_at (subjects xs) k.at s [] k.within refl in
    let in_p : p < length xs = subst (λ n. p < n) (length-map xs (λ s. s.subject)) (place_within (subjects xs) s c) in
    let in_k : k.at < length xs = subst (λ n. k.at < n) (length-map xs (λ s. s.subject)) k.within in
    let first : (get_or xs p nothing).subject ≡ s = sym (subject_at xs p) ∙ place_is (subjects xs) s [] c in
    record {
      one = get_or xs p nothing;
      other = get_or xs k.at nothing;
      one_in = contains_at xs p (get_or xs p nothing) nothing in_p refl;
      other_in = contains_at xs k.at (get_or xs k.at nothing) nothing in_k refl;
      same = first ∙ subject_at xs k.at;
      apart = λ e. m.is k.at k.within k.marked (content_at xs p ∙ e ∙ sym (content_at xs k.at));
      shown = k.is ∙ ap (shown topic) (sym first);
    }

pub mark_from_differ : (topic : Topic) (xs : List Statement) (marks : List Bool) → Marks (length (subjects xs)) marks (IsContradicted (subjects xs) (contents xs))
    → (x : List ℕ) → Differ (shown topic) xs x → IsMarkedText topic (subjects xs) marks x
mark_from_differ topic xs marks m x h = by (bytes_eq (get_or (contents xs) p []) h.one.content) refl
  where
    p : ℕ
    p = place (subjects xs) h.one.subject

    at_mark : (k : ℕ) (t : Statement) → k < length xs → get_or xs k nothing ≡ t → t.subject ≡ h.one.subject → get_or (contents xs) (place (subjects xs) h.one.subject) [] ≢ t.content → IsMarkedText topic (subjects xs) marks x
    at_mark k t within is same apart =
        let subject : get_or (subjects xs) k [] ≡ h.one.subject = subject_at xs k ∙ ap (λ (y : Statement). y.subject) is ∙ same in
        let content : get_or (contents xs) k [] ≡ t.content = content_at xs k ∙ ap (λ (y : Statement). y.content) is in
        let inside : k < length (subjects xs) = subst (λ n. k < n) (sym (length-map xs (λ (y : Statement). y.subject))) within in
        record {
          at = k;
          within = inside;
          marked = m.each k inside (λ e. apart (ap (λ y. get_or (contents xs) (place (subjects xs) y) []) (sym subject) ∙ e ∙ content));
          is = h.shown ∙ ap (shown topic) (sym subject);
        }

    by : (b : Bool) → bytes_eq (get_or (contents xs) (place (subjects xs) h.one.subject) []) h.one.content ≡ b → IsMarkedText topic (subjects xs) marks x
    by true e = at_mark h.other_in.0 h.other h.other_in.1 (at_place xs h.other nothing h.other_in) (sym h.same)
        (λ same. h.apart (sym ((bytes_eq-Decides (get_or (contents xs) (place (subjects xs) h.one.subject) []) h.one.content).0 e) ∙ same))
    by false e = at_mark h.one_in.0 h.one h.one_in.1 (at_place xs h.one nothing h.one_in) refl
        (λ same. let yes = (bytes_eq-Decides (get_or (contents xs) (place (subjects xs) h.one.subject) []) h.one.content).1 same in absurd cc)

-- ---- what is required

module _ (ls : List Line) where
  abbrev pub given : List Statement
  given = statements Provided ls

  abbrev pub wanted : List Statement
  wanted = statements Required ls

  abbrev pub names : List (List ℕ)
  names = subjects (statements Provided ls) ++ subjects (statements Required ls)

  abbrev pub signatures : List (List ℕ)
  signatures = contents (statements Provided ls) ++ contents (statements Required ls)

  provided_name : (k : ℕ) → k < length (statements Provided ls) → get_or names k [] ≡ (get_or (statements Provided ls) k nothing).subject
  provided_name k within =
      get_or_append_left (subjects (statements Provided ls)) (subjects (statements Required ls)) [] k (subst (λ n. k < n) (sym (length-map (statements Provided ls) (λ s. s.subject))) within)
      ∙ subject_at (statements Provided ls) k

  provided_signature : (k : ℕ) → k < length (statements Provided ls) → get_or signatures k [] ≡ (get_or (statements Provided ls) k nothing).content
  provided_signature k within =
      get_or_append_left (contents (statements Provided ls)) (contents (statements Required ls)) [] k (subst (λ n. k < n) (sym (length-map (statements Provided ls) (λ s. s.content))) within)
      ∙ content_at (statements Provided ls) k

  required_name : (k : ℕ) → get_or names (length (statements Provided ls) + k) [] ≡ (get_or (statements Required ls) k nothing).subject
  required_name k =
      ap (λ n. get_or names (n + k) []) (sym (length-map (statements Provided ls) (λ s. s.subject)))
      ∙ get_or-append-add (subjects (statements Provided ls)) (subjects (statements Required ls)) k []
      ∙ subject_at (statements Required ls) k

  required_signature : (k : ℕ) → get_or signatures (length (statements Provided ls) + k) [] ≡ (get_or (statements Required ls) k nothing).content
  required_signature k =
      ap (λ n. get_or signatures (n + k) []) (sym (length-map (statements Provided ls) (λ s. s.content)))
      ∙ get_or-append-add (contents (statements Provided ls)) (contents (statements Required ls)) k []
      ∙ content_at (statements Required ls) k

  all_names : length names ≡ length (statements Provided ls) + length (statements Required ls)
  all_names =
      let both = length-append (subjects (statements Provided ls)) (subjects (statements Required ls)) in
      let p = length-map (statements Provided ls) (λ s. s.subject) in
      let r = length-map (statements Required ls) (λ s. s.subject) in
      omega arith

  not_provided : (x : List ℕ) → length (statements Provided ls) ≤ place names x → Contains (subjects (statements Provided ls)) x → ⊥
  not_provided x behind c =
      let inside : c.0 < length (statements Provided ls) = subst (λ n. c.0 < n) (length-map (statements Provided ls) (λ s. s.subject)) c.1 in
      let le = place_le names x [] c.0 (get_or_append_left (subjects (statements Provided ls)) (subjects (statements Required ls)) [] c.0 c.1 ∙ at_place (subjects (statements Provided ls)) x [] c) in
      omega arith

  pub unmet_from_mark : (marks : List Bool) → Marks (length names) marks (IsNoneOf (length (statements Provided ls)) names) → (x : List ℕ) → IsMarkedText Required names marks x → IsUnmet ls x
  unmet_from_mark marks m x k =
      let behind : length (statements Provided ls) ≤ place names x = subst (λ t. length (statements Provided ls) ≤ place names t) (sym k.is) (m.is k.at k.within k.marked) in
      record {
        required = elim (Contains-append_cases (subjects (statements Provided ls)) (subjects (statements Required ls)) x (contains_at names k.at x [] k.within (sym k.is))) [
          | inl provided ↦ absurd (not_provided x behind provided)
          | inr required ↦ required
        ];
        missing = not_provided x behind;
      }

  pub mark_from_unmet : (marks : List Bool) → Marks (length names) marks (IsNoneOf (length (statements Provided ls)) names) → (x : List ℕ) → IsUnmet ls x → IsMarkedText Required names marks x
  mark_from_unmet marks m x h =
      let c : Contains names x = Contains-append_right (subjects (statements Provided ls)) (subjects (statements Required ls)) x h.required in
      let is : get_or names c.0 [] ≡ x = at_place names x [] c in
      record {
        at = c.0;
        within = c.1;
        marked = m.each c.0 c.1 (subst (λ t. length (statements Provided ls) ≤ place names t) (sym is) (behind (le_or_lt (length (statements Provided ls)) (place names x))));
        is = sym is;
      }
    where
      le_or_lt : (m n : ℕ) → (m ≤ n) ⊎ (n < m)
      le_or_lt m n = grind arith

      behind : (length (statements Provided ls) ≤ place names x) ⊎ (place names x < length (statements Provided ls)) → length (statements Provided ls) ≤ place names x
      behind (inl le) = le
      behind (inr lt) = absurd (h.missing (contains_at (subjects (statements Provided ls)) (place names x) x []
          (subst (λ n. place names x < n) (sym (length-map (statements Provided ls) (λ (s : Statement). s.subject))) lt)
          (sym (get_or_append_left (subjects (statements Provided ls)) (subjects (statements Required ls)) [] (place names x)
          (subst (λ n. place names x < n) (sym (length-map (statements Provided ls) (λ (s : Statement). s.subject))) lt))
          ∙ place_is names x [] (Contains-append_right (subjects (statements Provided ls)) (subjects (statements Required ls)) x h.required))))

  -- where no identity is provided twice, a name has its place where it is provided
  provided_place : HasNone (StandsTwice (subjects (statements Provided ls))) → (x : List ℕ) (i : ℕ) → i < length (statements Provided ls) → (get_or (statements Provided ls) i nothing).subject ≡ x
      → place names x ≡ i
  provided_place once x i within is = by (cases (place names x) i)
    where
      at_i : get_or names i [] ≡ x
      at_i = provided_name i within ∙ is

      in_names : Contains names x
      in_names = contains_at names i x [] (subst (λ n. i < n) (sym all_names) (omega arith)) at_i

      cases : (m n : ℕ) → (m ≡ n) ⊎ ((m < n) ⊎ (n < m))
      cases m n = grind arith

      long : length (subjects (statements Provided ls)) ≡ length (statements Provided ls)
      long = length-map (statements Provided ls) (λ (s : Statement). s.subject)

      by : (place names x ≡ i) ⊎ ((place names x < i) ⊎ (i < place names x)) → place names x ≡ i
      by (inl same) = same
      by (inr (inl before)) =
          let p_within : place names x < length (subjects (statements Provided ls)) = let l = long in omega arith in
          let i_within : i < length (subjects (statements Provided ls)) = let l = long in omega arith in
          let p_is : get_or (subjects (statements Provided ls)) (place names x) [] ≡ x =
          sym (get_or_append_left (subjects (statements Provided ls)) (subjects (statements Required ls)) [] (place names x) p_within) ∙ place_is names x [] in_names in
          let i_is : get_or (subjects (statements Provided ls)) i [] ≡ x = subject_at (statements Provided ls) i ∙ is in
          absurd (once x (record {
            first = place names x;
            second = i;
            order = before;
            one = get_at (subjects (statements Provided ls)) (place names x) [] p_within ∙ ap Some p_is;
            other = get_at (subjects (statements Provided ls)) i [] i_within ∙ ap Some i_is;
          }))
      by (inr (inr behind)) = absurd (none_before names x [] i behind at_i)

  pub other_from_mark : (marks : List Bool) → Marks (length names) marks (DisagreesWith (length (statements Provided ls)) names signatures)
      → (x : List ℕ) → IsMarkedText Required names marks x → HasOtherSignature ls x
  other_from_mark marks m x k =
      let t = get_or names k.at [] in
      let fails = m.is k.at k.within k.marked in
      let p = place names t in
      let c : Contains names t = contains_at names k.at t [] k.within refl in
      let j = k.at - length (statements Provided ls) in
      let at_j : length (statements Provided ls) + j ≡ k.at = let b = fails.0 in omega arith in
      let within_j : j < length (statements Required ls) = let w = subst (λ n. k.at < n) all_names k.within in let b = fails.0 in omega arith in
      let name_j : (get_or (statements Required ls) j nothing).subject ≡ x = sym (required_name j) ∙ ap (λ n. get_or names n []) at_j ∙ sym k.is in
      let name_p : (get_or (statements Provided ls) p nothing).subject ≡ x = sym (provided_name p fails.1) ∙ place_is names t [] c ∙ sym k.is in
      record {
        given = get_or (statements Provided ls) p nothing;
        wanted = get_or (statements Required ls) j nothing;
        given_in = contains_at (statements Provided ls) p (get_or (statements Provided ls) p nothing) nothing fails.1 refl;
        wanted_in = contains_at (statements Required ls) j (get_or (statements Required ls) j nothing) nothing within_j refl;
        of_given = name_p;
        of_wanted = name_j;
        apart =
            ap (λ s. agree s (get_or (statements Required ls) j nothing).content) (sym (provided_signature p fails.1))
            ∙ ap (λ s. agree (get_or signatures p []) s) (sym (required_signature j) ∙ ap (λ n. get_or signatures n []) at_j)
            ∙ fails.2;
      }

  pub mark_from_other : (marks : List Bool) → Marks (length names) marks (DisagreesWith (length (statements Provided ls)) names signatures)
      → HasNone (StandsTwice (subjects (statements Provided ls))) → (x : List ℕ) → HasOtherSignature ls x → IsMarkedText Required names marks x
  mark_from_other marks m once x h =
      let i = h.given_in.0 in
      let j = h.wanted_in.0 in
      let k = length (statements Provided ls) + j in
      let is_i : get_or (statements Provided ls) i nothing ≡ h.given = at_place (statements Provided ls) h.given nothing h.given_in in
      let is_j : get_or (statements Required ls) j nothing ≡ h.wanted = at_place (statements Required ls) h.wanted nothing h.wanted_in in
      let name : get_or names k [] ≡ x = required_name j ∙ ap (λ (s : Statement). s.subject) is_j ∙ h.of_wanted in
      let p_is : place names (get_or names k []) ≡ i =
      ap (place names) name ∙ provided_place once x i h.given_in.1 (ap (λ (s : Statement). s.subject) is_i ∙ h.of_given) in
      let within : k < length names = subst (λ n. k < n) (sym all_names) (let w = h.wanted_in.1 in omega arith) in
      let apart : agree (get_or signatures (place names (get_or names k [])) []) (get_or signatures k []) ≡ false =
      ap (λ n. agree (get_or signatures n []) (get_or signatures k [])) p_is
      ∙ ap (λ s. agree s (get_or signatures k [])) (provided_signature i h.given_in.1 ∙ ap (λ (s : Statement). s.content) is_i)
      ∙ ap (λ s. agree h.given.content s) (required_signature j ∙ ap (λ (s : Statement). s.content) is_j)
      ∙ h.apart in
      record {
        at = k;
        within = within;
        marked = m.each k within (omega arith, subst (λ n. n < length (statements Provided ls)) (sym p_is) h.given_in.1, apart);
        is = sym name;
      }
