-- Levels, and what there was at their marks.
use Rattle.std.proofs.Common.{◌≡◌, ◌≤◌, ◌+◌, ℕ, zero, suc, List, [], ◌∷◌, ◌++◌, length, map, take, refl, sym, ap, ap₂, ◌∙◌, subst, arith}
use Rattle.std.specs.Prelude.{All}
use Rattle.std.proofs.Math.Seq.{take-append_seam, take-length}
use Rattle.std.proofs.lemmas.List.{map-append, length-map, length_push, length-take, length-take-le, take-take, take-map, append_cancel_left}
use Rattle.std.proofs.lemmas.List.Elements.{All-append}
use Rattle.vf_closure.specs.Literals.{Literal}
use Rattle.vf_formula.specs.declared.literal.Literal as declared
use Rattle.vf_formula.specs.Literals.{shown_literal}
use Rattle.vf_question.specs.declared.unfolding.Unfolding.{Unfolding}
use Rattle.vf_interning.specs.Interned.{Interned}
use Rattle.vf_unfolding.specs.declared.mark.Mark.{Mark}
use Rattle.vf_unfolding.specs.Walked.{Stand, Walked, walked, Kept, kept, at_mark, stand_at, IsWithin, IsBefore, AreFor, AreLevels, IsPath}

-- the lists that there were go on
pub record GoesOn (k l : Kept) : Type 0 where
  pub facts : take (length k.facts) l.facts ≡ k.facts
  pub made : take (length k.made) l.made ≡ k.made
  pub asked : take (length k.asked) l.asked ≡ k.asked

longer : {X : Type 0} (xs ys : List X) → take (length xs) ys ≡ xs → length xs ≤ length ys
longer xs ys e = omega (arith, ap length e, length-take (length xs) ys)

front_stays : {X : Type 0} (n : ℕ) (xs ys : List X) → take (length xs) ys ≡ xs → n ≤ length xs → take n ys ≡ take n xs
front_stays n xs ys e l = sym (ap (take n) (sym e) ∙ take-take n (length xs) ys l)

pub within_stays : (k l : Kept) (m : Mark) → GoesOn k l → IsWithin k m → IsWithin l m
within_stays k l m g w = record {
  facts = omega (arith, w.facts, longer k.facts l.facts g.facts);
  made = omega (arith, w.made, longer k.made l.made g.made);
  asked = omega (arith, w.asked, longer k.asked l.asked g.asked);
}

pub mark_stays : (k l : Kept) (m : Mark) → GoesOn k l → IsWithin k m → at_mark l m ≡ at_mark k m
mark_stays k l m g w = λ i. record {
  facts = front_stays m.facts k.facts l.facts g.facts w.facts i;
  made = front_stays m.made k.made l.made g.made w.made i;
  asked = front_stays m.asked k.asked l.asked g.asked w.asked i;
}

pub stand_stays : (k l : Kept) (m : Mark) → GoesOn k l → IsWithin k m → stand_at l m ≡ stand_at k m
stand_stays k l m g w = ap (λ (x : Kept). record { facts = x.facts; made = x.made }) (mark_stays k l m g w)

pub mark_twice : (k : Kept) (m n : Mark) → IsBefore m n → at_mark (at_mark k n) m ≡ at_mark k m
mark_twice k m n b = λ i. record {
  facts = take-take m.facts n.facts k.facts b.facts i;
  made = take-take m.made n.made k.made b.made i;
  asked = take-take m.asked n.asked k.asked b.asked i;
}

cut_within : {X : Type 0} (m n : ℕ) (xs : List X) → m ≤ n → n ≤ length xs → m ≤ length (take n xs)
cut_within m n xs b w = omega (arith, b, w, length-take-le n xs w)

pub within_mark : (k : Kept) (m n : Mark) → IsBefore m n → IsWithin k n → IsWithin (at_mark k n) m
within_mark k m n b w = record {
  facts = cut_within m.facts n.facts k.facts b.facts w.facts;
  made = cut_within m.made n.made k.made b.made w.made;
  asked = cut_within m.asked n.asked k.asked b.asked w.asked;
}

-- the mark of what there is
abbrev pub mark_of : Kept → Mark
mark_of k = record { facts = length k.facts; made = length k.made; asked = length k.asked }

pub all_within : (k : Kept) → IsWithin k (mark_of k)
all_within k = record { facts = omega arith; made = omega arith; asked = omega arith }

pub mark_whole : (k : Kept) → at_mark k (mark_of k) ≡ k
mark_whole k = λ i. record { facts = take-length k.facts i; made = take-length k.made i; asked = take-length k.asked i }

before_all : (k : Kept) (m : Mark) → IsWithin k m → IsBefore m (mark_of k)
before_all k m w = record { facts = w.facts; made = w.made; asked = w.asked }

pub levels_stay : (bs : List (List Literal)) (ms : List Mark) (k l : Kept) → GoesOn k l → AreLevels bs ms k → AreLevels bs ms l
levels_stay [] [] k l g h = tt
levels_stay [] (m ∷ ms) k l g h = h
levels_stay (b ∷ bs) [] k l g h = h
levels_stay (b ∷ bs) (m ∷ ms) k l g h = (within_stays k l m g h.0, subst (AreFor b) (sym (mark_stays k l m g h.0)) h.1, h.2, levels_stay bs ms k l g h.3)

-- what a contract sees of the levels stays
pub stands_stay : (bs : List (List Literal)) (ms : List Mark) (k l : Kept) → GoesOn k l → AreLevels bs ms k → map (stand_at l) ms ≡ map (stand_at k) ms
stands_stay [] [] k l g h = refl
stands_stay [] (m ∷ ms) k l g h = absurd h
stands_stay (b ∷ bs) [] k l g h = absurd h
stands_stay (b ∷ bs) (m ∷ ms) k l g h = ap₂ (λ x xs. x ∷ xs) (stand_stays k l m g h.0) (stands_stay bs ms k l g h.3)

pub as_many_levels : (bs : List (List Literal)) (ms : List Mark) (k : Kept) → AreLevels bs ms k → length bs ≡ length ms
as_many_levels [] [] k h = refl
as_many_levels [] (m ∷ ms) k h = absurd h
as_many_levels (b ∷ bs) [] k h = absurd h
as_many_levels (b ∷ bs) (m ∷ ms) k h = let r = as_many_levels bs ms k h.3 in omega arith

one_all : (P : Mark → Type 0) (m : Mark) → P m → All P (m ∷ [])
one_all P m p zero d l = p
one_all P m p (suc k) d l = absurd (omega arith)

none_all : (P : Mark → Type 0) → All P []
none_all P k d l = absurd (omega arith)

-- one level more
pub levels_push : (bs : List (List Literal)) (ms : List Mark) (b : List Literal) (k : Kept) → AreLevels bs ms k → AreFor b k → AreLevels (bs ++ b ∷ []) (ms ++ mark_of k ∷ []) k
levels_push [] [] b k h f = (all_within k, subst (AreFor b) (sym (mark_whole k)) f, none_all (IsBefore (mark_of k)), tt)
levels_push [] (m ∷ ms) b k h f = absurd h
levels_push (c ∷ cs) [] b k h f = absurd h
levels_push (c ∷ cs) (m ∷ ms) b k h f = (h.0, h.1, All-append (IsBefore m) ms (mark_of k ∷ []) h.2 (one_all (IsBefore m) (mark_of k) (before_all k m h.0)), levels_push cs ms b k h.3 f)

-- the last level, and those before it
pub record IsPopped (bs : List (List Literal)) (b : List Literal) (ms : List Mark) (m : Mark) (k : Kept) : Type 0 where
  pub before : AreLevels bs ms (at_mark k m)
  pub last : AreFor b (at_mark k m)
  pub within : IsWithin k m

last_of_all : (P : Mark → Type 0) (ms : List Mark) (m : Mark) → All P (ms ++ m ∷ []) → P m
last_of_all P [] m a = a 0 m (omega arith)
last_of_all P (n ∷ ns) m a = last_of_all P ns m (λ k d l. a (suc k) d (omega arith))

front_of_all : (P : Mark → Type 0) (ms : List Mark) (m : Mark) → All P (ms ++ m ∷ []) → All P ms
front_of_all P [] m a k d l = absurd (omega arith)
front_of_all P (n ∷ ns) m a zero d l = a 0 d (omega arith)
front_of_all P (n ∷ ns) m a (suc k) d l = front_of_all P ns m (λ i e w. a (suc i) e (omega arith)) k d (omega arith)

no_levels : (ms : List Mark) (m : Mark) (k : Kept) → AreLevels [] (ms ++ m ∷ []) k → ⊥
no_levels [] m k h = h
no_levels (n ∷ ns) m k h = h

no_marks : (bs : List (List Literal)) (b : List Literal) (k : Kept) → AreLevels (bs ++ b ∷ []) [] k → ⊥
no_marks [] b k h = h
no_marks (c ∷ cs) b k h = h

pub levels_pop : (bs : List (List Literal)) (b : List Literal) (ms : List Mark) (m : Mark) (k : Kept) → AreLevels (bs ++ b ∷ []) (ms ++ m ∷ []) k → IsPopped bs b ms m k
levels_pop [] b [] m k h = record { before = tt; last = h.1; within = h.0 }
levels_pop [] b (n ∷ ns) m k h = absurd (no_levels ns m k h.3)
levels_pop (c ∷ cs) b [] m k h = absurd (no_marks cs b k h.3)
levels_pop (c ∷ cs) b (n ∷ ns) m k h =
    let r = levels_pop cs b ns m k h.3 in
    let e = last_of_all (IsBefore n) ns m h.2 in
    record {
      before = (within_mark k n m e r.within, subst (AreFor c) (sym (mark_twice k n m e)) h.1, front_of_all (IsBefore n) ns m h.2, r.before);
      last = r.last;
      within = r.within;
    }

-- the stands of the levels before are as they were
pub stands_before : (bs : List (List Literal)) (ms : List Mark) (k : Kept) (m : Mark) → AreLevels bs ms (at_mark k m) → IsWithin k m → map (stand_at (at_mark k m)) ms ≡ map (stand_at k) ms
stands_before bs ms k m h w = sym (stands_stay bs ms (at_mark k m) k (fronts k m w) h)
  where
    front : {X : Type 0} (n : ℕ) (xs : List X) → n ≤ length xs → take (length (take n xs)) xs ≡ take n xs
    front n xs l = ap (λ j. take j xs) (length-take-le n xs l)

    fronts : (k : Kept) (m : Mark) → IsWithin k m → GoesOn (at_mark k m) k
    fronts k m w = record { facts = front m.facts k.facts w.facts; made = front m.made k.made w.made; asked = front m.asked k.asked w.asked }

-- ---- the last of a list

pub record EndsIn {X : Type 0} (xs : List X) : Type 0 where
  pub front : List X
  pub last : X
  pub is : xs ≡ front ++ last ∷ []

pub ends_in : {X : Type 0} (xs : List X) (n : ℕ) → length xs ≡ n + 1 → EndsIn xs
ends_in [] n e = absurd (omega arith)
ends_in (x ∷ []) n e = record { front = []; last = x; is = refl }
ends_in (x ∷ y ∷ ys) zero e = absurd (omega arith)
ends_in (x ∷ y ∷ ys) (suc n) e = let r = ends_in (y ∷ ys) n (omega arith) in record { front = x ∷ r.front; last = r.last; is = ap (λ zs. x ∷ zs) r.is }

pub snoc_front : {X : Type 0} (xs ys : List X) (x y : X) → xs ++ x ∷ [] ≡ ys ++ y ∷ [] → xs ≡ ys
snoc_front xs ys x y e =
    let long : length xs ≡ length ys = omega (arith, ap length e, length_push xs x, length_push ys y) in
    sym (take-append_seam xs (x ∷ [])) ∙ ap (take (length xs)) e ∙ ap (λ k. take k (ys ++ y ∷ [])) long ∙ take-append_seam ys (y ∷ [])

pub snoc_last : {X : Type 0} (xs ys : List X) (x y : X) → xs ++ x ∷ [] ≡ ys ++ y ∷ [] → x ≡ y
snoc_last xs ys x y e = let same : x ∷ [] ≡ y ∷ [] = append_cancel_left ys (x ∷ []) (y ∷ []) (ap (λ zs. zs ++ x ∷ []) (sym (snoc_front xs ys x y e)) ∙ e) in cc

-- ---- the end of the last level

module _ (old new : Interned) (k now : Kept) (marks front : List Mark) (m : Mark) (levels : AreLevels old.levels marks k) (popped : marks ≡ front ++ m ∷ []) (cut : now ≡ at_mark k m)
    (ended : (before : List (List Literal)) (level : List Literal) → old.levels ≡ before ++ level ∷ [] → (new.levels ≡ before) × (new.literals ≡ level)) where
  ends : EndsIn old.levels
  ends = ends_in old.levels (length front) (as_many_levels old.levels marks k levels ∙ ap length popped ∙ length_push front m)

  pop : IsPopped ends.front ends.last front m k
  pop = levels_pop ends.front ends.last front m k (subst (λ ms. AreLevels (ends.front ++ ends.last ∷ []) ms k) popped (subst (λ bs. AreLevels bs marks k) ends.is levels))

  gone : (new.levels ≡ ends.front) × (new.literals ≡ ends.last)
  gone = ended ends.front ends.last ends.is

  pub path_end : IsPath new now front
  path_end = record {
    now = subst (AreFor new.literals) (sym cut) (subst (λ ls. AreFor ls (at_mark k m)) (sym gone.1) pop.last);
    levels = subst (AreLevels new.levels front) (sym cut) (subst (λ bs. AreLevels bs front (at_mark k m)) (sym gone.0) pop.before);
  }

  pub end_means : (before : List Stand) (level : Stand) → map (stand_at k) marks ≡ before ++ level ∷ [] → (map (stand_at now) front ≡ before) × (record { facts = now.facts; made = now.made } ≡ level)
  end_means before level e =
      let v : map (stand_at k) front ++ stand_at k m ∷ [] ≡ before ++ level ∷ [] = sym (map-append (stand_at k) front (m ∷ [])) ∙ sym (ap (map (stand_at k)) popped) ∙ e in (
        ap (λ (x : Kept). map (stand_at x) front) cut ∙ stands_before ends.front front k m pop.before pop.within ∙ snoc_front (map (stand_at k) front) before (stand_at k m) level v,
        ap (λ (x : Kept). record { facts = x.facts; made = x.made }) cut ∙ snoc_last (map (stand_at k) front) before (stand_at k m) level v,
      )

-- what is cut back to a mark is what there was
pub cut_is : (facts now : List declared.Literal) (made made' : List Unfolding) (asked asked' : List ℕ) (m : Mark) → now ≡ take m.facts facts → made' ≡ take m.made made → asked' ≡ take m.asked asked → kept now made' asked' ≡ at_mark (kept facts made asked) m
cut_is facts now made made' asked asked' m e f g = λ i. record {
  facts = (ap (map shown_literal) e ∙ sym (take-map shown_literal m.facts facts)) i;
  made = f i;
  asked = g i;
}

-- lists that go on, as they are kept
pub kept_goes_on : (facts facts' : List declared.Literal) (made made' : List Unfolding) (asked asked' : List ℕ) → take (length facts) facts' ≡ facts → take (length made) made' ≡ made → take (length asked) asked' ≡ asked → GoesOn (kept facts made asked) (kept facts' made' asked')
kept_goes_on facts facts' made made' asked asked' e f g = record {
  facts = ap (λ n. take n (map shown_literal facts')) (length-map facts shown_literal) ∙ take-map shown_literal (length facts) facts' ∙ ap (map shown_literal) e;
  made = f;
  asked = g;
}

-- the mark of the lengths
pub mark_is : (facts : List declared.Literal) (made : List Unfolding) (asked : List ℕ) (m : Mark) → m.facts ≡ length facts → m.made ≡ length made → m.asked ≡ length asked → m ≡ mark_of (kept facts made asked)
mark_is facts made asked m e f g = λ i. record { facts = (e ∙ sym (length-map facts shown_literal)) i; made = f i; asked = g i }

-- ---- one level more
module _ (old new : Interned) (k l : Kept) (marks now : List Mark) (m : Mark) (is : IsPath old k marks) (goes : GoesOn k l) (levels : new.levels ≡ old.levels ++ old.literals ∷ []) (pushed : now ≡ marks ++ m ∷ []) (set : m ≡ mark_of k) where
  marks_are : now ≡ marks ++ mark_of k ∷ []
  marks_are = pushed ∙ ap (λ (n : Mark). marks ++ n ∷ []) set

  pub path_push : AreFor new.literals l → IsPath new l now
  path_push f = record {
    now = f;
    levels = subst (λ (bs : List (List Literal)). AreLevels bs now l) (sym levels) (subst (λ (ms : List Mark). AreLevels (old.levels ++ old.literals ∷ []) ms l) (sym marks_are) (levels_stay (old.levels ++ old.literals ∷ []) (marks ++ mark_of k ∷ []) k l goes (levels_push old.levels marks old.literals k is.levels is.now)));
  }

  last_stand : stand_at l (mark_of k) ≡ record { facts = k.facts; made = k.made }
  last_stand = stand_stays k l (mark_of k) goes (all_within k) ∙ ap (λ (x : Kept). record { facts = x.facts; made = x.made }) (mark_whole k)

  pub push_means : (w : Walked) → walked k marks ≡ w → map (stand_at l) now ≡ w.levels ++ w.now ∷ []
  push_means w e =
      ap (map (stand_at l)) marks_are ∙ map-append (stand_at l) marks (mark_of k ∷ [])
      ∙ ap₂ (λ (ss : List Stand) (s : Stand). ss ++ s ∷ []) (stands_stay old.levels marks k l goes is.levels) last_stand ∙ ap (λ (x : Walked). x.levels ++ x.now ∷ []) e
