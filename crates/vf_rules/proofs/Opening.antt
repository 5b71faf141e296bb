-- Opening and closing keep what a state stands for.
use Rattle.std.proofs.Common.{◌≡◌, ℕ, zero, suc, ◌<◌, List, [], ◌∷◌, map, length, slice_get, Option, Some, None, refl, sym, ap, ap₂, subst, subst₂, ◌∙◌, arith}
use Rattle.vf_model.specs.Values.{Dyadic, Value, Values}
use Rattle.vf_model.specs.Values as values
use Rattle.vf_meaning.specs.Fractions.{whole}
use Rattle.vf_meaning.specs.Ghost.{Sort, Name, Numbered, Result, This, CurrentThread, Function}
use Rattle.vf_meaning.specs.Valuations.{Valuation, no_value, listed, in_row, count, value_at}
use Rattle.vf_meaning.specs.Assertions.{Head, BodyName, Plain, Instance, BodyTree, Environment}
use Rattle.vf_meaning.specs.Sorts.{HasSort, AreOfSorts}
use Rattle.vf_meaning.specs.Parts.{Part}
use Rattle.vf_meaning.specs.Chunks.{Wanted, Just, AllMeet}
use Rattle.vf_meaning.specs.Satisfaction.{SatisfiesBody, SatisfiesPrimitive, SatisfiesFamily, SatisfiesHead, BeginsWith, SatisfiesOf, SatisfiesIf, MeansAt, SatisfiesAt}
use Rattle.vf_rules.specs.Terms.{Term, Store}
use Rattle.vf_rules.specs.States.{Fact, meaning, value_in, Meets, wanted_in, HeadMeans, ChunkMeans, StoreMeans, with_chunk, with_chunks}
use Rattle.vf_rules.specs.Take.{same, all_known}
use Rattle.vf_rules.specs.Laws.{IsAmong, Grows, StoreSorted}
use Rattle.vf_rules.specs.Predicates.{store_of, HasBody, head_named, IsOpenable, AreInhabited, AreSorted, closed}
use Rattle.vf_rules.specs.PredicateLaws.{OpeningKeeps, ClosingKeeps}
use Rattle.vf_rules.proofs.Stands.{with_chunk_stands}
use Rattle.vf_rules.proofs.Produces.{produced, typed_left}
use Rattle.vf_rules.proofs.Consumes.{consumed}
use Rattle.vf_rules.proofs.Takes.{takes_parted, same_value}

-- ---- the body that a head has
head_body : (e : Environment) (v : Valuation) (path : List Fact) (n : ℕ) (x : Dyadic) (head : Head) (name : BodyName) (ws : List Wanted) (p : Part) → HasBody e path head name → Meets e v path
    → SatisfiesHead (MeansAt e n) (meaning e) whole x head v ws p → SatisfiesBody (MeansAt e n) x name ws p
head_body e v path n x head name ws p (HasBody.plain q is) m h = subst (λ k. SatisfiesPrimitive (MeansAt e n) k x q ws p) is h
head_body e v path n x head name ws p (HasBody.instance q t g is) m h = subst (λ w. SatisfiesFamily (MeansAt e n) x q w ws p) (same_value e v t (Function g) (is.by v m)) h

body_head : (e : Environment) (v : Valuation) (n : ℕ) (x : Dyadic) (name : BodyName) (ws : List Wanted) (p : Part) → IsOpenable name
    → SatisfiesBody (MeansAt e n) x name ws p → SatisfiesHead (MeansAt e n) (meaning e) whole x (head_named name) v ws p
body_head e v n x (Plain q) ws p is h = subst (λ k. SatisfiesPrimitive (MeansAt e n) k x q ws p) (sym is) h
body_head e v n x (Instance q g) ws p is h = h

-- ---- arguments that are all known
known_meet : (e : Environment) (v : Valuation) (ts : List Term) (vs : List Value) → AllMeet (map (wanted_in e v) (all_known ts)) vs → vs ≡ map (value_in e v) ts
known_meet e v [] [] h = refl
known_meet e v [] (u ∷ us) h = absurd h
known_meet e v (t ∷ ts) [] h = absurd h
known_meet e v (t ∷ ts) (u ∷ us) h = ap₂ (λ a b. a ∷ b) h.0 (known_meet e v ts us h.1)

meet_known : (e : Environment) (v : Valuation) (ts : List Term) → AllMeet (map (wanted_in e v) (all_known ts)) (map (value_in e v) ts)
meet_known e v [] = tt
meet_known e v (t ∷ ts) = (refl, meet_known e v ts)

listed_row : (vs : List Value) → listed (in_row vs) ≡ vs
listed_row [] = refl
listed_row (u ∷ us) = ap (λ r. u ∷ r) (listed_row us)

-- a value of a row, by the list of the values
at_place : (vs : Values) (us : List Value) (k : ℕ) (u : Value) → listed vs ≡ us → slice_get us k ≡ Some u → value_at vs k ≡ u
at_place values.none [] k u h is = none_some is
  where
    none_some : {A B : Type 0} {x : A} → None ≡ Some x → B
    none_some e = cc
at_place values.none (w ∷ us) k u h is = clash h
  where
    clash : {A : Type 0} {w : Value} {us : List Value} → [] ≡ (w ∷ us) → A
    clash e = cc
at_place (values.more w ws) [] k u h is = clash h
  where
    clash : {A : Type 0} {w : Value} {us : List Value} → (w ∷ us) ≡ [] → A
    clash e = cc
at_place (values.more w ws) (x ∷ us) zero u h is = first h ∙ some_same is
  where
    first : {a b : Value} {us vs : List Value} → (a ∷ us) ≡ (b ∷ vs) → a ≡ b
    first e = cc

    some_same : {A : Type 0} {x y : A} → Some x ≡ Some y → x ≡ y
    some_same e = cc
at_place (values.more w ws) (x ∷ us) (suc k) u h is = at_place ws us k u (rest h) is
  where
    rest : {a b : Value} {us vs : List Value} → (a ∷ us) ≡ (b ∷ vs) → us ≡ vs
    rest e = cc

mapped_at : (e : Environment) (v : Valuation) (ts : List Term) (k : ℕ) (t : Term) → slice_get ts k ≡ Some t → slice_get (map (value_in e v) ts) k ≡ Some (value_in e v t)
mapped_at e v [] k t h = none_some h
  where
    none_some : {A B : Type 0} {x : A} → None ≡ Some x → B
    none_some e = cc
mapped_at e v (u ∷ us) zero t h = ap (λ z. Some (value_in e v z)) (some_same h)
  where
    some_same : {A : Type 0} {x y : A} → Some x ≡ Some y → x ≡ y
    some_same e = cc
mapped_at e v (u ∷ us) (suc k) t h = mapped_at e v us k t h

within : (ts : List Term) (k : ℕ) (t : Term) → slice_get ts k ≡ Some t → k < length ts
within [] k t h = none_some h
  where
    none_some : {A B : Type 0} {x : A} → None ≡ Some x → B
    none_some e = cc
within (u ∷ us) zero t h = omega arith
within (u ∷ us) (suc k) t h = omega (arith, within us k t h)

-- the parameters have their terms' values
arguments_mean : (e : Environment) (v w : Valuation) (ts : List Term) (vs : Values) (n : ℕ) → listed vs ≡ map (value_in e v) ts → length ts ≡ n → count vs ≡ n → BeginsWith w vs → StoreMeans e v (store_of ts) w
arguments_mean e v w ts vs n h number same begins (Numbered k) t is =
    sym (at_place vs (map (value_in e v) ts) k (value_in e v t) h (mapped_at e v ts k t is)) ∙ sym (begins k (omega (arith, within ts k t is, number, same)))
arguments_mean e v w ts vs n h number same begins Result t is = none_some is
  where
    none_some : {A B : Type 0} {x : A} → None ≡ Some x → B
    none_some e = cc
arguments_mean e v w ts vs n h number same begins This t is = none_some is
  where
    none_some : {A B : Type 0} {x : A} → None ≡ Some x → B
    none_some e = cc
arguments_mean e v w ts vs n h number same begins CurrentThread t is = none_some is
  where
    none_some : {A B : Type 0} {x : A} → None ≡ Some x → B
    none_some e = cc

-- arguments have the same values under another valuation
same_asked : (e : Environment) (v u : Valuation) (ts : List Term) → ((k : ℕ) (t : Term) → slice_get ts k ≡ Some t → value_in e u t ≡ value_in e v t) → map (wanted_in e u) (all_known ts) ≡ map (wanted_in e v) (all_known ts)
same_asked e v u [] h = refl
same_asked e v u (t ∷ ts) h = ap₂ (λ a b. Just a ∷ b) (h 0 t refl) (same_asked e v u ts (λ k z is. h (suc k) z is))

-- ---- opening
-- a part that satisfies a body, at a depth and for some names
record Opened (e : Environment) (v : Valuation) (x : Dyadic) (body : BodyTree) (ts : List Term) (p : Part) : Type 0 where
  depth : ℕ
  under : Valuation
  sorts : AreOfSorts e under body.sorts
  means : StoreMeans e v (store_of ts) under
  satisfies : SatisfiesAt e depth x body.assertion under p

opened : (e : Environment) (v : Valuation) (n : ℕ) (x : Dyadic) (name : BodyName) (body : BodyTree) (ts : List Term) (p : Part) → e.bodies name ≡ Some body → length ts ≡ body.parameters
    → SatisfiesBody (MeansAt e n) x name (map (wanted_in e v) (all_known ts)) p → Opened e v x body ts p
opened e v zero x name body ts p there number h = absurd h.2
opened e v (suc n) x name body ts p there number h =
    let of_body : SatisfiesOf e (MeansAt e n) x body h.0 p = subst (λ o. SatisfiesIf e (MeansAt e n) x o h.0 p) there h.2 in
    record {
      depth = n;
      under = of_body.under;
      sorts = of_body.sorts;
      means = arguments_mean e v of_body.under ts h.0 body.parameters (known_meet e v ts (listed h.0) h.1) number of_body.number of_body.begins;
      satisfies = of_body.satisfies;
    }

pub opening_keeps : OpeningKeeps
opening_keeps e prog st outs o locals names v p m typed =
    let t = takes_parted e v st.path o.share o.chunk o.taken m.path p m.chunks_mean in
    let x = (t.chunk).fraction in
    let head = subst₂ (λ h ts. HeadMeans e v x h ts t.off) o.head_is o.arguments_are (t.chunk).head in
    let b = opened e v head.0 x o.name o.body o.arguments t.off o.there o.number (head_body e v st.path head.0 x o.head o.name _ t.off o.of_head m.path head.1) in
    let r = produced e prog (o.body).sorts o.share x b.depth locals names (o.body).assertion (store_of o.arguments) (with_chunks st o.others) (IsAmong outs) o.produced v b.under t.off t.left p
    (record { path = m.path; locals_mean = m.locals_mean; names_mean = m.names_mean; chunks_mean = t.chunks_mean }) b.means b.sorts (t.chunk).share (t.chunk).positive b.satisfies
    (typed_left e prog t.off t.left p t.sums typed) t.sums in
    record { under = r.under; store = r.store; state = r.state; among = r.holds; stands = r.stands }

-- ---- closing
-- a value for each name: its term's, and any of its sort where it has none
completed_at : (e : Environment) (v : Valuation) (o : Option Term) (u : Value) → Value
completed_at e v None u = u
completed_at e v (Some t) u = value_in e v t

sorted_or : (e : Environment) (sorts : List Sort) → AreInhabited e sorts → (k : ℕ) (o : Option Sort) → slice_get sorts k ≡ o → Value
sorted_or e sorts h k None is = no_value
sorted_or e sorts h k (Some s) is = (h k s is).0

pub completed : (e : Environment) (v : Valuation) (sorts : List Sort) → AreInhabited e sorts → Store → Valuation
completed e v sorts h s (Numbered k) = completed_at e v (s (Numbered k)) (sorted_or e sorts h k (slice_get sorts k) refl)
completed e v sorts h s x = completed_at e v (s x) no_value

is_completed : (e : Environment) (v : Valuation) (o : Option Term) (u : Value) (t : Term) → o ≡ Some t → value_in e v t ≡ completed_at e v o u
unfolding completed_at
is_completed e v o u t h = ap (λ z. completed_at e v z u) (sym h)

pub completed_means : (e : Environment) (v : Valuation) (sorts : List Sort) (h : AreInhabited e sorts) (s : Store) → StoreMeans e v s (completed e v sorts h s)
unfolding completed
completed_means e v sorts h s (Numbered k) t is = is_completed e v (s (Numbered k)) _ t is
completed_means e v sorts h s Result t is = is_completed e v (s Result) _ t is
completed_means e v sorts h s This t is = is_completed e v (s This) _ t is
completed_means e v sorts h s CurrentThread t is = is_completed e v (s CurrentThread) _ t is

sorted_at : (e : Environment) (v : Valuation) (sorts : List Sort) (h : AreInhabited e sorts) (k : ℕ) (so : Sort) (known : slice_get sorts k ≡ Some so) (o : Option Sort) (is : slice_get sorts k ≡ o) → HasSort e (sorted_or e sorts h k o is) so
unfolding sorted_or
sorted_at e v sorts h k so known None is = none_some (sym is ∙ known)
  where
    none_some : {A B : Type 0} {x : A} → None ≡ Some x → B
    none_some e = cc
sorted_at e v sorts h k so known (Some s) is = subst (λ z. HasSort e (h k s is).0 z) (some_same (sym is ∙ known)) (h k s is).1
  where
    some_same : {A : Type 0} {x y : A} → Some x ≡ Some y → x ≡ y
    some_same e = cc

completed_sorted_at : (e : Environment) (v : Valuation) (o : Option Term) (u : Value) (so : Sort) → ((t : Term) → o ≡ Some t → HasSort e (value_in e v t) so) → HasSort e u so → HasSort e (completed_at e v o u) so
unfolding completed_at
completed_sorted_at e v None u so h k = k
completed_sorted_at e v (Some t) u so h k = h t refl

pub completed_sorted : (e : Environment) (v : Valuation) (sorts : List Sort) (h : AreInhabited e sorts) (s : Store) → StoreSorted e v sorts s → AreOfSorts e (completed e v sorts h s) sorts
unfolding completed
completed_sorted e v sorts h s so k b known =
    completed_sorted_at e v (s (Numbered k)) _ b (λ t is. so k b t is known) (sorted_at e v sorts h k b known (slice_get sorts k) refl)

pub counted_row : (us : List Value) → count (in_row us) ≡ length us
counted_row [] = refl
counted_row (u ∷ us) = ap suc (counted_row us)

pub mapped_length : (e : Environment) (v : Valuation) (ts : List Term) → length (map (value_in e v) ts) ≡ length ts
mapped_length e v [] = refl
mapped_length e v (t ∷ ts) = ap suc (mapped_length e v ts)

-- the value of a row at a place that it has
row_at : (e : Environment) (v : Valuation) (ts : List Term) (k : ℕ) → k < length ts → (t : Term) × (slice_get ts k ≡ Some t) × (value_in e v t ≡ value_at (in_row (map (value_in e v) ts)) k)
row_at e v [] k l = absurd (nowhere k l)
  where
    nowhere : (k : ℕ) → k < 0 → ⊥
    nowhere k l = omega arith
row_at e v (t ∷ ts) zero l = (t, refl, refl)
row_at e v (t ∷ ts) (suc k) l = row_at e v ts k (omega (arith, l))

-- the first names have the values of a row of terms
pub begins_row : (e : Environment) (v w : Valuation) (ts : List Term) → StoreMeans e v (store_of ts) w → BeginsWith w (in_row (map (value_in e v) ts))
begins_row e v w ts m k l =
    let at = row_at e v ts k (omega (arith, l, counted_row (map (value_in e v) ts), mapped_length e v ts)) in
    sym (m (Numbered k) at.0 at.1) ∙ at.2

none_some : {A B : Type 0} {x : A} → None ≡ Some x → B
none_some e = cc

-- the terms of the parameters have their sorts
arguments_sorted : (e : Environment) (v : Valuation) (path : List Fact) (sorts : List Sort) (ts : List Term) → AreSorted e path sorts ts → Meets e v path → StoreSorted e v sorts (store_of ts)
arguments_sorted e v path sorts ts h m k so t is known = (h k so t known is).by v m

-- the names that were bound before have the same terms, with the same values
pub still_mean : (e : Environment) (v u w : Valuation) (s r : Store) → Grows s r → ((x : Name) (t : Term) → s x ≡ Some t → value_in e u t ≡ value_in e v t) → StoreMeans e u r w → StoreMeans e v s w
still_mean e v u w s r g stays m x t h = sym (stays x t h) ∙ m x t (g x t h)

pub closing_keeps : ClosingKeeps
closing_keeps e prog st outs o locals names v p m =
    let f = (o.fraction).by v m.path in
    let x = f.0 in
    let c = consumed e prog (o.body).sorts o.share x locals names (o.body).assertion (store_of o.arguments) st (λ s st1. IsAmong outs s (with_chunk st1 (closed (head_named o.name) o.share o.arguments))) o.consumed v p m
    (arguments_sorted e v st.path (o.body).sorts o.arguments o.of_sorts m.path) f.1 in
    let w = completed e c.under (o.body).sorts o.inhabited c.store in
    let means = completed_means e c.under (o.body).sorts o.inhabited c.store in
    let before = still_mean e v c.under w (store_of o.arguments) c.store c.grows c.stays means in
    let us = map (value_in e v) o.arguments in
    let of_body : SatisfiesOf e (MeansAt e c.depth) x o.body (in_row us) c.off = record {
      under = w;
      sorts = completed_sorted e c.under (o.body).sorts o.inhabited c.store c.sorted;
      number = counted_row us ∙ mapped_length e v o.arguments ∙ o.number;
      begins = begins_row e v w o.arguments before;
      satisfies = c.satisfies w means;
    } in
    let body : SatisfiesBody (MeansAt e (suc c.depth)) x o.name (map (wanted_in e c.under) (all_known o.arguments)) c.off = (
      in_row us,
      subst₂ (λ a b. AllMeet a b) (sym (same_asked e v c.under o.arguments (λ k t h. c.stays (Numbered k) t h))) (sym (listed_row us)) (meet_known e v o.arguments),
      subst (λ b. SatisfiesIf e (MeansAt e c.depth) x b (in_row us) c.off) (sym o.there) of_body,
    ) in
    let chunk : ChunkMeans e c.under (closed (head_named o.name) o.share o.arguments) c.off = record {
      fraction = x;
      share = c.scale_is ∙ f.1;
      positive = f.2;
      head = (suc c.depth, body_head e c.under (suc c.depth) x o.name _ c.off o.openable body);
    } in
    record { under = c.under; store = c.store; state = with_chunk c.state (closed (head_named o.name) o.share o.arguments); among = c.holds; stands = with_chunk_stands e c.under c.state locals names _ c.off c.left p chunk c.sums c.stands }
