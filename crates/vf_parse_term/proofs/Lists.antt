-- What parsers of lists read is spelled.
use Rattle.std.proofs.Common.{◌≡◌, ℕ, zero, suc, ◌+◌, ◌≤◌, Bool, true, false, List, [], ◌∷◌, ◌++◌, length, Option, Some, None, Ok, Err, refl, sym, subst, ap, ◌∙◌, append_assoc, arith, inl, inr}
use Rattle.std.specs.Prelude.{max}
use Rattle.std.proofs.lemmas.List.{append-nil}
use Rattle.vf_lexer.specs.declared.punctuator.Punctuator.TheVariants.{Comma}
use Rattle.vf_lexer.specs.declared.token.Token.{Token}
use Rattle.vf_syntax.specs.declared.side.Side.TheVariants.{Ghost}
use Rattle.vf_syntax.specs.Walks.{Walk, goes_on, ◌⨾◌, head_has, is_mark, mark}
use Rattle.vf_syntax.specs.Lists.{each, behind_commas, separated, greatest}
use Rattle.vf_cursor.specs.Parsing.{Parser, ok, ◌>>=◌, mark_at, many_at, many, item_step}
use Rattle.vf_cursor.proofs.Facts.{bind_ok, ok_pair, moved, chose}
use Rattle.vf_parse_term.specs.Pieces.{behind_comma, comma_step, some_at, any_at}
use Rattle.vf_parse_term.specs.Laws.{IsSpelled}
use Rattle.vf_parse_term.proofs.Taken.{mark_sound}

-- one part and then another, told apart in two ways
assoc : (a : Option (List Token)) (f g : Walk) → goes_on (goes_on a f) g ≡ goes_on a (f ⨾ g)
assoc None f g = refl
assoc (Some ts) f g = refl

pub assoc_walk : (f g h : Walk) → ((f ⨾ g) ⨾ h) ≡ (f ⨾ g ⨾ h)
assoc_walk f g h = λ i ts. assoc (f ts) g h i

-- two parts that were taken together, and a third behind them
pub through : (f g h : Walk) (ts mid : List Token) (r : Option (List Token)) → (f ⨾ g) ts ≡ Some mid → h mid ≡ r → (f ⨾ g ⨾ h) ts ≡ r
through f g h ts mid r e k = sym (assoc (f ts) g h) ∙ rw e k

-- what the items of a list are, from those that a loop began with
pub items_sound : {A : Type 0} (p : Parser A) (w : A → Walk) (f : A → ℕ) (d : ℕ) → IsSpelled p w f d → (more : Token → Bool) (n : ℕ) (xs : List A) (ts : List Token) (ys : List A) (rest : List Token) → many_at n more (item_step p) xs ts ≡ ok ys rest
    → (zs : List A) × (ys ≡ xs ++ zs) × (each w zs ts ≡ Some rest) × (greatest f zs ≤ d)
items_sound {A = A} p w f d hp more zero xs ts ys rest e =
    moved (λ (y : List A) r. (zs : List A) × (y ≡ xs ++ zs) × (each w zs ts ≡ Some r) × (greatest f zs ≤ d)) e ([], sym (append-nil xs), refl, omega arith)
items_sound {A = A} p w f d hp more (suc n) xs ts ys rest e =
    elim (chose (head_has more ts) _ _ _ e) [
      | inl h ↦
          let a = bind_ok {r = item_step p xs ts} h.1 in
          let b = bind_ok {r = p ts} a.1 in
          let q = ok_pair (xs ++ b.0.0 ∷ []) a.0.0 b.0.1 a.0.1 b.2 in
          let s = hp ts b.0.0 b.0.1 b.1 in
          let k = items_sound p w f d hp more n a.0.0 a.0.1 ys rest a.2 in
          let spelled : each w k.0 b.0.1 ≡ Some rest = subst (λ (r : List Token). each w k.0 r ≡ Some rest) (sym q.1) k.2 in
          let joined : ys ≡ xs ++ b.0.0 ∷ k.0 = k.1 ∙ (ap (λ (y : List A). y ++ k.0) (sym q.0) ∙ append_assoc xs (b.0.0 ∷ []) k.0) in
          let least = k.3 in
          let low = s.1 in
          (b.0.0 ∷ k.0, joined, rw (s.0) spelled, omega (arith, low, least))
      | inr h ↦ moved (λ (y : List A) r. (zs : List A) × (y ≡ xs ++ zs) × (each w zs ts ≡ Some r) × (greatest f zs ≤ d)) h.1 ([], sym (append-nil xs), refl, omega arith)
    ]

pub behind_comma_sound : {A : Type 0} (p : Parser A) (w : A → Walk) (f : A → ℕ) (d : ℕ) → IsSpelled p w f d → IsSpelled (behind_comma p) (λ x. mark Ghost Comma ⨾ w x) f d
unfolding behind_comma
behind_comma_sound p w f d hp ts x rest e =
    let c = bind_ok {r = mark_at Ghost Comma ts} e in
    let m = mark_sound Ghost Comma ts c.0.0 c.0.1 c.1 in
    let s = hp c.0.1 x rest c.2 in
    (rw (m.0) (s.0), s.1)

each_commas : {A : Type 0} (w : A → Walk) (zs : List A) → each (λ x. mark Ghost Comma ⨾ w x) zs ≡ behind_commas Ghost w zs
each_commas w [] = refl
each_commas w (x ∷ zs) = assoc_walk (mark Ghost Comma) (w x) (each (λ y. mark Ghost Comma ⨾ w y) zs) ∙ ap (λ (W : Walk). mark Ghost Comma ⨾ w x ⨾ W) (each_commas w zs)

pub some_sound : {A : Type 0} (p : Parser A) (w : A → Walk) (f : A → ℕ) (d : ℕ) → IsSpelled p w f d → (ts : List Token) (xs : List A) (rest : List Token) → some_at p ts ≡ ok xs rest
    → (x : A) × (zs : List A) × (xs ≡ x ∷ zs) × (separated Ghost w (x ∷ zs) ts ≡ Some rest) × (greatest f (x ∷ zs) ≤ d)
unfolding some_at comma_step
some_sound {A = A} p w f d hp ts xs rest e =
    let a = bind_ok {r = p ts} e in
    let s = hp ts a.0.0 a.0.1 a.1 in
    let k = items_sound (behind_comma p) (λ x. mark Ghost Comma ⨾ w x) f d (behind_comma_sound p w f d hp) (is_mark Ghost Comma) (length a.0.1) ([] ++ a.0.0 ∷ []) a.0.1 xs rest a.2 in
    let others : behind_commas Ghost w k.0 a.0.1 ≡ Some rest = subst (λ (W : Walk). W a.0.1 ≡ Some rest) (each_commas w k.0) k.2 in
    let least = k.3 in
    let low = s.1 in
    (a.0.0, k.0, k.1, rw (s.0) others, omega (arith, low, least))

pub any_sound : {A : Type 0} (ends : Token → Bool) (p : Parser A) (w : A → Walk) (f : A → ℕ) (d : ℕ) → IsSpelled p w f d → (ts : List Token) (xs : List A) (rest : List Token) → any_at ends p ts ≡ ok xs rest → (separated Ghost w xs ts ≡ Some rest) × (greatest f xs ≤ d)
unfolding any_at
any_sound {A = A} ends p w f d hp ts xs rest e =
    elim (chose (head_has ends ts) _ _ _ e) [
      | inl h ↦ moved (λ (y : List A) r. (separated Ghost w y ts ≡ Some r) × (greatest f y ≤ d)) h.1 (refl, omega arith)
      | inr h ↦
          let k = some_sound p w f d hp ts xs rest h.1 in
          let same : k.0 ∷ k.1 ≡ xs = sym k.2 in
          (subst (λ (y : List A). separated Ghost w y ts ≡ Some rest) same k.3, subst (λ (y : List A). greatest f y ≤ d) same k.4)
    ]
