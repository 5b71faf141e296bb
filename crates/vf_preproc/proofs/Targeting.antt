-- Folders of paths, the end of an include, and paths as texts.
use Rattle.std.proofs.Common.{◌≡◌, ◌≢◌, ℕ, zero, suc, ◌+◌, ◌<◌, ◌≤◌, arith, refl, sym, ap, subst, ◌∙◌, Bool, true, false, cond, List, [], ◌∷◌, ◌++◌, length, take, drop, get_or, nat_eq, add-one, length-drop, ◌-◌, Option, Some, None, ◌&&◌, ◌||◌, slice_index, option_map}
use Rattle.std.specs.List.{list_any, list_all}
use Rattle.std.proofs.lemmas.Bool.{cond-true, eq-eqb, eqb-true}
use Rattle.std.proofs.lemmas.Bool.Decides.{leb_tells}
use Rattle.std.proofs.lemmas.List.Folds.{list_any-append}
use Rattle.std.proofs.Math.Seq.{take-suc}
use Rattle.std.proofs.lemmas.List.{take_all}
use Rattle.vf_lexer.specs.declared.token.Token.{Token}
use Rattle.vf_preproc.specs.Targets.{folder_of, closing, is_greater_kind, is_literal_kind, is_less_kind, is_ascii, is_path_byte, is_scoped, target, quoted_target, angle_target, closed_target, between, between_quotes}
use Rattle.vf_preproc.specs.Directives.{no_directive}
use Rattle.vf_base.specs.declared.place.Place.{Place}

or_true : (a : Bool) → (a || (true || false)) ≡ true
or_true true = refl
or_true false = refl

or_false : (a : Bool) → (a || (false || false)) ≡ a
or_false true = refl
or_false false = refl

under : (a b : Bool) → (b ≡ true) → (a || b) ≡ true
under true b h = refl
under false b h = h

-- a slash behind a path makes all of it a folder
pub folder-slash : (xs : List ℕ) (b : ℕ) → nat_eq 47 b ≡ true → folder_of (xs ++ b ∷ []) ≡ xs ++ b ∷ []
folder-slash [] b h = rw h refl
folder-slash (x ∷ xs) b h =
    let more : list_any (nat_eq 47) (xs ++ b ∷ []) ≡ true = list_any-append (nat_eq 47) xs (b ∷ []) ∙ ap (λ c. list_any (nat_eq 47) xs || (c || false)) h ∙ or_true (list_any (nat_eq 47) xs) in
    cond-true (nat_eq 47 x || list_any (nat_eq 47) (xs ++ b ∷ [])) (x ∷ folder_of (xs ++ b ∷ [])) [] (under (nat_eq 47 x) (list_any (nat_eq 47) (xs ++ b ∷ [])) more) ∙ ap (λ ys. x ∷ ys) (folder-slash xs b h)

-- another byte behind a path leaves its folder
pub folder-other : (xs : List ℕ) (b : ℕ) → nat_eq 47 b ≡ false → folder_of (xs ++ b ∷ []) ≡ folder_of xs
folder-other [] b h = rw h refl
folder-other (x ∷ xs) b h =
    let same : list_any (nat_eq 47) (xs ++ b ∷ []) ≡ list_any (nat_eq 47) xs = list_any-append (nat_eq 47) xs (b ∷ []) ∙ ap (λ c. list_any (nat_eq 47) xs || (c || false)) h ∙ or_false (list_any (nat_eq 47) xs) in
    ap (λ c. cond (nat_eq 47 x || c) (x ∷ folder_of (xs ++ b ∷ [])) []) same ∙ ap (λ ys. cond (nat_eq 47 x || list_any (nat_eq 47) xs) (x ∷ ys) []) (folder-other xs b h)

-- the next byte of a path
pub folder-take-slash : (path : List ℕ) (n d : ℕ) → n < length path → get_or path n d ≡ 47 → folder_of (take (n + 1) path) ≡ take (n + 1) path
folder-take-slash path n d within is =
    let cut : take (n + 1) path ≡ take n path ++ get_or path n d ∷ [] = rw add-one (take-suc path n d within) in
    ap folder_of cut ∙ folder-slash (take n path) (get_or path n d) (eq-eqb 47 (get_or path n d) (sym is)) ∙ sym cut

is_not : (a b : ℕ) → a ≢ b → nat_eq b a ≡ false
is_not a b apart = elim (nat_eq b a) as (λ v. nat_eq b a ≡ v → v ≡ false) [ true ↦ λ e. absurd (apart (sym (eqb-true b a e))) | false ↦ λ e. refl ] refl

pub folder-take-other : (path : List ℕ) (n d : ℕ) → n < length path → get_or path n d ≢ 47 → folder_of (take (n + 1) path) ≡ folder_of (take n path)
folder-take-other path n d within apart =
    let cut : take (n + 1) path ≡ take n path ++ get_or path n d ∷ [] = rw add-one (take-suc path n d within) in
    ap folder_of cut ∙ folder-other (take n path) (get_or path n d) (is_not (get_or path n d) 47 apart)

-- the last token is the one that ends them
pub closing_last : (ts : List Token) (n : ℕ) (d : Token) → n + 1 ≡ length ts → is_greater_kind (get_or ts n d).kind ≡ true → closing (drop n ts) ≡ Some (get_or ts n d)
closing_last [] n d size h = absurd (omega arith)
closing_last (t ∷ []) zero d size h = rw h refl
closing_last (t ∷ u ∷ us) zero d size h = absurd (omega arith)
closing_last (t ∷ ts) (suc n) d size h = closing_last ts n d (omega arith) h

-- where `>` comes before, they are not ended by their only one
pub closing_inner : (ts : List Token) (n : ℕ) (d : Token) → n + 1 < length ts → is_greater_kind (get_or ts n d).kind ≡ true → closing (drop n ts) ≡ None
closing_inner [] n d size h = absurd (omega arith)
closing_inner (t ∷ []) zero d size h = absurd (omega arith)
closing_inner (t ∷ u ∷ us) zero d size h = rw h refl
closing_inner (t ∷ ts) (suc n) d size h = closing_inner ts n d (omega arith) h

-- another token is passed
pub closing_other : (ts : List Token) (n : ℕ) (d : Token) → n < length ts → is_greater_kind (get_or ts n d).kind ≡ false → closing (drop n ts) ≡ closing (drop (n + 1) ts)
closing_other [] n d size h = absurd (omega arith)
closing_other (t ∷ []) zero d size h = rw h refl
closing_other (t ∷ u ∷ us) zero d size h = rw h refl
closing_other (t ∷ ts) (suc n) d size h = let more : suc n + 1 ≡ suc (n + 1) = omega arith in rw more (closing_other ts n d (omega arith) h)

and_left : (a b : Bool) → (a && b) ≡ true → a ≡ true
and_left true b h = refl
and_left false b h = absurd cc

and_right : (a b : Bool) → (a && b) ≡ true → b ≡ true
and_right true b h = h
and_right false b h = absurd cc

below : (b : ℕ) → is_ascii b ≡ true → b < 128
below b h = grind (arith, leb_tells)

-- bytes of ASCII are a text of ASCII
pub all_ascii : (bs : List ℕ) → list_all is_ascii bs ≡ true → (i : ℕ) → slice_index bs i < 128
all_ascii [] h zero = omega arith
all_ascii [] h (suc i) = omega arith
all_ascii (b ∷ bs) h zero = below b (and_left (is_ascii b) (list_all is_ascii bs) h)
all_ascii (b ∷ bs) h (suc i) = all_ascii bs (and_right (is_ascii b) (list_all is_ascii bs) h) i

path_byte_ascii : (b : ℕ) → is_path_byte b ≡ true → is_ascii b ≡ true
path_byte_ascii b h = grind (arith, leb_tells)

both : (a b : Bool) → a ≡ true → b ≡ true → (a && b) ≡ true
both true b h k = k
both false b h k = absurd cc

-- what may stand in a path is of ASCII
pub scoped_ascii : (path : List ℕ) → is_scoped path ≡ true → list_all is_ascii path ≡ true
scoped_ascii [] h = refl
scoped_ascii (b ∷ bs) h = both (is_ascii b) (list_all is_ascii bs) (path_byte_ascii b (and_left (is_path_byte b) (is_scoped bs) h)) (scoped_ascii bs (and_right (is_path_byte b) (is_scoped bs) h))

-- an include of a text between quotes
pub target_quoted : (ghost : Bool) (file bytes : List ℕ) (hash : Place) (ws : List Token) (first : Token) → 2 ≤ length ws → length ws < 3 → first ≡ get_or ws 1 first → is_literal_kind first.kind ≡ true
    → target ghost file bytes hash ws ≡ quoted_target ghost file hash (between_quotes first.text)
target_quoted ghost file bytes hash [] first a b is h = absurd (omega arith)
target_quoted ghost file bytes hash (w ∷ []) first a b is h = absurd (omega arith)
target_quoted ghost file bytes hash (w ∷ f ∷ []) first a b is h =
    let same : f ≡ first = sym is in
    subst (λ t. target ghost file bytes hash (w ∷ t ∷ []) ≡ quoted_target ghost file hash (between_quotes first.text)) (sym same) (cond-true (is_literal_kind first.kind) (quoted_target ghost file hash (between_quotes first.text)) (no_directive hash) h)
target_quoted ghost file bytes hash (w ∷ f ∷ g ∷ gs) first a b is h = absurd (omega arith)

-- an include of a name between `<` and `>`
pub target_angle : (ghost : Bool) (file bytes : List ℕ) (hash : Place) (ws : List Token) (first : Token) → 2 < length ws → first ≡ get_or ws 1 first → is_less_kind first.kind ≡ true
    → target ghost file bytes hash ws ≡ closed_target ghost bytes hash first (closing (drop 2 ws))
target_angle ghost file bytes hash [] first a is h = absurd (omega arith)
target_angle ghost file bytes hash (w ∷ []) first a is h = absurd (omega arith)
target_angle ghost file bytes hash (w ∷ f ∷ []) first a is h = absurd (omega arith)
target_angle ghost file bytes hash (w ∷ f ∷ g ∷ gs) first a is h =
    let same : f ≡ first = sym is in
    subst (λ t. target ghost file bytes hash (w ∷ t ∷ g ∷ gs) ≡ closed_target ghost bytes hash first (closing (g ∷ gs))) (sym same) (cond-true (is_less_kind first.kind) (closed_target ghost bytes hash first (closing (g ∷ gs))) (no_directive hash) h)

-- the place where the closing `>` begins
pub closed_some : (ghost : Bool) (bytes : List ℕ) (hash : Place) (first : Token) (o : Option Token) (to : ℕ) → Some to ≡ option_map (λ (t : Token). t.start) o → closed_target ghost bytes hash first o ≡ angle_target ghost hash (between bytes first.«end» to)
closed_some ghost bytes hash first None to h = absurd cc
closed_some ghost bytes hash first (Some t) to h = let same : to ≡ t.start = cc in ap (λ n. angle_target ghost hash (between bytes first.«end» n)) (sym same)

pub closed_none : (ghost : Bool) (bytes : List ℕ) (hash : Place) (first : Token) (o : Option Token) → None ≡ option_map (λ (t : Token). t.start) o → closed_target ghost bytes hash first o ≡ no_directive hash
closed_none ghost bytes hash first None h = refl
closed_none ghost bytes hash first (Some t) h = absurd cc

-- the rest behind two tokens
pub rest_all : (ws : List Token) → take (length ws - 2) (drop 2 ws) ≡ drop 2 ws
rest_all ws = take_all (length ws - 2) (drop 2 ws) (omega (arith, length-drop 2 ws))
