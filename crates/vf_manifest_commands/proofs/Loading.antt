-- Manifests that are read one after the other.
use Rattle.std.proofs.Common.{◌≡◌, ◌∙◌, refl, sym, ap, subst, ℕ, ◌+◌, ◌<◌, List, [], ◌∷◌, ◌++◌, length, take, get_or, Contains, Some, None, IfSome, Err, IsErrOf, arith}
use Rattle.std.specs.FinMap.{get}
use Rattle.std.specs.Borrow.{Bor}
use Rattle.std.proofs.lemmas.List.{take_more, map-append, length-map, get_or-map, get_or_default}
use Rattle.vf_base.specs.Outside.{Contents, FileMap, IsAbsent}
use Rattle.vf_base.specs.declared.rule.Rule.{Rule}
use Rattle.vf_base.specs.declared.refusal.Shown.{Shown}
use Rattle.vf_link.specs.Statements.{all_lines}
use Rattle.vf_link.specs.Linking.{IsRefusal}
use Rattle.vf_link.specs.Refusals.{rule_of, shown_of}
use Rattle.vf_link.specs.declared.refusal.LinkRefusal.{LinkRefusal}
use Rattle.vf_report.specs.declared.status.Status.TheVariants as statuses
use Rattle.vf_report.specs.Lines.{unlinked_line}
use Rattle.vf_manifest.specs.declared.line.Line.{Line}
use Rattle.vf_words.specs.Positionals.{texts}
use Rattle.vf_report.specs.declared.status.Stop.{Stop}
use Rattle.vf_report.specs.declared.status.Stop.TheVariants as stops
use Rattle.vf_report.specs.Loaded.{HasManifest, HasNoManifest}
use Rattle.vf_manifest_commands.specs.Manifests.{HasOne, HasUnreadable, HaveManifests, LacksManifest, LinkPrints}
use Rattle.vf_manifest_commands.specs.Manifests as manifests

-- and one more
behind : {m : FileMap} {paths : List (List ℕ)} {ms : List (List Line)} {path : List ℕ} {lines : List Line} → HaveManifests m paths ms → HasManifest m path lines → HaveManifests m (paths ++ path ∷ []) (ms ++ lines ∷ [])
behind manifests.none h = manifests.more h manifests.none
behind (manifests.more k rest) h = manifests.more k (behind rest h)

-- the word at a place that is within, as a loop reads it
abbrev pub word : List (Bor (List ℕ)) → ℕ → Bor (List ℕ)
word words k = get_or words k (record { ref_ptr = (0, 0); now = [] })

pub word_at : (words : List (Bor (List ℕ))) (k : ℕ) → k < length words → get_or words k (word words k) ≡ word words k
word_at words k low = get_or_default words k (word words k) (record { ref_ptr = (0, 0); now = [] }) low

-- the texts of one word more
texts_more : (words : List (Bor (List ℕ))) (k : ℕ) (w : Bor (List ℕ)) → k < length words → get_or words k w ≡ w → texts (take (k + 1) words) ≡ texts (take k words) ++ w.now ∷ []
texts_more words k w low is =
    ap texts (take_more words k w low)
    ∙ map-append (λ (x : Bor (List ℕ)). x.now) (take k words) (get_or words k w ∷ [])
    ∙ ap (λ x. texts (take k words) ++ x.now ∷ []) is

-- one manifest more was read
pub loaded : (contents now : Contents) (words : List (Bor (List ℕ))) (k : ℕ) (w : Bor (List ℕ)) (path : List ℕ) (ms new : List (List Line)) (lines : List Line) → k < length words → get_or words k w ≡ w → path ≡ w.now → now ≡ contents → new ≡ ms ++ lines ∷ []
    → IfSome contents (λ m. HaveManifests m (texts (take k words)) ms) → IfSome now (λ m. HasManifest m path lines) → IfSome contents (λ m. HaveManifests m (texts (take (k + 1) words)) new)
loaded None now words k w path ms new lines low is named same pushed h one = tt
loaded (Some m) now words k w path ms new lines low is named same pushed h one =
    let told : HasManifest m path lines = subst (λ (c : Contents). IfSome c (λ n. HasManifest n path lines)) same one in
    let all : HaveManifests m (texts (take k words) ++ w.now ∷ []) (ms ++ lines ∷ []) = behind h (subst (λ p. HasManifest m p lines) named told) in
    subst (λ t. HaveManifests m t new) (sym (texts_more words k w low is)) (subst (HaveManifests m (texts (take k words) ++ w.now ∷ [])) (sym pushed) all)

-- a word is among the texts
among : (words : List (Bor (List ℕ))) (k : ℕ) (w : Bor (List ℕ)) → k < length words → get_or words k w ≡ w → Contains (texts words) (w.now)
among words k w low is = (k, omega (arith, low, length-map words (λ (x : Bor (List ℕ)). x.now)), get_or-map (λ (x : Bor (List ℕ)). x.now) words k w (w.now) low ∙ ap (λ x. x.now) is)

-- one file has no manifest
pub unreadable : (contents now : Contents) (words : List (Bor (List ℕ))) (k : ℕ) (w : Bor (List ℕ)) (path : List ℕ) → k < length words → get_or words k w ≡ w → path ≡ w.now → now ≡ contents
    → IfSome now (λ m. HasNoManifest m path) → IfSome contents (λ m. HasUnreadable m (texts words))
unreadable None now words k w path low is named same h = tt
unreadable (Some m) now words k w path low is named same h = record {
  path = w.now;
  among = among words k w low is;
  fails = subst (HasNoManifest m) named (subst (λ (c : Contents). IfSome c (λ n. HasNoManifest n path)) same h);
}

-- one file is not there
pub lacking : (contents now : Contents) (words : List (Bor (List ℕ))) (k : ℕ) (w : Bor (List ℕ)) (path : List ℕ) → k < length words → get_or words k w ≡ w → path ≡ w.now → now ≡ contents
    → IsAbsent now path → IfSome contents (λ m. LacksManifest m (texts words))
lacking None now words k w path low is named same h = tt
lacking (Some m) now words k w path low is named same h = record {
  path = w.now;
  among = among words k w low is;
  fails = subst (λ p. get m p ≡ None) named (subst (λ (c : Contents). IsAbsent c path) same h);
}

-- no manifest was read yet
pub begun : (contents : Contents) (ms : List (List Line)) → ms ≡ [] → IfSome contents (λ m. HaveManifests m [] ms)
begun None ms none = tt
begun (Some m) ms none = subst (HaveManifests m []) (sym none) manifests.none

-- a stop of one call is a stop of another
pub stopped_missing : {A B : Type 0} (s : Stop) → IsErrOf {T = A} (Err s) stops.Missing → IsErrOf {T = B} (Err s) stops.Missing
stopped_missing stops.Missing e = refl
stopped_missing stops.ReadFault e = absurd cc
stopped_missing stops.Unreadable e = absurd cc
stopped_missing stops.Memory e = absurd cc

pub stopped_unreadable : {A B : Type 0} (s : Stop) → IsErrOf {T = A} (Err s) stops.Unreadable → IsErrOf {T = B} (Err s) stops.Unreadable
stopped_unreadable stops.Unreadable e = refl
stopped_unreadable stops.ReadFault e = absurd cc
stopped_unreadable stops.Missing e = absurd cc
stopped_unreadable stops.Memory e = absurd cc

-- what is printed of manifests that do not link
pub refused_line : (ms : List (List Line)) (refusal : LinkRefusal) (rule : Rule) (shown : Shown) (old new : List ℕ) → rule ≡ rule_of refusal → shown ≡ shown_of refusal → old ≡ [] → new ≡ old ++ unlinked_line rule shown
    → IsRefusal (all_lines ms) refusal → LinkPrints ms statuses.LinkRefused new
refused_line ms refusal rule shown old new rule_is shown_is none is h =
    subst (LinkPrints ms statuses.LinkRefused) (sym (is ∙ ap (λ (t : List ℕ). t ++ unlinked_line rule shown) none ∙ ap (λ (r : Rule). unlinked_line r shown) rule_is ∙ ap (unlinked_line (rule_of refusal)) shown_is)) (manifests.refused refusal h)
