-- The lines of a unit's manifest.
use Rattle.std.specs.Prelude.{ℕ, Bool, true, false, not, ◌&&◌, List, [], ◌∷◌, ◌++◌, map, filter, Option, Some, None, slice_get}
use Rattle.std.specs.Str.{bytes_eq}
use Rattle.hex.specs.Hex.{encode_lower}
use Rattle.sha2.specs.Sha256.{sha256}
use Rattle.vf_snapshot.specs.declared.held.Held.{Held}
use Rattle.vf_snapshot.specs.Holdings.{Holdings, bytes_of}
use Rattle.vf_declared.specs.Scopes.{declaration_of, has}
use Rattle.vf_declared.specs.declared.scope.Scope.{Scope}
use Rattle.vf_syntax.specs.declared.contract.Claim.{Claim}
use Rattle.vf_syntax.specs.declared.item.GhostForm.{GhostForm}
use Rattle.vf_syntax.specs.declared.item.GhostForm.TheVariants as forms
use Rattle.vf_syntax.specs.declared.item.Item.{Item}
use Rattle.vf_syntax.specs.declared.item.Item.TheVariants as items
use Rattle.vf_syntax.specs.declared.written.Name.{Name}
use Rattle.vf_manifest.specs.declared.line.Line.{Line}
use Rattle.vf_manifest.specs.declared.line.Line.TheVariants.{Body, Calls, Claims, Instance, Provides, Requires, Struct, Uses}
use Rattle.vf_mentions.specs.declared.mention.Mention.{Mention}
use Rattle.vf_mentions.specs.declared.mention.Mention.TheVariants as mentions
use Rattle.vf_mentions.specs.Bodies.{mentioned_in_lemma}
use Rattle.vf_promises.specs.declared.type_names.TypeNames.{TypeNames}
use Rattle.vf_promises.specs.TypeNames.{type_names}
use Rattle.vf_promises.specs.Meanings.{identity_named, identity_tagged, is_among, is_defined_function, is_name_of_lemma, is_type_meant, path_at, signature_named}
use Rattle.vf_promises.specs.Required.{along, each_once, name_of, required_names}

-- a line where a test says yes
abbrev pub line_if : Bool → Line → List Line
line_if true l = l ∷ []
line_if false l = []

-- a name stands in a file that is no header of the prelude
abbrev pub is_own : Scope → Name → Bool
is_own s n = not (has s.preludes n.place.file)

-- the function or lemma with a name has its body here
abbrev pub provided_line : Holdings → Scope → TypeNames → List ℕ → Line
provided_line h s t x = Provides (identity_named h s x) (signature_named s t x)

-- the function or lemma with a name has its body elsewhere
abbrev pub required_line : Holdings → Scope → TypeNames → List ℕ → Line
required_line h s t x = Requires (identity_named h s x) (signature_named s t x)

-- a function with a body in the unit claims a function type, which is known there and seen from the claim
abbrev pub is_claimed : Scope → List (List ℕ) → List ℕ → Claim → Bool
is_claimed s known x k = is_defined_function s x && (is_among known k.name.text && is_type_meant (declaration_of s k.name.text k.name.place.file))

-- the line of the claim that may stand beside a function
abbrev pub claim_lines : Holdings → Scope → List (List ℕ) → List ℕ → Option Claim → List Line
claim_lines h s known x None = []
claim_lines h s known x (Some k) = line_if (is_claimed s known x k) (Claims (identity_named h s x) (identity_named h s k.name.text))

-- a mention is the call of a lemma other than this one
abbrev pub is_other_lemma : Scope → List ℕ → Mention → Bool
is_other_lemma s own (mentions.Function x) = false
is_other_lemma s own (mentions.Lemma x) = is_name_of_lemma s x && not (bytes_eq own x)

-- the names of the lemmas other than this one that are called in some mentions
abbrev pub others_called : Scope → List ℕ → List Mention → List (List ℕ)
others_called s own ms = map name_of (filter (is_other_lemma s own) ms)

-- one lemma calls another
abbrev pub call_line : Holdings → Scope → List ℕ → List ℕ → Line
call_line h s own x = Calls (identity_named h s own) (identity_named h s x)

-- the lines of the calls in the body of a lemma, one for each other lemma
abbrev pub call_lines : Holdings → Scope → List ℕ → List Mention → List Line
call_lines h s own ms = map (call_line h s own) (each_once (others_called s own ms))

-- the body of a predicate stands in a file that is no header of the prelude
abbrev pub body_lines : Holdings → Scope → Name → List Line
body_lines h s n = line_if (is_own s n) (Body (identity_named h s n.text) (path_at h n.place.file))

-- a body of a family for a function stands in a file
abbrev pub instance_line : Holdings → Scope → Name → Name → Line
instance_line h s n f = Instance (identity_named h s n.text) (identity_named h s f.text) (path_at h n.place.file)

-- the fields of a struct stand in a file that is no header of the prelude
abbrev pub struct_lines : Holdings → Scope → Name → List Line
struct_lines h s n = line_if (is_own s n) (Struct (identity_tagged h s n.text) (path_at h n.place.file))

-- the lines of a ghost item: of the body of a predicate, of an instance of a family, and of a lemma with its body
abbrev pub form_lines : Holdings → Scope → TypeNames → GhostForm → List Line
form_lines h s t (forms.PredicateBody n ps a) = body_lines h s n
form_lines h s t (forms.Instance n f ps a) = instance_line h s n f ∷ []
form_lines h s t (forms.Lemma n ts ps c b) = provided_line h s t n.text ∷ call_lines h s n.text (mentioned_in_lemma b)
form_lines h s t f = []

-- the lines of an item but for what it requires: of a struct with its fields, of the claim of a function, and of a function with its body
abbrev pub item_lines : Holdings → Scope → TypeNames → List (List ℕ) → Item → List Line
item_lines h s t known (items.Struct p n fs) = struct_lines h s n
item_lines h s t known (items.Prototype g k c) = claim_lines h s known g.name.text k
item_lines h s t known (items.Function g k c b) = provided_line h s t g.name.text ∷ claim_lines h s known g.name.text k
item_lines h s t known (items.Ghost x) = form_lines h s t x.form
item_lines h s t known x = []

-- the bytes of what is held, none where nothing is
abbrev pub held_bytes : Option (List ℕ × Held) → List ℕ
held_bytes None = []
held_bytes (Some e) = bytes_of e.1

-- a header was read, and its bytes have this digest
abbrev pub used_line : Holdings → ℕ → Line
used_line h n = Uses (path_at h n) (encode_lower (sha256 (held_bytes (slice_get h n))))

-- the lines of the headers that are not the prelude's
abbrev pub used_lines : Holdings → Scope → List ℕ → List Line
used_lines h s headers = map (used_line h) (filter (λ n. not (has s.preludes n)) headers)

-- the lines of the manifest of a unit with these headers and items, behind which a scope says what is declared: those of its items in the order of the text, then one for each name that it requires, then one for each header
abbrev pub lines_of : Holdings → Scope → List ℕ → List Item → List Line
lines_of h s headers xs = along (item_lines h s (type_names s)) [] xs ++ (map (required_line h s (type_names s)) (required_names s xs) ++ used_lines h s headers)
