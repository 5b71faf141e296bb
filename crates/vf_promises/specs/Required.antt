-- Which functions and lemmas a unit requires: they have no body in it, and bodies in it mention them or a claim stands beside them.
use Rattle.std.specs.Prelude.{ℕ, Bool, false, not, ◌||◌, ◌&&◌, if◌then◌else◌, List, [], ◌∷◌, ◌++◌, map, filter, fold, Option, Some, None}
use Rattle.vf_names.specs.Names.{put}
use Rattle.vf_declared.specs.declared.scope.Scope.{Scope}
use Rattle.vf_syntax.specs.declared.contract.Claim.{Claim}
use Rattle.vf_syntax.specs.declared.contract.Contract.{Contract}
use Rattle.vf_syntax.specs.declared.item.GhostForm.{GhostForm}
use Rattle.vf_syntax.specs.declared.item.GhostForm.TheVariants as forms
use Rattle.vf_syntax.specs.declared.item.Item.{Item}
use Rattle.vf_syntax.specs.declared.item.Item.TheVariants as items
use Rattle.vf_mentions.specs.declared.mention.Mention.{Mention}
use Rattle.vf_mentions.specs.declared.mention.Mention.TheVariants as mentions
use Rattle.vf_mentions.specs.Bodies.{mentioned_in_body, mentioned_in_lemma, parameter_names}
use Rattle.vf_promises.specs.Meanings.{is_among, is_undefined_function, is_unproved_lemma, prototype_names}

-- names, each once, in the order of their first coming
abbrev pub each_once : List (List ℕ) → List (List ℕ)
each_once xs = fold put [] xs

-- the names that are known behind a ghost item: that of a lemma is one more
abbrev pub known_with_form : List (List ℕ) → GhostForm → List (List ℕ)
known_with_form known (forms.LemmaPrototype n ts ps c) = put known n.text
known_with_form known (forms.Lemma n ts ps c b) = put known n.text
known_with_form known f = known

-- the names of functions, function types and lemmas that are known behind an item
abbrev pub known_with : List (List ℕ) → Item → List (List ℕ)
known_with known (items.FunctionType p g c) = put known g.name.text
known_with known (items.Prototype g k c) = put known g.name.text
known_with known (items.Function g k c b) = put known g.name.text
known_with known (items.Ghost x) = known_with_form known x.form
known_with known x = known

-- what items give one after the other, each by itself and by the names that are known in front of it
abbrev pub along : {A : Type 0} → (List (List ℕ) → Item → List A) → List (List ℕ) → List Item → List A
along give known [] = []
along give known (x ∷ xs) = give known x ++ along give (known_with known x) xs

-- the name that is mentioned
abbrev pub name_of : Mention → List ℕ
name_of (mentions.Function x) = x
name_of (mentions.Lemma x) = x

-- a name is that of a known function that has no body in the unit and is not the prelude's
abbrev pub is_required_function : Scope → List (List ℕ) → List ℕ → Bool
is_required_function s known x = is_among known x && is_undefined_function s x

-- a name is one of some that may be there
abbrev pub is_hidden : Option (List (List ℕ)) → List ℕ → Bool
is_hidden None x = false
is_hidden (Some names) x = is_among names x

-- what is mentioned where some names are hidden has no body in the unit and is not the prelude's; a command of an annotation may name a function in the place of a lemma, which is refused only where bodies are checked
abbrev pub is_required : Scope → List (List ℕ) → Option (List (List ℕ)) → Mention → Bool
is_required s known hidden (mentions.Function x) = not (is_hidden hidden x) && is_required_function s known x
is_required s known hidden (mentions.Lemma x) = is_unproved_lemma s x || is_required_function s known x

-- the names that are required of some that are mentioned
abbrev pub required_of : Scope → List (List ℕ) → Option (List (List ℕ)) → List Mention → List (List ℕ)
required_of s known hidden ms = map name_of (filter (is_required s known hidden) ms)

-- what a contract hides in the body behind it: one of its own hides nothing that is known, and where a body takes that of a prototype in front of it, the names of that hide functions, which may stand in another header
abbrev pub hidden_names : Scope → List (List ℕ) → List ℕ → Option Contract → Option (List (List ℕ))
hidden_names s known x (Some c) = None
hidden_names s known x None = if is_among known x then prototype_names s x else None

-- the name of a function that is required for the claim that may stand beside it
abbrev pub required_by_claim : Scope → List ℕ → Option Claim → List (List ℕ)
required_by_claim s x None = []
required_by_claim s x (Some k) = if is_undefined_function s x then x ∷ [] else []

-- the names that a ghost item requires
abbrev pub required_in_form : Scope → List (List ℕ) → GhostForm → List (List ℕ)
required_in_form s known (forms.Lemma n ts ps c b) = required_of s known (hidden_names s known n.text c) (mentioned_in_lemma b)
required_in_form s known f = []

-- the names that an item requires
abbrev pub required_in : Scope → List (List ℕ) → Item → List (List ℕ)
required_in s known (items.Prototype g k c) = required_by_claim s g.name.text k
required_in s known (items.Function g k c b) = required_by_claim s g.name.text k ++ required_of s known (hidden_names s known g.name.text c) (mentioned_in_body (parameter_names g.parameters) b)
required_in s known (items.Ghost x) = required_in_form s known x.form
required_in s known x = []

-- the names that a unit requires, each once
abbrev pub required_names : Scope → List Item → List (List ℕ)
required_names s xs = each_once (along (required_in s) [] xs)
