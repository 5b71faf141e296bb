-- Which manifests link, and otherwise the first clause that fails.
use Rattle.std.specs.Prelude.{◌≡◌, ◌≢◌, ◌⊎◌, ℕ, ◌<◌, Bool, true, false, ◌||◌, List, ◌∷◌, ◌++◌, Some, slice_get, Contains, count_by, codes}
use Rattle.std.specs.Str.{bytes_eq}
use Rattle.vf_cycles.specs.Reaching.{Reaches}
use Rattle.vf_cycles.specs.Graphs.{EachOnce}
use Rattle.vf_manifest.specs.declared.line.Line.{Line}
use Rattle.vf_manifest.specs.declared.line.Line.TheVariants as lines
use Rattle.vf_manifest.specs.Identities.{Identity}
use Rattle.vf_manifest.specs.Words.{identity_text}
use Rattle.vf_link.specs.declared.statement.Topic.TheVariants.{Bodies, Calls, Instances, Provided, Required, Structs, Uses}
use Rattle.vf_link.specs.Statements.{Statement}
use Rattle.vf_link.specs.declared.refusal.LinkRefusal.{LinkRefusal}
use Rattle.vf_link.specs.declared.refusal.LinkRefusal.TheVariants as refusals
use Rattle.vf_link.specs.declared.refusal.LinkFault.{LinkFault}
use Rattle.vf_link.specs.declared.refusal.LinkFault.TheVariants as faults
use Rattle.vf_link.specs.Statements.{statements, subjects, contents, shown, provides_main}
use Rattle.vf_link.specs.Least.{IsLeast, HasNone}

-- ---- what a clause forbids, each over the lines of all manifests

-- how many times a main is provided
abbrev pub mains : List Line → ℕ
mains ls = count_by provides_main ls

-- a text stands at two places among texts
pub record StandsTwice (texts : List (List ℕ)) (text : List ℕ) : Type 0 where
  pub first : ℕ
  pub second : ℕ
  pub order : first < second
  pub one : slice_get texts first ≡ Some text
  pub other : slice_get texts second ≡ Some text

-- an identity is provided twice
abbrev pub IsProvidedTwice : List Line → List ℕ → Type 0
IsProvidedTwice ls x = StandsTwice (subjects (statements Provided ls)) x

-- two statements say different things of one subject, of which this is shown
pub record Differ (show : List ℕ → List ℕ) (xs : List Statement) (text : List ℕ) : Type 0 where
  pub one : Statement
  pub other : Statement
  pub one_in : Contains xs one
  pub other_in : Contains xs other
  pub same : one.subject ≡ other.subject
  pub apart : one.content ≢ other.content
  pub shown : text ≡ show one.subject

-- the body of a predicate or of a struct, or the instance of a family at a function, stands in two files
abbrev pub HasTwoBodies : List Line → List ℕ → Type 0
HasTwoBodies ls x = Differ (shown Bodies) (statements Bodies ls) x
    ⊎ (Differ (shown Structs) (statements Structs ls) x ⊎ Differ (shown Instances) (statements Instances ls) x)

-- a header has two digests
abbrev pub HasTwoDigests : List Line → List ℕ → Type 0
HasTwoDigests ls x = Differ (shown Uses) (statements Uses ls) x

-- an identity is required and not provided
pub record IsUnmet (ls : List Line) (x : List ℕ) : Type 0 where
  pub required : Contains (subjects (statements Required ls)) x
  pub missing : Contains (subjects (statements Provided ls)) x → ⊥

-- two signatures agree: they are the same, or one is not told
abbrev pub agree : List ℕ → List ℕ → Bool
agree s t = bytes_eq s (codes "?") || (bytes_eq t (codes "?") || bytes_eq s t)

-- an identity is provided with a signature that does not agree with one with which it is required
pub record HasOtherSignature (ls : List Line) (x : List ℕ) : Type 0 where
  pub given : Statement
  pub wanted : Statement
  pub given_in : Contains (statements Provided ls) given
  pub wanted_in : Contains (statements Required ls) wanted
  pub of_given : given.subject ≡ x
  pub of_wanted : wanted.subject ≡ x
  pub apart : agree given.content wanted.content ≡ false

-- a lemma calls another one
abbrev pub CallsLemma : List Line → List ℕ → List ℕ → Type 0
CallsLemma ls a b = Contains (statements Calls ls) (record { subject = a; content = b })

-- a lemma calls itself, directly or through others
abbrev pub CallsItself : List Line → List ℕ → Type 0
CallsItself ls x = Reaches (CallsLemma ls) x x

-- ---- the clauses in their order

-- just one main is provided
abbrev pub HasOneMain : List Line → Type 0
HasOneMain ls = mains ls ≡ 1

-- and each identity is provided once at most
abbrev pub ProvidesOnce : List Line → Type 0
ProvidesOnce ls = HasOneMain ls × HasNone (IsProvidedTwice ls)

-- and each body stands in one file at most
abbrev pub HasOneFileEach : List Line → Type 0
HasOneFileEach ls = ProvidesOnce ls × HasNone (HasTwoBodies ls)

-- and each header has one digest at most
abbrev pub HasOneDigestEach : List Line → Type 0
HasOneDigestEach ls = HasOneFileEach ls × HasNone (HasTwoDigests ls)

-- and what is required is provided
abbrev pub MeetsAll : List Line → Type 0
MeetsAll ls = HasOneDigestEach ls × HasNone (IsUnmet ls)

-- and with a signature that agrees
abbrev pub SignaturesAgree : List Line → Type 0
SignaturesAgree ls = MeetsAll ls × HasNone (HasOtherSignature ls)

-- manifests with these lines link: all clauses hold, and no lemma calls itself
abbrev pub Links : List Line → Type 0
Links ls = SignaturesAgree ls × HasNone (CallsItself ls)

-- manifests with these lines do not link: this clause is the first that fails, with the count or the least text that fails it
abbrev pub IsRefusal : List Line → LinkRefusal → Type 0
IsRefusal ls (refusals.NoMain count) = (count ≡ mains ls) × (count ≢ 1)
IsRefusal ls (refusals.Duplicate identity) = HasOneMain ls × IsLeast (IsProvidedTwice ls) identity
IsRefusal ls (refusals.TwoBodies identity) = ProvidesOnce ls × IsLeast (HasTwoBodies ls) identity
IsRefusal ls (refusals.HeaderDiffers path) = HasOneFileEach ls × IsLeast (HasTwoDigests ls) path
IsRefusal ls (refusals.Unmet identity) = HasOneDigestEach ls × IsLeast (IsUnmet ls) identity
IsRefusal ls (refusals.Signature identity) = MeetsAll ls × IsLeast (HasOtherSignature ls) identity
IsRefusal ls (refusals.LemmaCycle identity) = SignaturesAgree ls × IsLeast (CallsItself ls) identity

-- the fact for the refusal of a fault
abbrev pub IfRefused : LinkFault → (LinkRefusal → Type 0) → Type 0
IfRefused (faults.Refused refusal) P = P refusal
IfRefused faults.Memory P = Unit {0}

-- ---- what is known of manifests that link

-- a line provides a main with this identity
pub record ProvidesMain (l : Line) (name : Identity) : Type 0 where
  pub signature : List ℕ
  pub provided : l ≡ lines.Provides name signature
  pub is_main : provides_main l ≡ true

-- the manifest with this number provides the main with this identity
pub record IsMain (manifests : List (List Line)) (at : ℕ) (identity : List ℕ) : Type 0 where
  pub manifest : List Line
  pub there : slice_get manifests at ≡ Some manifest
  pub line : Line
  pub inside : Contains manifest line
  pub name : Identity
  pub main : ProvidesMain line name
  pub is : identity ≡ identity_text name

-- each lemma that calls or is called stands in a list, once, and behind all that it calls
pub record IsCallOrder (ls : List Line) (order : List (List ℕ)) : Type 0 where
  pub calls : (x : List ℕ) → Contains order x → Contains (subjects (statements Calls ls)) x ⊎ Contains (contents (statements Calls ls)) x
  pub callers : (x : List ℕ) → Contains (subjects (statements Calls ls)) x → Contains order x
  pub callees : (x : List ℕ) → Contains (contents (statements Calls ls)) x → Contains order x
  pub once : EachOnce order
  pub back : (before after : List (List ℕ)) (a b : List ℕ) → order ≡ before ++ a ∷ after → CallsLemma ls a b → Contains before b
