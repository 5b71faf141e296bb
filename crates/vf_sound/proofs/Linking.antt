-- One unit, linked.
use Rattle.std.proofs.Common.{◌≡◌, zero, suc, [], ◌∷◌, Some, None, refl, subst, arith}
use Rattle.std.specs.Prelude.{Contains, IsTrue}
use Rattle.vf_meaning.specs.Assertions.{Environment}
use Rattle.vf_meaning.specs.Environments.{Extends, SomeUnit}
use Rattle.vf_sound.specs.Environment.{environment_of}
use Rattle.vf_sound.specs.Laws.{OneUnitLinks}

none_some : {A B : Type 0} {x : A} → None ≡ Some x → B
none_some e = cc

pub extends_itself : (e : Environment) → Extends e e
extends_itself e = record {
  constructors = λ c k h. h;
  fixpoints = λ k h. h;
  claims = λ g t h. h;
  predicates = λ q k h. h;
  bodies = λ b k h. h;
  functions = λ g k h. h;
  prototypes = λ g k h. h;
  types = λ t k h. h;
  called = λ g n t h. h;
  leaks = λ text h. h;
  calls = λ text g h. h;
}

only_one : (e u : Environment) → Contains (e ∷ []) u → e ≡ u
only_one e u (zero, low, is) = is
only_one e u (suc k, low, is) = absurd (omega arith)

the_unit : (e : Environment) (P : Environment → Type 0) → P e → SomeUnit (e ∷ []) P
the_unit e P h = (e, (0, omega arith, refl), h)

pub one_unit_links : OneUnitLinks
one_unit_links core = record {
  all = λ u h. subst (λ x. Extends x (environment_of core)) (only_one (environment_of core) u h) (extends_itself (environment_of core));
  ordered = tt;
  closed = λ u h c d k j is of same. none_some is;
  constructors = λ c k h. the_unit (environment_of core) (λ u. u.constructors c ≡ Some k) h;
  fixpoints = λ k h. the_unit (environment_of core) (λ u. Contains u.fixpoints k) h;
  claims = λ g t h. the_unit (environment_of core) (λ u. IsTrue (u.claims g t)) h;
  predicates = λ q k h. the_unit (environment_of core) (λ u. u.predicates q ≡ Some k) h;
  bodies = λ b k h. the_unit (environment_of core) (λ u. u.bodies b ≡ Some k) h;
  functions = λ g k h. the_unit (environment_of core) (λ u. u.functions g ≡ Some k) h;
  prototypes = λ g k h. the_unit (environment_of core) (λ u. u.prototypes g ≡ Some k) h;
  types = λ t k h. the_unit (environment_of core) (λ u. u.types t ≡ Some k) h;
  called = λ g n t h. the_unit (environment_of core) (λ u. u.called g n ≡ Some t) h;
  leaks = λ text h. the_unit (environment_of core) (λ u. IsTrue (u.leaks text)) h;
  calls = λ text g h. the_unit (environment_of core) (λ u. IsTrue (u.calls text g)) h;
}
