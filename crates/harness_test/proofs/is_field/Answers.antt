-- `harness_test::is_field` meets its contract: a field has one kind and one length.
-- Assumes nothing.
use mathlib.Core.Path.{refl}
use Rattle.meaning.proofs.Tests.{is-not, is-so}
use Rattle.harness_test.proofs.Stands.{front-field, front_cut, fields-one, field-same}
use Rattle.harness_test.proofs.is_field.Goals as goal

pub returns-then-k-kind : goal.returns-then-k-kind
returns-then-k-kind c = is-not (λ f. c.if-k-kind.true (fields-one (front-field c.in-Some.ensures refl) f).0)

pub returns-in-None : goal.returns-in-None
returns-in-None c = is-not (front_cut c.in-None.ensures refl)

pub returns-else-k-kind : goal.returns-else-k-kind
returns-else-k-kind c = is-so _ _ (λ e. field-same (front-field c.in-Some.ensures refl) c.if-k-kind.false e) (λ f. (fields-one (front-field c.in-Some.ensures refl) f).1)
