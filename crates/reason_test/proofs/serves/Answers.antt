-- `reason_test::serves` meets its contract: the closure decides whether the list entails, and then each number is left out once.
-- Assumes nothing.
use Rattle.reason_test.proofs.Lists.{named-listing, named-after, entailed-after, not-serving, serving}
use Rattle.reason_test.proofs.serves.Goals as goal

pub entails-requires : goal.entails-requires
entails-requires c = (named-listing c.requires, c.requires.posed.from, c.requires.posed.to)

pub tight-requires : goal.tight-requires
tight-requires c = (named-after c.args.q c.requires.few c.entails.ensures c.requires, entailed-after c.args.q c.requires.few c.entails.ensures c.if-entails.true)

pub returns-then-entails : goal.returns-then-entails
returns-then-entails c = serving c.args.q c.requires.few c.entails.ensures c.if-entails.true c.tight.ensures

pub returns-else-entails : goal.returns-else-entails
returns-else-entails c = not-serving c.args.q c.requires.few c.entails.ensures c.if-entails.false
