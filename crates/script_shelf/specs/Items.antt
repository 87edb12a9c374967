-- A field of the code by the item that it is. Assumes nothing.
use Rattle.meaning.specs.Following.{eq, app}
use Rattle.script_terms.specs.Flat.{Item, noted, differing, checking}
use Rattle.script_shelf.specs.declared.Field.{Field}
use Rattle.script_shelf.specs.declared.Field.TheVariants.{Equal, Applied, Differing, Check}

abbrev pub item_of : Field → Item
item_of (Equal a b) = noted (eq a b)
item_of (Applied a b c) = noted (app a b c)
item_of (Differing a b) = differing a b
item_of Check = checking
