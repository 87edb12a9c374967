-- What the code answers: whether all of a text is there once it is put into a room of bytes.
-- Assumes nothing.
use Rattle.std.specs.Prelude.{ℕ, ◌≤◌, ◌<◌, ◌≡◌, List, ◌++◌, length, take, drop, Option, Some, None}
use Rattle.job_field.specs.Items.{Head, Item, accepted}
use Rattle.job_field.specs.Reading.{reading}

-- The whole text stands at the room's front and every byte behind it is as it was; or the text is longer than the room, which then
-- holds as much of it as there is room for.
pub data Tells (text room room' : List ℕ) : Option ℕ → Type 0 where
  whole : {n : ℕ} → n ≡ length text → room' ≡ text ++ drop n room → Tells text room room' (Some n)
  full : length room < length text → room' ≡ take (length room) text → Tells text room room' None

-- What the place behind a text says of it, with the length of the room.
pub data Ended (next room : ℕ) : Option ℕ → Type 0 where
  within : next ≤ room → Ended next room (Some next)
  past : room < next → Ended next room None

pub record Accepted (job : List ℕ) : Type 0 where
  pub head : Head
  pub items : List Item
  pub reads : reading job ≡ accepted head items
