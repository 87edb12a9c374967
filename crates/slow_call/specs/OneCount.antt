-- Document 01, "Every answer accounted for", of the simulator's call: two outcomes are one in number, place, count, room and both tables. There is no exception.
-- Assumes nothing.
use Rattle.std.specs.Prelude.{ℕ, ◌≡◌, List}
use Rattle.records.specs.declared.Record.{Record}

pub record OneCount (n p c : ℕ) (room : List ℕ) (records : List Record) (work : List ℕ) (n' p' c' : ℕ) (room' : List ℕ) (records' : List Record) (work' : List ℕ) : Type 0 where
  pub number : n ≡ n'
  pub place : p ≡ p'
  pub count : c ≡ c'
  pub rooms : room ≡ room'
  pub tables : records ≡ records'
  pub works : work ≡ work'
