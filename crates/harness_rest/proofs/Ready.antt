-- What is known of a plain harness sheet where the call may go on, and what lengths it then has.
-- Assumes nothing.
use Prim.Native.Nat.{ℕ}
use native.Mathlib.Omega.{arith}
use mathlib.Core.Path.{◌≡◌, refl}
use mathlib.Core.Bool.{true}
use mathlib.Core.List.{List}
use lib.ListN.{length}
use Rattle.job_field.specs.Items.{Head, Item, start, accepted, records_of, needed_room}
use Rattle.harness_read.specs.Profile.{harness_reading}
use Rattle.call_look.specs.Seen.{Seen}
use Rattle.call_look.specs.Look.{Enough}
use Rattle.harness_rest.specs.Look as l
use Rattle.harness_rest.specs.Look.{HarnessViewed, HarnessLooked}

-- What is known where the call may go on.
pub record Ready (job : List ℕ) (s : Seen) : Type 0 where
  pub head : Head
  pub items : List Item
  pub reads : harness_reading job ≡ accepted head items
  pub size : head.size ≡ s.size
  pub records : s.records ≡ length (records_of items)
  pub needed : s.needed ≡ needed_room head start items

-- Lengths that are not at fault, and what the reading tells.
pub record Read (job : List ℕ) (c w : ℕ) (s : Seen) : Type 0 where
  pub enough : Enough job c w
  pub viewed : HarnessViewed job s

module _ {job : List ℕ} where
  viewed-ready : (s : Seen) → HarnessViewed job s → s.ready ≡ true → Ready job s
  viewed-ready s (l.unread e) q = let z : ◌≡◌ {A = ℕ} 0 1 = cc in absurd (omega arith)
  viewed-ready s (l.ready {H = H} {items = items} e) q = record { head = H; items = items; reads = e; size = refl; records = refl; needed = refl }

  pub looked-ready : {p n : ℕ} (s : Seen) → HarnessLooked job p n s → s.ready ≡ true → Ready job s
  looked-ready s (l.long h) q = let z : ◌≡◌ {A = ℕ} 0 1 = cc in absurd (omega arith)
  looked-ready s (l.narrow h o) q = let z : ◌≡◌ {A = ℕ} 0 1 = cc in absurd (omega arith)
  looked-ready s (l.viewed h v) q = viewed-ready s v q

  pub viewed-lent : (s : Seen) → HarnessViewed job s → s.lent ≡ true
  viewed-lent s (l.unread e) = refl
  viewed-lent s (l.ready e) = refl

  pub looked-lent : {p n : ℕ} (s : Seen) → HarnessLooked job p n s → s.lent ≡ true → Read job p n s
  looked-lent s (l.long h) q = let z : ◌≡◌ {A = ℕ} 0 1 = cc in absurd (omega arith)
  looked-lent s (l.narrow h o) q = let z : ◌≡◌ {A = ℕ} 0 1 = cc in absurd (omega arith)
  looked-lent s (l.viewed h v) q = record { enough = h; viewed = v }

  pub ready-lent : {p n : ℕ} (s : Seen) → HarnessLooked job p n s → s.ready ≡ true → s.lent ≡ true
  ready-lent s (l.long h) q = let z : ◌≡◌ {A = ℕ} 0 1 = cc in absurd (omega arith)
  ready-lent s (l.narrow h o) q = let z : ◌≡◌ {A = ℕ} 0 1 = cc in absurd (omega arith)
  ready-lent s (l.viewed h v) q = viewed-lent s v
