-- The rest of a run, with no record table in sight: what it begins with is what the report's writer asks for, and what that leaves is what it
-- promises, once the work table is given back.
-- Assumes nothing.
use Prim.Native.Nat.{ℕ, ◌≤◌, ◌<◌}
use native.Mathlib.Omega.{arith}
use mathlib.Core.Path.{◌≡◌, refl, sym, ◌∙◌, ap, subst}
use mathlib.Core.Bool.{true, false}
use mathlib.Core.Logic.{◌⊎◌, inl, inr}
use mathlib.Core.List.{List}
use lib.ListN.{length}
use Rattle.meaning.specs.Limits.{named_numbers}
use Rattle.job_field.specs.Items.{Item, start, matter_of, Reading, accepted, head_of, items_of, records_of, needed_room}
use Rattle.job_field.specs.Reading.{reading, items_in}
use Rattle.job_field.proofs.Standing.{job-stands}
use Rattle.table.proofs.Frame.{within_wider}
use Rattle.table.specs.Places.{named_part}
use Rattle.report.specs.Report.{Sound}
use Rattle.profile.specs.Plain.{plain_rules}
use Rattle.answer_all.specs.Asking as a
use Rattle.answer_all.specs.Asking.{Responded}
use Rattle.call_look.specs.Seen.{Seen}
use Rattle.call_look.specs.Look as l
use Rattle.call_look.specs.Look.{Looked}
use Rattle.call_look.proofs.Ready.{Ready, looked-ready, looked-lent, ready-lent}
use Rattle.call_look.specs.Begun.{Begun}
use Rattle.call_look.specs.Clear.{Returned}
use Rattle.call_look.proofs.Clearing.{cleared-after, returned-true, returned-false}
use Rattle.call_rest.specs.Finish as f
use Rattle.call_rest.specs.Finish.{Fitted, Finished}

-- The run may go on, and the room is large enough.
pub record Roomy (s : Seen) (room : ℕ) : Type 0 where
  pub ready : s.ready ≡ true
  pub fits : s.needed ≤ room

-- Where the run may go on it is as it was seen.
module _ {s : Seen} {room : ℕ} where
  pub begun-fitted : {r : Seen} {job w : List ℕ} → Begun job w s → Fitted s room r → r.ready ≡ true → Begun job w r
  begun-fitted h (f.cramped k) q = let z : ◌≡◌ {A = ℕ} 0 1 = cc in absurd (omega arith)
  begun-fitted h (f.roomy k) q = h

  pub fitted-roomy : {r : Seen} → Fitted s room r → r.ready ≡ true → Roomy r room
  fitted-roomy (f.cramped k) q = let z : ◌≡◌ {A = ℕ} 0 1 = cc in absurd (omega arith)
  fitted-roomy (f.roomy k) q = record { ready = q; fits = k }

  pub finished-fitted : {r : Seen} {job rs w rs' w' : List ℕ} {n p l : ℕ} → Fitted s room r → r.ready ≡ true → Finished job rs w r n p l rs' w' → Finished job rs w s n p l rs' w'
  finished-fitted (f.cramped k) q x = let z : ◌≡◌ {A = ℕ} 0 1 = cc in absurd (omega arith)
  finished-fitted (f.roomy k) q x = x

-- Only an accepted job needs room.
needed-ready : {job : List ℕ} {c n room : ℕ} (s : Seen) → Looked job c n s → room < s.needed → s.ready ≡ true
needed-ready s (l.long h) k = absurd (omega arith)
needed-ready s (l.narrow h o) k = absurd (omega arith)
needed-ready s (l.viewed h (l.unread e)) k = absurd (omega arith)
needed-ready s (l.viewed h (l.ready e)) k = refl

-- A refusal is as it was seen.
looked-refused : {job w w' : List ℕ} {c n : ℕ} (room : List ℕ) (s : Seen) → Looked job c n s → s.ready ≡ false → Returned s.lent w w' → Finished job room w s s.number s.place 0 room w'
looked-refused {job} {w} room s (l.long h) q x = subst (λ (v : List ℕ). Finished job room w s 1 0 0 room v) (sym (returned-false x refl)) (f.declined refl)
looked-refused {job} {w} room s (l.narrow h o) q x = subst (λ (v : List ℕ). Finished job room w s 2 0 0 room v) (sym (returned-false x refl)) (f.declined refl)
looked-refused room s (l.viewed h (l.unread e)) q x = f.unread refl e (returned-true x refl)
looked-refused room s (l.viewed h (l.ready e)) q x = let z : ◌≡◌ {A = ℕ} 0 1 = cc in absurd (omega arith)

-- The work table is as long as named where it is cleared.
pub fitted-long : {job w : List ℕ} {room : ℕ} {s : Seen} → Begun job w s → (r : Seen) → Fitted s room r → (r.lent ≡ true) ⊎ (r.ready ≡ true) → named_numbers ≤ length w
fitted-long {s = s} h r (f.cramped k) o = (looked-lent s h.looked (ready-lent s h.looked (needed-ready s h.looked k))).enough.numbers
fitted-long {s = s} h r (f.roomy k) (inl q) = (looked-lent s h.looked q).enough.numbers
fitted-long {s = s} h r (f.roomy k) (inr q) = (looked-lent s h.looked (ready-lent s h.looked q)).enough.numbers

module _ (job room w : List ℕ) (s : Seen) (h : Begun job w s) where
  pub finish-refused : (r : Seen) (w' : List ℕ) → Fitted s (length room) r → r.ready ≡ false → Returned r.lent w w' → Finished job room w s r.number r.place 0 room w'
  finish-refused r w' (f.cramped k) q x =
      let g : s.ready ≡ true = needed-ready s h.looked k in
      let y : Ready job s = looked-ready s h.looked g in
      f.cramped (ready-lent s h.looked g) y.reads (omega (arith, y.needed, k)) (returned-true x refl)
  finish-refused r w' (f.roomy k) q x = looked-refused room s h.looked q x

  module _ (o : Roomy s (length room)) where
    seen : Ready job s
    seen = looked-ready s h.looked o.ready

    is : reading job ≡ accepted seen.head seen.items
    is = seen.reads

    same : items_in job ≡ seen.items
    same = ap items_of is

    enough : needed_room seen.head start seen.items ≤ length room
    enough = omega (arith, seen.needed, o.fits)

    pub finish-asks : a.Ready job room w s.size s.records
    finish-asks = record {
      short = (looked-lent s h.looked (ready-lent s h.looked o.ready)).enough.short;
      stands = job-stands job seen.head seen.items is;
      size = ap (λ (x : Reading). (head_of x).size) is ∙ seen.size;
      few = seen.records ∙ ap (λ (x : List Item). length (records_of x)) (sym same);
      loaded = h.loaded o.ready;
      records = h.columns seen.head seen.items is o.ready ∙ ap records_of (sym same);
      fits = subst (λ (x : Reading). needed_room (head_of x) start (items_of x) ≤ length room) (sym is) enough;
    }

    pub finish-done : (room' w' w'' : List ℕ) (n : ℕ) → Responded plain_rules job room w room' w' n → Returned true w' w'' → Finished job room w s 0 0 n room' w''
    finish-done room' w' w'' n d x =
        rw (d.size, d.front)
        (f.done (ready-lent s h.looked o.ready) is enough (subst (λ (x : Reading). Sound (matter_of (head_of x) (items_of x)) start (items_of x) d.bytes) is d.sound)
        (cleared-after (within_wider named_part (omega arith) (omega arith) d.kept) (returned-true x refl)))
