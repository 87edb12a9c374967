-- The rest of the simulator's call: what it begins with is what the closure asks for, and what that leaves is what it promises, once the work table is given back.
-- Assumes nothing.
use Prim.Native.Nat.{ℕ, ◌+◌, ◌*◌, ◌≤◌, ◌<◌}
use native.Mathlib.Omega.{arith}
use mathlib.Core.Path.{◌≡◌, refl, sym, ◌∙◌, ap, subst}
use mathlib.Core.Bool.{Bool, true, false}
use mathlib.Core.Logic.{◌⊎◌, inl, inr}
use mathlib.Core.List.{List, ◌++◌}
use lib.ListN.{length, drop}
use Rattle.meaning.specs.Limits.{named_numbers}
use Rattle.job_field.specs.Items.{records_of}
use Rattle.job_field.specs.Reading.{field_standing, units_stated}
use Rattle.job_field.specs.Standing.{Job}
use Rattle.job_field.proofs.Standing.{accepted-stands}
use Rattle.table.specs.Map.{records_in, Loaded}
use Rattle.table.specs.Places.{named_part}
use Rattle.table.proofs.Frame.{within_wider}
use Rattle.report.specs.Report.{numbers, laid}
use Rattle.call_look.specs.Seen.{Seen}
use Rattle.call_look.specs.Look as l
use Rattle.call_look.specs.Look.{Looked}
use Rattle.call_look.proofs.Ready.{Ready, looked-ready, looked-lent, ready-lent}
use Rattle.call_look.specs.Begun.{Begun}
use Rattle.call_look.specs.Clear.{Cleared, Returned}
use Rattle.call_look.proofs.Clearing.{cleared-after, returned-true, returned-false}
use Rattle.slow_passes.specs.Passes.{Told}
use Rattle.slow_answer.specs.Telling.{Answered}
use Rattle.slow_rest.specs.Rest as r
use Rattle.slow_rest.specs.Rest.{Fitted, Rested}

-- The call may go on, and the room is large enough.
pub record Roomy (s : Seen) (room : ℕ) : Type 0 where
  pub ready : s.ready ≡ true
  pub fits : 2 * s.size ≤ room

-- Where the call may go on it is as it was seen.
module _ {s : Seen} {room : ℕ} where
  pub begun-fitted : {t : Seen} {job w : List ℕ} → Begun job w s → Fitted s room t → t.ready ≡ true → Begun job w t
  begun-fitted h (r.cramped k) q = let z : ◌≡◌ {A = ℕ} 0 1 = cc in absurd (omega arith)
  begun-fitted h (r.roomy k) q = h

  pub fitted-roomy : {t : Seen} → Fitted s room t → t.ready ≡ true → Roomy t room
  fitted-roomy (r.cramped k) q = let z : ◌≡◌ {A = ℕ} 0 1 = cc in absurd (omega arith)
  fitted-roomy (r.roomy k) q = record { ready = q; fits = k }

  pub rested-fitted : {t : Seen} {job rs w rs' w' : List ℕ} {n p c limit : ℕ} {watch : Bool} → Fitted s room t → t.ready ≡ true → Rested job rs w t limit watch n p c rs' w' → Rested job rs w s limit watch n p c rs' w'
  rested-fitted (r.cramped k) q x = let z : ◌≡◌ {A = ℕ} 0 1 = cc in absurd (omega arith)
  rested-fitted (r.roomy k) q x = x

-- Only an accepted job has tags.
sized-ready : {job : List ℕ} {c n room : ℕ} (s : Seen) → Looked job c n s → room < 2 * s.size → s.ready ≡ true
sized-ready s (l.long h) k = absurd (omega arith)
sized-ready s (l.narrow h o) k = absurd (omega arith)
sized-ready s (l.viewed h (l.unread e)) k = absurd (omega arith)
sized-ready s (l.viewed h (l.ready e)) k = refl

-- A refusal is as it was seen.
looked-refused : {job w w' : List ℕ} {c n : ℕ} (room : List ℕ) (limit : ℕ) (watch : Bool) (s : Seen) → Looked job c n s → s.ready ≡ false → Returned s.lent w w' → Rested job room w s limit watch s.number s.place 0 room w'
looked-refused {job} {w} room limit watch s (l.long h) q x = subst (λ (v : List ℕ). Rested job room w s limit watch 1 0 0 room v) (sym (returned-false x refl)) (r.declined refl)
looked-refused {job} {w} room limit watch s (l.narrow h o) q x = subst (λ (v : List ℕ). Rested job room w s limit watch 2 0 0 room v) (sym (returned-false x refl)) (r.declined refl)
looked-refused room limit watch s (l.viewed h (l.unread e)) q x = r.unread refl e (returned-true x refl)
looked-refused room limit watch s (l.viewed h (l.ready e)) q x = let z : ◌≡◌ {A = ℕ} 0 1 = cc in absurd (omega arith)

-- The work table is as long as named where it is cleared.
pub fitted-long : {job w : List ℕ} {room : ℕ} {s : Seen} → Begun job w s → (t : Seen) → Fitted s room t → (t.lent ≡ true) ⊎ (t.ready ≡ true) → named_numbers ≤ length w
fitted-long {s = s} h t (r.cramped k) o = (looked-lent s h.looked (ready-lent s h.looked (sized-ready s h.looked k))).enough.numbers
fitted-long {s = s} h t (r.roomy k) (inl q) = (looked-lent s h.looked q).enough.numbers
fitted-long {s = s} h t (r.roomy k) (inr q) = (looked-lent s h.looked (ready-lent s h.looked q)).enough.numbers

front-laid : (bs room : List ℕ) → laid 0 bs room ≡ bs ++ drop (length bs) room
unfolding laid
front-laid bs room = let e : 0 + length bs ≡ length bs = omega arith in ap (λ (n : ℕ). bs ++ drop n room) e

module _ (job room w : List ℕ) (s : Seen) (limit : ℕ) (watch : Bool) (h : Begun job w s) where
  pub rest-refused : (t : Seen) (w' : List ℕ) → Fitted s (length room) t → t.ready ≡ false → Returned t.lent w w' → Rested job room w s limit watch t.number t.place 0 room w'
  rest-refused t w' (r.cramped k) q x =
      let g : s.ready ≡ true = sized-ready s h.looked k in
      let y : Ready job s = looked-ready s h.looked g in
      r.cramped (ready-lent s h.looked g) y.reads (omega (arith, y.size, k)) (returned-true x refl)
  rest-refused t w' (r.roomy k) q x = looked-refused room limit watch s h.looked q x

  module _ (o : Roomy s (length room)) where
    abbrev pub seen : Ready job s
    seen = looked-ready s h.looked o.ready

    stands : Job job seen.head seen.items
    stands = accepted-stands job seen.head seen.items seen.reads

    pub unit-is : (u : ℕ) → u ≡ units_stated (field_standing job 0) → u ≡ seen.head.units
    unit-is u e = e ∙ ap units_stated stands.first

    pub rest-asks : (u : ℕ) → u ≡ units_stated (field_standing job 0) → Loaded s.size s.records w × (u ≤ s.size) × (2 * s.size ≤ length room)
    rest-asks u e = (h.loaded o.ready, omega (arith, unit-is u e, stands.units, seen.size), o.fits)

    records : records_in s.records w ≡ records_of seen.items
    records = h.columns seen.head seen.items seen.reads o.ready

    pub rest-done : (u : ℕ) → u ≡ units_stated (field_standing job 0) → (room' w' w'' : List ℕ) (n p c : ℕ) → Answered s.size u s.records limit watch w room w' room' n p c → Returned true w' w''
        → Rested job room w s limit watch n p c room' w''
    rest-done u e room' w' w'' n p c d x = rw (d.place, d.front, front-laid (numbers d.leaders) room) (r.answered {L = d.leaders} lent seen.reads enough told clear)
      where
        clear : Cleared w w''
        clear = cleared-after (within_wider named_part (omega arith) (omega arith) d.kept) (returned-true x refl)

        enough : 2 * seen.head.size ≤ length room
        enough = omega (arith, seen.size, o.fits)

        told : Told seen.head.size seen.head.units (records_of seen.items) limit watch n c d.leaders
        told = rw (seen.size, ← unit-is u e, ← records) d.told

        lent : s.lent ≡ true
        lent = ready-lent s h.looked o.ready
