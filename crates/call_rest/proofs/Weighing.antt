-- The rest of a recheck, with no record table in sight: what it begins with is what the closure and the judge ask for, and what those leave is
-- what it promises, once the work table is given back.
-- Assumes nothing.
use Prim.Native.Nat.{ℕ, ◌-◌, ◌≤◌}
use native.Mathlib.Omega.{arith}
use mathlib.Core.Path.{◌≡◌, refl, sym, ◌∙◌, ap, subst}
use mathlib.Core.Bool.{true, false}
use mathlib.Core.List.{List}
use lib.ListN.{length}
use Rattle.meaning.specs.Following.{Rec, UpTo}
use Rattle.meaning.specs.Totals.{Classes, Idles}
use Rattle.meaning.specs.Limits.{named_numbers}
use Rattle.job_field.specs.Items.{Item, start, matter_of, Reading, accepted, head_of, items_of, records_of}
use Rattle.job_field.specs.Reading.{reading, items_in}
use Rattle.job_field.proofs.Standing.{job-stands}
use Rattle.table.specs.Map.{records_in}
use Rattle.table.proofs.Frame.{within_wider, within-trans}
use Rattle.table.proofs.Kept.{records-same}
use Rattle.table.specs.Places.{named_part}
use Rattle.all_close.specs.Closing.{Closing}
use Rattle.judge.specs.Judging as g
use Rattle.judge.specs.Judging.{Judgeable, Judged, Verdict}
use Rattle.std.specs.Prelude.{Result}
use Rattle.profile.specs.Plain.{plain_rules}
use Rattle.call_look.specs.Seen.{Seen, number_of, place_of}
use Rattle.call_look.specs.Look as l
use Rattle.call_look.specs.Look.{Looked}
use Rattle.call_look.proofs.Ready.{Ready, looked-ready, looked-lent, ready-lent}
use Rattle.call_look.specs.Begun.{Begun}
use Rattle.call_look.specs.Clear.{Cleared, Returned}
use Rattle.call_look.proofs.Clearing.{cleared-after, returned-true, returned-false}
use Rattle.call_rest.specs.Weigh as c
use Rattle.call_rest.specs.Weigh.{Weighed, finding_of}

-- A refusal is as it was seen.
looked-refused : {job report w w' : List ℕ} {p n : ℕ} (s : Seen) → Looked job p n s → s.ready ≡ false → Returned s.lent w w' → Weighed job report w s s.number s.place w'
looked-refused {job} {report} {w} s (l.long h) q x = subst (λ (v : List ℕ). Weighed job report w s 1 0 v) (sym (returned-false x refl)) (c.declined refl)
looked-refused {job} {report} {w} s (l.narrow h o) q x = subst (λ (v : List ℕ). Weighed job report w s 2 0 v) (sym (returned-false x refl)) (c.declined refl)
looked-refused s (l.viewed h (l.unread e)) q x = c.unread refl e (returned-true x refl)
looked-refused s (l.viewed h (l.ready e)) q x = let z : ◌≡◌ {A = ℕ} 0 1 = cc in absurd (omega arith)

module _ (job report w : List ℕ) (s : Seen) (h : Begun job w s) where
  pub weigh-refused : (w' : List ℕ) → s.ready ≡ false → Returned s.lent w w' → Weighed job report w s s.number s.place w'
  weigh-refused w' q x = looked-refused s h.looked q x

  -- The work table is as long as named where it is cleared.
  pub weigh-long : s.lent ≡ true → named_numbers ≤ length w
  weigh-long q = (looked-lent s h.looked q).enough.numbers

  module _ (q : s.ready ≡ true) where
    pub lent : s.lent ≡ true
    lent = ready-lent s h.looked q

    viewed : Ready job s
    viewed = looked-ready s h.looked q

    reads : reading job ≡ accepted viewed.head viewed.items
    reads = viewed.reads

    alike : items_in job ≡ viewed.items
    alike = ap items_of reads

    module _ (w' : List ℕ) (joins idle : ℕ) (d : Closing s.size s.records w w' joins idle) where
      held : records_in s.records w' ≡ records_of (items_in job)
      held = records-same d.kept s.records ∙ h.columns viewed.head viewed.items reads q ∙ ap records_of (sym alike)

      pub weigh-asks : Judgeable job w' s.size s.records joins idle
      weigh-asks = record {
        accepted = job-stands job viewed.head viewed.items reads;
        size = ap (λ (x : Reading). (head_of x).size) reads ∙ viewed.size;
        count = viewed.records ∙ ap (λ (x : List Item). length (records_of x)) (sym alike);
        held = held;
        past = d.past;
        classes = subst (λ (rs : List Rec). Classes s.size (UpTo rs s.records) (s.size - joins)) held d.classes;
        idles = subst (λ (rs : List Rec). Idles rs idle) held d.idles;
      }

      pub weigh-done : (w'' w''' : List ℕ) (j : Result (Unit {0}) ℕ) → Judged plain_rules job report w' w'' j → Returned true w'' w''' → Weighed job report w s (number_of (finding_of j)) (place_of (finding_of j)) w'''
      weigh-done w'' w''' j b x = go j (subst (λ (x : Reading). Verdict plain_rules (matter_of (head_of x) (items_of x)) start (items_of x) 0 report j) reads b.verdict)
        where
          emptied : Cleared w w'''
          emptied = cleared-after (within-trans (within_wider named_part (omega arith) (omega arith) d.kept) (within_wider named_part (omega arith) (omega arith) b.kept)) (returned-true x refl)

          go : (i : Result (Unit {0}) ℕ) → Verdict plain_rules (matter_of viewed.head viewed.items) start viewed.items 0 report i → Weighed job report w s (number_of (finding_of i)) (place_of (finding_of i)) w'''
          go i (g.sound o) = c.sound lent reads o emptied
          go i (g.fault o) = c.unsound lent reads o emptied
