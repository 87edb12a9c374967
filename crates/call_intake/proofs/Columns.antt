-- What `receive` leaves, from what its callees leave: what was seen of the job says what the record table is asked for, and what comes of that are
-- the job's records in the columns of the work table. What the rest of a call begins with follows, and that both tables are emptied in the end.
-- Assumes nothing.
use Prim.Native.Nat.{ℕ}
use native.Mathlib.Omega.{arith}
use mathlib.Core.Path.{◌≡◌, refl, sym, subst, ◌∙◌, ap}
use mathlib.Core.Logic.{◌⊎◌, inl, inr}
use mathlib.Core.Bool.{true, false}
use mathlib.Core.List.{List}
use lib.ListN.{length}
use Rattle.job_field.specs.Items.{Head, Item, accepted, records_of}
use Rattle.job_field.specs.Reading.{reading}
use Rattle.records.specs.declared.Record.{Record}
use Rattle.records.specs.Table.{Blanked}
use Rattle.records.proofs.Cleared.{blanked-over}
use Rattle.table.specs.Map.{records_in, Loaded}
use Rattle.table.proofs.Frame.{within_wider, within-refl}
use Rattle.table.specs.Places.{named_part}
use Rattle.records_fill.specs.Handing.{Counts, Handable, Handed}
use Rattle.call_look.specs.Seen.{Seen}
use Rattle.call_look.specs.Look as l
use Rattle.call_look.specs.Look.{Viewed, Looked}
use Rattle.call_look.proofs.Ready.{Ready, Read, looked-ready, looked-lent, ready-lent, same-items}
use Rattle.call_look.specs.Begun.{Begun}
use Rattle.call_look.specs.Clear.{Cleared}
use Rattle.call_look.specs.Lent.{Lent, Emptied}
use Rattle.call_look.proofs.Clearing.{cleared-after}
use Rattle.call_intake.specs.Received.{Received}

-- All of the records are asked for, or none.
viewed-counts : {job : List ℕ} (s : Seen) → Viewed job s → (s.records ≡ 0) ⊎ Counts job s.records
viewed-counts s (l.unread e) = inl refl
viewed-counts s (l.ready {H = H} {items = items} e) = inr (record { head = H; items = items; reads = e; records = refl })

module _ (job : List ℕ) (t : List Record) (w : List ℕ) (s : Seen) (seen : Looked job (length t) (length w) s) where
  -- Nothing is asked for where the lengths are not right.
  pub received-kept : s.lent ≡ false → Received job t w s t w
  received-kept q = record {
    looked = seen;
    kept = λ _. (refl, refl);
    blanked = λ y. let z : ◌≡◌ {A = ℕ} 0 1 = cc in absurd (omega arith);
    frame = within-refl w;
    loaded = λ y. let x : s.lent ≡ true = ready-lent s seen y in let z : ◌≡◌ {A = ℕ} 0 1 = cc in absurd (omega arith);
    columns = λ H items e y. let x : s.lent ≡ true = ready-lent s seen y in let z : ◌≡◌ {A = ℕ} 0 1 = cc in absurd (omega arith);
  }

  module _ (q : s.lent ≡ true) where
    read : Read job (length t) (length w) s
    read = looked-lent s seen q

    pub handable : Handable job t w s.records
    handable = record { places = read.enough.places; numbers = read.enough.numbers; count = viewed-counts s read.viewed }

    module _ (t' : List Record) (w' : List ℕ) (d : Handed job t w s.records t' w') where
      as_items : (H : Head) (items : List Item) → reading job ≡ accepted H items → s.ready ≡ true → records_in s.records w' ≡ records_of items
      as_items H items e y =
          let r : Ready job s = looked-ready s seen y in
          d.records r.head r.items r.reads r.records ∙ ap records_of (same-items job r.head H r.items items r.reads e)

      pub received : (t'' : List Record) → Blanked t' t'' → Received job t w s t'' w'
      received t'' b = record {
        looked = seen;
        kept = λ y. let z : ◌≡◌ {A = ℕ} 0 1 = cc in absurd (omega arith);
        blanked = λ _. blanked-over t t' _ d.size d.rest b;
        frame = d.frame;
        loaded = λ y. let r : Ready job s = looked-ready s seen y in subst (λ (n : ℕ). Loaded n s.records w') r.size (d.loaded r.head r.items r.reads r.records);
        columns = as_items;
      }

module _ {job : List ℕ} {t : List Record} {w : List ℕ} {s : Seen} {t' : List Record} {w' : List ℕ} (r : Received job t w s t' w') where
  pub received-begun : Begun job w' s
  received-begun = record { places = length t; looked = subst (λ (n : ℕ). Looked job (length t) n s) (sym r.frame.size) r.looked; loaded = r.loaded; columns = r.columns }

  -- The lengths are right, and both tables are emptied once the work table is cleared.
  pub received-lent : s.lent ≡ true → Lent job t w
  received-lent q = let y : Read job (length t) (length w) s = looked-lent s r.looked q in record { short = y.enough.short; places = y.enough.places; numbers = y.enough.numbers }

  pub received-emptied : {w'' : List ℕ} → s.lent ≡ true → Cleared w' w'' → Emptied t w t' w''
  received-emptied q c = record { blanked = r.blanked q; cleared = cleared-after (within_wider named_part (omega arith) (omega arith) r.frame) c }
