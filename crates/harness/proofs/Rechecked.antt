-- The whole of a recheck from its parts: what was received of the loans, and what the rest of the recheck ends with, is the recheck's promise.
-- Assumes nothing.
use Prim.Native.Nat.{ℕ}
use native.Mathlib.Omega.{arith}
use mathlib.Core.Path.{◌≡◌, sym, subst}
use mathlib.Core.Bool.{true, false}
use mathlib.Core.List.{List}
use lib.ListN.{length}
use Rattle.records.specs.declared.Record.{Record}
use Rattle.call_look.specs.Seen.{Seen}
use Rattle.call_look.specs.Look as l
use Rattle.call_look.specs.Look.{Looked}
use Rattle.call_look.proofs.Ready.{viewed-lent}
use Rattle.call_intake.specs.Received.{Received}
use Rattle.call_intake.proofs.Columns.{received-lent, received-emptied}
use Rattle.harness_rest.specs.Weigh as c
use Rattle.harness_rest.specs.Weigh.{Weighed}
use Rattle.harness.specs.Recheck as r
use Rattle.harness.specs.Recheck.{HarnessRechecked}

module _ (job report : List ℕ) (t : List Record) (w : List ℕ) where
  -- A refusal for lengths alone is 1 or 2, and changes nothing.
  declined-rechecked : (s : Seen) → Looked job (length t) (length w) s → s.lent ≡ false → HarnessRechecked job report t w s.number s.place t w
  declined-rechecked s (l.long h) q = r.long h
  declined-rechecked s (l.narrow h o) q = r.narrow h o
  declined-rechecked s (l.viewed h v) q = let e : s.lent ≡ true = viewed-lent s v in let z : ◌≡◌ {A = ℕ} 0 1 = cc in absurd (omega arith)

  pub weighed-rechecked : (s : Seen) (t' : List Record) (w' : List ℕ) → Received job t w s t' w' → (n p : ℕ) (w'' : List ℕ) → Weighed job report w' s n p w'' → HarnessRechecked job report t w n p t' w''
  weighed-rechecked s t' w' d n p w'' (c.declined q) =
      subst (λ (u : List Record). HarnessRechecked job report t w s.number s.place u w') (sym (d.kept q).0) (subst (λ (v : List ℕ). HarnessRechecked job report t w s.number s.place t v) (sym (d.kept q).1) (declined-rechecked s d.looked q))
  weighed-rechecked s t' w' d n p w'' (c.unread q e x) = r.unread (received-lent d q) e (received-emptied d q x)
  weighed-rechecked s t' w' d n p w'' (c.unsound q e o x) = r.unsound (received-lent d q) e o (received-emptied d q x)
  weighed-rechecked s t' w' d n p w'' (c.sound q e o x) = r.sound (received-lent d q) e o (received-emptied d q x)
