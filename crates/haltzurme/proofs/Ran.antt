-- The whole of a run from its parts: what was received of the loans, and what the rest of the run ends with, is the run's promise.
-- Assumes nothing.
use Prim.Native.Nat.{ℕ}
use native.Mathlib.Omega.{arith}
use mathlib.Core.Path.{◌≡◌, sym, subst}
use mathlib.Core.Bool.{true, false}
use mathlib.Core.List.{List}
use lib.ListN.{length}
use Rattle.records.specs.declared.Record.{Record}
use Rattle.call_look.specs.Seen.{Seen}
use Rattle.call_look.specs.Look as l
use Rattle.call_look.specs.Look.{Looked}
use Rattle.call_look.proofs.Ready.{viewed-lent}
use Rattle.call_intake.specs.Received.{Received}
use Rattle.call_intake.proofs.Columns.{received-lent, received-emptied}
use Rattle.call_rest.specs.Finish as f
use Rattle.call_rest.specs.Finish.{Finished}
use Rattle.haltzurme.specs.Run as r
use Rattle.haltzurme.specs.Run.{Ran}

module _ (job room : List ℕ) (t : List Record) (w : List ℕ) where
  -- A refusal for lengths alone is 1 or 2, and changes nothing.
  declined-ran : (s : Seen) → Looked job (length t) (length w) s → s.lent ≡ false → Ran job room t w s.number s.place 0 room t w
  declined-ran s (l.long h) q = r.long h
  declined-ran s (l.narrow h o) q = r.narrow h o
  declined-ran s (l.viewed h v) q = let e : s.lent ≡ true = viewed-lent s v in let z : ◌≡◌ {A = ℕ} 0 1 = cc in absurd (omega arith)

  pub finished-ran : (s : Seen) (t' : List Record) (w' : List ℕ) → Received job t w s t' w' → (n p k : ℕ) (room' w'' : List ℕ) → Finished job room w' s n p k room' w'' → Ran job room t w n p k room' t' w''
  finished-ran s t' w' c n p k room' w'' (f.declined q) =
      subst (λ (u : List Record). Ran job room t w s.number s.place 0 room u w') (sym (c.kept q).0) (subst (λ (v : List ℕ). Ran job room t w s.number s.place 0 room t v) (sym (c.kept q).1) (declined-ran s c.looked q))
  finished-ran s t' w' c n p k room' w'' (f.unread q e x) = r.unread (received-lent c q) e (received-emptied c q x)
  finished-ran s t' w' c n p k room' w'' (f.cramped q e h x) = r.cramped (received-lent c q) e h (received-emptied c q x)
  finished-ran s t' w' c n p k room' w'' (f.done q e h o x) = r.done (received-lent c q) e h o (received-emptied c q x)
