-- The whole of the simulator's call from its parts; and what two outcomes have in common: they are one.
-- Assumes nothing.
use Prim.Native.Nat.{ℕ}
use native.Mathlib.Omega.{arith}
use mathlib.Core.Path.{◌≡◌, sym, subst}
use mathlib.Core.Bool.{Bool, true, false}
use mathlib.Core.List.{List}
use lib.ListN.{length}
use Rattle.records.specs.declared.Record.{Record}
use Rattle.call_look.specs.Seen.{Seen}
use Rattle.call_look.specs.Look as l
use Rattle.call_look.specs.Look.{Looked}
use Rattle.call_look.proofs.Ready.{viewed-lent}
use Rattle.call_intake.specs.Received.{Received}
use Rattle.call_intake.proofs.Columns.{received-lent, received-emptied}
use Rattle.slow_rest.specs.Rest as r
use Rattle.slow_rest.specs.Rest.{Rested}
use Rattle.slow_rest.specs.Counted as c
use Rattle.slow_rest.specs.Counted.{Counted}

module _ (job room : List ℕ) (t : List Record) (w : List ℕ) (limit : ℕ) (watch : Bool) where
  -- A refusal for lengths alone is 1 or 2, and changes nothing.
  declined-counted : (s : Seen) → Looked job (length t) (length w) s → s.lent ≡ false → Counted job room t w limit watch s.number s.place 0 room t w
  declined-counted s (l.long h) q = c.long h
  declined-counted s (l.narrow h o) q = c.narrow h o
  declined-counted s (l.viewed h v) q = let e : s.lent ≡ true = viewed-lent s v in let z : ◌≡◌ {A = ℕ} 0 1 = cc in absurd (omega arith)

  pub rested-counted : (s : Seen) (t' : List Record) (w' : List ℕ) → Received job t w s t' w' → (n p k : ℕ) (room' w'' : List ℕ) → Rested job room w' s limit watch n p k room' w'' → Counted job room t w limit watch n p k room' t' w''
  rested-counted s t' w' g n p k room' w'' (r.declined q) =
      subst (λ (u : List Record). Counted job room t w limit watch s.number s.place 0 room u w') (sym (g.kept q).0) (subst (λ (v : List ℕ). Counted job room t w limit watch s.number s.place 0 room t v) (sym (g.kept q).1) (declined-counted s g.looked q))
  rested-counted s t' w' g n p k room' w'' (r.unread q e x) = c.unread (received-lent g q) e (received-emptied g q x)
  rested-counted s t' w' g n p k room' w'' (r.cramped q e h x) = c.cramped (received-lent g q) e h (received-emptied g q x)
  rested-counted s t' w' g n p k room' w'' (r.answered q e h o x) = c.answered (received-lent g q) e h o (received-emptied g q x)
