-- What the readers of commands need of one another. Assumes nothing.
use Prim.Native.Nat.{ℕ, suc, ◌+◌, ◌-◌, ◌≤◌}
use native.Mathlib.Omega.{arith}
use mathlib.Core.Path.{◌≡◌, refl, subst}
use mathlib.Core.Logic.{◌≢◌}
use mathlib.Core.Bool.{true, false, ◌&&◌}
use mathlib.Core.List.{List}
use lib.Dec.{leb, leb→le}
use lib.ListN.{length}
use Rattle.std.specs.Prelude.{Result, Ok, Err}
use Rattle.script_terms.specs.Flat.{Item}
use Rattle.script_terms.proofs.Tests.{both_hold}
use Rattle.script_meaning.specs.Tokens.{lex, next}
use Rattle.script_meaning.specs.Reading.{fault, Seen, term_at, term}
use Rattle.script_shelf.specs.declared.Counts.{Counts}
use Rattle.script_shelf.specs.declared.refusal.Refusal.{Refusal}
use Rattle.script_shelf.proofs.Faults.{fault-some}
use Rattle.script_heads.specs.Names.{Readable}
use Rattle.script_join.specs.Promises.{Start, TermRead, refused as unread, found}
use Rattle.script_words.specs.Words.{Read}
use Rattle.script_term_read.specs.Asks.{TermAsk, TermAnswered}
use Rattle.script_term_read.specs.declared.Found.{Found as Answer}
use Rattle.script_steps.specs.Steps.{Gave}
use Rattle.script_commands.specs.Commands.{CommandAsk, SideFound, SideRead, SidesRead}
use Rattle.script_commands.specs.declared.Pair.{Pair}

-- The limits leave room for one thing more of each.
pub record Roomy (w : List ℕ) (c : Counts) : Type 0 where
  pub long : 32768 ≤ length w
  pub symbols : c.symbols ≤ 1000
  pub records : c.records ≤ 4000
  pub differs : c.differs ≤ 500
  pub checks : c.checks ≤ 1000
  pub fields : c.fields ≤ 5500

below : (m n : ℕ) → leb m n ≡ true → m ≤ n
below m n e = leb→le m n (rw e tt)

pub room_of : {s w : List ℕ} {c : Counts} {t : Seen} {fs : List Item} → Start s w c t fs → Roomy w c
room_of {t = t} S =
    let x = both_hold (leb (length t.symbols + length t.parts) 1000 && leb t.records 4000 && leb t.differs 500) (leb t.checks 1000) S.within in
    let y = both_hold (leb (length t.symbols + length t.parts) 1000 && leb t.records 4000) (leb t.differs 500) x.0 in
    let z = both_hold (leb (length t.symbols + length t.parts) 1000) (leb t.records 4000) y.0 in
    let N = S.holding.counted in
    let a = below (length t.symbols + length t.parts) 1000 z.0 in
    let b = below t.records 4000 z.1 in
    let d = below t.differs 500 y.1 in
    let e = below t.checks 1000 x.1 in
    record {
      long = S.holding.laid.long;
      symbols = omega (arith, N.symbols);
      records = omega (arith, N.records);
      differs = omega (arith, N.differs);
      checks = omega (arith, N.checks);
      fields = omega (arith, N.fields, N.sum);
    }

module _ {s w : List ℕ} {c : Counts} {at : ℕ} (A : CommandAsk s w c at) where
  pub ask-room : Roomy w c
  ask-room = room_of A.start

  pub ask-on : {b : ℕ} → b ≤ length s → CommandAsk s w c b
  ask-on h = record { inside = h; short = A.short; seen = A.seen; fields = A.fields; start = A.start }

  pub ask-readable : Readable s w c at
  ask-readable = record { inside = A.inside; seen = A.seen; fields = A.fields; holding = A.start.holding }

  pub ask-term : {kind from to : ℕ} → Read s at kind from to → TermAsk s w c at kind from to
  ask-term L = record { lexed = L; seen = A.seen; fields = A.fields; start = A.start }

  module _ {w' : List ℕ} where
    pub side-next : {f : Answer} → SideRead s w w' c at (Ok f) → CommandAsk s w' f.counts f.at
    side-next R = let g = R.reads A.seen A.fields A.start in record { inside = g.holds.inside; short = A.short; seen = g.value.seen; fields = _; start = g.holds.start }

    pub sides-next : {p : Pair} → SidesRead s w w' c at (Ok p) → CommandAsk s w' p.counts p.at
    sides-next R = let g = R.reads A.seen A.fields A.start in record { inside = g.holds.inside; short = A.short; seen = g.value.seen; fields = _; start = g.holds.start }

-- A term that was read, as a side.
module _ {s w w' : List ℕ} {c' : Counts} {t : Seen} {fs : List Item} {at kind from behind : ℕ} (L : Read s at kind from behind) where
  side-found : {n place number last to : ℕ} → TermRead s w t fs (length s - next (lex s at)) (λ k. term_at k s t 1 false (lex s at)) w' c' n place number last to → n ≡ 0
      → Gave (term s t at) (SideFound s w' t fs at) (record { number = number; last = last; at = to; counts = c' })
  side-found (unread b i r) z = absurd (let l : 14 ≤ _ = b.0 in omega arith)
  side-found (found {last = last} {at = to} x t' fs' i r S W a K o v) z =
      let y : (lex s at).from ≤ next (lex s at) = omega arith in
      record {
        value = record { term = x; seen = t'; last = last; behind = to };
        is = r (suc (length s)) (omega arith);
        holds = record { start = subst (λ f. Start s w' c' t' f) W.fields S; grown = W.grown; number_is = a; known = K; behind = refl; on = omega (arith, L.on, L.from_is, L.behind, L.inside); inside = o };
      }

  side-refused : {n place number last to : ℕ} → TermRead s w t fs (length s - next (lex s at)) (λ k. term_at k s t 1 false (lex s at)) w' c' n place number last to → n ≢ 0 → term s t at ≡ fault n place
  side-refused (unread b i r) z = r (suc (length s)) (omega arith)
  side-refused (found x t' fs' i r S W a K o v) z = absurd (z refl)

pub side-of : {s w w' : List ℕ} {c : Counts} {at kind from behind : ℕ} → Read s at kind from behind → (r : Result Answer Refusal) → TermAnswered s w w' c 1 (lex s at) r → SideRead s w w' c at r
side-of L (Ok f) T = record { reads = λ t fs S. side-found L (T.told.reads t fs S) refl }
side-of {c = c} L (Err e) T = record { reads = λ t fs S. side-refused L ((T.told c 0 0 0).reads t fs S) (fault-some e.fault) }
