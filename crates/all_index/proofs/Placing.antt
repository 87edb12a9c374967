-- Where a place belongs in a chain, and what holds once it is taken out and waits before all others, or once the first that waits is filed there. Rests on the laws of filed tables
-- (Filing, Slipping), of what waits (Waiting) and of frames (Views). Assumes nothing.
use Prim.Native.Nat.{ℕ, zero, suc, ◌+◌, ◌-◌, ◌%◌, ◌≤◌, ◌<◌}
use native.Mathlib.Omega.{arith}
use native.Mathlib.Numerals.{add-one}
use mathlib.Core.Path.{◌≡◌, sym, ap, ◌∙◌, fun_ext}
use mathlib.Core.Logic.{◌≢◌, inr}
use mathlib.Core.Bool.{Bool, false}
use mathlib.Core.List.{List}
use lib.ListN.{set}
use borrow.Author.Tests.{eq-eqb, ne_eqb}
use Rattle.meaning.specs.Joins.{put}
use Rattle.meaning.proofs.Log.{put-hit, put-miss}
use Rattle.meaning.specs.Limits.{most_records}
use Rattle.table.specs.Map.{chain_in, chain_of, wait_of, bucket_of, Within}
use Rattle.table.proofs.Frame.{seen-in, seen-out, within-trans, within-set}
use Rattle.table.specs.Places.{BUCKETS, CHAIN, Large, WAITS, bucket_count, file_part}
use Rattle.table_labels.proofs.Chain.{by-same}
use Rattle.all_index.specs.declared.Front.{Front}
use Rattle.all_index.specs.Filing.{On, here, further, link, found, Filed}
use Rattle.all_index.specs.Waiting.{Queue, waiting}
use Rattle.all_index.specs.State.{eqn_at, key_at, res_at, found_in, Filing, Queued, Touched, Above, behind_in, Led}
use Rattle.all_index.proofs.Views.{filing-same, queued-same, chain-set, wait-else, store-frame, store-states, store-buckets, link-chains, link-waits, wait-chains, wait-waits}
use Rattle.all_index.proofs.Filing.{on_below, on-place, falls', pop, file}
use Rattle.all_index.proofs.Slipping.{own-bucket, off-chain, wait-out, slip-out, slip-in}
use Rattle.all_index.proofs.Waiting.{queue-head, queue-push, queue-pop, waiting-less}

by_zero : {C : Type 0} (a : ℕ) → (a ≡ 0 → C) → (0 < a → C) → C
by_zero a f g = by-same a 0 f (λ n. g (omega arith))

pub on-here : {nx : ℕ → ℕ} (p : ℕ) → 0 < p → On nx p (p - 1)
on-here zero l = absurd (omega (arith, l))
on-here (suc r) l = let z : suc r - 1 ≡ r = omega arith in rw z here

-- The place behind another of a chain is on it too.
on-behind : {nx : ℕ → ℕ} {p q r : ℕ} → On nx p q → nx q ≡ suc r → On nx p r
on-behind {q = q} {r = r} here e = further {q = q} {r = r} (rw e here)
on-behind (further o) e = further (on-behind o e)

-- Two numbers put at two places, in either order.
put-swap : (a b x y : ℕ) (f : ℕ → ℕ) → a ≢ b → put a x (put b y f) ≡ put b y (put a x f)
put-swap a b x y f n = fun_ext (λ q. by-same q a
    (λ e. let m : q ≢ b = (λ z. n (sym e ∙ z)) in rw (put-miss b y (put a x f) q m, e, put-hit a x (put b y f), put-hit a x f))
    (λ m. rw (put-miss a x (put b y f) q m) (by-same q b
    (λ e. rw (e, put-hit b y f, put-hit b y (put a x f)))
    (λ k. rw (put-miss b y f q k, put-miss b y (put a x f) q k, put-miss a x f q m)))))

-- The first that waits is one of the places.
pub queue-low : {i : ℕ} {eqn : ℕ → Bool} {ch wt : ℕ → ℕ} (first : ℕ) → Queue i eqn ch wt first → first ≤ i
queue-low zero Q = omega arith
queue-low (suc j) Q = let l = (queue-head j Q).0 in omega arith

-- Where a place belongs in a chain: the chain is gone along as long as it leads above j.
pub record Seen (w : List ℕ) (b j q p : ℕ) : Type 0 where
  pub head : q ≡ 0 → p ≡ bucket_of w b
  pub on : 0 < q → On (link (chain_of w)) (bucket_of w b) (q - 1)
  pub over : 0 < q → j < q - 1
  pub next : 0 < q → p ≡ link (chain_of w) (q - 1)
  pub rest : (r : ℕ) → On (link (chain_of w)) p r → On (link (chain_of w)) (bucket_of w b) r

pub seen_none : (w : List ℕ) (b j p : ℕ) → p ≡ bucket_of w b → Seen w b j 0 p
seen_none w b j p e = record {
  head = λ z. e;
  on = λ l. absurd (omega arith);
  over = λ l. absurd (omega arith);
  next = λ l. absurd (omega arith);
  rest = λ r o. rw e at o;
}

pub seen_step : {w : List ℕ} {b j q p : ℕ} (p' : ℕ) → Seen w b j q p → j + 1 < p → p' ≡ chain_of w (p - 1) - 1 → Seen w b j p p'
seen_step {w} {b} {j} {q} {p} p' s l e = record {
  head = λ z. absurd (omega arith);
  on = λ m. s.rest (p - 1) (on-here p (omega arith));
  over = λ m. omega arith;
  next = λ m. e;
  rest = λ r o. s.rest r (let u : On (link (chain_of w)) (suc (p - 1)) r = further (rw e at o) in rw up at u);
}
  where
    up : suc (p - 1) ≡ p
    up = omega arith

pub seen-place : {t : Front} {w : List ℕ} {b j q p : ℕ} → Filing t w → Seen w b j q p → 0 < p → p - 1 < t.places
seen-place {w = w} {b = b} {p = p} g s l = on-place g.filed b (p - 1) (s.rest (p - 1) (on-here p l))

pub seen_all : {w : List ℕ} {b j q p : ℕ} → Seen w b j q p → p ≤ suc j → Above w b j q
seen_all s l = record {
  head = λ z. rw (← s.head z) l;
  on = s.on;
  over = s.over;
  under = λ k. rw (← s.next k) l;
}

-- What stands there.
pub above-room : {t : Front} {w : List ℕ} {b j q : ℕ} → Filing t w → Above w b j q → q ≤ t.places
above-room {t} {w} {b} {j} {q} g a = by_zero q (λ z. omega arith) (λ l. let h = on-place g.filed b (q - 1) (a.on l) in omega arith)

pub behind-head : (w : List ℕ) (b q : ℕ) → q ≡ 0 → behind_in w b q ≡ bucket_of w b
behind-head w b q z = rw (eq-eqb q 0 z)

pub behind-next : (w : List ℕ) (b q : ℕ) → q ≢ 0 → behind_in w b q ≡ link (chain_of w) (q - 1)
behind-next w b q n = rw (ne_eqb q 0 n)

pub behind-room : {t : Front} {w : List ℕ} {b j q p : ℕ} → Filing t w → j < t.places → Above w b j q → p ≡ behind_in w b q → p ≤ t.places
behind-room {w = w} {b = b} {q = q} g l a e = by_zero q
    (λ z. rw (e, behind-head w b q z) (g.filed.heads b))
    (λ k. rw (e, behind-next w b q (omega arith)) (omega (arith, a.under k)))

-- A link comes to stand there.
pub led-head : {w w' : List ℕ} {b q p : ℕ} → Large w → b < bucket_count → q ≡ 0 → w' ≡ set w (BUCKETS.at + b) p → Led w w' b q p
led-head {w} {w'} {b} {q} {p} long l z e = record {
  frame = rw e (within-set file_part w (BUCKETS.at + b) p (omega arith) (omega arith));
  head = λ y. (rw e (seen-out CHAIN w (BUCKETS.at + b) p (inr (omega arith))), rw e (seen-in BUCKETS w b p l (omega arith)));
  rest = λ k. absurd (omega arith);
}

pub led-rest : {w w' : List ℕ} {b q p : ℕ} → Large w → q ≤ most_records → q ≢ 0 → w' ≡ set w (CHAIN.at + (q - 1)) (p + 1) → Led w w' b q p
led-rest {w} {w'} {b} {q} {p} long l n e = record {
  frame = store-frame w w' (q - 1) (p + 1) long room e;
  head = λ z. absurd (n z);
  rest = λ k. (rw add-one at (store-states w w' (q - 1) (p + 1) long room e), store-buckets w w' (q - 1) (p + 1) long room e);
}
  where
    room : q - 1 < most_records
    room = omega arith

-- The place j is taken out: what stands for the places then.
pub record Out (i : ℕ) (eqn : ℕ → Bool) (key res ch hd' ch' wt' : ℕ → ℕ) (j : ℕ) : Type 0 where
  pub filed : Filed bucket_count i eqn key res hd' ch'
  pub queue : Queue i eqn ch' wt' (suc j)
  pub still : (r : ℕ) → ch r ≡ 0 → ch' r ≡ 0
  pub here : ch' j ≡ 0

module _ {i : ℕ} {eqn : ℕ → Bool} {key res hd ch wt : ℕ → ℕ} {first : ℕ} (F : Filed bucket_count i eqn key res hd ch) (Q : Queue i eqn ch wt first) (j : ℕ) (place : j < i) (app : eqn j ≡ false)
    (some : 0 < ch j) where
  other : (r : ℕ) → ch r ≡ 0 → r ≢ j
  other r z e = let y : ch j ≡ 0 = rw e at z in omega arith

  out : {hd' ch' wt' : ℕ → ℕ} → ch' ≡ put j 0 ch → wt' ≡ put j first wt → Filed bucket_count i eqn key res hd' (put j 0 ch) → Out i eqn key res ch hd' ch' wt' j
  out {ch' = ch'} {wt' = wt'} e w G = record {
    filed = rw e G;
    queue = queue-push Q j place app some ch' wt' (rw e (put-hit j 0 ch)) (rw w (put-hit j first wt))
        (λ r z. (rw (e, put-miss j 0 ch r (other r z)) z, rw (w, put-miss j first wt r (other r z))))
        (λ r n h. rw (e, put-miss j 0 ch r n) h);
    still = λ r z. rw (e, put-miss j 0 ch r (other r z)) z;
    here = rw e (put-hit j 0 ch);
  }

  -- It is the head of its chain; or it is on none.
  pub out-head : {hd' ch' wt' : ℕ → ℕ} → (b : ℕ) → hd b ≡ suc j → hd' ≡ put b (ch j - 1) hd → ch' ≡ put j 0 ch → wt' ≡ put j first wt → Out i eqn key res ch hd' ch' wt' j
  out-head b h d e w = out e w (rw d (pop F b j h))

  pub out-off : {hd' ch' wt' : ℕ → ℕ} → ((b : ℕ) → On (link ch) (hd b) j → ⊥) → hd' ≡ hd → ch' ≡ put j 0 ch → wt' ≡ put j first wt → Out i eqn key res ch hd' ch' wt' j
  out-off off d e w = out e w (rw d (wait-out F j off))

  -- It is behind another.
  pub out-behind : {hd' ch' wt' : ℕ → ℕ} → (b q : ℕ) → On (link ch) (hd b) q → link ch q ≡ suc j → hd' ≡ hd → ch' ≡ put j 0 (put q (ch j) ch) → wt' j ≡ first → ((r : ℕ) → r ≢ q → r ≢ j → wt' r ≡ wt r)
      → Out i eqn key res ch hd' ch' wt' j
  out-behind {ch' = ch'} {wt' = wt'} b q o h d e w rest = record {
    filed = rw (d, swap) (slip-out F b q j o h);
    queue = queue-push Q j place app some ch' wt' at_j w
        (λ r z. (at-else r (not-q r z) (other r z) ∙ z, rest r (not-q r z) (other r z)))
        (λ r n l. by-same r q (λ s. rw (s, at-q) some) (λ m. rw (at-else r m n) l));
    still = λ r z. at-else r (not-q r z) (other r z) ∙ z;
    here = at_j;
  }
    where
      low : j < q
      low = let g = falls' F q in omega (arith, h)

      apart : j ≢ q
      apart s = omega (arith, low)

      swap : ch' ≡ put q (ch j) (put j 0 ch)
      swap = e ∙ put-swap j q 0 (ch j) ch apart

      at_j : ch' j ≡ 0
      at_j = rw e (put-hit j 0 (put q (ch j) ch))

      at-q : ch' q ≡ ch j
      at-q = rw swap (put-hit q (ch j) (put j 0 ch))

      at-else : (r : ℕ) → r ≢ q → r ≢ j → ch' r ≡ ch r
      at-else r m n = rw (e, put-miss j 0 (put q (ch j) ch) r n) (put-miss q (ch j) ch r m)

      not-q : (r : ℕ) → ch r ≡ 0 → r ≢ q
      not-q r z s = let y : ch q ≡ 0 = rw s at z in omega (arith, h)

out-touched : {t : Front} {w w' : List ℕ} {j : ℕ} → Filing t w → Within file_part w w' → Out t.places (eqn_at w) (key_at w) (res_at w) (chain_of w) (bucket_of w') (chain_of w') (wait_of w') j
    → Touched t w w' (suc j) × (chain_of w' j ≡ 0)
out-touched {t} g f o = (record { frame = f; filing = filing-same f g o.filed; queue = queued-same f t o.queue; still = o.still }, o.here)

-- The same of the table.
module _ {t : Front} {w : List ℕ} {b q j first : ℕ} (g : Filing t w) (Q : Queued t w first) (place : j < t.places) (app : eqn_at w j ≡ false) (some : 0 < chain_of w j)
    (eb : b ≡ key_at w j % bucket_count) (a : Above w b j q) where
  F : Filed bucket_count t.places (eqn_at w) (key_at w) (res_at w) (bucket_of w) (chain_of w)
  F = g.filed

  room : j < most_records
  room = omega (arith, g.reach, g.loaded.most)

  -- It stands there.
  pub taken : {w₁ w' : List ℕ} {p : ℕ} → p ≡ chain_of w j - 1 → behind_in w b q ≡ suc j → Led w w₁ b q p → w' ≡ set w₁ (CHAIN.at + j) (first + WAITS) → Touched t w w' (suc j) × (chain_of w' j ≡ 0)
  taken {w₁} {w'} {p} ep at l e = out-touched g frame (by_zero q at_head at_rest)
    where
      long : Large w₁
      long = rw l.frame.size g.loaded.long

      frame : Within file_part w w'
      frame = within-trans l.frame (store-frame w₁ w' j (first + WAITS) long room e)

      chains : chain_of w' ≡ put j 0 (chain_of w₁)
      chains = wait-chains w₁ w' j first long room e

      waits : wait_of w' ≡ put j first (wait_of w₁)
      waits = wait-waits w₁ w' j first long room e

      buckets : bucket_of w' ≡ bucket_of w₁
      buckets = store-buckets w₁ w' j (first + WAITS) long room e

      at_head : q ≡ 0 → Out t.places (eqn_at w) (key_at w) (res_at w) (chain_of w) (bucket_of w') (chain_of w') (wait_of w') j
      at_head z =
          let h = l.head z in
          out-head F Q j place app some b (sym (behind-head w b q z) ∙ at)
          (buckets ∙ h.1 ∙ ap (λ (x : ℕ). put b x (bucket_of w)) ep)
          (chains ∙ ap (λ (f : ℕ → ℕ). put j 0 (λ r. chain_in (f r))) h.0)
          (waits ∙ ap (λ (f : ℕ → ℕ). put j first (λ r. f r - WAITS)) h.0)

      at_rest : 0 < q → Out t.places (eqn_at w) (key_at w) (res_at w) (chain_of w) (bucket_of w') (chain_of w') (wait_of w') j
      at_rest k =
          let h = l.rest k in
          let up : suc p ≡ chain_of w j = omega arith in
          let d : chain_of w₁ ≡ put (q - 1) (suc p) (chain_of w) = chain-set w w₁ (q - 1) (suc p) h.0 (omega (arith, F.falls j)) in
          out-behind F Q j place app some b (q - 1) (a.on k) (sym (behind-next w b q (omega arith)) ∙ at)
          (buckets ∙ h.1)
          (chains ∙ ap (put j 0) (d ∙ ap (λ (x : ℕ). put (q - 1) x (chain_of w)) up))
          (ap (λ (f : ℕ → ℕ). f j) waits ∙ put-hit j first (wait_of w₁))
          (λ r n m. ap (λ (f : ℕ → ℕ). f r) waits ∙ put-miss j first (wait_of w₁) r m ∙ wait-else w w₁ (q - 1) (suc p) h.0 r n)

  -- It does not, so it is on no chain.
  none : behind_in w b q ≢ suc j → (c : ℕ) → On (link (chain_of w)) (bucket_of w c) j → ⊥
  none n c o =
      let same : c ≡ b = own-bucket F j c o ∙ sym eb in
      let u : On (link (chain_of w)) (bucket_of w b) j = rw same at o in
      by_zero q
      (λ z. let h = on_below F (bucket_of w b) j u in n (behind-head w b q z ∙ (let k = a.head z in omega arith)))
      (λ k. off-chain F b (q - 1) j (a.on k) (a.over k) (let e = behind-next w b q (omega arith) in let h = a.under k in omega arith) u)

  pub left : {w' : List ℕ} → behind_in w b q ≢ suc j → w' ≡ set w (CHAIN.at + j) (first + WAITS) → Touched t w w' (suc j) × (chain_of w' j ≡ 0)
  left {w'} n e = out-touched g (store-frame w w' j (first + WAITS) g.loaded.long room e)
      (out-off F Q j place app some (none n) (store-buckets w w' j (first + WAITS) g.loaded.long room e) (wait-chains w w' j first g.loaded.long room e) (wait-waits w w' j first g.loaded.long room e))

-- The place j, the first that waits, is filed: what stands for the places then.
pub record In (i : ℕ) (eqn : ℕ → Bool) (key res ch hd' ch' wt' : ℕ → ℕ) (first : ℕ) : Type 0 where
  pub filed : Filed bucket_count i eqn key res hd' ch'
  pub queue : Queue i eqn ch' wt' first
  pub less : waiting i ch' < waiting i ch

module _ {i : ℕ} {eqn : ℕ → Bool} {key res hd ch wt : ℕ → ℕ} {j : ℕ} (F : Filed bucket_count i eqn key res hd ch) (Q : Queue i eqn ch wt (suc j)) (new : found bucket_count key hd ch (key j) ≡ 0) where
  h : (j < i) × (eqn j ≡ false) × (ch j ≡ 0)
  h = queue-head j Q

  away : (r : ℕ) → 0 < ch r → r ≢ j
  away r l e = let y : 0 < ch j = rw e at l in omega (arith, h.2)

  off : (b : ℕ) → On (link ch) (hd b) j → ⊥
  off b o = let f = (F.filed b j o).1 in omega (arith, h.2)

  -- At the head of its chain.
  pub in_head : {hd' ch' wt' : ℕ → ℕ} → hd (key j % bucket_count) ≤ suc j → hd' ≡ put (key j % bucket_count) (suc j) hd → ch' ≡ put j (suc (hd (key j % bucket_count))) ch → ((r : ℕ) → r ≢ j → wt' r ≡ wt r) → In i eqn key res ch hd' ch' wt' (wt j)
  in_head {ch' = ch'} {wt' = wt'} l d e w = record {
    filed = rw (d, e) (file F j h.0 h.1 h.2 low new);
    queue = queue-pop j Q ch' wt' here' (λ r n z. (same r n ∙ z, w r n)) (λ r k. rw (same r (away r k)) k);
    less = waiting-less i j ch ch' h.0 h.2 here' (λ r n. (λ z. same r n ∙ z, λ k. rw (same r n) k));
  }
    where
      low : hd (key j % bucket_count) ≤ j
      low = by-same (hd (key j % bucket_count)) (suc j) (λ z. absurd (off (key j % bucket_count) (rw z here))) (λ n. omega arith)

      here' : 0 < ch' j
      here' = rw (e, put-hit j (suc (hd (key j % bucket_count))) ch) (omega arith)

      same : (r : ℕ) → r ≢ j → ch' r ≡ ch r
      same r n = rw e (put-miss j (suc (hd (key j % bucket_count))) ch r n)

  -- Behind another.
  pub in-behind : {hd' ch' wt' : ℕ → ℕ} → (q : ℕ) → On (link ch) (hd (key j % bucket_count)) q → j < q → link ch q ≤ suc j → hd' ≡ hd → ch' ≡ put q (suc (suc j)) (put j (ch q) ch) → ((r : ℕ) → r ≢ q → r ≢ j → wt' r ≡ wt r)
      → In i eqn key res ch hd' ch' wt' (wt j)
  in-behind {ch' = ch'} {wt' = wt'} q o l m d e w = record {
    filed = rw (d, swap) (slip-in F q j o l under h.0 h.1 h.2 new);
    queue = queue-pop j Q ch' wt' here' (λ r n z. (at-else r (not-q r z) n ∙ z, w r (not-q r z) n)) (λ r k. kept r (away r k) k);
    less = waiting-less i j ch ch' h.0 h.2 here' (λ r n. (λ z. at-else r (not-q r z) n ∙ z, λ k. kept r n k));
  }
    where
      on-q : 0 < ch q
      on-q = (F.filed (key j % bucket_count) q o).1

      apart : q ≢ j
      apart s = omega arith

      under : link ch q ≤ j
      under = by-same (link ch q) (suc j) (λ z. absurd (off (key j % bucket_count) (on-behind o z))) (λ n. omega arith)

      swap : ch' ≡ put j (ch q) (put q (suc (suc j)) ch)
      swap = e ∙ put-swap q j (suc (suc j)) (ch q) ch apart

      here' : 0 < ch' j
      here' = rw (swap, put-hit j (ch q) (put q (suc (suc j)) ch)) on-q

      at-q : ch' q ≡ suc (suc j)
      at-q = rw e (put-hit q (suc (suc j)) (put j (ch q) ch))

      at-else : (r : ℕ) → r ≢ q → r ≢ j → ch' r ≡ ch r
      at-else r k n = rw (e, put-miss q (suc (suc j)) (put j (ch q) ch) r k) (put-miss j (ch q) ch r n)

      not-q : (r : ℕ) → ch r ≡ 0 → r ≢ q
      not-q r z s = let y : ch q ≡ 0 = rw s at z in omega (arith, on-q)

      kept : (r : ℕ) → r ≢ j → 0 < ch r → 0 < ch' r
      kept r n k = by-same r q (λ s. rw (s, at-q) (omega arith)) (λ u. rw (at-else r u n) k)

-- The same of the table.
pub put_in : {t : Front} {w w₁ w' : List ℕ} {b q j next p : ℕ} → Filing t w → Queued t w (suc j) → b ≡ key_at w j % bucket_count → found_in w (key_at w j) ≡ 0 → Above w b j q
    → next ≡ wait_of w j → p ≡ behind_in w b q → w₁ ≡ set w (CHAIN.at + j) (p + 1) → Led w₁ w' b q (j + 1)
    → Within file_part w w' × Filing t w' × Queued t w' next × (waiting t.places (chain_of w') < waiting t.places (chain_of w))
put_in {t} {w} {w₁} {w'} {b} {q} {j} {next} {p} g Q eb new a en ep e l = (frame, filing-same frame g z.filed, queued-same frame t (rw en z.queue), z.less)
  where
    F : Filed bucket_count t.places (eqn_at w) (key_at w) (res_at w) (bucket_of w) (chain_of w)
    F = g.filed

    place : j < t.places
    place = (queue-head j Q).0

    room : j < most_records
    room = omega (arith, place, g.reach, g.loaded.most)

    small : p ≤ most_records
    small = omega (arith, behind-room g place a ep, g.reach, g.loaded.most)

    frame : Within file_part w w'
    frame = within-trans (store-frame w w₁ j (p + 1) g.loaded.long room e) l.frame

    chains : chain_of w₁ ≡ put j (suc p) (chain_of w)
    chains = link-chains w w₁ j p g.loaded.long room small e

    waits : (r : ℕ) → r ≢ j → wait_of w₁ r ≡ wait_of w r
    waits = link-waits w w₁ j p g.loaded.long room small e

    buckets : bucket_of w₁ ≡ bucket_of w
    buckets = store-buckets w w₁ j (p + 1) g.loaded.long room e

    at_head : q ≡ 0 → In t.places (eqn_at w) (key_at w) (res_at w) (chain_of w) (bucket_of w') (chain_of w') (wait_of w') (wait_of w j)
    at_head s =
        let d = l.head s in
        let ek : p ≡ bucket_of w (key_at w j % bucket_count) = ep ∙ behind-head w b q s ∙ ap (bucket_of w) eb in
        in_head F Q new (rw (← eb) (a.head s))
        (rw (← eb) (d.1 ∙ rw (buckets, add-one)))
        (ap {B = ℕ → ℕ} (λ (f : ℕ → ℕ) (r : ℕ). chain_in (f r)) d.0 ∙ chains ∙ ap (λ (x : ℕ). put j (suc x) (chain_of w)) ek)
        (λ r n. ap (λ (f : ℕ → ℕ). f r - WAITS) d.0 ∙ waits r n)

    at_rest : 0 < q → In t.places (eqn_at w) (key_at w) (res_at w) (chain_of w) (bucket_of w') (chain_of w') (wait_of w') (wait_of w j)
    at_rest k =
        let d = l.rest k in
        let some = (F.filed b (q - 1) (a.on k)).1 in
        let ek : suc p ≡ chain_of w (q - 1) = (let u = ep ∙ behind-next w b q (omega arith) in omega arith) in
        let c : chain_of w' ≡ put (q - 1) (suc (suc j)) (chain_of w₁) = rw add-one at (chain-set w₁ w' (q - 1) (suc (j + 1)) d.0 (omega (arith, room))) in
        in-behind F Q new (q - 1) (rw (← eb) (a.on k)) (a.over k) (a.under k) (d.1 ∙ buckets)
        (c ∙ ap (put (q - 1) (suc (suc j))) (chains ∙ ap (λ (x : ℕ). put j x (chain_of w)) ek))
        (λ r n m. wait-else w₁ w' (q - 1) (suc (j + 1)) d.0 r n ∙ waits r m)

    z : In t.places (eqn_at w) (key_at w) (res_at w) (chain_of w) (bucket_of w') (chain_of w') (wait_of w') (wait_of w j)
    z = by_zero q at_head at_rest
