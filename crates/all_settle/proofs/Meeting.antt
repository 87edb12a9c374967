-- The first record that waits is met, in terms of what holds of the table between two steps.
-- Assumes nothing.
use Prim.Native.Nat.{ℕ, suc, ◌+◌, ◌-◌, ◌%◌, ◌<◌}
use native.Mathlib.Omega.{arith}
use native.Mathlib.Decide.{ℕ_discrete}
use native.Mathlib.Numerals.{add-one}
use mathlib.Core.Path.{◌≡◌, ◌∙◌}
use mathlib.Core.Logic.{◌≢◌}
use mathlib.Core.Bool.{false}
use mathlib.Core.List.{List}
use Rattle.meaning.specs.Joins.{put}
use Rattle.meaning.proofs.Log.{put-hit, put-miss}
use Rattle.meaning.specs.Limits.{most_records}
use Rattle.table.specs.Map.{chain_of, wait_of, bucket_of, Within}
use Rattle.table.proofs.Frame.{within_wider}
use Rattle.table.specs.Places.{bucket_count, file_part, index_part}
use Rattle.table_labels.specs.Chain.{seek_to, hits, look}
use Rattle.all_index.specs.declared.Front.{Front}
use Rattle.all_index.specs.Filing.{link, Filed}
use Rattle.all_index.specs.Waiting.{waiting}
use Rattle.all_index.specs.State.{eqn_at, key_at, res_at, found_in, Filing, Queued}
use Rattle.all_index.proofs.Filing.{shade}
use Rattle.all_index.proofs.Waiting.{queue-head, queue-pop, waiting-less}
use Rattle.all_index.proofs.Views.{eqns, wide, labels, used-same, filing-same}
use Rattle.all_join.specs.State.{Joined}
use Rattle.all_join.proofs.Standing.{standing-frame}
use Rattle.all_settle.specs.State.{Open, Unifying, Gone}
use Rattle.all_settle.proofs.Views.{level-same}

-- The search found what the chains have for the key.
pub look-found : (w : List ℕ) (x from p : ℕ) → from ≡ bucket_of w (x % bucket_count) → p ≡ seek_to (link (chain_of w)) (hits (key_at w) x) from → p ≡ found_in w x
unfolding look
look-found w x from p ef ep = ep ∙ rw ef

-- It waits no more, and no join came.
pub met-quiet : {t : Front} {w w' : List ℕ} {n first next : ℕ} → Open t w n first → Within file_part w w' → Filing t w' → Queued t w' next → waiting t.places (chain_of w') < waiting t.places (chain_of w) → Gone t w n w' n next
met-quiet o f h q l = record {
  frame = wide f;
  state = record {
    standing = standing-frame (within_wider index_part (omega arith) (omega arith) f) o.standing;
    indexed = record { filing = h; queue = q; uses = λ b. used-same f b (o.indexed.uses b) };
    level = level-same (wide f) (λ x y e. rw (labels f) e) o.level;
  };
  more = omega arith;
  less = λ e. l;
}

-- The first that waits is an application that is in.
pub first-place : {t : Front} {w : List ℕ} {n j : ℕ} → Open t w n (suc j) → (j < t.places) × (eqn_at w j ≡ false) × (chain_of w j ≡ 0)
first-place {j = j} o = queue-head j o.indexed.queue

pub first-most : {t : Front} {w : List ℕ} {n j : ℕ} → Open t w n (suc j) → j < most_records
first-most o = omega (arith, (first-place o).0, o.standing.reach, o.standing.loaded.most)

-- One store that leaves the other places as they are.
module _ (j v : ℕ) (ch ch' : ℕ → ℕ) (e : ch' ≡ put j (suc v) ch) where
  here : 0 < ch' j
  here = rw (e, put-hit j (suc v) ch) (omega arith)

  still : (r : ℕ) → r ≢ j → ch' r ≡ ch r
  still r n = rw e (put-miss j (suc v) ch r n)

  stays : (r : ℕ) → 0 < ch r → 0 < ch' r
  stays r l = elim (ℕ_discrete r j) [ yes q ↦ rw q here | no n ↦ rw (still r n) l ]

module _ {t : Front} {w : List ℕ} {p j n : ℕ} (u : Unifying t w p j n) where
  -- What was found has the result's label.
  pub unify-stay : (w' : List ℕ) (next : ℕ) → res_at w (p - 1) ≡ res_at w j → next ≡ wait_of w j → Within file_part w w' → chain_of w' ≡ put j 1 (chain_of w)
      → ((r : ℕ) → r ≢ j → wait_of w' r ≡ wait_of w r) → bucket_of w' ≡ bucket_of w → Gone t w n w' n next
  unify-stay w' next e en f chains waits buckets = met-quiet u.state f (filing-same f u.state.indexed.filing (rw (buckets, chains) shaded)) queue
      (waiting-less t.places j (chain_of w) (chain_of w') q.0 q.2 (here j 0 (chain_of w) (chain_of w') chains) (λ r d. (λ z. rw (still j 0 (chain_of w) (chain_of w') chains r d) z, λ l. rw (still j 0 (chain_of w) (chain_of w') chains r d) l)))
    where
      q : (j < t.places) × (eqn_at w j ≡ false) × (chain_of w j ≡ 0)
      q = first-place u.state

      same : res_at w (found_in w (key_at w j) - 1) ≡ res_at w j
      same = rw (← u.found) e

      shaded : Filed bucket_count t.places (eqn_at w) (key_at w) (res_at w) (bucket_of w) (put j 1 (chain_of w))
      shaded = shade u.state.indexed.filing.filed j q.0 q.1 q.2 (rw u.found at u.hit) same

      queue : Queued t w' next
      queue = rw (eqns (wide f), en) (queue-pop j u.state.indexed.queue (chain_of w') (wait_of w') (here j 0 (chain_of w) (chain_of w') chains)
          (λ r d z. (still j 0 (chain_of w) (chain_of w') chains r d ∙ z, waits r d)) (stays j 0 (chain_of w) (chain_of w') chains))

  -- It has another, and the two were joined.
  pub unify-join : {w' : List ℕ} {a b first : ℕ} → Joined t w n a b w' first → Gone t w n w' (n + 1) first
  unify-join J = rw add-one (record {
    frame = J.frame;
    state = record { standing = J.standing; indexed = J.indexed; level = level-same J.frame J.same u.state.level };
    more = omega arith;
    less = λ e. absurd (omega arith);
  })
