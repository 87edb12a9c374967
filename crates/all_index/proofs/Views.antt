-- What the regions show after a part of the table was written: a frame keeps each region outside it, and so what is read off the regions.
-- Assumes nothing.
use Prim.Native.Nat.{ℕ, suc, ◌+◌, ◌-◌, ◌≤◌, ◌<◌}
use native.Mathlib.Omega.{arith}
use native.Mathlib.Numerals.{add-one}
use mathlib.Core.Path.{◌≡◌, fun_ext}
use mathlib.Core.Logic.{◌≢◌, inl, inr}
use mathlib.Core.Bool.{Bool, true, false}
use mathlib.Core.List.{List}
use lib.ListN.{set}
use Rattle.meaning.specs.Joins.{put}
use Rattle.meaning.proofs.Log.{put-hit, put-miss}
use Rattle.meaning.specs.Limits.{most_records}
use Rattle.table.specs.Map.{left_of, right_of, result_of, label_of, use_of, more_of, state_of, chain_in, chain_of, wait_of, bucket_of, Loaded, Within}
use Rattle.table.proofs.Frame.{seen-in, seen-out, seen-within, within_wider, within-set, chain-low, chain-high}
use Rattle.table_labels.proofs.Chain.{by-same}
use Rattle.table_labels.specs.Parts.{Readable}
use Rattle.table_labels.proofs.Rows.{left-small, right-small}
use Rattle.table.proofs.Kept.{lefts, rights, results, loaded-same}
use Rattle.table.specs.Places.{BUCKETS, CHAIN, LABEL, Large, MORE, OTHER, SHARES, USES, WAITS, behind_columns, bucket_count, column_size, file_part}
use Rattle.all_index.specs.declared.Front.{Front}
use Rattle.all_index.specs.Filing.{Filed}
use Rattle.all_index.specs.Waiting.{Queue}
use Rattle.all_index.specs.State.{eqn_at, key_at, res_at, tag_at, Filing, Used, Queued, Indexed}

-- The columns are kept, and so what is read off them; the keys too, where the labels are.
module _ {w w' : List ℕ} (f : Within behind_columns w w') where
  pub eqn-at : (j : ℕ) → eqn_at w' j ≡ eqn_at w j
  eqn-at j = rw (results f)

  pub eqns : eqn_at w' ≡ eqn_at w
  eqns = fun_ext eqn-at

  pub tags : (b : Bool) → tag_at b w' ≡ tag_at b w
  tags false = fun_ext (λ j. rw (lefts f))
  tags true = fun_ext (λ j. rw (rights f))

  pub keys-same : label_of w' ≡ label_of w → key_at w' ≡ key_at w
  keys-same e = fun_ext (λ j. rw (lefts f, rights f, e))

  pub ress-same : label_of w' ≡ label_of w → res_at w' ≡ res_at w
  ress-same e = fun_ext (λ j. rw (results f, e))

-- The chains alone were written.
module _ {w w' : List ℕ} (f : Within file_part w w') where
  pub wide : Within behind_columns w w'
  wide = within_wider behind_columns (omega arith) (omega arith) f

  pub labels : label_of w' ≡ label_of w
  labels = seen-within LABEL f (inl (omega arith))

  pub keys : key_at w' ≡ key_at w
  keys = keys-same wide labels

  pub ress : res_at w' ≡ res_at w
  ress = ress-same wide labels

  pub uses : (b : Bool) → use_of b w' ≡ use_of b w
  uses false = seen-within USES f (inr (omega arith))
  uses true = seen-within SHARES f (inr (omega arith))

  pub mores : (b : Bool) → more_of b w' ≡ more_of b w
  mores false = seen-within MORE f (inl (omega arith))
  mores true = seen-within OTHER f (inl (omega arith))

  pub used-same : (b : Bool) {i : ℕ} → Used b i w → Used b i w'
  used-same b u = rw (eqns wide, tags wide b, uses b, mores b) u

  pub filing-same : {t : Front} → Filing t w → Filed bucket_count t.places (eqn_at w) (key_at w) (res_at w) (bucket_of w') (chain_of w') → Filing t w'
  filing-same h d = record { loaded = loaded-same wide h.loaded; reach = h.reach; filed = rw (eqns wide, keys, ress) d }

  pub queued-same : (t : Front) {first : ℕ} → Queue t.places (eqn_at w) (chain_of w') (wait_of w') first → Queued t w' first
  queued-same t d = rw (eqns wide) d

  pub indexed-same : {t : Front} {first first' : ℕ} → Indexed t w first → Filing t w' → Queued t w' first' → Indexed t w' first'
  indexed-same i h q = record { filing = h; queue = q; uses = λ b. used-same b (i.uses b) }

-- What one number changes of the chains and of what waits.
module _ (w w' : List ℕ) (r v : ℕ) (e : state_of w' ≡ put r v (state_of w)) where
  state-here : state_of w' r ≡ v
  state-here = rw e (put-hit r v (state_of w))

  state-else : (q : ℕ) → q ≢ r → state_of w' q ≡ state_of w q
  state-else q n = rw e (put-miss r v (state_of w) q n)

  chain-is : (u : ℕ) → chain_in v ≡ u → chain_of w' ≡ put r u (chain_of w)
  chain-is u h = fun_ext (λ q. by-same q r
      (λ s. rw (s, put-hit r u (chain_of w), state-here) h)
      (λ n. rw (put-miss r u (chain_of w) q n, state-else q n)))

  pub chain-set : v ≤ column_size → chain_of w' ≡ put r v (chain_of w)
  chain-set l = chain-is v (chain-low v l)

  pub chain-out : WAITS ≤ v → chain_of w' ≡ put r 0 (chain_of w)
  chain-out l = chain-is 0 (chain-high v l)

  pub wait-else : (q : ℕ) → q ≢ r → wait_of w' q ≡ wait_of w q
  wait-else q n = rw (state-else q n)

  pub wait-set : wait_of w' ≡ put r (v - WAITS) (wait_of w)
  wait-set = fun_ext (λ q. by-same q r
      (λ s. rw (s, put-hit r (v - WAITS) (wait_of w), state-here))
      (λ n. rw (put-miss r (v - WAITS) (wait_of w) q n, state-else q n)))

-- One store into the chains: of any number, of a link p, or of a link p in what waits.
module _ (w w' : List ℕ) (r v : ℕ) (long : Large w) (l : r < most_records) (e : w' ≡ set w (CHAIN.at + r) v) where
  pub store-frame : Within file_part w w'
  store-frame = rw e (within-set file_part w (CHAIN.at + r) v (omega arith) (omega arith))

  pub store-states : state_of w' ≡ put r v (state_of w)
  store-states = rw e (seen-in CHAIN w r v l (omega arith))

  pub store-buckets : bucket_of w' ≡ bucket_of w
  store-buckets = rw e (seen-out BUCKETS w (CHAIN.at + r) v (inl (omega arith)))

module _ (w w' : List ℕ) (r p : ℕ) (long : Large w) (l : r < most_records) (k : p ≤ most_records) (e : w' ≡ set w (CHAIN.at + r) (p + 1)) where
  pub link-chains : chain_of w' ≡ put r (suc p) (chain_of w)
  link-chains = rw add-one at (chain-set w w' r (p + 1) (store-states w w' r (p + 1) long l e) (omega arith))

  pub link-waits : (q : ℕ) → q ≢ r → wait_of w' q ≡ wait_of w q
  link-waits = wait-else w w' r (p + 1) (store-states w w' r (p + 1) long l e)

module _ (w w' : List ℕ) (r p : ℕ) (long : Large w) (l : r < most_records) (e : w' ≡ set w (CHAIN.at + r) (p + WAITS)) where
  pub wait-chains : chain_of w' ≡ put r 0 (chain_of w)
  wait-chains = chain-out w w' r (p + WAITS) (store-states w w' r (p + WAITS) long l e) (omega arith)

  pub wait-waits : wait_of w' ≡ put r p (wait_of w)
  wait-waits = let z : p + WAITS - WAITS ≡ p = omega arith in rw z at (wait-set w w' r (p + WAITS) (store-states w w' r (p + WAITS) long l e))

-- The record of a place, read off the columns.
module _ {N len : ℕ} {w : List ℕ} (h : Loaded N len w) (j : ℕ) (l : j < len) where
  pub row-left : left_of w (suc j) < N
  row-left = left-small N (eqn_at w j) (left_of w (suc j)) (right_of w (suc j)) (result_of w (suc j)) (h.small j l)

  pub row-right : right_of w (suc j) < N
  row-right = right-small N (eqn_at w j) (left_of w (suc j)) (right_of w (suc j)) (result_of w (suc j)) (h.small j l)

  pub row-readable : (k : ℕ) → k ≡ suc j → Readable w k
  row-readable k e = rw e (record { long = h.long; most = omega (arith, h.most); left = omega (arith, row-left, h.few); right = omega (arith, row-right, h.few) })
