-- A record comes in: an application waits, and its arguments' lists know it; an equation is joined unless its labels are equal.
-- Assumes nothing.
use Prim.Native.Nat.{ℕ, suc, ◌+◌, ◌*◌, ◌/◌, ◌%◌, ◌≤◌, ◌<◌}
use native.Mathlib.Omega.{arith}
use native.Mathlib.Numerals.{add-one}
use mathlib.Core.Path.{◌≡◌, refl, sym, ap, ◌∙◌, fun_ext}
use mathlib.Core.Logic.{◌≢◌, ◌↔◌, ◌⊎◌, inl, inr}
use mathlib.Core.Bool.{Bool, true, false, not}
use mathlib.Core.List.Memᴰ
use mathlib.Core.List.{List}
use lib.ListN.{set, length-set}
use Rattle.meaning.specs.Joins.{put, equation}
use Rattle.meaning.proofs.Log.{put-miss}
use Rattle.meaning.specs.Totals.{Idle}
use Rattle.meaning.specs.Limits.{most_records, most_tags}
use Rattle.table.specs.Map.{left_of, right_of, label_of, use_of, more_of, state_of, chain_of, wait_of, bucket_of, records_in, seen, Within}
use Rattle.table.proofs.Frame.{seen-in, seen-out, within-trans, within_wider, within-set, gather-in, uses-least, uses-most, mores-least, mores-most}
use Rattle.table_labels.proofs.Chain.{below}
use Rattle.table.proofs.Kept.{lefts, rights}
use Rattle.table.specs.Places.{BUCKETS, CHAIN, LABEL, Large, MORE, OTHER, Region, SHARES, USES, WAITS, behind_columns, behind_joins, file_part, more_at, plain, use_at}
use Rattle.all_index.specs.declared.Front.{Front}
use Rattle.all_index.specs.State.{eqn_at, key_at, found_in, Filing, Used, Queued, Indexed}
use Rattle.all_index.proofs.Filing.{more, more-found, uses-eq, uses-app}
use Rattle.all_index.proofs.Waiting.{queue-more, queue-put-app}
use Rattle.all_index.proofs.Views.{row-left, row-right, eqn-at, eqns, tags, keys-same, ress-same, wide, labels, keys, ress, uses, mores, store-frame, store-buckets, link-chains, link-waits, wait-chains, wait-waits}
use Rattle.all_join.specs.State.{Standing, Joining, Joined}
use Rattle.all_join.proofs.Standing.{standing-same}
use Rattle.all_settle.specs.State.{Level, Open}
use Rattle.all_settle.proofs.Views.{level-same, row_at}
use Rattle.all_close.specs.State.{front, Between, Entered, Equated, Admitted}
use Rattle.all_close.proofs.Moments.{standing-next}

-- The record of place i was put into the lists of one of its arguments, x.
pub record Stored (s : Bool) (x i p : ℕ) (w w' : List ℕ) : Type 0 where
  pub frame : Within behind_joins w w'
  pub label : label_of w' ≡ label_of w
  pub state : state_of w' ≡ state_of w
  pub bucket : bucket_of w' ≡ bucket_of w
  pub use' : use_of s w' ≡ put x (suc i) (use_of s w)
  pub more' : more_of s w' ≡ put i p (more_of s w)
  pub other-use : use_of (not s) w' ≡ use_of (not s) w
  pub other-more : more_of (not s) w' ≡ more_of (not s) w

-- What the two stores lie beside: the labels, the lists of the other argument, and all that begins behind the one and ends before the other.
beside-labels : (s : Bool) (i : ℕ) → i < most_records → (more_at s + i < LABEL.at) ⊎ (OTHER.at ≤ more_at s + i)
beside-labels true i l = inr (omega arith)
beside-labels false i l = inl (omega arith)

beside-mores : (s : Bool) (i : ℕ) → i < most_records → (more_at s + i < more_at (not s)) ⊎ (more_at (not s) + most_records ≤ more_at s + i)
beside-mores true i l = inr (omega arith)
beside-mores false i l = inl (omega arith)

beside-uses : (s : Bool) (x : ℕ) → x < most_tags → (use_at s + x < use_at (not s)) ⊎ (use_at (not s) + most_tags ≤ use_at s + x)
beside-uses true x l = inr (omega arith)
beside-uses false x l = inl (omega arith)

module _ (w : List ℕ) (long : Large w) (x i p : ℕ) (small : x < most_tags) (low : i < most_records) (s : Bool) where
  abbrev more-at : ℕ
  more-at = more_at s

  abbrev use-at : ℕ
  use-at = use_at s

  abbrev w₁ : List ℕ
  w₁ = set w (more-at + i) p

  aside : (r : Region) → (more-at + i < r.at) ⊎ (r.at + r.size ≤ more-at + i) → (use-at + x < r.at) ⊎ (r.at + r.size ≤ use-at + x) → seen r (set w₁ (use-at + x) (suc i)) ≡ seen r w
  aside r h k = seen-out r w₁ (use-at + x) (suc i) k ∙ seen-out r w (more-at + i) p h

  pub stored : (w' : List ℕ) → w' ≡ set (set w (more-at + i) p) (use-at + x) (i + 1) → Stored s x i p w w'
  stored w' e =
      let m₀ : MORE.at ≤ more-at = mores-least s in
      let m₁ : more-at ≤ OTHER.at = mores-most s in
      let u₀ : USES.at ≤ use-at = uses-least s in
      let u₁ : use-at ≤ SHARES.at = uses-most s in
      rw (e, add-one) (record {
        frame = within-trans (within-set behind_joins w (more-at + i) p (omega arith) (omega arith)) (within-set behind_joins w₁ (use-at + x) (suc i) (omega arith) (omega arith));
        label = aside LABEL (beside-labels s i low) (inr (omega arith));
        state = aside CHAIN (inl (omega arith)) (inr (omega arith));
        bucket = aside BUCKETS (inl (omega arith)) (inr (omega arith));
        use' = seen-in (plain use-at most_tags) w₁ x (suc i) small (omega (arith, length-set w (more-at + i) p)) ∙ ap (put x (suc i)) (seen-out (plain use-at most_tags) w (more-at + i) p (inl (omega arith)));
        more' = seen-out (plain more-at most_records) w₁ (use-at + x) (suc i) (inr (omega arith)) ∙ seen-in (plain more-at most_records) w i p low (omega arith);
        other-use = aside (plain (use_at (not s)) most_tags) (inl (omega (arith, uses-least (not s)))) (beside-uses s x small);
        other-more = aside (plain (more_at (not s)) most_records) (beside-mores s i low) (inr (omega (arith, mores-most (not s))));
      })

  -- The same, of the tag and the link as they were found.
  pub stored-as : (w' : List ℕ) (a q : ℕ) → a ≡ x → q ≡ p → w' ≡ set (set w (more-at + i) q) (use-at + a) (i + 1) → Stored s x i p w w'
  stored-as w' a q ea eq e = stored w' (rw (eq, ea) at e)

-- The place of a record that comes in.
pub next_low : {N len i : ℕ} {w : List ℕ} {n : ℕ} → Between N len i w n → i < len → i < most_records
next_low b low = omega (arith, b.standing.loaded.most)

-- .. and its tags.
pub next-left : {N len i : ℕ} {w : List ℕ} {n : ℕ} → Between N len i w n → i < len → left_of w (suc i) < most_tags
next-left {i = i} b low = omega (arith, row-left b.standing.loaded i low, b.standing.loaded.few)

pub next-right : {N len i : ℕ} {w : List ℕ} {n : ℕ} → Between N len i w n → i < len → right_of w (suc i) < most_tags
next-right {i = i} b low = omega (arith, row-right b.standing.loaded i low, b.standing.loaded.few)

-- It is counted.
pub counted-open : {t : Front} {w : List ℕ} {n i first : ℕ} → t.places ≡ suc i → Open (front t.size t.len (suc i)) w n first → Open t w n first
counted-open e o = rw (← e) at o

pub counted-entered : {t : Front} {w w' : List ℕ} {i n : ℕ} → t.places ≡ suc i → Entered (front t.size t.len (suc i)) w i n w' → Entered t w i n w'
counted-entered e h = record { frame = h.frame; state = counted-open e h.state; key = h.key; found = h.found }

pub counted-equated : {t : Front} {w w' : List ℕ} {i n n' first : ℕ} → t.places ≡ suc i → Equated (front t.size t.len (suc i)) w i n w' n' first → Equated t w i n w' n' first
counted-equated e h = record { frame = h.frame; state = counted-open e h.state; more = h.more; level = h.level }

open-counted : {t : Front} {w : List ℕ} {n i first : ℕ} → t.places ≡ suc i → Open t w n first → Open (front t.size t.len (suc i)) w n first
open-counted {t} {w} {n} {i} {first} e o = let z : Open (front t.size t.len t.places) w n first = o in rw e at z

-- The first that waits, as it is handed on.
pub open-from : {t : Front} {w : List ℕ} {n a b : ℕ} → a ≡ b → Open t w n b → Open t w n a
open-from e o = rw e o

-- An application comes in.
module _ {N len i : ℕ} {w : List ℕ} {n : ℕ} (b : Between N len i w n) (low : i < len) (app : eqn_at w i ≡ false) where
  most : i < most_records
  most = next_low b low

  pub entered : {w₁ w₂ w₃ : List ℕ} → Stored false (left_of w (suc i)) i (use_of false w (left_of w (suc i))) w w₁ → Stored true (right_of w (suc i)) i (use_of true w₁ (right_of w (suc i))) w₁ w₂ → w₃ ≡ set w₂ (CHAIN.at + i) (0 + WAITS)
      → Entered (front N len (suc i)) w i n w₃
  entered {w₁} {w₂} {w₃} s t e = record {
    frame = frame;
    state = record { standing = standing; indexed = record { filing = filing; queue = queue; uses = used }; level = level };
    key = same_key;
    found = let z : found_in w₃ (key_at w i) ≡ found_in w (key_at w i) = rw (same_keys, buckets, chains) (more-found b.indexed.filing.filed 0 (key_at w i)) in ap (found_in w₃) same_key ∙ z;
  }
    where
      long : Large w₂
      long = omega (arith, b.standing.loaded.long, s.frame.size, t.frame.size)

      last : Within file_part w₂ w₃
      last = store-frame w₂ w₃ i (0 + WAITS) long most e

      narrow : Within behind_joins w w₃
      narrow = within-trans (within-trans s.frame t.frame) (within_wider behind_joins (omega arith) (omega arith) last)

      frame : Within behind_columns w w₃
      frame = within_wider behind_columns (omega arith) (omega arith) narrow

      label : label_of w₃ ≡ label_of w
      label = labels last ∙ t.label ∙ s.label

      state : state_of w₂ ≡ state_of w
      state = t.state ∙ s.state

      chains : chain_of w₃ ≡ put i 0 (chain_of w)
      chains = wait-chains w₂ w₃ i 0 long most e ∙ ap (put i 0) (fun_ext (λ r. rw state))

      waits : wait_of w₃ ≡ put i 0 (wait_of w)
      waits = wait-waits w₂ w₃ i 0 long most e ∙ ap (put i 0) (fun_ext (λ r. rw state))

      buckets : bucket_of w₃ ≡ bucket_of w
      buckets = store-buckets w₂ w₃ i (0 + WAITS) long most e ∙ t.bucket ∙ s.bucket

      same_keys : key_at w₃ ≡ key_at w
      same_keys = keys-same frame label

      same_key : key_at w₃ i ≡ key_at w i
      same_key = ap (λ (k : ℕ → ℕ). k i) same_keys

      standing : Standing (front N len (suc i)) w₃ n
      standing = standing-same narrow label (standing-next b low)

      filing : Filing (front N len (suc i)) w₃
      filing = record { loaded = standing.loaded; reach = low; filed = rw (eqns frame, same_keys, ress-same frame label, buckets, chains) (more b.indexed.filing.filed 0 (omega arith) (inl refl)) }

      queue : Queued (front N len (suc i)) w₃ (suc i)
      queue = rw (eqns frame, chains, waits) (queue-put-app 0 app b.indexed.queue)

      used : (c : Bool) → Used c (suc i) w₃
      used false = rw (eqns frame, tags frame false, uses last false, mores last false, t.other-use, t.other-more, s.use', s.more') (uses-app (b.indexed.uses false) app)
      used true = rw (eqns frame, tags frame true, uses last true, mores last true, t.use', t.more', s.other-use, s.other-more) (uses-app (b.indexed.uses true) app)

      level : Level (suc i) w₃
      level = level-same frame (λ x y q. rw label q) (below (λ j. eqn_at w j ≡ true → label_of w (left_of w (suc j)) ≡ label_of w (right_of w (suc j))) i b.level (λ q. let z : ◌≡◌ {A = ℕ} 0 1 = cc app in absurd (omega arith)))

-- An equation whose labels differ.
pub equate-due : {N len i : ℕ} {w : List ℕ} {n first : ℕ} → Standing (front N len (suc i)) w n → Indexed (front N len (suc i)) w first → i < len → eqn_at w i ≡ true
    → (a b : ℕ) → a ≡ label_of w (left_of w (suc i)) → b ≡ label_of w (right_of w (suc i)) → a ≢ b → Joining (front N len (suc i)) w n first (suc i) 0 a b
equate-due {i = i} s x l q a b ea eb d = record {
  standing = s;
  indexed = x;
  some = omega arith;
  due = record {
    tags = (row-left s.loaded i l, row-right s.loaded i l);
    grounds = equation (rw q at (row_at s.loaded i l));
    within = λ m h. rw (Memᴰ.eq_of_singleton h) (gather-in suc (suc i) i (omega arith));
  };
  apart = d;
  ends = inl (sym ea, sym eb);
}

halves : (x a b : ℕ) → x ≡ a * 65536 + b → a < most_tags → b < most_tags → (x / 65536 ≡ a) × (x % 65536 ≡ b) × (x / 65536 < 65536)
halves x a b e l k = (omega arith, omega arith, omega arith)

-- An equation comes in.
module _ {N len i : ℕ} {w : List ℕ} {n : ℕ} (b : Between N len i w n) (low : i < len) (eqn : eqn_at w i ≡ true) (w' : List ℕ) (e : w' ≡ set w (CHAIN.at + i) (0 + 1)) where
  most-eqn : i < most_records
  most-eqn = next_low b low

  pub equate-chain : Within file_part w w'
  equate-chain = store-frame w w' i (0 + 1) b.standing.loaded.long most-eqn e

  narrow : Within behind_joins w w'
  narrow = within_wider behind_joins (omega arith) (omega arith) equate-chain

  pub equate-standing : Standing (front N len (suc i)) w' n
  equate-standing = standing-same narrow (labels equate-chain) (standing-next b low)

  -- Its labels, as the two halves of one number.
  pub equate-key : (x : ℕ) → x ≡ key_at w' i → (x / 65536 ≡ label_of w' (left_of w' (suc i))) × (x % 65536 ≡ label_of w' (right_of w' (suc i))) × (x / 65536 < 65536)
  equate-key x e =
      let s = equate-standing in
      let a : label_of w' (left_of w' (suc i)) < most_tags = omega (arith, s.marks.low (left_of w' (suc i)) (row-left s.loaded i low), s.loaded.few) in
      let b : label_of w' (right_of w' (suc i)) < most_tags = omega (arith, s.marks.low (right_of w' (suc i)) (row-right s.loaded i low), s.loaded.few) in
      halves x (label_of w' (left_of w' (suc i))) (label_of w' (right_of w' (suc i))) e a b

  chains : chain_of w' ≡ put i 1 (chain_of w)
  chains = link-chains w w' i 0 b.standing.loaded.long most-eqn (omega arith) e

  waits : (r : ℕ) → r ≢ i → wait_of w' r ≡ wait_of w r
  waits = link-waits w w' i 0 b.standing.loaded.long most-eqn (omega arith) e

  buckets : bucket_of w' ≡ bucket_of w
  buckets = store-buckets w w' i (0 + 1) b.standing.loaded.long most-eqn e

  same-eqn : eqn_at w' i ≡ true
  same-eqn = eqn-at (wide equate-chain) i ∙ eqn

  same-chain : (r : ℕ) → r < i → (chain_of w' r ≡ chain_of w r) × (wait_of w' r ≡ wait_of w r)
  same-chain r l = (ap (λ (g : ℕ → ℕ). g r) chains ∙ put-miss i 1 (chain_of w) r (omega arith), waits r (omega arith))

  pub equate-indexed : Indexed (front N len (suc i)) w' 0
  equate-indexed = record {
    filing = record { loaded = equate-standing.loaded; reach = low; filed = rw (eqns (wide equate-chain), keys equate-chain, ress equate-chain, buckets, chains) (more b.indexed.filing.filed 1 (omega arith) (inr eqn)) };
    queue = rw (eqns (wide equate-chain)) (queue-more (chain_of w') (wait_of w') same-chain eqn b.indexed.queue);
    uses = λ c. rw (eqns (wide equate-chain), tags (wide equate-chain) c, uses equate-chain c, mores equate-chain c) (uses-eq (b.indexed.uses c) eqn);
  }

  level : Level i w'
  level = level-same (wide equate-chain) (λ x y q. rw (labels equate-chain) q) b.level

  -- The labels are those it had before.
  labels-were : (label_of w' (left_of w' (suc i)) ≡ label_of w (left_of w (suc i))) × (label_of w' (right_of w' (suc i)) ≡ label_of w (right_of w (suc i)))
  labels-were = rw (labels equate-chain, lefts (wide equate-chain), rights (wide equate-chain)) (refl, refl)

  pub equate-stay : label_of w' (left_of w' (suc i)) ≡ label_of w' (right_of w' (suc i)) → Equated (front N len (suc i)) w i n w' n 0
  equate-stay q = record {
    frame = wide equate-chain;
    state = record {
      standing = equate-standing;
      indexed = equate-indexed;
      level = below (λ j. eqn_at w' j ≡ true → label_of w' (left_of w' (suc j)) ≡ label_of w' (right_of w' (suc j))) i level (λ _. q);
    };
    more = omega arith;
    level = (λ _. sym labels-were.0 ∙ q ∙ labels-were.1, λ _. refl);
  }

  -- Its number, and how many are in then, as they were handed on.
  pub equate-joining : (m k x y : ℕ) → m ≡ suc i → k ≡ suc i → x ≡ label_of w' (left_of w' (suc i)) → y ≡ label_of w' (right_of w' (suc i)) → x ≢ y → Joining (front N len m) w' n 0 k 0 x y
  equate-joining m k x y em ek ex ey d = rw (em, ek) (equate-due equate-standing equate-indexed low same-eqn x y ex ey d)

  pub equate-joined : {m x y first : ℕ} {w'' : List ℕ} → m ≡ suc i → x ≡ label_of w' (left_of w' (suc i)) → y ≡ label_of w' (right_of w' (suc i)) → x ≢ y → Joined (front N len m) w' n x y w'' first
      → Equated (front N len (suc i)) w i n w'' (n + 1) first
  equate-joined {m} {x} {y} {first} {w''} em p q d J₀ = let J : Joined (front N len (suc i)) w' n x y w'' first = rw em at J₀ in record {
    frame = within-trans (wide equate-chain) J.frame;
    state = rw add-one (record {
      standing = J.standing;
      indexed = J.indexed;
      level = below (λ j. eqn_at w'' j ≡ true → label_of w'' (left_of w'' (suc j)) ≡ label_of w'' (right_of w'' (suc j))) i (level-same J.frame J.same level)
          (λ _. rw (lefts J.frame, rights J.frame) (J.ends (left_of w' (suc i)) (right_of w' (suc i)) (sym p) (sym q)));
    });
    more = omega arith;
    level = (λ e. absurd (omega arith), λ e. absurd (d (p ∙ labels-were.0 ∙ e ∙ sym labels-were.1 ∙ sym q)));
  }

-- A record is in, and none waits any more.
pub admitted : {t : Front} {i n n' n'' : ℕ} {w w' w'' : List ℕ} {idle : Bool} → t.places ≡ suc i → Within behind_columns w w' → n ≤ n' → Within behind_columns w' w'' → Open t w'' n'' 0 → n' ≤ n''
    → (idle ≡ true) ↔ Idle (records_in t.len w) i → Admitted t.size t.len i w n w'' n'' idle
admitted e f a g o b d = record { frame = within-trans f g; between = open-counted e o; more = omega (arith, a, b); idles = d }
