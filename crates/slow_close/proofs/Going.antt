-- One pass over all records, by what holds of the table. Assumes nothing.
use Prim.Native.Nat.{ℕ, suc, ◌+◌, ◌-◌, ◌*◌, ◌%◌, ◌≤◌, ◌<◌}
use native.Mathlib.Omega.{arith}
use native.Mathlib.Numerals.{add-one}
use mathlib.Core.Path.{◌≡◌, refl, sym, ap, ap₂, ◌∙◌, fun_ext, subst}
use mathlib.Core.Logic.{◌⊎◌, inl, inr}
use mathlib.Core.Bool.{Bool, true, false, true≢false}
use mathlib.Core.List.{List}
use lib.ListN.{length, set}
use Rattle.meaning.specs.Following.{Rec, eq, app}
use Rattle.meaning.specs.Labels.{Labels}
use Rattle.meaning.specs.Limits.{most_records, most_tags}
use Rattle.meaning.specs.Joins.{put}
use Rattle.table.specs.Map.{left_of, right_of, result_of, label_of, saved_of, next_of, head_of, rec_at, records_in, Loaded, Within}
use Rattle.table.specs.Places.{HEADS, LABEL, Large, NEXT, PARENT, SAVED, chain_part, from_to, head_count}
use Rattle.table.proofs.Frame.{seen-within, within_wider, length-gather}
use Rattle.table.proofs.Kept.{lefts, rights, results, loaded-same, records-same}
use Rattle.table_labels.specs.Chain.{look}
use Rattle.table_labels.specs.Parts.{Own}
use Rattle.table_labels.proofs.Chain.{below}
use Rattle.table_labels.proofs.Rows.{at-rec, eq-parts, app-parts, split-key}
use Rattle.slow_passes.specs.Passes.{flip, chain, held, given, together, After}
use Rattle.slow_passes.proofs.Passes.{Exact, pass-least}
use Rattle.slow_chain.specs.Chain.{Filled}
use Rattle.slow_chain.specs.Parts.{Cleared}
use Rattle.slow_chain.specs.Places.{eqn_of, key_of, link_in, Finding}
use Rattle.slow_chain.proofs.Chain.{chains-none, filled_none, chains-up, look_hit, filled-pass, filled-skip, chains-insert, filled-insert}
use Rattle.slow_chain.proofs.Views.{put-frame, put-heads, put-nexts}
use Rattle.slow_chain.proofs.Rows.{row-left, row-right, row-result, row_at}
use Rattle.slow_close.specs.Closing.{pass_part, All, NewMet, Frozen, new_res, Going, Stepping, Unifying, Stepped, Turning, PassDone}

-- What is written behind the labels leaves what a pass reads.
module _ {e : ℕ} {w w' : List ℕ} (f : Within (from_to NEXT.at e) w w') where
  columns : Within (from_to PARENT.at e) w w'
  columns = within_wider (from_to PARENT.at e) (omega arith) (omega arith) f

  label : label_of w' ≡ label_of w
  label = seen-within LABEL f (inl (omega arith))

  pub all_same : (len : ℕ) → All len w' ≡ All len w
  all_same len = rw (records-same columns len)

  pub frozen_same : {N len n : ℕ} → Frozen N len n w → Frozen N len n w'
  frozen_same {N} {len} {n} h = record {
    loaded = loaded-same columns h.loaded;
    labels = rw label h.labels;
    own = rw label h.own;
    exact = rw (all_same len, label) h.exact;
  }

  eqns : eqn_of w' ≡ eqn_of w
  eqns = fun_ext (λ j. rw (results columns))

  keys : key_of w' ≡ key_of w
  keys = fun_ext (λ j. rw (lefts columns, rights columns, label))

-- Where two new labels met.
module _ {N len n i : ℕ} {w w' : List ℕ} {x y : ℕ} {joined : Bool} (s : Stepping N len n w i) (m : NewMet w w' N x y joined) (p : After (All len w) (suc n) x y) where
  abbrev g : Going N len n w i
  g = s.going

  f : Within pass_part w w'
  f = within_wider pass_part (omega arith) (omega arith) m.frame

  heads : head_of w' ≡ head_of w
  heads = seen-within HEADS m.frame (inl (omega arith))

  nexts : next_of w' ≡ next_of w
  nexts = seen-within NEXT m.frame (inl (omega arith))

  -- The new labels of results, where they were equal.
  res-more : (j k : ℕ) → new_res w j ≡ new_res w k → new_res w' j ≡ new_res w' k
  res-more j k q = rw (results (columns f)) (m.united.keeps _ _ q)

  more-filled : Filled head_count (eqn_of w) (key_of w) (new_res w) (head_of w) (next_of w) i → Filled head_count (eqn_of w) (key_of w) (new_res w') (head_of w) (next_of w) i
  more-filled h = record { found = h.found; agree = λ j l q. res-more _ _ (h.agree j l q) }

  sound : (a b : ℕ) → (saved_of w a ≡ saved_of w b) ⊎ (((saved_of w a ≡ saved_of w x) × (saved_of w b ≡ saved_of w y)) ⊎ ((saved_of w a ≡ saved_of w y) × (saved_of w b ≡ saved_of w x))) → After (All len w) (suc n) a b
  sound a b (inl q) = g.sound a b q
  sound a b (inr (inl q)) = chain (g.sound a x q.0) (chain p (flip (g.sound b y q.1)))
  sound a b (inr (inr q)) = chain (g.sound a y q.0) (chain (flip p) (flip (g.sound b x q.1)))

  equal-more : (j : ℕ) → j < i → eqn_of w j ≡ true → saved_of w' (left_of w (suc j)) ≡ saved_of w' (right_of w (suc j))
  equal-more j l q = m.united.keeps _ _ (g.equal j l q)

  going-met : Filled head_count (eqn_of w) (key_of w) (new_res w') (head_of w) (next_of w) (suc i)
      → (eqn_of w i ≡ true → saved_of w' (left_of w (suc i)) ≡ saved_of w' (right_of w (suc i))) → Going N len n w' (suc i)
  going-met h e = record {
    frozen = frozen_same f g.frozen;
    labels = m.united.labels;
    own = m.own;
    keeps = λ a b q. m.united.keeps a b (g.keeps a b (rw (label f) at q));
    sound = λ a b q. subst (λ (S : Rec → Type 0). After S (suc n) a b) (sym (all_same f len)) (sound a b (m.united.only a b q));
    chains = rw (eqns f, heads, nexts) (chains-up (omega arith) g.chains);
    filled = rw (eqns f, keys f, heads, nexts) h;
    equal = rw (lefts (columns f), rights (columns f), results (columns f)) (below (λ j. eqn_of w j ≡ true → saved_of w' (left_of w (suc j)) ≡ saved_of w' (right_of w (suc j))) i equal-more e);
  }

  stepped-met : Going N len n w' (suc i) → Stepped N len n w i w' joined
  stepped-met h = record {
    going = h;
    kept = f;
    level = λ q. rw (m.level q);
    moved = λ q. record { one = x; other = y; together = p; apart = λ r. m.apart q (g.keeps x y ((g.frozen.exact x y).0 r)) };
  }

  pub stepped-eq : eqn_of w i ≡ true → x ≡ left_of w (suc i) → y ≡ right_of w (suc i) → Stepped N len n w i w' joined
  stepped-eq q ex ey = stepped-met (going-met (filled-pass head_count (eqn_of w) (key_of w) (new_res w') (head_of w) (next_of w) i g.chains q (more-filled g.filled))
      (λ _. rw (← ex, ← ey) m.united.ends))

  pub stepped-app : eqn_of w i ≡ false → (k : ℕ) → k ≡ look head_count (key_of w) (head_of w) (next_of w) (key_of w i) → 0 < k → x ≡ result_of w (suc (k - 1)) → y ≡ result_of w (suc i) → Stepped N len n w i w' joined
  stepped-app q k ek l ex ey = stepped-met (going-met
      (filled-skip head_count (eqn_of w) (key_of w) (new_res w') (head_of w) (next_of w) i g.chains (rw ek at l)
      (rw (← ek, results (columns f), ← ex, ← ey) m.united.ends) (more-filled g.filled))
      (λ r. absurd (true≢false (sym r ∙ q))))

-- An application that is not found goes into the chains.
module _ {N len n i : ℕ} {w w' : List ℕ} (s : Stepping N len n w i) (q : eqn_of w i ≡ false) (z : look head_count (key_of w) (head_of w) (next_of w) (key_of w i) ≡ 0)
    (e : w' ≡ set (set w (NEXT.at + i) (head_of w (key_of w i % head_count))) (HEADS.at + key_of w i % head_count) (i + 1)) where
  room : i < most_records
  room = omega (arith, s.place, s.going.frozen.loaded.most)

  fi : Within chain_part w w'
  fi = put-frame w w' i (key_of w i % head_count) s.going.frozen.loaded.long room (omega arith) e

  fo : Within pass_part w w'
  fo = within_wider pass_part (omega arith) (omega arith) fi

  in-heads : head_of w' ≡ put (key_of w i % head_count) (suc i) (head_of w)
  in-heads = put-heads w w' i (key_of w i % head_count) s.going.frozen.loaded.long room (omega arith) e

  in-nexts : next_of w' ≡ put i (head_of w (key_of w i % head_count)) (next_of w)
  in-nexts = put-nexts w w' i (key_of w i % head_count) s.going.frozen.loaded.long room (omega arith) e

  saved : saved_of w' ≡ saved_of w
  saved = seen-within SAVED fi (inr (omega arith))

  ress : new_res w' ≡ new_res w
  ress = fun_ext (λ j. rw (results (columns fi), saved))

  pub stepped-new : Stepped N len n w i w' false
  stepped-new = let g = s.going in record {
    going = record {
      frozen = frozen_same fi g.frozen;
      labels = rw saved g.labels;
      own = rw saved g.own;
      keeps = rw (label fi, saved) g.keeps;
      sound = subst (λ (S : Rec → Type 0). (x y : ℕ) → saved_of w' x ≡ saved_of w' y → After S (suc n) x y) (sym (all_same fi len)) (rw saved g.sound);
      chains = rw (eqns fi, in-heads, in-nexts) (chains-insert head_count (eqn_of w) (key_of w) (new_res w) (head_of w) (next_of w) i g.chains q);
      filled = rw (eqns fi, keys fi, ress, in-heads, in-nexts) (filled-insert head_count (eqn_of w) (key_of w) (new_res w) (head_of w) (next_of w) i g.chains q z g.filled);
      equal = rw (lefts (columns fi), rights (columns fi), results (columns fi), saved) (below (λ j. eqn_of w j ≡ true → saved_of w (left_of w (suc j)) ≡ saved_of w (right_of w (suc j))) i g.equal (λ r. absurd (true≢false (sym r ∙ q))));
    };
    kept = fo;
    level = λ _. saved;
    moved = λ r. absurd (true≢false (sym r));
  }

-- What a record asks for belongs to the pass.
module _ {N len n i : ℕ} {w : List ℕ} (s : Stepping N len n w i) where
  abbrev h : Frozen N len n w
  h = s.going.frozen

  long-in : length (records_in len w) ≡ len
  long-in = length-gather (λ k. rec_at w (suc k)) len

  in_all : (j : ℕ) → j < len → {r : Rec} → rec_at w (suc j) ≡ r → All len w r
  in_all j l e = (suc j, omega (arith, long-in), rw e at (row_at h.loaded j l))

  pub asks-eq : eqn_of w i ≡ true → After (All len w) (suc n) (left_of w (suc i)) (right_of w (suc i))
  asks-eq q = let a : All len w (eq (left_of w (suc i)) (right_of w (suc i))) = in_all i s.place (rw q) in given a

  pub finding : Finding N len w i
  finding = record { loaded = h.loaded; place = s.place; heads = s.going.chains.heads; falls = s.going.chains.falls }

  module _ (q : eqn_of w i ≡ false) (k : ℕ) (ek : k ≡ look head_count (key_of w) (head_of w) (next_of w) (key_of w i)) (l : 0 < k) where
    hit : (key_of w (k - 1) ≡ key_of w i) × ((k ≤ i) × (eqn_of w (k - 1) ≡ false))
    hit = rw ek (look_hit head_count (eqn_of w) (key_of w) (new_res w) (head_of w) (next_of w) i s.going.chains (key_of w i) (rw ek at l))

    pub found-low : k - 1 < len
    found-low = omega (arith, hit.1.0, s.place)

    pub found-app : eqn_of w (k - 1) ≡ false
    found-app = hit.1.1

    right-fits : (j : ℕ) → j < len → label_of w (right_of w (suc j)) < 65536
    right-fits j m = omega (arith, h.labels.low (right_of w (suc j)), row-right h.loaded j m, h.loaded.few)

    args : (label_of w (left_of w (suc (k - 1))) ≡ label_of w (left_of w (suc i))) × (label_of w (right_of w (suc (k - 1))) ≡ label_of w (right_of w (suc i)))
    args = split-key (label_of w (left_of w (suc (k - 1)))) (label_of w (right_of w (suc (k - 1)))) (label_of w (left_of w (suc i))) (label_of w (right_of w (suc i)))
        (right-fits (k - 1) found-low) (right-fits i s.place) hit.0

    pub asks-app : After (All len w) (suc n) (result_of w (suc (k - 1))) (result_of w (suc i))
    asks-app =
        let a : All len w (app (left_of w (suc (k - 1))) (right_of w (suc (k - 1))) (result_of w (suc (k - 1)))) = in_all (k - 1) found-low (rw found-app) in
        let b : All len w (app (left_of w (suc i)) (right_of w (suc i)) (result_of w (suc i))) = in_all i s.place (rw q) in
        together a b ((h.exact _ _).1 args.0) ((h.exact _ _).1 args.1)

-- All records have been met.
module _ {N len n : ℕ} {w : List ℕ} (g : Going N len n w len) where
  abbrev fz : Frozen N len n w
  fz = g.frozen

  place_of : {r : Rec} → (i : All len w r) → (j : ℕ) × (j < len) × (rec_at w (suc j) ≡ r)
  place_of {r = r} i =
      let l : i.2.place < len = rw (length-gather (λ k. rec_at w (suc k)) len) at i.2.stands in
      (i.2.place, l, rw (← i.2.number) (at-rec len w i.0 r i.2))

  abbrev own-result : ℕ → ℕ → ℕ
  own-result x y = new_res w (look head_count (key_of w) (head_of w) (next_of w) (x * 65536 + y) - 1)

  equations : (a b : ℕ) → All len w (eq a b) → saved_of w a ≡ saved_of w b
  equations a b i =
      let r = place_of i in
      let j = r.0 in
      let p = eq-parts (eqn_of w j) (left_of w (suc j)) (right_of w (suc j)) (result_of w (suc j)) a b r.2 in
      ap (saved_of w) (sym p.1) ∙ g.equal j r.1 p.0 ∙ ap (saved_of w) p.2

  outcome : (a b c : ℕ) → All len w (app a b c) → saved_of w c ≡ own-result (label_of w a) (label_of w b)
  outcome a b c i =
      let r = place_of i in
      let j = r.0 in
      let p = app-parts (eqn_of w j) (left_of w (suc j)) (right_of w (suc j)) (result_of w (suc j)) a b c r.2 in
      ap (saved_of w) (sym p.1.1) ∙ sym (g.filled.agree j r.1 p.0.0) ∙ ap₂ (λ (x y : ℕ). own-result (label_of w x) (label_of w y)) p.0.1 p.1.0

  pub pass-exact : Exact (After (All len w) (suc n)) (saved_of w)
  pass-exact x y = (
    λ h. pass-least {E = λ s t. saved_of w s ≡ saved_of w t} (record {
      reflexive = refl;
      symmetric = sym;
      transitive = ◌∙◌;
      present = λ r. g.keeps _ _ ((fz.exact _ _).0 r);
      equations = λ i. equations _ _ i;
      results = λ {a} {b} {c} {a'} {b'} {c'} i j r r'. outcome a b c i ∙ ap₂ own-result ((fz.exact a a').0 r) ((fz.exact b b').0 r') ∙ sym (outcome a' b' c' j);
    }) h,
    g.sound x y,
  )

-- A pass begins with the new labels as the old, and no chains.
pub turning-none : {N len n : ℕ} {w w' : List ℕ} → Frozen N len n w → saved_of w ≡ label_of w → Cleared w w' → Turning N len n w' 0 false
turning-none {N} {len} {n} {w} {w'} h e c = record {
  going = record {
    frozen = z;
    labels = rw q z.labels;
    own = rw q z.own;
    keeps = λ x y k. rw q k;
    sound = λ x y k. held ((z.exact x y).1 (rw q at k));
    chains = chains-none (eqn_of w') (head_of w') (next_of w') c.heads c.nexts;
    filled = filled_none head_count (eqn_of w') (key_of w') (new_res w') (head_of w') (next_of w');
    equal = λ j l. absurd (omega arith);
  };
  still = λ _. q;
  moved = λ r. absurd (true≢false (sym r));
}
  where
    z : Frozen N len n w'
    z = frozen_same c.frame h

    q : saved_of w' ≡ label_of w'
    q = seen-within SAVED c.frame (inr (omega arith)) ∙ e ∙ sym (label c.frame)

pub turning-step : {N len n i : ℕ} {w w' : List ℕ} {joined r next : Bool} → Turning N len n w i joined → Stepped N len n w i w' r → ((r ≡ true) × (next ≡ true)) ⊎ ((r ≡ false) × (next ≡ joined)) → Turning N len n w' (i + 1) next
turning-step {N} {len} {n} {i} {w} {w'} {joined} {r} {next} t s c = rw add-one (go c)
  where
    go : ((r ≡ true) × (next ≡ true)) ⊎ ((r ≡ false) × (next ≡ joined)) → Turning N len n w' (suc i) next
    go (inl h) = record { going = s.going; still = λ q. absurd (true≢false (sym h.1 ∙ q)); moved = λ _. rw (all_same s.kept len) (s.moved h.0) }
    go (inr h) = record {
      going = s.going;
      still = λ q. s.level h.0 ∙ t.still (sym h.1 ∙ q) ∙ sym (label s.kept);
      moved = λ q. rw (all_same s.kept len) (t.moved (sym h.1 ∙ q));
    }

pub pass-done : {N len n : ℕ} {w w' : List ℕ} {joined : Bool} → Within pass_part w w' → Turning N len n w' len joined → PassDone N len n w w' joined
pass-done f t = let g = t.going in record { kept = f; frozen = g.frozen; labels = g.labels; own = g.own; exact = pass-exact g; still = t.still; moved = t.moved }

-- What meeting two tags asks.
pub new-asks : {N len n i : ℕ} {w : List ℕ} {x y : ℕ} → Stepping N len n w i → x < N → y < N → Large w × (N ≤ most_tags) × (x < N) × (y < N) × Labels (saved_of w) × Own N (saved_of w)
new-asks s a b = let g = s.going in let l = g.frozen.loaded in (l.long, l.few, a, b, g.labels, g.own)

module _ {N len n i : ℕ} {w : List ℕ} (s : Stepping N len n w i) where
  abbrev ls : Loaded N len w
  ls = s.going.frozen.loaded

  -- The equation, with its tags as they were read.
  module _ (q : eqn_of w i ≡ true) {k x y : ℕ} (ek : k ≡ suc i) (ex : x ≡ left_of w k) (ey : y ≡ right_of w k) where
    left : x ≡ left_of w (suc i)
    left = ex ∙ ap (left_of w) ek

    right : y ≡ right_of w (suc i)
    right = ey ∙ ap (right_of w) ek

    pub equate-asks : Large w × (N ≤ most_tags) × (x < N) × (y < N) × Labels (saved_of w) × Own N (saved_of w)
    equate-asks = new-asks s (rw left (row-left ls i s.place)) (rw right (row-right ls i s.place))

    pub equate-done : {w' : List ℕ} {j : Bool} → NewMet w w' N x y j → Stepped N len n w i w' j
    equate-done m = stepped-eq s m (rw (left, right) (asks-eq s q)) q left right

module _ {N len n p i : ℕ} {w : List ℕ} (u : Unifying N len n w p i) where
  abbrev st : Stepping N len n w i
  st = u.step

  abbrev lu : Loaded N len w
  lu = st.going.frozen.loaded

  pub unify-low : p - 1 < len
  unify-low = found-low st u.app p u.found u.hit

  module _ {k k' x y : ℕ} (ek : k ≡ suc (p - 1)) (ek' : k' ≡ suc i) (ex : x ≡ result_of w k) (ey : y ≡ result_of w k') where
    one : x ≡ result_of w (suc (p - 1))
    one = ex ∙ ap (result_of w) ek

    two : y ≡ result_of w (suc i)
    two = ey ∙ ap (result_of w) ek'

    pub unify-asks : Large w × (N ≤ most_tags) × (x < N) × (y < N) × Labels (saved_of w) × Own N (saved_of w)
    unify-asks = new-asks st (rw one (row-result lu (p - 1) unify-low (found-app st u.app p u.found u.hit))) (rw two (row-result lu i st.place u.app))

    pub unify-done : {w' : List ℕ} {j : Bool} → NewMet w w' N x y j → Stepped N len n w i w' j
    unify-done m = stepped-app st m (rw (one, two) (asks-app st u.app p u.found u.hit)) u.app p u.found u.hit one two

-- What was not found goes into the chains, with the bucket and the link as they were found.
pub apply-insert : {N len n i : ℕ} {w : List ℕ} → Stepping N len n w i → eqn_of w i ≡ false → (w' : List ℕ) (b p : ℕ) → b ≡ key_of w i % head_count → p ≡ link_in w i → p ≡ 0
    → w' ≡ set (set w (NEXT.at + i) (head_of w b)) (HEADS.at + b) (i + 1) → Stepped N len n w i w' false
apply-insert s q w' b p eb ep z e = stepped-new s q (sym ep ∙ z) (rw eb at e)

-- What `insert` asks.
pub found-room : {N len n i : ℕ} {w : List ℕ} → Stepping N len n w i → (b : ℕ) → b ≡ key_of w i % head_count → Large w × (b < head_count) × (i < most_records) × (head_of w b ≤ most_records)
found-room {i = i} s b e =
    let h = s.going.frozen.loaded in
    let short : i < most_records = omega (arith, s.place, h.most) in
    (h.long, omega (arith, e), short, omega (arith, s.going.chains.heads b))
